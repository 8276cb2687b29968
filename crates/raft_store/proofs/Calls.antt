-- What a storage's calls meet, where they may have failed, and what is noted of them.
use Rattle.std.proofs.Common.{◌≡◌, inr, ℕ, Bool, true, false, eqb, List, [], ◌∷◌, Option, None, Ok, Err, IfErr, IfSome, OnErr, OnOk, refl, sym, subst, ◌∙◌, eq-eqb, eqb-true}
use Rattle.std.specs.Prelude.{Result, option_and_then}
use Rattle.std.specs.Result.{result_err}
use Rattle.raft_group_step.specs.StoredGroup.{StoredGroup, StoringCommand, after_storing}
use Rattle.raft_group_storage.specs.Keeping.{FailsAnyhow, KeepsAll, KeepsOthers, MayStore, Stores}
use Rattle.raft_log_memtables.specs.Content.{Content}
use Rattle.raft_content_log.specs.Leaving.{Leaves}
use Rattle.raft_machines.specs.Machine.{MachineRules}
use Rattle.raft_store.specs.Batches.{MayHaveStored, ShowsBy}
use Rattle.raft_store.specs.Faults.{IsLogOrMemory, IsNoMisuse, IsUsedWell, Meets, log_fault, noted_after}
use Rattle.raft_store.specs.Storable.{FailsBy, IsStorable, fails_anyhow}
use Rattle.raft_store.specs.declared.fault.StoreFault.{StoreFault}
use Rattle.raft_store.specs.declared.fault.StoreFault.TheVariants.{Log, Refused}
use Rattle.raft_store.specs.declared.fault.StoreRefusal.{StoreRefusal}
use Rattle.raft_store.specs.declared.fault.StoreRefusal.TheVariants as refusal
use Rattle.raft_store.specs.declared.recent.Recent.{Recent}

-- ---- each group

here_or_elsewhere : (group : ℕ) (P : ℕ → Type 0) → P group → ((other : ℕ) → (other ≡ group → ⊥) → P other) → (other : ℕ) → P other
here_or_elsewhere group P here elsewhere other = go (eqb other group) refl
  where
    go : (b : Bool) → eqb other group ≡ b → P other
    go true is = subst P (sym (eqb-true other group is)) here
    go false is = elsewhere other (λ same. let yes = eq-eqb other group same in absurd cc)

no_misuse : {T F : Type 0} (misuse : F → Type 0) (r : Result T (StoreFault F)) → IfErr r (IsLogOrMemory misuse) → IfErr r (IsNoMisuse misuse)
no_misuse misuse (Ok v) cause = tt
no_misuse misuse (Err (Log fault)) cause = cause
no_misuse misuse (Err (Refused refused)) cause = tt

-- ---- what calls meet

module _ {X F : Type 0} (sound : X → Type 0) (answers : X → Content (List ℕ)) (leaves : X → Leaves) (misuse : F → Type 0) (old new : X) (recent_old recent_new : Option Recent) where
  -- a store shows one part of the group, for some machine
  abbrev Shows : X → Option Recent → ℕ → Type 0
  Shows log recent group = (rules : MachineRules) × (s : StoredGroup) × ShowsBy rules sound answers leaves log recent group (s ∷ [])

  abbrev UsedBefore : Type 0
  UsedBefore = IsUsedWell sound answers leaves old recent_old

  abbrev UsedAfter : Type 0
  UsedAfter = IsUsedWell sound answers leaves new recent_new

  -- a call that keeps one part of each group, and misuses nothing
  call_meets : {T : Type 0} (log_meets : Option F → Type 0) (before after : Option StoreRefusal) (cleaning : Bool) (r : Result T (StoreFault F))
      → log_meets (option_and_then log_fault (result_err r)) → after ≡ noted_after before (result_err r)
      → (UsedBefore → OnOk r UsedAfter) → (UsedBefore → IfErr r (IsNoMisuse misuse))
      → Meets log_meets misuse UsedBefore UsedAfter after cleaning (result_err r)
  call_meets log_meets before after cleaning (Ok v) met noted used fits = record { log = met; noted = tt; used_well = used }
  call_meets log_meets before after cleaning (Err (Log fault)) met noted used fits = record { log = met; noted = tt; used_well = λ is. inr (fits is) }
  call_meets log_meets before after cleaning (Err (Refused refused)) met noted used fits = record { log = met; noted = inr noted; used_well = λ is. tt }

  -- each group's part, where the call stored in one
  stored_each : {T E : Type 0} (group : ℕ) (r : Result T E) → ((rules : MachineRules) → KeepsOthers (ShowsBy rules sound answers leaves old recent_old) (ShowsBy rules sound answers leaves new recent_new) group)
      → UsedBefore → OnOk r (sound new) → OnOk r (Shows new recent_new group) → OnOk r UsedAfter
  stored_each group (Ok v) others used well ok =
      (well, here_or_elsewhere group (Shows new recent_new) ok (λ other ne. let one = used.1 other in (one.0, one.1, others one.0 other (one.1 ∷ []) ne one.2)))
  stored_each group (Err e) others used well ok = tt

  -- a call that stores
  pub storing_meets : {T : Type 0} (log_meets : Option F → Type 0) (before after : Option StoreRefusal) (cleaning : Bool) (group : ℕ) (r : Result T (StoreFault F))
      → log_meets (option_and_then log_fault (result_err r)) → after ≡ noted_after before (result_err r)
      → (sound old → OnOk r (sound new))
      → ((rules : MachineRules) → KeepsOthers (ShowsBy rules sound answers leaves old recent_old) (ShowsBy rules sound answers leaves new recent_new) group)
      → ((rules : MachineRules) (s : StoredGroup) → sound old → ShowsBy rules sound answers leaves old recent_old group (s ∷ []) → OnOk r (Shows new recent_new group))
      → ((rules : MachineRules) (s : StoredGroup) → sound old → ShowsBy rules sound answers leaves old recent_old group (s ∷ []) → IfErr r (IsNoMisuse misuse))
      → Meets log_meets misuse UsedBefore UsedAfter after cleaning (result_err r)
  storing_meets log_meets before after cleaning group r met noted well others ok fits =
      call_meets log_meets before after cleaning r met noted
      (λ used. let one = used.1 group in stored_each group r others used (well used.0) (ok one.0 one.1 used.0 one.2))
      (λ used. let one = used.1 group in fits one.0 one.1 used.0 one.2)

  -- what is shown for a machine after a command
  pub stored_one : {T E : Type 0} (rules : MachineRules) (group : ℕ) (c : StoringCommand) (s : StoredGroup) (r : Result T E)
      → OnOk r (Stores (ShowsBy rules sound answers leaves old recent_old) (ShowsBy rules sound answers leaves new recent_new) group c)
      → ShowsBy rules sound answers leaves old recent_old group (s ∷ []) → OnOk r (Shows new recent_new group)
  stored_one rules group c s (Ok v) stores shown = (rules, after_storing c s, stores s shown)
  stored_one rules group c s (Err e) stores shown = tt

  kept_each : {T E : Type 0} (r : Result T E) → ((rules : MachineRules) → KeepsAll (ShowsBy rules sound answers leaves old recent_old) (ShowsBy rules sound answers leaves new recent_new))
      → UsedBefore → OnOk r (sound new) → OnOk r UsedAfter
  kept_each (Ok v) kept used well = (well, λ group. let one = used.1 group in (one.0, one.1, kept one.0 group (one.1 ∷ []) one.2))
  kept_each (Err e) kept used well = tt

  -- a call that reads of a group
  pub reading_meets : {T : Type 0} (log_meets : Option F → Type 0) (before after : Option StoreRefusal) (cleaning : Bool) (group : ℕ) (r : Result T (StoreFault F))
      → log_meets (option_and_then log_fault (result_err r)) → after ≡ noted_after before (result_err r)
      → (sound old → OnOk r (sound new))
      → ((rules : MachineRules) → KeepsAll (ShowsBy rules sound answers leaves old recent_old) (ShowsBy rules sound answers leaves new recent_new))
      → ((rules : MachineRules) (s : StoredGroup) → sound old → ShowsBy rules sound answers leaves old recent_old group (s ∷ []) → IfErr r (IsLogOrMemory misuse))
      → Meets log_meets misuse UsedBefore UsedAfter after cleaning (result_err r)
  reading_meets log_meets before after cleaning group r met noted well kept cause =
      call_meets log_meets before after cleaning r met noted (λ used. kept_each r kept used (well used.0))
      (λ used. let one = used.1 group in no_misuse misuse r (cause one.0 one.1 used.0 one.2))

-- ---- where they may have failed

module _ {F : Type 0} (misuse : F → Type 0) (rules : MachineRules) (before after : Option StoreRefusal) (none : before ≡ None) (cleaning : Bool) (calm : cleaning ≡ false) where
  abbrev Bears : Option StoreRefusal → StoringCommand → StoredGroup → Type 0
  Bears x c s = IfSome x (λ refused. IsStorable rules s c → refused ≡ refusal.Memory)

  -- a call that stores
  pub storing_fails : {T : Type 0} (old new : ℕ → List StoredGroup → Type 0) (group : ℕ) (c : StoringCommand) (r : Result T (StoreFault F)) → after ≡ noted_after before (result_err r)
      → OnErr r (MayHaveStored old new group c)
      → ((s : StoredGroup) → old group (s ∷ []) → IsStorable rules s c → IfErr r (IsLogOrMemory misuse))
      → OnErr r (MayStore old new (FailsBy rules after cleaning) group c)
  storing_fails old new group c (Ok v) noted err takes = tt
  storing_fails old new group c (Err (Log fault)) noted err takes = λ s shown. (err s shown, fails_anyhow rules after cleaning (noted ∙ none) calm c s)
  storing_fails old new group c (Err (Refused refused)) noted err takes =
      λ s shown. (err s shown, (calm, subst (λ (x : Option StoreRefusal). Bears x c s) (sym noted) (λ is. takes s shown is)))

  -- a call that reads
  pub reading_fails : {T : Type 0} (r : Result T (StoreFault F)) → after ≡ noted_after before (result_err r) → IfErr r (IsLogOrMemory misuse) → OnErr r (FailsAnyhow (FailsBy rules after cleaning))
  reading_fails (Ok v) noted cause = tt
  reading_fails (Err (Log fault)) noted cause = fails_anyhow rules after cleaning (noted ∙ none) calm
  reading_fails (Err (Refused refused)) noted cause = λ c s. (calm, subst (λ (x : Option StoreRefusal). Bears x c s) (sym noted) (λ is. cause))

-- a call that succeeds changes no note
pub still_well : {T F : Type 0} (sound : Type 0) (before after : Option StoreRefusal) (cleaning : Bool) (r : Result T (StoreFault F)) → before ≡ None → cleaning ≡ false → after ≡ noted_after before (result_err r) → OnOk r sound → OnOk r (sound × (after ≡ None) × (cleaning ≡ false))
still_well sound before after cleaning (Ok v) none calm noted is = (is, noted ∙ none, calm)
still_well sound before after cleaning (Err fault) none calm noted is = tt
