-- One batch of a group's changes: what is shown after it, and of the other groups.
use Rattle.std.proofs.Common.{◌≡◌, ◌≢◌, inl, inr, ℕ, Bool, false, ◌||◌, cond, List, [], ◌∷◌, refl, ap, sym, subst, ◌∙◌, eq-eqb}
use Rattle.std.specs.Prelude.{Result, Ok, Err, IfErr, IsErrAnd, OnErr, OnOk, Option, None}
use Rattle.std.specs.List.{list_any}
use Rattle.raft_group_step.specs.StoredGroup.{StoredGroup}
use Rattle.raft_log_records.specs.Item.{Change, Item}
use Rattle.raft_log_records.specs.Spelling.{holds_mark, is_mark}
use Rattle.raft_log_memtables.specs.Content.{Content, GroupContent, after_batch, after_change, after_item}
use Rattle.raft_log_memtables.specs.Taken.{TakesEach}
use Rattle.raft_content_log.specs.Leaving.{AgreesElsewhere, AreUnmarked, IsEither, IsUnnamed, IsWritten, Leaves, LeavesElsewhere, LeavesNoMore, MayBeWritten}
use Rattle.raft_machines.specs.Machine.{MachineRules}
use Rattle.raft_store.specs.Batches.{Carries, ShowsIn, TakesChanges, after_changes, of_group}
use Rattle.raft_store.specs.Faults.{IsNoMisuse}
use Rattle.raft_store.specs.declared.fault.StoreFault.{StoreFault}
use Rattle.raft_store.specs.Reading.{Holds, HoldsOne, Recalls}
use Rattle.raft_store.specs.declared.recent.Recent.{Recent}

-- ---- the items of one group

item_at : (group : ℕ) (change : Change (List ℕ)) (content : Content (List ℕ)) → after_item (record { group = group; change = change }) content group ≡ after_change change (content group)
item_at group change content = ap (λ (b : Bool). cond b (after_change change (content group)) (content group)) (eq-eqb group group refl)

changes_at : (group : ℕ) (changes : List (Change (List ℕ))) (content : Content (List ℕ)) → after_batch (of_group group changes) content group ≡ after_changes changes (content group)
changes_at group [] content = refl
changes_at group (change ∷ changes) content =
    changes_at group changes (after_item (record { group = group; change = change }) content) ∙ ap (after_changes changes) (item_at group change content)

takes_each : (group : ℕ) (changes : List (Change (List ℕ))) (content : Content (List ℕ)) → TakesChanges changes (content group) → TakesEach (of_group group changes) content
takes_each group [] content takes = tt
takes_each group (change ∷ changes) content takes =
    (takes.0, takes_each group changes (after_item (record { group = group; change = change }) content) (subst (TakesChanges changes) (sym (item_at group change content)) takes.1))

unnamed : (group other : ℕ) (changes : List (Change (List ℕ))) → other ≢ group → IsUnnamed (of_group group changes) other
unnamed group other [] ne = tt
unnamed group other (change ∷ changes) ne = (λ same. ne (sym same), unnamed group other changes ne)

plain_group : (group : ℕ) (changes : List (Change (List ℕ))) → list_any is_mark changes ≡ false → AreUnmarked (of_group group changes)
plain_group group changes plain = same changes ∙ plain
  where
    same : (more : List (Change (List ℕ))) → list_any holds_mark (of_group group more) ≡ list_any is_mark more
    same [] = refl
    same (change ∷ more) = ap (λ (b : Bool). is_mark change || b) (same more)

-- ---- parts

pub only_one : (rules : MachineRules) (g : GroupContent (List ℕ)) (s : StoredGroup) → HoldsOne rules g (s ∷ []) → Holds rules g s
only_one rules g s (inl h) = h
only_one rules g s (inr none) = absurd none

one_of_either : (rules : MachineRules) (before after content : Content (List ℕ)) (group : ℕ) (s t : StoredGroup) → Holds rules (before group) s → Holds rules (after group) t → IsEither before after content → HoldsOne rules (content group) (s ∷ t ∷ [])
one_of_either rules before after content group s t old new (inl same) = inl (subst (λ (c : Content (List ℕ)). Holds rules (c group) s) (sym same) old)
one_of_either rules before after content group s t old new (inr same) = inr (inl (subst (λ (c : Content (List ℕ)). Holds rules (c group) t) (sym same) new))

-- ---- a write

module _ (rules : MachineRules) (items : List (Item (List ℕ))) (group : ℕ) (changes : List (Change (List ℕ))) (are : items ≡ of_group group changes) (old : Content (List ℕ)) where
  module _ (s t : StoredGroup) (carries : Carries rules changes s t) (held : Holds rules (old group) s) where
    pub taken : TakesEach items old
    taken = subst (λ (l : List (Item (List ℕ))). TakesEach l old) (sym are) (takes_each group changes old (carries.takes (old group) held))

    pub unmarked : AreUnmarked items
    unmarked = subst AreUnmarked (sym are) (plain_group group changes carries.plain)

    held_after : Holds rules (after_batch items old group) t
    held_after = subst (λ (g : GroupContent (List ℕ)). Holds rules g t) (sym (ap (λ (l : List (Item (List ℕ))). after_batch l old group) are ∙ changes_at group changes old)) (carries.holds (old group) held)

    pub shown_after : (sound : Type 0) (answered : Content (List ℕ)) (leaves : Leaves) → IsWritten answered leaves (after_batch items old) → ShowsIn rules sound answered leaves None group (t ∷ [])
    shown_after sound answered leaves written = record {
      answered = λ is. inl (subst (λ (c : Content (List ℕ)). Holds rules (c group) t) (sym written.answers) held_after);
      left = λ content is. inl (subst (λ (c : Content (List ℕ)). Holds rules (c group) t) (sym (written.leaves_only content is)) held_after);
      recalled = λ is. tt;
    }

    pub shown_either : (sound : Type 0) (answered : Content (List ℕ)) (leaves : Leaves) → MayBeWritten sound answered leaves old (after_batch items old) → ShowsIn rules sound answered leaves None group (s ∷ t ∷ [])
    shown_either sound answered leaves written = record {
      answered = λ is. one_of_either rules old (after_batch items old) answered group s t held held_after (written.answers is);
      left = λ content is. one_of_either rules old (after_batch items old) content group s t held held_after (written.leaves_either content is);
      recalled = λ is. tt;
    }

-- the others, where no entries are remembered after it
pub others_shown : (rules : MachineRules) (items : List (Item (List ℕ))) (group : ℕ) (changes : List (Change (List ℕ))) (sound_old sound_new : Type 0) (old new : Content (List ℕ)) (leaves_old leaves_new : Leaves) (recent : Option Recent)
    → items ≡ of_group group changes → (sound_new → sound_old × AgreesElsewhere items new old) → LeavesElsewhere items leaves_old leaves_new
    → (other : ℕ) (parts : List StoredGroup) → other ≢ group → ShowsIn rules sound_old old leaves_old recent other parts → ShowsIn rules sound_new new leaves_new None other parts
others_shown rules items group changes sound_old sound_new old new leaves_old leaves_new recent are answered left other parts ne shown =
    let un : IsUnnamed items other = subst (λ (l : List (Item (List ℕ))). IsUnnamed l other) (sym are) (unnamed group other changes ne) in
    record {
      answered = λ is. subst (λ (g : GroupContent (List ℕ)). HoldsOne rules g parts) (sym ((answered is).1 other un)) (shown.answered (answered is).0);
      left = λ content is.
          let before = left content is in
          subst (λ (g : GroupContent (List ℕ)). HoldsOne rules g parts) (sym (before.2 other un)) (shown.left before.0 before.1);
      recalled = λ is. tt;
    }

-- ---- a read

pub still_shown : (rules : MachineRules) (sound_old sound_new : Type 0) (old new : Content (List ℕ)) (leaves_old leaves_new : Leaves) (recent : Option Recent)
    → (sound_new → sound_old × (new ≡ old)) → LeavesNoMore leaves_old leaves_new
    → (group : ℕ) (parts : List StoredGroup) → ShowsIn rules sound_old old leaves_old recent group parts → ShowsIn rules sound_new new leaves_new recent group parts
still_shown rules sound_old sound_new old new leaves_old leaves_new recent kept less group parts shown = record {
  answered = λ is. subst (λ (c : Content (List ℕ)). HoldsOne rules (c group) parts) (sym (kept is).1) (shown.answered (kept is).0);
  left = λ content is. shown.left content (less content is);
  recalled = λ is. subst (λ (c : Content (List ℕ)). Recalls recent group (c group)) (sym (kept is).1) (shown.recalled (kept is).0);
}

-- ---- more parts

-- the part alone is one of two
pub shows_either : (rules : MachineRules) (sound : Type 0) (answered : Content (List ℕ)) (leaves : Leaves) (recent : Option Recent) (group : ℕ) (s t : StoredGroup)
    → ShowsIn rules sound answered leaves recent group (s ∷ []) → ShowsIn rules sound answered leaves recent group (s ∷ t ∷ [])
shows_either rules sound answered leaves recent group s t shown = record {
  answered = λ is. inl (only_one rules (answered group) s (shown.answered is));
  left = λ content is. inl (only_one rules (content group) s (shown.left content is));
  recalled = shown.recalled;
}

-- ---- what holds of each part, at an exit

pub on_ok_all : {T E S : Type 0} (P Q : S → Type 0) (r : Result T E) → ((s : S) → P s → OnOk r (Q s)) → OnOk r ((s : S) → P s → Q s)
on_ok_all P Q (Ok v) so = so
on_ok_all P Q (Err e) so = tt

pub on_err_all : {T E S : Type 0} (P Q : S → Type 0) (r : Result T E) → ((s : S) → P s → OnErr r (Q s)) → OnErr r ((s : S) → P s → Q s)
on_err_all P Q (Ok v) so = tt
on_err_all P Q (Err e) so = so

pub on_err_any : {T E : Type 0} (P : Type 0) (r : Result T E) → P → OnErr r P
on_err_any P (Ok v) p = tt
on_err_any P (Err e) p = p

-- ---- no fault is a misuse of the log

pub refused_so : {T F : Type 0} (misuse : F → Type 0) (r : Result T (StoreFault F)) (fault : StoreFault F) → IsErrAnd r (λ f. f ≡ fault) → IsNoMisuse misuse fault → IfErr r (IsNoMisuse misuse)
refused_so misuse (Ok v) fault is fits = absurd is
refused_so misuse (Err f) fault is fits = subst (IsNoMisuse misuse) (sym is) fits
