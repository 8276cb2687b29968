-- What a whole step applies and stores of snapshots, at a node that is up and at an opening.
use Rattle.std.specs.Prelude.{◌≡◌, ◌⊎◌, ℕ, zero, suc, ◌+◌, List, [], ◌∷◌, take, Option, Some, None, refl}
use Rattle.std.specs.List.{last_or}
use Rattle.std.proofs.Common.{inl, inr, sym, ap, ◌∙◌, arith, ⊎_elim}
use Rattle.raft_values.specs.declared.log_id.LogId.{LogId}
use Rattle.raft_values.specs.LogId.{place_of}
use Rattle.raft_group_step.specs.Values.{Entry}
use Rattle.raft_group_step.specs.StoredGroup.{StoredGroup, Snapshot, StoringCommand, MakeGroup, SetVote, PutEntries, CutFrom, RemoveUpTo, SetSnapshot, StartAfter, after_storing, after_storing_all, entry_at, held, id_of, snapshot_last}
use Rattle.raft_group_step.specs.GroupState.{GroupState, state_of}
use Rattle.raft_group_step.specs.GroupEvent.{GroupEvent, AddGroup, Call, Receive, Open}
use Rattle.raft_group_step.specs.StepResult.{RefusalReason, unchanged}
use Rattle.raft_group_step.specs.SnapshotRequest.{place_above}
use Rattle.raft_group_step.specs.Refusal.{refusal_of}
use Rattle.raft_group_step.specs.GroupStep.{begun, event_step, group_step, step_unless}
use Rattle.raft_laws.specs.OneList.{applied_list}
use Rattle.raft_laws.proofs.BallotSafe.{Among}
use Rattle.raft_laws.proofs.StepOrder.{step-keeps}
use Rattle.raft_headline.specs.Machines.{snapshot_in, snapshots_of, with_snapshot}
use Rattle.raft_headline.proofs.StepApplies.{Applies, ShotFits, call-applies, finished-applies, group-applies, message-applies, opening-applies}

-- ---- what is stored

abbrev pub snapshot_or : Option Snapshot → Option Snapshot → Option Snapshot
snapshot_or None o = o
snapshot_or (Some x) o = Some x

one_stored : (c : StoringCommand) (st : StoredGroup) → (after_storing c st).snapshot ≡ snapshot_or (snapshot_in c) st.snapshot
one_stored MakeGroup st = refl
one_stored (SetVote vote) st = refl
one_stored (PutEntries place entries) st = refl
one_stored (CutFrom place) st = refl
one_stored (RemoveUpTo id) st = refl
one_stored (SetSnapshot x) st = refl
one_stored (StartAfter id) st = refl

last_with : (o : Option Snapshot) (xs : List Snapshot) (rest : Option Snapshot) → snapshot_or (last_or None xs) (snapshot_or o rest) ≡ snapshot_or (last_or None (with_snapshot o xs)) rest
last_with None xs rest = refl
last_with (Some x) [] rest = refl
last_with (Some x) (y ∷ ys) rest = some_last ys y
  where
    some_last : (zs : List Snapshot) (z : Snapshot) → snapshot_or (last_or None (z ∷ zs)) (Some x) ≡ snapshot_or (last_or None (x ∷ z ∷ zs)) rest
    some_last [] z = refl
    some_last (w ∷ zs) z = some_last zs w

-- the last snapshot that the commands store is the one that is stored after them
pub snapshot_after : (cs : List StoringCommand) (st : StoredGroup) → (after_storing_all cs st).snapshot ≡ snapshot_or (last_or None (snapshots_of cs)) st.snapshot
snapshot_after [] st = refl
snapshot_after (c ∷ cs) st =
    snapshot_after cs (after_storing c st)
    ∙ ap (snapshot_or (last_or None (snapshots_of cs))) (one_stored c st)
    ∙ last_with (snapshot_in c) (snapshots_of cs) st.snapshot

among_with : (o : Option Snapshot) (xs ys : List Snapshot) (x : Snapshot) → (Among x xs → Among x ys) → Among x (with_snapshot o xs) → Among x (with_snapshot o ys)
among_with None xs ys x f a = f a
among_with (Some y) xs ys x f a = ⊎_elim (λ e. inl e) (λ rest. inr (f rest)) a

from_one : (c : StoringCommand) (st : StoredGroup) (y : Snapshot) (xs : List Snapshot) → (after_storing c st).snapshot ≡ Some y → Among y (with_snapshot (snapshot_in c) xs) ⊎ (st.snapshot ≡ Some y)
from_one c st y xs e = go (snapshot_in c) (sym (one_stored c st) ∙ e)
  where
    go : (o : Option Snapshot) → snapshot_or o st.snapshot ≡ Some y → Among y (with_snapshot o xs) ⊎ (st.snapshot ≡ Some y)
    go None f = inr f
    go (Some x) f = inl (inl (let g : Some x ≡ Some y = f in let h : y ≡ x = cc in h))

wider : (o : Option Snapshot) (xs : List Snapshot) (y : Snapshot) → Among y xs → Among y (with_snapshot o xs)
wider None xs y a = a
wider (Some x) xs y a = inr a

-- one that is stored after some of them was stored by them, or before
pub stored_among : (k : ℕ) (cs : List StoringCommand) (st : StoredGroup) (y : Snapshot) → (after_storing_all (take k cs) st).snapshot ≡ Some y → Among y (snapshots_of cs) ⊎ (st.snapshot ≡ Some y)
stored_among zero cs st y e = inr e
stored_among (suc k) [] st y e = inr e
stored_among (suc k) (c ∷ cs) st y e =
    ⊎_elim
    (λ later. inl (wider (snapshot_in c) (snapshots_of cs) y later))
    (λ now. from_one c st y (snapshots_of cs) now)
    (stored_among k cs (after_storing c st) y e)

pub all_among : (cs : List StoringCommand) (st : StoredGroup) (y : Snapshot) → (after_storing_all cs st).snapshot ≡ Some y → Among y (snapshots_of cs) ⊎ (st.snapshot ≡ Some y)
all_among [] st y e = inr e
all_among (c ∷ cs) st y e =
    ⊎_elim
    (λ later. inl (wider (snapshot_in c) (snapshots_of cs) y later))
    (λ now. from_one c st y (snapshots_of cs) now)
    (all_among cs (after_storing c st) y e)

-- ---- steps

-- what a step may store as a snapshot: what was applied, where a call asked for it
abbrev pub MayStore : GroupState → GroupEvent → Snapshot → Type 0
MayStore s AddGroup x = ⊥
MayStore s (Call call now) x = x.«prefix» ≡ applied_list s
MayStore s (Receive peer m now) x = Unit {0}
MayStore s Open x = ⊥

-- each entry of the log has its place
abbrev pub PlacedLog : GroupState → Type 0
PlacedLog s = (i : ℕ) (e : Entry) → entry_at s.stored i ≡ Some e → e.log_id.index ≡ i

-- the entry that stands at a place has it
pub id_placed : (o : Option Entry) (i : ℕ) (id : LogId ℕ) → ((e : Entry) → o ≡ Some e → e.log_id.index ≡ i) → id_of o ≡ Some id → id.index ≡ i
id_placed None i id f e = absurd (let g : None ≡ Some id = e in cc)
id_placed (Some x) i id f e = ap (λ (l : LogId ℕ). l.index) (let g : Some x.log_id ≡ Some id = e in let h : id ≡ x.log_id = cc in h) ∙ f x refl

shot_fits : (s : GroupState) → PlacedLog s → ShotFits (place_above s.committed) (λ x. x.«prefix» ≡ applied_list s) s
shot_fits s placed a id is e =
    let index : id.index ≡ a = id_placed (entry_at s.stored a) a id (placed a) e in
    let count : id.index + 1 ≡ place_above s.applied = ap (λ (i : ℕ). i + 1) index ∙ ap place_above (sym is) in
    ap (λ (k : ℕ). take k (held s.stored)) count

module _ (own : ℕ) (s : GroupState) (is : s.applied ≡ s.committed) (placed : PlacedLog s) where
  event_applies : (e : GroupEvent) → (e ≡ Open → ⊥) → Applies (place_above s.committed) (MayStore s e) (event_step own s e)
  event_applies AddGroup other =
      group-applies _ _ MakeGroup (unchanged s) refl (record { grows = omega arith; applied = is; snapshots = λ x a. absurd a })
  event_applies (Call call now) other =
      call-applies _ _ own call (begun now s) (shot_fits s placed) (record { grows = omega arith; applied = is; snapshots = λ x a. absurd a })
  event_applies (Receive peer m now) other =
      message-applies _ _ own peer m.body (begun now s) (λ x. tt) (record { grows = omega arith; applied = is; snapshots = λ x a. absurd a })
  event_applies Open other = absurd (other refl)

  unless_applies : (why : Option RefusalReason) (e : GroupEvent) → (e ≡ Open → ⊥) → Applies (place_above s.committed) (MayStore s e) (step_unless why own s e)
  unless_applies (Some why) e other = record { grows = omega arith; applied = is; snapshots = λ x a. absurd a }
  unless_applies None e other = finished-applies _ _ own s.committed (event_step own s e) (event_applies e other)

  -- a step of a node that is up
  pub step_applies : (e : GroupEvent) → (e ≡ Open → ⊥) → Applies (place_above s.committed) (MayStore s e) (group_step own s e)
  step_applies e other = unless_applies (refusal_of own s e) e other

-- an opening
pub open_applies : (own : ℕ) (st : StoredGroup) → Applies (place_above (place_of (snapshot_last st))) (λ x. ⊥) (group_step own (state_of st) Open)
open_applies own st =
    finished-applies _ _ own None _ (opening-applies _ _ own st (omega arith))

-- what a step leaves stored is what its commands store
pub left_stored : (own : ℕ) (s : GroupState) (e : GroupEvent) → (group_step own s e).state.stored ≡ after_storing_all (group_step own s e).commands s.stored
left_stored own s e = (step-keeps own s e).stored
