-- A step from a ready state in order leads to a ready one.
use Rattle.std.specs.Prelude.{◌≡◌, ℕ, suc, ◌+◌, ◌-◌, ◌<◌, ◌≤◌, ◌^◌, if◌then◌else◌, nat_lt, Bool, true, false, List, [], ◌∷◌, length, Option, Some, None, slice_get, refl}
use Rattle.std.proofs.Common.{ap, ◌∙◌, arith}
use Rattle.raft_values.specs.declared.log_id.LogId.{LogId}
use Rattle.raft_values.specs.LogId.{next_place, place_of}
use Rattle.std.proofs.lemmas.Bool.{ltb-false}
use Rattle.raft_group_step.specs.Values.{Entry}
use Rattle.raft_group_step.specs.StoredGroup.{Snapshot, entry_at, end_place, first_place, snapshot_last}
use Rattle.raft_group_step.specs.GroupEvent.{GroupEvent, AddGroup, Call, Receive, Open}
use Rattle.raft_group_step.specs.GroupState.{GroupState}
use Rattle.raft_group_step.specs.Frames.{committed_id}
use Rattle.raft_group_step.specs.SnapshotRequest.{place_above}
use Rattle.raft_known_state.specs.KnownState.{ArePlaced}
use Rattle.raft_engine.specs.Standing.{IsInOrder}
use Rattle.raft_engine.proofs.PlacedEntries.{found_at}
use Rattle.raft_laws.proofs.LowGroups.{IsLowEntry, Low}
use Rattle.raft_laws.proofs.StepEntries.{Each}
use Rattle.raft_laws.proofs.StepPlaces.{MayBegin, step_low}
use Rattle.raft_laws.proofs.ReadySteps.{IsSteady, step_covered}
use Rattle.raft_member.specs.Ready.{ReadyStatesStayReady}

above : (o : Option (LogId ℕ)) → next_place o ≡ place_above (place_of o)
above None = refl
above (Some id) = refl

entries_low : (es : List Entry) (place : ℕ) → ArePlaced place es → place + length es ≤ 2 ^ 62 → Each IsLowEntry es
entries_low [] place h l = tt
entries_low (e ∷ es) place h l = ((let at : e.log_id.index ≡ place = h.0 in omega arith), entries_low es (suc place) h.1 (omega arith))

module _ (s : GroupState) (order : IsInOrder s) where
  committed_above : next_place (committed_id s) ≡ place_above s.committed
  committed_above = above (committed_id s) ∙ ap place_above order.committed

  last_below : (x : Snapshot) → s.stored.snapshot ≡ Some x → end_place s.stored ≤ 2 ^ 62 → x.last.index < 2 ^ 62
  last_below x e l =
      let last : snapshot_last s.stored ≡ Some x.last = ap (λ (o : Option Snapshot). snapshot_last (record s.stored { snapshot = o })) e in
      let end : next_place (snapshot_last s.stored) ≡ x.last.index + 1 = ap next_place last in
      let a = order.snapshot in
      let b = order.within in omega arith

  low : end_place s.stored ≤ 2 ^ 62 → Low s.stored
  low l = record {
    reaches = l;
    log = entries_low s.stored.log (first_place s.stored) order.placed l;
    snapshot = λ x e. last_below x e l;
  }

  entry_stands : (place : ℕ) (e : Entry) → entry_at s.stored place ≡ Some e → e.log_id.index ≡ place
  entry_stands place e is = by_test (nat_lt place (first_place s.stored)) refl is
    where
      by_test : (b : Bool) → nat_lt place (first_place s.stored) ≡ b → (if b then None else slice_get s.stored.log (place - first_place s.stored)) ≡ Some e → e.log_id.index ≡ place
      by_test true f h = cc h
      by_test false f h =
          let past = ltb-false place (first_place s.stored) f in
          let at = found_at s.stored.log (first_place s.stored) (place - first_place s.stored) e order.placed h in
          omega arith

  steady : IsSteady s
  steady = record {
    snapshot = (let a = order.snapshot in let b = committed_above in omega arith);
    stands = λ place e applied is. entry_stands place e is;
  }

  may_begin : (e : GroupEvent) → MayBegin s e
  may_begin AddGroup = tt
  may_begin (Call call now) = tt
  may_begin (Receive peer m now) = let a = order.purged in let b = order.snapshot in let c = committed_above in omega arith
  may_begin Open = tt

pub stays_ready : ReadyStatesStayReady
stays_ready own s e order ready = record {
  places = (step_low own s e (low s order ready.places) (may_begin s order e)).now.reaches;
  wish = step_covered own s e (steady s order) ready.wish;
}
