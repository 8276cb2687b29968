-- Tokens that wait, and the one that an event brings, stand by rising place above all that is applied.
use Rattle.std.specs.Prelude.{◌≡◌, ℕ, ◌+◌, ◌<◌, ◌≤◌, true, false, List, [], ◌∷◌, ◌++◌, Contains, refl}
use Rattle.std.proofs.Common.{sym, ap, ◌∙◌, arith, inl, inr}
use Rattle.raft_group_step.specs.StoredGroup.{end_place}
use Rattle.raft_group_step.specs.GroupState.{GroupState, Untold, is_leader}
use Rattle.raft_group_step.specs.GroupEvent.{GroupEvent}
use Rattle.raft_group_step.specs.SnapshotRequest.{place_above}
use Rattle.raft_laws.proofs.BallotSafe.{Among}
use Rattle.raft_laws.proofs.FreshEntries.{without_is}
use Rattle.raft_laws.proofs.Counts.{among_contains}
use Rattle.raft_step_laws.specs.Tokens.{RiseFrom, WaitsLeading, brought}
use Rattle.raft_step_laws.proofs.InOrder.{brought_rises}
use Rattle.raft_step_laws.proofs.TokenLists.{rise_lower}
use Rattle.raft_history_laws.specs.WaitingTokens.{AreRising, IsWaiting}

rise_with : (start end : ℕ) (xs ys : List Untold) → start ≤ end → ((x : Untold) → Among x xs → start ≤ x.place) → ((x : Untold) → Among x xs → x.place < end) → AreRising xs → RiseFrom end ys → RiseFrom start (xs ++ ys)
rise_with start end [] ys le low high rising h = rise_lower start end ys le h
rise_with start end (x ∷ xs) ys le low high rising h =
    let here = high x (inl refl) in (
      low x (inl refl),
      rise_with (x.place + 1) end xs ys (omega arith)
          (λ y a. let l = rising.0 y (among_contains xs y a) in omega arith)
          (λ y a. high y (inr a)) rising.1 h,
    )

module _ (s : GroupState) (waits : (x : Untold) → Contains s.untold x → IsWaiting s x) where
  pub all_rise : AreRising s.untold → s.applied ≡ s.committed → place_above s.committed ≤ end_place s.stored → (e : GroupEvent) → RiseFrom (place_above s.applied) (s.untold ++ brought s e)
  all_rise rising same within e =
      let from : place_above s.applied ≡ place_above s.committed = ap place_above same in
      rise_with (place_above s.applied) (end_place s.stored) s.untold (brought s e) (omega arith)
      (λ x a. let w = waits x (among_contains s.untold x a) in let l = without_is s.committed x.place w.above in omega arith)
      (λ x a. let w = waits x (among_contains s.untold x a) in w.within)
      rising (brought_rises s e)

  pub waits_leading : WaitsLeading s
  waits_leading idle = go s.untold refl
    where
      go : (xs : List Untold) → s.untold ≡ xs → s.untold ≡ []
      go [] is = is
      go (x ∷ xs) is =
          let has : Among x s.untold = first s.untold x xs is in
          let w = waits x (among_contains s.untold x has) in
          absurd (let f : true ≡ false = sym (ap is_leader w.leads) ∙ idle in cc)
        where
          first : (ys : List Untold) (x : Untold) (xs : List Untold) → ys ≡ x ∷ xs → Among x ys
          first [] x xs is = absurd (let f : [] ≡ x ∷ xs = is in cc)
          first (y ∷ ys) x xs is = inl (let g : x ≡ y = cc in g)
