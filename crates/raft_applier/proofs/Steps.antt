-- What a step leaves to run and to tell.
use Rattle.std.specs.Prelude.{◌≡◌, ℕ, ◌+◌, ◌≤◌, ◌&&◌, cond, Bool, true, false, List, [], ◌++◌, length, take, drop, Option, Some, None, option_map, refl}
use Rattle.std.proofs.Common.{sym, ap, ap₂, ◌∙◌, subst, arith, append-nil}
use Rattle.std.proofs.lemmas.Bool.Decides.{nat_tests}
use Rattle.raft_values.specs.declared.log_id.LogId.{LogId}
use Rattle.raft_values.specs.LogId.{next_place, place_of, stands_before}
use Rattle.raft_group_step.specs.Values.{vote_eq}
use Rattle.raft_group_step.specs.StoredGroup.{Snapshot, StoredGroup, prefix_of, snapshot_last}
use Rattle.raft_group_step.specs.GroupState.{GroupState, is_leader, state_of}
use Rattle.raft_group_step.specs.GroupEvent.{GroupEvent, Open}
use Rattle.raft_group_step.specs.StepResult.{tokens_of}
use Rattle.raft_group_step.specs.SnapshotRequest.{place_above}
use Rattle.raft_group_step.specs.Refusal.{refusal_of}
use Rattle.raft_group_step.specs.Frames.{committed_id}
use Rattle.raft_group_step.specs.GroupStep.{group_step}
use Rattle.raft_laws.specs.OneList.{applied_list}
use Rattle.raft_engine.specs.Standing.{IsInOrder}
use Rattle.raft_group_storage.specs.Keeping.{entries_of}
use Rattle.raft_machines.specs.Machine.{MachineRules}
use Rattle.raft_machines.specs.Fold.{fold_of}
use Rattle.raft_machines.specs.Telling.{untold_of}
use Rattle.raft_step_laws.specs.Tokens.{RiseFrom, TokensGo, brought, leads_on}
use Rattle.raft_step_laws.proofs.Telling.{tokens_go}
use Rattle.raft_applier.specs.declared.applied.Applied.{Applied}
use Rattle.raft_applier.specs.declared.seen.Seen.{Seen}
use Rattle.raft_applier.specs.Applied.{IsCaughtUp, lead_of}
use Rattle.raft_applier.specs.Following.{HasWholeSnapshot, IsStep, with_brought}
use Rattle.raft_applier.specs.Running.{HasItsList, HasRun, due_at, is_same_lead, later_id, later_than}
use Rattle.raft_applier.specs.Seen.{IsSeen}
use Rattle.raft_applier.proofs.AppliedLists.{above_next, applied_size, rest_of_log}
use Rattle.raft_applier.proofs.Leading.{none_brought}

-- ---- snapshots and log ids

snapshot_size : (o : Option Snapshot) → ((x : Snapshot) → o ≡ Some x → length x.«prefix» ≡ x.last.index + 1) → length (prefix_of o) ≡ next_place (option_map (λ (x : Snapshot). x.last) o)
snapshot_size None whole = refl
snapshot_size (Some x) whole = whole x refl

-- a log id that isn't behind another takes no place of it
pub not_before : (last snapshot : Option (LogId ℕ)) → next_place snapshot ≤ next_place last → stands_before last snapshot ≡ false
not_before last None le = refl
not_before None (Some b) le = absurd (omega arith)
not_before (Some a) (Some b) le = let l : b.index ≤ a.index = omega arith in grind (arith, nat_tests, l)

pub stays_last : (last snapshot : Option (LogId ℕ)) → next_place snapshot ≤ next_place last → later_id last snapshot ≡ last
stays_last last snapshot le = ap (λ b. cond b snapshot last) (not_before last snapshot le)

-- none of the two is past it
pub later_covers : (last snapshot : Option (LogId ℕ)) → next_place snapshot ≤ next_place (later_id last snapshot)
later_covers last None = omega arith
later_covers None (Some b) = omega arith
later_covers (Some a) (Some b) = go (stands_before (Some a) (Some b)) refl
  where
    go : (t : Bool) → stands_before (Some a) (Some b) ≡ t → b.index + 1 ≤ next_place (cond t (Some b) (Some a))
    go true e = omega arith
    go false e = let l : b.index ≤ a.index = grind (arith, nat_tests, e) in omega arith

-- ---- leads

pub same_lead : (s t : GroupState) → is_same_lead (lead_of s) (lead_of t) ≡ leads_on s t
same_lead s t = go (is_leader s.role) (is_leader t.role)
  where
    go : (b c : Bool) → is_same_lead (cond b (Some s.stored.vote) None) (cond c (Some t.stored.vote) None) ≡ (b && (c && vote_eq s.stored.vote t.stored.vote))
    go true true = refl
    go true false = refl
    go false c = refl

-- ---- states

pub above_applied : (t : GroupState) → IsInOrder t → next_place (committed_id t) ≡ place_above t.applied
above_applied t order = sym (above_next (committed_id t)) ∙ ap place_above (order.committed ∙ sym order.applied)

pub has_list : (t : GroupState) → IsInOrder t → HasWholeSnapshot t → HasItsList t
has_list t order whole =
    let above = above_applied t order in
    record {
      size = snapshot_size t.stored.snapshot whole;
      purged = order.purged;
      covered = (let l = order.snapshot in omega (arith, l, above));
      within = (let l = order.within in omega (arith, l, above));
    }

-- ---- a step

module _ (own : ℕ) (s : GroupState) (e : GroupEvent) (step : IsStep own s e) (order : IsInOrder (group_step own s e).state) where
  abbrev t : GroupState
  t = (group_step own s e).state

  pub its_list : HasItsList t
  its_list = has_list t order step.whole

  pub tokens : TokensGo s e (group_step own s e)
  tokens = tokens_go own s e step.own_vote step.leading step.opens step.taken

  module _ (rules : MachineRules) (machine : List ℕ) (a : Applied) (caught : IsCaughtUp rules machine a (with_brought s e)) where
    -- the machine has run a front of what is applied
    pub has_run : HasRun rules machine a.last (applied_list t)
    has_run =
        let size = applied_size t its_list in
        let last = caught.last in
        let grows = step.grows in
        record {
          folded = caught.folded ∙ ap (fold_of rules) (sym step.front ∙ ap (λ k. take k (applied_list t)) (sym last));
          within = omega (arith, size, last, grows);
        }

    module _ (seen : Seen) (is : IsSeen seen t) where
      -- the log has the rest of it
      pub rest_read : (now : Option (LogId ℕ)) (run : List ℕ) → now ≡ later_id a.last seen.snapshot → HasRun rules run now (applied_list t) → entries_of t.stored now seen.committed ≡ drop (next_place now) (applied_list t)
      rest_read now run later h =
          let size = applied_size t its_list in
          let within = h.within in
          let covers : next_place (snapshot_last t.stored) ≤ next_place now =
          subst (λ o. next_place o ≤ next_place now) is.snapshot (subst (λ o. next_place seen.snapshot ≤ next_place o) (sym later) (later_covers a.last seen.snapshot)) in
          rest_of_log t its_list now seen.committed covers (omega (arith, size, within)) (ap next_place is.committed ∙ above_applied t order)

      pub whole_size : length (applied_list t) ≡ next_place seen.committed
      whole_size = applied_size t its_list ∙ sym (ap next_place is.committed ∙ above_applied t order)

      pub committed_place : place_of seen.committed ≡ t.committed
      committed_place = ap place_of is.committed ∙ order.committed

      pub leads : is_same_lead a.lead seen.lead ≡ leads_on s t
      leads = ap₂ is_same_lead caught.lead is.lead ∙ same_lead s t

      -- where the node leads on, those that wait do so behind what the machine has run
      pub rises : (now : Option (LogId ℕ)) → now ≡ later_id a.last seen.snapshot → is_same_lead a.lead seen.lead ≡ true → RiseFrom (next_place now) (untold_of a.waiting)
      rises now later on =
          let low : next_place seen.snapshot ≤ next_place a.last =
          subst (λ o. next_place o ≤ next_place a.last) (sym is.snapshot) (subst (λ k. next_place (snapshot_last t.stored) ≤ k) (sym caught.last) (step.built (sym leads ∙ on))) in
          let same : next_place now ≡ place_above s.applied = ap next_place (later ∙ stays_last a.last seen.snapshot low) ∙ caught.last in
          subst (λ xs. RiseFrom (next_place now) xs) (sym caught.waiting) (subst (λ k. RiseFrom k (s.untold ++ brought s e)) (sym same) step.rising)

      pub told_due : is_same_lead a.lead seen.lead ≡ true → (group_step own s e).told ≡ due_at (place_of seen.committed) (untold_of a.waiting)
      told_due on = tokens.told (sym leads ∙ on) ∙ sym (ap₂ due_at committed_place caught.waiting)

      pub later_wait : is_same_lead a.lead seen.lead ≡ true → later_than (place_of seen.committed) (untold_of a.waiting) ≡ t.untold
      later_wait on = ap₂ later_than committed_place caught.waiting ∙ sym (tokens.waits (sym leads ∙ on))

      pub none_unknown : is_same_lead a.lead seen.lead ≡ true → [] ≡ (group_step own s e).unknown
      none_unknown on = sym (tokens.none_unknown (sym leads ∙ on))

      -- where it doesn't, nobody is told and none waits
      pub none_told : is_same_lead a.lead seen.lead ≡ false → (group_step own s e).told ≡ []
      none_told off = tokens.none_told (sym leads ∙ off)

      pub none_wait : is_same_lead a.lead seen.lead ≡ false → [] ≡ t.untold
      none_wait off = sym (tokens.none_waits (sym leads ∙ off))

      pub all_unknown : is_same_lead a.lead seen.lead ≡ false → tokens_of (untold_of a.waiting) ≡ (group_step own s e).unknown
      all_unknown off =
          ap tokens_of (caught.waiting ∙ ap (λ ys. s.untold ++ ys) (none_brought own s e step.taken (sym leads ∙ off)) ∙ append-nil s.untold)
          ∙ sym (tokens.unknown (sym leads ∙ off))

-- ---- an opening

pub opening_is_step : (own : ℕ) (st : StoredGroup) → refusal_of own (state_of st) Open ≡ None → HasWholeSnapshot (group_step own (state_of st) Open).state → IsStep own (state_of st) Open
opening_is_step own st taken whole = record {
  taken = taken;
  own_vote = λ e. absurd (let f : false ≡ true = e in cc);
  leading = λ e. refl;
  opens = refl;
  rising = tt;
  grows = omega arith;
  front = refl;
  whole = whole;
  built = λ e. absurd (let f : false ≡ true = e in cc);
}
