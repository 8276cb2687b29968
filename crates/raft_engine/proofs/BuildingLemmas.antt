-- The snapshot of what is applied is stored: the rest stays in order, and the node plays on.
use Rattle.std.specs.Prelude.{◌≡◌, ℕ, ◌+◌, ◌≤◌, nat_lt, max, true, false, [], ◌∷◌, Option, Some, None, refl}
use Rattle.std.proofs.Common.{sym, ap, ◌∙◌, subst, arith, lt-ltb}
use Rattle.std.proofs.lemmas.Bool.Decides.{nat_tests}
use Rattle.raft_values.specs.declared.vote.Vote.{Vote}
use Rattle.raft_values.specs.declared.utime.UTime.{UTime}
use Rattle.raft_values.specs.declared.log_id.LogId.{LogId}
use Rattle.raft_values.specs.LogId.{next_place, place_of, stands_before}
use Rattle.raft_group_step.specs.StoredGroup.{Snapshot, SetSnapshot, after_storing, membership_in_force, snapshot_last}
use Rattle.raft_group_step.specs.GroupState.{GroupState, Role, Follower, Candidate, Leader}
use Rattle.raft_group_step.specs.GroupEvent.{Call}
use Rattle.raft_group_step.specs.declared.group_call.GroupCall.TheVariants.{TriggerSnapshot}
use Rattle.raft_group_step.specs.StepResult.{StepResult, store}
use Rattle.raft_group_step.specs.Frames.{committed_id}
use Rattle.raft_group_step.specs.Refusal.{range_reason, refusal_of, unknown_group}
use Rattle.raft_group_step.specs.GroupStep.{begun, finished, group_step}
use Rattle.raft_group_step.specs.SnapshotTrigger.{snapshot_of_applied, snapshot_trigger_step, store_snapshot_at}
use Rattle.raft_known_state.specs.KnownState.{KeepsRest, Knows}
use Rattle.raft_engine.specs.Numbering.{NumbersFollow}
use Rattle.raft_engine.specs.Committing.{Moves, moves_in}
use Rattle.raft_engine.specs.Answering.{NeedsNoOther}
use Rattle.std.specs.List.{All}
use Rattle.std.proofs.lemmas.List.Elements.{All-cons, All-nil}
use Rattle.raft_engine.specs.Commands.{sent_by, stored_by}
use Rattle.raft_engine.specs.Standing.{Engine, Given, IsInOrder, IsStateOf, IsStepOf, IsWholeStepOf, PlaysRole}
use Rattle.raft_engine.specs.Leading.{CountsOn}
use Rattle.raft_engine.specs.Building.{IsSnapshotOfApplied, asking, build_command, covered_id}
use Rattle.raft_engine.specs.Events.{CanFinish, HasLeadRoom, IsReady}
use Rattle.raft_engine.proofs.AppendLemmas.{next_of_place}
use Rattle.raft_engine.proofs.EventLemmas.{no_first_reason, unless_none}
use Rattle.raft_engine.proofs.PurgeLemmas.{KeepsStanding, plays_on, snapshot_known}
use Rattle.raft_engine.specs.Standing.{basis_before}
use Rattle.raft_engine.specs.Ordering.{AllRest}
use Rattle.raft_engine.specs.Turns.{Turns, turn_of, turns_in}
use Rattle.raft_engine.proofs.TurnLemmas.{fits_now}
use Rattle.raft_group_step.specs.GroupState.{is_leader}
use Rattle.std.proofs.Common.{ap₂}

-- a log id past all that a snapshot has
pub stands_past : (known : Option (LogId ℕ)) (last : LogId ℕ) → next_place known ≤ last.index → stands_before known (Some last) ≡ true
stands_past None last l = refl
stands_past (Some id) last l = lt-ltb id.index last.index (omega arith)

-- the event's numbers are in range
pub trigger_in_range : (own at : ℕ) (s : GroupState) → refusal_of own s (Call TriggerSnapshot at) ≡ None → range_reason s (at ∷ []) ≡ None
trigger_in_range own at s e =
    let range = range_reason s (at ∷ []) in
    (no_first_reason range [] (no_first_reason (unknown_group s) (range ∷ []) e).1).0

-- an engine that has asked for a snapshot stands for the same state
pub stands_asking : {C R : Type 0} (own : ℕ) (e : Engine C R) (s : GroupState) → IsStateOf own e s → IsStateOf own (asking e) s
stands_asking own e s h =
    let old = h.knows in
    record {
      config = h.config;
      knows = record { vote = old.vote; ids = old.ids; terms = old.terms; purged = old.purged; snapshot = old.snapshot; memberships = old.memberships; in_force = old.in_force; last_committed = old.last_committed; goal = old.goal };
      renewed = h.renewed;
      committed = h.committed;
      wish = h.wish;
      role = h.role;
      order = h.order;
    }

-- where the last snapshot has all that is applied the group stores none
not_past : (known : Option (LogId ℕ)) (applied : ℕ) (id : Option (LogId ℕ)) → place_of id ≡ Some applied → stands_before known id ≡ false → nat_lt applied (next_place known) ≡ true
not_past known applied None e h = cc e
not_past None applied (Some id) e h = absurd (let no : true ≡ false = h in cc)
not_past (Some last) applied (Some id) e h = let same : id.index ≡ applied = cc e in grind (arith, nat_tests, h, same)

pub nothing_to_build : {C R : Type 0} (own at : ℕ) (e : Engine C R) (s : GroupState) → IsStateOf own e s → stands_before (covered_id e) e.state.state.committed ≡ false
    → snapshot_trigger_step (begun at s) ≡ begun at s
nothing_to_build own at e s h none = by_place s.applied refl
  where
    covers : covered_id e ≡ snapshot_last s.stored
    covers = snapshot_known s.stored e.state.state.snapshot_meta h.knows.snapshot

    by_place : (o : Option ℕ) → s.applied ≡ o → snapshot_of_applied o (begun at s) ≡ begun at s
    by_place None f = refl
    by_place (Some applied) f =
        let at_place : place_of e.state.state.committed ≡ Some applied = ap place_of h.committed ∙ h.order.committed ∙ sym h.order.applied ∙ f in
        let has_all : nat_lt applied (next_place (snapshot_last s.stored)) ≡ true =
        ap (λ known. nat_lt applied (next_place known)) (sym covers) ∙ not_past (covered_id e) applied e.state.state.committed at_place none in
        rw has_all refl

module _ (s : GroupState) (x : Snapshot) (built : IsSnapshotOfApplied s x) where
  keeps_standing : KeepsStanding s.stored (after_storing (SetSnapshot x) s.stored)
  keeps_standing = record { vote = refl; last = refl; ends = refl; wrote = λ leader place h. h }

  pub order_with : (now : ℕ) → IsInOrder s → IsInOrder (record s { stored = after_storing (SetSnapshot x) s.stored; now = now })
  order_with now o =
      let next : next_place (committed_id s) ≡ x.last.index + 1 = next_of_place (committed_id s) x.last.index (o.committed ∙ sym o.applied ∙ built.applied) in
      let later = built.later in
      let purged = o.purged in
      record {
        placed = o.placed;
        purged = omega arith;
        snapshot = omega arith;
        committed = o.committed;
        applied = o.applied;
        within = o.within;
      }

  module _ (own at : ℕ) where
    -- the group stores it
    pub trigger_stores : snapshot_trigger_step (begun at s) ≡ store (SetSnapshot x) (begun at s)
    trigger_stores =
        let later = built.later in
        let past : nat_lt x.last.index (next_place (snapshot_last s.stored)) ≡ false = grind (arith, nat_tests, later) in
        ap (λ a. snapshot_of_applied a (begun at s)) built.applied
        ∙ rw past (ap (λ o. store_snapshot_at o (begun at s)) built.entry ∙ ap (λ (y : Snapshot). store (SetSnapshot y) (begun at s)) (sym built.covers))

    -- and who could finish can finish then
    pub builder_finishes : IsReady own s → (role : Role) → CanFinish own s role → CanFinish own (store (SetSnapshot x) (begun at s)).state role
    builder_finishes ready Follower h = tt
    builder_finishes ready (Candidate granters) h = tt
    builder_finishes ready (Leader lead) h =
        let room : HasLeadRoom own s lead = h in
        let with_snapshot : HasLeadRoom own (store (SetSnapshot x) (begun at s)).state lead =
        record {
          places = room.places;
          numbers = room.numbers;
          wish = λ place e. let within = ready.wish place e in let later = built.later in omega arith;
        } in
        with_snapshot

    module _ {C R : Type 0} (e e' : Engine C R) (h : IsStateOf own e s) where
      pub snapshot_stored : (g : Given) → g.snapshot ≡ x → e'.seen_greater_log ≡ g.seen_greater_log → NumbersFollow g.last_sm_seq e'.output → e.state.state.committed ≡ g.committed_before → g.stored_before ≡ s.stored → g.turn_before ≡ turn_of (is_leader s.role) → e'.config ≡ e.config → CountsOn (membership_in_force (after_storing (SetSnapshot x) s.stored)) e.leader e'.leader → e'.candidate ≡ e.candidate
          → Knows e'.state (after_storing (SetSnapshot x) s.stored) → KeepsRest e.state e'.state
          → (seq : ℕ) → e'.output.queue ≡ build_command seq ∷ [] → IsStepOf g own e' (store (SetSnapshot x) (begun at s))
      snapshot_stored g is seen numbers before begins turn config leader candidate knows rest seq queue =
          record {
            state = record {
              config = config ∙ h.config;
              knows = knows;
              renewed = ap (λ (v : UTime (Vote ℕ) ℕ). v.utime) rest.vote ∙ h.renewed;
              committed = rest.committed ∙ h.committed;
              wish = ap place_of rest.wish ∙ h.wish;
              role =
                  plays_on own e.leader e'.leader e'.candidate s.stored (after_storing (SetSnapshot x) s.stored) s.role keeps_standing leader
                  (subst (λ c. PlaysRole own e.leader c s.stored s.role) (sym candidate) h.role);
              order = order_with (max s.now at) h.order;
            };
            stores = ap (λ (y : Snapshot). stored_by y e'.output.queue) is ∙ ap (stored_by x) queue;
            sends = λ t upto. ap (sent_by own t upto) queue;
            seen = seen;
            numbers = numbers;
            moves = subst (λ q. Moves g.committed_before (moves_in q) e'.state.state.committed) (sym queue) (rest.committed ∙ before);
            at_once = subst (All NeedsNoOther) (sym queue) (All-cons NeedsNoOther (build_command seq) [] tt (All-nil NeedsNoOther));
            rests =
                subst (λ q. AllRest own g.snapshot (basis_before g) q (record { stored = after_storing (SetSnapshot x) s.stored; committed = e'.state.state.committed })) (sym queue)
                (tt, ap₂ (λ y k. record { stored = y; committed = k }) (ap (λ y. after_storing (SetSnapshot y) s.stored) (sym is) ∙ ap (after_storing (SetSnapshot g.snapshot)) (sym begins)) (rest.committed ∙ before));
            turns = subst (λ q. Turns g.turn_before (turns_in q) (is_leader s.role)) (sym queue) (subst (λ t. Turns t [] (is_leader s.role)) (sym turn) (fits_now (is_leader s.role)));
          }

      -- what is finished then is the group's step
      pub build_taken : (g : Given) → refusal_of own s (Call TriggerSnapshot at) ≡ None
          → IsWholeStepOf g own e' (finished own (place_of e.state.state.committed) (store (SetSnapshot x) (begun at s)))
          → IsWholeStepOf g own e' (group_step own s (Call TriggerSnapshot at))
      build_taken g accepted whole =
          let before : place_of e.state.state.committed ≡ s.committed = ap place_of h.committed ∙ h.order.committed in
          rw (unless_none own s (Call TriggerSnapshot at) (refusal_of own s (Call TriggerSnapshot at)) accepted)
          (subst (λ (r : StepResult). IsWholeStepOf g own e' (finished own s.committed r)) (sym trigger_stores)
          (subst (λ b. IsWholeStepOf g own e' (finished own b (store (SetSnapshot x) (begun at s)))) before whole))
