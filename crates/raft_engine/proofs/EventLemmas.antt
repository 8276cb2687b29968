-- From the words of the group step to its events.
use Rattle.std.specs.Prelude.{◌≡◌, ◌||◌, ℕ, max, Bool, true, false, List, [], ◌∷◌, Option, Some, None, refl}
use Rattle.std.proofs.Common.{ap, sym, ◌∙◌, subst}
use Rattle.raft_values.specs.LogId.{place_of}
use Rattle.raft_group_step.specs.StoredGroup.{Snapshot}
use Rattle.raft_group_step.specs.Message.{MessageBody}
use Rattle.raft_group_step.specs.GroupState.{GroupState, Follower, is_leader}
use Rattle.raft_group_step.specs.GroupEvent.{GroupEvent}
use Rattle.raft_group_step.specs.StepResult.{StepResult, RefusalReason, unchanged}
use Rattle.raft_group_step.specs.Refusal.{first_of_reasons, refusal_of}
use Rattle.raft_group_step.specs.GroupStep.{begun, event_step, finished, step_unless}
use Rattle.raft_engine.specs.Numbering.{Follow, numbers_in}
use Rattle.raft_engine.specs.Committing.{Moves, moves_in}
use Rattle.raft_engine.specs.Answering.{NeedsNoOther}
use Rattle.std.specs.List.{All}
use Rattle.std.proofs.lemmas.List.Elements.{All-nil}
use Rattle.raft_engine.specs.Commands.{sent_by, stored_by}
use Rattle.raft_engine.specs.Standing.{Engine, Given, IsInOrder, IsStateOf, IsStepOf, IsWholeStepOf, basis_of, given, given_at_start}
use Rattle.raft_engine.specs.Events.{HasTaken, MayTake, given_after, received, tells_greater_log}
use Rattle.raft_engine.specs.Ordering.{AllRest}
use Rattle.raft_engine.specs.Turns.{MayLead, Turns, turn_of, turns_in}
use Rattle.raft_engine.proofs.TurnLemmas.{fits_now}

-- another moment leaves the places in order
abbrev with_moment : ℕ → GroupState → GroupState
with_moment now s = record s { now = now }

order_at : (s : GroupState) (now : ℕ) → IsInOrder s → IsInOrder (with_moment now s)
order_at s now o =
    record { placed = o.placed; purged = o.purged; snapshot = o.snapshot; committed = o.committed; applied = o.applied; within = o.within }

module _ {C R : Type 0} (x : Snapshot) (own : ℕ) (e : Engine C R) (s : GroupState) where
  -- the engine stands for the state at each moment
  pub stands_at : (now : ℕ) → IsStateOf own e s → IsStateOf own e (with_moment now s)
  stands_at now h =
      record {
        config = h.config;
        knows = h.knows;
        renewed = h.renewed;
        committed = h.committed;
        wish = h.wish;
        role = h.role;
        order = order_at s now h.order;
      }

  -- with nothing left to do it stands for a step that does nothing
  pub step_unchanged : IsStateOf own e s → e.output.queue ≡ [] → IsStepOf (given x e s) own e (unchanged s)
  step_unchanged h empty =
      record {
        state = h;
        stores = ap (stored_by x) empty;
        sends = λ stored upto. ap (sent_by own stored upto) empty;
        seen = refl;
        numbers = subst (λ queue. Follow e.output.last_sm_seq (numbers_in queue) e.output.last_sm_seq) (sym empty) refl;
        moves = subst (λ queue. Moves e.state.state.committed (moves_in queue) e.state.state.committed) (sym empty) refl;
        at_once = subst (All NeedsNoOther) (sym empty) (All-nil NeedsNoOther);
        rests = subst (λ queue. AllRest own x (basis_of e s) queue (basis_of e s)) (sym empty) refl;
        turns = subst (λ queue. Turns (turn_of (is_leader s.role)) (turns_in queue) (is_leader s.role)) (sym empty) (fits_now (is_leader s.role));
      }

  -- and so as a node starts
  pub step_at_start : IsStateOf own e s → e.output.queue ≡ [] → s.role ≡ Follower → IsStepOf (given_at_start x e s) own e (unchanged s)
  step_at_start h empty follows =
      let step = step_unchanged h empty in
      record {
        state = step.state;
        stores = step.stores;
        sends = step.sends;
        seen = step.seen;
        numbers = step.numbers;
        moves = step.moves;
        at_once = step.at_once;
        rests = step.rests;
        turns = subst (λ queue. Turns MayLead (turns_in queue) (is_leader s.role)) (sym empty) (ap is_leader follows);
      }

-- and so as an event begins
pub step_begun : {C R : Type 0} (x : Snapshot) (own at : ℕ) (e : Engine C R) (s : GroupState) → IsStateOf own e s → e.output.queue ≡ [] → IsStepOf (given x e s) own e (begun at s)
step_begun x own at e s h empty = step_unchanged x own e (with_moment (max s.now at) s) (stands_at x own e s (max s.now at) h) empty

pub unless_none : (own : ℕ) (s : GroupState) (event : GroupEvent) (why : Option RefusalReason) → why ≡ None → step_unless why own s event ≡ finished own s.committed (event_step own s event)
unless_none own s event None e = refl
unless_none own s event (Some why) e = absurd (let no : Some why ≡ None = e in cc)

-- what is finished of an event that isn't refused is the group's step
pub event_taken : {C R : Type 0} (x : Snapshot) (own : ℕ) (e e' : Engine C R) (s : GroupState) (event : GroupEvent) → MayTake own e s event
    → IsWholeStepOf (given_after x e s event) own e' (finished own (place_of e.state.state.committed) (event_step own s event)) → HasTaken x own e e' s event
event_taken x own e e' s event may h =
    let before : place_of e.state.state.committed ≡ s.committed = ap place_of may.stands.committed ∙ may.stands.order.committed in
    rw (unless_none own s event (refusal_of own s event) may.accepted)
    (subst (λ b. IsWholeStepOf (given_after x e s event) own e' (finished own b (event_step own s event))) before h)

-- the same step by an engine that knows otherwise of greater logs
pub knowing : {C R : Type 0} (x : Given) (own : ℕ) (e : Engine C R) (r : StepResult) (seen : Bool) → IsWholeStepOf x own e r
    → IsWholeStepOf (record x { seen_greater_log = seen }) own (record e { seen_greater_log = seen }) r
knowing x own e r seen h =
    let old = h.state in
    record {
      state = record {
        config = old.config;
        knows = old.knows;
        renewed = old.renewed;
        committed = old.committed;
        wish = old.wish;
        role = old.role;
        order = old.order;
      };
      stores = h.stores;
      sends = h.sends;
      seen = refl;
      numbers = h.numbers;
      moves = h.moves;
      at_once = h.at_once;
      part = h.part;
      rests = h.rests;
      turns = h.turns;
    }

module _ {C R : Type 0} (x : Snapshot) (own peer at : ℕ) (e e' : Engine C R) (s : GroupState) (body : MessageBody) (may : MayTake own e s (received own peer body at))
    (whole : IsWholeStepOf (given x e s) own e' (finished own (place_of e.state.state.committed) (event_step own s (received own peer body at)))) where
  abbrev done : StepResult
  done = finished own (place_of e.state.state.committed) (event_step own s (received own peer body at))

  -- an answer has told of a greater log, which is noted
  pub told_taken : (e'' : Engine C R) → tells_greater_log s body ≡ true → e'' ≡ record e' { seen_greater_log = true } → HasTaken x own e e'' s (received own peer body at)
  told_taken e'' told noted =
      event_taken x own e e'' s (received own peer body at) may
      (subst (λ y. IsWholeStepOf (given_after x e s (received own peer body at)) own y done) (sym noted)
      (subst (λ b. IsWholeStepOf (record (given x e s) { seen_greater_log = b || e.seen_greater_log }) own (record e' { seen_greater_log = true }) done) (sym told)
      (knowing (given x e s) own e' done true whole)))

  -- it has told of none
  pub untold_taken : tells_greater_log s body ≡ false → HasTaken x own e e' s (received own peer body at)
  untold_taken untold =
      event_taken x own e e' s (received own peer body at) may
      (subst (λ b. IsWholeStepOf (record (given x e s) { seen_greater_log = b || e.seen_greater_log }) own e' done) (sym untold) whole)

-- ---- what holds of an event that isn't refused

-- neither the first reason nor a later one counts
pub no_first_reason : (reason : Option RefusalReason) (rest : List (Option RefusalReason)) → first_of_reasons (reason ∷ rest) ≡ None → (reason ≡ None) × (first_of_reasons rest ≡ None)
no_first_reason None rest e = (refl, e)
no_first_reason (Some why) rest e = absurd (let no : Some why ≡ None = e in cc)
