-- What an event does at its node, followed by the ballot machine.
use Rattle.std.specs.Prelude.{◌≡◌, ◌⊎◌, ℕ, zero, suc, ◌<◌, ◌^◌, Bool, true, false, List, [], ◌++◌, length, take, Option, Some, None, refl}
use Rattle.std.proofs.Common.{sym, subst, ⊎_elim}
use Rattle.raft_group_step.specs.Values.{Membership}
use Rattle.raft_group_step.specs.StoredGroup.{StoredGroup, StoringCommand, after_storing_all}
use Rattle.raft_group_step.specs.Message.{Message}
use Rattle.raft_group_step.specs.GroupState.{GroupState, state_of}
use Rattle.raft_group_step.specs.GroupEvent.{GroupEvent, Open}
use Rattle.raft_group_step.specs.StepResult.{StepResult, RefusalReason, refused_step}
use Rattle.raft_group_step.specs.Refusal.{refusal_of}
use Rattle.raft_group_step.specs.GroupStep.{group_step, step_unless}
use Rattle.raft_laws.specs.BallotWorld.{BallotWorld, BallotEvent, ballot_start}
use Rattle.raft_laws.specs.BallotRanks.{ballot_group}
use Rattle.raft_laws.specs.GroupWorld.{NodeState, Absent, Up, Down, Led, Outcome}
use Rattle.raft_laws.specs.NodeEvent.{NodeEvent, Comes, Crashes, Halts, Restarts, after_step, outcome_at, outcome_of_end, outcome_of_step, outcome_of_stop, state_after}
use Rattle.raft_laws.specs.GroupRun.{led_after, led_by, sent_in, stop_at}
use Rattle.raft_laws.specs.Stop.{stopped_after}
use Rattle.raft_laws.proofs.BallotSafe.{Among}
use Rattle.raft_laws.proofs.BallotStep.{Later, later_refl}
use Rattle.raft_laws.proofs.BallotRuns.{run_next}
use Rattle.raft_laws.proofs.BallotSettling.{run_append}
use Rattle.raft_laws.proofs.BallotOthers.{Extends, extends_refl, run_extends}
use Rattle.raft_laws.proofs.Standing.{MessageFits, up_down}
use Rattle.raft_laws.proofs.StepFits.{NodeFits, StopFits, EventFits, StepEnd, world_after, world_later}
use Rattle.raft_laws.proofs.StepDispatch.{step_fits, opening_fits}
use Rattle.raft_laws.proofs.WorldFits.{LedFits, NodeStateFits, after_safe, led_in}

pub store_none : (k : ℕ) (st : StoredGroup) → after_storing_all (take k (let cs : List StoringCommand = [] in cs)) st ≡ st
store_none zero st = refl
store_none (suc k) st = refl

-- an event at a node: its end in the ballot machine
pub record NodeEnd (m : Membership) (before : List BallotEvent) (n : ℕ) (state : NodeState) (sent : List Message) (led : List Led) : Type 0 where
  pub after : List BallotEvent
  pub extends : Extends n (world_after m before) (world_after m after)
  pub later : Later (world_after m before) (world_after m after)
  pub fits : NodeStateFits m (world_after m after) n state
  pub messages : (x : Message) → Among x sent → MessageFits m (world_after m after) x
  pub notes : (l : Led) → Among l led → LedFits m (world_after m after) l

-- an event that comes fits, or is refused
abbrev pub MayCome : Membership → BallotWorld → ℕ → GroupState → GroupEvent → Type 0
MayCome m b n s e = EventFits m b e ⊎ ((why : RefusalReason) × (refusal_of n s e ≡ Some why))

-- the same at a node in any state
abbrev pub MayHappen : Membership → BallotWorld → ℕ → NodeEvent → NodeState → Type 0
MayHappen m b n (Comes e) (Up s) = MayCome m b n s e
MayHappen m b n (Comes e) Absent = Unit {0}
MayHappen m b n (Comes e) (Down stored) = Unit {0}
MayHappen m b n Crashes x = Unit {0}
MayHappen m b n Halts x = Unit {0}
MayHappen m b n Restarts x = Unit {0}

module _ (m : Membership) (some : 0 < length m.configs) (before : List BallotEvent) (n : ℕ) where
  -- nothing happens
  pub stays_end : (x : NodeState) → NodeStateFits m (world_after m before) n x → NodeEnd m before n x [] []
  stays_end x h =
      record {
        after = before;
        extends = extends_refl n (world_after m before);
        later = later_refl (world_after m before);
        fits = h;
        messages = λ y a. absurd a;
        notes = λ y a. absurd a;
      }

  -- a refused event changes nothing
  refused_end : (s : GroupState) (why : RefusalReason) → NodeFits m (world_after m before) n s → StepEnd m n before s.stored (refused_step s why)
  refused_end s why h =
      record {
        later = record { events = []; by = tt };
        node = h;
        messages = λ x a. absurd a;
        stops = λ k.
            record {
              later = record { events = []; by = tt };
              fits =
                  subst (StopFits m (world_after m before) n) (sym (store_none k s.stored))
                  (record { down = up_down h.up; lead = h.lead });
            };
      }

  pub comes_end : n < 2 ^ 64 → (s : GroupState) (e : GroupEvent) → NodeFits m (world_after m before) n s → MayCome m (world_after m before) n s e → StepEnd m n before s.stored (group_step n s e)
  comes_end small s e h may =
      ⊎_elim
      (λ fits. step_fits m some n small before s e h fits)
      (λ no. subst (λ o. StepEnd m n before s.stored (step_unless o n s e)) (sym no.1) (refused_end s no.0 h))
      may

  module _ (small : n < 2 ^ 64) (s : GroupState) (r : StepResult) (end : StepEnd m n before s.stored r) where
    -- what a step gives, when it ran to its end or stopped after k storing commands
    abbrev Ended : Outcome → NodeState → Type 0
    Ended o x = NodeEnd m before n x (sent_in o) (led_after o n x)

    at_end : (sent : List Message) (led : List Led) → ((x : Message) → Among x sent → Among x r.messages) → ((l : Led) → Among l led → Among l (led_by n (Up r.state))) → NodeEnd m before n (Up r.state) sent led
    at_end sent led few few' =
        let events = end.later.events in
        let is : world_after m before' ≡ world_later m n before end.later = run_append (ballot_group m) some before events (ballot_start (ballot_group m)) in
        let fits : NodeFits m (world_after m before') n r.state = subst (λ b. NodeFits m b n r.state) (sym is) end.node in
        record {
          after = before';
          extends =
              subst (Extends n (world_after m before)) (sym is)
              (run_extends (ballot_group m) n events (world_after m before) end.later.by);
          later =
              subst (Later (world_after m before)) (sym is)
              (run_next (ballot_group m) some (world_after m before) events (after_safe m some before)).later;
          fits = (small, fits);
          messages = λ x a. subst (λ b. MessageFits m b x) (sym is) (end.messages x (few x a));
          notes = λ l a. led_in m some before' n r.state fits.up r.state.role fits.role l (few' l a);
        }
      where
        before' : List BallotEvent
        before' = before ++ end.later.events

    of_end : (why : Option RefusalReason) → Ended (outcome_of_end r why) (Up r.state)
    of_end None = at_end r.messages (led_by n (Up r.state)) (λ x a. a) (λ l a. a)
    of_end (Some why) = at_end [] (led_by n (Up r.state)) (λ x a. absurd a) (λ l a. a)

    -- the node is down after its first k storing commands
    down_end : (k : ℕ) → NodeEnd m before n (Down (stopped_after k s.stored r)) [] []
    down_end k =
        let stop = end.stops k in
        let events = stop.later.events in
        let is : world_after m (before ++ events) ≡ world_later m n before stop.later = run_append (ballot_group m) some before events (ballot_start (ballot_group m)) in
        record {
          after = before ++ events;
          extends =
              subst (Extends n (world_after m before)) (sym is)
              (run_extends (ballot_group m) n events (world_after m before) stop.later.by);
          later =
              subst (Later (world_after m before)) (sym is)
              (run_next (ballot_group m) some (world_after m before) events (after_safe m some before)).later;
          fits = (small, subst (λ b. StopFits m b n (after_storing_all (take k r.commands) s.stored)) (sym is) stop.fits);
          messages = λ x a. absurd a;
          notes = λ l a. absurd a;
        }

    of_stop : (k : ℕ) (e : GroupEvent) (why : Option RefusalReason) → Ended (outcome_of_stop s e r why) (Down (stopped_after k s.stored r))
    of_stop k e None = down_end k
    of_stop k e (Some why) = down_end k

    pub step_end : (stopped : Bool) (k : ℕ) (e : GroupEvent) → Ended (outcome_of_step stopped s e r) (after_step (stop_at stopped k) s r)
    step_end false k e = of_end r.refused
    step_end true k e = of_stop k e r.refused

  -- each event at a node that fits, whatever it is
  pub node_event : (e : NodeEvent) (stopped : Bool) (k : ℕ) (x : NodeState) → NodeStateFits m (world_after m before) n x → MayHappen m (world_after m before) n e x → NodeEnd m before n (state_after n e (stop_at stopped k) x) (sent_in (outcome_at n e stopped x)) (led_after (outcome_at n e stopped x) n (state_after n e (stop_at stopped k) x))
  node_event e stopped k Absent h may = stays_end Absent h
  node_event (Comes e) stopped k (Up s) h may =
      step_end h.0 s (group_step n s e) (comes_end h.0 s e h.1 may) stopped k e
  node_event Crashes stopped k (Up s) h may = stays_end (Down s.stored) (h.0, record { down = up_down h.1.up; lead = h.1.lead })
  node_event Halts stopped k (Up s) h may = stays_end (Down s.stored) (h.0, record { down = up_down h.1.up; lead = h.1.lead })
  node_event Restarts stopped k (Up s) h may = stays_end (Up s) h
  node_event (Comes e) stopped k (Down stored) h may = stays_end (Down stored) h
  node_event Crashes stopped k (Down stored) h may = stays_end (Down stored) h
  node_event Halts stopped k (Down stored) h may = stays_end (Down stored) h
  node_event Restarts stopped k (Down stored) h may =
      step_end h.0 (state_of stored) (group_step n (state_of stored) Open) (opening_fits m some n h.0 before stored h.1) stopped k Open
