-- A crash of a node, and a halt by another group's event, change nothing of what is noted.
use Rattle.std.specs.Prelude.{◌≡◌, ℕ, true, false, List, [], ◌++◌, Option, Some, None, refl}
use Rattle.std.proofs.Common.{inl, inr, sym, ap, ◌∙◌, subst, ⊎_elim, append-nil}
use Rattle.raft_group_step.specs.Values.{Membership}
use Rattle.raft_group_step.specs.Message.{Message}
use Rattle.raft_laws.specs.declared.world_event.WorldEvent.{WorldEvent}
use Rattle.raft_laws.specs.declared.world_event.WorldEvent.TheVariants as event
use Rattle.raft_laws.specs.GroupWorld.{GroupWorld, Led, NodeState, Absent, Up, Down, Outcome, Done, Refused, Stopped, Skipped, is_stop}
use Rattle.raft_laws.specs.GroupRun.{ended, happens, led_after, outcome_of, sent_in, setup_after, stop_at}
use Rattle.raft_laws.specs.NodeEvent.{Crashes, Halts, Restarts, outcome_at, state_after}
use Rattle.raft_list_laws.specs.Changes.{with_setup}
use Rattle.raft_group_lists.specs.Notes.{Notes, no_notes}
use Rattle.raft_list_steps.specs.Lists.{IsListOf}
use Rattle.raft_list_steps.proofs.EventLemmas.{list_at_nodes, same_but_nodes}
use Rattle.raft_cluster_lists.specs.Keeping.{IsNotedOf, IsUntouched}

-- a world that differs from the other in its nodes alone
pub record IsQuiet (w v : GroupWorld) : Type 0 where
  pub messages : w.messages ≡ v.messages
  pub setup : w.setup ≡ v.setup
  pub led : w.led ≡ v.led

list_there : (s : Notes) (w v : GroupWorld) → IsQuiet w v → IsListOf s w → IsListOf s v
list_there s w v q h =
    subst (IsListOf s) (sym (same_but_nodes w v q.messages q.setup q.led)) (list_at_nodes s w v.nodes h)

pub quiet_has : (s : Notes) (asked : List Membership) (w v : GroupWorld) → IsQuiet w v → IsNotedOf s asked w → IsNotedOf s asked v
quiet_has s asked w v q has =
    ⊎_elim
    (λ h. inl (list_there s w v q h))
    (λ a.
    let m = a.0.membership in
    let same : IsQuiet (with_setup w m) (with_setup v m) = record { messages = q.messages; setup = refl; led = q.led } in
    inr (
      record {
        none = sym q.setup ∙ a.0.none;
        unled = sym q.led ∙ a.0.unled;
        membership = m;
        list = list_there s (with_setup w m) (with_setup v m) same a.0.list;
      },
      a.1,
    ))
    has

-- whatever the set-up
pub quiet_set_up : (s : Notes) (w v : GroupWorld) (m : Membership) → IsQuiet w v → IsListOf s (with_setup w m) → IsListOf s (with_setup v m)
quiet_set_up s w v m q h = list_there s (with_setup w m) (with_setup v m) (record { messages = q.messages; setup = refl; led = q.led }) h

pub quiet_untouched : (w v : GroupWorld) → IsQuiet w v → IsUntouched w → IsUntouched v
quiet_untouched w v q u = record { list = list_there no_notes w v q u.list; none = sym q.setup ∙ u.none }

-- the outcome of a crash or a halt, and the state that it leaves, say nothing
pub record IsSilent (e : WorldEvent) (o : Outcome) (n : ℕ) (state : NodeState) : Type 0 where
  pub sent : sent_in o ≡ []
  pub setup : (before : Option Membership) → setup_after before e o ≡ before
  pub led : led_after o n state ≡ []

silent_end : (w : GroupWorld) (e : WorldEvent) (o : Outcome) (n : ℕ) (state : NodeState) → IsSilent e o n state → IsQuiet w (ended w e o n state)
silent_end w e o n state silent =
    record {
      messages = sym (ap (λ (ms : List Message). w.messages ++ ms) silent.sent ∙ append-nil w.messages);
      setup = sym (silent.setup w.setup);
      led = sym (ap (λ (ls : List Led). w.led ++ ls) silent.led ∙ append-nil w.led);
    }

same_setup : (e : WorldEvent) (o : Outcome) → setup_after None e o ≡ None → (before : Option Membership) → setup_after before e o ≡ before
same_setup e o none None = none
same_setup e o none (Some m) = refl

crash_silent : (n : ℕ) (stop : Option ℕ) (x : NodeState) → IsSilent (event.Crash n) (outcome_at n Crashes false x) n (state_after n Crashes stop x)
crash_silent n stop Absent = record { sent = refl; setup = same_setup (event.Crash n) Skipped refl; led = refl }
crash_silent n stop (Up s) = record { sent = refl; setup = same_setup (event.Crash n) (Done [] [] []) refl; led = refl }
crash_silent n stop (Down st) = record { sent = refl; setup = same_setup (event.Crash n) Skipped refl; led = refl }

halt_silent : (n : ℕ) (stop : Option ℕ) (x : NodeState) → IsSilent (event.Halt n) (outcome_at n Halts true x) n (state_after n Halts stop x)
halt_silent n stop Absent = record { sent = refl; setup = same_setup (event.Halt n) Skipped refl; led = refl }
halt_silent n stop (Up s) = record { sent = refl; setup = same_setup (event.Halt n) (outcome_at n Halts true (Up s)) refl; led = refl }
halt_silent n stop (Down st) = record { sent = refl; setup = same_setup (event.Halt n) Skipped refl; led = refl }

pub crashes_are_quiet : (w : GroupWorld) (n : ℕ) → IsQuiet w (happens w (event.Crash n) (outcome_of w (event.Crash n) false) 0)
crashes_are_quiet w n =
    let o = outcome_of w (event.Crash n) false in
    let stop = stop_at (is_stop o) 0 in
    silent_end w (event.Crash n) o n (state_after n Crashes stop (w.nodes n)) (crash_silent n stop (w.nodes n))

pub halts_are_quiet : (w : GroupWorld) (n : ℕ) → IsQuiet w (happens w (event.Halt n) (outcome_of w (event.Halt n) true) 0)
halts_are_quiet w n =
    let o = outcome_of w (event.Halt n) true in
    let stop = stop_at (is_stop o) 0 in
    silent_end w (event.Halt n) o n (state_after n Halts stop (w.nodes n)) (halt_silent n stop (w.nodes n))

-- an opening that stopped, or was skipped, says nothing
abbrev pub IsIdle : Outcome → Type 0
IsIdle (Done sent told unknown) = ⊥
IsIdle (Refused why) = ⊥
IsIdle (Stopped unknown) = Unit {0}
IsIdle Skipped = Unit {0}

restart_silent : (n : ℕ) (o : Outcome) (state : NodeState) → IsIdle o → IsSilent (event.Restart n) o n state
restart_silent n (Done sent told unknown) state idle = absurd idle
restart_silent n (Refused why) state idle = absurd idle
restart_silent n (Stopped unknown) state idle = record { sent = refl; setup = same_setup (event.Restart n) (Stopped unknown) refl; led = refl }
restart_silent n Skipped state idle = record { sent = refl; setup = same_setup (event.Restart n) Skipped refl; led = refl }

pub idle_restarts_are_quiet : (w : GroupWorld) (n : ℕ) (o : Outcome) (k : ℕ) → IsIdle o → IsQuiet w (happens w (event.Restart n) o k)
idle_restarts_are_quiet w n o k idle =
    let state = state_after n Restarts (stop_at (is_stop o) k) (w.nodes n) in
    silent_end w (event.Restart n) o n state (restart_silent n o state idle)
