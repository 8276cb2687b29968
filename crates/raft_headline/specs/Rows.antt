-- Small cluster histories for the worked rows: one node, groups 7 and 9.
use Rattle.std.specs.Prelude.{ℕ, List, [], ◌∷◌, ◌++◌, None}
use Rattle.raft_values.specs.LogId.{log_id_of}
use Rattle.raft_state.specs.declared.entry.EntryPayload.TheVariants.{Membership as Members}
use Rattle.raft_group_step.specs.Values.{Entry, EntryPayload, entry_of}
use Rattle.raft_group_step.specs.GroupState.{GroupState, Untold}
use Rattle.raft_group_step.specs.declared.group_call.GroupCall.TheVariants.{Heartbeat, Initialize, Propose}
use Rattle.raft_group_step.specs.GroupEvent.{Call, GroupCall, GroupEvent}
use Rattle.raft_group_step.specs.StepResult.{NotLeader}
use Rattle.raft_laws.specs.declared.world_event.WorldEvent.TheVariants as event
use Rattle.raft_laws.specs.GroupWorld.{GroupWorld}
use Rattle.raft_laws.specs.Example.{add, membership_of, run_of}
use Rattle.raft_laws.specs.LawRuns.{blank_at, state_in}
use Rattle.raft_laws.specs.OriginRun.{command_at}
use Rattle.raft_laws.specs.OneVoter.{one}
use Rattle.raft_machines.specs.Machine.{MachineRules}
use Rattle.raft_headline.specs.ClusterEvent.{ClusterEvent, AddGroup, Ask, Crash, Reopen}
use Rattle.raft_headline.specs.ClusterEvent.{ClusterOutcome, Done, Opened, Refused, Stopped, Fused, PassedOver, TurnedAway, Recorded, Said, Unknown, silent}
use Rattle.raft_machines.specs.declared.telling.Told.{Told}
use Rattle.raft_headline.specs.Machines.{Replicas, new_replicas}
use Rattle.raft_headline.specs.Replaying.{ReplaysWith}

abbrev pub at_one : ClusterEvent → ClusterOutcome → Recorded
at_one e o = record { event = e; node = 1; outcome = o }

-- group 7 is asked for something, or for the command that adds the amount
abbrev pub asks_seven : GroupCall → ClusterEvent
asks_seven call = Ask 1 7 call 0

abbrev pub proposes : (amount token : ℕ) → ClusterEvent
proposes amount token = asks_seven (Propose (add amount) token)

abbrev pub set_up : GroupCall
set_up = Initialize (membership_of one [])

abbrev pub told_at : (token place : ℕ) → List ℕ → Told
told_at token place answer = record { token = token; place = place; answer = answer }

abbrev pub tells : Told → Said
tells t = record { sent = []; told = t ∷ []; unknown = [] }

-- a command is told at place 2, behind a set-up and a blank
abbrev pub told_event : Recorded
told_event = at_one (proposes 5 1) (Done (tells (told_at 1 2 (2 ∷ add 5))))

abbrev pub unknown_of : (group token : ℕ) → Unknown
unknown_of group token = record { group = group; token = token }

abbrev pub waits : (token place : ℕ) → Untold
waits token place = record { token = token; place = place }

-- a machine that collects its commands, and answers with the place and all of them
abbrev pub collecting : MachineRules
collecting =
    record {
      first = [];
      step = λ state place command. state ++ command;
      answer = λ state place command. place ∷ state ++ command;
      snapshot = λ state. state;
      restored = λ bytes. bytes;
    }

-- group 7 refuses a command and is set up
abbrev pub before_told : List Recorded
before_told =
    at_one (AddGroup 1 7) (Done silent) ∷ at_one (proposes 8 4) (Refused (NotLeader None))
    ∷ at_one (asks_seven set_up) (Done silent) ∷ at_one (AddGroup 1 9) (Done silent) ∷ []

-- group 9 stops the node, which is opened; then a command of group 7 stops it
abbrev pub behind_told : List Recorded
behind_told =
    at_one (Ask 1 9 set_up 0) Fused ∷ at_one (proposes 7 3) PassedOver
    ∷ at_one (Reopen 1) (Opened ((7, silent) ∷ (9, silent) ∷ []))
    ∷ at_one (proposes 7 5) (Stopped (unknown_of 7 5 ∷ [])) ∷ []

abbrev pub until_stopped : List Recorded
until_stopped = before_told ++ told_event ∷ behind_told

-- then the node crashes
abbrev pub at_the_end : List Recorded
at_the_end = at_one (Crash 1) (Done silent) ∷ at_one (proposes 9 6) TurnedAway ∷ []

abbrev pub history : List Recorded
history = until_stopped ++ at_the_end

-- or it is opened, and the same command is told
abbrev pub noted_again : List Recorded
noted_again =
    until_stopped
    ++ at_one (Reopen 1) (Opened ((7, silent) ∷ (9, silent) ∷ []))
    ∷ at_one (proposes 7 6) (Done (tells (told_at 6 3 (3 ∷ add 5 ++ add 7)))) ∷ []

-- an entry of the first log id, that no leader wrote
abbrev pub first_entry : EntryPayload → Entry
first_entry payload = entry_of (log_id_of 0 0 0) payload

abbrev pub set_up_entry : Entry
set_up_entry = first_entry (Members (membership_of one []))

-- the list that they lead to: the set-up's entry, the leader's blank, and the command that was told
abbrev pub its_list : List Entry
its_list = set_up_entry ∷ blank_at 1 ∷ command_at 2 (add 5) ∷ []

-- a history leads there for group 7, with these numbers of its stops, from a node that knows of no group
abbrev pub LeadsTo : List Recorded → List ℕ → Replicas → Type 0
LeadsTo rs numbers end = ReplaysWith collecting 7 (new_replicas collecting one) rs numbers end

-- ---- worlds of one group

-- one voter leads, and has told the command then
abbrev pub leading : GroupWorld
leading = run_of one (event.Add 1 ∷ event.Ask 1 set_up 0 ∷ [])

abbrev pub has_told : GroupWorld
has_told = run_of one (event.Add 1 ∷ event.Ask 1 set_up 0 ∷ event.Ask 1 (Propose (add 5) 1) 0 ∷ [])

-- node 1's state there
abbrev pub state_there : GroupWorld → GroupState
state_there w = state_in (w.nodes 1)

-- the leader where these wait for it
abbrev pub with_waiting : List Untold → GroupState
with_waiting waiting = record (state_there leading) { untold = waiting }

-- it is asked for a heartbeat, which brings no token
abbrev pub beats : GroupEvent
beats = Call Heartbeat 0

-- replicas in a world, whatever their machines are
abbrev pub in_world : GroupWorld → Replicas
in_world w = record { world = w; machines = λ n. []; built = [] }
