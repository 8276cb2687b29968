-- The events of a cluster that lines name.
use Rattle.std.specs.Prelude.{ℕ, Bool, true, false, ◌+◌, ◌-◌, ◌^◌, min, nat_eq, List, [], ◌∷◌, ◌++◌, map, Option, Some, None, codes}
use Rattle.std.specs.Fmt.{decimal}
use Rattle.std.specs.Ordering.{nat_cmp}
use Rattle.std.specs.Str.{is_utf8}
use Rattle.raft_quorums.specs.Quorum.{rising_ids}
use Rattle.raft_quorums.specs.Nodes.{with_node}
use Rattle.raft_membership.specs.Membership.{one_group}
use Rattle.raft_membership.specs.declared.change_members.ChangeMembers.TheVariants.{AddVoterIds, SetNodes}
use Rattle.raft_group_step.specs.Values.{Membership}
use Rattle.raft_group_step.specs.GroupEvent.{GroupCall}
use Rattle.raft_group_step.specs.declared.group_call.GroupCall.TheVariants as calls
use Rattle.raft_cluster_events.specs.declared.event.ClusterEvent.{ClusterEvent}
use Rattle.raft_cluster_events.specs.declared.event.ClusterEvent.TheVariants as events
use Rattle.raft_cluster_events.specs.declared.event.CrashChoice.{CrashChoice}
use Rattle.raft_cluster_events.specs.declared.event.CrashChoice.TheVariants as choices
use Rattle.raft_script_lines.specs.declared.script_line.CrashChoice.{CrashChoice as LineChoice}
use Rattle.raft_script_lines.specs.declared.script_line.CrashChoice.TheVariants as lines
use Rattle.raft_script_lines.specs.declared.script_line.ScriptEvent.{ScriptEvent}
use Rattle.raft_script_lines.specs.declared.script_line.ScriptEvent.TheVariants as said

-- a set-up's node has the address `n` and its id
abbrev pub with_address : ℕ → ℕ × List ℕ
with_address id = (id, codes "n" ++ decimal id)

abbrev pub with_addresses : List ℕ → List (ℕ × List ℕ)
with_addresses ids = map with_address ids

abbrev pub membership_of : List ℕ → List ℕ → Membership
membership_of voters learners = one_group nat_eq nat_cmp (with_addresses voters) (with_addresses learners)

abbrev pub choice_of : LineChoice → CrashChoice
choice_of lines.Least = choices.Least
choice_of lines.Most = choices.Most

abbrev pub cuts_at : Option ℕ → List ℕ
cuts_at None = []
cuts_at (Some cut) = cut ∷ []

-- an address is text, as each word of a line
abbrev pub change_if : Bool → ℕ → List ℕ → ℕ → Option GroupCall
change_if true id address token = Some (calls.ChangeMembership (SetNodes (with_node nat_cmp [] id address)) token)
change_if false id address token = None

abbrev pub asked_at : ℕ → ℕ → ℕ → Option GroupCall → Option ClusterEvent
asked_at node group now None = None
asked_at node group now (Some call) = Some (events.Ask node group call now)

-- a command is proposed, where the machine has one in these words
abbrev pub proposed_at : ℕ → ℕ → ℕ → ℕ → Option (List ℕ) → Option ClusterEvent
proposed_at node group now token None = None
proposed_at node group now token (Some command) = Some (events.Ask node group (calls.Propose command token) now)

-- what a line asks of a node's group, other than to run a command
abbrev pub asked_by : ℕ → ℕ → ScriptEvent → Option ClusterEvent
asked_by now token (said.Init node group voters learners) =
    Some (events.Ask node group (calls.Initialize (membership_of voters learners)) now)
asked_by now token (said.Elect node group) = Some (events.Ask node group calls.Elect now)
asked_by now token (said.Heartbeat node group) = Some (events.Ask node group calls.Heartbeat now)
asked_by now token (said.Lost node group peer) = Some (events.Ask node group (calls.Lost peer) now)
asked_by now token (said.Snapshot node group) = Some (events.Ask node group calls.TriggerSnapshot now)
asked_by now token (said.Purge node group index) = Some (events.Ask node group (calls.TriggerPurge index) now)
asked_by now token (said.Addr node group id address) = asked_at node group now (change_if (is_utf8 address) id address token)
asked_by now token (said.Voters node group ids) =
    Some (events.Ask node group (calls.ChangeMembership (AddVoterIds (rising_ids nat_cmp ids)) token) now)
asked_by now token _ = None

-- the event that a line names, at a moment and where the line's token is this one
abbrev pub event_by : Option (List ℕ) → ℕ → ℕ → ScriptEvent → Option ClusterEvent
event_by command now token (said.Add node group) = Some (events.AddGroup node group)
event_by command now token (said.Propose node group amount) = proposed_at node group now token command
event_by command now token (said.Put node group key value) = proposed_at node group now token command
event_by command now token (said.Get node group key) = proposed_at node group now token command
event_by command now token (said.Drop node group key) = proposed_at node group now token command
event_by command now token (said.Deliver group number cut) = Some (events.Deliver group number (cuts_at cut) now)
event_by command now token (said.Clean node) = Some (events.Clean node)
event_by command now token (said.Crash node choice) = Some (events.Crash node (choice_of choice))
event_by command now token (said.Reopen node workers) = Some (events.Reopen node workers)
event_by command now token event = asked_by now token event

-- the command that it proposes is in the machine's words
abbrev pub event_of : (ScriptEvent → Option (List ℕ)) → ℕ → ℕ → ScriptEvent → Option ClusterEvent
event_of proposes now token event = event_by (proposes event) now token event

-- the line takes a token
abbrev pub has_token : ScriptEvent → Bool
has_token (said.Add node group) = false
has_token (said.Init node group voters learners) = false
has_token (said.Propose node group amount) = true
has_token (said.Put node group key value) = true
has_token (said.Get node group key) = true
has_token (said.Drop node group key) = true
has_token (said.Elect node group) = false
has_token (said.Heartbeat node group) = false
has_token (said.Lost node group peer) = false
has_token (said.Snapshot node group) = false
has_token (said.Purge node group index) = false
has_token (said.Addr node group id address) = true
has_token (said.Voters node group ids) = true
has_token (said.Deliver group number cut) = false
has_token (said.Clean node) = false
has_token (said.Crash node choice) = false
has_token (said.Reopen node workers) = false

abbrev pub tokens_if : Bool → ℕ → ℕ
tokens_if true tokens = min (tokens + 1) (2 ^ 64 - 1)
tokens_if false tokens = tokens

-- how many tokens were taken behind the line
abbrev pub tokens_after : ℕ → ScriptEvent → ℕ
tokens_after tokens event = tokens_if (has_token event) tokens
