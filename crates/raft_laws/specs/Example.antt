-- Words for worked examples: short events and outcomes, and what a run leaves.
use Rattle.std.specs.Prelude.{ℕ, List, [], ◌∷◌, ◌++◌, map, drop, slice_get, Option, Some, None, option_map}
use Rattle.raft_values.specs.declared.log_id.LogId.{LogId}
use Rattle.raft_group_step.specs.Values.{Entry, Membership}
use Rattle.raft_values.specs.declared.vote.Vote.{Vote}
use Rattle.raft_group_step.specs.StoredGroup.{StoredGroup, StoringCommand, held}
use Rattle.raft_group_step.specs.Message.{Message, MessageBody, VoteRequest, VoteReply, AppendRequest, AppendReply, SnapshotRequest, SnapshotReply, RequestId, HeartBeat, Numbered}
use Rattle.raft_group_step.specs.GroupState.{Untold, Role, Follower, Candidate, Leader}
use Rattle.raft_group_step.specs.GroupEvent.{GroupEvent, Receive}
use Rattle.raft_group_step.specs.StepResult.{RefusalReason}
use Rattle.raft_group_step.specs.GroupStep.{group_step}
use Rattle.raft_laws.specs.declared.world_event.WorldEvent.{WorldEvent}
use Rattle.raft_laws.specs.GroupWorld.{GroupWorld, Outcome, Done, Refused, Stopped, Skipped, Recorded, new_world, NodeState, Absent, Up, Down}
use Rattle.raft_laws.specs.GroupRun.{group_run, history_of}

-- the events without a stop
abbrev pub to_their_end : List WorldEvent → List (WorldEvent × Option ℕ)
to_their_end es = map (λ e. (e, None)) es

abbrev pub run_of : List ℕ → List WorldEvent → GroupWorld
run_of ids es = group_run (to_their_end es) (new_world ids)

-- what became of an event, with the addressees of the messages in their place
pub data Brief : Type 0 where
  Answered : (addressees : List ℕ) (told : List Untold) (unknown : List ℕ) → Brief
  Declined : (why : RefusalReason) → Brief
  Halted : (unknown : List ℕ) → Brief
  PassedOver : Brief

abbrev pub addressees_of : List Message → List ℕ
addressees_of ms = map (λ (m : Message). m.addressee) ms

abbrev pub brief : Outcome → Brief
brief (Done sent told unknown) = Answered (addressees_of sent) told unknown
brief (Refused why) = Declined why
brief (Stopped unknown) = Halted unknown
brief Skipped = PassedOver

-- what became of the events after the first n, from nodes with these ids on
abbrev pub outcomes_after : ℕ → List ℕ → List (WorldEvent × Option ℕ) → List Brief
outcomes_after n ids es =
    map (λ (r : Recorded). brief r.outcome) (drop n (history_of es (new_world ids)))

-- messages to these nodes, and nothing else
abbrev pub ok : List ℕ → Brief
ok sent = Answered sent [] []

abbrev pub ok_told : List ℕ → ℕ → ℕ → Brief
ok_told sent token place = Answered sent (record { token = token; place = place } ∷ []) []

abbrev pub ok_unknown : List ℕ → ℕ → Brief
ok_unknown sent token = Answered sent [] (token ∷ [])

-- a node whose address is the letter n and its id
abbrev pub member : ℕ → ℕ × List ℕ
member n = (n, 110 ∷ n ∷ [])

-- one voter group, and learners
abbrev pub membership_of : List ℕ → List ℕ → Membership
membership_of voters learners =
    record { configs = voters ∷ []; nodes = map member (voters ++ learners) }

abbrev pub three : List ℕ
three = 1 ∷ 2 ∷ 3 ∷ []

-- the command that adds a number
abbrev pub add : ℕ → List ℕ
add amount = 0 ∷ 0 ∷ 0 ∷ 0 ∷ 0 ∷ 0 ∷ 0 ∷ amount ∷ []

abbrev pub ids_of_log : List Entry → List (LogId ℕ)
ids_of_log es = map (λ (e : Entry). e.log_id) es

abbrev pub stored_in : NodeState → Option StoredGroup
stored_in Absent = None
stored_in (Up s) = Some s.stored
stored_in (Down s) = Some s

-- what a node has stored
abbrev pub stored_at : GroupWorld → ℕ → Option StoredGroup
stored_at w n = stored_in (w.nodes n)

abbrev pub log_ids_at : GroupWorld → ℕ → Option (List (LogId ℕ))
log_ids_at w n = option_map (λ (s : StoredGroup). ids_of_log s.log) (stored_at w n)

abbrev pub vote_at : GroupWorld → ℕ → Option (Vote ℕ)
vote_at w n = option_map (λ (s : StoredGroup). s.vote) (stored_at w n)

abbrev pub applied_in : NodeState → Option ℕ
applied_in Absent = None
applied_in (Up s) = s.applied
applied_in (Down s) = None

-- up to where a node has applied the list
abbrev pub applied_at : GroupWorld → ℕ → Option ℕ
applied_at w n = applied_in (w.nodes n)

pub data Kind : Type 0 where
  AVoteRequest : Kind
  AVoteReply : Kind
  ARequest : Kind
  ANotice : Kind
  AReply : Kind
  ASnapshot : Kind
  ASnapshotReply : Kind

abbrev pub kind_of_append : RequestId → Kind
kind_of_append HeartBeat = ANotice
kind_of_append (Numbered id) = ARequest

abbrev pub kind_of : MessageBody → Kind
kind_of (VoteRequest vote last) = AVoteRequest
kind_of (VoteReply vote granted last) = AVoteReply
kind_of (AppendRequest m) = kind_of_append m.id
kind_of (AppendReply m) = AReply
kind_of (SnapshotRequest vote id snapshot) = ASnapshot
kind_of (SnapshotReply m) = ASnapshotReply

-- the kinds of the messages from number n on
abbrev pub kinds_from : ℕ → GroupWorld → List Kind
kinds_from n w = map (λ (m : Message). kind_of m.body) (drop n w.messages)

-- which part a node plays
pub data Part : Type 0 where
  IsDown : Part
  Follows : Part
  Stands : Part
  Leads : Part

abbrev pub part_of_role : Role → Part
part_of_role Follower = Follows
part_of_role (Candidate granters) = Stands
part_of_role (Leader lead) = Leads

abbrev pub part_of : NodeState → Part
part_of Absent = IsDown
part_of (Up s) = part_of_role s.role
part_of (Down s) = IsDown

abbrev pub part_at : GroupWorld → ℕ → Part
part_at w n = part_of (w.nodes n)

-- the node's list after a run, by its log ids
abbrev pub held_ids_at : GroupWorld → ℕ → Option (List (LogId ℕ))
held_ids_at w n = option_map (λ (s : StoredGroup). ids_of_log (held s)) (stored_at w n)

-- the storing commands that an event at a node that is up would bring
abbrev pub commands_in : ℕ → GroupEvent → NodeState → List StoringCommand
commands_in n e Absent = []
commands_in n e (Up s) = (group_step n s e).commands
commands_in n e (Down s) = []

abbrev pub commands_of_delivery : GroupWorld → Option Message → ℕ → List StoringCommand
commands_of_delivery w None now = []
commands_of_delivery w (Some m) now =
    commands_in m.addressee (Receive m.sender m now) (w.nodes m.addressee)

-- the storing commands of the delivery of a message
abbrev pub commands_at_delivery : GroupWorld → ℕ → ℕ → List StoringCommand
commands_at_delivery w number now = commands_of_delivery w (slice_get w.messages number) now
