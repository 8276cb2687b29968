-- Leaders and entries as the ballot machine sees them.
use Rattle.std.specs.Prelude.{ℕ, ◌+◌, ◌*◌, ◌%◌, ◌^◌, nat_lt, if◌then◌else◌, List, map}
use Rattle.raft_values.specs.declared.vote.LeaderId.{LeaderId}
use Rattle.raft_group_step.specs.Values.{Membership}
use Rattle.raft_group_step.specs.Values.{Entry}
use Rattle.raft_state.specs.declared.entry.EntryPayload.TheVariants.{Membership as Members}
use Rattle.raft_laws.specs.BallotLogs.{BallotEntry}
use Rattle.raft_laws.specs.BallotWorld.{BallotGroup}

-- a leader as one number, in the order of leaders
abbrev pub rank_of : LeaderId ℕ → ℕ
rank_of leader = leader.term * 2 ^ 64 + leader.node_id

-- the node that a ballot belongs to; none in term 0
abbrev pub owner_of : ℕ → ℕ
owner_of ballot = if nat_lt ballot (2 ^ 64) then 2 ^ 64 else ballot % 2 ^ 64

-- an entry without its place, which is where it stands
abbrev pub ballot_entry : Entry → BallotEntry
ballot_entry e = record { ballot = rank_of e.log_id.leader_id; payload = e.payload }

abbrev pub ballot_log : List Entry → List BallotEntry
ballot_log es = map ballot_entry es

-- the group that is set up with a membership
abbrev pub ballot_group : Membership → BallotGroup
ballot_group m = record { voters = m.configs; owner = owner_of; first = Members m }
