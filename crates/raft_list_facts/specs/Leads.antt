-- What a leader tells of its list.
use Rattle.std.specs.Prelude.{ℕ, if◌then◌else◌, List, [], ◌∷◌, Option, Some, None}
use Rattle.raft_values.specs.declared.vote.LeaderId.{LeaderId}
use Rattle.raft_values.specs.declared.log_id.LogId.{LogId}
use Rattle.raft_group_step.specs.GroupState.{GroupState, is_leader}
use Rattle.raft_group_step.specs.StoredGroup.{StoredGroup, last_id}
use Rattle.raft_group_step.specs.Values.{leader_eq}
use Rattle.raft_known_state.specs.KnownState.{stored_ids}
use Rattle.raft_laws.specs.GroupWorld.{NodeState, Absent, Up, Down}
use Rattle.raft_list_facts.specs.declared.leading.Base.{Base}
use Rattle.raft_list_facts.specs.declared.leading.Base.TheVariants.{Nothing, UpTo, Unknown}
use Rattle.raft_list_facts.specs.declared.leading.Leading.{Leading}

-- what stands before the leader's first one of these log ids, where this stands before all of them: all of them, if none is its own
abbrev pub before_own : LeaderId ℕ → Base → List (LogId ℕ) → Base
before_own leader before [] = before
before_own leader before (id ∷ ids) = if leader_eq id.leader_id leader then before else before_own leader (UpTo id) ids

-- what stands before all log ids that are kept: nothing, or what is purged
abbrev pub before_all : Option (LogId ℕ) → Base
before_all None = Nothing
before_all (Some purged) = Unknown

-- what the leader of the vote took over, by the last purged log id and those of the log
abbrev pub base_of : StoredGroup → Base
base_of s = before_own s.vote.leader_id (before_all s.purged) (stored_ids s)

-- what a node tells that leads
abbrev pub leading_of : GroupState → Option Leading
leading_of s =
    if is_leader s.role then Some (record { vote = s.stored.vote; last = last_id s.stored; base = base_of s.stored }) else None

-- what a node in this state tells that leads, if it leads
abbrev pub leading_in : NodeState → Option Leading
leading_in (Up s) = leading_of s
leading_in (Down stored) = None
leading_in Absent = None
