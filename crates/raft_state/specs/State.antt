-- What a node's state tells, and what is wrong with one.
use Rattle.std.specs.Prelude.{ℕ, zero, suc, ◌==◌, ◌&&◌, Bool, true, false, not, if◌then◌else◌, List}
use Rattle.std.specs.Prelude.{Option, Some, None, is_some, is_none}
use Rattle.std.specs.List.{slice_get}
use Rattle.std.specs.Option.{option_or}
use Rattle.std.specs.declared.cmp.Ordering.{Ordering}
use Rattle.raft_state.specs.declared.accepted.Accepted.{Accepted}
use Rattle.raft_values.specs.declared.io_state.IOState.{IOState}
use Rattle.raft_values.specs.declared.vote.LeaderId.{LeaderId}
use Rattle.raft_values.specs.declared.vote.Vote.{Vote}
use Rattle.raft_values.specs.declared.log_id.LogId.{LogId}
use Rattle.raft_state.specs.declared.raft_state.RaftState.{RaftState}
use Rattle.raft_values.specs.declared.server_state.ServerState.{ServerState}
use Rattle.raft_values.specs.declared.server_state.ServerState.TheVariants.{Learner, Follower, Candidate, Leader}
use Rattle.raft_values.specs.declared.validate.Invalid.{Invalid}
use Rattle.raft_values.specs.declared.validate.Invalid.TheVariants.{FirstLogId, PurgedPastGoal, PurgePastCommitted, PurgePastSnapshot, SnapshotPastCommitted, CommittedPastLog}
use Rattle.raft_values.specs.LogId.{is_past}
use Rattle.raft_log_ids.specs.Faults.{or_fault}
use Rattle.raft_log_ids.specs.LogIdList.{last_id}
use Rattle.raft_membership.specs.MembershipState.{membership_fault}

module _ {K : Type 0} where
  -- the last purged log id: the first one of the log, where anything was purged
  abbrev pub last_purged : ℕ → List (LogId K) → Option (LogId K)
  last_purged zero ids = None
  last_purged (suc index) ids = slice_get ids 0

  -- the log begins with the last purged log id, and at 0 where nothing was purged
  abbrev pub begins_at : ℕ → Option (LogId K) → Bool
  begins_at zero None = true
  begins_at zero (Some first) = first.index == 0
  begins_at (suc index) None = false
  begins_at (suc index) (Some first) = first.index == index

  -- the log id that was accepted of a leader; none of another one
  abbrev pub accepted_under : (K → K → Bool) → Accepted K → LeaderId K → Option (LogId K)
  accepted_under eq accepted leader =
      if (accepted.leader_id.term == leader.term) && eq accepted.leader_id.node_id leader.node_id
      then accepted.log_id else None

  -- the vote of a node that never voted
  abbrev pub first_vote : K → Vote K
  first_vote id = record { leader_id = record { term = 0; node_id = id }; committed = false }

  -- the leader id of a node that never voted
  abbrev pub first_leader : K → LeaderId K
  first_leader id = record { term = 0; node_id = id }

  -- nothing was written or applied yet
  abbrev pub no_io : K → IOState K
  no_io id =
      record {
        building_snapshot = false;
        vote = first_vote id;
        flushed = record { committed_leader_id = first_leader id; log_id = None };
        applied = None;
        snapshot = None;
        purged = None;
      }

-- the part that a node plays: whether it is a voter, whether its vote is for itself, and whether
-- a quorum has granted that
abbrev pub part_of : Bool → Bool → Bool → ServerState
part_of false leading committed = Learner
part_of true false committed = Follower
part_of true true false = Candidate
part_of true true true = Leader

module _ {K N I : Type 0} (cmp : K → K → Ordering) where
  -- what is to be purged is past the snapshot, or where there is none past the committed log id
  abbrev pub purge_fault : RaftState K N I → Option Invalid
  purge_fault s =
      let snapshot : Option (LogId K) = s.snapshot_meta.last_log_id in
      or_fault (is_none snapshot && is_past cmp s.purge_upto s.committed) PurgePastCommitted
      (or_fault (is_some snapshot && is_past cmp s.purge_upto snapshot) PurgePastSnapshot None)

  -- what was purged is no more than is to be purged, this no more than the snapshot has (without
  -- one, than is committed), this no more than is committed, and this no more than the log has
  abbrev pub state_fault : RaftState K N I → Option Invalid
  state_fault s =
      or_fault (not (begins_at s.purged_next (slice_get s.log_ids 0))) FirstLogId
      (or_fault (is_past cmp (last_purged s.purged_next s.log_ids) s.purge_upto) PurgedPastGoal
      (option_or (purge_fault s)
      (or_fault (is_past cmp s.snapshot_meta.last_log_id s.committed) SnapshotPastCommitted
      (or_fault (is_past cmp s.committed (last_id s.log_ids)) CommittedPastLog
      (membership_fault cmp s.membership_state)))))
