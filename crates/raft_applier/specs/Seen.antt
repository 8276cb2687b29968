-- What is seen of how far a group has come.
use Rattle.std.specs.Prelude.{◌≡◌}
use Rattle.raft_group_step.specs.StoredGroup.{snapshot_last}
use Rattle.raft_group_step.specs.GroupState.{GroupState}
use Rattle.raft_group_step.specs.Frames.{committed_id}
use Rattle.raft_applier.specs.Applied.{lead_of}
use Rattle.raft_applier.specs.declared.seen.Seen.{Seen}

-- it is what the state has
pub record IsSeen (x : Seen) (s : GroupState) : Type 0 where
  pub committed : x.committed ≡ committed_id s
  pub snapshot : x.snapshot ≡ snapshot_last s.stored
  pub lead : x.lead ≡ lead_of s
