-- What a node starts with.
use Rattle.std.specs.Prelude.{◌≡◌, ℕ, false}
use Rattle.raft_values.specs.LogId.{place_of}
use Rattle.raft_group_step.specs.StoredGroup.{Snapshot, snapshot_last}
use Rattle.raft_group_step.specs.GroupState.{GroupState, Follower}
use Rattle.raft_group_step.specs.Frames.{committed_id}
use Rattle.raft_known_state.specs.KnownState.{KnownState, Knows}
use Rattle.raft_engine.specs.Events.{IsReady}
use Rattle.raft_engine.specs.Standing.{Given, IsInOrder}
use Rattle.raft_engine.specs.Turns.{MayLead}

-- this is known of the group in this state: a node that follows, whose vote hasn't been renewed since, and of whose log as much is
-- committed as the snapshot covers
pub record OpensAs (own : ℕ) (k : KnownState) (s : GroupState) : Type 0 where
  pub knows : Knows k s.stored
  pub renewed : k.state.vote.utime ≡ s.renewed
  pub wish : place_of k.wish ≡ s.wish
  pub committed : committed_id s ≡ snapshot_last s.stored
  pub follows : s.role ≡ Follower
  pub order : IsInOrder s
  pub ready : IsReady own s

-- as it starts it knows of no greater log, its state machine had no command, and a lead may begin under the vote that is stored
abbrev pub given_at_opening : Snapshot → GroupState → Given
given_at_opening x s =
    record {
      snapshot = x;
      seen_greater_log = false;
      last_sm_seq = 0;
      stored_before = s.stored;
      committed_before = committed_id s;
      turn_before = MayLead;
    }
