-- What a group's clock is shown of the group's state.
use Rattle.std.specs.Prelude.{ℕ, Bool, true, false, List, [], ◌∷◌, ◌++◌, filter, Option, is_some, option_map}
use Rattle.raft_values.specs.declared.log_id.LogId.{LogId}
use Rattle.raft_values.specs.declared.server_state.ServerState.{ServerState}
use Rattle.raft_group_step.specs.StoredGroup.{snapshot_last}
use Rattle.raft_group_step.specs.GroupState.{GroupState}
use Rattle.raft_node.specs.Reading.{outstanding_to}
use Rattle.raft_timers.specs.declared.view.GroupView.{GroupView}

-- the place of a log id
abbrev pub place_of : Option (LogId ℕ) → Option ℕ
place_of id = option_map (λ (x : LogId ℕ). x.index) id

-- of a node that plays this part; the last place that its machine has run is told beside the state
abbrev pub view_in : ServerState → Option ℕ → Option ℕ → GroupState → GroupView
view_in role place quorum s =
    record {
      role = role;
      renewed = s.renewed;
      quorum_heard = quorum;
      applied = place;
      snapshot = place_of (snapshot_last s.stored);
      purged = place_of s.stored.purged;
    }

-- a leader waits for the peer's answer to a request
abbrev pub waits_for : GroupState → ℕ → Bool
waits_for s peer = is_some (outstanding_to peer s.role)

-- the peers, and another one behind them if it is waited for
abbrev pub joined_if : Bool → ℕ → List ℕ → List ℕ
joined_if true peer peers = peers ++ peer ∷ []
joined_if false peer peers = peers

abbrev pub waiting_in : GroupState → List ℕ → List ℕ
waiting_in s peers = filter (waits_for s) peers
