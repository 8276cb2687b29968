-- What a node may be in each of its groups, and what its frames say: a node's own words for that.
use Rattle.std.specs.Prelude.{ℕ, List}
use Rattle.raft_group_step.specs.Message.{Message}
use Rattle.raft_laws.specs.GroupWorld.{NodeState}

pub record NodeStates (N : Type 0) : Type 1 where
  -- the node is in one of these states of the group: one that is up is in one, and one that is down or has stopped is opened with
  -- one of those that its files may show
  pub may_be : N → ℕ → List NodeState → Type 0
  -- these bytes are a frame of the group, and say the message
  pub spells : ℕ → Message → List ℕ → Type 0
