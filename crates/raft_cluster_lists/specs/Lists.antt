-- What is kept of a group, and room for it.
use Rattle.std.specs.Prelude.{◌≡◌, ◌==◌, ◌+◌, ℕ, suc, List, Option, option_map}
use Rattle.std.specs.List.{find, position}
use Rattle.raft_group_step.specs.Values.{EntryPayload}
use Rattle.raft_group_lists.specs.Notes.{Notes, accounts_of}
use Rattle.raft_group_lists.specs.Room.{HasRoom, HasSpace}
use Rattle.raft_cluster_lists.specs.declared.kept.KeptGroup.{KeptGroup}
use Rattle.raft_cluster_lists.specs.declared.kept.StoppedCall.{StoppedCall}

-- the same is noted
pub record AreSame (one other : Notes) : Type 0 where
  pub accounts : accounts_of other ≡ accounts_of one
  pub noted : other.noted ≡ one.noted

-- where what is kept of the node stands, if anything is
abbrev pub first_at : List StoppedCall → ℕ → Option ℕ
first_at stopped node = position (λ (x : StoppedCall). x.node == node) stopped

-- what the call writes that stopped at the node last
abbrev pub stopped_at : List StoppedCall → ℕ → Option EntryPayload
stopped_at stopped node = option_map (λ (x : StoppedCall). x.payload) (find (λ (x : StoppedCall). x.node == node) stopped)

-- for so many events: for its list, and for what their calls write if they stop
pub record IsReady (kept : KeptGroup) (n : ℕ) : Type 0 where
  pub list : HasRoom kept.list (n + n) (n + n)
  pub stopped : HasSpace kept.stopped n

-- an event takes room for one
abbrev pub TakesOne : KeptGroup → KeptGroup → Type 0
TakesOne old new = (n : ℕ) → IsReady old (suc n) → IsReady new n
