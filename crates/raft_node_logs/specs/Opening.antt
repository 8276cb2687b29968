-- What an opening of a log leaves where it is refused.
use Rattle.std.specs.Prelude.{◌↔◌, ℕ, List}
use Rattle.raft_cluster_events.specs.declared.outcome.Stop.{Stop}
use Rattle.raft_cluster_events.specs.declared.outcome.StopCause.{StopCause}
use Rattle.raft_log_memtables.specs.Content.{Content}
use Rattle.raft_node_joint.specs.Reopening.{NamesNobody}
use Rattle.raft_node_laws.specs.Saying.{names_of}

-- what is found of these files was found of those
abbrev pub FindsNoMore : {Files : Type 0} → (Files → Content (List ℕ) → Type 0) → Files → Files → Type 0
FindsNoMore found old new = (content : Content (List ℕ)) → found new content → found old content

-- the same is found of both
abbrev pub FindsSame : {Files : Type 0} → (Files → Content (List ℕ) → Type 0) → Files → Files → Type 0
FindsSame found old new = (content : Content (List ℕ)) → found new content ↔ found old content

-- the files weren't opened, for a cause, and what is found of them was found before
pub record IsRefusedOpening {Files : Type 0} (finds : Files → Content (List ℕ) → Type 0) (unopened : Files → StopCause → Files → Type 0)
    (old : Files) (stop : Stop) (new : Files) : Type 0 where
  pub named : NamesNobody (names_of stop)
  pub why : unopened old stop.cause new
  pub found : FindsNoMore finds old new
