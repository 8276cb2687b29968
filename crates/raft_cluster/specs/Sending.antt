-- What a node's event sends is numbered.
use Rattle.std.specs.Prelude.{◌≡◌, ℕ, ◌==◌, if◌then◌else◌, List, [], ◌∷◌, ◌++◌, length}
use Rattle.raft_sent_frames.specs.Frames.{numbers_from, sent_by}
use Rattle.raft_cluster_events.specs.declared.node.NodeOutcome.{NodeOutcome}
use Rattle.raft_cluster_events.specs.declared.outcome.GroupOutcome.{GroupOutcome}
use Rattle.raft_cluster.specs.Facts.{Sent}

-- the frames of the node go behind those of their group
abbrev pub sent_after_one : Sent → ℕ → NodeOutcome → Sent
sent_after_one sent sender outcome group =
    if outcome.group == group then sent group ++ sent_by sender outcome.frames else sent group

abbrev pub sent_after : Sent → ℕ → List NodeOutcome → Sent
sent_after sent sender [] = sent
sent_after sent sender (outcome ∷ outcomes) = sent_after (sent_after_one sent sender outcome) sender outcomes

-- an outcome, with its frames by their numbers
abbrev pub part_of : Sent → NodeOutcome → GroupOutcome
part_of sent outcome =
    record {
      group = outcome.group;
      sent = numbers_from (length (sent outcome.group)) outcome.frames;
      told = outcome.told;
      unknown = outcome.unknown;
    }

abbrev pub parts_of : Sent → ℕ → List NodeOutcome → List GroupOutcome
parts_of sent sender [] = []
parts_of sent sender (outcome ∷ outcomes) =
    part_of sent outcome ∷ parts_of (sent_after_one sent sender outcome) sender outcomes

-- the frames of these outcomes are sent, and the parts have their numbers
pub record AreSent (sent : Sent) (sender : ℕ) (outcomes : List NodeOutcome) (parts : List GroupOutcome) (later : Sent) : Type 0 where
  pub numbered : parts ≡ parts_of sent sender outcomes
  pub sends : (group : ℕ) → later group ≡ sent_after sent sender outcomes group

-- those of some outcomes are
abbrev pub AnySent : Sent → ℕ → List GroupOutcome → Sent → Type 0
AnySent sent sender parts later = (outcomes : List NodeOutcome) × AreSent sent sender outcomes parts later
