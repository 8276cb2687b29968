-- The frames that were sent in a group.
use Rattle.std.specs.Prelude.{◌≡◌, ℕ, ◌+◌, List, [], ◌∷◌, ◌++◌, map, Option, None, unwrap_or}
use Rattle.std.specs.BTreeMap.{is_at}
use Rattle.std.specs.Map.{lookup}
use Rattle.std.specs.Option.{option_or}
use Rattle.std.specs.Ordering.{nat_cmp}
use Rattle.raft_list_facts.specs.declared.acceptance.Acceptance.{Acceptance}
use Rattle.raft_sent_frames.specs.declared.frame.NodeFrame.{NodeFrame}
use Rattle.raft_sent_frames.specs.declared.frame.SentFrame.{SentFrame}
use Rattle.raft_sent_frames.specs.declared.frame.SentNumber.{SentNumber}

-- none, where nothing was sent
abbrev pub frames_of : List (ℕ × List SentFrame) → ℕ → List SentFrame
frames_of groups group = unwrap_or (lookup (is_at (nat_cmp group)) groups) []

abbrev pub sent_frame : ℕ → NodeFrame → SentFrame
sent_frame sender frame = record { sender = sender; peer = frame.peer; bytes = frame.bytes; accepts = frame.accepts }

-- the frames as sent by this node
abbrev pub sent_by : ℕ → List NodeFrame → List SentFrame
sent_by sender frames = map (sent_frame sender) frames

-- the frames by their numbers, of which the first is this one
abbrev pub numbers_from : ℕ → List NodeFrame → List SentNumber
numbers_from number [] = []
numbers_from number (frame ∷ frames) = record { peer = frame.peer; number = number } ∷ numbers_from (number + 1) frames

-- the list begins with these frames
abbrev pub HasFront : List SentFrame → List SentFrame → Type 0
HasFront front list = (rest : List SentFrame) × (list ≡ front ++ rest)

-- what the first of these frames accepts that accepts anything
abbrev pub first_accepted : List SentFrame → Option Acceptance
first_accepted [] = None
first_accepted (frame ∷ frames) = option_or frame.accepts (first_accepted frames)
