-- What an event's frames accept, by the numbers that its outcome has of them.
use Rattle.std.specs.Prelude.{◌≡◌, ℕ, ◌==◌, if◌then◌else◌, List, [], ◌∷◌, Option, Some, None, slice_get}
use Rattle.std.specs.Option.{option_or}
use Rattle.raft_list_facts.specs.declared.acceptance.Acceptance.{Acceptance}
use Rattle.raft_sent_frames.specs.declared.frame.SentFrame.{SentFrame}
use Rattle.raft_sent_frames.specs.declared.frame.SentNumber.{SentNumber}
use Rattle.raft_cluster_events.specs.declared.outcome.EventOutcome.{EventOutcome}
use Rattle.raft_cluster_events.specs.declared.outcome.EventOutcome.TheVariants.{Cleaned, Done, Refused, Stopped, TurnedAway}
use Rattle.raft_cluster_events.specs.declared.outcome.GroupOutcome.{GroupOutcome}
use Rattle.raft_cluster.specs.Facts.{Sent}

-- what the frame accepts, if it is there
abbrev pub accepts_of : Option SentFrame → Option Acceptance
accepts_of None = None
accepts_of (Some frame) = frame.accepts

-- what the first of the frames of these numbers accepts that accepts anything
abbrev pub accepts_at : List SentFrame → List SentNumber → Option Acceptance
accepts_at frames [] = None
accepts_at frames (sent ∷ more) = option_or (accepts_of (slice_get frames sent.number)) (accepts_at frames more)

-- of all parts that are the group's
abbrev pub accepts_in : List SentFrame → ℕ → List GroupOutcome → Option Acceptance
accepts_in frames h [] = None
accepts_in frames h (part ∷ parts) =
    option_or (if part.group == h then accepts_at frames part.sent else None) (accepts_in frames h parts)

-- a cleaning and an event that wasn't done sent none
abbrev pub accepts_by : List SentFrame → ℕ → EventOutcome → Option Acceptance
accepts_by frames h (Done parts) = accepts_in frames h parts
accepts_by frames h (Cleaned groups) = None
accepts_by frames h (Refused why) = None
accepts_by frames h (Stopped stop) = None
accepts_by frames h (TurnedAway why) = None

-- this is the first that the event's frames of the group accept, if it is of one
abbrev pub AcceptsBy : Sent → Option ℕ → EventOutcome → Option Acceptance → Type 0
AcceptsBy sent group outcome accepted = (h : ℕ) → group ≡ Some h → accepted ≡ accepts_by (sent h) h outcome
