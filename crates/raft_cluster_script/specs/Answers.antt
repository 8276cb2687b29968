-- The text of what came of an event.
use Rattle.std.specs.Prelude.{ℕ, nat_lt, not, List, [], ◌++◌, filter, map, Option, Some, None, if◌then◌else◌}
use Rattle.std.specs.List.{flat_map}
use Rattle.raft_machines.specs.declared.telling.Told.{Told}
use Rattle.raft_machines.specs.declared.telling.UnknownTokens.{UnknownTokens}
use Rattle.raft_machines.specs.declared.telling.Untold.{Untold}
use Rattle.raft_sent_frames.specs.declared.frame.SentNumber.{SentNumber}
use Rattle.raft_cluster_conditions.specs.declared.reasons.ClusterRefusal.{ClusterRefusal}
use Rattle.raft_cluster_conditions.specs.declared.reasons.ClusterRefusal.TheVariants as cluster
use Rattle.raft_cluster_events.specs.declared.outcome.EventOutcome.{EventOutcome}
use Rattle.raft_cluster_events.specs.declared.outcome.EventOutcome.TheVariants as outcomes
use Rattle.raft_cluster_events.specs.declared.outcome.GroupOutcome.{GroupOutcome}
use Rattle.raft_cluster_events.specs.declared.outcome.NodeRefusal.{NodeRefusal}
use Rattle.raft_cluster_events.specs.declared.outcome.NodeRefusal.TheVariants as node
use Rattle.raft_cluster_events.specs.declared.outcome.Stop.{Stop}
use Rattle.raft_cluster_events.specs.declared.outcome.Unsaid.{Unsaid}
use Rattle.raft_cluster.specs.Fused.{is_cut}
use Rattle.raft_script_answers.specs.declared.refusal.Refusal.{Refusal}
use Rattle.raft_script_answers.specs.declared.refusal.Refusal.TheVariants as shown
use Rattle.raft_script_answers.specs.declared.shown.SentNumber.{SentNumber as ShownNumber}
use Rattle.raft_script_answers.specs.Answer.{done_text, refused_text, stopped_text}

abbrev pub shown_number : SentNumber → ShownNumber
shown_number sent = record { peer = sent.peer; number = sent.number }

abbrev pub numbers_of : List GroupOutcome → List ShownNumber
numbers_of parts = flat_map (λ (part : GroupOutcome). map shown_number part.sent) parts

-- what is told in all groups, as the machine shows it
abbrev pub told_of : (Told → List ℕ) → List GroupOutcome → List ℕ
told_of shows parts = flat_map (λ (part : GroupOutcome). flat_map shows part.told) parts

abbrev pub unknown_of : List GroupOutcome → List ℕ
unknown_of parts = flat_map (λ (part : GroupOutcome). part.unknown) parts

-- the tokens of all groups
abbrev pub tokens_of : List UnknownTokens → List ℕ
tokens_of unknown = flat_map (λ (one : UnknownTokens). map (λ (x : Untold). x.token) one.tokens.items) unknown

-- the tokens of the groups below this one, and those of the others
abbrev pub tokens_below : ℕ → List UnknownTokens → List ℕ
tokens_below group unknown = tokens_of (filter (λ (one : UnknownTokens). nat_lt one.group group) unknown)

abbrev pub tokens_from : ℕ → List UnknownTokens → List ℕ
tokens_from group unknown = tokens_of (filter (λ (one : UnknownTokens). not (nat_lt one.group group)) unknown)

abbrev pub own_tokens : Unsaid → List ℕ
own_tokens unsaid = map (λ (told : Told). told.token) unsaid.told ++ unsaid.unknown

-- by rising group and place: the tokens of an event that was done waited before the others of its group
abbrev pub tokens_around : Option Unsaid → List UnknownTokens → List ℕ
tokens_around None unknown = tokens_of unknown
tokens_around (Some unsaid) unknown = tokens_below unsaid.group unknown ++ own_tokens unsaid ++ tokens_from unsaid.group unknown

abbrev pub tokens_of_stop : Stop → List ℕ
tokens_of_stop stop = tokens_around stop.unsaid stop.unknown

abbrev pub refusal_of_node : NodeRefusal → Refusal
refusal_of_node (node.NotLeader leader) = shown.NotLeader leader
refusal_of_node node.UnknownGroup = shown.UnknownGroup
refusal_of_node node.GroupExists = shown.GroupExists
refusal_of_node node.NotAllowed = shown.NotAllowed
refusal_of_node node.NotVoter = shown.NotVoter
refusal_of_node (node.Membership why) = shown.Membership
refusal_of_node node.VoterChange = shown.VoterChange
refusal_of_node node.InProgress = shown.InProgress
refusal_of_node node.CommandTooLong = shown.CommandTooLong
refusal_of_node node.NumberAtEnd = shown.NumberAtEnd
refusal_of_node node.Failed = shown.Failed
refusal_of_node node.WrongParty = shown.WrongParty
refusal_of_node node.TooMuchForBatch = shown.TooMuchForBatch
refusal_of_node node.BreaksCondition = shown.BreaksCondition
refusal_of_node node.Frame = shown.Frame

abbrev pub refusal_of_cluster : ClusterRefusal → Refusal
refusal_of_cluster cluster.NoNode = shown.NoNode
refusal_of_cluster cluster.NodeDown = shown.NodeDown
refusal_of_cluster cluster.NodeUp = shown.NodeUp
refusal_of_cluster cluster.NoFrame = shown.NoFrame
refusal_of_cluster cluster.SetupDiffers = shown.SetupDiffers
refusal_of_cluster cluster.ByChance = shown.ByChance
refusal_of_cluster cluster.NotAnImage = shown.NotAnImage
refusal_of_cluster cluster.BadCut = shown.BadCut

-- a stop, with the tokens that it leaves unknown
abbrev pub stop_text : Stop → List ℕ
stop_text stop = refused_text shown.Stopped (tokens_of_stop stop)

module _ (shows : Told → List ℕ) where
  -- frames of all groups first, then what is told, then the unknown tokens; of a cleaning the groups that hold old files back
  abbrev pub outcome_text : EventOutcome → List ℕ
  outcome_text (outcomes.Done parts) = done_text (numbers_of parts) (told_of shows parts) (unknown_of parts) []
  outcome_text (outcomes.Cleaned groups) = done_text [] [] [] groups
  outcome_text (outcomes.Refused why) = refused_text (refusal_of_node why) []
  outcome_text (outcomes.Stopped stop) = stop_text stop
  outcome_text (outcomes.TurnedAway why) = refused_text (refusal_of_cluster why) []

  -- behind a fuse: a machine that stopped inside the event tells nobody
  abbrev pub fused_text : EventOutcome → List ℕ
  fused_text outcome = if is_cut outcome then stopped_text else outcome_text outcome
