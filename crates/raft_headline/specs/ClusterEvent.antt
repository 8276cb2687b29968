-- What may happen to a cluster whose nodes keep many groups, and what comes of it, as plain values.
use Rattle.std.specs.Prelude.{ℕ, ◌==◌, Bool, true, false, List, [], Option, Some, None}
use Rattle.std.specs.List.{find}
use Rattle.raft_group_step.specs.Message.{Message}
use Rattle.raft_group_step.specs.GroupEvent.{GroupCall}
use Rattle.raft_group_step.specs.StepResult.{RefusalReason}
use Rattle.raft_machines.specs.declared.telling.Told.{Told}

-- messages are numbered for each group, from 0 in the order of sending
pub data ClusterEvent : Type 0 where
  AddGroup : (node group : ℕ) → ClusterEvent
  -- a node is asked for something of a group
  Ask : (node group : ℕ) (call : GroupCall) (now : ℕ) → ClusterEvent
  Deliver : (group number now : ℕ) → ClusterEvent
  -- what a peer sent in part is forgotten
  ResetPeer : (node peer : ℕ) → ClusterEvent
  Clean : (node : ℕ) → ClusterEvent
  -- the node's files refuse calls from some one on, so that its machine stops inside it; or they refuse none any more
  Fuse : (node : ℕ) → ClusterEvent
  Crash : (node : ℕ) → ClusterEvent
  Reopen : (node : ℕ) → ClusterEvent
  -- an event of others stopped the node. Only a history that is filtered to a group has it
  Halt : (node : ℕ) → ClusterEvent

-- a group's token that stays unknown
pub record Unknown : Type 0 where
  pub group : ℕ
  pub token : ℕ

-- what an event says of one group: what it sent, and the tokens that were told and that stay unknown
pub record Said : Type 0 where
  pub sent : List Message
  pub told : List Told
  pub unknown : List ℕ

abbrev pub silent : Said
silent = record { sent = []; told = []; unknown = [] }

pub data ClusterOutcome : Type 0 where
  -- it ran to its end, and says this of its group
  Done : (said : Said) → ClusterOutcome
  -- the node was opened, and says this of its groups
  Opened : (parts : List (ℕ × Said)) → ClusterOutcome
  -- its node refused it, and the group is as before
  Refused : (why : RefusalReason) → ClusterOutcome
  -- its node stopped by itself. These tokens of any group stay unknown
  Stopped : (unknown : List Unknown) → ClusterOutcome
  -- the machine stopped inside it. The tokens that stay unknown aren't named
  Fused : ClusterOutcome
  -- there is no such node or message, the node is down or has stopped, or the group was set up with another membership
  PassedOver : ClusterOutcome
  -- it was turned away before any node saw it
  TurnedAway : ClusterOutcome

-- an event with the node that it came to, and what came of it
pub record Recorded : Type 0 where
  pub event : ClusterEvent
  pub node : ℕ
  pub outcome : ClusterOutcome

-- the event stopped its node
abbrev pub is_stopped : ClusterOutcome → Bool
is_stopped (Done said) = false
is_stopped (Opened parts) = false
is_stopped (Refused why) = false
is_stopped (Stopped unknown) = true
is_stopped Fused = true
is_stopped PassedOver = false
is_stopped TurnedAway = false

abbrev pub is_turned_away : ClusterOutcome → Bool
is_turned_away (Done said) = false
is_turned_away (Opened parts) = false
is_turned_away (Refused why) = false
is_turned_away (Stopped unknown) = false
is_turned_away Fused = false
is_turned_away PassedOver = false
is_turned_away TurnedAway = true

abbrev pub said_or : Option (ℕ × Said) → Said
said_or None = silent
said_or (Some part) = part.1

-- what an opening says of a group; nothing of one that isn't there
abbrev pub said_of : ℕ → List (ℕ × Said) → Said
said_of h parts = said_or (find (λ (part : ℕ × Said). part.0 == h) parts)
