-- The reasons of refusals.
use Rattle.std.specs.Prelude.{ℕ}
use Rattle.raft_conditions.specs.declared.refusal.Refusal.{Refusal}
use Rattle.raft_conditions.specs.declared.refusal.Refusal.TheVariants as code
use Rattle.raft_group_step.specs.StepResult.{RefusalReason, NotLeader, UnknownGroup, GroupExists, NotAllowed, NotVoter, MembershipRefused}
use Rattle.raft_group_step.specs.StepResult.{VoterChange, InProgress, CommandTooLong, NumberAtEnd, WrongParty, BreaksCondition}

-- the reason that a refusal tells
abbrev pub reason_of : Refusal ℕ → RefusalReason
reason_of (code.NotLeader known) = NotLeader known
reason_of code.UnknownGroup = UnknownGroup
reason_of code.GroupExists = GroupExists
reason_of code.NotAllowed = NotAllowed
reason_of code.NotVoter = NotVoter
reason_of code.MembershipRefused = MembershipRefused
reason_of code.VoterChange = VoterChange
reason_of code.InProgress = InProgress
reason_of code.CommandTooLong = CommandTooLong
reason_of code.NumberAtEnd = NumberAtEnd
reason_of code.WrongParty = WrongParty
reason_of code.BreaksCondition = BreaksCondition
