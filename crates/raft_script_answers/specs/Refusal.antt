-- What refusals are called: a number and a name.
use Rattle.std.specs.Prelude.{ℕ, List, codes}
use Rattle.raft_script_answers.specs.declared.refusal.Refusal.{Refusal}
use Rattle.raft_script_answers.specs.declared.refusal.Refusal.TheVariants.{NotLeader, UnknownGroup, GroupExists, NotAllowed, NotVoter, Membership, VoterChange, InProgress}
use Rattle.raft_script_answers.specs.declared.refusal.Refusal.TheVariants.{CommandTooLong, NumberAtEnd, Failed, WrongParty, TooMuchForBatch, BreaksCondition, Frame, Stopped}
use Rattle.raft_script_answers.specs.declared.refusal.Refusal.TheVariants.{NoNode, NodeDown, NodeUp, NoFrame, SetupDiffers, ByChance, NotAnImage, BadCut}

abbrev pub label_of : Refusal → List ℕ
label_of (NotLeader leader) = codes "1 NotLeader"
label_of UnknownGroup = codes "2 UnknownGroup"
label_of GroupExists = codes "3 GroupExists"
label_of NotAllowed = codes "4 NotAllowed"
label_of NotVoter = codes "5 NotVoter"
label_of Membership = codes "6 Membership"
label_of VoterChange = codes "7 VoterChange"
label_of InProgress = codes "8 InProgress"
label_of CommandTooLong = codes "9 CommandTooLong"
label_of NumberAtEnd = codes "10 NumberAtEnd"
label_of Failed = codes "11 Failed"
label_of WrongParty = codes "12 WrongParty"
label_of TooMuchForBatch = codes "13 TooMuchForBatch"
label_of BreaksCondition = codes "14 BreaksCondition"
label_of Frame = codes "15 Frame"
label_of Stopped = codes "16 Stopped"
label_of NoNode = codes "C1 NoNode"
label_of NodeDown = codes "C2 NodeDown"
label_of NodeUp = codes "C3 NodeUp"
label_of NoFrame = codes "C4 NoFrame"
label_of SetupDiffers = codes "C5 SetupDiffers"
label_of ByChance = codes "C6 ByChance"
label_of NotAnImage = codes "C7 NotAnImage"
label_of BadCut = codes "C9 BadCut"
