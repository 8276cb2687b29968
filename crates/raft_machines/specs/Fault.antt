-- The numbers and names of refusals.
use Rattle.std.specs.Prelude.{ℕ, List, codes}
use Rattle.raft_machines.specs.declared.fault.Fault.{Fault}
use Rattle.raft_machines.specs.declared.fault.Fault.TheVariants.{NotLeader, UnknownGroup, GroupExists, NotAllowed, NotVoter, Membership, CommandTooLong}

abbrev pub number_of : Fault → ℕ
number_of (NotLeader leader) = 1
number_of UnknownGroup = 2
number_of GroupExists = 3
number_of NotAllowed = 4
number_of NotVoter = 5
number_of (Membership why) = 6
number_of CommandTooLong = 9

abbrev pub name_of : Fault → List ℕ
name_of (NotLeader leader) = codes "NotLeader"
name_of UnknownGroup = codes "UnknownGroup"
name_of GroupExists = codes "GroupExists"
name_of NotAllowed = codes "NotAllowed"
name_of NotVoter = codes "NotVoter"
name_of (Membership why) = codes "Membership"
name_of CommandTooLong = codes "CommandTooLong"
