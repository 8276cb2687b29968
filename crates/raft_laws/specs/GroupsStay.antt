-- A group that a node has stays.
use Rattle.std.specs.Prelude.{◌≡◌, true, List}
use Rattle.raft_group_step.specs.StoredGroup.{StoredGroup, StoringCommand, after_storing_all}

-- no storing command takes a group away
abbrev pub GroupsStay : Type 0
GroupsStay =
    (cs : List StoringCommand) (s : StoredGroup) → s.present ≡ true → (after_storing_all cs s).present ≡ true
