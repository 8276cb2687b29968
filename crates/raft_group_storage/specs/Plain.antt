-- What is shown of groups that are kept in memory.
use Rattle.std.specs.Prelude.{◌≡◌, ℕ, List, unwrap_or}
use Rattle.std.specs.BTreeMap.{is_at}
use Rattle.std.specs.Map.{lookup}
use Rattle.std.specs.Ordering.{nat_cmp}
use Rattle.raft_group_step.specs.GroupState.{no_group}
use Rattle.raft_group_step.specs.StoredGroup.{StoredGroup}
use Rattle.raft_group_storage.specs.Keeping.{IsOneOf, ShowsMore}
use Rattle.raft_group_storage.specs.declared.only_group.TheConstants.{ONLY_GROUP}

-- a stored group alone shows itself, under the one id
abbrev pub IsOnly : StoredGroup → ℕ → List StoredGroup → Type 0
IsOnly s group parts = (group ≡ ONLY_GROUP) × IsOneOf parts s

pub only_shows_more : (s : StoredGroup) → ShowsMore (IsOnly s)
only_shows_more s group parts more wider shown = (shown.0, wider s shown.1)

-- what is stored of a group: nothing, where the id isn't there
abbrev pub stored_in : List (ℕ × StoredGroup) → ℕ → StoredGroup
stored_in groups group = unwrap_or (lookup (is_at (nat_cmp group)) groups) no_group

-- groups by their ids show what is stored of each
abbrev pub IsAmong : List (ℕ × StoredGroup) → ℕ → List StoredGroup → Type 0
IsAmong groups group parts = IsOneOf parts (stored_in groups group)

pub among_shows_more : (groups : List (ℕ × StoredGroup)) → ShowsMore (IsAmong groups)
among_shows_more groups group parts more wider shown = wider (stored_in groups group) shown
