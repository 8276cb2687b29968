-- How an event ended that a node's groups didn't take.
use Rattle.std.specs.Prelude.{◌≡◌, Bool, true, Option, Some, None, Result, Ok, Err}
use Rattle.raft_member.specs.declared.member.Broken.{Broken}
use Rattle.raft_member.specs.declared.member.Broken.TheVariants as broken
use Rattle.raft_member.specs.Faults.{fault_begun}
use Rattle.raft_groups.specs.declared.fault.GroupsFault.{GroupsFault}
use Rattle.raft_groups.specs.declared.fault.GroupsFault.TheVariants as groups_fault

-- it met a fault of which this holds
abbrev pub HasMet : {F : Type 0} → (Broken F → Type 0) → GroupsFault F → Type 0
HasMet P groups_fault.Failed = ⊥
HasMet P groups_fault.UnknownGroup = ⊥
HasMet P groups_fault.GroupExists = ⊥
HasMet P (groups_fault.Stopped met) = P met

-- the event was begun before it met the fault, and this holds
abbrev pub HasBegun : {F : Type 0} → Type 0 → Broken F → Type 0
HasBegun P (broken.Unjudged met) = ⊥
HasBegun P (broken.Begun met) = P

-- nothing of the event came to a group
abbrev pub IsTurnedAway : {T F : Type 0} → Result T (GroupsFault F) → Type 0
IsTurnedAway (Ok x) = ⊥
IsTurnedAway (Err groups_fault.Failed) = Unit {0}
IsTurnedAway (Err groups_fault.UnknownGroup) = Unit {0}
IsTurnedAway (Err groups_fault.GroupExists) = Unit {0}
IsTurnedAway (Err (groups_fault.Stopped met)) = ⊥

-- it is refused for this reason, unless the storage met a fault as it was asked
abbrev pub IsRefusedAs : {T F : Type 0} → GroupsFault F → Result T (GroupsFault F) → Type 0
IsRefusedAs why (Ok x) = ⊥
IsRefusedAs why (Err groups_fault.Failed) = groups_fault.Failed ≡ why
IsRefusedAs why (Err groups_fault.UnknownGroup) = groups_fault.UnknownGroup ≡ why
IsRefusedAs why (Err groups_fault.GroupExists) = groups_fault.GroupExists ≡ why
IsRefusedAs why (Err (groups_fault.Stopped met)) = Unit {0}

-- the node has failed once an event met a fault, and else goes on as before
abbrev pub GoesOn : {T F : Type 0} → Bool → Result T (GroupsFault F) → Bool → Type 0
GoesOn old (Ok x) new = new ≡ old
GoesOn old (Err groups_fault.Failed) new = new ≡ old
GoesOn old (Err groups_fault.UnknownGroup) new = new ≡ old
GoesOn old (Err groups_fault.GroupExists) new = new ≡ old
GoesOn old (Err (groups_fault.Stopped met)) new = new ≡ true

-- the storage's fault that is the cause, if one is
abbrev pub fault_of_groups : {F : Type 0} → GroupsFault F → Option F
fault_of_groups groups_fault.Failed = None
fault_of_groups groups_fault.UnknownGroup = None
fault_of_groups groups_fault.GroupExists = None
fault_of_groups (groups_fault.Stopped met) = fault_begun met

-- none where the event was taken
abbrev pub fault_met_by_groups : {T F : Type 0} → Result T (GroupsFault F) → Option F
fault_met_by_groups (Ok x) = None
fault_met_by_groups (Err why) = fault_of_groups why
