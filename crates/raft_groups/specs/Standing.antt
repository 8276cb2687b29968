-- What a node is in a group: its member, and what the storage shows.
use Rattle.std.specs.Prelude.{◌≡◌, ℕ, List, [], ◌∷◌, Option, Some, None}
use Rattle.raft_group_step.specs.StoredGroup.{StoredGroup}
use Rattle.raft_group_step.specs.GroupState.{no_group}
use Rattle.raft_laws.specs.GroupWorld.{NodeState, Absent, Up, Down}
use Rattle.raft_member.specs.Member.{IsDown, IsUp}
use Rattle.raft_member.specs.declared.member.Member.{Member}

-- the node has a member of the group, and this holds of it
pub record HasMember (own : ℕ) (members : ℕ → Option Member) (group : ℕ) (P : Member → Type 0) : Type 0 where
  pub member : Member
  pub has : members group ≡ Some member
  pub owned : member.id ≡ own
  pub holds : P member

-- the node hasn't the group and nothing of it is stored, or it is up in this state, or it is down and this is stored
abbrev pub StandsAs : ℕ → (ℕ → Option Member) → Type 0 → (ℕ → List StoredGroup → Type 0) → ℕ → NodeState → Type 0
StandsAs own members is_well shows group Absent = (members group ≡ None) × is_well × shows group (no_group ∷ [])
StandsAs own members is_well shows group (Up s) = HasMember own members group (λ m. IsUp is_well (shows group) m s)
StandsAs own members is_well shows group (Down kept) = HasMember own members group (λ m. IsDown is_well (shows group) m kept)
