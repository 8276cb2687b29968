-- Where groups stand among those that are kept.
use Rattle.std.specs.Prelude.{◌≡◌, ℕ, List, ◌∷◌, [], ◌++◌, length, slice_get, Option, Some, None, ◌⊎◌}
use Rattle.raft_group_lists.specs.Notes.{no_notes}
use Rattle.raft_list_facts.specs.declared.leading.Leading.{Leading}
use Rattle.raft_cluster_events.specs.declared.event.ClusterEvent.{ClusterEvent}
use Rattle.raft_cluster_lists.specs.declared.brought.Brought.{Brought}
use Rattle.raft_cluster_lists.specs.declared.kept.KeptGroup.{KeptGroup}
use Rattle.raft_cluster_lists.specs.Brought.{Brings}
use Rattle.raft_cluster_lists.specs.Groups.{IsSameGroup, kept_in}
use Rattle.raft_cluster_lists.specs.Lists.{IsReady}

-- the group stands there
pub record IsKeptAt (groups : List KeptGroup) (h at : ℕ) : Type 0 where
  pub kept : KeptGroup
  pub there : slice_get groups at ≡ Some kept
  pub of_group : kept.group ≡ h

-- each stands where it is said, and so it stands once
pub record ArePlaces (places : ℕ → Option ℕ) (groups : List KeptGroup) : Type 0 where
  pub there : (h at : ℕ) → places h ≡ Some at → IsKeptAt groups h at
  pub known : (h at : ℕ) → IsKeptAt groups h at → places h ≡ Some at

abbrev pub AreReady : List KeptGroup → ℕ → Type 0
AreReady groups n = (at : ℕ) (kept : KeptGroup) → slice_get groups at ≡ Some kept → IsReady kept n

-- the same is kept, and no room is lost
pub record IsNoLess (old new : KeptGroup) : Type 0 where
  pub same : IsSameGroup old new
  pub room : (n : ℕ) → IsReady old n → IsReady new n

-- the same group stands there, and goes on so
pub record GoesOnAt (goes : ℕ → KeptGroup → KeptGroup → Type 0) (news : List KeptGroup) (at : ℕ) (old : KeptGroup) : Type 0 where
  pub new : KeptGroup
  pub there : slice_get news at ≡ Some new
  pub of_group : new.group ≡ old.group
  pub goes_on : goes old.group old new

pub record EachGoesOn (goes : ℕ → KeptGroup → KeptGroup → Type 0) (olds news : List KeptGroup) : Type 0 where
  pub size : length news ≡ length olds
  pub each : (at : ℕ) (old : KeptGroup) → slice_get olds at ≡ Some old → GoesOnAt goes news at old

-- nothing is noted of the group, which stands last
pub record IsAddedLast (h : ℕ) (olds news : List KeptGroup) : Type 0 where
  pub none : kept_in olds h ≡ None
  pub kept : KeptGroup
  pub of_group : kept.group ≡ h
  pub notes : kept.list.notes ≡ no_notes
  pub stopped : kept.stopped.items ≡ []
  pub behind : news ≡ olds ++ kept ∷ []

abbrev pub AreKeptSo : ℕ → List KeptGroup → List KeptGroup → Type 0
AreKeptSo h olds news = (news ≡ olds) ⊎ IsAddedLast h olds news

-- what stands there goes on so, and all others stay
pub record GoesOnAlone (goes : ℕ → KeptGroup → KeptGroup → Type 0) (at : ℕ) (olds news : List KeptGroup) : Type 0 where
  pub size : length news ≡ length olds
  pub own : (old : KeptGroup) → slice_get olds at ≡ Some old → GoesOnAt goes news at old
  pub others : (other : ℕ) → (other ≡ at → ⊥) → slice_get news other ≡ slice_get olds other

-- what stands there has room for so many events, and this one brings this to it
pub record IsPreparedAt (groups : List KeptGroup) (at : ℕ) (leading : Option Leading) (event : ClusterEvent) (n : ℕ) (brought : Brought) : Type 0 where
  pub kept : KeptGroup
  pub there : slice_get groups at ≡ Some kept
  pub ready : IsReady kept n
  pub brings : Brings kept.list.notes leading event brought
