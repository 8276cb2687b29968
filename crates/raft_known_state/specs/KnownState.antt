-- What a node knows of its stored group: log ids in place of entries, and the memberships.
use Rattle.std.specs.Prelude.{◌≡◌, ◌≤◌, ℕ, suc, Bool, true, false, nat_lt, nat_le, ◌==◌, ◌&&◌, if◌then◌else◌}
use Rattle.std.specs.Prelude.{List, [], ◌∷◌, ◌++◌, filter, map, Option, Some, None}
use Rattle.std.specs.List.{AllByRecursion}
use Rattle.std.specs.List.Sorted.{IsNonDecreasingBy}
use Rattle.std.specs.Option.{option_or}
use Rattle.raft_values.specs.declared.vote.LeaderId.{LeaderId}
use Rattle.raft_values.specs.declared.log_id.LogId.{LogId}
use Rattle.raft_values.specs.LogId.{next_place}
use Rattle.raft_membership.specs.declared.effective_membership.EffectiveMembership.{EffectiveMembership as EffectiveMembershipOf}
use Rattle.raft_membership.specs.declared.membership_state.MembershipState.{MembershipState as MembershipStateOf}
use Rattle.raft_membership.specs.declared.stored_membership.StoredMembership.{StoredMembership as StoredMembershipOf}
use Rattle.raft_membership.specs.declared.snapshot_meta.SnapshotMeta.{SnapshotMeta as SnapshotMetaOf}
use Rattle.raft_state.specs.declared.entry.EntryPayload.TheVariants.{Blank, Normal, Membership as Members}
use Rattle.raft_group_step.specs.Values.{Entry, EntryPayload, LoggedMembership, Membership, leader_eq}
use Rattle.raft_group_step.specs.StoredGroup.{StoredGroup, Snapshot, entry_at, first_place, membership_in_force}
use Rattle.raft_known_state.specs.declared.known_state.KnownState.{KnownState as KnownStateOf}

abbrev pub EffectiveMembership : Type 0
EffectiveMembership = EffectiveMembershipOf ℕ (List ℕ)

abbrev pub SnapshotMeta : Type 0
SnapshotMeta = SnapshotMetaOf ℕ (List ℕ)

abbrev pub KnownState : Type 0
KnownState = KnownStateOf ℕ (List ℕ)

abbrev pub MembershipState : Type 0
MembershipState = MembershipStateOf ℕ (List ℕ)

-- no voter groups and no nodes
abbrev pub no_membership : Membership
no_membership = record { configs = []; nodes = [] }

-- the last purged log id, where there is one
abbrev pub purged_ids : Option (LogId ℕ) → List (LogId ℕ)
purged_ids None = []
purged_ids (Some id) = id ∷ []

abbrev pub entry_ids : List Entry → List (LogId ℕ)
entry_ids es = map (λ (e : Entry). e.log_id) es

-- the log ids of a stored group: the last purged one, and those of its log
abbrev pub stored_ids : StoredGroup → List (LogId ℕ)
stored_ids s = purged_ids s.purged ++ entry_ids s.log

-- none of the log ids is of a higher term than this one
abbrev pub AreUpToTerm : ℕ → List (LogId ℕ) → Type 0
AreUpToTerm term ids = AllByRecursion (λ (id : LogId ℕ). id.leader_id.term ≤ term) ids

-- the membership of this entry, if it has one, before the others
abbrev pub with_membership_of : LogId ℕ → EntryPayload → List EffectiveMembership → List EffectiveMembership
with_membership_of id Blank rest = rest
with_membership_of id (Normal command) rest = rest
with_membership_of id (Members m) rest = record { log_id = Some id; membership = m } ∷ rest

-- the memberships among entries, each with the log id of its entry
abbrev pub memberships_in : List Entry → List EffectiveMembership
memberships_in [] = []
memberships_in (e ∷ es) = with_membership_of e.log_id e.payload (memberships_in es)

-- a membership that may be none, as one that may have no log id
abbrev pub effective_of : Option LoggedMembership → EffectiveMembership
effective_of None = record { log_id = None; membership = no_membership }
effective_of (Some m) = record { log_id = Some m.log_id; membership = m.membership }

abbrev pub last_membership_of : Option LoggedMembership → StoredMembershipOf ℕ (List ℕ)
last_membership_of None = record { log_id = None; membership = no_membership }
last_membership_of (Some m) = record { log_id = Some m.log_id; membership = m.membership }

-- what a snapshot covers, without its entries
abbrev pub meta_of : Option Snapshot → SnapshotMeta
meta_of None = record { last_log_id = None; last_membership = last_membership_of None }
meta_of (Some x) = record { last_log_id = Some x.last; last_membership = last_membership_of x.membership }

-- the entries stand at their places, from this one on
abbrev pub ArePlaced : ℕ → List Entry → Type 0
ArePlaced place [] = Unit {0}
ArePlaced place (e ∷ es) = (e.log_id.index ≡ place) × ArePlaced (suc place) es

-- the log's entries stand at their places
abbrev pub IsPlaced : StoredGroup → Type 0
IsPlaced s = ArePlaced (first_place s) s.log

-- the log id stands below the place; none stands below each
abbrev pub is_below : ℕ → Option (LogId ℕ) → Bool
is_below place None = true
is_below place (Some id) = nat_lt id.index place

-- the places of the memberships don't fall; those without a log id come first
abbrev pub AreInOrder : List EffectiveMembership → Type 0
AreInOrder ms = IsNonDecreasingBy (λ m. next_place m.log_id) ms

-- the memberships before the first one that isn't below the place
abbrev pub take_below : ℕ → List EffectiveMembership → List EffectiveMembership
take_below place [] = []
take_below place (m ∷ ms) = if is_below place m.log_id then m ∷ take_below place ms else []

-- the last of these, or else this one
abbrev pub last_else : EffectiveMembership → List EffectiveMembership → EffectiveMembership
last_else m [] = m
last_else m (x ∷ xs) = last_else x xs

-- the snapshot's membership
abbrev pub force_of_snapshot : SnapshotMeta → EffectiveMembership
force_of_snapshot meta =
    record { log_id = meta.last_membership.log_id; membership = meta.last_membership.membership }

-- the last membership of the log at or below the committed log id, or else the snapshot's
abbrev pub committed_membership : StoredGroup → Option (LogId ℕ) → EffectiveMembership
committed_membership s committed =
    last_else (force_of_snapshot (meta_of s.snapshot)) (take_below (next_place committed) (memberships_in s.log))

-- this is known of the stored group
pub record Knows (k : KnownState) (s : StoredGroup) : Type 0 where
  pub vote : k.state.vote.value ≡ s.vote
  pub ids : k.state.log_ids ≡ stored_ids s
  -- of the entries alone: what a peer's snapshot says of its last log id tells nothing of them
  pub terms : AreUpToTerm k.highest_term (entry_ids s.log)
  pub purged : k.state.purged_next ≡ first_place s
  pub snapshot : k.state.snapshot_meta ≡ meta_of s.snapshot
  pub memberships : k.memberships ≡ memberships_in s.log
  pub in_force : k.state.membership_state.effective ≡ effective_of (membership_in_force s)
  pub last_committed : k.state.membership_state.committed ≡ committed_membership s k.state.committed
  -- up to where a leader is still to purge, or else up to where the log is purged
  pub goal : k.state.purge_upto ≡ option_or k.wish s.purged

-- the memberships from the first one on that isn't below the place
abbrev pub drop_below : ℕ → List EffectiveMembership → List EffectiveMembership
drop_below place [] = []
drop_below place (m ∷ ms) = if is_below place m.log_id then drop_below place ms else m ∷ ms

-- the last membership of the log, or else the snapshot's
abbrev pub force_of : KnownState → EffectiveMembership
force_of k = last_else (force_of_snapshot k.state.snapshot_meta) k.memberships

-- the last membership of the log at or below the committed log id, or else the snapshot's
abbrev pub committed_of : KnownState → EffectiveMembership
committed_of k =
    last_else (force_of_snapshot k.state.snapshot_meta) (take_below (next_place k.state.committed) k.memberships)

-- a membership of an entry, as one that is in force
abbrev pub logged_as_effective : LoggedMembership → EffectiveMembership
logged_as_effective m = record { log_id = Some m.log_id; membership = m.membership }

-- the ids but the own one
abbrev pub others : ℕ → List ℕ → List ℕ
others own ids = filter (λ n. if n == own then false else true) ids

-- the log id is of this leader, and at the place or above it
abbrev pub is_of_leader_from : LeaderId ℕ → ℕ → LogId ℕ → Bool
is_of_leader_from leader place id = leader_eq id.leader_id leader && nat_le place id.index

-- the log ids of this leader
abbrev pub ids_of_leader : LeaderId ℕ → List (LogId ℕ) → List (LogId ℕ)
ids_of_leader leader ids = filter (λ (id : LogId ℕ). leader_eq id.leader_id leader) ids

-- the place is below the next key, or where there is none not above this one
abbrev pub stands_under : ℕ → LogId ℕ → Option (LogId ℕ) → Bool
stands_under place key None = nat_le place key.index
stands_under place key (Some next) = nat_lt place next.index

-- both memberships are noted
abbrev pub AreNoted : KnownState → Type 0
AreNoted k =
    (k.state.membership_state.effective ≡ force_of k) × (k.state.membership_state.committed ≡ committed_of k)

-- nothing but the two memberships changes
abbrev pub with_members : KnownState → MembershipState → KnownState
with_members k both = record k { state = record k.state { membership_state = both } }

-- all up to here is committed, and nothing else but the two memberships changes
abbrev pub with_committed : KnownState → Option (LogId ℕ) → MembershipState → KnownState
with_committed k upto both = record k { state = record k.state { committed = upto; membership_state = both } }

-- this is wished for, and nothing else changes but up to where the log is to be purged
abbrev pub with_goal : KnownState → Option (LogId ℕ) → Option (LogId ℕ) → KnownState
with_goal k wish upto = record k { state = record k.state { purge_upto = upto }; wish = wish }

-- the log id is that of the log's entry at its place, or no entry stands there
abbrev pub IsEntryOrPast : StoredGroup → LogId ℕ → Type 0
IsEntryOrPast s id = (e : Entry) → entry_at s id.index ≡ Some e → e.log_id ≡ id

-- what isn't of the stored part stays
pub record KeepsRest (old new : KnownState) : Type 0 where
  pub vote : new.state.vote ≡ old.state.vote
  pub committed : new.state.committed ≡ old.state.committed
  pub wish : new.wish ≡ old.wish
