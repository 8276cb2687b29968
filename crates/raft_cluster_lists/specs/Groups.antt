-- What a cluster keeps of all its groups, and how that goes on with an event.
use Rattle.std.specs.Prelude.{◌≡◌, ◌⊎◌, ℕ, ◌==◌, List, [], Option, Some, None, MatchOption}
use Rattle.std.specs.List.{find}
use Rattle.raft_group_step.specs.Values.{Entry}
use Rattle.raft_group_lists.specs.Notes.{accounts_of, no_notes}
use Rattle.raft_list_facts.specs.declared.acceptance.Acceptance.{Acceptance}
use Rattle.raft_list_facts.specs.declared.leading.Leading.{Leading}
use Rattle.raft_cluster_events.specs.declared.event.ClusterEvent.{ClusterEvent}
use Rattle.raft_cluster_events.specs.declared.outcome.EventOutcome.{EventOutcome}
use Rattle.raft_cluster_lists.specs.declared.brought.Brought.{Brought}
use Rattle.raft_cluster_lists.specs.declared.kept.KeptGroup.{KeptGroup}
use Rattle.raft_cluster_lists.specs.Brought.{Brings}
use Rattle.raft_cluster_lists.specs.Hearing.{IsCallHeard, IsOpening, IsOpeningHeard, group_of}
use Rattle.raft_cluster_lists.specs.Lists.{AreSame, IsReady, stopped_at}

-- ---- groups

-- what is kept of the group, if anything is
abbrev pub kept_in : List KeptGroup → ℕ → Option KeptGroup
kept_in groups h = find (λ (kept : KeptGroup). kept.group == h) groups

abbrev pub entries_of : Option KeptGroup → List Entry
entries_of None = []
entries_of (Some kept) = (accounts_of kept.list.notes).list

-- what was kept of a group goes on so; of one of which nothing was kept nothing is
abbrev pub KeepsOn : (KeptGroup → KeptGroup → Type 0) → Option KeptGroup → Option KeptGroup → Type 0
KeepsOn goes old new = MatchOption old (new ≡ None) (λ kept. (next : KeptGroup) × (new ≡ Some next) × goes kept next)

-- the same is noted, and the calls that stopped write the same
pub record IsSameGroup (old new : KeptGroup) : Type 0 where
  pub notes : AreSame old.list.notes new.list.notes
  pub stopped : (node : ℕ) → stopped_at new.stopped.items node ≡ stopped_at old.stopped.items node

abbrev pub AreSameGroups : List KeptGroup → List KeptGroup → Type 0
AreSameGroups olds news = (h : ℕ) → KeepsOn IsSameGroup (kept_in olds h) (kept_in news h)

-- ---- before an event

-- nothing is noted of it yet
pub record IsNewGroup (kept : KeptGroup) : Type 0 where
  pub notes : AreSame no_notes kept.list.notes
  pub stopped : (node : ℕ) → stopped_at kept.stopped.items node ≡ None

-- the event's group is kept from now on
pub record IsBegunFor (event : ClusterEvent) (h : ℕ) (old new : Option KeptGroup) : Type 0 where
  pub of_group : group_of event ≡ Some h
  pub none : old ≡ None
  pub kept : KeptGroup
  pub there : new ≡ Some kept
  pub is_new : IsNewGroup kept

-- of each group the same is kept, but that the event's is kept now
abbrev pub IsPreparedFor : ClusterEvent → List KeptGroup → List KeptGroup → Type 0
IsPreparedFor event olds news =
    (h : ℕ) → KeepsOn IsSameGroup (kept_in olds h) (kept_in news h) ⊎ IsBegunFor event h (kept_in olds h) (kept_in news h)

-- each group has room for so many events that this one may bring something to: of an opening each that is kept, else the event's
-- own, which is kept
pub record IsReadyFor (event : ClusterEvent) (n : ℕ) (groups : List KeptGroup) : Type 0 where
  pub own : (h : ℕ) → group_of event ≡ Some h → (kept : KeptGroup) × (kept_in groups h ≡ Some kept) × IsReady kept n
  pub each : IsOpening event → (h : ℕ) (kept : KeptGroup) → kept_in groups h ≡ Some kept → IsReady kept n

-- what was ready for an event stays so
abbrev pub KeepReady : ℕ → ℕ → List KeptGroup → List KeptGroup → Type 0
KeepReady before n olds news = (other : ClusterEvent) → IsReadyFor other before olds → IsReadyFor other n news

-- this is what the event brings to its group, which its node leads with this
abbrev pub BringsTo : List KeptGroup → Option Leading → ClusterEvent → Brought → Type 0
BringsTo groups leading event brought =
    (h : ℕ) (kept : KeptGroup) → group_of event ≡ Some h → kept_in groups h ≡ Some kept → Brings kept.list.notes leading event brought

-- ---- an event

-- it came to the node of this id, which behind it leads groups with these
module _ (id : ℕ) (leads : ℕ → Option Leading → Type 0) where
  -- a group goes on with a call or message of it
  pub record GoesOnByCall (h : ℕ) (outcome : EventOutcome) (accepted : Option Acceptance) (brought : Brought) (old new : KeptGroup) : Type 0 where
    pub leading : Option Leading
    pub leads_behind : leads h leading
    pub heard : IsCallHeard id leading outcome accepted brought old new

  -- a group goes on with an opening of the node
  pub record GoesOnByOpening (h : ℕ) (outcome : EventOutcome) (old new : KeptGroup) : Type 0 where
    pub leading : Option Leading
    pub leads_behind : leads h leading
    pub heard : IsOpeningHeard id leading outcome old new

  -- an opening is heard of each group that is kept, another event of its group, and all others stay
  pub record IsHeard (event : ClusterEvent) (outcome : EventOutcome) (accepted : Option Acceptance) (brought : Brought) (olds news : List KeptGroup) : Type 0 where
    pub own : (h : ℕ) → group_of event ≡ Some h → KeepsOn (GoesOnByCall h outcome accepted brought) (kept_in olds h) (kept_in news h)
    pub each : IsOpening event → (h : ℕ) → KeepsOn (GoesOnByOpening h outcome) (kept_in olds h) (kept_in news h)
    pub others : (h : ℕ) → (group_of event ≡ Some h → ⊥) → (IsOpening event → ⊥) → kept_in news h ≡ kept_in olds h
