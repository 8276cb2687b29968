-- What an event brings to the list of its group.
use Rattle.std.specs.Prelude.{◌≡◌, ◌⊎◌, false, Option, Some, None, MatchOption}
use Rattle.raft_group_step.specs.GroupEvent.{GroupCall}
use Rattle.raft_group_step.specs.Values.{ChangeMembers, Membership, after_change, is_valid}
use Rattle.raft_laws.specs.GroupRun.{setup_in_call}
use Rattle.raft_list_steps.specs.declared.report.SetUp.{SetUp}
use Rattle.raft_group_lists.specs.Notes.{Notes}
use Rattle.raft_list_reports.specs.Calls.{IsWrittenBy}
use Rattle.raft_list_facts.specs.declared.leading.Leading.{Leading}
use Rattle.raft_cluster_events.specs.declared.event.ClusterEvent.{ClusterEvent}
use Rattle.raft_cluster_events.specs.declared.event.ClusterEvent.TheVariants.{AddGroup, Ask, Deliver, ResetPeer, Clean, Fuse, Crash, Reopen}
use Rattle.raft_cluster_lists.specs.declared.brought.Brought.{Brought}

-- this set-up is asked for, with its voters
pub record IsSetUpOf (call : GroupCall) (said : SetUp) : Type 0 where
  pub asked : setup_in_call call ≡ Some said.membership
  pub voters : said.voters ≡ said.membership.configs

abbrev pub IsAskedBy : GroupCall → Option SetUp → Type 0
IsAskedBy call said = MatchOption said (setup_in_call call ≡ None) (IsSetUpOf call)

-- this is the membership behind the change, if one is in force and that one is valid
abbrev pub IsChangedBy : Option Membership → ChangeMembers → Option Membership → Type 0
IsChangedBy old change changed =
    MatchOption changed
    ((old ≡ None) ⊎ ((m : Membership) × (old ≡ Some m) × (is_valid (after_change m change) ≡ false)))
    (λ new. (m : Membership) × (old ≡ Some m) × (new ≡ after_change m change))

-- what the call of an event brings, at a node that leads the group with this
pub record IsBroughtBy (s : Notes) (leading : Option Leading) (call : GroupCall) (brought : Brought) : Type 0 where
  pub set_up : IsAskedBy call brought.set_up
  pub written : MatchOption leading (brought.written ≡ None) (λ lead. IsWrittenBy s lead.vote call brought.written)

-- no call comes
pub record IsNothing (brought : Brought) : Type 0 where
  pub set_up : brought.set_up ≡ None
  pub written : brought.written ≡ None

-- what an event brings to the list of its group, of which this is noted
abbrev pub Brings : Notes → Option Leading → ClusterEvent → Brought → Type 0
Brings s leading (AddGroup node group) brought = IsNothing brought
Brings s leading (Ask node group call now) brought = IsBroughtBy s leading call brought
Brings s leading (Deliver group number cuts now) brought = IsNothing brought
Brings s leading (ResetPeer node peer) brought = IsNothing brought
Brings s leading (Clean node) brought = IsNothing brought
Brings s leading (Fuse node first_refused) brought = IsNothing brought
Brings s leading (Crash node choice) brought = IsNothing brought
Brings s leading (Reopen node workers) brought = IsNothing brought
