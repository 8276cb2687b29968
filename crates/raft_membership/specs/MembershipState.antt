-- How the two memberships that a node knows follow the log.
use Rattle.std.specs.Prelude.{ℕ, Bool, not, ◌&&◌, if◌then◌else◌, Option, Some, None}
use Rattle.std.specs.declared.cmp.Ordering.{Ordering}
use Rattle.raft_membership.specs.declared.effective_membership.EffectiveMembership.{EffectiveMembership}
use Rattle.raft_values.specs.declared.log_id.LogId.{LogId}
use Rattle.raft_membership.specs.declared.membership.Membership.{Membership}
use Rattle.raft_membership.specs.declared.membership_state.MembershipState.{MembershipState}
use Rattle.raft_values.specs.declared.validate.Invalid.{Invalid}
use Rattle.raft_values.specs.declared.validate.Invalid.TheVariants.{CommittedMembership}
use Rattle.raft_values.specs.LogId.{is_past, reaches, stands_before}

module _ {K N : Type 0} where
  -- the log is shortened from a place on: what goes with it is in force no longer
  abbrev pub truncated_from : MembershipState K N → ℕ → MembershipState K N
  truncated_from s since =
      if reaches s.effective.log_id since then record s { effective = s.committed } else s

  -- other voter groups or nodes are in force once this membership is known to be committed
  abbrev pub changes_force : (Membership K N → Membership K N → Bool) → MembershipState K N → EffectiveMembership K N → Bool
  changes_force eq s m =
      not (stands_before m.log_id s.effective.log_id) && not (eq m.membership s.effective.membership)

module _ {K N : Type 0} (cmp : K → K → Ordering) where
  -- the log is committed up to a log id: so is the membership in force, if it isn't later
  abbrev pub committed_upto : MembershipState K N → Option (LogId K) → MembershipState K N
  committed_upto s upto =
      if is_past cmp s.effective.log_id upto then s else record s { committed = s.effective }

  -- the membership that is in force once this one is known to be committed
  abbrev pub next_effective : MembershipState K N → EffectiveMembership K N → EffectiveMembership K N
  next_effective s m = if stands_before m.log_id s.effective.log_id then s.effective else m

  -- the later of the last committed membership and this one
  abbrev pub next_committed : MembershipState K N → EffectiveMembership K N → EffectiveMembership K N
  next_committed s m = if is_past cmp m.log_id s.committed.log_id then m else s.committed

  -- the two once this one is known to be committed
  abbrev pub taken_over : MembershipState K N → EffectiveMembership K N → MembershipState K N
  taken_over s m = record { committed = next_committed s m; effective = next_effective s m }

  -- the committed membership is no later than the one in force
  abbrev pub membership_fault : MembershipState K N → Option Invalid
  membership_fault s =
      if is_past cmp s.committed.log_id s.effective.log_id then Some CommittedMembership else None
