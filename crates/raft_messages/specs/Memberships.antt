-- How what is lent stands for what is kept.
use Rattle.std.specs.Prelude.{ℕ, List, Option, option_map}
use Rattle.std.proofs.Common.{Bor}
use Rattle.raft_values.specs.declared.log_id.LogId.{LogId}
use Rattle.raft_membership.specs.declared.effective_membership.EffectiveMembership.{EffectiveMembership}
use Rattle.raft_group_step.specs.Values.{Entry, LoggedMembership, Membership}
use Rattle.raft_group_step.specs.StoredGroup.{Snapshot}
use Rattle.raft_messages.specs.declared.memberships.SnapshotHead.{SnapshotHead}

-- a lent membership with the log id of its entry
abbrev pub logged : LogId ℕ × Bor Membership → LoggedMembership
logged x = record { log_id = x.0; membership = x.1.now }

abbrev pub logged_or_none : Option (LogId ℕ × Bor Membership) → Option LoggedMembership
logged_or_none x = option_map logged x

-- a membership in force with the log id of its entry, if an entry has it
abbrev pub in_force : EffectiveMembership ℕ (List ℕ) → Option LoggedMembership
in_force m = option_map (λ (id : LogId ℕ). record { log_id = id; membership = m.membership }) m.log_id

-- the snapshot with this head and these entries
abbrev pub snapshot_of : SnapshotHead → List Entry → Snapshot
snapshot_of h entries =
    record { last = h.last; membership = logged_or_none h.membership; «prefix» = entries }
