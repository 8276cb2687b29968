-- The leader to be asked, as an error names it.
use Rattle.std.specs.Prelude.{Option, Some, None}
use Rattle.raft_membership.specs.declared.error.ForwardToLeader.{ForwardToLeader as Forward}
use Rattle.raft_membership.specs.declared.error.ClientWriteError.{ClientWriteError}
use Rattle.raft_membership.specs.declared.error.ClientWriteError.TheVariants.{ForwardToLeader, ChangeMembershipError}

-- the part of a refusal that names who leads
abbrev pub forward_part : {K N : Type 0} → ClientWriteError K N → Option (Forward K N)
forward_part (ForwardToLeader forward) = Some forward
forward_part (ChangeMembershipError error) = None
