-- What was stored shows a new member's group.
use Rattle.std.proofs.Common.{inl, refl}
use Rattle.raft_world.proofs.member.Member.new.Goals as goal

pub returns : goal.returns
returns c = c.in_ok-replica.ensures.ok tt (refl, inl c.new-stored.ensures)
