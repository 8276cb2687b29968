-- Who isn't refused leads.
use Rattle.raft_member.proofs.calls.beat.Goals as goal

pub returns : goal.returns
returns c = λ x own at s may. (c.in_ok-_answer.ensures.taken x own at s may).1
