-- Nobody but the node itself has granted.
use Rattle.std.proofs.Common.{refl}
use Rattle.raft_engine.proofs.CandidateLemmas.{stands_first}
use Rattle.raft_engine.proofs.engine.Engine.new_candidate.Goals as goal

pub returns : goal.returns
returns g c = λ s is_own uncommitted.
    let own = c.args.self.now.config.id in
    stands_first own own c.in_ok-candidate.candidate c.grant_by.new.self s c.in_ok-grant_by.ensures.notes c.grant_by.ensures.rest c.args.vote refl is_own uncommitted
    c.in_ok-candidate.ensures.vote c.in_ok-candidate.ensures.granted_by
