use Rattle.std.proofs.Common.{refl, sym}
use Rattle.raft_cluster.proofs.HappeningLemmas.{without_memory}
use Rattle.raft_cluster.proofs.happening.crash.Goals as goal

pub returns-in-Ok-clause-ok : goal.returns-in-Ok-clause-ok
returns-in-Ok-clause-ok g c = λ sent at. record { answers = (c.in-Ok.ensures.does, refl); id = c.in-Ok.ensures.id }

pub returns-in-Some-clause-ok : goal.returns-in-Some-clause-ok
returns-in-Some-clause-ok g c =
    λ sent at. record { why = c.in-Err.why; refuses = c.in-Err.ensures.why; named = sym c.in-Some.ensures; node = c.in-Err.ensures.refused }

pub returns-in-None-clause-memory : goal.returns-in-None-clause-memory
returns-in-None-clause-memory g c = without_memory g.N.ClusterNode.acts c.args.choice.now c.args.node.now c.in-Err.why c.in-Err.ensures.why (sym c.in-None.ensures)
