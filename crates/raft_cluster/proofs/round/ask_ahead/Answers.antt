use Rattle.raft_cluster.proofs.round.ask_ahead.Goals as goal

pub returns-then-not-is_free-clause-waits : goal.returns-then-not-is_free-clause-waits
returns-then-not-is_free-clause-waits g c = λ none free. let yes = c.is_free.ensures.waits free in let no = c.if-not-is_free.true in absurd (cc)
