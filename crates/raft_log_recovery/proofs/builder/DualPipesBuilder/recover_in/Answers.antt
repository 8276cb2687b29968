use Rattle.raft_log_recovery.proofs.builder.DualPipesBuilder.recover_in.Goals as goal

pub returns : goal.returns
returns g c = (c.requires.way _ _ _ _ c.requires.found).1 _ _ _ c.way.ensures
