-- A store shows what its log shows.
use Rattle.raft_store.specs.Showing.{shows_answered, shows_nothing}
use Rattle.raft_store.proofs.store.Store.new.Goals as goal

pub returns-clause-shown : goal.returns-clause-shown
returns-clause-shown g c = λ group parts only holds.
    shows_answered (g.M.StateMachine.rules) (g.L.ContentLog.is_sound) (g.L.ContentLog.answers) (g.L.ContentLog.leaves) c.args.log only group parts holds

pub returns-clause-none : goal.returns-clause-none
returns-clause-none g c = λ group only is.
    shows_nothing (g.M.StateMachine.rules) (g.L.ContentLog.is_sound) (g.L.ContentLog.answers) (g.L.ContentLog.leaves) c.args.log only is group
