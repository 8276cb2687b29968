-- What an opening that tolerates a torn tail refuses of the files.
use Rattle.raft_log_engine.proofs.Tails.{held_in_tail, written_in_tail}
use Rattle.raft_log_engine.proofs.Clauses.{parts}
use Rattle.raft_log_engine.proofs.engine.Engine.abandon.Goals as goal

pub returns-clause-opens_in_tail : goal.returns-clause-opens_in_tail
returns-clause-opens_in_tail g c =
    let met = g.met.F.FileSystem g.world.𝓛 g.world.𝓜 g.world.𝓡 ((λ s x. x), (λ x. x), (λ x. x), λ x. x) in
    rw (← c.self.view_is) (λ goes_on alone.
    let held = (c.self.invariant goes_on).batches in
    held_in_tail (g.F.FileSystem.disk c.self.inside.files) c.self.inside.pipes held.rewrites held.synced held.unsynced (met.is_named c.self.inside.files) alone held.held.rewrite held.held.append)

pub returns-clause-tail_still : goal.returns-clause-tail_still
returns-clause-tail_still g c =
    let met = g.met.F.FileSystem g.world.𝓛 g.world.𝓜 g.world.𝓡 ((λ s x. x), (λ x. x), (λ x. x), λ x. x) in
    rw (← c.self.view_is) (λ before batches alone w. written_in_tail (g.F.FileSystem.disk) (parts c.self.inside.files c.self.inside.pipes c.self.inside.traced.tables c.self.inside.is_stopped c.self.inside.wrote_unsynced c.self.inside.blocks.reads c.self.inside.traced c.self.inside.manager.purge_threshold) (met.is_named c.self.inside.files) alone before batches w)
