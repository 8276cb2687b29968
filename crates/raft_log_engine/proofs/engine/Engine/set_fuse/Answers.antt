-- The files have what they had.
use Rattle.std.proofs.Common.{sym, subst}
use Rattle.raft_log_engine.specs.Cached.{HoldsBlocks}
use Rattle.raft_log_engine.proofs.Crashes.{are_fused}
use Rattle.raft_log_engine.proofs.engine.Engine.set_fuse.Goals as goal

pub returns-clause-fused : goal.returns-clause-fused
returns-clause-fused g c =
    let e = c.fuse.ensures in
    rw (← c.self.view_is) (are_fused g.F.FileSystem.disk g.F.FileSystem.meter c.self.inside.files c.fuse.new.self c.args.first_refused e.disk e.calls e.refusals e.lacks e.reads e.faulty)

pub invariant_of-self : goal.invariant_of-self
invariant_of-self g c =
    λ goes_on. subst (λ d. HoldsBlocks d c.self.inside.pipes c.self.inside.traced c.self.inside.wrote_unsynced c.self.inside.blocks) (sym c.fuse.ensures.disk) (c.self.invariant goes_on)
