-- A block that was read is kept.
use Rattle.raft_log_engine.proofs.CacheLemmas.{then_kept}
use Rattle.raft_log_engine.proofs.blocks.copy_of.Goals as goal

pub returns-clause-kept : goal.returns-clause-kept
returns-clause-kept g c =
    then_kept (g.F.FileSystem.disk c.args.files.now) c.args.pipes.now c.args.place c.args.cache.now c.count.new.self c.keep.new.self c.in-Some.handle c.in_ok-entries.entries.items c.in-Some.is c.in_ok-entries.ensures.read
    (λ x y kept. c.promote.ensures.kept x y (c.count.ensures.kept x y kept)) c.keep.ensures.kept
