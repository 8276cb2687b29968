use Rattle.std.proofs.Common.{rules, tests}
use Rattle.raft_log_engine.proofs.CacheLemmas.{made_before, more_kept}
use Rattle.raft_log_engine.proofs.block_cache.BlockCache.keep.Goals as goal

pub returns-in-Some-clause-kept : goal.returns-in-Some-clause-kept
returns-in-Some-clause-kept c =
    λ at bytes kept. made_before c.args.self.now c.make.new.self c.in-Some.blocks (record { handle = c.args.handle }) c.args.entries c.in-Some.is c.make.ensures.kept at bytes
    (more_kept _ c.in-Some.blocks c.put.new.self (record { handle = c.args.handle }) c.args.entries c.put.result c.put.ensures.entries c.put.ensures.err (λ k same. search (rules, tests)) at bytes kept)
