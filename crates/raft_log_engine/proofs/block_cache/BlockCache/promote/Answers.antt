use Rattle.std.proofs.Common.{sym, subst}
use Rattle.raft_log_engine.specs.Cached.{KeepsIn}
use Rattle.raft_log_engine.proofs.CacheLemmas.{still_kept}
use Rattle.raft_log_engine.proofs.block_cache.BlockCache.promote.Goals as goal

pub returns-in-Some-clause-kept : goal.returns-in-Some-clause-kept
returns-in-Some-clause-kept c =
    λ at entries kept. subst (λ o. KeepsIn o at entries) (sym c.in-Some.is) (still_kept _ c.in-Some.blocks c.promote.new.self c.promote.ensures.entries at entries kept)
