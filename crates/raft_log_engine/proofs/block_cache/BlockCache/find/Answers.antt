use Rattle.std.proofs.Common.{sym, subst, rules, tests}
use Rattle.raft_log_engine.specs.Cached.{Keeps, KeepsIn}
use Rattle.raft_log_engine.proofs.CacheLemmas.{found_kept}
use Rattle.raft_log_engine.proofs.block_cache.BlockCache.find.Goals as goal

pub returns-in-Some-peek : goal.returns-in-Some-peek
returns-in-Some-peek c =
    subst (λ l. Keeps c.args.self.now c.args.handle l) (sym c.deref.ensures.value)
    (subst (λ o. KeepsIn o c.args.handle c.in-Some-peek.entries.now.items) (sym c.in-Some.is)
    (found_kept _ c.in-Some.blocks (record { handle = c.args.handle }) c.in-Some-peek.entries.now (λ k same. search (rules, tests)) (sym c.in-Some-peek.ensures)))
