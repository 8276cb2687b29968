-- Traces of batches that are replayed one after the other.
use Rattle.std.proofs.Common.{◌≡◌, List, [], ◌∷◌, ◌++◌, refl, sym, subst}
use Rattle.raft_log_records.specs.declared.file_id.LogQueue.{LogQueue}
use Rattle.raft_log_records.specs.declared.file_id.LogQueue.TheVariants.{Append, Rewrite}
use Rattle.raft_log_covers.specs.Kept.{Traces, traces_after}
use Rattle.raft_log_recovery.specs.Replay.{Placed}
use Rattle.raft_log_traces.specs.Alike.{AreAlike}
use Rattle.raft_log_traces.proofs.AlikeLemmas.{each_joined, items_same}
use Rattle.raft_log_traced.specs.Traced.{traces_over, traces_with}

pub over_last : (placed : List Placed) (p : Placed) (ts : Traces) → traces_over (placed ++ p ∷ []) ts ≡ traces_with p.handle.id.queue p.handle.id.seq p.items (traces_over placed ts)
over_last [] p ts = refl
over_last (q ∷ placed) p ts = over_last placed p (traces_with q.handle.id.queue q.handle.id.seq q.items ts)

-- one batch of the append queue more
pub appended : (placed : List Placed) (p : Placed) (ts us vs : Traces) → p.handle.id.queue ≡ Append → AreAlike (traces_over placed ts) us → AreAlike (traces_after p.handle.id.seq p.items us) vs → AreAlike (traces_over (placed ++ p ∷ []) ts) vs
appended placed p ts us vs queue before now =
    subst (λ (xs : Traces). AreAlike xs vs) (sym (over_last placed p ts))
    (subst (λ (q : LogQueue). AreAlike (traces_with q p.handle.id.seq p.items (traces_over placed ts)) vs) (sym queue)
    (each_joined (traces_after p.handle.id.seq p.items (traces_over placed ts)) (traces_after p.handle.id.seq p.items us) vs (items_same p.handle.id.seq p.items (traces_over placed ts) us before) now))

-- one of the rewrite queue
pub rewritten : (placed : List Placed) (p : Placed) (ts us : Traces) → p.handle.id.queue ≡ Rewrite → AreAlike (traces_over placed ts) us → AreAlike (traces_over (placed ++ p ∷ []) ts) us
rewritten placed p ts us queue before =
    subst (λ (xs : Traces). AreAlike xs us) (sym (over_last placed p ts))
    (subst (λ (q : LogQueue). AreAlike (traces_with q p.handle.id.seq p.items (traces_over placed ts)) us) (sym queue) before)
