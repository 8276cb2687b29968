-- What listeners keep stays.
use Rattle.std.proofs.Common.{◌≡◌, ◌⊎◌, inl, inr, ℕ, List, Option, Some, None, refl, sym, subst, true}
use Rattle.std.specs.Prelude.{Result, Err, OnOk, is_some}
use Rattle.raft_log_records.specs.declared.file_id.LogQueue.{LogQueue}
use Rattle.raft_log_records.specs.declared.file_id.LogQueue.TheVariants.{Append, Rewrite}
use Rattle.raft_log_pipe.specs.Pipe.{first_of}
use Rattle.raft_log_pipes.specs.declared.pipes.DualPipes.{DualPipes}
use Rattle.raft_log_cleaner.specs.Cleaning.{KeepsFromBarrier}
use Rattle.raft_log_cleaner.specs.Pipes.{KeepsRewrites}
use Rattle.raft_log_purge.specs.Listeners.{AllKeepFrom, IsLeastKept}

-- the barrier is the least file that they keep
pub none_kept_went : {L : Type 0} (kept : L → LogQueue → Option ℕ) (listeners : List L) (barrier : Option ℕ) (p q : DualPipes) → IsLeastKept kept Append listeners barrier → KeepsFromBarrier barrier p q
    → (first_of q.append ≡ first_of p.append) ⊎ AllKeepFrom kept Append (first_of q.append) listeners
none_kept_went kept listeners None p q least keeps = inr ((least (first_of q.append)).0 tt)
none_kept_went kept listeners (Some file) p q least (inl same) = inl same
none_kept_went kept listeners (Some file) p q least (inr from) = inr ((least (first_of q.append)).0 from)

-- the rewrite queue is held where they keep a file of it
pub none_held_went : {L : Type 0} (kept : L → LogQueue → Option ℕ) (listeners : List L) (least : Option ℕ) (p q : DualPipes) → IsLeastKept kept Rewrite listeners least → (is_some least ≡ true → KeepsRewrites p q)
    → KeepsRewrites p q ⊎ AllKeepFrom kept Rewrite (first_of q.rewrite) listeners
none_held_went kept listeners None p q least keeps = inr ((least (first_of q.rewrite)).0 tt)
none_held_went kept listeners (Some file) p q least keeps = inl (keeps refl)

-- nothing is said behind a refusal
pub none_of_err : {X E : Type 0} (A : Type 0) (result : Result X E) (x : E) → result ≡ Err x → OnOk result A
none_of_err {X} {E} A result x is = subst (λ (r : Result X E). OnOk r A) (sym is) tt
