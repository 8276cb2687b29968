-- Calls that clean, one after the other.
use Rattle.std.proofs.Common.{◌≡◌, ◌⊎◌, inl, inr, ℕ, List, Option, Some, None, ap, ◌∙◌}
use Rattle.std.specs.Prelude.{Result, Ok, Err, OnOk}
use Rattle.std.specs.Result.{IsErrAnd}
use Rattle.raft_log_disk.specs.Disk.{Disk}
use Rattle.raft_log_pipes.specs.declared.pipes.DualPipes.{DualPipes}
use Rattle.raft_log_traced.specs.declared.traced.TracedTables.{TracedTables}
use Rattle.raft_log_covers.specs.Kept.{Traces}
use Rattle.raft_log_covers.specs.Trace.{greater}
use Rattle.raft_log_pipe.specs.declared.pipe.SinglePipe.{SinglePipe}
use Rattle.raft_log_pipe.specs.Pipe.{first_of}
use Rattle.raft_log_purge.specs.Going.{GoesToNeeded}
use Rattle.raft_log_cleaner.specs.Cleaning.{Cleans, KeepsFromBarrier}
use Rattle.raft_log_cleaner.proofs.Ends.{can_leave}
use Rattle.raft_log_cleaner.proofs.Going.{done, failed, none_ok, when_err}

pub cleans_done : {X E : Type 0} (d : Disk) (p : DualPipes) (log : TracedTables) (x : X) → Cleans d p log d p log (done {X = X} {E = E} x)
cleans_done d p log x = record { ok = λ content can. can; err = λ content can. tt }

pub cleans_stopped : {X E : Type 0} (Q : E → Type 0) (d : Disk) (p : DualPipes) (log : TracedTables) (result : Result X E) → IsErrAnd result Q → Cleans d p log d p log result
cleans_stopped Q d p log result is = record { ok = λ content can. none_ok Q _ result is; err = λ content can. when_err result (can_leave d p log content can) }

module _ {d e f : Disk} {p q r : DualPipes} {log mid new : TracedTables} where
  pub cleans_then : {X Y E : Type 0} (x : X) (result : Result Y E) → Cleans d p log e q mid (done {X = X} {E = E} x) → Cleans e q mid f r new result → Cleans d p log f r new result
  cleans_then x result one two = record { ok = λ content can. two.ok content (one.ok content can); err = λ content can. two.err content (one.ok content can) }

pub cleans_refused : {X Y E : Type 0} (Q : E → Type 0) {d e : Disk} {p q : DualPipes} {log mid : TracedTables} (result : Result Y E) (x : E) → IsErrAnd result Q → Cleans d p log e q mid (failed {X = X} {E = E} x) → Cleans d p log e q mid result
cleans_refused Q result x is one = record { ok = λ content can. none_ok Q _ result is; err = λ content can. when_err result (one.err content can) }

-- ---- the barrier

pub barrier_same : (barrier : Option ℕ) (p q : DualPipes) → q.append ≡ p.append → KeepsFromBarrier barrier p q
barrier_same None p q same = tt
barrier_same (Some file) p q same = inl (ap first_of same)

pub barrier_then : (barrier : Option ℕ) (p q r : DualPipes) → q.append ≡ p.append → KeepsFromBarrier barrier q r → KeepsFromBarrier barrier p r
barrier_then None p q r same kept = tt
barrier_then (Some file) p q r same (inl first) = inl (first ∙ ap first_of same)
barrier_then (Some file) p q r same (inr low) = inr low

-- ---- files that went

-- behind calls that leave the first one there
pub goes_then : {X E : Type 0} (result : Result X E) (traces : Traces) (barrier : Option ℕ) (p q r : SinglePipe) → first_of q ≡ first_of p → OnOk result (GoesToNeeded traces barrier q r)
    → OnOk result (GoesToNeeded traces barrier p r)
goes_then (Err e) traces barrier p q r first gone = tt
goes_then (Ok x) traces barrier p q r first gone = (gone.0, gone.1, gone.2 ∙ ap (λ (n : ℕ). greater n gone.0) first)
