use Rattle.std.proofs.Common.{◌^◌, ◌<◌, arith}
use Rattle.std.specs.Prelude.{Result, Ok, Err, OnOk}
use Rattle.std.proofs.Common.{refl}
use Rattle.raft_log_pipe.proofs.OthersLemmas.{same_others}
use Rattle.raft_log_disk.specs.Cause.{Rises}
use Rattle.raft_log_pipe.specs.Taken.{IsUnnumbered}
use Rattle.raft_log_pipe.proofs.CausedLemmas.{cause_more}
use Rattle.raft_log_pipe.proofs.pipe.SinglePipe.finish.Goals as goal

pub returns-clause-number : goal.returns-clause-number
returns-clause-number g c =
    let there : c.saturating_add.result < 10 ^ 16 = c.is_file_seq.ensures.0 c.if-not-is_file_seq.false in
    on_ok c.close.result (omega (arith, there, c.saturating_add.ensures))
  where
    on_ok : {T E P : Type 0} (r : Result T E) → P → OnOk r P
    on_ok (Ok x) p = p
    on_ok (Err x) p = tt

pub returns-then-not-is_file_seq-clause-err : goal.returns-then-not-is_file_seq-clause-err
returns-then-not-is_file_seq-clause-err g c = λ s u h. h

pub returns-then-not-is_file_seq-clause-others : goal.returns-then-not-is_file_seq-clause-others
returns-then-not-is_file_seq-clause-others g c =
    same_others c.args.self.now.queue _ _ refl

pub returns-clause-cause : goal.returns-clause-cause
returns-clause-cause g c =
    let rises : Type 0 = Rises 1 (g.F.FileSystem.meter c.args.files.now) (g.F.FileSystem.meter c.close.new.files) in
    cause_more rises ⊥ ⊥ ⊥ rises ⊥ (IsUnnumbered c.args.self.now) ⊥ c.close.result (λ x. x) (λ x. x) (λ x. absurd x) (λ x. x) c.close.ensures.cause
