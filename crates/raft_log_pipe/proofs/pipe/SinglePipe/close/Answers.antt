use Rattle.std.proofs.Common.{Ok, Err, ap}
use Rattle.raft_log_disk.specs.Disk.{Disk}
use Rattle.raft_log_disk.proofs.CauseLemmas.{at_err}
use Rattle.raft_log_pipe.proofs.ChangeLemmas.{closed_changes, closed_ended, closed_holds, pipe_on, unclosed_holds}
use Rattle.raft_log_pipe.proofs.OthersLemmas.{last_others}
use Rattle.raft_log_disk.specs.Disk.{IsNoFile}
use Rattle.raft_log_pipe.proofs.TakenLemmas.{exit_io, last_there, still_taken}
use Rattle.raft_log_disk.specs.Cause.{Rises}
use Rattle.raft_log_pipe.proofs.CausedLemmas.{counted_cause, exit_cause}
use Rattle.raft_log_pipe.proofs.pipe.SinglePipe.close.Goals as goal

pub returns-in_err-close-clause-pipe : goal.returns-in_err-close-clause-pipe
returns-in_err-close-clause-pipe g c =
    pipe_on c.args.self.now c.close.new.self _ _ c.requires c.in_err-close.ensures.writer c.in_err-close.ensures.same.0
    (closed_changes c.args.self.now.writer _ _ (Err c.in_err-close.field-0.0) c.in_err-close.ensures.closes)

pub returns-in_err-close-clause-err : goal.returns-in_err-close-clause-err
returns-in_err-close-clause-err g c = at_err _ _ (unclosed_holds c.args.self.now _ _ _ c.in_err-close.field-0.0 c.requires c.in_err-close.ensures.closes c.in_err-close.ensures.same.1)

pub returns-clause-pipe : goal.returns-clause-pipe
returns-clause-pipe g c =
    pipe_on c.args.self.now c.close.new.self _ _ c.requires c.in_ok-close.ensures.writer c.in_ok-close.ensures.same.0
    (closed_changes c.args.self.now.writer _ _ (Ok tt) c.in_ok-close.ensures.closes)

pub returns-clause-ok : goal.returns-clause-ok
returns-clause-ok g c = closed_holds c.args.self.now _ _ _ c.requires c.in_ok-close.ensures.closes c.in_ok-close.ensures.same.1

pub returns-clause-ended : goal.returns-clause-ended
returns-clause-ended g c = closed_ended c.args.self.now _ _ _ c.requires c.in_ok-close.ensures.closes c.in_ok-close.ensures.same.1

pub returns-in_err-close-clause-names : goal.returns-in_err-close-clause-names
returns-in_err-close-clause-names g c = ap (λ (y : Disk). y.names) (closed_changes c.args.self.now.writer _ _ (Err c.in_err-close.field-0.0) c.in_err-close.ensures.closes)

pub returns-clause-names : goal.returns-clause-names
returns-clause-names g c = ap (λ (y : Disk). y.names) (closed_changes c.args.self.now.writer _ _ (Ok tt) c.in_ok-close.ensures.closes)

pub returns-in_err-close-clause-others : goal.returns-in_err-close-clause-others
returns-in_err-close-clause-others g c =
    let met = g.met.F.FileSystem g.world.𝓛 g.world.𝓜 g.world.𝓡 ((λ s x. x), (λ x. x), (λ x. x), λ x. x) in
    last_others c.args.self.now _ _ (met.is_named c.args.files.now) c.requires (closed_changes c.args.self.now.writer _ _ (Err c.in_err-close.field-0.0) c.in_err-close.ensures.closes)

pub returns-clause-others : goal.returns-clause-others
returns-clause-others g c =
    let met = g.met.F.FileSystem g.world.𝓛 g.world.𝓜 g.world.𝓡 ((λ s x. x), (λ x. x), (λ x. x), λ x. x) in
    last_others c.args.self.now _ _ (met.is_named c.args.files.now) c.requires (closed_changes c.args.self.now.writer _ _ (Ok tt) c.in_ok-close.ensures.closes)

pub returns-in_err-close-clause-taken : goal.returns-in_err-close-clause-taken
returns-in_err-close-clause-taken g c = λ free.
    exit_io (Unit {0}) (Unit {0}) ⊥ ⊥ ⊥ c.from_residual.result c.in_err-close.field-0.0 c.from_residual.ensures.1
    (still_taken (Unit {0}) (Unit {0}) (IsNoFile (g.F.FileSystem.disk c.args.files.now) c.args.self.now.writer.fd.0) ⊥ ⊥ ⊥ c.in_err-close.field-0.0 (last_there c.args.self.now _ c.requires) (λ x. x) (c.in_err-close.ensures.taken free))

pub returns-in_err-close-clause-cause : goal.returns-in_err-close-clause-cause
returns-in_err-close-clause-cause g c =
    let a = g.F.FileSystem.meter c.args.files.now in
    let b = g.F.FileSystem.meter c.close.new.files in
    exit_cause (Unit {0}) (Rises 1 a b) ⊥ ⊥ ⊥ c.from_residual.result c.in_err-close.field-0.0 c.from_residual.ensures.1
    (counted_cause (Unit {0}) (Unit {0}) ⊥ a b c.in_err-close.field-0.0 c.in_err-close.ensures.counted (λ e. last_there c.args.self.now _ c.requires (c.in_err-close.ensures.not_found e)))
