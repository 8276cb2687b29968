use Rattle.std.proofs.Common.{refl, subst, sym}
use Rattle.raft_log_pipe.specs.Pipe.{IsPipe}
use Rattle.raft_log_pipe.proofs.ChangeLemmas.{pipe_on, synced_holds, synced_writer}
use Rattle.raft_log_pipe.proofs.PipeLemmas.{changes}
use Rattle.raft_log_pipe.proofs.OthersLemmas.{last_others, same_others}
use Rattle.raft_log_disk.specs.Disk.{IsNoFile}
use Rattle.raft_log_pipe.proofs.TakenLemmas.{exit_io, last_there, still_taken}
use Rattle.raft_log_disk.specs.Cause.{Rises}
use Rattle.raft_log_pipe.proofs.CausedLemmas.{counted_cause, exit_cause}
use Rattle.raft_log_pipe.proofs.pipe.SinglePipe.sync.Goals as goal

pub returns-clause-pipe : goal.returns-clause-pipe
returns-clause-pipe g c = pipe_on c.args.self.now c.args.self.now.writer _ _ c.requires (synced_writer _ _ _ c.requires.writer c.in_ok-sync.ensures.ok) refl (changes _ _ _ _ c.in_ok-sync.ensures.ok)

pub returns-in_err-sync-clause-pipe : goal.returns-in_err-sync-clause-pipe
returns-in_err-sync-clause-pipe g c = subst (IsPipe c.args.self.now) (sym c.in_err-sync.ensures.err) c.requires

pub returns-clause-ok : goal.returns-clause-ok
returns-clause-ok g c = synced_holds c.args.self.now _ _ c.requires c.in_ok-sync.ensures.ok

pub returns-in_err-sync-clause-others : goal.returns-in_err-sync-clause-others
returns-in_err-sync-clause-others g c =
    same_others c.args.self.now.queue _ _ c.in_err-sync.ensures.err

pub returns-clause-others : goal.returns-clause-others
returns-clause-others g c =
    let met = g.met.F.FileSystem g.world.𝓛 g.world.𝓜 g.world.𝓡 ((λ s x. x), (λ x. x), (λ x. x), λ x. x) in
    last_others c.args.self.now _ _ (met.is_named c.args.files.now) c.requires (changes _ _ _ _ c.in_ok-sync.ensures.ok)

pub returns-in_err-sync-clause-taken : goal.returns-in_err-sync-clause-taken
returns-in_err-sync-clause-taken g c = λ free.
    exit_io (Unit {0}) (Unit {0}) ⊥ ⊥ ⊥ c.from_residual.result c.in_err-sync.field-0.0 c.from_residual.ensures.1
    (still_taken (Unit {0}) (Unit {0}) (IsNoFile (g.F.FileSystem.disk c.args.files.now) c.args.self.now.writer.fd.0) ⊥ ⊥ ⊥ c.in_err-sync.field-0.0 (last_there c.args.self.now _ c.requires) (λ x. x) (c.in_err-sync.ensures.taken free))

pub returns-in_err-sync-clause-cause : goal.returns-in_err-sync-clause-cause
returns-in_err-sync-clause-cause g c =
    let a = g.F.FileSystem.meter c.args.files.now in
    let b = g.F.FileSystem.meter c.sync.new.files in
    exit_cause (Unit {0}) (Rises 1 a b) ⊥ ⊥ ⊥ c.from_residual.result c.in_err-sync.field-0.0 c.from_residual.ensures.1
    (counted_cause (Unit {0}) (Unit {0}) ⊥ a b c.in_err-sync.field-0.0 c.in_err-sync.ensures.counted (λ e. last_there c.args.self.now _ c.requires (c.in_err-sync.ensures.not_found e)))
