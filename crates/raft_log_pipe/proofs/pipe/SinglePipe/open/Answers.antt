use Rattle.std.proofs.Common.{[], ◌∷◌, ◌++◌, map, sym, ap, subst}
use Rattle.std.specs.String.{string_bytes}
use Rattle.raft_log_disk.specs.Disk.{Disk, IsNoFile}
use Rattle.raft_log_file.specs.declared.writer.LogFileWriter.{LogFileWriter}
use Rattle.raft_log_pipe.specs.declared.pipe.SinglePipe.{SinglePipe}
use Rattle.raft_log_pipe.proofs.OpenLemmas.{found_so, opened_holds, opened_keeps, opened_pipe, resumed_on}
use Rattle.raft_log_pipe.proofs.AloneLemmas.{found_alone}
use Rattle.raft_log_pipe.proofs.TakenLemmas.{exit_io, named_there, still_taken}
use Rattle.raft_log_disk.specs.Cause.{Rises}
use Rattle.raft_log_pipe.proofs.CausedLemmas.{exit_cause}
use Rattle.raft_log_pipe.specs.Reserved.{AreReserved}
use Rattle.raft_log_pipe.proofs.EndLemmas.{not_given, not_ok}
use Rattle.raft_log_pipe.proofs.pipe.SinglePipe.open.Goals as goal

pub returns-clause-pipe : goal.returns-clause-pipe
returns-clause-pipe g c =
    let met = g.met.F.FileSystem g.world.𝓛 g.world.𝓜 g.world.𝓡 ((λ s x. x), (λ x. x), (λ x. x), λ x. x) in
    opened_pipe _ (g.F.FileSystem.disk c.args.files.now) _ c.requires.found.0 (met.is_named c.args.files.now)
    (found_so c.args.queue c.args.paths.items (g.F.FileSystem.disk c.args.files.now) c.args.found.items c.pop.new.self.items c.in-Some.active c.requires.found.0 c.in-Some.ensures.items c.requires.found.1)
    c.in_ok-writer.ensures.resumed c.requires.paths c.requires.plain (subst (AreReserved c.args.queue (map string_bytes c.args.paths.items) (g.F.FileSystem.disk c.args.files.now)) (sym c.new.ensures.items) tt)

pub returns-clause-holds : goal.returns-clause-holds
returns-clause-holds g c =
    let met = g.met.F.FileSystem g.world.𝓛 g.world.𝓜 g.world.𝓡 ((λ s x. x), (λ x. x), (λ x. x), λ x. x) in
    λ bs found. opened_holds c.args.queue c.args.paths.items _ c.in-Some.active c.in_ok-writer.writer (g.F.FileSystem.disk c.args.files.now) _ bs (met.is_named c.args.files.now)
    (found_so c.args.queue c.args.paths.items (g.F.FileSystem.disk c.args.files.now) c.args.found.items c.pop.new.self.items c.in-Some.active bs c.in-Some.ensures.items found) c.in_ok-writer.ensures.resumed

pub returns-clause-changes : goal.returns-clause-changes
returns-clause-changes g c =
    let so = found_so c.args.queue c.args.paths.items (g.F.FileSystem.disk c.args.files.now) c.args.found.items c.pop.new.self.items c.in-Some.active c.requires.found.0 c.in-Some.ensures.items c.requires.found.1 in
    (resumed_on (g.F.FileSystem.disk c.args.files.now) _ c.args.queue c.in-Some.active so.ks c.in_ok-writer.writer so.whole c.in_ok-writer.ensures.resumed).change

pub returns-clause-alone : goal.returns-clause-alone
returns-clause-alone g c =
    let so = found_so c.args.queue c.args.paths.items (g.F.FileSystem.disk c.args.files.now) c.args.found.items c.pop.new.self.items c.in-Some.active c.requires.found.0 c.in-Some.ensures.items c.requires.found.1 in
    found_alone (g.F.FileSystem.disk c.args.files.now) (g.F.FileSystem.disk c.resume_file.new.files) (map string_bytes c.args.paths.items) c.args.queue c.args.found.items (c.pop.new.self.items ++ c.in-Some.active ∷ []) (sym c.in-Some.ensures.items)
    (ap (λ (y : Disk). y.names) (resumed_on (g.F.FileSystem.disk c.args.files.now) (g.F.FileSystem.disk c.resume_file.new.files) c.args.queue c.in-Some.active so.ks c.in_ok-writer.writer so.whole c.in_ok-writer.ensures.resumed).change)

pub returns-clause-keeps : goal.returns-clause-keeps
returns-clause-keeps g c =
    opened_keeps c.args.queue c.args.paths.items (g.F.FileSystem.disk c.args.files.now) (g.F.FileSystem.disk c.resume_file.new.files) c.args.found.items c.pop.new.self.items c.in-Some.active c.requires.found.0 c.in_ok-writer.writer c.in-Some.ensures.items
    (found_so c.args.queue c.args.paths.items (g.F.FileSystem.disk c.args.files.now) c.args.found.items c.pop.new.self.items c.in-Some.active c.requires.found.0 c.in-Some.ensures.items c.requires.found.1) c.in_ok-writer.ensures.resumed

pub returns-in_err-writer-clause-taken : goal.returns-in_err-writer-clause-taken
returns-in_err-writer-clause-taken g c =
    let d = g.F.FileSystem.disk c.args.files.now in
    let so = found_so c.args.queue c.args.paths.items d c.args.found.items c.pop.new.self.items c.in-Some.active c.requires.found.0 c.in-Some.ensures.items c.requires.found.1 in
    λ free.
    exit_io (Unit {0}) SinglePipe ⊥ ⊥ ⊥ c.from_residual.result c.in_err-writer.field-0.0 c.from_residual.ensures.1
    (still_taken LogFileWriter (Unit {0}) (IsNoFile d c.in-Some.active.handle.0) ⊥ ⊥ ⊥ c.in_err-writer.field-0.0
    (λ none. none (named_there d.names so.named.0 c.in-Some.active.handle.0 so.named.1)) (λ x. x) (c.in_err-writer.ensures.taken free))

pub returns-in_err-writer-clause-cause : goal.returns-in_err-writer-clause-cause
returns-in_err-writer-clause-cause g c =
    let d = g.F.FileSystem.disk c.args.files.now in
    let so = found_so c.args.queue c.args.paths.items d c.args.found.items c.pop.new.self.items c.in-Some.active c.requires.found.0 c.in-Some.ensures.items c.requires.found.1 in
    let rises : Type 0 = Rises 1 (g.F.FileSystem.meter c.args.files.now) (g.F.FileSystem.meter c.resume_file.new.files) in
    exit_cause (Unit {0}) rises ⊥ ⊥ ⊥ c.from_residual.result c.in_err-writer.field-0.0 c.from_residual.ensures.1
    (still_taken LogFileWriter (Unit {0}) (IsNoFile d c.in-Some.active.handle.0) rises ⊥ rises c.in_err-writer.field-0.0
    (λ none. none (named_there d.names so.named.0 c.in-Some.active.handle.0 so.named.1)) (λ x. x) c.in_err-writer.ensures.cause)

pub returns-in_err-writer-clause-pipe : goal.returns-in_err-writer-clause-pipe
returns-in_err-writer-clause-pipe g c = not_given _ _ c.from_residual.result c.from_residual.ensures.1

pub returns-in_err-writer-clause-files : goal.returns-in_err-writer-clause-files
returns-in_err-writer-clause-files g c = not_given _ _ c.from_residual.result c.from_residual.ensures.1

pub returns-in_err-writer-clause-holds : goal.returns-in_err-writer-clause-holds
returns-in_err-writer-clause-holds g c = not_given _ _ c.from_residual.result c.from_residual.ensures.1

pub returns-in_err-writer-clause-paths : goal.returns-in_err-writer-clause-paths
returns-in_err-writer-clause-paths g c = not_given _ _ c.from_residual.result c.from_residual.ensures.1

pub returns-in_err-writer-clause-settings : goal.returns-in_err-writer-clause-settings
returns-in_err-writer-clause-settings g c = not_given _ _ c.from_residual.result c.from_residual.ensures.1

pub returns-in_err-writer-clause-bare : goal.returns-in_err-writer-clause-bare
returns-in_err-writer-clause-bare g c = not_given _ _ c.from_residual.result c.from_residual.ensures.1

pub returns-in_err-writer-clause-alone : goal.returns-in_err-writer-clause-alone
returns-in_err-writer-clause-alone g c = not_given _ _ c.from_residual.result c.from_residual.ensures.1

pub returns-in_err-writer-clause-changes : goal.returns-in_err-writer-clause-changes
returns-in_err-writer-clause-changes g c = not_given _ _ c.from_residual.result c.from_residual.ensures.1

pub returns-in_err-writer-clause-keeps : goal.returns-in_err-writer-clause-keeps
returns-in_err-writer-clause-keeps g c = not_ok _ _ c.from_residual.result c.from_residual.ensures.1
