use Rattle.std.proofs.Common.{◌≡◌, ℕ, Ok, Err, ap, rules, sym, subst, ◌∙◌}
use Rattle.raft_log_disk.specs.declared.fault.Fd.{Fd}
use Rattle.raft_log_disk.specs.Format.{header_len}
use Rattle.raft_log_files.specs.declared.error.CorruptionFault.TheVariants.{Header}
use Rattle.raft_log_files.specs.declared.error.Error.{Error}
use Rattle.raft_log_files.specs.declared.error.Error.TheVariants.{Corruption}
use Rattle.raft_log_file.specs.Errors.{Parses}
use Rattle.raft_log_file.specs.Reader.{held_bytes, left}
use Rattle.raft_log_file.specs.Reading.{read_behind}
use Rattle.raft_log_recovery.proofs.ReplayLemmas.{all_placed, nothing_placed}
use Rattle.raft_log_file.specs.Errors.{IsOpenFault}
use Rattle.raft_log_files.specs.declared.error.CorruptionFault.{CorruptionFault}
use Rattle.raft_log_recovery.proofs.CorruptLemmas.{open_sound, passed_on}
use Rattle.raft_log_file.specs.declared.batches.OpenFile.{OpenFile}
use Rattle.raft_log_recovery.specs.Caused.{IsReplayFault}
use Rattle.raft_log_pipe.proofs.CausedLemmas.{told_cause}
use Rattle.raft_log_recovery.proofs.CausedLemmas.{open_fault, parse_fault}
use Rattle.raft_log_pipe.proofs.EndLemmas.{not_given, not_ok}
use Rattle.raft_log_recovery.proofs.reading.replay_file.Goals as goal

pub returns-in-Err-Corruption-Header-clause-replayed : goal.returns-in-Err-Corruption-Header-clause-replayed
returns-in-Err-Corruption-Header-clause-replayed g c =
    let d = g.F.FileSystem.disk c.args.files.now in
    let m = g.F.FileSystem.meter c.args.files.now in
    let fd : c.build_file_reader-reader.result.fd.0 ≡ c.args.fd.0 = ap (λ (x : Fd). x.0) c.build_file_reader-reader.ensures in
    let whole : c.in-Err-Corruption-Header.field-0 ≡ Corruption (Header c.in-Err-Corruption-Header.fault) = first_of (search rules, cc) in
    nothing_placed (g.M.ReplayMachine.has_replayed c.args.machine.now) c.args.id (d.file c.args.fd.0).bytes c.in-Err-Corruption-Header.fault
    (subst (λ (n : ℕ). Parses d m n (Err (Corruption (Header c.in-Err-Corruption-Header.fault)))) fd
    (subst (λ (e : Error). Parses d m c.build_file_reader-reader.result.fd.0 (Err e)) whole c.in-Err-Corruption-Header.ensures))

pub returns-clause-replayed : goal.returns-clause-replayed
returns-clause-replayed g c =
    let d = g.F.FileSystem.disk c.args.files.now in
    let fd : c.build_file_reader-reader.result.fd.0 ≡ c.args.fd.0 = ap (λ (x : Fd). x.0) c.build_file_reader-reader.ensures in
    all_placed (g.M.ReplayMachine.has_replayed c.args.machine.now) (g.M.ReplayMachine.has_replayed c.replay_left.new.machine) c.args.id (d.file c.args.fd.0).bytes c.in-Ok.format (left c.open.new.self d) (held_bytes c.open.new.self d)
    (subst (λ (n : ℕ). Parses d (g.F.FileSystem.meter c.args.files.now) n (Ok c.in-Ok.format)) fd c.in-Ok.ensures)
    (c.in_ok-open.ensures.held ∙ ap (λ (n : ℕ). (d.file n).bytes) fd)
    (c.in_ok-open.ensures.ok ∙ ap (λ (n : ℕ). read_behind c.args.id c.in-Ok.format (header_len c.in-Ok.format.version) (d.file n).bytes) fd)
    c.in_ok-fault.ensures.replayed

pub returns-in_err-open-clause-corrupt : goal.returns-in_err-open-clause-corrupt
returns-in_err-open-clause-corrupt g c =
    let d = g.F.FileSystem.disk c.args.files.now in
    let m = g.F.FileSystem.meter c.args.files.now in
    let fd = c.build_file_reader-reader.result.fd.0 in
    passed_on (λ (f : CorruptionFault). ⊥) c.in_err-open.field-0.0 c.from_residual.result c.from_residual.ensures.1
    (λ f same. open_sound d m fd c.in-Ok.format f c.in-Ok.ensures (subst (λ (e : Error). IsOpenFault d m fd c.in-Ok.format e) same c.in_err-open.ensures.err))

pub returns-in-Err-clause-err : goal.returns-in-Err-clause-err
returns-in-Err-clause-err g c =
    let d = g.F.FileSystem.disk c.args.files.now in
    let m = g.F.FileSystem.meter c.args.files.now in
    let fd : c.build_file_reader-reader.result.fd.0 ≡ c.args.fd.0 = ap (λ (x : Fd). x.0) c.build_file_reader-reader.ensures in
    subst (λ (e : Error). IsReplayFault d m c.args.fd.0 e) (sym c.in-Err.error-is)
    (subst (λ (n : ℕ). IsReplayFault d m n c.in-Err.error) fd (parse_fault d m c.build_file_reader-reader.result.fd.0 c.in-Err.error c.in-Err.ensures))

pub returns-in_err-open-clause-err : goal.returns-in_err-open-clause-err
returns-in_err-open-clause-err g c =
    let d = g.F.FileSystem.disk c.args.files.now in
    let m = g.F.FileSystem.meter c.args.files.now in
    let fd : c.build_file_reader-reader.result.fd.0 ≡ c.args.fd.0 = ap (λ (x : Fd). x.0) c.build_file_reader-reader.ensures in
    told_cause c.from_residual.result c.in_err-open.field-0.0 (λ (e : Error). IsReplayFault d m c.args.fd.0 e) c.from_residual.ensures.1
    (subst (λ (n : ℕ). IsReplayFault d m n c.in_err-open.field-0.0) fd (open_fault d m c.build_file_reader-reader.result.fd.0 c.in-Ok.format c.in_err-open.field-0.0 c.in_err-open.ensures.err))

pub returns-in_err-fault-clause-err : goal.returns-in_err-fault-clause-err
returns-in_err-fault-clause-err g c =
    let d = g.F.FileSystem.disk c.args.files.now in
    let m = g.F.FileSystem.meter c.args.files.now in
    let fd : c.build_file_reader-reader.result.fd.0 ≡ c.args.fd.0 = ap (λ (x : Fd). x.0) c.build_file_reader-reader.ensures in
    let file : OpenFile = record { id = c.args.id; format = c.in-Ok.format; fd = c.build_file_reader-reader.result.fd } in
    told_cause c.from_residual-in_err-fault.result c.in_err-fault.field-0.0 (λ (e : Error). IsReplayFault d m c.args.fd.0 e) c.from_residual-in_err-fault.ensures.1
    (subst (λ (n : ℕ). IsReplayFault d m n c.in_err-fault.field-0.0) fd (c.in_err-fault.ensures.err file c.in_ok-open.ensures.file))

pub returns-in_err-open-clause-replayed : goal.returns-in_err-open-clause-replayed
returns-in_err-open-clause-replayed g c = not_ok _ _ c.from_residual.result c.from_residual.ensures.1

pub returns-in_err-open-clause-to : goal.returns-in_err-open-clause-to
returns-in_err-open-clause-to g c = not_given _ _ c.from_residual.result c.from_residual.ensures.1

pub returns-in_err-open-clause-fault : goal.returns-in_err-open-clause-fault
returns-in_err-open-clause-fault g c = not_given _ _ c.from_residual.result c.from_residual.ensures.1

pub returns-in_err-open-clause-format : goal.returns-in_err-open-clause-format
returns-in_err-open-clause-format g c = not_given _ _ c.from_residual.result c.from_residual.ensures.1

pub returns-in_err-fault-clause-replayed : goal.returns-in_err-fault-clause-replayed
returns-in_err-fault-clause-replayed g c = not_ok _ _ c.from_residual-in_err-fault.result c.from_residual-in_err-fault.ensures.1

pub returns-in_err-fault-clause-to : goal.returns-in_err-fault-clause-to
returns-in_err-fault-clause-to g c = not_given _ _ c.from_residual-in_err-fault.result c.from_residual-in_err-fault.ensures.1

pub returns-in_err-fault-clause-fault : goal.returns-in_err-fault-clause-fault
returns-in_err-fault-clause-fault g c = not_given _ _ c.from_residual-in_err-fault.result c.from_residual-in_err-fault.ensures.1

pub returns-in_err-fault-clause-format : goal.returns-in_err-fault-clause-format
returns-in_err-fault-clause-format g c = not_given _ _ c.from_residual-in_err-fault.result c.from_residual-in_err-fault.ensures.1

pub returns-in-Err-clause-to : goal.returns-in-Err-clause-to
returns-in-Err-clause-to g c = tt

pub returns-in-Err-clause-fault : goal.returns-in-Err-clause-fault
returns-in-Err-clause-fault g c = tt

pub returns-in-Err-clause-format : goal.returns-in-Err-clause-format
returns-in-Err-clause-format g c = tt

pub returns-in-Err-clause-replayed : goal.returns-in-Err-clause-replayed
returns-in-Err-clause-replayed g c = tt

pub returns-in-Err-Corruption-Header-clause-corrupt : goal.returns-in-Err-Corruption-Header-clause-corrupt
returns-in-Err-Corruption-Header-clause-corrupt g c = λ f e. absurd cc

pub returns-in-Err-Corruption-Header-clause-err : goal.returns-in-Err-Corruption-Header-clause-err
returns-in-Err-Corruption-Header-clause-err g c = tt

pub returns-clause-corrupt : goal.returns-clause-corrupt
returns-clause-corrupt g c = λ f e. absurd cc

pub returns-clause-err : goal.returns-clause-err
returns-clause-err g c = tt
