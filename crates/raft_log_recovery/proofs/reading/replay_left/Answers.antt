use Rattle.std.proofs.Common.{List, ℕ, Option, Some, Ok, sym, ap, subst, ◌∙◌}
use Rattle.raft_log_file.specs.declared.batches.ReadBatch.{ReadBatch}
use Rattle.raft_log_file.specs.Reading.{Reading}
use Rattle.raft_log_file.specs.Reader.{Next, held_bytes, left}
use Rattle.raft_log_recovery.proofs.ReplayLemmas.{given_of, held_same, replays_more}
use Rattle.raft_log_files.specs.declared.error.Error.{Error}
use Rattle.raft_log_recovery.specs.Caused.{IsReplayFault}
use Rattle.raft_log_pipe.proofs.CausedLemmas.{told_cause}
use Rattle.raft_log_recovery.proofs.CausedLemmas.{memory_fault, next_fault}
use Rattle.raft_log_recovery.proofs.reading.replay_left.Goals as goal

pub batches-preserved : goal.batches-preserved
batches-preserved g c =
    let d = g.F.FileSystem.disk c.args.files.now in
    let read : ReadBatch = c.in-Ok-Some.read in
    let before : Reading = left c.batches.reader d in
    let after : Reading = left c.next.new.self d in
    let bytes : List ℕ = held_bytes c.args.reader.now d in
    let held : List ℕ = held_bytes c.batches.reader d in
    let given = given_of c.args.id bytes read before after (subst (λ (l : List ℕ). Next (Ok (Some read)) l before after) c.batches.invariant.bytes
    (subst (λ (o : Option ReadBatch). Next (Ok o) held before after) c.in-Ok-Some.field-0-is c.in-Ok-Some.ensures.next)) in
    record {
      reader = c.next.ensures.reader;
      file = c.next.ensures.file ∙ c.batches.invariant.file;
      bytes = held_same c.next.new.self c.batches.reader d c.next.ensures.file ∙ c.batches.invariant.bytes;
      fault = ap (λ (x : Reading). x.fault) (sym given.is) ∙ c.batches.invariant.fault;
      to = ap (λ (x : Reading). x.to) (sym given.is) ∙ c.batches.invariant.to;
      replayed = replays_more (g.M.ReplayMachine.has_replayed c.args.machine.now) (g.M.ReplayMachine.has_replayed c.batches.machine) (g.M.ReplayMachine.has_replayed c.replay.new.self) c.args.id bytes
          (left c.args.reader.now d).batches before after given.batch _ c.batches.invariant.replayed given.is given.placed c.in_ok-replay-in-Ok-Some.ensures.replayed;
    }

pub returns-in-Err-clause-err : goal.returns-in-Err-clause-err
returns-in-Err-clause-err g c =
    let d = g.F.FileSystem.disk c.args.files.now in
    let m = g.F.FileSystem.meter c.args.files.now in
    λ file is. subst (λ (e : Error). IsReplayFault d m file.fd.0 e) (sym c.in-Err.error-is)
    (next_fault c.batches.reader file d m c.in-Err.error (c.batches.invariant.file ∙ is) c.in-Err.ensures.err)

pub returns-in_err-replay-in-Ok-Some-clause-err : goal.returns-in_err-replay-in-Ok-Some-clause-err
returns-in_err-replay-in-Ok-Some-clause-err g c =
    let d = g.F.FileSystem.disk c.args.files.now in
    let m = g.F.FileSystem.meter c.args.files.now in
    λ file is. told_cause c.from_residual.result c.in_err-replay-in-Ok-Some.field-0.0 (λ (e : Error). IsReplayFault d m file.fd.0 e) c.from_residual.ensures.1
    (memory_fault d m file.fd.0 c.in_err-replay-in-Ok-Some.field-0.0 c.in_err-replay-in-Ok-Some.ensures.err)
