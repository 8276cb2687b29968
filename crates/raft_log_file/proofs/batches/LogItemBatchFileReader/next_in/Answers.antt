use Rattle.std.proofs.Common.{◌≡◌, ◌+◌, ◌≤◌, List, ℕ, length, Ok, Some, subst, ◌∙◌, arith}
use Rattle.raft_log_file.specs.Reading.{read_behind}
use Rattle.raft_log_file.specs.Reader.{Next, bytes_in}
use Rattle.raft_log_file.proofs.NextLemmas.{moved, found_fits, found_next, end_next, fault_again, padding_again, padding_fits}
use Rattle.raft_log_file.proofs.batches.LogItemBatchFileReader.next_in.Goals as goal

pub overflow_add-self : goal.overflow_add-self
overflow_add-self g c =
    let bytes : List ℕ = bytes_in (g.F.FileSystem.disk c.args.files.now) c.args.file in
    let fits = found_fits c.args.file.id c.args.file.format bytes c.loop-self.self.valid_offset c.in-Ok.batch (rw c.in-Ok.is at c.in_ok-batch.ensures.ok)
    (omega (arith, c.loop-self.invariant.0.valid, c.loop-self.invariant.0.size_is)) in
    omega (arith, fits, c.from.ensures, c.in_ok-batch.ensures.same.1, c.in_ok-batch.ensures.holds.size_is, c.in_ok-batch.ensures.room)

pub returns-in-Ok-clause-holds : goal.returns-in-Ok-clause-holds
returns-in-Ok-clause-holds g c =
    let bytes : List ℕ = bytes_in (g.F.FileSystem.disk c.args.files.now) c.args.file in
    let fits = found_fits c.args.file.id c.args.file.format bytes c.loop-self.self.valid_offset c.in-Ok.batch (rw c.in-Ok.is at c.in_ok-batch.ensures.ok)
    (omega (arith, c.loop-self.invariant.0.valid, c.loop-self.invariant.0.size_is)) in
    moved bytes _ _ _ _ c.from.result c.in_ok-batch.ensures.holds (omega (arith, fits, c.from.ensures, c.in_ok-batch.ensures.same.1, c.in_ok-batch.ensures.holds.size_is))

pub returns-in-Ok-clause-next : goal.returns-in-Ok-clause-next
returns-in-Ok-clause-next g c =
    let bytes : List ℕ = bytes_in (g.F.FileSystem.disk c.args.files.now) c.args.file in
    let place : c.loop-self.self.valid_offset + c.in-Ok.batch.len ≡ c.record_here.new.self.valid_offset + c.from.result = omega (arith, c.from.ensures, c.in_ok-batch.ensures.same.1) in
    subst
    (λ n. Next (Ok (Some c.in-Ok.batch)) bytes (read_behind c.args.file.id c.args.file.format c.args.self.now.valid_offset bytes) (read_behind c.args.file.id c.args.file.format n bytes))
    place
    (found_next c.args.file.id c.args.file.format bytes c.args.self.now.valid_offset c.loop-self.self.valid_offset c.in-Ok.batch (rw c.in-Ok.is at c.in_ok-batch.ensures.ok) c.loop-self.invariant.2)

pub returns-then-padding-eq0-clause-next : goal.returns-then-padding-eq0-clause-next
returns-then-padding-eq0-clause-next g c =
    let last = fault_again c.args.file.id c.args.file.format (bytes_in (g.F.FileSystem.disk c.args.files.now) c.args.file) c.args.self.now.valid_offset c.loop-self.self.valid_offset _ _ _ c.in-Err.fault
    c.in_ok-batch.ensures.same.1 c.in_ok-padding-in-Err.ensures.same.1 (omega (arith, c.loop-self-test.true, c.loop-self.invariant.0.size_is))
    (rw c.in-Err.is at c.in_ok-batch.ensures.ok) c.in_ok-padding-in-Err.ensures.ok c.if-padding-eq0.true c.loop-self.invariant.2 in
    (last.batches, last.fault_is, last.same)

pub returns-then-padding-eq0-clause-stops : goal.returns-then-padding-eq0-clause-stops
returns-then-padding-eq0-clause-stops g c =
    (fault_again c.args.file.id c.args.file.format (bytes_in (g.F.FileSystem.disk c.args.files.now) c.args.file) c.args.self.now.valid_offset c.loop-self.self.valid_offset _ _ _ c.in-Err.fault
    c.in_ok-batch.ensures.same.1 c.in_ok-padding-in-Err.ensures.same.1 (omega (arith, c.loop-self-test.true, c.loop-self.invariant.0.size_is))
    (rw c.in-Err.is at c.in_ok-batch.ensures.ok) c.in_ok-padding-in-Err.ensures.ok c.if-padding-eq0.true c.loop-self.invariant.2).place

pub loop-self-preserved : goal.loop-self-preserved
loop-self-preserved g c =
    let bytes : List ℕ = bytes_in (g.F.FileSystem.disk c.args.files.now) c.args.file in
    let valid : c.record_here.new.self.valid_offset ≤ length bytes = omega (arith, c.in_ok-batch.ensures.holds.valid, c.in_ok-batch.ensures.holds.size_is) in
    let fits = padding_fits _ _ _ bytes c.in_ok-padding-in-Err.ensures.ok valid in (
      moved bytes _ _ _ _ c.in_ok-padding-in-Err.padding c.in_ok-padding-in-Err.ensures.holds (omega (arith, fits, c.in_ok-padding-in-Err.ensures.same.1, c.in_ok-padding-in-Err.ensures.holds.size_is)),
      c.in_ok-padding-in-Err.ensures.same.0 ∙ c.in_ok-batch.ensures.same.0 ∙ c.loop-self.invariant.1,
      padding_again c.args.file.id c.args.file.format bytes c.args.self.now.valid_offset c.loop-self.self.valid_offset _ _ _ c.in-Err.fault
          c.in_ok-batch.ensures.same.1 c.in_ok-padding-in-Err.ensures.same.1 (omega (arith, c.loop-self-test.true, c.loop-self.invariant.0.size_is))
          (rw c.in-Err.is at c.in_ok-batch.ensures.ok) c.in_ok-padding-in-Err.ensures.ok c.if-padding-eq0.false c.loop-self.invariant.2,
    )

pub returns-clause-next : goal.returns-clause-next
returns-clause-next g c =
    let last = end_next c.args.file.id c.args.file.format (bytes_in (g.F.FileSystem.disk c.args.files.now) c.args.file) c.args.self.now.valid_offset c.loop-self.self.valid_offset
    (omega (arith, c.loop-self-test.false, c.loop-self.invariant.0.size_is)) c.loop-self.invariant.2 in
    (last.batches, last.fault_is, last.same)

pub returns-clause-stops : goal.returns-clause-stops
returns-clause-stops g c =
    (end_next c.args.file.id c.args.file.format (bytes_in (g.F.FileSystem.disk c.args.files.now) c.args.file) c.args.self.now.valid_offset c.loop-self.self.valid_offset
    (omega (arith, c.loop-self-test.false, c.loop-self.invariant.0.size_is)) c.loop-self.invariant.2).place
