use Rattle.std.proofs.Common.{◌≡◌, ap, arith, inl, length, Some}
use Rattle.raft_log_records.specs.Batch.{Batch}
use Rattle.raft_wire.specs.Frames.{fault_of_snapshot}
use Rattle.raft_wire.specs.declared.error.FrameFault.TheVariants as frame_fault
use Rattle.raft_store.specs.Faults.{IsMemoryOr}
use Rattle.raft_store.specs.Keys.{snapshot_key}
use Rattle.raft_store.specs.declared.fault.StoreRefusal.TheVariants as refusal
use Rattle.raft_store.proofs.Lengths.{snapshot_len}
use Rattle.raft_store.proofs.Records.{err_as, put_alone}
use Rattle.raft_store.proofs.batches.snapshot_batch.Goals as goal

pub returns-in_err-put-clause-refused : goal.returns-in_err-put-clause-refused
returns-in_err-put-clause-refused c =
    let x = c.args.snapshot.now in
    let size = ap length c.in_ok-value.ensures.written.1 in
    err_as (IsMemoryOr (refusal.Value frame_fault.TooLong) (fault_of_snapshot x.meta.last_membership x.bytes ≡ Some frame_fault.TooLong)) c.from_residual-in_err-put.result c.in_err-put.field-0.0 c.from_residual-in_err-put.ensures.1
    (inl (put_alone c.new-batch.result.items c.args.group snapshot_key c.in_ok-value.value.items c.in_err-put.field-0.0 (ap (λ (b : Batch). b.items) c.new-batch.ensures) (omega (arith, size, snapshot_len x c.in_ok-value.ensures.written.0)) c.in_err-put.ensures.refused))
