use Rattle.std.proofs.Common.{ap, ◌+◌, ◌≤◌, ◌^◌, inl}
use Rattle.raft_log_records.specs.Batch.{Batch}
use Rattle.raft_store.specs.Faults.{IsMemoryOr}
use Rattle.raft_store.specs.declared.fault.StoreRefusal.TheVariants as refusal
use Rattle.raft_store.proofs.Records.{err_as, purge_end}
use Rattle.raft_store.proofs.batches.start_batch.Goals as goal

pub returns-in_err-put_end-clause-refused : goal.returns-in_err-put_end-clause-refused
returns-in_err-put_end-clause-refused c =
    err_as (IsMemoryOr refusal.NoPlace (2 ^ 64 ≤ c.args.id.index + 1)) c.from_residual-in_err-put_end.result c.in_err-put_end.field-0.0 c.from_residual-in_err-put_end.ensures.1
    (inl (purge_end c.args.group c.args.id c.new-batch.result.items c.put_purge.new.batch.items c.in-Some.first c.in_err-put_end.field-0.0 (ap (λ (b : Batch). b.items) c.new-batch.ensures) c.in_ok-put_purge.ensures.items c.in_err-put_end.ensures.refused))
