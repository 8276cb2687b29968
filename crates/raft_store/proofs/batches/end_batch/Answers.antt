use Rattle.std.proofs.Common.{◌≡◌, ap}
use Rattle.raft_log_records.specs.Batch.{Batch}
use Rattle.raft_store.specs.declared.fault.StoreRefusal.{StoreRefusal}
use Rattle.raft_store.specs.declared.fault.StoreRefusal.TheVariants as refusal
use Rattle.raft_store.proofs.Records.{err_as, end_alone}
use Rattle.raft_store.proofs.batches.end_batch.Goals as goal

pub returns-in_err-put_end-clause-refused : goal.returns-in_err-put_end-clause-refused
returns-in_err-put_end-clause-refused c =
    err_as (λ (why : StoreRefusal). why ≡ refusal.Memory) c.from_residual.result c.in_err-put_end.field-0.0 c.from_residual.ensures.1
    (end_alone c.new-batch.result.items c.args.group c.args.end c.in_err-put_end.field-0.0 (ap (λ (b : Batch). b.items) c.new-batch.ensures) c.in_err-put_end.ensures.refused)
