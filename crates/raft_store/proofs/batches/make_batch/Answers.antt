use Rattle.std.proofs.Common.{◌≡◌, ap, arith, length}
use Rattle.raft_log_records.specs.Batch.{Batch}
use Rattle.raft_store.specs.Keys.{group_key}
use Rattle.raft_store.specs.declared.fault.StoreRefusal.{StoreRefusal}
use Rattle.raft_store.specs.declared.fault.StoreRefusal.TheVariants as refusal
use Rattle.raft_store.proofs.Records.{err_as, put_alone}
use Rattle.raft_store.proofs.batches.make_batch.Goals as goal

pub returns-in_err-put-clause-refused : goal.returns-in_err-put-clause-refused
returns-in_err-put-clause-refused c =
    let size : length c.new.result.items ≡ 0 = ap length c.new.ensures.items in
    err_as (λ (why : StoreRefusal). why ≡ refusal.Memory) c.from_residual.result c.in_err-put.field-0.0 c.from_residual.ensures.1
    (put_alone c.new-batch.result.items c.args.group group_key c.new.result.items c.in_err-put.field-0.0 (ap (λ (b : Batch). b.items) c.new-batch.ensures) (omega (arith, size)) c.in_err-put.ensures.refused)
