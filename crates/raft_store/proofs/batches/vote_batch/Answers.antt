use Rattle.std.proofs.Common.{◌≡◌, ap, arith, length}
use Rattle.raft_log_records.specs.Batch.{Batch}
use Rattle.raft_store.specs.Keys.{vote_key}
use Rattle.raft_store.specs.declared.fault.StoreRefusal.{StoreRefusal}
use Rattle.raft_store.specs.declared.fault.StoreRefusal.TheVariants as refusal
use Rattle.raft_store.proofs.Lengths.{vote_len}
use Rattle.raft_store.proofs.Records.{err_as, put_alone}
use Rattle.raft_store.proofs.batches.vote_batch.Goals as goal

pub returns-in_err-put-clause-refused : goal.returns-in_err-put-clause-refused
returns-in_err-put-clause-refused c =
    let size = ap length c.in_ok-value.ensures.written in
    err_as (λ (why : StoreRefusal). why ≡ refusal.Memory) c.from_residual-in_err-put.result c.in_err-put.field-0.0 c.from_residual-in_err-put.ensures.1
    (put_alone c.new-batch.result.items c.args.group vote_key c.in_ok-value.value.items c.in_err-put.field-0.0 (ap (λ (b : Batch). b.items) c.new-batch.ensures) (omega (arith, size, vote_len c.args.vote)) c.in_err-put.ensures.refused)
