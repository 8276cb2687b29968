use Rattle.std.proofs.Common.{List, Vec, Global, ℕ, ap, ◌∙◌}
use Rattle.raft_log_records.specs.Batch.{payloads}
use Rattle.raft_store.specs.Faults.{refusal_of_record}
use Rattle.raft_store.specs.Storable.{IsPutRefusal}
use Rattle.raft_store.proofs.Records.{err_as, run_refused_at}
use Rattle.raft_store.proofs.batches.entry_batch.Goals as goal

pub returns-in_err-add_raw_entries-clause-refused : goal.returns-in_err-add_raw_entries-clause-refused
returns-in_err-add_raw_entries-clause-refused c =
    let written = ap (λ (all : List (Vec ℕ Global)). payloads all) c.deref.ensures.value ∙ c.in_ok-entries.ensures.bytes in
    err_as (IsPutRefusal c.args.group c.args.place c.args.entries.now) c.from_residual-in_err-add_raw_entries.result (refusal_of_record c.in_err-add_raw_entries.field-0.0) c.from_residual-in_err-add_raw_entries.ensures.1
    (run_refused_at c.args.group c.args.place c.args.entries.now c.new-batch.result c.add_raw_entries.new.self (payloads c.deref.result.now) c.in_err-add_raw_entries.field-0.0 c.new-batch.ensures written c.in_err-add_raw_entries.ensures)
