use Rattle.std.proofs.Common.{◌≡◌, length, refl, sym, ◌∙◌, arith}
use Rattle.std.specs.List.{list_any}
use Rattle.std.proofs.lemmas.Bool.{eqb-false}
use Rattle.std.proofs.lemmas.List.{length-map}
use Rattle.raft_log_records.specs.Spelling.{holds_entries}
use Rattle.raft_log_records.specs.Batch.{payloads}
use Rattle.raft_log_records.proofs.Runs.{run_longer, refused_long}
use Rattle.raft_log_records.proofs.batch.LogBatch.add_raw_entries.Goals as goal

pub returns-in_default : goal.returns-in_default
returns-in_default c =
    let parts = payloads c.args.entries.now in
    let count : length parts ≡ length c.args.entries.now = length-map c.args.entries.now (λ v. v.items) in
    let some = eqb-false (length c.args.entries.now) 0 (sym c.is_empty.ensures ∙ c.if-is_empty.false) in
    let longer = run_longer c.args.self.now.items c.args.raft_group_id c.args.first parts (list_any holds_entries c.args.self.now.items) refl in
    refused_long c.args.self.now c.args.raft_group_id c.args.first parts (omega arith) (omega (arith, longer, c.in_default.ensures.long))

pub returns-then-record_len-len : goal.returns-then-record_len-len
returns-then-record_len-len c =
    let parts = payloads c.args.entries.now in
    let count : length parts ≡ length c.args.entries.now = length-map c.args.entries.now (λ v. v.items) in
    let some = eqb-false (length c.args.entries.now) 0 (sym c.is_empty.ensures ∙ c.if-is_empty.false) in
    let longer = run_longer c.args.self.now.items c.args.raft_group_id c.args.first parts (list_any holds_entries c.args.self.now.items) refl in
    refused_long c.args.self.now c.args.raft_group_id c.args.first parts (omega arith) (omega (arith, longer, c.in-Some.ensures.fits, c.record_len.ensures.len, c.block_checksum_len.ensures.len, c.if-record_len-len.true))

pub push_run-requires-clause-room : goal.push_run-requires-clause-room
push_run-requires-clause-room c =
    let parts = payloads c.args.entries.now in
    let count : length parts ≡ length c.args.entries.now = length-map c.args.entries.now (λ v. v.items) in
    let some = eqb-false (length c.args.entries.now) 0 (sym c.is_empty.ensures ∙ c.if-is_empty.false) in
    let longer = run_longer c.args.self.now.items c.args.raft_group_id c.args.first parts (list_any holds_entries c.args.self.now.items) refl in
    omega (arith, longer, c.in-Some.ensures.fits, c.record_len.ensures.len, c.record_len.ensures.short, c.block_checksum_len.ensures.len, c.if-record_len-len.false)
