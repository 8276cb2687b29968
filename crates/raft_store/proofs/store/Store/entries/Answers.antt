-- The bytes at a log's places are its entries.
use Rattle.std.proofs.Common.{◌≡◌, ◌-◌, ◌∙◌, List, Vec, Global, ℕ, ap, take, drop}
use Rattle.raft_group_step.specs.StoredGroup.{first_place}
use Rattle.raft_log_records.specs.Batch.{payloads}
use Rattle.raft_store.proofs.Found.{failed_for_memory, fits_at, found_at}
use Rattle.raft_store.proofs.Storing.{only_one}
use Rattle.raft_store.proofs.store.Store.entries.Goals as goal

pub returns-clause-read : goal.returns-clause-read
returns-clause-read g c = λ rules s sound shown low high.
    let content = g.L.ContentLog.answers c.args.self.now.log c.args.group in
    let held = only_one rules content s (shown.answered sound) in
    let count = c.args.places.end - c.args.places.start in
    let skipped = c.args.places.start - first_place s in
    c.in_ok-entries_of.ensures.read (take count (drop skipped s.log)) (fits_at rules content s held skipped count)
    (ap (λ (all : List (Vec ℕ Global)). payloads all) c.deref.ensures.value
    ∙ found_at rules content s held c.args.places.start c.args.places.end low high (payloads c.in_ok-bytes.bytes.items) (c.in_ok-bytes.ensures.entries sound))

pub returns-in_err-entries_of-clause-read : goal.returns-in_err-entries_of-clause-read
returns-in_err-entries_of-clause-read g c = λ rules s sound shown low high.
    let content = g.L.ContentLog.answers c.args.self.now.log c.args.group in
    let held = only_one rules content s (shown.answered sound) in
    let count = c.args.places.end - c.args.places.start in
    let skipped = c.args.places.start - first_place s in
    failed_for_memory g.L.ContentLog.is_misuse c.from_residual-in_err-entries_of.result (λ found. found.items ≡ take count (drop skipped s.log)) c.in_err-entries_of.field-0.0 c.from_residual-in_err-entries_of.ensures.1
    (c.in_err-entries_of.ensures.read (take count (drop skipped s.log)) (fits_at rules content s held skipped count)
    (ap (λ (all : List (Vec ℕ Global)). payloads all) c.deref.ensures.value
    ∙ found_at rules content s held c.args.places.start c.args.places.end low high (payloads c.in_ok-bytes.bytes.items) (c.in_ok-bytes.ensures.entries sound)))
