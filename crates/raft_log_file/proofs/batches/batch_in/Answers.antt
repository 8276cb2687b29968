use Rattle.std.proofs.Common.{◌≡◌, ℕ, Option, refl, sym, ap, ◌∙◌, arith}
use Rattle.raft_log_records.specs.Reading.{record_at}
use Rattle.raft_log_records.specs.Signature.{signature_of}
use Rattle.raft_log_file.proofs.HereLemmas.{block_told}
use Rattle.raft_log_file.proofs.WalkLemmas.{record_sized}
use Rattle.raft_log_file.proofs.batches.batch_in.Goals as goal

pub overflow_add-block : goal.overflow_add-block
overflow_add-block c =
    let sized = record_sized _ _ _ c.in_ok-record.ensures.exact in
    omega (arith, sized.least, sized.within, c.requires)

pub returns : goal.returns
returns c =
    let signed : c.get_signature.result ≡ signature_of c.args.file.format.version c.args.file.id.seq
    = c.get_signature.ensures ∙ (λ i. signature_of (c.new-context.ensures.version i) (c.new-context.ensures.id i).seq) in
    let told = block_told _ _ _ c.len_of.result c.entries_block.result _ _ c.len_of.ensures c.entries_block.ensures (λ i. omega (arith, c.type_inv.bytes i)) c.in_ok-record.ensures.exact in
    (c.in_ok-record.record.entries.now, ap (λ (s : Option ℕ). record_at s c.args.bytes.now) (sym signed) ∙ c.in_ok-record.ensures.exact, refl, record { offset = refl; within = told.within; stands = told.stands; none = told.none })
