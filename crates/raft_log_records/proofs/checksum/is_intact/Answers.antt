use Rattle.std.proofs.Common.{◌∙◌, sym}
use Rattle.std.proofs.lemmas.Bool.{eqb-true}
use Rattle.raft_log_records.proofs.ChangeLemmas.{crc32_of-IsChangedRun}
use Rattle.raft_log_records.proofs.checksum.is_intact.Goals as goal

pub returns-clause-changed_run : goal.returns-clause-changed_run
returns-clause-changed_run c = λ sent are_bytes made change holds.
    crc32_of-IsChangedRun sent c.args.bytes.now (λ i h. are_bytes i 0 h) (λ i h. (c.type_inv.bytes i).fits) change
    (sym c.crc32.ensures ∙ eqb-true c.crc32.result c.args.checksum holds ∙ sym made)
