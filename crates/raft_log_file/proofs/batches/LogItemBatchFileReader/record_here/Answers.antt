use Rattle.std.proofs.Common.{◌∙◌, arith}
use Rattle.raft_log_file.proofs.HereLemmas.{here_len, here_fault, here_record, here_fits}
use Rattle.raft_log_file.proofs.batches.LogItemBatchFileReader.record_here.Goals as goal

pub returns-in-Err-clause-ok : goal.returns-in-Err-clause-ok
returns-in-Err-clause-ok g c = here_fault _ _ _ _ _ _ _ _ c.in_ok-fill.ensures.same.1 c.in_ok-fill.ensures.ok c.front.ensures c.in-Err.ensures.exact

pub batch_in-requires : goal.batch_in-requires
batch_in-requires g c = here_fits _ _ _ _ _ _ _ c.in_ok-fill-2.ensures.holds c.in_ok-fill-2.ensures.room c.in_ok-fill-2.ensures.ok c.front-2.ensures

pub returns-in-Ok-batch_in-clause-ok : goal.returns-in-Ok-batch_in-clause-ok
returns-in-Ok-batch_in-clause-ok g c =
    let told = here_len _ _ _ _ _ _ _ _ c.in_ok-fill.ensures.same.1 c.in_ok-fill.ensures.ok c.front.ensures c.in-Ok.ensures.exact c.from-len.ensures in
    let same = c.in_ok-fill-2.ensures.same.1 ∙ c.in_ok-fill.ensures.same.1 in
    let found = c.in-Ok-batch_in.ensures in
    (found.0, here_record _ _ _ _ _ _ _ _ _ same c.in_ok-fill-2.ensures.ok c.front-2.ensures told (omega (arith, c.in-Ok.ensures.long.0, c.from-len.ensures)) found.1, found.2 ∙ same, found.3)

pub returns-in-Err-Corruption-clause-ok : goal.returns-in-Err-Corruption-clause-ok
returns-in-Err-Corruption-clause-ok g c =
    let told = here_len _ _ _ _ _ _ _ _ c.in_ok-fill.ensures.same.1 c.in_ok-fill.ensures.ok c.front.ensures c.in-Ok.ensures.exact c.from-len.ensures in
    let same = c.in_ok-fill-2.ensures.same.1 ∙ c.in_ok-fill.ensures.same.1 in
    here_record _ _ _ _ _ _ _ _ _ same c.in_ok-fill-2.ensures.ok c.front-2.ensures told (omega (arith, c.in-Ok.ensures.long.0, c.from-len.ensures)) (rw c.in-Err-Corruption.field-0-is at c.in-Err-Corruption.ensures)
