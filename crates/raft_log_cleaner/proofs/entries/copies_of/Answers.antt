-- Each of the entries has its block.
use Rattle.std.proofs.Common.{arith}
use Rattle.std.proofs.lemmas.List.Elements.{Contains-get_or}
use Rattle.raft_log_cleaner.proofs.Caused.{read_cause, refused}
use Rattle.raft_log_cleaner.proofs.entries.copies_of.Goals as goal

pub read_entry-requires-clause-block : goal.read_entry-requires-clause-block
read_entry-requires-clause-block g c κs within = c.requires.blocks _ (Contains-get_or c.args.places.now c.loop-place.place-index _ (omega arith))

pub returns-in_err-read_entry-clause-cause : goal.returns-in_err-read_entry-clause-cause
returns-in_err-read_entry-clause-cause g c =
    let meter = g.F.FileSystem.meter c.args.files.now in
    let error = c.in_err-read_entry.field-0.0 in
    refused meter meter c.from_residual.result error c.from_residual.ensures.1 (read_cause (g.F.FileSystem.disk c.args.files.now) c.args.pipes.now meter _ error c.in_err-read_entry.ensures.err)
