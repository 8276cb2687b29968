-- The log's places rise, as was just seen.
use Rattle.std.proofs.Common.{◌∙◌, sym, None}
use Rattle.raft_engine.proofs.PlacedEntries.{go_on}
use Rattle.raft_engine_rows.proofs.setup.known.Goals as goal

pub load-requires-clause-goes_on : goal.load-requires-clause-goes_on
load-requires-clause-goes_on c = go_on c.args.log.now None (sym c.all_go_on.ensures ∙ c.if-not-all_go_on.false)
