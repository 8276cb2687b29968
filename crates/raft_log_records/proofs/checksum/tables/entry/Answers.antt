use Rattle.std.proofs.Common.{add-one}
use Rattle.raft_log_records.proofs.TableLemmas.{entry_of_table}
use Rattle.raft_log_records.proofs.checksum.tables.entry.Goals as goal

pub returns : goal.returns
returns c = rw add-one (entry_of_table c.args.later c.args.byte c.ranges.byte.fits c.requires)
