use Rattle.raft_log_records.specs.Batch.{payloads}
use Rattle.raft_log_purge.proofs.CausedLemmas.{run_cause}
use Rattle.raft_log_purge.proofs.rewriting.add_run.Goals as goal

pub returns-clause-cause : goal.returns-clause-cause
returns-clause-cause c = run_cause c.args.batch.now c.args.group c.args.first (payloads c.args.entries.now) c.add_raw_entries.new.self c.add_raw_entries.result c.add_raw_entries.ensures
