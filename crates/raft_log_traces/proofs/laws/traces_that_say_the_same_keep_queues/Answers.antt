use Rattle.raft_log_traces.proofs.LawLemmas.{alike_traces_keep, kept_files_tell}
use Rattle.raft_log_traces.proofs.laws.traces_that_say_the_same_keep_queues.Goals as goal

pub returns-clause-alike : goal.returns-clause-alike
returns-clause-alike c = alike_traces_keep

pub returns-clause-files : goal.returns-clause-files
returns-clause-files c = kept_files_tell
