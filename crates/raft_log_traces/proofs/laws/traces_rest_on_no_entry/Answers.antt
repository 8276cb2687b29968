use Rattle.raft_log_traces.proofs.LawLemmas.{entries_say_nothing}
use Rattle.raft_log_traces.proofs.laws.traces_rest_on_no_entry.Goals as goal

pub returns-clause-places : goal.returns-clause-places
returns-clause-places c = entries_say_nothing

pub returns-clause-bytes : goal.returns-clause-bytes
returns-clause-bytes c = entries_say_nothing
