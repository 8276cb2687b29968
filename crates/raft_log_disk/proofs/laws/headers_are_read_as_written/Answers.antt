use Rattle.raft_log_disk.proofs.HeaderLemmas.{header_again, header_spelled}
use Rattle.raft_log_disk.proofs.laws.headers_are_read_as_written.Goals as goal

pub returns-clause-written : goal.returns-clause-written
returns-clause-written c = λ f rest spellable. header_again f.version f.alignment rest spellable

pub returns-clause-read : goal.returns-clause-read
returns-clause-read c = λ bytes f fits is. (header_spelled bytes f fits is).front

pub returns-clause-spellable : goal.returns-clause-spellable
returns-clause-spellable c = λ bytes f fits is. (header_spelled bytes f fits is).spellable
