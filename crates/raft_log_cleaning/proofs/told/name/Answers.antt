-- A key more.
use Rattle.raft_log_cleaning.proofs.Named.{name_more}
use Rattle.raft_log_cleaning.proofs.told.name.Goals as goal

pub returns : goal.returns
returns c = name_more c.args.named.now c.insert.new.self c.args.group c.in_ok-insert.ensures.updates.0
