use Rattle.raft_store_laws.proofs.Adding.{adding_is_short}
use Rattle.raft_store_laws.proofs.laws.adding_machines_have_short_snapshots.Goals as goal

pub returns : goal.returns
returns c = adding_is_short
