use Rattle.raft_engine.proofs.CommittingLemmas.{each_place}
use Rattle.raft_engine.proofs.applying.each_place_is_applied_once.Goals as goal

pub returns : goal.returns
returns g = each_place
