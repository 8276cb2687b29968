use Rattle.raft_headline.proofs.Headlines.{applied_fronts, snapshot_fronts}
use Rattle.raft_headline.proofs.Tells.{told_stand}
use Rattle.raft_headline.proofs.folds.machines_are_folds.Goals as goal

pub returns-clause-machines : goal.returns-clause-machines
returns-clause-machines c = applied_fronts

pub returns-clause-snapshots : goal.returns-clause-snapshots
returns-clause-snapshots c = snapshot_fronts

pub returns-clause-answers : goal.returns-clause-answers
returns-clause-answers c = λ rules ids fit h history end run number r t there has. (told_stand rules ids fit h history end run.0 run.1 number r t there has).answer
