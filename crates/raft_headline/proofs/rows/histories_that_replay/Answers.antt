use Rattle.std.specs.Prelude.{refl}
use Rattle.raft_headline.proofs.RowRuns.{crashed, history_runs, noted_again_runs, told_again}
use Rattle.raft_headline.proofs.rows.histories_that_replay.Goals as goal

pub returns-clause-unstored : goal.returns-clause-unstored
returns-clause-unstored c = (crashed 0, history_runs 0, refl)

pub returns-clause-stored : goal.returns-clause-stored
returns-clause-stored c = (crashed 1, history_runs 1, refl)

pub returns-clause-again : goal.returns-clause-again
returns-clause-again c = (told_again, noted_again_runs, refl)
