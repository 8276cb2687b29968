use Rattle.raft_laws.proofs.Runs.{run-replays, replays-run}
use Rattle.raft_laws.proofs.world_laws.histories_that_replay_are_runs.Goals as goal

pub returns-clause-replays : goal.returns-clause-replays
returns-clause-replays c = run-replays

pub returns-clause-is_run : goal.returns-clause-is_run
returns-clause-is_run c = replays-run
