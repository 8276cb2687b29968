use Rattle.std.specs.Prelude.{◌≡◌, []}
use Rattle.raft_laws.specs.GroupWorld.{Done, Skipped}
use Rattle.raft_laws.proofs.law_runs.histories_that_do_not_replay.Goals as goal

pub returns : goal.returns
returns c = λ end h. let f : Skipped ≡ Done [] [] [] = h.0 in cc
