-- What worked runs tell, and what is settled in them under which vote.
use Rattle.std.specs.Prelude.{ℕ, true}
use Rattle.raft_values.specs.Vote.{vote_of}
use Rattle.raft_group_step.specs.GroupState.{Untold}
use Rattle.raft_laws.specs.declared.world_event.WorldEvent.TheVariants.{Deliver}
use Rattle.raft_laws.specs.GroupWorld.{GroupWorld}
use Rattle.raft_laws.specs.OneList.{IsSettledUnder}
use Rattle.raft_laws.specs.Example.{add, run_of, three}
use Rattle.raft_laws.specs.OriginRun.{command_at}
use Rattle.raft_laws.specs.ThreeNodes.{until_accepted, until_proposed, until_told}
use Rattle.raft_history_laws.specs.ToldAnswers.{IsToldUnder}

-- the token is told as the reply of node 2 comes to node 1
abbrev pub ToldByReply : Untold → Type 0
ToldByReply x = IsToldUnder (run_of three until_accepted) (Deliver 9 0) (run_of three until_told) x

-- the token is told as the command comes to node 2
abbrev pub ToldByRequest : Untold → Type 0
ToldByRequest x = IsToldUnder (run_of three until_proposed) (Deliver 8 0) (run_of three until_accepted) x

-- the first leader's command is settled in the world under the vote of a term and node
abbrev pub CommandSettled : GroupWorld → ℕ → ℕ → Type 0
CommandSettled w term node = IsSettledUnder w (vote_of term node true) (command_at 2 (add 5))
