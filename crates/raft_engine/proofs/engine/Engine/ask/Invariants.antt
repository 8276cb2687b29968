use Rattle.std.proofs.Common.{◌≡◌, ◌++◌, take, map}
use Rattle.raft_commands.specs.declared.command.Command.TheVariants.{SendVote}
use Rattle.raft_engine.proofs.engine.Engine.ask.Given as goal

abbrev pub invariant-loop-target : goal.invariant-loop-target
invariant-loop-target g l =
    l.self ≡ record l.initial.self { output = record l.initial.self.output { queue = l.initial.self.output.queue ++ map (λ n. SendVote n l.vote_req) (take l.target-index l.voters) } }
