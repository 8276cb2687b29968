use Rattle.std.specs.Prelude.{None}
use Rattle.std.proofs.Common.{sym, ◌∙◌}
use Rattle.raft_world.proofs.WorldLemmas.{broke_crashed, broke_nowhere}
use Rattle.raft_world.proofs.world.World.stop_node_of.Goals as goal

pub returns-in-Some : goal.returns-in-Some
returns-in-Some c = λ g h.
    broke_crashed c.crash-mark.new.self g c.args.event.now c.in-Some.node c.crash-mark.result (sym (c.in-Some.ensures g h)) (c.crash-mark.ensures g None h)

pub returns-in_default : goal.returns-in_default
returns-in_default c = λ g h. broke_nowhere c.args.self.now g c.args.event.now (sym (c.node_of.ensures g h) ∙ c.in_default.is) h
