use Rattle.std.proofs.Common.{◌∙◌}
use Rattle.raft_world.specs.Ending.{down_of}
use Rattle.raft_laws.specs.GroupWorld.{with_node_state}
use Rattle.raft_laws.proofs.Numbers.{state_here}
use Rattle.std.proofs.Common.{subst}
use Rattle.raft_world.specs.Member.{IsAt}
use Rattle.raft_world.proofs.PlaceLemmas.{named_there, node_there, nodes_again}
use Rattle.raft_world.proofs.EndingLemmas.{crashes}
use Rattle.raft_world.proofs.world.World.crash_at.Goals as goal

pub returns : goal.returns
returns c = λ g n state there h.
    let ms = c.args.self.now.members.items in
    let old = c.index_mut.result.now in
    let new = c.crash.new.self in
    let at : IsAt old state = subst (IsAt old) (state_here n state g.nodes) (node_there ms (with_node_state n state g.nodes) n c.args.place old there h.nodes c.index_mut.ensures.value) in
    record {
      nodes = nodes_again ms g.nodes n c.args.place new state (down_of state) there h.nodes (c.crash.ensures.id ∙ named_there ms n c.args.place old there c.index_mut.ensures.value) (crashes old new state at c.crash.ensures.up c.crash.ensures.down);
      messages = h.messages;
      setup = h.setup;
      led = h.led;
    }
