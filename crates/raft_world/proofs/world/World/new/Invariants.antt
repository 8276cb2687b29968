use Rattle.std.specs.Prelude.{◌≡◌, [], None, take}
use Rattle.raft_world.proofs.GroupLemmas.{AreBegun}
use Rattle.raft_world.proofs.world.World.new.Given as goal

abbrev pub invariant-loop-id : goal.invariant-loop-id
invariant-loop-id l = record {
  begun : AreBegun l.world.members.items (take l.id-index l.ids);
  messages : l.world.messages.items ≡ [];
  setup : l.world.setup ≡ None;
  led : l.world.led.items ≡ [];
}
