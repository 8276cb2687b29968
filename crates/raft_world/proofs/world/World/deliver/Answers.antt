use Rattle.std.specs.Prelude.{◌≡◌, List, Ok, Err, None, Some, slice_get}
use Rattle.std.proofs.Common.{refl, ◌∙◌, subst}
use Rattle.raft_messages.specs.Messages.{message_of}
use Rattle.raft_group_step.specs.GroupEvent.{Receive}
use Rattle.raft_laws.specs.NodeEvent.{Comes}
use Rattle.raft_laws.specs.declared.world_event.WorldEvent.TheVariants.{Deliver}
use Rattle.raft_world.specs.World.{IsPlace, IsPlaceOf}
use Rattle.raft_world.specs.declared.member.Member.{Member}
use Rattle.raft_world.proofs.PlaceLemmas.{named_there, no_node, node_there}
use Rattle.raft_world.proofs.EndingLemmas.{comes}
use Rattle.raft_world.proofs.LookupLemmas.{item_there}
use Rattle.raft_member.proofs.HistoryLemmas.{lawful_at}
use Rattle.raft_world.proofs.WorldLemmas.{broke, came, none_first, passed_absent, scene_delivered}
use Rattle.raft_world.proofs.world.World.deliver.Goals as goal

pub returns-in_default-place_of : goal.returns-in_default-place_of
returns-in_default-place_of c = λ ids rs g history h.
    let w = c.args.self.now in
    let m = c.in-Some.message.now in
    let sent : slice_get w.messages.items c.args.number ≡ Some m = item_there _ w.messages.items c.args.number m c.deref.ensures.value c.in-Some.ensures.lookup.0 c.in-Some.ensures.lookup.1 in
    let none = subst (λ (l : List Member). IsPlaceOf l m.addressee None) c.as_slice.ensures.value (subst (IsPlaceOf c.as_slice.result.now m.addressee) c.in_default-place_of.is c.place_of.ensures.place) in
    passed_absent w g (Deliver c.args.number c.args.now) c.args.stop m.addressee (Comes (Receive m.sender (message_of m) c.args.now))
    (scene_delivered g w c.args.number c.args.now m h sent) (no_node w.members.items g.nodes m.addressee none h.nodes) h

pub returns-in-Ok : goal.returns-in-Ok
returns-in-Ok c = λ ids rs g history h.
    let w = c.args.self.now in
    let m = c.in-Some.message.now in
    let n = m.addressee in
    let place = c.in-Some-place_of.place in
    let e = Deliver c.args.number c.args.now in
    let old = c.index_mut.result.now in
    let new = c.receive.new.self in
    let sent : slice_get w.messages.items c.args.number ≡ Some m = item_there _ w.messages.items c.args.number m c.deref.ensures.value c.in-Some.ensures.lookup.0 c.in-Some.ensures.lookup.1 in
    let scene = scene_delivered g w c.args.number c.args.now m h sent in
    let there : IsPlace w.members.items n place = subst (λ (l : List Member). IsPlace l n place) c.as_slice.ensures.value c.in-Some-place_of.ensures.place in
    let named = named_there w.members.items n place old there c.index_mut.ensures.value in
    let at = node_there w.members.items g.nodes n place old there h.nodes c.index_mut.ensures.value in
    let received = c.in-Ok.ensures in
    let ends = comes n (Receive m.sender (message_of m) c.args.now) c.args.stop (g.nodes n) old new (Ok c.in-Ok.ended) named at (lawful_at ids rs g history n) received.ok received.err received.down in
    came w g e n place h there c.conclude.new.self (Comes (Receive m.sender (message_of m) c.args.now)) c.args.stop new c.in-Ok.ended None c.conclude.result scene tt (received.id ∙ named) ends
    (none_first g.setup e refl) c.conclude.ensures

pub returns-in-Err : goal.returns-in-Err
returns-in-Err c = λ ids rs g history h.
    let w = c.args.self.now in
    let m = c.in-Some.message.now in
    let n = m.addressee in
    let place = c.in-Some-place_of.place in
    let e = Deliver c.args.number c.args.now in
    let old = c.index_mut.result.now in
    let new = c.receive.new.self in
    let sent : slice_get w.messages.items c.args.number ≡ Some m = item_there _ w.messages.items c.args.number m c.deref.ensures.value c.in-Some.ensures.lookup.0 c.in-Some.ensures.lookup.1 in
    let scene = scene_delivered g w c.args.number c.args.now m h sent in
    let there : IsPlace w.members.items n place = subst (λ (l : List Member). IsPlace l n place) c.as_slice.ensures.value c.in-Some-place_of.ensures.place in
    let named = named_there w.members.items n place old there c.index_mut.ensures.value in
    let at = node_there w.members.items g.nodes n place old there h.nodes c.index_mut.ensures.value in
    let received = c.in-Err.ensures in
    let breaks = comes n (Receive m.sender (message_of m) c.args.now) c.args.stop (g.nodes n) old new (Err c.in-Err.refused) named at (lawful_at ids rs g history n) received.ok received.err received.down in
    broke w g e n place h there (Comes (Receive m.sender (message_of m) c.args.now)) new None scene (received.id ∙ named) breaks (none_first g.setup e refl)
