use Rattle.std.specs.Prelude.{List, Ok}
use Rattle.std.proofs.Common.{refl, sym, ap, ◌∙◌, subst}
use Rattle.std.specs.declared.alloc.AllocError.{AllocError}
use Rattle.raft_group_step.specs.GroupEvent.{Call}
use Rattle.raft_laws.specs.NodeEvent.{Comes}
use Rattle.raft_laws.specs.declared.world_event.WorldEvent.TheVariants.{Ask}
use Rattle.raft_world.specs.World.{HasBroken, IsPlace}
use Rattle.raft_world.specs.declared.member.Member.{Member}
use Rattle.raft_world.proofs.PlaceLemmas.{named_there, node_there}
use Rattle.raft_world.proofs.EndingLemmas.{begun, comes, ended_as, unjudged}
use Rattle.raft_member.proofs.HistoryLemmas.{lawful_at}
use Rattle.raft_world.proofs.WorldLemmas.{broke, came, known_first, scene_asked, went_down, went_down_there}
use Rattle.raft_world.proofs.world.World.ask.Goals as goal

pub returns-in-Err : goal.returns-in-Err
returns-in-Err c = λ ids rs g history h.
    let w = c.args.self.now in
    let n = c.args.node in
    let place = c.in-Some.place in
    let there : IsPlace w.members.items n place = subst (λ (l : List Member). IsPlace l n place) c.as_slice.ensures.value c.in-Some.ensures.place in
    went_down w g (Ask n c.args.call.now c.args.now) n place h there c.crash_at.new.self refl c.crash_at.ensures

pub returns-in-Ok-ask : goal.returns-in-Ok-ask
returns-in-Ok-ask c = λ ids rs g history h.
    let w = c.args.self.now in
    let n = c.args.node in
    let place = c.in-Some.place in
    let e = Ask n c.args.call.now c.args.now in
    let old = c.index_mut.result.now in
    let new = c.ask.new.self in
    let setup = c.in-Ok.setup in
    let there : IsPlace w.members.items n place = subst (λ (l : List Member). IsPlace l n place) c.as_slice.ensures.value c.in-Some.ensures.place in
    let named = named_there w.members.items n place old there c.index_mut.ensures.value in
    let at = node_there w.members.items g.nodes n place old there h.nodes c.index_mut.ensures.value in
    let scene = scene_asked g w c.is_same_setup.result n c.args.call.now c.args.now h c.is_same_setup.ensures c.if-not-is_same_setup.false in
    let asked = c.in-Ok-ask.ensures in
    let ends =
    comes {E = AllocError} n (Call c.args.call.now c.args.now) c.args.stop (g.nodes n) old new (Ok c.in-Ok-ask.ended) named at (lawful_at ids rs g history n)
    asked.ok (λ s up law. tt) (λ st down. let is = asked.down st down in (ap Ok (ended_as _ _ is.0), is.1))
    in
    came w g e n place h there c.conclude.new.self (Comes (Call c.args.call.now c.args.now)) c.args.stop new c.in-Ok-ask.ended setup c.conclude.result scene tt (asked.id ∙ named) ends
    (known_first w.setup g.setup e setup h.setup (c.in-Ok.ensures n c.args.now)) c.conclude.ensures

pub returns-in-Err-Unjudged : goal.returns-in-Err-Unjudged
returns-in-Err-Unjudged c = λ ids rs g history h.
    let w = c.args.self.now in
    let n = c.args.node in
    let place = c.in-Some.place in
    let e = Ask n c.args.call.now c.args.now in
    let old = c.index_mut.result.now in
    let new = c.ask.new.self in
    let there : IsPlace w.members.items n place = subst (λ (l : List Member). IsPlace l n place) c.as_slice.ensures.value c.in-Some.ensures.place in
    let named = named_there w.members.items n place old there c.index_mut.ensures.value in
    let at = node_there w.members.items g.nodes n place old there h.nodes c.index_mut.ensures.value in
    let scene = scene_asked g w c.is_same_setup.result n c.args.call.now c.args.now h c.is_same_setup.ensures c.if-not-is_same_setup.false in
    let asked = rw c.in-Err-Unjudged.field-0-is at c.in-Err-Unjudged.ensures in
    went_down_there w g e n place h there (Comes (Call c.args.call.now c.args.now)) new scene (asked.id ∙ named)
    (unjudged n (Call c.args.call.now c.args.now) (g.nodes n) old new c.in-Err-Unjudged.refused named at (lawful_at ids rs g history n) asked.err asked.down)

pub returns-in-Err-Begun : goal.returns-in-Err-Begun
returns-in-Err-Begun c = λ ids rs g history h.
    let w = c.args.self.now in
    let n = c.args.node in
    let place = c.in-Some.place in
    let e = Ask n c.args.call.now c.args.now in
    let old = c.index_mut.result.now in
    let new = c.ask.new.self in
    let setup = c.in-Ok.setup in
    let there : IsPlace w.members.items n place = subst (λ (l : List Member). IsPlace l n place) c.as_slice.ensures.value c.in-Some.ensures.place in
    let named = named_there w.members.items n place old there c.index_mut.ensures.value in
    let at = node_there w.members.items g.nodes n place old there h.nodes c.index_mut.ensures.value in
    let scene = scene_asked g w c.is_same_setup.result n c.args.call.now c.args.now h c.is_same_setup.ensures c.if-not-is_same_setup.false in
    let asked = rw c.in-Err-Begun.field-0-is at c.in-Err-Begun.ensures in
    let breaks =
    begun n (Call c.args.call.now c.args.now) c.args.stop (g.nodes n) old new c.in-Err-Begun.refused named at (lawful_at ids rs g history n) asked.err asked.down
    in
    subst (HasBroken g e) (sym c.set_up.ensures)
    (broke w g e n place h there (Comes (Call c.args.call.now c.args.now)) new setup scene (asked.id ∙ named) breaks
    (known_first w.setup g.setup e setup h.setup (c.in-Ok.ensures n c.args.now)))
