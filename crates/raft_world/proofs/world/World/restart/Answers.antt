use Rattle.std.specs.Prelude.{List, Ok, Err, None}
use Rattle.std.proofs.Common.{refl, ◌∙◌, subst}
use Rattle.raft_laws.specs.NodeEvent.{Restarts}
use Rattle.raft_laws.specs.declared.world_event.WorldEvent.TheVariants.{Restart}
use Rattle.raft_world.specs.World.{IsPlace}
use Rattle.raft_world.specs.declared.member.Member.{Member}
use Rattle.raft_world.proofs.PlaceLemmas.{named_there, node_there}
use Rattle.raft_world.proofs.EndingLemmas.{opens}
use Rattle.raft_member.proofs.HistoryLemmas.{openable_at}
use Rattle.raft_world.proofs.WorldLemmas.{broke, came, none_first}
use Rattle.raft_world.proofs.world.World.restart.Goals as goal

pub returns-in-Ok : goal.returns-in-Ok
returns-in-Ok c = λ ids rs g history h.
    let w = c.args.self.now in
    let n = c.args.node in
    let place = c.in-Some.place in
    let old = c.index_mut.result.now in
    let new = c.open.new.self in
    let there : IsPlace w.members.items n place = subst (λ (l : List Member). IsPlace l n place) c.as_slice.ensures.value c.in-Some.ensures.place in
    let named = named_there w.members.items n place old there c.index_mut.ensures.value in
    let at = node_there w.members.items g.nodes n place old there h.nodes c.index_mut.ensures.value in
    let opened = c.in-Ok.ensures in
    let ends = opens n c.args.stop (g.nodes n) old new (Ok c.in-Ok.ended) named at (openable_at ids rs g history n) opened.ok opened.err opened.up in
    came w g (Restart n) n place h there c.conclude.new.self Restarts c.args.stop new c.in-Ok.ended None c.conclude.result refl tt (opened.id ∙ named) ends (none_first g.setup (Restart n) refl) c.conclude.ensures

pub returns-in-Err : goal.returns-in-Err
returns-in-Err c = λ ids rs g history h.
    let w = c.args.self.now in
    let n = c.args.node in
    let place = c.in-Some.place in
    let old = c.index_mut.result.now in
    let new = c.open.new.self in
    let there : IsPlace w.members.items n place = subst (λ (l : List Member). IsPlace l n place) c.as_slice.ensures.value c.in-Some.ensures.place in
    let named = named_there w.members.items n place old there c.index_mut.ensures.value in
    let at = node_there w.members.items g.nodes n place old there h.nodes c.index_mut.ensures.value in
    let opened = c.in-Err.ensures in
    let breaks = opens n c.args.stop (g.nodes n) old new (Err c.in-Err.refused) named at (openable_at ids rs g history n) opened.ok opened.err opened.up in
    broke w g (Restart n) n place h there Restarts new None refl (opened.id ∙ named) breaks (none_first g.setup (Restart n) refl)
