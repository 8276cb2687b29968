use Rattle.std.specs.Prelude.{List, Ok, is_some}
use Rattle.std.proofs.Common.{refl, ap, subst}
use Rattle.std.specs.declared.alloc.AllocError.{AllocError}
use Rattle.raft_group_step.specs.GroupEvent.{AddGroup}
use Rattle.raft_laws.specs.NodeEvent.{Comes, outcome_at}
use Rattle.raft_laws.specs.declared.world_event.WorldEvent.TheVariants.{Add}
use Rattle.raft_world.specs.World.{IsPlace}
use Rattle.raft_world.specs.declared.member.Member.{Member}
use Rattle.raft_world.proofs.PlaceLemmas.{named_there, node_there}
use Rattle.raft_world.proofs.EndingLemmas.{comes}
use Rattle.raft_member.proofs.HistoryLemmas.{lawful_at}
use Rattle.raft_world.proofs.WorldLemmas.{but_stayed, concluded, none_first}
use Rattle.raft_world.proofs.world.World.add.Goals as goal

pub returns : goal.returns
returns c = λ ids rs g stop history h.
    let w = c.args.self.now in
    let n = c.args.node in
    let place = c.in-Some.place in
    let m = c.index.result.now in
    let there : IsPlace w.members.items n place = subst (λ (l : List Member). IsPlace l n place) c.as_slice.ensures.value c.in-Some.ensures.place in
    let named = named_there w.members.items n place m there c.index.ensures in
    let at = node_there w.members.items g.nodes n place m there h.nodes c.index.ensures in
    let ends =
    comes {E = AllocError} n AddGroup stop (g.nodes n) m m (Ok c.add_group-ended.result) named at (lawful_at ids rs g history n)
    (λ s up law. c.add_group-ended.ensures.up s stop up) (λ s up law. tt) (λ st down. (ap Ok (c.add_group-ended.ensures.down st down), down))
    in
    concluded c.conclude.new.self g (Add n) n (Comes AddGroup) stop c.conclude.result refl tt
    (c.conclude.ensures g (Add n) n (outcome_at n (Comes AddGroup) (is_some stop) (g.nodes n)) _ there (but_stayed w g (Add n) n place h there m _ c.index.ensures ends.after)
    (none_first g.setup (Add n) refl) ends.outcome)
