use Rattle.std.specs.Prelude.{List}
use Rattle.std.proofs.Common.{sym, ◌∙◌, subst}
use Rattle.raft_world.specs.World.{IsPlace}
use Rattle.raft_world.specs.declared.member.Member.{Member}
use Rattle.raft_world.proofs.PlaceLemmas.{node_there}
use Rattle.raft_world.proofs.WorldLemmas.{but_same, halt_done, halt_skipped}
use Rattle.std.proofs.Common.{refl}
use Rattle.raft_world.proofs.world.World.halt.Goals as goal

pub returns-then-not-is_up : goal.returns-then-not-is_up
returns-then-not-is_up c = λ g stop h.
    let w = c.args.self.now in
    let n = c.args.node in
    let place = c.in-Some.place in
    let m = c.index.result.now in
    let there : IsPlace w.members.items n place = subst (λ (l : List Member). IsPlace l n place) c.as_slice.ensures.value c.in-Some.ensures.place in
    halt_skipped w g n stop m (node_there w.members.items g.nodes n place m there h.nodes c.index.ensures) (sym c.is_up.ensures ∙ c.if-not-is_up.true) h

pub returns : goal.returns
returns c = λ g stop h.
    let w = c.args.self.now in
    let n = c.args.node in
    let place = c.in-Some.place in
    let m = c.index.result.now in
    let there : IsPlace w.members.items n place = subst (λ (l : List Member). IsPlace l n place) c.as_slice.ensures.value c.in-Some.ensures.place in
    halt_done c.crash_at.new.self g n stop m (node_there w.members.items g.nodes n place m there h.nodes c.index.ensures) (sym c.is_up.ensures ∙ c.if-not-is_up.false)
    (c.crash_at.ensures g n (g.nodes n) there (but_same w g n (g.nodes n) h refl))
