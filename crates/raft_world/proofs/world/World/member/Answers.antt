use Rattle.std.specs.Prelude.{◌≡◌, List, slice_get}
use Rattle.std.proofs.Common.{◌∙◌, subst}
use Rattle.raft_world.specs.World.{IsPlace, member_of}
use Rattle.raft_world.specs.declared.member.Member.{Member}
use Rattle.raft_world.proofs.PlaceLemmas.{found_get}
use Rattle.raft_world.proofs.LookupLemmas.{item_or_none}
use Rattle.raft_world.proofs.world.World.member.Goals as goal

pub returns-in-Some : goal.returns-in-Some
returns-in-Some c =
    let ms = c.args.self.now.members.items in
    let place = c.in-Some.place in
    let there : IsPlace ms c.args.id place = subst (λ (l : List Member). IsPlace l c.args.id place) c.as_slice.ensures.value c.in-Some.ensures.place in
    let got : slice_get ms place ≡ member_of c.args.id ms = found_get ms c.args.id place there in
    item_or_none _ ms place c.get.result c.deref.ensures.value c.get.ensures.lookup.0 c.get.ensures.lookup.1 ∙ got
