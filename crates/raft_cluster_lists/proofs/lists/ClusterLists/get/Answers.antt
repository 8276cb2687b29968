use Rattle.std.specs.Prelude.{◌≡◌, List, Some, length, refl}
use Rattle.std.specs.BTreeMap.{get}
use Rattle.std.specs.Ordering.{nat_cmp}
use Rattle.std.proofs.Common.{sym, ap, ◌∙◌, arith}
use Rattle.std.proofs.lemmas.Option.{slice_get_read, slice_get_within}
use Rattle.raft_cluster_lists.specs.declared.kept.KeptGroup.{KeptGroup}
use Rattle.raft_cluster_lists.specs.Groups.{kept_in}
use Rattle.raft_cluster_lists.proofs.PlaceLemmas.{kept_at, none_kept}
use Rattle.raft_cluster_lists.proofs.lists.ClusterLists.get.Goals as goal

pub index-requires : goal.index-requires
index-requires c =
    let own = c.self.invariant.there c.args.group c.in-Some.at.now (sym c.in-Some.ensures.value) in
    let within = slice_get_within c.self.inside.groups.items c.in-Some.at.now own.kept own.there in
    omega (arith, within)

pub returns-in-Some : goal.returns-in-Some
returns-in-Some c =
    let groups = c.self.inside.groups.items in
    let at = c.in-Some.at.now in
    let here : get nat_cmp c.self.inside.places c.args.group ≡ Some at = sym c.in-Some.ensures.value in
    let own = c.self.invariant.there c.args.group at here in
    let within = slice_get_within groups at own.kept own.there in
    let item = slice_get_read groups (length groups) at c.index.result.now refl within c.index.ensures in
    sym item ∙ sym (kept_at (get nat_cmp c.self.inside.places) groups c.self.invariant c.args.group at here) ∙ ap (λ (xs : List KeptGroup). kept_in xs c.args.group) c.self.view_is

pub returns-in-None : goal.returns-in-None
returns-in-None c =
    sym (none_kept (get nat_cmp c.self.inside.places) c.self.inside.groups.items c.self.invariant c.args.group (sym c.in-None.ensures.value))
    ∙ ap (λ (xs : List KeptGroup). kept_in xs c.args.group) c.self.view_is
