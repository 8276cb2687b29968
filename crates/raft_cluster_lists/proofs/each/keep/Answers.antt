use Rattle.std.proofs.Common.{rules, ◌≡◌, ℕ, length, Some, None, List, [], ◌∷◌, ◌++◌, sym, ap, ◌∙◌, subst, inr}
use Rattle.std.specs.BTreeMap.{UpdatesBy, get, is_at}
use Rattle.std.specs.Map.{lookup}
use Rattle.std.specs.Ordering.{nat_cmp}
use Rattle.raft_cluster_lists.specs.declared.kept.KeptGroup.{KeptGroup}
use Rattle.raft_cluster_lists.specs.Places.{ArePlaces, IsKeptAt}
use Rattle.raft_cluster_lists.proofs.PlaceLemmas.{added_places, added_there, none_kept, places_same}
use Rattle.raft_cluster_lists.proofs.each.keep.Goals as goal

pub returns-in-Some-clause-there : goal.returns-in-Some-clause-there
returns-in-Some-clause-there c = c.requires.there c.args.group c.in-Some.at.now (sym c.in-Some.ensures.value)

pub returns-in_err-insert-clause-places : goal.returns-in_err-insert-clause-places
returns-in_err-insert-clause-places c =
    subst (λ (xs : List KeptGroup). ArePlaces (get nat_cmp c.insert.new.self) xs) (sym c.reserve.ensures.items)
    (places_same (get nat_cmp c.args.places.now) (get nat_cmp c.insert.new.self) c.args.groups.now.items
    (λ h. ap (lookup (is_at (nat_cmp h))) c.in_err-insert.ensures.err) c.requires)

pub returns-clause-places : goal.returns-clause-places
returns-clause-places c =
    let none : get nat_cmp c.args.places.now c.args.group ≡ None = search rules in
    let size : c.len-at.result ≡ length c.args.groups.now.items = search rules in
    let put : UpdatesBy nat_cmp (nat_cmp c.args.group) c.args.places.now c.insert.new.self (Some (length c.args.groups.now.items)) =
    subst (λ (n : ℕ). UpdatesBy nat_cmp (nat_cmp c.args.group) c.args.places.now c.insert.new.self (Some n)) size c.in_ok-insert.ensures.updates in
    let behind : c.push_reserved.new.self.items ≡ c.args.groups.now.items ++ c.new.result ∷ [] =
    c.push_reserved.ensures.items ∙ ap (λ (xs : List KeptGroup). xs ++ c.new.result ∷ []) c.reserve.ensures.items in
    subst (λ (xs : List KeptGroup). ArePlaces (get nat_cmp c.insert.new.self) xs) (sym behind)
    (added_places c.args.places.now c.insert.new.self c.args.groups.now.items c.args.group c.new.result c.requires c.new.ensures.group none put)

pub returns-clause-there : goal.returns-clause-there
returns-clause-there c =
    let size : c.len-at.result ≡ length c.args.groups.now.items = search rules in
    let behind : c.push_reserved.new.self.items ≡ c.args.groups.now.items ++ c.new.result ∷ [] =
    c.push_reserved.ensures.items ∙ ap (λ (xs : List KeptGroup). xs ++ c.new.result ∷ []) c.reserve.ensures.items in
    subst (λ (xs : List KeptGroup). IsKeptAt xs c.args.group c.len-at.result) (sym behind)
    (subst (λ (n : ℕ). IsKeptAt (c.args.groups.now.items ++ c.new.result ∷ []) c.args.group n) (sym size)
    (added_there c.args.groups.now.items c.args.group c.new.result c.new.ensures.group))

pub returns-clause-others : goal.returns-clause-others
returns-clause-others c =
    let none : get nat_cmp c.args.places.now c.args.group ≡ None = search rules in
    inr (record {
      none = none_kept (get nat_cmp c.args.places.now) c.args.groups.now.items c.requires c.args.group none;
      kept = c.new.result;
      of_group = c.new.ensures.group;
      notes = c.new.ensures.notes;
      stopped = c.new.ensures.stopped;
      behind = c.push_reserved.ensures.items ∙ ap (λ (xs : List KeptGroup). xs ++ c.new.result ∷ []) c.reserve.ensures.items;
    })
