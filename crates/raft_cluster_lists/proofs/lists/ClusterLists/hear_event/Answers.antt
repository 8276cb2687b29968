use Rattle.std.specs.Prelude.{◌≡◌, ℕ, List, None, Some, length, slice_get, suc}
use Rattle.std.specs.BTreeMap.{get}
use Rattle.std.specs.Ordering.{nat_cmp}
use Rattle.std.proofs.Common.{rules, arith, sym, ap, ◌∙◌, subst}
use Rattle.std.proofs.lemmas.Option.{slice_get_within}
use Rattle.raft_cluster_lists.specs.declared.kept.KeptGroup.{KeptGroup}
use Rattle.raft_cluster_lists.specs.Groups.{GoesOnByCall, GoesOnByOpening, IsHeard, IsReadyFor, KeepReady}
use Rattle.raft_cluster_lists.specs.Hearing.{group_of}
use Rattle.raft_cluster_lists.specs.Lists.{TakesOne}
use Rattle.raft_cluster_lists.specs.Places.{ArePlaces, EachGoesOn, GoesOnAlone}
use Rattle.raft_cluster_lists.proofs.PlaceLemmas.{keeps_on, none_kept, places_stay, through_slice}
use Rattle.raft_cluster_lists.proofs.ReadyLemmas.{keep_less, keep_ready}
use Rattle.raft_cluster_lists.proofs.GroupLemmas.{each_is_ready, heard_call, heard_opening, others_same, own_goes_on, own_kept, own_places, own_ready}
use Rattle.raft_cluster_lists.proofs.lists.ClusterLists.hear_event.Goals as goal

pub hear_at-requires-clause-within : goal.hear_at-requires-clause-within
hear_at-requires-clause-within g c =
    let own = c.self.invariant.there c.in-Some.group c.in-Some-get.at.now (sym c.in-Some-get.ensures.value) in
    let within = slice_get_within c.self.inside.groups.items c.in-Some-get.at.now own.kept own.there in
    let all = ap (λ (xs : List KeptGroup). length xs) c.as_mut_slice-groups.ensures.value in
    omega (arith, within, all)

pub hear_at-requires-clause-ready : goal.hear_at-requires-clause-ready
hear_at-requires-clause-ready g c =
    λ kept there.
    let groups = c.self.inside.groups.items in
    let of_group : group_of c.args.event.now ≡ Some c.in-Some.group = sym c.group_of.ensures ∙ c.in-Some.is in
    let ready = subst (IsReadyFor c.args.event.now 1) (sym c.self.view_is) c.requires in
    let here = ap (λ (xs : List KeptGroup). slice_get xs c.in-Some-get.at.now) (sym c.as_mut_slice-groups.ensures.value) ∙ there in
    own_ready c.args.event.now c.in-Some.group of_group 1 (get nat_cmp c.self.inside.places) groups c.self.invariant ready c.in-Some-get.at.now (sym c.in-Some-get.ensures.value) kept here

pub invariant_of-self : goal.invariant_of-self
invariant_of-self g c =
    let groups = c.self.inside.groups.items in
    let news = c.hear_at.new.groups in
    let id = g.N.ClusterNode.acts.id c.args.node.now in
    let leads = g.N.ClusterNode.acts.leads c.args.node.now in
    let goes = λ (h : ℕ). GoesOnByCall id leads h c.args.outcome.now c.args.accepted c.args.brought in
    let alone = subst (λ (xs : List KeptGroup). GoesOnAlone goes c.in-Some-get.at.now xs news) c.as_mut_slice-groups.ensures.value c.hear_at.ensures.heard in
    let all : c.self.inside.groups.len ≡ length groups = search rules in
    let own = c.self.invariant.there c.in-Some.group c.in-Some-get.at.now (sym c.in-Some-get.ensures.value) in
    through_slice (ArePlaces (get nat_cmp c.self.inside.places)) groups news c.self.inside.groups.len all alone.size
    (own_places (get nat_cmp c.self.inside.places) groups news goes c.self.invariant c.in-Some.group c.in-Some-get.at.now own alone)

pub hear_openings-requires : goal.hear_openings-requires
hear_openings-requires g c =
    λ at kept there.
    let groups = c.self.inside.groups.items in
    let ready = subst (IsReadyFor c.args.event.now 1) (sym c.self.view_is) c.requires in
    let here = ap (λ (xs : List KeptGroup). slice_get xs at) (sym c.as_mut_slice.ensures.value) ∙ there in
    each_is_ready c.args.event.now 1 (get nat_cmp c.self.inside.places) groups c.self.invariant ready (c.is_opening.ensures.0 c.if-is_opening.true) at kept here

pub invariant_of-self-in-None : goal.invariant_of-self-in-None
invariant_of-self-in-None g c =
    let groups = c.self.inside.groups.items in
    let news = c.hear_openings.new.groups in
    let id = g.N.ClusterNode.acts.id c.args.node.now in
    let leads = g.N.ClusterNode.acts.leads c.args.node.now in
    let goes = λ (h : ℕ). GoesOnByOpening id leads h c.args.outcome.now in
    let on = subst (λ (xs : List KeptGroup). EachGoesOn goes xs news) c.as_mut_slice.ensures.value c.hear_openings.ensures.heard in
    let all : c.self.inside.groups.len ≡ length groups = search rules in
    through_slice (ArePlaces (get nat_cmp c.self.inside.places)) groups news c.self.inside.groups.len all on.size
    (places_stay (get nat_cmp c.self.inside.places) groups news goes c.self.invariant on)

pub returns-in-Some-get-clause-heard : goal.returns-in-Some-get-clause-heard
returns-in-Some-get-clause-heard g c =
    let groups = c.self.inside.groups.items in
    let news = c.hear_at.new.groups in
    let id = g.N.ClusterNode.acts.id c.args.node.now in
    let leads = g.N.ClusterNode.acts.leads c.args.node.now in
    let goes = λ (h : ℕ). GoesOnByCall id leads h c.args.outcome.now c.args.accepted c.args.brought in
    let alone = subst (λ (xs : List KeptGroup). GoesOnAlone goes c.in-Some-get.at.now xs news) c.as_mut_slice-groups.ensures.value c.hear_at.ensures.heard in
    let all : c.self.inside.groups.len ≡ length groups = search rules in
    let own = c.self.invariant.there c.in-Some.group c.in-Some-get.at.now (sym c.in-Some-get.ensures.value) in
    let of_group : group_of c.args.event.now ≡ Some c.in-Some.group = sym c.group_of.ensures ∙ c.in-Some.is in
    through_slice (IsHeard id leads c.args.event.now c.args.outcome.now c.args.accepted c.args.brought c.args.self.now) groups news c.self.inside.groups.len all alone.size
    (subst (λ (xs : List KeptGroup). IsHeard id leads c.args.event.now c.args.outcome.now c.args.accepted c.args.brought xs news) c.self.view_is
    (heard_call c.args.event.now c.in-Some.group of_group id leads c.args.outcome.now c.args.accepted c.args.brought groups news
    (own_goes_on (get nat_cmp c.self.inside.places) groups news goes c.self.invariant c.in-Some.group c.in-Some-get.at.now own alone)
    (others_same (get nat_cmp c.self.inside.places) groups news goes c.self.invariant c.in-Some.group c.in-Some-get.at.now own alone)))

pub returns-in-Some-clause-heard : goal.returns-in-Some-clause-heard
returns-in-Some-clause-heard g c =
    let groups = c.self.inside.groups.items in
    let of_group : group_of c.args.event.now ≡ Some c.in-Some.group = sym c.group_of.ensures ∙ c.in-Some.is in
    let ready = subst (IsReadyFor c.args.event.now 1) (sym c.self.view_is) c.requires in
    let none : get nat_cmp c.self.inside.places c.in-Some.group ≡ None = search rules in
    absurd (own_kept c.args.event.now c.in-Some.group of_group 1 groups ready (none_kept (get nat_cmp c.self.inside.places) groups c.self.invariant c.in-Some.group none))

pub returns-in-None-clause-heard : goal.returns-in-None-clause-heard
returns-in-None-clause-heard g c =
    let groups = c.self.inside.groups.items in
    let news = c.hear_openings.new.groups in
    let id = g.N.ClusterNode.acts.id c.args.node.now in
    let leads = g.N.ClusterNode.acts.leads c.args.node.now in
    let goes = λ (h : ℕ). GoesOnByOpening id leads h c.args.outcome.now in
    let on = subst (λ (xs : List KeptGroup). EachGoesOn goes xs news) c.as_mut_slice.ensures.value c.hear_openings.ensures.heard in
    let all : c.self.inside.groups.len ≡ length groups = search rules in
    let none : group_of c.args.event.now ≡ None = sym c.group_of.ensures ∙ c.in-None.is in
    through_slice (IsHeard id leads c.args.event.now c.args.outcome.now c.args.accepted c.args.brought c.args.self.now) groups news c.self.inside.groups.len all on.size
    (subst (λ (xs : List KeptGroup). IsHeard id leads c.args.event.now c.args.outcome.now c.args.accepted c.args.brought xs news) c.self.view_is
    (heard_opening c.args.event.now none id leads c.args.outcome.now c.args.accepted c.args.brought groups news (c.is_opening.ensures.0 c.if-is_opening.true)
    (keeps_on (get nat_cmp c.self.inside.places) groups news goes c.self.invariant on)))

pub returns-in-Some-get-clause-room : goal.returns-in-Some-get-clause-room
returns-in-Some-get-clause-room g c =
    λ n.
    let groups = c.self.inside.groups.items in
    let news = c.hear_at.new.groups in
    let on = subst (λ (xs : List KeptGroup). EachGoesOn (λ h. TakesOne) xs news) c.as_mut_slice-groups.ensures.value c.hear_at.ensures.room in
    let all : c.self.inside.groups.len ≡ length groups = search rules in
    through_slice (KeepReady (suc n) n c.args.self.now) groups news c.self.inside.groups.len all on.size
    (subst (λ (xs : List KeptGroup). KeepReady (suc n) n xs news) c.self.view_is
    (keep_ready TakesOne (suc n) n groups news (λ old new takes ready. takes n ready) (keeps_on (get nat_cmp c.self.inside.places) groups news (λ h. TakesOne) c.self.invariant on)))

pub returns-in-None-clause-room : goal.returns-in-None-clause-room
returns-in-None-clause-room g c =
    λ n.
    let groups = c.self.inside.groups.items in
    let news = c.hear_openings.new.groups in
    let on = subst (λ (xs : List KeptGroup). EachGoesOn (λ h. TakesOne) xs news) c.as_mut_slice.ensures.value c.hear_openings.ensures.room in
    let all : c.self.inside.groups.len ≡ length groups = search rules in
    through_slice (KeepReady (suc n) n c.args.self.now) groups news c.self.inside.groups.len all on.size
    (subst (λ (xs : List KeptGroup). KeepReady (suc n) n xs news) c.self.view_is
    (keep_ready TakesOne (suc n) n groups news (λ old new takes ready. takes n ready) (keeps_on (get nat_cmp c.self.inside.places) groups news (λ h. TakesOne) c.self.invariant on)))

pub returns-in-Some-clause-room : goal.returns-in-Some-clause-room
returns-in-Some-clause-room g c = λ n. keep_less n c.args.self.now

pub returns-clause-room : goal.returns-clause-room
returns-clause-room g c = λ n. keep_less n c.args.self.now
