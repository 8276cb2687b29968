use Rattle.std.specs.Prelude.{◌≡◌, List, length, IfOk, OnOk}
use Rattle.std.specs.BTreeMap.{get}
use Rattle.std.specs.Ordering.{nat_cmp}
use Rattle.std.proofs.Common.{rules, ap, arith, subst}
use Rattle.std.proofs.lemmas.Option.{slice_get_within}
use Rattle.std.proofs.lemmas.Result.{IfOk-weaker}
use Rattle.raft_cluster_lists.specs.declared.brought.Brought.{Brought}
use Rattle.raft_cluster_lists.specs.declared.kept.KeptGroup.{KeptGroup}
use Rattle.raft_cluster_lists.specs.Groups.{BringsTo, IsPreparedFor, IsReadyFor, IsSameGroup, KeepReady}
use Rattle.raft_cluster_lists.specs.Places.{ArePlaces, EachGoesOn, IsNoLess, IsPreparedAt}
use Rattle.raft_cluster_lists.proofs.PlaceLemmas.{keeps_on, keeps_same, kept_on, places_stay, through_slice}
use Rattle.raft_cluster_lists.proofs.GroupLemmas.{brings_to, found_own, prepared, ready_for}
use Rattle.raft_cluster_lists.proofs.EachLemmas.{each_weaker}
use Rattle.raft_cluster_lists.proofs.ReadyLemmas.{added_ready}
use Rattle.raft_cluster_lists.proofs.each.prepare_group.Goals as goal

pub returns-in_err-at-clause-groups : goal.returns-in_err-at-clause-groups
returns-in_err-at-clause-groups c =
    prepared c.args.event.now c.args.groups.now.items c.keep.new.groups.items c.keep.new.groups.items
    (λ h. keeps_same c.keep.new.groups.items h) c.args.group c.requires.of_group c.keep.ensures.others

pub prepare_at-requires : goal.prepare_at-requires
prepare_at-requires c =
    let there = c.in_ok-at.ensures.there in
    let within = slice_get_within c.keep.new.groups.items c.in_ok-at.at there.kept there.there in
    let all = ap (λ (xs : List KeptGroup). length xs) c.as_mut_slice.ensures.value in
    omega (arith, within, all)

pub returns-clause-places : goal.returns-clause-places
returns-clause-places c =
    let mids = c.keep.new.groups.items in
    let news = c.prepare_at.new.groups in
    let on = subst (λ (xs : List KeptGroup). EachGoesOn (λ h. IsNoLess) xs news) c.as_mut_slice.ensures.value c.prepare_at.ensures.same in
    let all : c.keep.new.groups.len ≡ length mids = search rules in
    through_slice (ArePlaces (get nat_cmp c.keep.new.places)) mids news c.keep.new.groups.len all on.size
    (places_stay (get nat_cmp c.keep.new.places) mids news (λ h. IsNoLess) c.keep.ensures.places on)

pub returns-clause-groups : goal.returns-clause-groups
returns-clause-groups c =
    let mids = c.keep.new.groups.items in
    let news = c.prepare_at.new.groups in
    let on = subst (λ (xs : List KeptGroup). EachGoesOn (λ h. IsNoLess) xs news) c.as_mut_slice.ensures.value c.prepare_at.ensures.same in
    let all : c.keep.new.groups.len ≡ length mids = search rules in
    through_slice (IsPreparedFor c.args.event.now c.args.groups.now.items) mids news c.keep.new.groups.len all on.size
    (prepared c.args.event.now c.args.groups.now.items mids news
    (keeps_on (get nat_cmp c.keep.new.places) mids news (λ h. IsSameGroup) c.keep.ensures.places (each_weaker (λ h. IsNoLess) (λ h. IsSameGroup) mids news (λ h old new is. is.same) on))
    c.args.group c.requires.of_group c.keep.ensures.others)

pub returns-clause-ready : goal.returns-clause-ready
returns-clause-ready c =
    let mids = c.keep.new.groups.items in
    let news = c.prepare_at.new.groups in
    let on = subst (λ (xs : List KeptGroup). EachGoesOn (λ h. IsNoLess) xs news) c.as_mut_slice.ensures.value c.prepare_at.ensures.same in
    let all : c.keep.new.groups.len ≡ length mids = search rules in
    let are = places_stay (get nat_cmp c.keep.new.places) mids news (λ h. IsNoLess) c.keep.ensures.places on in
    let own = kept_on mids news (λ h. IsNoLess) on c.args.group c.in_ok-at.at c.in_ok-at.ensures.there in
    through_slice (λ (xs : List KeptGroup). OnOk c.prepare_at.result (IsReadyFor c.args.event.now c.args.events xs)) mids news c.keep.new.groups.len all on.size
    (IfOk-weaker c.prepare_at.result (IsPreparedAt news c.in_ok-at.at c.args.leading.now c.args.event.now c.args.events) (λ (x : Brought). IsReadyFor c.args.event.now c.args.events news)
    (λ brought is. ready_for (get nat_cmp c.keep.new.places) news are c.args.event.now c.args.group c.in_ok-at.at c.requires.of_group own c.args.leading.now c.args.events brought is)
    c.prepare_at.ensures.there)

pub returns-clause-brings : goal.returns-clause-brings
returns-clause-brings c =
    let mids = c.keep.new.groups.items in
    let news = c.prepare_at.new.groups in
    let on = subst (λ (xs : List KeptGroup). EachGoesOn (λ h. IsNoLess) xs news) c.as_mut_slice.ensures.value c.prepare_at.ensures.same in
    let all : c.keep.new.groups.len ≡ length mids = search rules in
    let are = places_stay (get nat_cmp c.keep.new.places) mids news (λ h. IsNoLess) c.keep.ensures.places on in
    let own = kept_on mids news (λ h. IsNoLess) on c.args.group c.in_ok-at.at c.in_ok-at.ensures.there in
    through_slice (λ (xs : List KeptGroup). IfOk c.prepare_at.result (BringsTo xs c.args.leading.now c.args.event.now)) mids news c.keep.new.groups.len all on.size
    (IfOk-weaker c.prepare_at.result (IsPreparedAt news c.in_ok-at.at c.args.leading.now c.args.event.now c.args.events) (BringsTo news c.args.leading.now c.args.event.now)
    (λ brought is. brings_to (get nat_cmp c.keep.new.places) news are c.args.event.now c.args.group c.in_ok-at.at c.requires.of_group own c.args.leading.now c.args.events brought is)
    c.prepare_at.ensures.there)

pub returns-clause-keep : goal.returns-clause-keep
returns-clause-keep c =
    let olds = c.args.groups.now.items in
    let mids = c.keep.new.groups.items in
    let news = c.prepare_at.new.groups in
    let n = c.args.events in
    let places = get nat_cmp c.keep.new.places in
    let on = subst (λ (xs : List KeptGroup). EachGoesOn (λ h. IsNoLess) xs news) c.as_mut_slice.ensures.value c.prepare_at.ensures.same in
    let all : c.keep.new.groups.len ≡ length mids = search rules in
    let are = places_stay places mids news (λ h. IsNoLess) c.keep.ensures.places on in
    let own = kept_on mids news (λ h. IsNoLess) on c.args.group c.in_ok-at.at c.in_ok-at.ensures.there in
    through_slice (λ (xs : List KeptGroup). OnOk c.prepare_at.result (KeepReady n n olds xs)) mids news c.keep.new.groups.len all on.size
    (IfOk-weaker c.prepare_at.result (IsPreparedAt news c.in_ok-at.at c.args.leading.now c.args.event.now n) (λ (x : Brought). KeepReady n n olds news)
    (λ brought is.
    let there = found_own places news are c.args.event.now c.args.group c.in_ok-at.at c.requires.of_group own c.args.leading.now n brought is c.args.group c.requires.of_group in
    added_ready places olds mids news c.args.group n c.keep.ensures.others c.keep.ensures.places on is.kept there is.ready)
    c.prepare_at.ensures.there)
