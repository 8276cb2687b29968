use Rattle.std.specs.Prelude.{◌≡◌, List, None, length}
use Rattle.std.specs.BTreeMap.{get}
use Rattle.std.specs.Ordering.{nat_cmp}
use Rattle.std.proofs.Common.{rules, sym, ◌∙◌, inl, subst}
use Rattle.raft_cluster_lists.specs.declared.kept.KeptGroup.{KeptGroup}
use Rattle.raft_cluster_lists.specs.Groups.{IsPreparedFor, IsReadyFor, IsSameGroup, KeepReady}
use Rattle.raft_cluster_lists.specs.Hearing.{group_of}
use Rattle.raft_cluster_lists.specs.Places.{ArePlaces, EachGoesOn, IsNoLess}
use Rattle.raft_cluster_lists.proofs.PlaceLemmas.{keeps_on, keeps_same, places_stay, through_slice}
use Rattle.raft_cluster_lists.proofs.GroupLemmas.{all_ready}
use Rattle.raft_cluster_lists.proofs.EachLemmas.{each_weaker}
use Rattle.raft_cluster_lists.proofs.ReadyLemmas.{keep_ready}
use Rattle.raft_cluster_lists.proofs.lists.ClusterLists.prepare.Goals as goal

pub invariant_of-self-in_err-make_room_in-in-None : goal.invariant_of-self-in_err-make_room_in-in-None
invariant_of-self-in_err-make_room_in-in-None c =
    let groups = c.self.inside.groups.items in
    let news = c.make_room_in.new.groups in
    let on = subst (λ (xs : List KeptGroup). EachGoesOn (λ h. IsNoLess) xs news) c.as_mut_slice.ensures.value c.make_room_in.ensures.same in
    let all : c.self.inside.groups.len ≡ length groups = search rules in
    through_slice (ArePlaces (get nat_cmp c.self.inside.places)) groups news c.self.inside.groups.len all on.size
    (places_stay (get nat_cmp c.self.inside.places) groups news (λ h. IsNoLess) c.self.invariant on)

pub returns-in_err-make_room_in-in-None-clause-groups : goal.returns-in_err-make_room_in-in-None-clause-groups
returns-in_err-make_room_in-in-None-clause-groups c =
    let groups = c.self.inside.groups.items in
    let news = c.make_room_in.new.groups in
    let on = subst (λ (xs : List KeptGroup). EachGoesOn (λ h. IsNoLess) xs news) c.as_mut_slice.ensures.value c.make_room_in.ensures.same in
    let all : c.self.inside.groups.len ≡ length groups = search rules in
    through_slice (IsPreparedFor c.args.event.now c.args.self.now) groups news c.self.inside.groups.len all on.size
    (subst (λ (xs : List KeptGroup). IsPreparedFor c.args.event.now xs news) c.self.view_is
    (λ h. inl (keeps_on (get nat_cmp c.self.inside.places) groups news (λ h. IsSameGroup) c.self.invariant (each_weaker (λ h. IsNoLess) (λ h. IsSameGroup) groups news (λ h old new is. is.same) on) h)))

pub invariant_of-self-then-is_opening : goal.invariant_of-self-then-is_opening
invariant_of-self-then-is_opening c =
    let groups = c.self.inside.groups.items in
    let news = c.make_room_in.new.groups in
    let on = subst (λ (xs : List KeptGroup). EachGoesOn (λ h. IsNoLess) xs news) c.as_mut_slice.ensures.value c.make_room_in.ensures.same in
    let all : c.self.inside.groups.len ≡ length groups = search rules in
    through_slice (ArePlaces (get nat_cmp c.self.inside.places)) groups news c.self.inside.groups.len all on.size
    (places_stay (get nat_cmp c.self.inside.places) groups news (λ h. IsNoLess) c.self.invariant on)

pub returns-in_ok-make_room_in-in-None-clause-groups : goal.returns-in_ok-make_room_in-in-None-clause-groups
returns-in_ok-make_room_in-in-None-clause-groups c =
    let groups = c.self.inside.groups.items in
    let news = c.make_room_in.new.groups in
    let on = subst (λ (xs : List KeptGroup). EachGoesOn (λ h. IsNoLess) xs news) c.as_mut_slice.ensures.value c.make_room_in.ensures.same in
    let all : c.self.inside.groups.len ≡ length groups = search rules in
    through_slice (IsPreparedFor c.args.event.now c.args.self.now) groups news c.self.inside.groups.len all on.size
    (subst (λ (xs : List KeptGroup). IsPreparedFor c.args.event.now xs news) c.self.view_is
    (λ h. inl (keeps_on (get nat_cmp c.self.inside.places) groups news (λ h. IsSameGroup) c.self.invariant (each_weaker (λ h. IsNoLess) (λ h. IsSameGroup) groups news (λ h old new is. is.same) on) h)))

pub returns-in_ok-make_room_in-in-None-clause-ready : goal.returns-in_ok-make_room_in-in-None-clause-ready
returns-in_ok-make_room_in-in-None-clause-ready c =
    let groups = c.self.inside.groups.items in
    let news = c.make_room_in.new.groups in
    let on = subst (λ (xs : List KeptGroup). EachGoesOn (λ h. IsNoLess) xs news) c.as_mut_slice.ensures.value c.make_room_in.ensures.same in
    let all : c.self.inside.groups.len ≡ length groups = search rules in
    let none : group_of c.args.event.now ≡ None = sym c.group_of.ensures ∙ c.in-None.is in
    through_slice (IsReadyFor c.args.event.now c.args.events) groups news c.self.inside.groups.len all on.size
    (all_ready c.args.event.now none c.args.events news c.in_ok-make_room_in-in-None.ensures.ok)

pub returns-in-None-2-clause-groups : goal.returns-in-None-2-clause-groups
returns-in-None-2-clause-groups c = λ h. inl (keeps_same c.args.self.now h)

pub returns-in_ok-make_room_in-in-None-clause-keep : goal.returns-in_ok-make_room_in-in-None-clause-keep
returns-in_ok-make_room_in-in-None-clause-keep c =
    let groups = c.self.inside.groups.items in
    let news = c.make_room_in.new.groups in
    let n = c.args.events in
    let on = subst (λ (xs : List KeptGroup). EachGoesOn (λ h. IsNoLess) xs news) c.as_mut_slice.ensures.value c.make_room_in.ensures.same in
    let all : c.self.inside.groups.len ≡ length groups = search rules in
    through_slice (KeepReady n n c.args.self.now) groups news c.self.inside.groups.len all on.size
    (subst (λ (xs : List KeptGroup). KeepReady n n xs news) c.self.view_is
    (keep_ready IsNoLess n n groups news (λ old new less ready. less.room n ready) (keeps_on (get nat_cmp c.self.inside.places) groups news (λ h. IsNoLess) c.self.invariant on)))
