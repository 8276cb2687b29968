-- What is read of a cluster by its lists.
use Rattle.std.proofs.Common.{◌≡◌, ℕ, List, Option, Some, None, slice_get, arith, refl, sym, ap, ◌∙◌, subst}
use Rattle.std.specs.Prelude.{Contains}
use Rattle.raft_group_step.specs.GroupState.{GroupState}
use Rattle.raft_group_step.specs.Values.{Entry}
use Rattle.raft_laws.specs.GroupWorld.{Absent, Down, NodeState, Up}
use Rattle.raft_laws.specs.OneList.{applied_list}
use Rattle.raft_laws.specs.Settled.{group_list}
use Rattle.raft_laws.proofs.Counts.{at_contains}
use Rattle.raft_machines.specs.declared.telling.Told.{Told}
use Rattle.raft_machines.specs.Fold.{fold_of}
use Rattle.raft_machines.specs.Machine.{MachineRules}
use Rattle.raft_headline.specs.Headline.{IsAppliedFront}
use Rattle.raft_headline.specs.Told.{IsOriginOf, said_by}
use Rattle.raft_headline.proofs.Headlines.{leads_there}
use Rattle.raft_cluster_events.specs.declared.event.ClusterEvent.{ClusterEvent}
use Rattle.raft_cluster_events.specs.declared.event.ClusterEvent.TheVariants as event
use Rattle.raft_cluster_events.specs.declared.outcome.Recorded.{Recorded}
use Rattle.raft_cluster_events.specs.Node.{NodeActs}
use Rattle.raft_cluster_events.specs.States.{NodeStates}
use Rattle.raft_node_laws.specs.Law.{Lends}
use Rattle.raft_cluster.specs.Facts.{node_in}
use Rattle.raft_cluster.specs.Joined.{downs_of, ids_of}
use Rattle.raft_cluster.specs.Told.{told_at, told_of, told_where}
use Rattle.raft_listed_cluster.specs.Listed.{HasLists, ListedValue, lists_of}
use Rattle.raft_listed_cluster.specs.Reading.{HasToldEntry, IsAskedBy, IsFoldOfFront, IsWithin, LendsFront, StandsAsTold, applied_at, applied_in, machine_at, machine_in}
use Rattle.raft_listed_cluster.proofs.TellingFacts.{asked_so, plain_of, real_of, same_told, taken_too}

-- ---- machines

-- a node lends what it has applied, and that is a front of the list
front_of : (rules : MachineRules) (list : List Entry) (s : NodeState) (machine : Option (List ℕ)) (place : Option ℕ) → Lends rules s machine place
    → ((t : GroupState) → s ≡ Up t → IsAppliedFront rules list t (fold_of rules (applied_list t))) → LendsFront rules list machine place
front_of rules list (Up t) (Some machine) place lends front =
    let f = front t refl in
    subst (λ (p : Option ℕ). IsFoldOfFront rules list machine p) (sym lends.1) (record { within = f.within; folded = lends.0 ∙ f.folded })
front_of rules list (Up t) None place lends front = lends.1
front_of rules list (Down x) (Some machine) place lends front = absurd (let no : Some machine ≡ None = lends.0 in cc)
front_of rules list (Down x) None place lends front = lends.1
front_of rules list Absent (Some machine) place lends front = absurd (let no : Some machine ≡ None = lends.0 in cc)
front_of rules list Absent None place lends front = lends.1

-- what is applied is within the list
front_within : (rules : MachineRules) (list : List Entry) (machine : Option (List ℕ)) (place : Option ℕ) → LendsFront rules list machine place → IsWithin list place
front_within rules list None place none = subst (IsWithin list) (sym none) (omega arith)
front_within rules list (Some machine) place front = front.within

module _ {N : Type 0} (rules : MachineRules) (acts : NodeActs N) (states : NodeStates N) (now : ListedValue N) (has : HasLists rules acts states now) where
  abbrev ids : List ℕ
  ids = ids_of acts has.first

  lends_front : (id : ℕ) (node : N) → node_in acts now.cluster.nodes id ≡ Some node → (h : ℕ) → LendsFront rules (lists_of now.groups h) (acts.machine_of node h) (acts.applied_of node h)
  lends_front id node there h =
      let stand = has.told.stand in
      let kept = stand.kept.groups h in
      let (leads, headline, same) = has.lists h kept.one kept.among in
      let led = leads_there rules ids stand.kept.node_ids h has.told.plain leads.end leads.replays in
      subst (λ (list : List Entry). LendsFront rules list (acts.machine_of node h) (acts.applied_of node h)) (sym same)
      (front_of rules (group_list leads.end.world) (kept.one id) (acts.machine_of node h) (acts.applied_of node h) (has.lends id node there h (kept.one id) (kept.among id))
      (λ t is.
      let at = leads.nodes id ∙ is in
      let front = headline.applied id t at in
      record { within = front.within; folded = sym (led.kept.folded id t at) ∙ front.folded }))

  -- the machine that the node of an id lends of a group
  machine_front : (id h : ℕ) → LendsFront rules (lists_of now.groups h) (machine_at acts now.cluster.nodes id h) (applied_at acts now.cluster.nodes id h)
  machine_front id h = go (node_in acts now.cluster.nodes id) refl
    where
      go : (w : Option N) → node_in acts now.cluster.nodes id ≡ w → LendsFront rules (lists_of now.groups h) (machine_in acts w h) (applied_in acts w h)
      go None is = refl
      go (Some node) is = lends_front id node is h

  -- ---- told answers

  -- which real event an entry comes from
  asked_by : (h : ℕ) (numbers : List ℕ) (number : ℕ) (e : Entry) (origin : IsOriginOf ids h has.told.plain numbers number e)
      → (k : ℕ) × IsAskedBy now.cluster.history h k origin.asked
  asked_by h numbers number e origin =
      let real = real_of (downs_of acts has.first) now.cluster.history has.told.plain has.told.report number origin.recorded origin.node h origin.asked origin.now origin.stands origin.event in
      let r : Recorded = real.other in
      let S : ClusterEvent → Option Recorded = λ x. Some (record { event = x; outcome = r.outcome }) in
      let asks : r.event ≡ event.Ask origin.node h origin.asked origin.now =
      asked_so r.event origin.recorded.node origin.recorded.outcome origin.recorded.event origin.node h origin.asked origin.now real.same.event origin.event in (
        real.number,
        record {
          node = origin.node;
          now = origin.now;
          outcome = r.outcome;
          stands = real.stands ∙ ap S asks;
          taken = taken_too real.past r.event r.outcome origin.recorded.outcome real.same.outcome origin.taken;
        },
      )

  told_stands : (h number : ℕ) (r : Recorded) (t : Told) → slice_get now.cluster.history number ≡ Some r → Contains (told_of h r.outcome) t
      → (e : Entry) × StandsAsTold rules now.cluster.history h (lists_of now.groups h) t e
  told_stands h number r t is tells =
      let kept = has.told.stand.kept.groups h in
      let (leads, headline, same) = has.lists h kept.one kept.among in
      let plain = plain_of (downs_of acts has.first) now.cluster.history has.told.plain has.told.report number r is in
      let p = plain.other in
      let said : (said_by h p.event p.outcome).told ≡ told_of h r.outcome = same_told h p.node plain.past r.event r.outcome p.event p.outcome plain.same.event plain.same.outcome in
      let right = headline.told leads.replays.0 leads.replays.1 plain.number p t plain.stands (subst (λ (ts : List Told). Contains ts t) (sym said) tells) in
      let from = asked_by h leads.replays.0 right.number right.entry right.origin in (
        right.entry,
        subst (λ (list : List Entry). StandsAsTold rules now.cluster.history h list t right.entry) (sym same) (record {
          stands = right.stands;
          number = from.0;
          call = right.origin.asked;
          asked = from.1;
          token = right.token;
          holds = right.origin.holds;
          answer = right.answer;
        }),
      )

  -- the answer at this place among those that an event told
  told_entry : (h number at : ℕ) (t : Told) → slice_get (told_at now.cluster.history number h) at ≡ Some t
      → (e : Entry) × StandsAsTold rules now.cluster.history h (lists_of now.groups h) t e
  told_entry h number at t is = go (slice_get now.cluster.history number) refl is
    where
      go : (w : Option Recorded) → slice_get now.cluster.history number ≡ w → slice_get (told_where h w) at ≡ Some t → (e : Entry) × StandsAsTold rules now.cluster.history h (lists_of now.groups h) t e
      go None there none = absurd (let no : None ≡ Some t = none in cc)
      go (Some r) there tells = told_stands h number r t there (at_contains (told_of h r.outcome) t at tells)

  told_then : (h number at : ℕ) (tells : List Told) (w : Option Told) → tells ≡ told_at now.cluster.history number h → slice_get tells at ≡ w → slice_get (told_at now.cluster.history number h) at ≡ w
  told_then h number at tells w same is = subst (λ (ts : List Told). slice_get ts at ≡ w) same is

  -- what was told there, with the entry that is lent
  pub told_lent : (h number at : ℕ) (tells : List Told) (t : Told) (found : Option Entry) → tells ≡ told_at now.cluster.history number h → slice_get tells at ≡ Some t
      → found ≡ slice_get (lists_of now.groups h) t.place
      → HasToldEntry rules now.cluster.history h (lists_of now.groups h) (slice_get (told_at now.cluster.history number h) at) found
  told_lent h number at tells t found same there is =
      let told = told_then h number at tells (Some t) same there in
      let (e, stands) = told_entry h number at t told in
      subst (λ (w : Option Told). HasToldEntry rules now.cluster.history h (lists_of now.groups h) w found) (sym told) (e, is ∙ stands.stands, stands)

  -- nothing was
  pub none_lent : (h number at : ℕ) (tells : List Told) (found : Option Entry) → tells ≡ told_at now.cluster.history number h → slice_get tells at ≡ None → found ≡ None
      → HasToldEntry rules now.cluster.history h (lists_of now.groups h) (slice_get (told_at now.cluster.history number h) at) found
  none_lent h number at tells found same there is =
      subst (λ (w : Option Told). HasToldEntry rules now.cluster.history h (lists_of now.groups h) w found) (sym (told_then h number at tells None same there)) is

  -- ---- what a node of this id lends

  pub machine_lent : (id h : ℕ) (machine : Option (List ℕ)) → machine ≡ machine_at acts now.cluster.nodes id h
      → LendsFront rules (lists_of now.groups h) machine (applied_at acts now.cluster.nodes id h)
  machine_lent id h machine is =
      subst (λ (m : Option (List ℕ)). LendsFront rules (lists_of now.groups h) m (applied_at acts now.cluster.nodes id h)) (sym is) (machine_front id h)

  pub applied_lent : (id h : ℕ) (place : Option ℕ) → place ≡ applied_at acts now.cluster.nodes id h → IsWithin (lists_of now.groups h) place
  applied_lent id h place is =
      subst (IsWithin (lists_of now.groups h)) (sym is)
      (front_within rules (lists_of now.groups h) (machine_at acts now.cluster.nodes id h) (applied_at acts now.cluster.nodes id h) (machine_front id h))

-- ---- the node of an id

module _ {N : Type 0} (acts : NodeActs N) where
  pub its_machine : (nodes : List N) (id group : ℕ) (node : N) → Some node ≡ node_in acts nodes id → acts.machine_of node group ≡ machine_at acts nodes id group
  its_machine nodes id group node there = ap (λ (w : Option N). machine_in acts w group) there

  pub its_applied : (nodes : List N) (id group : ℕ) (node : N) → Some node ≡ node_in acts nodes id → acts.applied_of node group ≡ applied_at acts nodes id group
  its_applied nodes id group node there = ap (λ (w : Option N). applied_in acts w group) there
