-- What is kept of all groups, before an event and behind it.
use Rattle.std.specs.Prelude.{◌≡◌, ◌⊎◌, ℕ, List, [], slice_get, Option, Some, None, refl}
use Rattle.std.proofs.Common.{inl, inr, sym, ap, ◌∙◌, subst, ⊎_elim}
use Rattle.std.proofs.lemmas.Bool.{cases_eq}
use Rattle.std.proofs.lemmas.Bool.Decides.{eqb_tells}
use Rattle.raft_list_facts.specs.declared.acceptance.Acceptance.{Acceptance}
use Rattle.raft_cluster_events.specs.declared.outcome.EventOutcome.{EventOutcome}
use Rattle.raft_list_facts.specs.declared.leading.Leading.{Leading}
use Rattle.raft_cluster_events.specs.declared.event.ClusterEvent.{ClusterEvent}
use Rattle.raft_cluster_events.specs.declared.event.ClusterEvent.TheVariants.{AddGroup, Ask, Deliver, ResetPeer, Clean, Fuse, Crash, Reopen}
use Rattle.raft_cluster_lists.specs.declared.brought.Brought.{Brought}
use Rattle.raft_cluster_lists.specs.declared.kept.KeptGroup.{KeptGroup}
use Rattle.raft_cluster_lists.specs.declared.kept.StoppedCall.{StoppedCall}
use Rattle.raft_cluster_lists.specs.Brought.{Brings}
use Rattle.raft_cluster_lists.specs.Groups.{BringsTo, GoesOnByCall, GoesOnByOpening, IsHeard, IsNewGroup, IsPreparedFor, IsReadyFor, IsSameGroup, KeepsOn, kept_in}
use Rattle.raft_cluster_lists.specs.Hearing.{IsOpening, group_of}
use Rattle.raft_cluster_lists.specs.Lists.{AreSame, IsReady, stopped_at}
use Rattle.raft_group_lists.specs.Notes.{Notes, no_notes}
use Rattle.raft_cluster_lists.specs.Places.{AreKeptSo, ArePlaces, AreReady, EachGoesOn, GoesOnAlone, IsAddedLast, IsKeptAt, IsPreparedAt}
use Rattle.raft_laws.proofs.BallotAgreement.{same_some}
use Rattle.raft_cluster_lists.proofs.PlaceLemmas.{added_elsewhere, added_here, found, keeps_on, kept_at, kept_there, places_stay}

-- ---- before an event

same_as_none : (s t : Notes) → s ≡ no_notes → AreSame s t → AreSame no_notes t
same_as_none s t none same = subst (λ (n : Notes). AreSame n t) none same

module _ (event : ClusterEvent) (olds mids news : List KeptGroup) (same : (h : ℕ) → KeepsOn IsSameGroup (kept_in mids h) (kept_in news h)) where
  begun : (kept next : KeptGroup) → kept.list.notes ≡ no_notes → kept.stopped.items ≡ [] → IsSameGroup kept next → IsNewGroup next
  begun kept next notes stopped is =
      record {
        notes = same_as_none kept.list.notes next.list.notes notes is.notes;
        stopped = λ node. is.stopped node ∙ ap (λ (xs : List StoppedCall). stopped_at xs node) stopped;
      }

  added_prepared : (g : ℕ) → group_of event ≡ Some g → IsAddedLast g olds mids → IsPreparedFor event olds news
  added_prepared g of_group added h =
      ⊎_elim
      (λ here.
      let kept = added.kept in
      let none : kept_in olds kept.group ≡ None = ap (kept_in olds) added.of_group ∙ added.none in
      let is : kept_in mids h ≡ Some kept = ap (kept_in mids) here.1 ∙ ap (λ (xs : List KeptGroup). kept_in xs kept.group) added.behind ∙ added_here olds kept none in
      let on : KeepsOn IsSameGroup (Some kept) (kept_in news h) = subst (λ (o : Option KeptGroup). KeepsOn IsSameGroup o (kept_in news h)) is (same h) in
      inr (record {
        of_group = of_group ∙ ap Some (sym added.of_group ∙ sym here.1);
        none = ap (kept_in olds) (here.1 ∙ added.of_group) ∙ added.none;
        kept = on.0;
        there = on.1;
        is_new = begun kept on.0 added.notes added.stopped on.2;
      }))
      (λ elsewhere.
      let is : kept_in mids h ≡ kept_in olds h = ap (λ (xs : List KeptGroup). kept_in xs h) added.behind ∙ added_elsewhere olds added.kept h elsewhere.1 in
      inl (subst (λ (o : Option KeptGroup). KeepsOn IsSameGroup o (kept_in news h)) is (same h)))
      (eqb_tells h added.kept.group)

  pub prepared : (g : ℕ) → group_of event ≡ Some g → AreKeptSo g olds mids → IsPreparedFor event olds news
  prepared g of_group so h =
      ⊎_elim
      (λ is. inl (subst (λ (xs : List KeptGroup). KeepsOn IsSameGroup (kept_in xs h) (kept_in news h)) is (same h)))
      (λ added. added_prepared g of_group added h)
      so

pub opening_alone : (event : ClusterEvent) (g : ℕ) → IsOpening event → group_of event ≡ Some g → ⊥
opening_alone (AddGroup node group) g opens e = opens
opening_alone (Ask node group call now) g opens e = opens
opening_alone (Deliver group number cuts now) g opens e = opens
opening_alone (ResetPeer node peer) g opens e = opens
opening_alone (Clean node) g opens e = opens
opening_alone (Fuse node first_refused) g opens e = opens
opening_alone (Crash node choice) g opens e = opens
opening_alone (Reopen node workers) g opens e = let f : None ≡ Some g = e in cc

-- the event's group stands there, and is prepared
module _ (places : ℕ → Option ℕ) (groups : List KeptGroup) (are : ArePlaces places groups) (event : ClusterEvent) (g at : ℕ) (of_group : group_of event ≡ Some g) (own : IsKeptAt groups g at)
    (leading : Option Leading) (n : ℕ) (brought : Brought) (is : IsPreparedAt groups at leading event n brought) where
  is_own : own.kept ≡ is.kept
  is_own = same_some (sym own.there ∙ is.there)

  pub found_own : (h : ℕ) → group_of event ≡ Some h → kept_in groups h ≡ Some is.kept
  found_own h e =
      let same : h ≡ g = same_some (sym e ∙ of_group) in
      let of_kept : is.kept.group ≡ h = ap (λ (x : KeptGroup). x.group) (sym is_own) ∙ own.of_group ∙ sym same in
      subst (λ (n : ℕ). kept_in groups n ≡ Some is.kept) of_kept (kept_there places groups are at is.kept is.there)

  pub ready_for : IsReadyFor event n groups
  ready_for =
      record {
        own = λ h e. (is.kept, found_own h e, is.ready);
        each = λ opens h kept e. absurd (opening_alone event g opens of_group);
      }

  pub brings_to : BringsTo groups leading event brought
  brings_to h kept e found =
      subst (λ (k : KeptGroup). Brings k.list.notes leading event brought) (same_some (sym (found_own h e) ∙ found)) is.brings

-- ---- an event

-- all others stay
abbrev pub OwnGoesOn : ℕ → (ℕ → KeptGroup → KeptGroup → Type 0) → ℕ → KeptGroup → KeptGroup → Type 0
OwnGoesOn g goes h old new = ((h ≡ g) × goes h old new) ⊎ ((h ≡ g → ⊥) × (new ≡ old))

module _ (places : ℕ → Option ℕ) (olds news : List KeptGroup) (goes : ℕ → KeptGroup → KeptGroup → Type 0) (are : ArePlaces places olds) (g at : ℕ) (own : IsKeptAt olds g at) (alone : GoesOnAlone goes at olds news) where
  own_each : EachGoesOn (OwnGoesOn g goes) olds news
  own_each =
      record {
        size = alone.size;
        each = λ other old e.
            ⊎_elim
            (λ here.
            let there : slice_get olds at ≡ Some old = ap (slice_get olds) (sym here) ∙ e in
            let next = alone.own old there in
            let is : own.kept ≡ old = same_some (sym own.there ∙ there) in
            let of_own : old.group ≡ g = ap (λ (x : KeptGroup). x.group) (sym is) ∙ own.of_group in
            record { new = next.new; there = ap (slice_get news) here ∙ next.there; of_group = next.of_group; goes_on = inl (of_own, next.goes_on) })
            (λ elsewhere.
            let differs : old.group ≡ g → ⊥ = λ same. elsewhere (places_meet other old e same) in
            record { new = old; there = alone.others other elsewhere ∙ e; of_group = refl; goes_on = inr (differs, refl) })
            (cases_eq other at);
      }
    where
      places_meet : (other : ℕ) (old : KeptGroup) → slice_get olds other ≡ Some old → old.group ≡ g → other ≡ at
      places_meet other old e same =
          same_some (sym (are.known g other (record { kept = old; there = e; of_group = same })) ∙ are.known g at own)

  pub own_places : ArePlaces places news
  own_places = places_stay places olds news (OwnGoesOn g goes) are own_each

  pub own_goes_on : KeepsOn (goes g) (kept_in olds g) (kept_in news g)
  own_goes_on = by_own (kept_in olds g) (keeps_on places olds news (OwnGoesOn g goes) are own_each g)
    where
      by_own : (o : Option KeptGroup) → KeepsOn (OwnGoesOn g goes g) o (kept_in news g) → KeepsOn (goes g) o (kept_in news g)
      by_own None on = on
      by_own (Some old) on = (on.0, on.1, ⊎_elim (λ is. is.1) (λ other. absurd (other.0 refl)) on.2)

  pub others_same : (h : ℕ) → (h ≡ g → ⊥) → kept_in news h ≡ kept_in olds h
  others_same h differs = by_other (kept_in olds h) (keeps_on places olds news (OwnGoesOn g goes) are own_each h)
    where
      by_other : (o : Option KeptGroup) → KeepsOn (OwnGoesOn g goes h) o (kept_in news h) → kept_in news h ≡ o
      by_other None on = on
      by_other (Some old) on = on.1 ∙ ap Some (⊎_elim (λ is. absurd (differs is.0)) (λ other. other.1) on.2)

-- the event is of no group
module _ (event : ClusterEvent) (none : group_of event ≡ None) where
  of_none : (h : ℕ) → group_of event ≡ Some h → ⊥
  of_none h e = let f : None ≡ Some h = sym none ∙ e in cc

  pub all_ready : (n : ℕ) (groups : List KeptGroup) → AreReady groups n → IsReadyFor event n groups
  all_ready n groups ready =
      record {
        own = λ h e. absurd (of_none h e);
        each = λ opens h kept e. let at = found groups h kept e in ready at.0 kept at.1;
      }

  pub heard_opening : (id : ℕ) (leads : ℕ → Option Leading → Type 0) (outcome : EventOutcome) (accepted : Option Acceptance) (brought : Brought) (olds news : List KeptGroup) → IsOpening event
      → ((h : ℕ) → KeepsOn (GoesOnByOpening id leads h outcome) (kept_in olds h) (kept_in news h)) → IsHeard id leads event outcome accepted brought olds news
  heard_opening id leads outcome accepted brought olds news opens on =
      record {
        own = λ h e. absurd (of_none h e);
        each = λ o h. on h;
        others = λ h other closed. absurd (closed opens);
      }

-- the event is of this group
module _ (event : ClusterEvent) (g : ℕ) (of_group : group_of event ≡ Some g) where
  pub heard_call : (id : ℕ) (leads : ℕ → Option Leading → Type 0) (outcome : EventOutcome) (accepted : Option Acceptance) (brought : Brought) (olds news : List KeptGroup)
      → KeepsOn (GoesOnByCall id leads g outcome accepted brought) (kept_in olds g) (kept_in news g) → ((h : ℕ) → (h ≡ g → ⊥) → kept_in news h ≡ kept_in olds h)
      → IsHeard id leads event outcome accepted brought olds news
  heard_call id leads outcome accepted brought olds news own others =
      record {
        own = λ h e.
            let same : g ≡ h = same_some (sym of_group ∙ e) in
            subst (λ (n : ℕ). KeepsOn (GoesOnByCall id leads n outcome accepted brought) (kept_in olds n) (kept_in news n)) same own;
        each = λ opens h. absurd (opening_alone event g opens of_group);
        others = λ h other closed. others h (λ same. other (of_group ∙ ap Some (sym same)));
      }

  -- it is kept, and ready
  pub own_kept : (n : ℕ) (groups : List KeptGroup) → IsReadyFor event n groups → kept_in groups g ≡ None → ⊥
  own_kept n groups ready none =
      let own = ready.own g of_group in
      let f : None ≡ Some own.0 = sym none ∙ own.1 in cc

  pub own_ready : (n : ℕ) (places : ℕ → Option ℕ) (groups : List KeptGroup) → ArePlaces places groups → IsReadyFor event n groups → (at : ℕ) → places g ≡ Some at → (kept : KeptGroup) → slice_get groups at ≡ Some kept → IsReady kept n
  own_ready n places groups are ready at here kept there =
      let own = ready.own g of_group in
      let same : own.0 ≡ kept = same_some (sym own.1 ∙ kept_at places groups are g at here ∙ there) in
      subst (λ (k : KeptGroup). IsReady k n) same own.2

pub each_is_ready : (event : ClusterEvent) (n : ℕ) (places : ℕ → Option ℕ) (groups : List KeptGroup) → ArePlaces places groups → IsReadyFor event n groups → IsOpening event
    → (at : ℕ) (kept : KeptGroup) → slice_get groups at ≡ Some kept → IsReady kept n
each_is_ready event n places groups are ready opens at kept there = ready.each opens kept.group kept (kept_there places groups are at kept there)
