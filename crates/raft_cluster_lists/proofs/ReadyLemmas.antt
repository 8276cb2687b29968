-- Room for events, of one group and of all.
use Rattle.std.specs.Prelude.{◌≡◌, ◌==◌, ◌+◌, ◌≤◌, ℕ, suc, List, [], ◌∷◌, Option, Some, None, refl}
use Rattle.std.specs.Option.{option_or}
use Rattle.std.proofs.Common.{sym, ap, ◌∙◌, arith, subst, ⊎_elim}
use Rattle.std.proofs.lemmas.Bool.Decides.{eqb_tells}
use Rattle.std.proofs.lemmas.List.Folds.{find-append}
use Rattle.raft_group_lists.specs.Room.{HasRoom, HasSpace}
use Rattle.raft_laws.proofs.BallotAgreement.{same_some}
use Rattle.raft_list_steps.proofs.RoomLemmas.{less_room}
use Rattle.raft_cluster_events.specs.declared.event.ClusterEvent.{ClusterEvent}
use Rattle.raft_cluster_lists.specs.declared.kept.KeptGroup.{KeptGroup}
use Rattle.raft_cluster_lists.specs.Groups.{IsReadyFor, KeepReady, KeepsOn, kept_in}
use Rattle.raft_cluster_lists.specs.Lists.{IsReady, TakesOne}
use Rattle.raft_cluster_lists.specs.Places.{AreKeptSo, ArePlaces, EachGoesOn, IsNoLess}
use Rattle.raft_cluster_lists.proofs.PlaceLemmas.{added_elsewhere, keeps_on}

-- ---- one group

pub less_ready : (kept : KeptGroup) (n more : ℕ) → n ≤ more → IsReady kept more → IsReady kept n
less_ready kept n more less ready =
    let space = ready.stopped in
    record {
      list = less_room kept.list (n + n) (n + n) (more + more) (more + more) (omega (arith, less)) (omega (arith, less)) ready.list;
      stopped = omega (arith, less, space);
    }

pub takes_none : (kept : KeptGroup) → TakesOne kept kept
takes_none kept n ready = less_ready kept n (suc n) (omega arith) ready

-- its list heard of an event, and what is kept of calls that stopped has one more at most
pub takes_one : (old new : KeptGroup) → ((writes learns : ℕ) → HasRoom old.list (suc (suc writes)) (suc (suc learns)) → HasRoom new.list writes learns)
    → ((n : ℕ) → HasSpace old.stopped (suc n) → HasSpace new.stopped n) → TakesOne old new
takes_one old new room space n ready =
    record {
      list = room (n + n) (n + n) (less_room old.list (suc (suc (n + n))) (suc (suc (n + n))) (suc n + suc n) (suc n + suc n) (omega arith) (omega arith) ready.list);
      stopped = space n ready.stopped;
    }

-- ---- all groups

-- what is kept of a group goes on from what was
pub went_on : (goes : KeptGroup → KeptGroup → Type 0) (old new : Option KeptGroup) (kept : KeptGroup) → KeepsOn goes old new → new ≡ Some kept → (was : KeptGroup) × (old ≡ Some was) × goes was kept
went_on goes None new kept on e = absurd (let no : None ≡ Some kept = sym on ∙ e in cc)
went_on goes (Some was) new kept on e = (was, refl, subst (goes was) (same_some (sym on.1 ∙ e)) on.2)

pub goes_there : (goes : KeptGroup → KeptGroup → Type 0) (old new : Option KeptGroup) (was : KeptGroup) → KeepsOn goes old new → old ≡ Some was → (next : KeptGroup) × (new ≡ Some next) × goes was next
goes_there goes old new was on e = subst (λ (o : Option KeptGroup). KeepsOn goes o new) e on

pub keep_ready : (goes : KeptGroup → KeptGroup → Type 0) (before n : ℕ) (olds news : List KeptGroup) → ((old new : KeptGroup) → goes old new → IsReady old before → IsReady new n)
    → ((h : ℕ) → KeepsOn goes (kept_in olds h) (kept_in news h)) → KeepReady before n olds news
keep_ready goes before n olds news keeps on other ready =
    record {
      own = λ h e.
          let k = ready.own h e in
          let next = goes_there goes (kept_in olds h) (kept_in news h) k.0 (on h) k.1 in
          (next.0, next.1, keeps k.0 next.0 next.2 k.2);
      each = λ opens h kept e.
          let was = went_on goes (kept_in olds h) (kept_in news h) kept (on h) e in
          keeps was.0 kept was.2 (ready.each opens h was.0 was.1);
    }

-- what is ready for many events is ready for fewer
pub fewer_ready : (event : ClusterEvent) (n more : ℕ) (groups : List KeptGroup) → n ≤ more → IsReadyFor event more groups → IsReadyFor event n groups
fewer_ready event n more groups less ready =
    record {
      own = λ h e. let k = ready.own h e in (k.0, k.1, less_ready k.0 n more less k.2);
      each = λ opens h kept e. less_ready kept n more less (ready.each opens h kept e);
    }

pub keep_less : (n : ℕ) (groups : List KeptGroup) → KeepReady (suc n) n groups groups
keep_less n groups other ready = fewer_ready other n (suc n) groups (omega arith) ready

-- a group more is ready, and no other one lost room
module _ (places : ℕ → Option ℕ) (olds mids news : List KeptGroup) (g n : ℕ) (so : AreKeptSo g olds mids) (are : ArePlaces places mids) (on : EachGoesOn (λ h. IsNoLess) mids news)
    (own : KeptGroup) (there : kept_in news g ≡ Some own) (is_ready : IsReady own n) where
  still_kept : (h : ℕ) (kept : KeptGroup) → kept_in olds h ≡ Some kept → kept_in mids h ≡ Some kept
  still_kept h kept e =
      ⊎_elim
      (λ same. ap (λ (xs : List KeptGroup). kept_in xs h) same ∙ e)
      (λ added.
      ap (λ (xs : List KeptGroup). kept_in xs h) added.behind
      ∙ find-append (λ (x : KeptGroup). x.group == h) olds (added.kept ∷ [])
      ∙ ap (λ (o : Option KeptGroup). option_or o (kept_in (added.kept ∷ []) h)) e)
      so

  elsewhere : (h : ℕ) → (h ≡ g → ⊥) → kept_in mids h ≡ kept_in olds h
  elsewhere h differs =
      ⊎_elim
      (λ same. ap (λ (xs : List KeptGroup). kept_in xs h) same)
      (λ added. ap (λ (xs : List KeptGroup). kept_in xs h) added.behind ∙ added_elsewhere olds added.kept h (λ is. differs (is ∙ added.of_group)))
      so

  went : (h : ℕ) → KeepsOn IsNoLess (kept_in mids h) (kept_in news h)
  went = keeps_on places mids news (λ h. IsNoLess) are on

  pub added_ready : KeepReady n n olds news
  added_ready other ready =
      record {
        own = λ h e.
            let k = ready.own h e in
            let next = goes_there IsNoLess (kept_in mids h) (kept_in news h) k.0 (went h) (still_kept h k.0 k.1) in
            (next.0, next.1, next.2.room n k.2);
        each = λ opens h kept e.
            ⊎_elim
            (λ same.
            let is : own ≡ kept = same_some (sym there ∙ ap (kept_in news) (sym same.1) ∙ e) in
            subst (λ (k : KeptGroup). IsReady k n) is is_ready)
            (λ differs.
            let was = went_on IsNoLess (kept_in mids h) (kept_in news h) kept (went h) e in
            was.2.room n (ready.each opens h was.0 (sym (elsewhere h differs.1) ∙ was.1)))
            (eqb_tells h g);
      }
