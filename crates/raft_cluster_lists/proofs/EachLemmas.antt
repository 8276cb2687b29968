-- Groups that go on one after the other.
use Rattle.std.specs.Prelude.{◌≡◌, ◌<◌, ◌≤◌, ◌+◌, ℕ, zero, suc, List, [], ◌∷◌, length, slice_get, slice_set, Some, None, refl}
use Rattle.std.proofs.Common.{sym, ap, ◌∙◌, arith, length-set, subst, ⊎_elim}
use Rattle.std.proofs.lemmas.Bool.{cases_eq, cases_lt}
use Rattle.std.proofs.lemmas.Option.{slice_get_within}
use Rattle.raft_cluster_lists.specs.declared.kept.KeptGroup.{KeptGroup}
use Rattle.raft_cluster_lists.specs.declared.kept.StoppedCall.{StoppedCall}
use Rattle.raft_cluster_lists.specs.Lists.{AreSame, IsReady, TakesOne, stopped_at}
use Rattle.raft_cluster_lists.specs.Places.{AreReady, EachGoesOn, GoesOnAlone, GoesOnAt, IsNoLess}
use Rattle.raft_laws.proofs.BallotAgreement.{same_some}
use Rattle.raft_cluster_lists.proofs.PlaceLemmas.{old_at}

pub set_here : {A : Type 0} (xs : List A) (at : ℕ) (y : A) → at < length xs → slice_get (slice_set xs at y) at ≡ Some y
set_here [] at y within = absurd (omega arith)
set_here (z ∷ zs) zero y within = refl
set_here (z ∷ zs) (suc at) y within = set_here zs at y (omega (arith, within))

set_elsewhere : {A : Type 0} (xs : List A) (at other : ℕ) (y : A) → (other ≡ at → ⊥) → slice_get (slice_set xs at y) other ≡ slice_get xs other
set_elsewhere [] at other y differs = refl
set_elsewhere (z ∷ zs) zero zero y differs = absurd (differs refl)
set_elsewhere (z ∷ zs) zero (suc other) y differs = refl
set_elsewhere (z ∷ zs) (suc at) zero y differs = refl
set_elsewhere (z ∷ zs) (suc at) (suc other) y differs = set_elsewhere zs at other y (λ same. differs (ap suc same))

-- so many groups went on, and the others are as before
pub record HaveGoneOn (goes : ℕ → KeptGroup → KeptGroup → Type 0) (n : ℕ) (olds news : List KeptGroup) : Type 0 where
  pub size : length news ≡ length olds
  pub gone : (at : ℕ) (old : KeptGroup) → at < n → slice_get olds at ≡ Some old → GoesOnAt goes news at old
  pub left : (at : ℕ) → n ≤ at → slice_get news at ≡ slice_get olds at

pub none_gone : (goes : ℕ → KeptGroup → KeptGroup → Type 0) (groups : List KeptGroup) → HaveGoneOn goes 0 groups groups
none_gone goes groups = record { size = refl; gone = λ at old less e. absurd (omega arith); left = λ at more. refl }

module _ (goes : ℕ → KeptGroup → KeptGroup → Type 0) (n : ℕ) (olds news : List KeptGroup) (on : HaveGoneOn goes n olds news) where
  pub one_more : (x y : KeptGroup) → slice_get news n ≡ Some x → y.group ≡ x.group → goes x.group x y → HaveGoneOn goes (n + 1) olds (slice_set news n y)
  one_more x y there same step =
      record {
        size = length-set news n y ∙ on.size;
        gone = λ at old less e.
            ⊎_elim
            (λ here.
            let was : Some x ≡ Some old = sym there ∙ on.left n (omega arith) ∙ ap (slice_get olds) (sym here) ∙ e in
            let is : x ≡ old = same_some was in
            subst (λ (k : KeptGroup). GoesOnAt goes (slice_set news n y) at k) is
            (record {
              new = y;
              there = ap (slice_get (slice_set news n y)) here ∙ set_here news n y (slice_get_within news n x there);
              of_group = same;
              goes_on = step;
            }))
            (λ elsewhere.
            let next = on.gone at old (omega (arith, less, elsewhere)) e in
            record {
              new = next.new;
              there = set_elsewhere news n at y elsewhere ∙ next.there;
              of_group = next.of_group;
              goes_on = next.goes_on;
            })
            (cases_eq at n);
        left = λ at more. set_elsewhere news n at y (omega (arith, more)) ∙ on.left at (omega (arith, more));
      }

  pub all_gone : length olds ≤ n → EachGoesOn goes olds news
  all_gone long =
      record {
        size = on.size;
        each = λ at old e. on.gone at old (let within = slice_get_within olds at old e in omega arith) e;
      }

  -- where groups go on by staying as they are, too
  pub others_stay : ((h : ℕ) (kept : KeptGroup) → goes h kept kept) → EachGoesOn goes olds news
  others_stay stays =
      record {
        size = on.size;
        each = λ at old e.
            ⊎_elim
            (λ less. on.gone at old less e)
            (λ more. record { new = old; there = on.left at more ∙ e; of_group = refl; goes_on = stays old.group old })
            (cases_lt at n);
      }

pub weaker : (goes by : ℕ → KeptGroup → KeptGroup → Type 0) (n : ℕ) (olds news : List KeptGroup) → ((h : ℕ) (old new : KeptGroup) → goes h old new → by h old new)
    → HaveGoneOn goes n olds news → HaveGoneOn by n olds news
weaker goes by n olds news less on =
    record {
      size = on.size;
      gone = λ at old l e.
          let next = on.gone at old l e in
          record { new = next.new; there = next.there; of_group = next.of_group; goes_on = less old.group old next.new next.goes_on };
      left = on.left;
    }

-- ---- room

pub record IsNoLessWithRoom (events : ℕ) (old new : KeptGroup) : Type 0 where
  pub same : IsNoLess old new
  pub ready : IsReady new events

pub stays_same : (kept : KeptGroup) → IsNoLess kept kept
stays_same kept = record { same = record { notes = record { accounts = refl; noted = refl }; stopped = λ node. refl }; room = λ n ready. ready }

pub same_items : (one other : KeptGroup) → AreSame one.list.notes other.list.notes → other.stopped.items ≡ one.stopped.items → ((n : ℕ) → IsReady one n → IsReady other n) → IsNoLess one other
same_items one other notes items room =
    record { same = record { notes = notes; stopped = λ node. ap (λ (xs : List StoppedCall). stopped_at xs node) items }; room = room }

pub each_ready : (events : ℕ) (olds news : List KeptGroup) → EachGoesOn (λ h. IsNoLessWithRoom events) olds news → AreReady news events
each_ready events olds news on at kept there =
    let old = old_at olds news (λ h. IsNoLessWithRoom events) on at kept there in
    let next = on.each at old.0 old.1 in
    let both : Some next.new ≡ Some kept = sym next.there ∙ there in
    subst (λ (k : KeptGroup). IsReady k events) (same_some both) next.goes_on.ready

-- a group goes on, and takes room for one event
pub record GoesOnTakingOne (goes : ℕ → KeptGroup → KeptGroup → Type 0) (h : ℕ) (old new : KeptGroup) : Type 0 where
  pub goes_on : goes h old new
  pub room : TakesOne old new

pub each_weaker : (goes by : ℕ → KeptGroup → KeptGroup → Type 0) (olds news : List KeptGroup) → ((h : ℕ) (old new : KeptGroup) → goes h old new → by h old new) → EachGoesOn goes olds news → EachGoesOn by olds news
each_weaker goes by olds news less on =
    record {
      size = on.size;
      each = λ at old e.
          let next = on.each at old e in
          record { new = next.new; there = next.there; of_group = next.of_group; goes_on = less old.group old next.new next.goes_on };
    }

-- ---- one group

module _ (goes : ℕ → KeptGroup → KeptGroup → Type 0) (groups : List KeptGroup) (at : ℕ) (x y : KeptGroup) (there : slice_get groups at ≡ Some x) (same : y.group ≡ x.group) (step : goes x.group x y) where
  pub alone_set : GoesOnAlone goes at groups (slice_set groups at y)
  alone_set =
      record {
        size = length-set groups at y;
        own = λ old e.
            let was : Some x ≡ Some old = sym there ∙ e in
            let is : x ≡ old = same_some was in
            subst (λ (k : KeptGroup). GoesOnAt goes (slice_set groups at y) at k) is
            (record { new = y; there = set_here groups at y (slice_get_within groups at x there); of_group = same; goes_on = step });
        others = λ other differs. set_elsewhere groups at other y differs;
      }

pub alone_each : (goes : ℕ → KeptGroup → KeptGroup → Type 0) (at : ℕ) (olds news : List KeptGroup) → GoesOnAlone goes at olds news → ((h : ℕ) (kept : KeptGroup) → goes h kept kept) → EachGoesOn goes olds news
alone_each goes at olds news alone stays =
    record {
      size = alone.size;
      each = λ other old e.
          ⊎_elim
          (λ same. subst (λ (i : ℕ). GoesOnAt goes news i old) (sym same) (alone.own old (sym (ap (slice_get olds) same) ∙ e)))
          (λ differs. record { new = old; there = alone.others other differs ∙ e; of_group = refl; goes_on = stays old.group old })
          (cases_eq other at);
    }
