use Rattle.std.specs.Prelude.{◌≡◌, ℕ, zero, suc, true, false, [], ◌∷◌, slice_get, Some, None, Contains, refl}
use Rattle.std.proofs.Common.{subst}
use Rattle.raft_laws.proofs.Counts.{contains_at}
use Rattle.raft_headline.specs.ClusterEvent.{Ask, Deliver, Done, Fused, Opened, PassedOver, Recorded, Reopen, Stopped, silent}
use Rattle.raft_group_step.specs.declared.group_call.GroupCall.TheVariants.{Elect}
use Rattle.raft_headline.specs.Rows.{at_one, proposes}
use Rattle.raft_headline.specs.Stops.{opens}
use Rattle.raft_headline.proofs.rows.stops_that_stay.Goals as goal

untrue : false ≡ true → ⊥
untrue e = cc

-- nothing stands between
none_between : (y : Recorded) → Contains [] y → opens 1 y ≡ false
none_between y has = let at = contains_at [] y has in none at.0 at.1
  where
    none : (i : ℕ) → slice_get [] i ≡ Some y → opens 1 y ≡ false
    none i e = absurd (let f : None ≡ Some y = e in cc)

-- one event stands between
one_between : (x : Recorded) → opens 1 x ≡ false → (y : Recorded) → Contains (x ∷ []) y → opens 1 y ≡ false
one_between x closed y has = let at = contains_at (x ∷ []) y has in one at.0 at.1
  where
    one : (i : ℕ) → slice_get (x ∷ []) i ≡ Some y → opens 1 y ≡ false
    one zero e = subst (λ z. opens 1 z ≡ false) (let f : Some x ≡ Some y = e in let g : x ≡ y = cc in g) closed
    one (suc i) e = absurd (let f : None ≡ Some y = e in cc)

pub returns-clause-answers : goal.returns-clause-answers
returns-clause-answers c = λ h. untrue (h [] [] [] (at_one (proposes 5 1) (Stopped [])) (at_one (proposes 6 2) (Done silent)) refl refl none_between refl refl)

pub returns-clause-fused : goal.returns-clause-fused
returns-clause-fused c = λ h. untrue (h [] [] [] (at_one (proposes 5 1) Fused) (at_one (Deliver 7 0 0) (Done silent)) refl refl none_between refl refl)

pub returns-clause-anothers : goal.returns-clause-anothers
returns-clause-anothers c = λ h. untrue (h [] [] [] (at_one (Ask 1 9 Elect 0) (Stopped [])) (at_one (proposes 6 2) (Done silent)) refl refl none_between refl refl)

pub returns-clause-other_opened : goal.returns-clause-other_opened
returns-clause-other_opened c = λ h. untrue (h [] (at_one (Reopen 2) (Opened []) ∷ []) [] (at_one (proposes 5 1) Fused) (at_one (proposes 6 2) (Done silent)) refl refl (one_between (at_one (Reopen 2) (Opened [])) refl) refl refl)

pub returns-clause-not_opened : goal.returns-clause-not_opened
returns-clause-not_opened c = λ h. untrue (h [] (at_one (Reopen 1) Fused ∷ []) [] (at_one (proposes 5 1) Fused) (at_one (proposes 6 2) (Done silent)) refl refl (one_between (at_one (Reopen 1) Fused) refl) refl refl)

pub returns-clause-opening_passed : goal.returns-clause-opening_passed
returns-clause-opening_passed c = λ h. untrue (h [] (at_one (Reopen 1) PassedOver ∷ []) [] (at_one (proposes 5 1) Fused) (at_one (proposes 6 2) (Done silent)) refl refl (one_between (at_one (Reopen 1) PassedOver) refl) refl refl)
