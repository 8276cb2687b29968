use Rattle.std.specs.Prelude.{◌≡◌, ◌⊎◌, ℕ, List, [], ◌∷◌, Contains, refl}
use Rattle.std.proofs.Common.{ap, sym, ◌∙◌, inl, inr, ⊎_elim, subst, arith}
use Rattle.raft_laws.proofs.Counts.{at_contains, contains_among}
use Rattle.raft_group_step.specs.GroupState.{Untold}
use Rattle.raft_group_step.specs.StoredGroup.{end_place}
use Rattle.raft_machines.specs.declared.telling.Told.{Told}
use Rattle.raft_headline.specs.Answers.{IsToldIn}
use Rattle.raft_headline.specs.ClusterEvent.{silent}
use Rattle.raft_headline.specs.Rows.{leading, state_there, tells, told_at, waits}
use Rattle.raft_headline.proofs.rows.tokens_told_or_waiting.Goals as goal

has_only : {A : Type 0} (x : A) → Contains (x ∷ []) x
has_only x = at_contains (x ∷ []) x 0 refl

is_only : {A : Type 0} (x y : A) → Contains (x ∷ []) y → y ≡ x
is_only x y has = ⊎_elim (λ same. same) (λ none. absurd none) (contains_among (x ∷ []) y has)

-- nobody waits on
abbrev no_token : List Untold
no_token = []

never_none : (x : ℕ) (xs : List ℕ) → x ∷ xs ≡ [] → ⊥
never_none x xs e = cc e

not_silent : (x : Untold) → IsToldIn silent x ⊎ Contains no_token x → ⊥
not_silent x (inl said) = contains_among [] said.told said.has
not_silent x (inr waits_on) = contains_among [] x waits_on

-- what one told answer tells is its token and place
told_so : (t : Told) (x : Untold) → IsToldIn (tells t) x ⊎ Contains no_token x → (t.token ≡ x.token) × (t.place ≡ x.place)
told_so t x (inl said) =
    let same = is_only t said.told said.has in
    (ap (λ (y : Told). y.token) (sym same) ∙ said.token, ap (λ (y : Told). y.place) (sym same) ∙ said.place)
told_so t x (inr waits_on) = absurd (contains_among [] x waits_on)

pub returns-clause-told : goal.returns-clause-told
returns-clause-told c = record {
  none_unknown = refl;
  each = λ x has. inl (subst (λ y. IsToldIn (tells (told_at 1 2 [])) y) (sym (is_only (waits 1 2) x has)) (record { told = told_at 1 2 []; has = has_only (told_at 1 2 []); token = refl; place = refl }));
}

pub returns-clause-waiting : goal.returns-clause-waiting
returns-clause-waiting c = record { none_unknown = refl; each = λ x has. inr has }

pub returns-clause-forgotten : goal.returns-clause-forgotten
returns-clause-forgotten c = λ h. not_silent (waits 1 2) (h.each (waits 1 2) (has_only (waits 1 2)))

pub returns-clause-other_place : goal.returns-clause-other_place
returns-clause-other_place c = λ h. let at : 3 ≡ 2 = (told_so (told_at 1 3 []) (waits 1 2) (h.each (waits 1 2) (has_only (waits 1 2)))).1 in absurd (omega (arith, at))

pub returns-clause-other_token : goal.returns-clause-other_token
returns-clause-other_token c = λ h. let named : 2 ≡ 1 = (told_so (told_at 2 2 []) (waits 1 2) (h.each (waits 1 2) (has_only (waits 1 2)))).0 in absurd (omega (arith, named))

pub returns-clause-own_token : goal.returns-clause-own_token
returns-clause-own_token c = λ h.
    let own : Untold = waits 1 (end_place (state_there leading).stored) in
    not_silent own (h.each own (has_only own))

pub returns-clause-unknown : goal.returns-clause-unknown
returns-clause-unknown c = λ h. never_none 1 [] h.none_unknown
