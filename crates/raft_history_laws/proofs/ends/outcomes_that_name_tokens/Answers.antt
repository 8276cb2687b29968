use Rattle.std.specs.Prelude.{◌≡◌, ℕ, ◌<◌, List, [], ◌∷◌, map, refl}
use Rattle.std.proofs.Common.{inl, inr, ap, arith, ⊎_elim}
use Rattle.raft_group_step.specs.GroupState.{Untold}
use Rattle.raft_history_laws.specs.WaitingTokensRun.{token}
use Rattle.raft_history_laws.proofs.ends.outcomes_that_name_tokens.Goals as goal

pub returns-clause-told : goal.returns-clause-told
returns-clause-told c = inl (refl, refl)

pub returns-clause-unknown : goal.returns-clause-unknown
returns-clause-unknown c = inr (refl, refl)

pub returns-clause-stopped : goal.returns-clause-stopped
returns-clause-stopped c = inr (refl, refl)

pub returns-clause-refused : goal.returns-clause-refused
returns-clause-refused c = inl (refl, refl)

pub returns-clause-crash : goal.returns-clause-crash
returns-clause-crash c = (refl, refl)

none_some : {A : Type 0} (x : A) (xs : List A) → [] ≡ x ∷ xs → ⊥
none_some x xs e = cc

some_none : {A : Type 0} (x : A) (xs : List A) → x ∷ xs ≡ [] → ⊥
some_none x xs e = cc

one_two : {A : Type 0} (x y z : A) → x ∷ [] ≡ y ∷ z ∷ [] → ⊥
one_two x y z e = cc

abbrev places : List Untold → List ℕ
places xs = map (λ (x : Untold). x.place) xs

pub returns-clause-silent : goal.returns-clause-silent
returns-clause-silent c = λ h. ⊎_elim (λ t. none_some (token 1 2) (token 2 3 ∷ []) t.0) (λ u. none_some 1 (2 ∷ []) u.1) h

pub returns-clause-one_of_two : goal.returns-clause-one_of_two
returns-clause-one_of_two c = λ h. ⊎_elim (λ t. one_two (token 1 2) (token 1 2) (token 2 3) t.0) (λ u. some_none (token 1 2) [] u.0) h

pub returns-clause-twice : goal.returns-clause-twice
returns-clause-twice c = λ h. ⊎_elim (λ t. some_none 1 (2 ∷ []) t.1) (λ u. some_none (token 1 2) (token 2 3 ∷ []) u.0) h

pub returns-clause-some_unknown : goal.returns-clause-some_unknown
returns-clause-some_unknown c = λ h. ⊎_elim (λ t. some_none 2 [] t.1) (λ u. some_none (token 1 2) [] u.0) h

second : (a b c d : ℕ) → a ∷ b ∷ [] ≡ c ∷ d ∷ [] → b ≡ d
second a b c d e = cc

apart : (a b : ℕ) → b < a → a ≡ b → ⊥
apart a b l e = omega arith

pub returns-clause-other_place : goal.returns-clause-other_place
returns-clause-other_place c = λ h. ⊎_elim (λ t. apart 4 3 (omega arith) (second 2 4 2 3 (ap places t.0))) (λ u. some_none (token 1 2) (token 2 4 ∷ []) u.0) h

pub returns-clause-none_ended : goal.returns-clause-none_ended
returns-clause-none_ended c = λ h. ⊎_elim (λ t. some_none (token 1 2) [] t.0) (λ u. some_none (token 1 2) [] u.0) h

pub returns-clause-silent_stop : goal.returns-clause-silent_stop
returns-clause-silent_stop c = λ h. ⊎_elim (λ t. none_some (token 1 2) (token 2 3 ∷ []) t.0) (λ u. none_some 1 (2 ∷ []) u.1) h

pub returns-clause-telling_crash : goal.returns-clause-telling_crash
returns-clause-telling_crash c = λ h. some_none (token 1 2) (token 2 3 ∷ []) h.0

pub returns-clause-opening : goal.returns-clause-opening
returns-clause-opening c = λ h. ⊎_elim (λ t. none_some (token 1 2) (token 2 3 ∷ []) t.0) (λ u. none_some 1 (2 ∷ []) u.1) h
