-- Filtered lists of numbered tokens.
use Rattle.std.specs.Prelude.{◌≡◌, ℕ, ◌==◌, ◌||◌, cond, not, Bool, true, false, List, [], ◌∷◌, ◌++◌, filter, Option, refl}
use Rattle.std.proofs.Common.{inl, inr, sym, ap, ap₂, ◌∙◌, subst, ⊎_elim, eq-eqb, eqb-true}
use Rattle.std.proofs.lemmas.Bool.{or_left, or_right}
use Rattle.std.proofs.lemmas.List.{map-append}
use Rattle.raft_group_step.specs.GroupState.{Untold}
use Rattle.raft_group_step.specs.StepResult.{is_within}
use Rattle.raft_laws.proofs.BallotSafe.{Among}
use Rattle.raft_laws.proofs.StepEntries.{Each}
use Rattle.raft_history_laws.specs.TokenEnds.{Numbered, has_place, numbered, untolds}

pub each_from : {A : Type 0} (P : A → Type 0) (xs : List A) → ((x : A) → Among x xs → P x) → Each P xs
each_from P [] f = tt
each_from P (x ∷ xs) f = (f x (inl refl), each_from P xs (λ y a. f y (inr a)))

-- tests that agree on a list keep the same of it
pub filter_same : {A : Type 0} (p q : A → Bool) (xs : List A) → Each (λ x. p x ≡ q x) xs → filter p xs ≡ filter q xs
filter_same p q [] h = refl
filter_same p q (x ∷ xs) h = ap₂ (λ b rest. cond b (x ∷ rest) rest) h.0 (filter_same p q xs h.1)

pub filter_none : {A : Type 0} (p : A → Bool) (xs : List A) → Each (λ x. p x ≡ false) xs → filter p xs ≡ []
filter_none p [] h = refl
filter_none p (x ∷ xs) h = ap₂ (λ b rest. cond b (x ∷ rest) rest) h.0 (filter_none p xs h.1)

pub filter_all : {A : Type 0} (p : A → Bool) (xs : List A) → Each (λ x. p x ≡ true) xs → filter p xs ≡ xs
filter_all p [] h = refl
filter_all p (x ∷ xs) h = ap₂ (λ b rest. cond b (x ∷ rest) rest) h.0 (filter_all p xs h.1)

untolds_cond : (b : Bool) (x : Numbered) (xs : List Numbered) → untolds (cond b (x ∷ xs) xs) ≡ cond b (x.untold ∷ untolds xs) (untolds xs)
untolds_cond true x xs = refl
untolds_cond false x xs = refl

-- a test of the tokens alone
pub untolds_filter : (p : Untold → Bool) (ws : List Numbered) → untolds (filter (λ (w : Numbered). p w.untold) ws) ≡ filter p (untolds ws)
untolds_filter p [] = refl
untolds_filter p (w ∷ ws) =
    untolds_cond (p w.untold) w (filter (λ (v : Numbered). p v.untold) ws)
    ∙ ap (λ rest. cond (p w.untold) (w.untold ∷ rest) rest) (untolds_filter p ws)

pub untolds_numbered : (number : ℕ) (xs : List Untold) → untolds (numbered number xs) ≡ xs
untolds_numbered number [] = refl
untolds_numbered number (x ∷ xs) = ap (λ l. x ∷ l) (untolds_numbered number xs)

pub untolds_append : (ws vs : List Numbered) → untolds (ws ++ vs) ≡ untolds ws ++ untolds vs
untolds_append ws vs = map-append (λ (w : Numbered). w.untold) ws vs

pub untolds_none : (ws : List Numbered) → untolds ws ≡ [] → ws ≡ []
untolds_none [] e = refl
untolds_none (w ∷ ws) e = absurd (let f : w.untold ∷ untolds ws ≡ [] = e in cc)

untolds_among : (w : Numbered) (ws : List Numbered) → Among w ws → Among w.untold (untolds ws)
untolds_among w [] a = absurd a
untolds_among w (v ∷ ws) a = ⊎_elim (λ e. inl (ap (λ (x : Numbered). x.untold) e)) (λ b. inr (untolds_among w ws b)) a

-- ---- places

not_not : (b : Bool) → not (not b) ≡ b
not_not true = refl
not_not false = refl

has_own : (xs : List Untold) (x : Untold) → Among x xs → has_place xs x.place ≡ true
has_own [] x a = absurd a
has_own (y ∷ xs) x a =
    ⊎_elim
    (λ e. or_left (y.place == x.place) (has_place xs x.place) (eq-eqb y.place x.place (ap (λ (z : Untold). z.place) (sym e))))
    (λ b. or_right (y.place == x.place) (has_place xs x.place) (has_own xs x b))
    a

module _ (committed : Option ℕ) where
  abbrev kept : List Untold → List Untold
  kept xs = filter (λ (x : Untold). not (is_within x.place committed)) xs

  -- a committed place isn't among those that wait
  gone : (xs : List Untold) (place : ℕ) → is_within place committed ≡ true → has_place (kept xs) place ≡ false
  gone [] place t = refl
  gone (x ∷ xs) place t = go (is_within x.place committed) refl (gone xs place t)
    where
      apart : (b : Bool) → (x.place == place) ≡ b → is_within x.place committed ≡ false → b ≡ false
      apart false e f = refl
      apart true e f = absurd (let g : true ≡ false = sym t ∙ ap (λ n. is_within n committed) (sym (eqb-true x.place place e)) ∙ f in cc)

      go : (b : Bool) → is_within x.place committed ≡ b → has_place (kept xs) place ≡ false → has_place (cond (not b) (x ∷ kept xs) (kept xs)) place ≡ false
      go true e rest = rest
      go false e rest = ap₂ (λ a b. a || b) (apart (x.place == place) refl e) rest

  stays_among : (xs : List Untold) (x : Untold) → Among x xs → is_within x.place committed ≡ false → Among x (kept xs)
  stays_among [] x a f = absurd a
  stays_among (y ∷ xs) x a f = go (is_within y.place committed) refl (λ b. stays_among xs x b f)
    where
      go : (b : Bool) → is_within y.place committed ≡ b → (Among x xs → Among x (kept xs)) → Among x (cond (not b) (y ∷ kept xs) (kept xs))
      go true e rest =
          ⊎_elim
          (λ same. absurd (let g : true ≡ false = sym e ∙ ap (λ (z : Untold). is_within z.place committed) (sym same) ∙ f in cc))
          (λ b. rest b)
          a
      go false e rest = ⊎_elim (λ same. inl same) (λ b. inr (rest b)) a

  -- of the tokens of a list just those above the committed place wait
  waits_above : (xs : List Untold) (x : Untold) → Among x xs → has_place (kept xs) x.place ≡ not (is_within x.place committed)
  waits_above xs x a = go (is_within x.place committed) refl
    where
      go : (b : Bool) → is_within x.place committed ≡ b → has_place (kept xs) x.place ≡ not b
      go true e = gone xs x.place e
      go false e = has_own (kept xs) x (stays_among xs x a e)

  module _ (ws : List Numbered) (now : List Untold) (is : now ≡ kept (untolds ws)) where
    each_waits : Each (λ (w : Numbered). has_place now w.untold.place ≡ not (is_within w.untold.place committed)) ws
    each_waits =
        each_from (λ (w : Numbered). has_place now w.untold.place ≡ not (is_within w.untold.place committed)) ws
        (λ w a. ap (λ xs. has_place xs w.untold.place) is ∙ waits_above (untolds ws) w.untold (untolds_among w ws a))

    pub kept_wait : untolds (filter (λ (w : Numbered). has_place now w.untold.place) ws) ≡ now
    kept_wait =
        ap untolds (filter_same (λ (w : Numbered). has_place now w.untold.place) (λ (w : Numbered). not (is_within w.untold.place committed)) ws each_waits)
        ∙ untolds_filter (λ (x : Untold). not (is_within x.place committed)) ws
        ∙ sym is

    pub due_ended : untolds (filter (λ (w : Numbered). not (has_place now w.untold.place)) ws) ≡ filter (λ (x : Untold). is_within x.place committed) (untolds ws)
    due_ended =
        ap untolds
        (filter_same (λ (w : Numbered). not (has_place now w.untold.place)) (λ (w : Numbered). is_within w.untold.place committed) ws
        (each_from (λ (w : Numbered). not (has_place now w.untold.place) ≡ is_within w.untold.place committed) ws
        (λ w a.
        ap not (ap (λ xs. has_place xs w.untold.place) is ∙ waits_above (untolds ws) w.untold (untolds_among w ws a))
        ∙ not_not (is_within w.untold.place committed))))
        ∙ untolds_filter (λ (x : Untold). is_within x.place committed) ws

-- ---- all, or none

pub none_wait : (ws : List Numbered) → filter (λ (w : Numbered). has_place [] w.untold.place) ws ≡ []
none_wait ws = filter_none (λ (w : Numbered). has_place [] w.untold.place) ws (each_from (λ (w : Numbered). false ≡ false) ws (λ w a. refl))

pub all_ended : (ws : List Numbered) → filter (λ (w : Numbered). not (has_place [] w.untold.place)) ws ≡ ws
all_ended ws = filter_all (λ (w : Numbered). not (has_place [] w.untold.place)) ws (each_from (λ (w : Numbered). true ≡ true) ws (λ w a. refl))

pub all_wait : (ws : List Numbered) (now : List Untold) → untolds ws ≡ now → filter (λ (w : Numbered). has_place now w.untold.place) ws ≡ ws
all_wait ws now is =
    filter_all (λ (w : Numbered). has_place now w.untold.place) ws
    (each_from (λ (w : Numbered). has_place now w.untold.place ≡ true) ws
    (λ w a. subst (λ xs. has_place xs w.untold.place ≡ true) is (has_own (untolds ws) w.untold (untolds_among w ws a))))

pub none_ended : (ws : List Numbered) (now : List Untold) → untolds ws ≡ now → filter (λ (w : Numbered). not (has_place now w.untold.place)) ws ≡ []
none_ended ws now is =
    filter_none (λ (w : Numbered). not (has_place now w.untold.place)) ws
    (each_from (λ (w : Numbered). not (has_place now w.untold.place) ≡ false) ws
    (λ w a. ap not (subst (λ xs. has_place xs w.untold.place ≡ true) is (has_own (untolds ws) w.untold (untolds_among w ws a)))))
