-- Paths in directories.
use Rattle.std.proofs.Common.{◌≡◌, ◌≢◌, ◌⊎◌, inl, inr, ℕ, Bool, true, false, cond, eqb, List, [], ◌∷◌, ◌++◌, Option, Some, None, refl, sym, ap, subst, ◌∙◌}
use Rattle.std.proofs.lemmas.Bool.{eq-eqb, ne_eqb, eqb-true, eqb-false}
use Rattle.raft_log_disk.specs.Text.{Text, after_prefix, without_slash, has_slash, name_in}

after_whole : (p q text rest : Text) → text ≡ p ++ rest → after_prefix (p ++ q) text ≡ after_prefix q rest
after_whole [] q text rest e = ap (after_prefix q) e
after_whole (c ∷ p) q [] rest e = absurd cc
after_whole (c ∷ p) q (b ∷ text) rest e =
    let same : b ≡ c = cc in
    ap (λ t. cond t (after_prefix (p ++ q) text) None) (eq-eqb c b (sym same)) ∙ after_whole p q text rest cc

other_step : (c b : ℕ) (p q text : Text) (t : Bool) → eqb c b ≡ t → ((rest : Text) → b ∷ text ≢ c ∷ p ++ rest) → (((rest : Text) → text ≢ p ++ rest) → after_prefix (p ++ q) text ≡ None) → cond t (after_prefix (p ++ q) text) None ≡ None
other_step c b p q text true e none next = next (λ rest is. none rest (ap (λ (n : ℕ). n ∷ text) (sym (eqb-true c b e)) ∙ ap (λ (l : List ℕ). c ∷ l) is))
other_step c b p q text false e none next = refl

after_other : (p q text : Text) → ((rest : Text) → text ≢ p ++ rest) → after_prefix (p ++ q) text ≡ None
after_other [] q text none = absurd (none text refl)
after_other (c ∷ p) q [] none = refl
after_other (c ∷ p) q (b ∷ text) none = other_step c b p q text (eqb c b) refl none (after_other p q text)

-- no directory
pub not_in : (directory path : Text) → ((rest : Text) → path ≢ directory ++ rest) → name_in directory path ≡ None
not_in directory path none = ap without_slash (after_other directory (47 ∷ []) path none)

-- the directory's name goes on
pub not_behind : (directory path rest : Text) → path ≡ directory ++ rest → ((name : Text) → rest ≢ 47 ∷ name) → name_in directory path ≡ None
not_behind directory path rest is none = ap without_slash (after_whole directory (47 ∷ []) path rest is ∙ after_other (47 ∷ []) [] rest none)

pub in_directory : (directory path rest name : Text) → path ≡ directory ++ rest → rest ≡ 47 ∷ name → name_in directory path ≡ (cond (has_slash name) None (Some name))
in_directory directory path rest name is slash = ap without_slash (after_whole directory (47 ∷ []) path rest is ∙ after_whole (47 ∷ []) [] rest name slash)
