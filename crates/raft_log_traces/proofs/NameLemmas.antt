-- Lists of names, as loops collect them.
use Rattle.std.proofs.Common.{◌≡◌, ◌≤◌, ◌<◌, ◌⊎◌, ℕ, Bool, true, false, cond, List, [], ◌∷◌, ◌++◌, map, Option, Some, refl, sym, ap, subst, ◌∙◌, arith, append_assoc, inl, inr, ⊎_elim}
use Rattle.std.specs.Prelude.{bytes_eq, Vec}
use Rattle.std.specs.Borrow.{Bor}
use Rattle.std.specs.declared.alloc.Global.{Global}
use Rattle.std.specs.Map.{lookup}
use Rattle.std.specs.Ordering.{nat_cmp, is_eq}
use Rattle.std.specs.Cmp.Lexicographic.{slice_cmp, nat_list_eq_equiv}
use Rattle.std.proofs.lemmas.List.{map_push}
use Rattle.std.proofs.lemmas.Map.Text.{is_eq-slice_cmp}
use Rattle.raft_log_covers.specs.Marks.{is_in}
use Rattle.raft_log_traces.specs.Before.{IsBefore}
use Rattle.raft_log_traces.proofs.KeyLemmas.{is_in_more}

abbrev pub shown : List (Bor (List ℕ)) → List (List ℕ)
shown names = map (λ n. n.now) names

abbrev pub bytes_in : List (Vec ℕ Global) → List (List ℕ)
bytes_in vs = map (λ v. v.items) vs

pub one_shown : (names more : List (Bor (List ℕ))) (n : Bor (List ℕ)) → more ≡ names ++ n ∷ [] → shown more ≡ shown names ++ n.now ∷ []
one_shown names more n e = ap shown e ∙ map_push (λ (x : Bor (List ℕ)). x.now) names n

pub names_more : (names more : List (Bor (List ℕ))) (n : Bor (List ℕ)) (v : Vec ℕ Global) (left rest : List (Vec ℕ Global)) (whole : List (List ℕ)) → more ≡ names ++ n ∷ [] → n.now ≡ v.items → left ≡ v ∷ rest
    → shown names ++ bytes_in left ≡ whole → shown more ++ bytes_in rest ≡ whole
names_more names more n v left rest whole e k s h =
    ap (λ (l : List (List ℕ)). l ++ bytes_in rest) (one_shown names more n e ∙ ap (λ (b : List ℕ). shown names ++ b ∷ []) k)
    ∙ regrouped (shown names) (v.items) (bytes_in rest)
    ∙ ap (λ (l : List (Vec ℕ Global)). shown names ++ bytes_in l) (sym s) ∙ h
  where
    regrouped : (a : List (List ℕ)) (x : List ℕ) (b : List (List ℕ)) → (a ++ x ∷ []) ++ b ≡ a ++ x ∷ b
    regrouped a x b = rw append_assoc

-- ---- keys in files before one

-- the file of a key in what is left of a map
abbrev pub file_left : List ℕ → List (Vec ℕ Global × ℕ) → Option ℕ
file_left k left = lookup (λ (v : Vec ℕ Global). is_eq (slice_cmp nat_cmp k v.items)) left

-- a key that is in a file before one was collected, or is left
abbrev pub IsCollected : ℕ → List (Bor (List ℕ)) → List (Vec ℕ Global × ℕ) → List ℕ → Type 0
IsCollected file names left k = (is_in k (shown names) ≡ true) ⊎ IsBefore file (file_left k left)

later_key : (file : ℕ) (key : Vec ℕ Global) (at : ℕ) (rest : List (Vec ℕ Global × ℕ)) (k : List ℕ) → IsBefore file (file_left k ((key, at) ∷ rest)) → (P : Type 0) → (bytes_eq key.items k ≡ true → at < file → P) → (IsBefore file (file_left k rest) → P) → P
later_key file key at rest k h P now later = by_test (is_eq (slice_cmp nat_cmp k key.items)) refl h
  where
    by_test : (b : Bool) → is_eq (slice_cmp nat_cmp k key.items) ≡ b → IsBefore file (cond b (Some at) (file_left k rest)) → P
    by_test true e h = now (nat_list_eq_equiv.symm key.items k ∙ sym (is_eq-slice_cmp k key.items) ∙ e) h
    by_test false e h = later h

pub key_passed : (file : ℕ) (names : List (Bor (List ℕ))) (key : Vec ℕ Global) (at : ℕ) (left rest : List (Vec ℕ Global × ℕ)) (k : List ℕ) → left ≡ (key, at) ∷ rest → file ≤ at → IsCollected file names left k → IsCollected file names rest k
key_passed file names key at left rest k e l h =
    ⊎_elim (λ y. inl y)
    (λ b. later_key file key at rest k (subst (λ (es : List (Vec ℕ Global × ℕ)). IsBefore file (file_left k es)) e b) (IsCollected file names rest k) (λ s m. absurd (omega (arith, l, m))) (λ m. inr m)) h

pub key_added : (file : ℕ) (names more : List (Bor (List ℕ))) (n : Bor (List ℕ)) (key : Vec ℕ Global) (at : ℕ) (left rest : List (Vec ℕ Global × ℕ)) (k : List ℕ) → left ≡ (key, at) ∷ rest → more ≡ names ++ n ∷ [] → n.now ≡ key.items
    → IsCollected file names left k → IsCollected file more rest k
key_added file names more n key at left rest k e m s h =
    let is : is_in k (shown more) ≡ cond (bytes_eq n.now k) true (is_in k (shown names)) = ap (λ (l : List (List ℕ)). is_in k l) (one_shown names more n m) ∙ is_in_more n.now k (shown names) in
    ⊎_elim
    (λ y. inl (is ∙ stays (bytes_eq n.now k) (is_in k (shown names)) y))
    (λ b. later_key file key at rest k (subst (λ (es : List (Vec ℕ Global × ℕ)). IsBefore file (file_left k es)) e b) (IsCollected file more rest k)
    (λ y l. inl (is ∙ ap (λ (c : Bool). cond c true (is_in k (shown names))) (ap (λ (bs : List ℕ). bytes_eq bs k) s ∙ y)))
    (λ l. inr l)) h
  where
    stays : (b x : Bool) → x ≡ true → cond b true x ≡ true
    stays true x y = refl
    stays false x y = y
