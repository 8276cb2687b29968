-- What a listing names is there.
use Rattle.std.proofs.Common.{◌≡◌, ◌⊎◌, inl, inr, ℕ, Bool, true, false, cond, List, [], ◌∷◌, ◌++◌, Option, Some, None, refl, sym, ap, ◌∙◌, append_assoc}
use Rattle.std.specs.Prelude.{is_some, option_to_list, ◌==◌}
use Rattle.std.proofs.lemmas.Bool.{eqb-true}
use Rattle.raft_log_disk.specs.Text.{Text, same_text, after_prefix, without_slash, has_slash, name_in}
use Rattle.raft_log_disk.specs.Disk.{IsIn, fd_of, listed}
use Rattle.raft_log_disk.proofs.NameLemmas.{same_text-self}

prefix_step : (c b : ℕ) (cs bs r : Text) (t : Bool) → (c == b) ≡ t → (after_prefix cs bs ≡ Some r → bs ≡ cs ++ r) → cond t (after_prefix cs bs) None ≡ Some r → (b ∷ bs) ≡ (c ∷ (cs ++ r))
prefix_step c b cs bs r true same next h = let e : b ≡ c = sym (eqb-true c b same) in λ i. e i ∷ next h i
prefix_step c b cs bs r false same next h = absurd cc

prefix_is : (p t r : Text) → after_prefix p t ≡ Some r → t ≡ p ++ r
prefix_is [] t r h = let e : t ≡ r = cc in e
prefix_is (c ∷ cs) [] r h = absurd cc
prefix_is (c ∷ cs) (b ∷ bs) r h = prefix_step c b cs bs r (c == b) refl (prefix_is cs bs r) h

slash_step : (n name : Text) (t : Bool) → cond t None (Some n) ≡ Some name → Some n ≡ Some name
slash_step n name true h = absurd cc
slash_step n name false h = h

no_slash : (o : Option Text) (name : Text) → without_slash o ≡ Some name → o ≡ Some name
no_slash None name h = absurd cc
no_slash (Some n) name h = slash_step n name (has_slash n) h

-- a path that has a name in a directory
pub path_is : (directory path name : Text) → name_in directory path ≡ Some name → path ≡ directory ++ 47 ∷ name
path_is directory path name h = prefix_is (directory ++ 47 ∷ []) path name (no_slash (after_prefix (directory ++ 47 ∷ []) path) name h) ∙ append_assoc directory (47 ∷ []) name

found_behind : (b : Bool) (n : ℕ) (o : Option ℕ) → is_some o ≡ true → is_some (cond b (Some n) o) ≡ true
found_behind true n o h = refl
found_behind false n o h = h

listed_step : (e : Text × ℕ) (es : List (Text × ℕ)) (directory name : Text) (o : Option Text) → name_in directory e.0 ≡ o → IsIn name (option_to_list o ++ listed es directory)
    → (IsIn name (listed es directory) → is_some (fd_of es (directory ++ 47 ∷ name)) ≡ true) → is_some (cond (same_text e.0 (directory ++ 47 ∷ name)) (Some e.1) (fd_of es (directory ++ 47 ∷ name))) ≡ true
listed_step e es directory name None is h next = found_behind (same_text e.0 (directory ++ 47 ∷ name)) e.1 (fd_of es (directory ++ 47 ∷ name)) (next h)
listed_step e es directory name (Some n) is (inr h) next = found_behind (same_text e.0 (directory ++ 47 ∷ name)) e.1 (fd_of es (directory ++ 47 ∷ name)) (next h)
listed_step e es directory name (Some n) is (inl same) next =
    let path : e.0 ≡ directory ++ 47 ∷ name = path_is directory e.0 n is ∙ ap (λ t. directory ++ 47 ∷ t) (sym same) in
    ap (λ b. is_some (cond b (Some e.1) (fd_of es (directory ++ 47 ∷ name)))) (ap (λ t. same_text t (directory ++ 47 ∷ name)) path ∙ same_text-self (directory ++ 47 ∷ name))

pub listed_there : (es : List (Text × ℕ)) (directory name : Text) → IsIn name (listed es directory) → is_some (fd_of es (directory ++ 47 ∷ name)) ≡ true
listed_there [] directory name h = absurd h
listed_there (e ∷ es) directory name h = listed_step e es directory name (name_in directory e.0) refl h (listed_there es directory name)
