-- The tokens of one group more.
use Rattle.std.proofs.Common.{◌≡◌, ℕ, ◌+◌, ◌<◌, Bool, true, false, cond, List, [], ◌∷◌, ◌++◌, length, map, take, get_or, sym, ap, ◌∙◌, append_assoc, append-nil}
use Rattle.std.specs.Prelude.{filter}
use Rattle.std.proofs.lemmas.List.{take_more}
use Rattle.std.proofs.lemmas.List.Concat.{flat_map-append}
use Rattle.std.proofs.lemmas.List.Elements.{filter-append}
use Rattle.raft_machines.specs.declared.telling.UnknownTokens.{UnknownTokens}
use Rattle.raft_machines.specs.declared.telling.Untold.{Untold}
use Rattle.raft_cluster_script.specs.Answers.{tokens_of}

abbrev pub names : List Untold → List ℕ
names tokens = map (λ (x : Untold). x.token) tokens

abbrev pub tokens_in : UnknownTokens → List ℕ
tokens_in one = names one.tokens.items

-- behind those of some groups
more_of : (xs : List UnknownTokens) (one : UnknownTokens) → tokens_of (xs ++ one ∷ []) ≡ tokens_of xs ++ tokens_in one
more_of xs one = flat_map-append tokens_in xs (one ∷ []) ∙ ap (λ l. tokens_of xs ++ l) (append-nil (tokens_in one))

pub tokens_more : (before all new : List ℕ) (tokens : List Untold) (xs more : List UnknownTokens) (one : UnknownTokens) → more ≡ xs ++ one ∷ [] → all ≡ before ++ tokens_of xs → tokens ≡ one.tokens.items → new ≡ all ++ names tokens → new ≡ before ++ tokens_of more
tokens_more before all new tokens xs more one is so_far same pushed =
    pushed ∙ ap (λ t. all ++ names t) same ∙ ap (λ l. l ++ tokens_in one) so_far ∙ append_assoc before (tokens_of xs) (tokens_in one)
    ∙ ap (λ l. before ++ l) (sym (more_of xs one) ∙ ap tokens_of (sym is))

module _ (xs : List UnknownTokens) (i : ℕ) (one : UnknownTokens) (within : i < length xs) (is : one ≡ get_or xs i one) where
  pub one_more : take (i + 1) xs ≡ take i xs ++ one ∷ []
  one_more = take_more xs i one within ∙ ap (λ y. take i xs ++ y ∷ []) (sym is)

  picked_by : (p : UnknownTokens → Bool) (b : Bool) → p one ≡ b → filter p (take (i + 1) xs) ≡ filter p (take i xs) ++ cond b (one ∷ []) []
  picked_by p b takes = ap (filter p) one_more ∙ filter-append p (take i xs) (one ∷ []) ∙ ap (λ c. filter p (take i xs) ++ cond c (one ∷ []) []) takes

  pub picked : (p : UnknownTokens → Bool) → p one ≡ true → filter p (take (i + 1) xs) ≡ filter p (take i xs) ++ one ∷ []
  picked p takes = picked_by p true takes

  pub left_out : (p : UnknownTokens → Bool) (before all : List ℕ) → p one ≡ false → all ≡ before ++ tokens_of (filter p (take i xs)) → all ≡ before ++ tokens_of (filter p (take (i + 1) xs))
  left_out p before all leaves so_far = so_far ∙ ap (λ l. before ++ tokens_of l) (sym (append-nil (filter p (take i xs))) ∙ sym (picked_by p false leaves))
