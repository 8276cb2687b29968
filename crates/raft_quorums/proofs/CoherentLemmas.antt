-- The step towards a goal, read off the list of configs.
use Rattle.std.proofs.Common.{◌≡◌, ◌-◌, ◌<◌, Bool, true, false, List, [], ◌∷◌, length, get_or, refl, ap, ◌∙◌, arith}
use Rattle.std.specs.Prelude.{if◌then◌else◌}
use Rattle.std.specs.List.{list_any}
use Rattle.raft_quorums.specs.Quorum.{last_config, last_of, next_configs}

pub get_or-last : {Q : Type 0} (x : Q) (xs : List Q) (d : Q) → get_or (x ∷ xs) (length xs) d ≡ last_of x xs
get_or-last x [] d = refl
get_or-last x (y ∷ ys) d = get_or-last y ys d

module _ {Q : Type 0} (eq : Q → Q → Bool) (goal : Q) where
  pub step_alone : (configs : List Q) → 0 < length configs → true ≡ list_any (λ config. eq config goal) configs → goal ∷ [] ≡ next_configs eq configs goal
  step_alone [] h e = absurd (omega arith)
  step_alone (x ∷ xs) h e = ap (λ b. if b then goal ∷ [] else last_of x xs ∷ goal ∷ []) e

  pub step_joint : (configs : List Q) (last d : Q) → 0 < length configs → last ≡ get_or configs (length configs - 1) d → false ≡ list_any (λ config. eq config goal) configs → last ∷ goal ∷ [] ≡ next_configs eq configs goal
  step_joint [] last d h f e = absurd (omega arith)
  step_joint (x ∷ xs) last d h f e =
      let place : length (x ∷ xs) - 1 ≡ length xs = omega arith in
      ap (λ y. y ∷ goal ∷ []) (f ∙ ap (λ n. get_or (x ∷ xs) n d) place ∙ get_or-last x xs d)
      ∙ ap (λ b. if b then goal ∷ [] else last_of x xs ∷ goal ∷ []) e

pub last_config-is : {K : Type 0} (configs : List (List K)) (groups : List (List K)) (r d : List K) → 0 < length configs → groups ≡ configs → r ≡ get_or groups (length groups - 1) d → r ≡ last_config configs
last_config-is [] groups r d h same e = absurd (omega arith)
last_config-is (x ∷ xs) groups r d h same e =
    let place : length (x ∷ xs) - 1 ≡ length xs = omega arith in
    e ∙ ap (λ l. get_or l (length l - 1) d) same ∙ ap (λ n. get_or (x ∷ xs) n d) place ∙ get_or-last x xs d
