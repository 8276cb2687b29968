-- A membership is valid and within the limits just where its groups and its nodes are fit.
use Rattle.std.proofs.Common.{◌≡◌, ℕ, suc, ◌+◌, ◌<◌, Bool, true, false, cond, List, [], ◌∷◌, length, refl, ap, sym, ◌∙◌, arith}
use Rattle.std.specs.Prelude.{◌&&◌, ◌||◌, ◌==◌, not, nat_eq, count_by, if◌then◌else◌, Option, Some, None, is_none}
use Rattle.std.specs.declared.cmp.Ordering.TheVariants.{Less, Equal, Greater}
use Rattle.std.specs.Ordering.{nat_cmp, match_ordering}
use Rattle.std.specs.List.{list_all, fold}
use Rattle.std.specs.Cmp.Lexicographic.{pointwise, same_text}
use Rattle.std.proofs.Math.Bool.{and-false, and-true, and_assoc, or-false}
use Rattle.std.proofs.lemmas.Bool.{or_parts}
use Rattle.std.proofs.lemmas.Bool.Decides.{nat_tests}
use Rattle.std.proofs.lemmas.Cmp.{nat_cmp_total, nat_list_eq_equiv}
use Rattle.raft_quorums.specs.QuorumLaws.{and_left, count_more}
use Rattle.raft_membership.proofs.AddedLemmas.{with_ids-nobody}
use Rattle.raft_quorums.specs.Nodes.{has_id, has_node, with_ids}
use Rattle.raft_quorums.specs.Quorum.{last_config, last_of, next_configs}
use Rattle.raft_quorums.specs.Rising.{IsRising}
use Rattle.raft_membership.specs.Membership.{first_outside, has_empty_group, least_outside, lesser}
use Rattle.raft_membership.specs.Validity.{fault_of, validity_fault}
use Rattle.raft_group_step.specs.Limits.{are_few_groups, are_few_nodes, are_few_voters, is_short_address}
use Rattle.raft_group_step.specs.Refusal.{change_reasons, first_of_reasons, unless}
use Rattle.raft_group_step.specs.StepResult.{MembershipRefused, VoterChange}
use Rattle.raft_group_step.specs.Values.{Membership, configs_eq}
use Rattle.raft_conditions.specs.Fitting.{are_fit_groups, are_fit_nodes, is_fit_group, is_last_fit, is_there, reason_of_step}
use Rattle.raft_conditions.proofs.SizeLemmas.{all-with_ids, length-with_ids, with_ids-there}

-- ---- valid and within the limits

none-fault : (empty : Bool) (missing : Option ℕ) → is_none (fault_of empty missing) ≡ (not empty && is_none missing)
none-fault true missing = refl
none-fault false None = refl
none-fault false (Some id) = refl

none-lesser : (a b : Option ℕ) → is_none (lesser nat_cmp a b) ≡ (is_none a && is_none b)
none-lesser None b = refl
none-lesser (Some x) None = refl
none-lesser (Some x) (Some y) =
    elim (nat_cmp x y) as (λ o. is_none (match_ordering o (Some x) (Some x) (Some y)) ≡ false) [ Less ↦ refl | Equal ↦ refl | Greater ↦ refl ]

none-first : (known : ℕ → Bool) (group : List ℕ) → is_none (first_outside known group) ≡ list_all known group
none-first known [] = refl
none-first known (id ∷ ids) =
    elim (known id) as (λ b. is_none (cond (not b) (Some id) (first_outside known ids)) ≡ (b && list_all known ids)) [
      | true ↦ none-first known ids
      | false ↦ refl
    ]

none-least : (known : ℕ → Bool) (configs : List (List ℕ)) (least : Option ℕ)
    → is_none (fold (λ found group. lesser nat_cmp found (first_outside known group)) least configs) ≡ (is_none least && list_all (list_all known) configs)
none-least known [] least = sym (and-true (is_none least))
none-least known (group ∷ configs) least =
    none-least known configs (lesser nat_cmp least (first_outside known group))
    ∙ ap (λ b. b && list_all (list_all known) configs) (none-lesser least (first_outside known group) ∙ ap (λ b. is_none least && b) (none-first known group))
    ∙ and_assoc (is_none least) (list_all known group) (list_all (list_all known) configs)

none-empty : (configs : List (List ℕ)) → not (has_empty_group configs) ≡ list_all (λ (group : List ℕ). not (length group == 0)) configs
none-empty [] = refl
none-empty (group ∷ configs) =
    elim (length group == 0) as (λ b. not (b || has_empty_group configs) ≡ (not b && list_all (λ (g : List ℕ). not (length g == 0)) configs)) [
      | true ↦ refl
      | false ↦ none-empty configs
    ]

both : {X : Type 0} (p q : X → Bool) (xs : List X) → list_all (λ x. p x && q x) xs ≡ (list_all p xs && list_all q xs)
both p q [] = refl
both p q (x ∷ xs) = ap (λ b. (p x && q x) && b) (both p q xs) ∙ four (p x) (q x) (list_all p xs) (list_all q xs)
  where
    four : (a b c d : Bool) → ((a && b) && (c && d)) ≡ ((a && c) && (b && d))
    four true true c d = refl
    four true false true d = refl
    four true false false d = refl
    four false b c d = refl

in_order : (a b c d e f : Bool) → ((a && b) && (((c && d) && e) && f)) ≡ ((c && ((a && d) && b)) && (e && f))
in_order true true true d e f = ap (λ x. x && f) (refl_and d e) ∙ and_assoc (d && true) e f
  where
    refl_and : (x y : Bool) → (x && y) ≡ ((x && true) && y)
    refl_and true y = refl
    refl_and false y = refl
in_order true true false d e f = refl
in_order true false true true e f = refl
in_order true false true false e f = refl
in_order true false false d e f = refl
in_order false b true d e f = refl
in_order false b false d e f = refl

pub fits : (configs : List (List ℕ)) (nodes : List (ℕ × List ℕ))
    → (is_none (validity_fault nat_eq nat_cmp configs nodes)
    && (are_few_groups configs && list_all (λ (group : List ℕ). are_few_voters (length group)) configs
    && are_few_nodes (length nodes) && list_all (λ (x : ℕ × List ℕ). is_short_address x.1) nodes))
    ≡ (are_fit_groups (has_node nat_eq nodes) configs && are_fit_nodes nodes)
fits configs nodes =
    let known : ℕ → Bool = has_node nat_eq nodes in
    let few : Bool = are_few_groups configs in
    let some : Bool = list_all (λ (group : List ℕ). not (length group == 0)) configs in
    let short : Bool = list_all (λ (group : List ℕ). are_few_voters (length group)) configs in
    let all_known : Bool = list_all (list_all known) configs in
    let sized : Bool = are_few_nodes (length nodes) in
    let addressed : Bool = list_all (λ (x : ℕ × List ℕ). is_short_address x.1) nodes in
    let valid : is_none (validity_fault nat_eq nat_cmp configs nodes) ≡ (some && all_known) =
    none-fault (has_empty_group configs) (least_outside nat_cmp known configs)
    ∙ ap (λ b. b && is_none (least_outside nat_cmp known configs)) (none-empty configs)
    ∙ ap (λ b. some && b) (none-least known configs None) in
    let groups : list_all (is_fit_group known) configs ≡ ((some && short) && all_known) =
    both (λ (group : List ℕ). not (length group == 0) && are_few_voters (length group)) (list_all known) configs
    ∙ ap (λ b. b && all_known) (both (λ (group : List ℕ). not (length group == 0)) (λ (group : List ℕ). are_few_voters (length group)) configs) in
    ap (λ b. b && (few && short && sized && addressed)) valid
    ∙ in_order some all_known few short sized addressed
    ∙ ap (λ b. (few && b) && (sized && addressed)) (sym groups)

-- ---- one step to a voter group

not_nought : (n : ℕ) → (suc n == 0) ≡ false
not_nought n = grind (arith, nat_tests)

group_itself : (group : List ℕ) → pointwise nat_eq group group ≡ true
group_itself group = nat_list_eq_equiv.refl group

pub groups_themselves : (configs : List (List ℕ)) → pointwise (pointwise nat_eq) configs configs ≡ true
groups_themselves [] = refl
groups_themselves (group ∷ configs) = ap (λ b. b && pointwise (pointwise nat_eq) configs configs) (group_itself group) ∙ groups_themselves configs

module _ (goal : List ℕ) where
  -- the groups stay just where the goal is the only one
  pub stays : (configs : List (List ℕ)) → pointwise (pointwise nat_eq) configs (next_configs (pointwise nat_eq) configs goal) ≡ ((length configs == 1) && is_there goal configs)
  stays [] = refl
  stays (x ∷ []) =
      elim (pointwise nat_eq x goal) as (λ b. pointwise nat_eq x goal ≡ b → pointwise (pointwise nat_eq) (x ∷ []) (if (b || false) then goal ∷ [] else x ∷ goal ∷ []) ≡ (b || false)) [
        | true ↦ λ e. ap (λ b. b && true) e
        | false ↦ λ e. ap (λ b. b && false) (group_itself x)
      ] refl
  stays (x ∷ y ∷ zs) =
      let more : (length (x ∷ y ∷ zs) == 1) ≡ false = grind (arith, nat_tests) in
      elim (is_there goal (x ∷ y ∷ zs)) as (λ b. is_there goal (x ∷ y ∷ zs) ≡ b → pointwise (pointwise nat_eq) (x ∷ y ∷ zs) (if b then goal ∷ [] else last_of x (y ∷ zs) ∷ goal ∷ []) ≡ false) [
        | true ↦ λ e. and-false (pointwise nat_eq x goal)
        | false ↦ λ e. ap (λ b. pointwise nat_eq x (last_of x (y ∷ zs)) && b) (other zs y (or_parts (pointwise nat_eq x goal) (is_there goal (y ∷ zs)) e).1) ∙ and-false (pointwise nat_eq x (last_of x (y ∷ zs)))
      ] refl
      ∙ ap (λ b. b && is_there goal (x ∷ y ∷ zs)) (sym more)
    where
      other : (zs : List (List ℕ)) (y : List ℕ) → is_there goal (y ∷ zs) ≡ false → pointwise (pointwise nat_eq) (y ∷ zs) (goal ∷ []) ≡ false
      other zs y e = ap (λ b. b && pointwise (pointwise nat_eq) zs []) (or_parts (pointwise nat_eq y goal) (is_there goal zs) e).0

  module _ (known : ℕ → Bool) where
    last_of_some : (x : List ℕ) (xs : List (List ℕ)) → is_last_fit known (x ∷ xs) ≡ is_fit_group known (last_of x xs)
    last_of_some x xs = ap (λ b. b || is_fit_group known (last_of x xs)) (not_nought (length xs))

    -- where the goal is there it is alone, and else it stands beside the last one
    pub next_fit : (configs : List (List ℕ)) → are_fit_groups known (next_configs (pointwise nat_eq) configs goal) ≡ (is_fit_group known goal && (is_there goal configs || is_last_fit known configs))
    next_fit [] = refl
    next_fit (x ∷ xs) =
        elim (is_there goal (x ∷ xs)) as (λ b. are_fit_groups known (if b then goal ∷ [] else last_of x xs ∷ goal ∷ []) ≡ (is_fit_group known goal && (b || is_fit_group known (last_of x xs)))) [
          | true ↦ refl
          | false ↦ turn (is_fit_group known (last_of x xs)) (is_fit_group known goal)
        ]
        ∙ ap (λ b. is_fit_group known goal && (is_there goal (x ∷ xs) || b)) (sym (last_of_some x xs))
      where
        turn : (a b : Bool) → (a && (b && true)) ≡ (b && a)
        turn true true = refl
        turn true false = refl
        turn false true = refl
        turn false false = refl

-- ---- newcomers of the last group

absorbed : (a b c : Bool) → (a ≡ true → c ≡ true) → (a && (b || c)) ≡ a
absorbed true true c f = refl
absorbed true false c f = f refl
absorbed false b c f = refl

module _ (known : ℕ → Bool) (last ids : List ℕ) (rising : IsRising nat_cmp last) (more : IsRising nat_cmp ids) (some : (length last == 0) ≡ false) where
  -- the group with the newcomers is fit where the last one is, they are known, and there is room for who is new
  pub joined_fit : is_fit_group known (with_ids nat_cmp last ids)
      ≡ (is_fit_group known last && list_all known ids && are_few_voters (length last + count_by (λ id. not (has_id nat_eq last id)) ids))
  joined_fit =
      let size = length-with_ids ids last rising more in
      let n : ℕ = count_by (λ id. not (has_id nat_eq last id)) ids in
      let some_more : (length last + n == 0) ≡ false = grind (arith, nat_tests) in
      ap (λ m. not (m == 0) && are_few_voters m && list_all known (with_ids nat_cmp last ids)) size
      ∙ ap (λ b. not b && are_few_voters (length last + n) && list_all known (with_ids nat_cmp last ids)) some_more
      ∙ ap (λ b. are_few_voters (length last + n) && b) (all-with_ids known ids last)
      ∙ with_size (length last) n (list_all known last) (list_all known ids)
      ∙ ap (λ b. (not b && are_few_voters (length last) && list_all known last) && list_all known ids && are_few_voters (length last + n)) (sym some)
    where
      with_size : (m n : ℕ) (a b : Bool) → (are_few_voters (m + n) && (a && b)) ≡ (((are_few_voters m && a) && b) && are_few_voters (m + n))
      with_size m n true true = grind (arith, nat_tests)
      with_size m n true false = grind (arith, nat_tests)
      with_size m n false b = grind (arith, nat_tests)

  -- so the last group beside it is no matter
  pub joined_next : (configs : List (List ℕ)) → last_config configs ≡ last
      → are_fit_groups known (next_configs (pointwise nat_eq) configs (with_ids nat_cmp last ids)) ≡ is_fit_group known (with_ids nat_cmp last ids)
  joined_next configs e =
      next_fit (with_ids nat_cmp last ids) known configs
      ∙ absorbed (is_fit_group known (with_ids nat_cmp last ids)) (is_there (with_ids nat_cmp last ids) configs) (is_last_fit known configs)
      (λ fit. last_fits configs e (and_left (is_fit_group known last) (list_all known ids)
      (and_left (is_fit_group known last && list_all known ids) (are_few_voters (length last + count_by (λ id. not (has_id nat_eq last id)) ids)) (sym joined_fit ∙ fit))))
    where
      last_fits : (configs : List (List ℕ)) → last_config configs ≡ last → is_fit_group known last ≡ true → is_last_fit known configs ≡ true
      last_fits [] e fit = refl
      last_fits (x ∷ xs) e fit = last_of_some (with_ids nat_cmp last ids) known x xs ∙ ap (is_fit_group known) e ∙ fit

-- where none is new, all are there
count_zero : (last xs : List ℕ) → count_by (λ id. not (has_id nat_eq last id)) xs ≡ 0 → list_all (has_id nat_eq last) xs ≡ true
count_zero last [] h = refl
count_zero last (y ∷ ys) h = by_test (has_id nat_eq last y) refl (sym (count_more (λ id. not (has_id nat_eq last id)) y ys) ∙ h) (λ k. count_zero last ys k)
  where
    by_test : (b : Bool) → has_id nat_eq last y ≡ b → cond (not b) 1 0 + count_by (λ id. not (has_id nat_eq last id)) ys ≡ 0
        → (count_by (λ id. not (has_id nat_eq last id)) ys ≡ 0 → list_all (has_id nat_eq last) ys ≡ true) → (has_id nat_eq last y && list_all (has_id nat_eq last) ys) ≡ true
    by_test true f k rest = ap (λ b. b && list_all (has_id nat_eq last) ys) f ∙ rest (omega arith)
    by_test false f k rest = absurd (omega arith)

-- the only group stays just where all newcomers are in it already
pub joined_stays : (configs : List (List ℕ)) (last ids : List ℕ) → IsRising nat_cmp last → IsRising nat_cmp ids → last_config configs ≡ last
    → ((length configs == 1) && is_there (with_ids nat_cmp last ids) configs) ≡ ((length configs == 1) && list_all (has_id nat_eq last) ids)
joined_stays [] last ids rising more e = refl
joined_stays (x ∷ []) last ids rising more e =
    let same : x ≡ last = e in
    ap (λ b. b || false) (ap (λ l. pointwise nat_eq l (with_ids nat_cmp last ids)) same ∙ alike) ∙ or-false (list_all (has_id nat_eq last) ids)
  where
    alike : pointwise nat_eq last (with_ids nat_cmp last ids) ≡ list_all (has_id nat_eq last) ids
    alike =
        elim (list_all (has_id nat_eq last) ids) as (λ b. list_all (has_id nat_eq last) ids ≡ b → pointwise nat_eq last (with_ids nat_cmp last ids) ≡ b) [
          | true ↦ λ f. ap (pointwise nat_eq last) (with_ids-there ids last rising f) ∙ group_itself last
          | false ↦ λ f. others (pointwise nat_eq last (with_ids nat_cmp last ids)) refl f
        ] refl
      where
        others : (b : Bool) → b ≡ pointwise nat_eq last (with_ids nat_cmp last ids) → list_all (has_id nat_eq last) ids ≡ false → b ≡ false
        others false g f = refl
        others true g f =
            let equal : last ≡ with_ids nat_cmp last ids = same_text last (with_ids nat_cmp last ids) g in
            let size = length-with_ids ids last rising more in
            let same_size : length last ≡ length (with_ids nat_cmp last ids) = ap length equal in
            let none : count_by (λ id. not (has_id nat_eq last id)) ids ≡ 0 = omega arith in
            cc (count_zero last ids none, f)
joined_stays (x ∷ y ∷ zs) last ids rising more e =
    let many : (length (x ∷ y ∷ zs) == 1) ≡ false = grind (arith, nat_tests) in
    ap (λ b. b && is_there (with_ids nat_cmp last ids) (x ∷ y ∷ zs)) many ∙ ap (λ b. b && list_all (has_id nat_eq last) ids) (sym many)

-- ---- a membership that is told by its parts

-- where nobody is in the last group, the newcomers are the goal
pub nobody_joined : (configs : List (List ℕ)) (ids : List ℕ) → (length (last_config configs) == 0) ≡ true → IsRising nat_cmp ids → with_ids nat_cmp (last_config configs) ids ≡ ids
nobody_joined configs ids e h = with_ids-nobody nat_cmp_total (last_config configs) ids e h

pub told : (old new : Membership) (known : ℕ → Bool) (fit : Bool) → ((k : ℕ) → known k ≡ has_node nat_eq new.nodes k) → fit ≡ are_fit_nodes new.nodes
    → reason_of_step known old.configs new.configs fit ≡ first_of_reasons (change_reasons old new)
told old new known fit same e =
    ap (λ (t : ℕ → Bool). reason_of_step t old.configs new.configs fit) (λ i k. same k i)
    ∙ ap (reason_of_step (has_node nat_eq new.nodes) old.configs new.configs) e
    ∙ ap (λ b. first_of_reasons (unless b MembershipRefused ∷ unless (configs_eq old.configs new.configs) VoterChange ∷ [])) (sym (fits new.configs new.nodes))

pub some_group : (groups : List (List ℕ)) → (length groups == 0) ≡ false → 0 < length groups
some_group [] h = cc h
some_group (group ∷ groups) h = omega arith
