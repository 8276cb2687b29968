-- Tokens that were named in the order of their groups are those of each group.
use Rattle.std.proofs.Common.{◌≡◌, ◌≢◌, ◌<◌, ◌==◌, ℕ, ◌++◌, if◌then◌else◌, List, [], ◌∷◌, refl, sym, ap, subst, ◌∙◌, true, false, append_assoc, arith, option_map}
use Rattle.std.proofs.lemmas.Bool.{eq-eqb, ne_eqb}
use Rattle.std.proofs.lemmas.Cmp.{ranked}
use Rattle.std.proofs.lemmas.List.{append-nil, map-append}
use Rattle.std.specs.BTreeMap.{is_at}
use Rattle.std.specs.List.{AllByRecursion}
use Rattle.std.specs.List.Sorted.{IsStrictlySortedBy}
use Rattle.std.specs.Map.{keys_of, lookup}
use Rattle.std.specs.Ordering.{nat_cmp, is_eq}
use Rattle.std.specs.declared.cmp.Ordering.{Ordering}
use Rattle.std.specs.declared.cmp.Ordering.TheVariants.{Less, Equal, Greater}
use Rattle.raft_applier.specs.declared.applier.Applier.{Applier}
use Rattle.raft_machines.specs.Telling.{untold_of}
use Rattle.raft_node.specs.Running.{running_of}
use Rattle.raft_group_step.specs.GroupState.{Untold}
use Rattle.raft_machines.specs.declared.telling.Untold.{Untold as AnUntold}
use Rattle.raft_machines.specs.declared.telling.UnknownTokens.{UnknownTokens}
use Rattle.raft_node.specs.Waiting.{Tokens, named_in, named_of, of_group, one_more, waiting_in, waiting_of}

module _ {M : Type 0} (state : M → List ℕ) where
  -- the group's tokens are those that wait for it
  abbrev At : ℕ → List (ℕ × Applier M) → Type 0
  At group es = of_group (waiting_in es) group ≡ waiting_of (option_map (running_of state) (lookup (is_at (nat_cmp group)) es))

  -- greater groups are other ones
  none_above : (es : List (ℕ × Applier M)) (group : ℕ) → AllByRecursion (λ y. nat_cmp group y ≡ Less) (keys_of es) → of_group (waiting_in es) group ≡ []
  none_above [] group above = refl
  none_above (e ∷ es) group above =
      let apart : e.0 ≢ group = λ same. let less : group < e.0 = ranked group e.0 Less (sym above.0) in omega arith in
      rw (ne_eqb e.0 group apart) (none_above es group above.1)

  pub by_group : (es : List (ℕ × Applier M)) (group : ℕ) → IsStrictlySortedBy nat_cmp (keys_of es) → At group es
  unfolding IsStrictlySortedBy
  by_group [] group sorted = refl
  by_group (e ∷ es) group sorted = by_order (by_group es group sorted.1) (nat_cmp group e.0) refl
    where
      apart_from : At group es → (e.0 ≢ group) → is_eq (nat_cmp group e.0) ≡ false → At group (e ∷ es)
      apart_from rest apart other = rw (ne_eqb e.0 group apart, other) rest

      by_order : At group es → (o : Ordering) → o ≡ nat_cmp group e.0 → At group (e ∷ es)
      by_order rest Less is = apart_from rest (λ same. let less : group < e.0 = ranked group e.0 Less is in omega arith) (ap is_eq (sym is))
      by_order rest Equal is =
          let same : group ≡ e.0 = ranked group e.0 Equal is in
          let none : of_group (waiting_in es) group ≡ [] = none_above es group (subst (λ n. AllByRecursion (λ y. nat_cmp n y ≡ Less) (keys_of es)) (sym same) sorted.0) in
          let here : (e.0 == group) ≡ true = eq-eqb e.0 group (sym same) in
          let at : is_eq (nat_cmp group e.0) ≡ true = ap is_eq (sym is) in
          rw (here, at, none) (append-nil (untold_of e.1.applied.waiting))
      by_order rest Greater is = apart_from rest (λ same. let more : e.0 < group = ranked group e.0 Greater is in omega arith) (ap is_eq (sym is))

-- tokens behind others
pub of_group-append : (xs ys : List Tokens) (group : ℕ) → of_group (xs ++ ys) group ≡ of_group xs group ++ of_group ys group
of_group-append [] ys group = refl
of_group-append (x ∷ xs) ys group =
    elim (x.0 == group) as (λ b. (if b then x.1 ++ of_group (xs ++ ys) group else of_group (xs ++ ys) group) ≡ (if b then x.1 ++ of_group xs group else of_group xs group) ++ of_group ys group) [
      | true ↦ ap (λ l. x.1 ++ l) (of_group-append xs ys group) ∙ sym (append_assoc x.1 (of_group xs group) (of_group ys group))
      | false ↦ of_group-append xs ys group
    ]

-- one token more of a group
last_named : (tokens : List Untold) (token : AnUntold) (place group other : ℕ) → place ≡ group → tokens ≡ untold_of (token ∷ []) → of_group ((place, tokens) ∷ []) other ≡ one_more other group token
last_named tokens token place group other same is =
    ap (λ ts. of_group ((place, ts) ∷ []) other) is
    ∙ ap (λ n. of_group ((n, untold_of (token ∷ [])) ∷ []) other) same
    ∙ elim (group == other) as (λ b. (if b then untold_of (token ∷ []) ++ [] else []) ≡ (if b then untold_of (token ∷ []) else [])) [ true ↦ refl | false ↦ refl ]

pub one_named : (xs : List UnknownTokens) (x : UnknownTokens) (token : AnUntold) (group other : ℕ) → x.group ≡ group → x.tokens.items ≡ token ∷ [] → named_of (xs ++ x ∷ []) other ≡ named_of xs other ++ one_more other group token
one_named xs x token group other same is =
    ap (λ ts. of_group ts other) (map-append (λ (y : UnknownTokens). (y.group, untold_of y.tokens.items)) xs (x ∷ []))
    ∙ of_group-append (named_in xs) (named_in (x ∷ [])) other
    ∙ ap (λ ts. named_of xs other ++ ts) (last_named (untold_of x.tokens.items) token x.group group other same (ap untold_of is))
