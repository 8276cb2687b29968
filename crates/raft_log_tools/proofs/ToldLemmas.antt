-- What is told of groups: as a list that rises, and as look-ups.
use Rattle.std.proofs.Common.{◌≡◌, inl, inr, ℕ, zero, suc, ◌+◌, Bool, true, false, List, [], ◌∷◌, drop, Option, Some, None, refl, sym, ap, subst, ◌∙◌, arith}
use Rattle.std.specs.Prelude.{if◌then◌else◌, nat_eq, Result, Ok, Err, IfOk, Vec}
use Rattle.std.specs.declared.alloc.AllocError.{AllocError}
use Rattle.std.specs.declared.alloc.Global.{Global}
use Rattle.std.specs.BTreeMap.{is_at}
use Rattle.std.specs.List.Sorted.{IsStrictlySortedBy}
use Rattle.std.specs.Map.{keys_of, lookup}
use Rattle.std.specs.Option.{option_or}
use Rattle.std.specs.Cmp.{eq_by_cmp_equiv}
use Rattle.std.specs.Ordering.{is_eq, nat_cmp}
use Rattle.std.proofs.lemmas.Bool.{eq-eqb, eqb-true}
use Rattle.std.proofs.lemmas.Cmp.{nat_cmp_total}
use Rattle.std.proofs.lemmas.Map.{lookup-none}
use Rattle.std.proofs.lemmas.Map.Entries.{lookup_head, lookup_tail, none_past_head}
use Rattle.std.proofs.lemmas.Map.Keys.{IsDistinct-from_sorted, sorted_tail}
use Rattle.raft_log_tools.specs.Checking.{AreTold}
use Rattle.raft_log_disk.specs.Disk.{IsIn}

-- what a list tells of a group
abbrev pub told_in : ℕ → List (ℕ × ℕ) → Option ℕ
told_in group holes = lookup (is_at (nat_cmp group)) holes

abbrev pub IsRising : List (ℕ × ℕ) → Type 0
IsRising holes = IsStrictlySortedBy nat_cmp (keys_of holes)

same_key : (a b : ℕ) → is_eq (nat_cmp a b) ≡ nat_eq b a
same_key a b = grind arith

-- a group that stands first stands nowhere behind
once : (group : ℕ) (hole : ℕ × ℕ) (rest : List (ℕ × ℕ)) → IsRising (hole ∷ rest) → is_eq (nat_cmp group hole.0) ≡ true → told_in group rest ≡ None
once group hole rest rising here =
    lookup-none (is_at (nat_cmp group)) rest (none_past_head (eq_by_cmp_equiv nat_cmp_total) group hole rest (IsDistinct-from_sorted nat_cmp (keys_of (hole ∷ rest)) rising) here)

-- ---- a list is put in the place of what was told

-- one group more
pub put_more : (group : ℕ) (hole : ℕ × ℕ) (rest : List (ℕ × ℕ)) (before new : ℕ → Option ℕ) → IsRising (hole ∷ rest)
    → new group ≡ (if nat_eq hole.0 group then Some hole.1 else before group) → option_or (told_in group rest) (new group) ≡ option_or (told_in group (hole ∷ rest)) (before group)
put_more group hole rest before new rising is = by_key (nat_eq hole.0 group) refl
  where
    by_key : (b : Bool) → nat_eq hole.0 group ≡ b → option_or (told_in group rest) (new group) ≡ option_or (told_in group (hole ∷ rest)) (before group)
    by_key true key =
        let here : is_eq (nat_cmp group hole.0) ≡ true = same_key group hole.0 ∙ key in
        ap (λ (o : Option ℕ). option_or o (new group)) (once group hole rest rising here) ∙ is
        ∙ ap (λ (b : Bool). if b then Some hole.1 else before group) key
        ∙ sym (ap (λ (o : Option ℕ). option_or o (before group)) (lookup_head (is_at (nat_cmp group)) hole rest here))
    by_key false key =
        ap (option_or (told_in group rest)) (is ∙ ap (λ (b : Bool). if b then Some hole.1 else before group) key)
        ∙ sym (ap (λ (o : Option ℕ). option_or o (before group)) (lookup_tail (is_at (nat_cmp group)) hole rest (same_key group hole.0 ∙ key)))

pub rising_behind : (holes : List (ℕ × ℕ)) (i : ℕ) → IsRising holes → IsRising (drop i holes)
rising_behind [] zero rising = rising
rising_behind [] (suc i) rising = rising
rising_behind (hole ∷ holes) zero rising = rising
rising_behind (hole ∷ holes) (suc i) rising = rising_behind holes i (sorted_tail nat_cmp hole.0 (keys_of holes) rising)

-- the same in a list that is gone through
pub put_step : (group : ℕ) (holes : List (ℕ × ℕ)) (i : ℕ) (hole : ℕ × ℕ) (before new : ℕ → Option ℕ) → drop i holes ≡ hole ∷ drop (i + 1) holes → IsRising holes
    → new group ≡ (if nat_eq hole.0 group then Some hole.1 else before group) → option_or (told_in group (drop (i + 1) holes)) (new group) ≡ option_or (told_in group (drop i holes)) (before group)
put_step group holes i hole before new step rising is =
    put_more group hole (drop (i + 1) holes) before new (subst IsRising step (rising_behind holes i rising)) is
    ∙ ap (λ (l : List (ℕ × ℕ)). option_or (told_in group l) (before group)) (sym step)

-- ---- a rising list tells what it has

in_told : (group index : ℕ) (holes : List (ℕ × ℕ)) → IsRising holes → IsIn (group, index) holes → told_in group holes ≡ Some index
in_told group index [] rising there = absurd there
in_told group index (hole ∷ holes) rising (inl is) =
    lookup_head (is_at (nat_cmp group)) hole holes (same_key group hole.0 ∙ eq-eqb hole.0 group (sym (ap (λ (p : ℕ × ℕ). p.0) is))) ∙ ap (λ (p : ℕ × ℕ). Some p.1) (sym is)
in_told group index (hole ∷ holes) rising (inr there) =
    behind (is_eq (nat_cmp group hole.0)) refl (in_told group index holes (sorted_tail nat_cmp hole.0 (keys_of holes) rising) there)
  where
    behind : (b : Bool) → is_eq (nat_cmp group hole.0) ≡ b → told_in group holes ≡ Some index → told_in group (hole ∷ holes) ≡ Some index
    behind true key is = let none : None ≡ Some index = sym (once group hole holes rising key) ∙ is in absurd cc
    behind false key is = lookup_tail (is_at (nat_cmp group)) hole holes key ∙ is

there_by : (group index : ℕ) (hole : ℕ × ℕ) (holes : List (ℕ × ℕ)) → told_in group (hole ∷ holes) ≡ Some index → (told_in group holes ≡ Some index → IsIn (group, index) holes) → (b : Bool) → is_eq (nat_cmp group hole.0) ≡ b
    → IsIn (group, index) (hole ∷ holes)
there_by group index hole holes is others true key =
    let same : hole.0 ≡ group = eqb-true hole.0 group (sym (same_key group hole.0) ∙ key) in
    let said : Some hole.1 ≡ Some index = sym (lookup_head (is_at (nat_cmp group)) hole holes key) ∙ is in
    let index_is : hole.1 ≡ index = cc in
    inl (λ i. (sym same i, sym index_is i))
there_by group index hole holes is others false key = inr (others (sym (lookup_tail (is_at (nat_cmp group)) hole holes key) ∙ is))

told_there : (group index : ℕ) (holes : List (ℕ × ℕ)) → told_in group holes ≡ Some index → IsIn (group, index) holes
told_there group index [] is = absurd cc
told_there group index (hole ∷ holes) is = there_by group index hole holes is (told_there group index holes) (is_eq (nat_cmp group hole.0)) refl

pub tells : (holes : List (ℕ × ℕ)) → IsRising holes → AreTold (λ group. told_in group holes) holes
tells holes rising = record { rising = rising; exactly = λ group index. (in_told group index holes rising, told_there group index holes) }

-- ---- what is told is what a look-up finds

one_answer : (a b : Option ℕ) → ((x : ℕ) → a ≡ Some x → b ≡ Some x) → ((x : ℕ) → b ≡ Some x → a ≡ Some x) → a ≡ b
one_answer None None there back = refl
one_answer None (Some x) there back = back x refl
one_answer (Some x) b there back = sym (there x refl)

pub told_is : (told : ℕ → Option ℕ) (holes : List (ℕ × ℕ)) (group : ℕ) → AreTold told holes → told_in group holes ≡ told group
told_is told holes group are = one_answer (told_in group holes) (told group)
    (λ index is. (are.exactly group index).0 (told_there group index holes is))
    (λ index is. in_told group index holes are.rising ((are.exactly group index).1 is))

-- the same is told by any that tell the same of each group
pub told_alike : (told other : ℕ → Option ℕ) (holes : List (ℕ × ℕ)) → ((group : ℕ) → told group ≡ other group) → AreTold told holes → AreTold other holes
told_alike told other holes same are = record {
  rising = are.rising;
  exactly = λ group index. (λ there. sym (same group) ∙ (are.exactly group index).0 there, λ is. (are.exactly group index).1 (same group ∙ is));
}

none_else : (o : Option ℕ) → option_or o None ≡ o
none_else None = refl
none_else (Some x) = refl

-- two lists are put, the second one first
pub told_of_both : (r : Result (Vec (ℕ × ℕ) Global) AllocError) (begin middle end : ℕ → Option ℕ) (first second : List (ℕ × ℕ)) → ((group : ℕ) → begin group ≡ None)
    → ((of : ℕ → Option ℕ) → AreTold of second → (group : ℕ) → middle group ≡ option_or (of group) (begin group)) → ((of : ℕ → Option ℕ) → AreTold of first → (group : ℕ) → end group ≡ option_or (of group) (middle group))
    → IfOk r (λ holes. AreTold end holes.items)
    → IfOk r (λ holes. (by_first by_second : ℕ → Option ℕ) → AreTold by_first first → AreTold by_second second → AreTold (λ group. option_or (by_first group) (by_second group)) holes.items)
told_of_both (Err e) begin middle end first second nothing one two all = tt
told_of_both (Ok holes) begin middle end first second nothing one two all = λ by_first by_second are others.
    told_alike end (λ group. option_or (by_first group) (by_second group)) holes.items
    (λ group. two by_first are group ∙ ap (option_or (by_first group)) (one by_second others group ∙ ap (option_or (by_second group)) (nothing group) ∙ none_else (by_second group))) all
