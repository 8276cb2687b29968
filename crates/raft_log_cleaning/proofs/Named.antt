-- Groups that are named, one after the other.
use Rattle.std.proofs.Common.{◌≡◌, ◌⊎◌, inl, inr, ℕ, Bool, true, false, cond, eqb, List, [], ◌∷◌, ◌++◌, Some, refl, sym, ap, subst, ◌∙◌}
use Rattle.std.specs.Prelude.{◌||◌, if◌then◌else◌, is_some, nat_eq}
use Rattle.std.specs.BTreeMap.{BTreeMap, get, is_at}
use Rattle.std.specs.Map.{lookup}
use Rattle.std.specs.Ordering.{eq_by_cmp, nat_cmp}
use Rattle.std.proofs.lemmas.Bool.{false≢true}
use Rattle.std.proofs.lemmas.Bool.Decides.{eqb_tells}
use Rattle.raft_log_memtables.specs.MemTables.{content_in}
use Rattle.raft_log_traced.specs.declared.traced.TracedTables.{TracedTables}
use Rattle.raft_log_cleaner.specs.Told.{is_among}
use Rattle.raft_log_cleaner.proofs.Judged.{alike, among_more, apart}
use Rattle.raft_log_cleaning.specs.Told.{AreMany, IsToldOfMany, is_named}

abbrev Tells : ℕ → ℕ → Type 0
Tells x y = ((eqb x y ≡ true) × (x ≡ y)) ⊎ ((eqb x y ≡ false) × (x ≡ y → ⊥))

pub same_number : (x : ℕ) → nat_eq x x ≡ true
same_number x = by_test (eqb_tells x x)
  where
    by_test : Tells x x → nat_eq x x ≡ true
    by_test (inl same) = same.0
    by_test (inr other) = absurd (other.1 refl)

or_true : (b : Bool) → (b || true) ≡ true
or_true true = refl
or_true false = refl

pub or_false : (b : Bool) → (b || false) ≡ b
or_false true = refl
or_false false = refl

-- none is named by nothing
pub none_named : (named : BTreeMap ℕ Bool) (group : ℕ) → named.entries ≡ [] → is_named named group ≡ false
none_named named group empty = ap (λ (es : List (ℕ × Bool)). is_some (lookup (is_at (nat_cmp group)) es)) empty

same_test : (x y : ℕ) → eq_by_cmp nat_cmp x y ≡ nat_eq x y
same_test x y = by_test (eqb_tells x y)
  where
    by_test : Tells x y → eq_by_cmp nat_cmp x y ≡ nat_eq x y
    by_test (inl same) = subst (λ (z : ℕ). eq_by_cmp nat_cmp x z ≡ true) same.1 (alike x) ∙ sym same.0
    by_test (inr other) = apart x y other.1 ∙ sym other.0

-- a map with one more key
pub name_more : (named now : BTreeMap ℕ Bool) (group : ℕ) → ((other : ℕ) → get nat_cmp now other ≡ cond (is_at (nat_cmp group) other) (Some true) (get nat_cmp named other))
    → (other : ℕ) → is_named now other ≡ (if nat_eq group other then true else is_named named other)
name_more named now group updates other =
    ap is_some (updates other) ∙ by_test (eq_by_cmp nat_cmp group other) ∙ ap (λ (b : Bool). if b then true else is_named named other) (same_test group other)
  where
    by_test : (b : Bool) → is_some (cond b (Some true) (get nat_cmp named other)) ≡ (if b then true else is_named named other)
    by_test true = refl
    by_test false = refl

-- one more group
among_last : (done : List ℕ) (x : ℕ) → is_among (done ++ x ∷ []) x ≡ true
among_last done x = among_more done x x ∙ ap (λ (b : Bool). is_among done x || (b || false)) (alike x) ∙ or_true (is_among done x)

among_beside : (done : List ℕ) (x group : ℕ) → (x ≡ group → ⊥) → is_among (done ++ x ∷ []) group ≡ is_among done group
among_beside done x group other =
    among_more done x group ∙ ap (λ (b : Bool). is_among done group || (b || false)) (apart group x (λ same. other (sym same))) ∙ or_false (is_among done group)

-- names of before, and a list
pub named_more : (before now : ℕ → Bool) (named : ℕ → Bool) (done : List ℕ) (x : ℕ) → ((group : ℕ) → named group ≡ (before group || is_among done group)) → ((group : ℕ) → now group ≡ (if nat_eq x group then true else named group))
    → (group : ℕ) → now group ≡ (before group || is_among (done ++ x ∷ []) group)
named_more before now named done x so_far one group = by_test (eqb_tells x group)
  where
    by_test : Tells x group → now group ≡ (before group || is_among (done ++ x ∷ []) group)
    by_test (inl same) =
        one group ∙ ap (λ (b : Bool). if b then true else named group) same.0
        ∙ sym (ap (λ (b : Bool). before group || b) (ap (λ (y : ℕ). is_among (done ++ x ∷ []) y) (sym same.1) ∙ among_last done x) ∙ or_true (before group))
    by_test (inr other) =
        one group ∙ ap (λ (b : Bool). if b then true else named group) other.0 ∙ so_far group
        ∙ ap (λ (b : Bool). before group || b) (sym (among_beside done x group other.1))

-- ---- groups that are judged

module _ (log : TracedTables) where
  abbrev Judges : ℕ → Bool → Type 0
  Judges group told = IsToldOfMany (content_in log.tables group) told

  pub record AreJudged (done : List ℕ) (told : ℕ → Bool) : Type 0 where
    pub named : (group : ℕ) → told group ≡ true → is_among done group ≡ true
    pub judged : (group : ℕ) → is_among done group ≡ true → Judges group (told group)

  not_yet : (b among : Bool) → among ≡ false → (b ≡ true → among ≡ true) → b ≡ false
  not_yet true among away named = absurd (false≢true (sym away ∙ named refl))
  not_yet false among away named = refl

  pub judged_more : (done more : List ℕ) (x : ℕ) (told now : ℕ → Bool) → more ≡ done ++ x ∷ [] → is_among done x ≡ false → AreJudged done told → ((other : ℕ) → nat_eq x other ≡ false → now other ≡ told other)
      → (told x ≡ false → Judges x (now x)) → AreJudged more now
  judged_more done more x told now all away had others own = subst (λ (l : List ℕ). AreJudged l now) (sym all) (record {
    named = λ group is. named_by group (eqb_tells x group) is;
    judged = λ group among. judged_by group (eqb_tells x group) among;
  })
    where
      named_by : (group : ℕ) → Tells x group → now group ≡ true → is_among (done ++ x ∷ []) group ≡ true
      named_by group (inl same) is = subst (λ (y : ℕ). is_among (done ++ x ∷ []) y ≡ true) same.1 (among_last done x)
      named_by group (inr other) is = among_beside done x group other.1 ∙ had.named group (sym (others group other.0) ∙ is)

      judged_by : (group : ℕ) → Tells x group → is_among (done ++ x ∷ []) group ≡ true → Judges group (now group)
      judged_by group (inl same) among = subst (λ (y : ℕ). Judges y (now y)) same.1 (own (not_yet (told x) (is_among done x) away (had.named x)))
      judged_by group (inr other) among = subst (Judges group) (sym (others group other.0)) (had.judged group (sym (among_beside done x group other.1) ∙ among))

  pub all_judged : (groups : List ℕ) (told : ℕ → Bool) → ((group : ℕ) → (content_in log.tables group).there ≡ is_among groups group) → AreJudged groups told → AreMany log told
  all_judged groups told exactly had = record {
    there = λ group is. exactly group ∙ had.named group is;
    judged = λ group there. had.judged group (sym (exactly group) ∙ there);
  }
