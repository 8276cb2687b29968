-- Groups that are judged, one after the other.
use Rattle.std.proofs.Common.{◌≡◌, ◌⊎◌, inl, inr, ℕ, ◌+◌, ◌<◌, suc, Bool, true, false, cond, eqb, get_or, Ordering, List, [], ◌∷◌, ◌++◌, length, refl, sym, ap, subst, ◌∙◌, arith}
use Rattle.std.specs.Prelude.{◌↔◌, ◌&&◌, ◌||◌, IsTrue, if◌then◌else◌, nat_eq, take}
use Rattle.std.specs.List.{filter, list_any}
use Rattle.std.specs.List.Sorted.{IsStrictlySortedBy}
use Rattle.std.specs.Ordering.{MatchOrdering, eq_by_cmp, is_eq, nat_cmp}
use Rattle.std.specs.declared.cmp.Ordering.TheVariants.{Equal, Greater, Less}
use Rattle.std.proofs.lemmas.Bool.{false≢true}
use Rattle.std.proofs.lemmas.Bool.Decides.{eqb_tells}
use Rattle.std.proofs.lemmas.Cmp.{eq_by_cmp_equiv, nat_cmp_total, ranked}
use Rattle.std.proofs.lemmas.List.{append-nil, get_or-take, length-take-le}
use Rattle.std.proofs.lemmas.List.Elements.{filter-append}
use Rattle.std.proofs.lemmas.List.Folds.{list_any-append}
use Rattle.std.proofs.lemmas.List.Kept.{IsStrictlySortedBy-filter}
use Rattle.std.proofs.lemmas.Map.Keys.{below_from_sorted}
use Rattle.std.proofs.lemmas.Map.Made.{is_member-filter}
use Rattle.raft_log_memtables.specs.MemTables.{content_in}
use Rattle.raft_log_purge.specs.declared.choice.Choice.{Choice}
use Rattle.raft_log_purge.specs.declared.reports.Reports.{Reports}
use Rattle.raft_log_purge.specs.declared.watermarks.Watermarks.{Watermarks}
use Rattle.raft_log_purge.specs.Choice.{IsLeft}
use Rattle.raft_log_purge.specs.Reports.{count_in}
use Rattle.raft_log_traced.specs.declared.traced.TracedTables.{TracedTables}
use Rattle.raft_log_traces.specs.GroupTraces.{traces_in}
use Rattle.raft_log_cleaner.specs.Told.{AreTold, IsChosen, IsJudged, is_among}

-- ---- groups among others

pub apart : (x y : ℕ) → (x ≡ y → ⊥) → eq_by_cmp nat_cmp x y ≡ false
apart x y differ = by_order (nat_cmp x y) (ranked x y (nat_cmp x y) refl)
  where
    by_order : (o : Ordering) → MatchOrdering o (x < y) (x ≡ y) (y < x) → is_eq o ≡ false
    by_order Less h = refl
    by_order Equal h = absurd (differ h)
    by_order Greater h = refl

pub alike : (x : ℕ) → eq_by_cmp nat_cmp x x ≡ true
alike x = by_order (nat_cmp x x) (ranked x x (nat_cmp x x) refl)
  where
    by_order : (o : Ordering) → MatchOrdering o (x < x) (x ≡ x) (x < x) → is_eq o ≡ true
    by_order Less h = absurd (omega arith)
    by_order Equal h = refl
    by_order Greater h = absurd (omega arith)

pub tells : (x y : ℕ) → eq_by_cmp nat_cmp x y ≡ true → x ≡ y
tells x y same = by_test (eqb_tells x y)
  where
    by_test : ((eqb x y ≡ true) × (x ≡ y)) ⊎ ((eqb x y ≡ false) × (x ≡ y → ⊥)) → x ≡ y
    by_test (inl equal) = equal.1
    by_test (inr differ) = absurd (false≢true (sym (apart x y differ.1) ∙ same))

-- one that is above all of them isn't among them
above_all : (x : ℕ) (ys : List ℕ) → ((j : ℕ) → j < length ys → get_or ys j 0 < x) → is_among ys x ≡ false
above_all x [] low = refl
above_all x (y ∷ ys) low =
    let head : y < x = low 0 (omega arith) in
    ap (λ (b : Bool). b || is_among ys x) (apart x y (λ same. omega arith))
    ∙ above_all x ys (λ j within. low (suc j) (omega arith))

-- what follows in a rising list isn't among what was before
pub next_apart : (groups : List ℕ) (i : ℕ) → IsStrictlySortedBy nat_cmp groups → i < length groups → is_among (take i groups) (get_or groups i 0) ≡ false
next_apart groups i rising within =
    let len : length (take i groups) ≡ i = length-take-le i groups (omega arith) in
    above_all (get_or groups i 0) (take i groups)
    (λ j before.
    let low : j < i = omega (arith, before, len) in
    subst (λ (n : ℕ). n < get_or groups i 0) (sym (get_or-take i groups j 0 low)) (below_from_sorted groups j i 0 rising low within))

both_false : (a b : Bool) → (a || b) ≡ false → (a ≡ false) × (b ≡ false)
both_false true b h = absurd (false≢true (sym h))
both_false false b h = (refl, h)

one_true : (a b : Bool) → (a || b) ≡ true → (a ≡ true) ⊎ (b ≡ true)
one_true true b h = inl refl
one_true false b h = inr h

-- of a list with one more behind it
pub among_more : (done : List ℕ) (x group : ℕ) → is_among (done ++ x ∷ []) group ≡ (is_among done group || (eq_by_cmp nat_cmp group x || false))
among_more done x group = list_any-append (eq_by_cmp nat_cmp group) done (x ∷ [])

-- ---- a test that is changed for one group

abbrev changed : ℕ → Bool → (ℕ → Bool) → ℕ → Bool
changed x b test group = cond (eqb x group) b (test group)

changed_at : (x : ℕ) (b : Bool) (test : ℕ → Bool) → changed x b test x ≡ b
changed_at x b test = by_test (eqb_tells x x)
  where
    by_test : ((eqb x x ≡ true) × (x ≡ x)) ⊎ ((eqb x x ≡ false) × (x ≡ x → ⊥)) → cond (eqb x x) b (test x) ≡ b
    by_test (inl same) = ap (λ (t : Bool). cond t b (test x)) same.0
    by_test (inr other) = absurd (other.1 refl)

changed_beside : (x : ℕ) (b : Bool) (test : ℕ → Bool) (group : ℕ) → eqb x group ≡ false → changed x b test group ≡ test group
changed_beside x b test group other = ap (λ (t : Bool). cond t b (test group)) other

eqb_apart : (x y : ℕ) → eq_by_cmp nat_cmp x y ≡ false → eqb x y ≡ false
eqb_apart x y other = by_test (eqb_tells x y)
  where
    by_test : ((eqb x y ≡ true) × (x ≡ y)) ⊎ ((eqb x y ≡ false) × (x ≡ y → ⊥)) → eqb x y ≡ false
    by_test (inl same) = absurd (false≢true (sym other ∙ subst (λ (z : ℕ). eq_by_cmp nat_cmp x z ≡ true) same.1 (alike x)))
    by_test (inr differ) = differ.0

filter_beside : (x : ℕ) (b : Bool) (test : ℕ → Bool) (done : List ℕ) → is_among done x ≡ false → filter (changed x b test) done ≡ filter test done
filter_beside x b test [] away = refl
filter_beside x b test (y ∷ ys) away =
    let both = both_false (eq_by_cmp nat_cmp x y) (is_among ys x) away in
    ap (λ (t : Bool). cond t (y ∷ filter (changed x b test) ys) (filter (changed x b test) ys)) (changed_beside x b test y (eqb_apart x y both.0))
    ∙ ap (λ (l : List ℕ). cond (test y) (y ∷ l) l) (filter_beside x b test ys both.1)

-- ---- so far

module _ (log : TracedTables) (marks : Watermarks) (before : Reports) where
  abbrev Judges : ℕ → ℕ → Bool → Type 0
  Judges group after told = IsJudged (content_in log.tables group) (traces_in log.traces group) marks (count_in before group) after told

  -- these groups are judged, and of the others nothing is kept
  pub record HasJudged (done told : List ℕ) (after : Reports) : Type 0 where
    pub test : ℕ → Bool
    pub is : told ≡ filter test done
    pub judged : (group : ℕ) → is_among done group ≡ true → Judges group (count_in after group) (test group)
    pub others : (group : ℕ) → is_among done group ≡ false → count_in after group ≡ 0

  pub none_judged : (told : List ℕ) (after : Reports) → told ≡ [] → ((group : ℕ) → count_in after group ≡ 0) → HasJudged [] told after
  none_judged told after none all = record {
    test = λ group. false;
    is = none;
    judged = λ group among. absurd (false≢true among);
    others = λ group away. all group;
  }

  abbrev after_choice : ℕ → Choice → Reports → ℕ → ℕ
  after_choice x choice mid other = if choice.is_left && eqb x other then count_in before x + 1 else count_in mid other

  count_at : (x : ℕ) (choice : Choice) (mid : Reports) → count_in mid x ≡ 0 → after_choice x choice mid x ≡ (if choice.is_left then count_in before x + 1 else 0)
  count_at x choice mid none = by_left choice.is_left (eqb x x) (by_test (eqb_tells x x))
    where
      by_test : ((eqb x x ≡ true) × (x ≡ x)) ⊎ ((eqb x x ≡ false) × (x ≡ x → ⊥)) → eqb x x ≡ true
      by_test (inl same) = same.0
      by_test (inr other) = absurd (other.1 refl)

      by_left : (left same : Bool) → same ≡ true → (if left && same then count_in before x + 1 else count_in mid x) ≡ (if left then count_in before x + 1 else 0)
      by_left true same is = ap (λ (t : Bool). if t then count_in before x + 1 else count_in mid x) is
      by_left false same is = none

  count_beside : (x : ℕ) (choice : Choice) (mid : Reports) (other : ℕ) → eqb x other ≡ false → after_choice x choice mid other ≡ count_in mid other
  count_beside x choice mid other apart = by_left choice.is_left (eqb x other) apart
    where
      by_left : (left same : Bool) → same ≡ false → (if left && same then count_in before x + 1 else count_in mid other) ≡ count_in mid other
      by_left true same is = ap (λ (t : Bool). if t then count_in before x + 1 else count_in mid other) is
      by_left false same is = refl

  chosen : (x after : ℕ) (choice : Choice) → IsChosen (content_in log.tables x) (traces_in log.traces x) marks (count_in before x) choice
      → after ≡ (if choice.is_left then count_in before x + 1 else 0) → Judges x after choice.is_told
  chosen x after choice is count = record {
    facts = is.facts;
    are = is.are;
    is_told = is.told;
    left = λ left. count ∙ ap (λ (t : Bool). if t then count_in before x + 1 else 0) (is.left.1 left);
    not_left = λ not_left. count ∙ by_left choice.is_left (λ (h : choice.is_left ≡ true). not_left (is.left.0 h));
  }
    where
      by_left : (left : Bool) → (left ≡ true → ⊥) → (if left then count_in before x + 1 else 0) ≡ 0
      by_left true h = absurd (h refl)
      by_left false h = refl

  -- one more is
  pub judged_more : (done told more : List ℕ) (x : ℕ) (mid after : Reports) (choice : Choice) → is_among done x ≡ false → HasJudged done told mid
      → IsChosen (content_in log.tables x) (traces_in log.traces x) marks (count_in before x) choice
      → more ≡ (if choice.is_told then told ++ x ∷ [] else told) → ((other : ℕ) → count_in after other ≡ after_choice x choice mid other)
      → HasJudged (done ++ x ∷ []) more after
  judged_more done told more x mid after choice away had is more_is counts = record {
    test = changed x choice.is_told had.test;
    is =
        more_is
        ∙ ap (λ (l : List ℕ). if choice.is_told then l ++ x ∷ [] else l) had.is
        ∙ by_told choice.is_told
        ∙ ap (λ (l : List ℕ). l ++ filter (changed x choice.is_told had.test) (x ∷ [])) (sym (filter_beside x choice.is_told had.test done away))
        ∙ sym (filter-append (changed x choice.is_told had.test) done (x ∷ []));
    judged = λ group among. judged_at group (eqb_tells x group) (subst (λ (b : Bool). b ≡ true) (among_more done x group) among);
    others = λ group away_too.
        let both = both_false (is_among done group) (eq_by_cmp nat_cmp group x || false) (subst (λ (b : Bool). b ≡ false) (among_more done x group) away_too) in
        counts group ∙ count_beside x choice mid group (other_way group both.1) ∙ had.others group both.0;
  }
    where
      by_told : (b : Bool) → (if b then filter had.test done ++ x ∷ [] else filter had.test done) ≡ filter had.test done ++ filter (changed x b had.test) (x ∷ [])
      by_told b = by_one b ∙ ap (λ (t : Bool). filter had.test done ++ cond t (x ∷ []) []) (sym (changed_at x b had.test))
        where
          by_one : (b : Bool) → (if b then filter had.test done ++ x ∷ [] else filter had.test done) ≡ filter had.test done ++ cond b (x ∷ []) []
          by_one true = refl
          by_one false = sym (append-nil (filter had.test done))

      other_way : (group : ℕ) → (eq_by_cmp nat_cmp group x || false) ≡ false → eqb x group ≡ false
      other_way group h = by_test (eqb_tells x group)
        where
          by_test : ((eqb x group ≡ true) × (x ≡ group)) ⊎ ((eqb x group ≡ false) × (x ≡ group → ⊥)) → eqb x group ≡ false
          by_test (inl same) = absurd (false≢true (sym (both_false (eq_by_cmp nat_cmp group x) false h).0 ∙ subst (λ (z : ℕ). eq_by_cmp nat_cmp group z ≡ true) (sym same.1) (alike group)))
          by_test (inr differ) = differ.0

      judged_at : (group : ℕ) → ((eqb x group ≡ true) × (x ≡ group)) ⊎ ((eqb x group ≡ false) × (x ≡ group → ⊥)) → (is_among done group || (eq_by_cmp nat_cmp group x || false)) ≡ true
          → Judges group (count_in after group) (changed x choice.is_told had.test group)
      judged_at group (inl same) among =
          subst (λ (y : ℕ). Judges y (count_in after y) (changed x choice.is_told had.test y)) same.1
          (subst (λ (b : Bool). Judges x (count_in after x) b) (sym (changed_at x choice.is_told had.test))
          (chosen x (count_in after x) choice is (counts x ∙ count_at x choice mid (had.others x away))))
      judged_at group (inr other) among =
          subst (λ (n : ℕ). Judges group n (changed x choice.is_told had.test group)) (sym (counts group ∙ count_beside x choice mid group other.0))
          (subst (λ (b : Bool). Judges group (count_in mid group) b) (sym (changed_beside x choice.is_told had.test group other.0))
          (had.judged group (by_among (one_true (is_among done group) (eq_by_cmp nat_cmp group x || false) among))))
        where
          by_among : (is_among done group ≡ true) ⊎ ((eq_by_cmp nat_cmp group x || false) ≡ true) → is_among done group ≡ true
          by_among (inl h) = h
          by_among (inr h) = by_last (one_true (eq_by_cmp nat_cmp group x) false h)
            where
              by_last : (eq_by_cmp nat_cmp group x ≡ true) ⊎ (false ≡ true) → is_among done group ≡ true
              by_last (inl at) = absurd (false≢true (sym (apart group x (λ same. other.1 (sym same))) ∙ at))
              by_last (inr never) = absurd (false≢true never)

  -- all are
  pub all_judged : (groups told : List ℕ) (after : Reports) → IsStrictlySortedBy nat_cmp groups → ((group : ℕ) → (content_in log.tables group).there ≡ is_among groups group)
      → HasJudged groups told after → AreTold log marks before after told
  all_judged groups told after rising exactly had = record {
    rising = subst (IsStrictlySortedBy nat_cmp) (sym had.is) (IsStrictlySortedBy-filter nat_cmp had.test groups rising);
    there = λ group among. exactly group ∙ (both_true (is_among groups group) (had.test group) (sym (among_told group) ∙ among)).0;
    judged = λ group there.
        let among : is_among groups group ≡ true = sym (exactly group) ∙ there in
        subst (λ (b : Bool). Judges group (count_in after group) b) (sym (among_told group ∙ ap (λ (b : Bool). b && had.test group) among)) (had.judged group among);
    others = λ group away. had.others group (sym (exactly group) ∙ away);
  }
    where
      both_true : (a b : Bool) → (a && b) ≡ true → (a ≡ true) × (b ≡ true)
      both_true true b h = (refl, h)
      both_true false b h = absurd (false≢true h)

      among_told : (group : ℕ) → is_among told group ≡ (is_among groups group && had.test group)
      among_told group = ap (λ (l : List ℕ). is_among l group) had.is ∙ is_member-filter (eq_by_cmp_equiv nat_cmp_total) had.test group (λ x same. ap had.test (tells group x same)) groups
