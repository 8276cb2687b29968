-- The oldest append file that holds something of a group.
use Rattle.std.proofs.Common.{◌≡◌, ◌⊎◌, inl, inr, ℕ, ◌+◌, ◌-◌, ◌<◌, ◌≤◌, ◌^◌, Bool, true, false, cond, List, [], ◌∷◌, ◌++◌, map, min, Option, Some, None, refl, sym, ap, subst, ◌∙◌, arith, le_refl, leb-true, leb-false, le-leb}
use Rattle.std.specs.Prelude.{◌||◌, IfSome, bytes_eq, nat_le}
use Rattle.std.specs.Cmp.Lexicographic.{bytes_decides}
use Rattle.std.proofs.lemmas.Bool.{cases_lt, false≢true}
use Rattle.raft_log_records.specs.declared.item.EntryIndex.{EntryIndex}
use Rattle.raft_log_memtables.specs.Content.{GroupContent}
use Rattle.raft_log_covers.specs.Account.{IsFrom}
use Rattle.raft_log_covers.specs.Marks.{is_in}
use Rattle.raft_log_covers.specs.Trace.{Trace, least}
use Rattle.raft_log_traced.specs.Traced.{lies_in}
use Rattle.raft_log_traces.specs.Before.{IsBefore}
use Rattle.raft_log_cleaner.specs.Facts.{HoldsEntry, HoldsKey, IsOldest, IsOldestOfEntries, IsOldestOfKeys, first_from, least_up_to, lies_up_to}

lower : (m n : ℕ) (o : Option ℕ) → m ≤ n → IsFrom n o → IsFrom m o
lower m n None low from = tt
lower m n (Some f) low from = omega (arith, low, from)

-- ---- one more file

first_by : (mark : ℕ) (file : Option ℕ) → IfSome file (λ f. f ≤ mark) → first_from mark file ≤ mark + 1
first_by mark None low = le_refl (mark + 1)
first_by mark (Some f) low = omega (arith, low)

older_first : (mark : ℕ) (file other : Option ℕ) → IfSome file (λ f. f ≤ mark) → first_from mark (least_up_to mark file other) ≤ first_from mark file
older_first mark file None low = le_refl (first_from mark file)
older_first mark file (Some o) low = by_test (nat_le o mark) refl file low
  where
    by_test : (b : Bool) → nat_le o mark ≡ b → (x : Option ℕ) → IfSome x (λ f. f ≤ mark) → first_from mark (cond b (least x (Some o)) x) ≤ first_from mark x
    by_test true is None low = let by = leb-true o mark is in omega (arith, by)
    by_test true is (Some f) low = omega arith
    by_test false is x low = le_refl (first_from mark x)

older_from : (mark : ℕ) (file other : Option ℕ) → IfSome file (λ f. f ≤ mark) → IsFrom (first_from mark (least_up_to mark file other)) other
older_from mark file None low = tt
older_from mark file (Some o) low = by_test (nat_le o mark) refl file low
  where
    by_test : (b : Bool) → nat_le o mark ≡ b → (x : Option ℕ) → IfSome x (λ f. f ≤ mark) → first_from mark (cond b (least x (Some o)) x) ≤ o
    by_test true is None low = le_refl o
    by_test true is (Some f) low = omega arith
    by_test false is None low = let behind = leb-false o mark is in omega (arith, behind)
    by_test false is (Some f) low = let behind = leb-false o mark is in omega (arith, behind, low)

by_min : (f g : ℕ) → (min f g ≡ f) ⊎ (min f g ≡ g)
by_min f g = by_place (cases_lt f g)
  where
    by_place : (f < g) ⊎ (g ≤ f) → (min f g ≡ f) ⊎ (min f g ≡ g)
    by_place (inl low) = inl (omega (arith, low))
    by_place (inr high) = inr (omega (arith, high))

older_held : (mark : ℕ) (P : ℕ → Type 0) (file other : Option ℕ) → IfSome file (λ f. (f ≤ mark) × P f) → IfSome other P → IfSome (least_up_to mark file other) (λ f. (f ≤ mark) × P f)
older_held mark P file None held one = held
older_held mark P file (Some o) held one = by_test (nat_le o mark) refl file held
  where
    by_test : (b : Bool) → nat_le o mark ≡ b → (x : Option ℕ) → IfSome x (λ f. (f ≤ mark) × P f) → IfSome (cond b (least x (Some o)) x) (λ f. (f ≤ mark) × P f)
    by_test true is None held = (leb-true o mark is, one)
    by_test true is (Some f) held = at_least (by_min f o)
      where
        at_least : (min f o ≡ f) ⊎ (min f o ≡ o) → (min f o ≤ mark) × P (min f o)
        at_least (inl same) = subst (λ (n : ℕ). (n ≤ mark) × P n) (sym same) held
        at_least (inr same) = subst (λ (n : ℕ). (n ≤ mark) × P n) (sym same) (leb-true o mark is, one)
    by_test false is x held = held

by_mark : (P : ℕ → Type 0) (mark : ℕ) (file : Option ℕ) → IfSome file (λ f. (f ≤ mark) × P f) → IfSome file (λ f. f ≤ mark)
by_mark P mark None held = tt
by_mark P mark (Some f) held = held.0

-- ---- of entries

module _ (entry : ℕ → Option EntryIndex) (mark : ℕ) where
  pub oldest_of_none : IsOldestOfEntries entry mark 0 None
  oldest_of_none = record { from = λ i e below is. absurd (omega (arith, below)); held = tt }

  -- up to an entry
  pub oldest_to : (at index : ℕ) (e : EntryIndex) (file : Option ℕ) → at ≤ index → ((i : ℕ) → at ≤ i → i < index → entry i ≡ None) → entry index ≡ Some e → IsOldestOfEntries entry mark at file
      → IsOldestOfEntries entry mark (index + 1) (least_up_to mark file (lies_in e))
  oldest_to at index e file low none is had = record {
    from = λ i x below is_x. by_place i x below is_x (cases_lt i at) (cases_lt i index);
    held = older_held mark (HoldsEntry entry) file (lies_in e) had.held (by_file (lies_in e) refl);
  }
    where
      by_file : (o : Option ℕ) → lies_in e ≡ o → IfSome o (HoldsEntry entry)
      by_file None lies = tt
      by_file (Some f) lies = (index, e, is, lies)

      same_entry : (x : EntryIndex) → Some e ≡ Some x → e ≡ x
      same_entry x h = cc

      by_place : (i : ℕ) (x : EntryIndex) → i < index + 1 → entry i ≡ Some x → (i < at) ⊎ (at ≤ i) → (i < index) ⊎ (index ≤ i) → IsFrom (first_from mark (least_up_to mark file (lies_in e))) (lies_in x)
      by_place i x below is_x (inl before) there =
          lower (first_from mark (least_up_to mark file (lies_in e))) (first_from mark file) (lies_in x) (older_first mark file (lies_in e) (by_mark (HoldsEntry entry) mark file had.held)) (had.from i x before is_x)
      by_place i x below is_x (inr behind) (inl early) = absurd (let gap = none i behind early in cc)
      by_place i x below is_x (inr behind) (inr late) =
          let at_index : i ≡ index = omega (arith, below, late) in
          let here : entry index ≡ Some x = subst (λ (n : ℕ). entry n ≡ Some x) at_index is_x in
          subst (λ (y : EntryIndex). IsFrom (first_from mark (least_up_to mark file (lies_in e))) (lies_in y)) (same_entry x (sym is ∙ here)) (older_from mark file (lies_in e) (by_mark (HoldsEntry entry) mark file had.held))

  -- indexes without an entry add none
  pub oldest_over : (at limit : ℕ) (file : Option ℕ) → ((i : ℕ) → at ≤ i → i < limit → entry i ≡ None) → IsOldestOfEntries entry mark at file → IsOldestOfEntries entry mark limit file
  oldest_over at limit file none had = record {
    from = λ i x below is_x. by_place i x below is_x (cases_lt i at);
    held = had.held;
  }
    where
      by_place : (i : ℕ) (x : EntryIndex) → i < limit → entry i ≡ Some x → (i < at) ⊎ (at ≤ i) → IsFrom (first_from mark file) (lies_in x)
      by_place i x below is_x (inl before) = had.from i x before is_x
      by_place i x below is_x (inr behind) = absurd (let gap = none i behind below in cc)

-- ---- of keys

-- of those with these names
pub record IsOldestOfNames (t : Trace) (mark : ℕ) (names : List (List ℕ)) (file : Option ℕ) : Type 0 where
  pub from : (k : List ℕ) → is_in k names ≡ true → IsFrom (first_from mark file) (t.key_file k)
  pub held : IfSome file (λ f. (f ≤ mark) × HoldsKey t f)

pub no_names : (t : Trace) (mark : ℕ) → IsOldestOfNames t mark [] None
no_names t mark = record { from = λ k among. absurd (false≢true among); held = tt }

in_more : (k : List ℕ) (names : List (List ℕ)) (x : List ℕ) → is_in k (names ++ x ∷ []) ≡ true → (is_in k names ≡ true) ⊎ (bytes_eq x k ≡ true)
in_more k [] x among = one_of (bytes_eq x k) among
  where
    one_of : (b : Bool) → (b || false) ≡ true → (false ≡ true) ⊎ (b ≡ true)
    one_of true h = inr refl
    one_of false h = inl h
in_more k (y ∷ ys) x among = by_first (in_more k ys x) (bytes_eq y k) among
  where
    by_first : (is_in k (ys ++ x ∷ []) ≡ true → (is_in k ys ≡ true) ⊎ (bytes_eq x k ≡ true)) → (b : Bool) → (b || is_in k (ys ++ x ∷ [])) ≡ true → ((b || is_in k ys) ≡ true) ⊎ (bytes_eq x k ≡ true)
    by_first rest true h = inl refl
    by_first rest false h = rest h

-- one name more
pub name_more : (t : Trace) (mark : ℕ) (names more : List (List ℕ)) (x : List ℕ) (file : Option ℕ) → more ≡ names ++ x ∷ [] → IsOldestOfNames t mark names file → IsOldestOfNames t mark more (least_up_to mark file (t.key_file x))
name_more t mark names more x file is had = record {
  from = λ k among. by_name k (in_more k names x (subst (λ (l : List (List ℕ)). is_in k l ≡ true) is among));
  held = older_held mark (HoldsKey t) file (t.key_file x) had.held (by_file (t.key_file x) refl);
}
  where
    by_file : (o : Option ℕ) → t.key_file x ≡ o → IfSome o (HoldsKey t)
    by_file None stands = tt
    by_file (Some f) stands = (x, stands)

    by_name : (k : List ℕ) → (is_in k names ≡ true) ⊎ (bytes_eq x k ≡ true) → IsFrom (first_from mark (least_up_to mark file (t.key_file x))) (t.key_file k)
    by_name k (inl among) =
        lower (first_from mark (least_up_to mark file (t.key_file x))) (first_from mark file) (t.key_file k) (older_first mark file (t.key_file x) (by_mark (HoldsKey t) mark file had.held)) (had.from k among)
    by_name k (inr same) =
        subst (λ (l : List ℕ). IsFrom (first_from mark (least_up_to mark file (t.key_file x))) (t.key_file l)) ((bytes_decides x k).0 same) (older_from mark file (t.key_file x) (by_mark (HoldsKey t) mark file had.held))

-- all that stand by the mark were named
pub all_names : (t : Trace) (mark : ℕ) (names : List (List ℕ)) (file : Option ℕ) → ((k : List ℕ) → IsBefore (mark + 1) (t.key_file k) → is_in k names ≡ true) → IsOldestOfNames t mark names file → IsOldestOfKeys t mark file
all_names t mark names file named had = record {
  from = λ k. by_file k (t.key_file k) refl;
  held = had.held;
}
  where
    by_file : (k : List ℕ) (o : Option ℕ) → t.key_file k ≡ o → IsFrom (first_from mark file) (t.key_file k)
    by_file k None stands = subst (λ (x : Option ℕ). IsFrom (first_from mark file) x) (sym stands) tt
    by_file k (Some f) stands = by_place (cases_lt f (mark + 1))
      where
        by_place : (f < mark + 1) ⊎ (mark + 1 ≤ f) → IsFrom (first_from mark file) (t.key_file k)
        by_place (inl before) = had.from k (named k (subst (λ (x : Option ℕ). IsBefore (mark + 1) x) (sym stands) before))
        by_place (inr behind) =
            let low = first_by mark file (by_mark (HoldsKey t) mark file had.held) in
            subst (λ (x : Option ℕ). IsFrom (first_from mark file) x) (sym stands) (omega (arith, low, behind))

-- ---- of both

past_mark : (mark : ℕ) (o : Option ℕ) → lies_up_to mark o ≡ false → IsFrom (mark + 1) o
past_mark mark None late = tt
past_mark mark (Some f) late = let behind = leb-false f mark late in omega (arith, behind)

-- where entries from an index on lie behind the mark
pub oldest_of_all : (g : GroupContent EntryIndex) (t : Trace) (mark limit : ℕ) (of_entries of_keys : Option ℕ) → IsOldestOfEntries g.entry mark limit of_entries → IsOldestOfKeys t mark of_keys
    → ((i : ℕ) (e : EntryIndex) → limit ≤ i → i < 2 ^ 64 - 1 → g.entry i ≡ Some e → lies_up_to mark (lies_in e) ≡ false) → IsOldest g t mark (least_up_to mark of_entries of_keys)
oldest_of_all g t mark limit of_entries of_keys entries keys late = record {
  entries = λ i e below is. by_place i e below is (cases_lt i limit);
  keys = λ k. lower (first_from mark (least_up_to mark of_entries of_keys)) (first_from mark of_keys) (t.key_file k) (by_keys of_keys (by_mark (HoldsKey t) mark of_keys keys.held)) (keys.from k);
  held = older_held mark (λ f. HoldsEntry g.entry f ⊎ HoldsKey t f) of_entries of_keys (of_one of_entries entries.held) (of_other of_keys keys.held);
}
  where
    by_keys : (o : Option ℕ) → IfSome o (λ f. f ≤ mark) → first_from mark (least_up_to mark of_entries o) ≤ first_from mark o
    by_keys None by =
        let first = first_by mark of_entries (by_mark (HoldsEntry g.entry) mark of_entries entries.held) in
        omega (arith, first)
    by_keys (Some f) by = older_from mark of_entries (Some f) (by_mark (HoldsEntry g.entry) mark of_entries entries.held)

    of_one : (o : Option ℕ) → IfSome o (λ f. (f ≤ mark) × HoldsEntry g.entry f) → IfSome o (λ f. (f ≤ mark) × (HoldsEntry g.entry f ⊎ HoldsKey t f))
    of_one None held = tt
    of_one (Some f) held = (held.0, inl held.1)

    of_other : (o : Option ℕ) → IfSome o (λ f. (f ≤ mark) × HoldsKey t f) → IfSome o (λ f. HoldsEntry g.entry f ⊎ HoldsKey t f)
    of_other None held = tt
    of_other (Some f) held = inr held.1

    by_place : (i : ℕ) (e : EntryIndex) → i < 2 ^ 64 - 1 → g.entry i ≡ Some e → (i < limit) ⊎ (limit ≤ i) → IsFrom (first_from mark (least_up_to mark of_entries of_keys)) (lies_in e)
    by_place i e below is (inl before) =
        lower (first_from mark (least_up_to mark of_entries of_keys)) (first_from mark of_entries) (lies_in e) (older_first mark of_entries of_keys (by_mark (HoldsEntry g.entry) mark of_entries entries.held)) (entries.from i e before is)
    by_place i e below is (inr behind) =
        let one = older_first mark of_entries of_keys (by_mark (HoldsEntry g.entry) mark of_entries entries.held) in
        let two = first_by mark of_entries (by_mark (HoldsEntry g.entry) mark of_entries entries.held) in
        lower (first_from mark (least_up_to mark of_entries of_keys)) (mark + 1) (lies_in e) (omega (arith, one, two)) (past_mark mark (lies_in e) (late i e behind below is))

-- a group without a trace holds nothing
pub oldest_of_nothing : (g : GroupContent EntryIndex) (t : Trace) (mark : ℕ) → ((i : ℕ) → g.entry i ≡ None) → ((k : List ℕ) → t.key_file k ≡ None) → IsOldest g t mark None
oldest_of_nothing g t mark none no_keys = record {
  entries = λ i e below is. absurd (let gap = none i in cc);
  keys = λ k. subst (λ (x : Option ℕ). IsFrom (mark + 1) x) (sym (no_keys k)) tt;
  held = tt;
}
