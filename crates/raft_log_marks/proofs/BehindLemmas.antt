-- What stands behind an entry of an append file.
use Rattle.std.proofs.Common.{◌≡◌, ◌≤◌, ℕ, suc, Bool, true, false, cond, List, Some, None, refl, sym, ap, ◌∙◌, arith, ltb-true, ltb-false, leb-false}
use Rattle.std.specs.Prelude.{◌&&◌, ◌||◌, IsSome, nat_le, nat_lt}
use Rattle.std.proofs.lemmas.Bool.{leb-true}
use Rattle.raft_log_records.specs.Item.Change.{entries, clean, compact, put, delete, mark}
use Rattle.raft_log_records.specs.Spelling.{first_index}
use Rattle.raft_log_memtables.specs.Content.{GroupContent, entry_at}
use Rattle.raft_log_covers.specs.Cells.Cell.{index}
use Rattle.raft_log_covers.specs.Marks.{Names, names_after_marks, names_after_entries}
use Rattle.raft_log_covers.proofs.FileLemmas.{not_there}
use Rattle.raft_log_covers.specs.Trace.{Trace, settled_by}
use Rattle.raft_log_marks.specs.MarkLaws.{NamesBehind, ChangesNameBehind, RewritesNameBehind}

no_entry : {P : Type 0} → false ≡ true → P
no_entry h = absurd cc

pub changes_name_behind : {E : Type 0} → ChangesNameBehind E
changes_name_behind file (entries es) g names h i j l s n = by_place (nat_le (first_index es) i) refl (nat_le (first_index es) j) refl s n
  where
    by_place : (a : Bool) → nat_le (first_index es) i ≡ a → (b : Bool) → nat_le (first_index es) j ≡ b → IsSome (cond a (entry_at es i) (g.entry i)) → IsSome (cond a (Some file) (names (index i)))
        → IsSome (cond b (Some file) (names (index j)))
    by_place a ea true eb s n = refl
    by_place true ea false eb s n =
        let low = leb-true (first_index es) i ea in
        let high : suc j ≤ first_index es = leb-false (first_index es) j eb in
        absurd (omega (arith, l, low, high))
    by_place false ea false eb s n = h i j l s n
changes_name_behind file clean g names h i j l s n = no_entry s
changes_name_behind file (compact limit) g names h i j l s n = by_place (nat_lt i limit) refl (nat_lt j limit) refl s n
  where
    by_place : (a : Bool) → nat_lt i limit ≡ a → (b : Bool) → nat_lt j limit ≡ b → IsSome (cond a None (g.entry i)) → IsSome (cond a (Some file) (names (index i))) → IsSome (cond b (Some file) (names (index j)))
    by_place true ea b eb s n = no_entry s
    by_place false ea true eb s n = refl
    by_place false ea false eb s n = h i j l s n
changes_name_behind file (put name value) g names h i j l s n = h i j l s n
changes_name_behind file (delete name) g names h i j l s n = h i j l s n
changes_name_behind file (mark id status) g names h i j l s n = h i j l s n

after_marks : {E : Type 0} (g : GroupContent E) (names : Names) (limit : ℕ) (is_empty : Bool) → (is_empty ≡ true → (i : ℕ) → g.entry i ≡ None) → ((i : ℕ) → IsSome (g.entry i) → limit ≤ i)
    → NamesBehind g names → NamesBehind g (names_after_marks g names limit is_empty)
after_marks g names limit true none low h i j l s n = not_there (g.entry i) (none refl i) s
after_marks g names limit false none low h i j l s n = by_place (nat_lt i limit) (nat_lt j limit) refl n
  where
    by_place : (a b : Bool) → nat_lt j limit ≡ b → IsSome (cond a None (names (index i))) → IsSome (cond b None (names (index j)))
    by_place true b eb n = no_entry n
    by_place false true eb n =
        let first = low i s in
        let high = ltb-true j limit eb in
        absurd (omega (arith, l, first, high))
    by_place false false eb n = h i j l s n

after_entries : {E : Type 0} (t : Trace) (g : GroupContent E) (names : Names) (es : List (ℕ × E)) (stop : ℕ) → ((i : ℕ) → IsSome (g.entry i) → IsSome (names (index i)) → first_index es ≤ i)
    → NamesBehind g names → NamesBehind g (names_after_entries names es (settled_by stop t))
after_entries t g names es stop first h i j l s n = by_test (nat_le (first_index es) i) refl (settled_by stop t i) refl (nat_le (first_index es) j && settled_by stop t j) refl n
  where
    later_settled : (b : Bool) → nat_le t.next stop ≡ b → (settled_by stop t j) ≡ true → (b || nat_lt i stop) ≡ false → ⊥
    later_settled true e y n = absurd cc
    later_settled false e y n = by_stop (ap (λ (b : Bool). b || nat_lt j stop) (sym e) ∙ y)
      where
        by_stop : nat_lt j stop ≡ true → ⊥
        by_stop y =
            let high = ltb-true j stop y in
            let low = ltb-false i stop n in
            omega (arith, l, high, low)

    both : (a b : Bool) → (a && b) ≡ true → b ≡ true
    both true b e = e
    both false b e = absurd cc

    by_test : (a : Bool) → nat_le (first_index es) i ≡ a → (b : Bool) → settled_by stop t i ≡ b → (d : Bool) → (nat_le (first_index es) j && settled_by stop t j) ≡ d
        → IsSome (cond (a && b) None (names (index i))) → IsSome (cond d None (names (index j)))
    by_test true ea true eb d ed n = no_entry n
    by_test true ea false eb true ed n = absurd (later_settled (nat_le t.next stop) refl (both (nat_le (first_index es) j) (settled_by stop t j) ed) eb)
    by_test true ea false eb false ed n = h i j l s n
    by_test false ea b eb d ed n =
        let above = first i s n in
        let below : suc i ≤ first_index es = leb-false (first_index es) i ea in
        absurd (omega (arith, above, below))

pub rewrites_name_behind : {E : Type 0} → RewritesNameBehind E
rewrites_name_behind t g names h = record {
  marked = λ limit is_empty none low. after_marks g names limit is_empty none low h;
  entries_too = λ es stop first. after_entries t g names es stop first h;
  keys_too = λ name i j l s n. h i j l s n;
}
