-- Entries that have a record follow one another.
use Rattle.std.proofs.Common.{◌≡◌, ℕ, ◌+◌, ◌<◌, ◌≤◌, Bool, true, false, cond, List, [], ◌∷◌, length, map, Option, Some, None, refl, sym, ap, subst, ◌∙◌, arith}
use Rattle.std.specs.Prelude.{IsSome, nat_eq}
use Rattle.std.specs.List.{AllByRecursion}
use Rattle.std.specs.Option.{option_map}
use Rattle.std.proofs.lemmas.Bool.{eqb-false, ne_eqb}
use Rattle.std.proofs.lemmas.List.{length-map}
use Rattle.raft_log_records.specs.Item.{Change, Item, change_map}
use Rattle.raft_log_records.specs.Item.Change.{entries, clean, compact, put, delete, mark}
use Rattle.raft_log_records.specs.Spelling.{IsChange, IsConsecutive, IsItem, first_index, lengths}
use Rattle.raft_log_file.specs.Laws.{Batch}
use Rattle.raft_log_memtables.specs.Content.{entry_at}
use Rattle.raft_log_marks.specs.Whole.{Follows}
use Rattle.raft_log_marks.proofs.MappedLemmas.{first_mapped, none_before, some_before}

record IsRunFrom (next : ℕ) (es : List (ℕ × ℕ)) : Type 0 where
  pub no_more : (i : ℕ) → next + length es ≤ i → entry_at es i ≡ None
  pub each : (i : ℕ) → next ≤ i → i < next + length es → IsSome (entry_at es i)

is_run : (es : List (ℕ × ℕ)) (next : ℕ) → IsConsecutive next es → IsRunFrom next es
is_run [] next h = record { no_more = λ i high. refl; each = λ i low high. absurd (omega (arith, low, high)) }
is_run (e ∷ es) next h = longer e es next h.0 (is_run es (next + 1) h.3)
  where
    at_one : (e : ℕ × ℕ) (es : List (ℕ × ℕ)) (next : ℕ) → e.0 ≡ next → IsRunFrom (next + 1) es → (i : ℕ) → next ≤ i → i < next + length (e ∷ es) → (b : Bool) → nat_eq e.0 i ≡ b → IsSome (cond b (Some e.1) (entry_at es i))
    at_one e es next first rest i low high true same = refl
    at_one e es next first rest i low high false other =
        let apart : next ≡ i → ⊥ = λ same. eqb-false e.0 i other (first ∙ same) in
        rest.each i (omega (arith, low, apart)) (omega (arith, high))

    longer : (e : ℕ × ℕ) (es : List (ℕ × ℕ)) (next : ℕ) → e.0 ≡ next → IsRunFrom (next + 1) es → IsRunFrom next (e ∷ es)
    longer e es next first rest = record {
      no_more = λ i high. ap (λ (b : Bool). cond b (Some e.1) (entry_at es i)) (ne_eqb e.0 i (λ same. absurd (omega (arith, first, same, high)))) ∙ rest.no_more i (omega (arith, high));
      each = λ i low high. at_one e es next first rest i low high (nat_eq e.0 i) refl;
    }

follows : (change : Change ℕ) → IsChange change → Follows change
follows (entries es) h =
    let run : IsRunFrom (first_index es) es = is_run es (first_index es) h.2 in
    record { run = record { some = h.0; no_more = run.no_more }; each = run.each }
follows clean h = tt
follows (compact limit) h = tt
follows (put name value) h = tt
follows (delete name) h = tt
follows (mark id status) h = tt

-- so do those that are seen so
module _ {E F : Type 0} (f : E → F) where
  entry_seen : (es : List (ℕ × E)) (i : ℕ) → entry_at (map (λ e. (e.0, f e.1)) es) i ≡ option_map f (entry_at es i)
  entry_seen [] i = refl
  entry_seen (e ∷ es) i = by_test (nat_eq e.0 i) (entry_at (map (λ e. (e.0, f e.1)) es) i) (entry_at es i) e.1 (entry_seen es i)
    where
      by_test : (b : Bool) (seen : Option F) (o : Option E) (x : E) → seen ≡ option_map f o → cond b (Some (f x)) seen ≡ option_map f (cond b (Some x) o)
      by_test true seen o x same = refl
      by_test false seen o x same = same

  followed : (change : Change E) → Follows (change_map f change) → Follows change
  followed (entries es) h =
      let first : first_index (map (λ e. (e.0, f e.1)) es) ≡ first_index es = first_mapped f es in
      let as_many : length (map (λ e. (e.0, f e.1)) es) ≡ length es = length-map es (λ (e : ℕ × E). (e.0, f e.1)) in
      record {
        run = record {
          some = subst (λ (n : ℕ). 0 < n) as_many h.run.some;
          no_more = λ i high. none_before f (entry_at es i) (sym (entry_seen es i) ∙ h.run.no_more i (omega (arith, first, as_many, high)));
        };
        each = λ i low high. some_before f (entry_at es i) (subst (λ (o : Option F). IsSome o) (entry_seen es i) (h.each i (omega (arith, first, low)) (omega (arith, first, as_many, high))));
      }
  followed clean h = tt
  followed (compact limit) h = tt
  followed (put name value) h = tt
  followed (delete name) h = tt
  followed (mark id status) h = tt

pub follow_all : (items : List (Item ℕ)) → AllByRecursion IsItem items → AllByRecursion (λ item. Follows item.change) items
follow_all [] h = tt
follow_all (item ∷ items) h = (follows item.change h.0.change, follow_all items h.1)

pub follow_each : (items : Batch) → AllByRecursion IsItem (lengths items) → AllByRecursion (λ item. Follows item.change) items
follow_each [] h = tt
follow_each (item ∷ items) h = (followed length item.change (follows (change_map length item.change) h.0.change), follow_each items h.1)
