-- What a group has in the rewrite queue.
use Rattle.std.proofs.Common.{◌≡◌, ◌⊎◌, inl, inr, ℕ, ◌<◌, ◌≤◌, Bool, true, false, cond, ◌||◌, List, [], ◌∷◌, ◌++◌, Option, Some, None, refl, sym, ap, subst, ◌∙◌, arith, ltb-true, ltb-false}
use Rattle.std.specs.Prelude.{IfOk, IsSome, Result, Ok, Err, Vec, bytes_eq, nat_lt}
use Rattle.std.specs.Cmp.Lexicographic.{bytes_decides}
use Rattle.std.specs.Map.{lookup}
use Rattle.std.specs.declared.alloc.Global.{Global}
use Rattle.std.proofs.lemmas.Bool.{or_left, or_right}
use Rattle.raft_log_records.specs.Batch.{payloads}
use Rattle.raft_log_memtables.specs.Scan.{AreKeysBetween}
use Rattle.raft_log_covers.specs.Kept.{new_trace}
use Rattle.raft_log_covers.specs.Marks.{is_in}
use Rattle.raft_log_covers.specs.Trace.{Trace}
use Rattle.raft_log_covers.proofs.FileLemmas.{not_there}
use Rattle.raft_log_purge.specs.Anew.{names_of}
use Rattle.raft_log_rewriter.specs.Parts.{AreStoredNames, IsStoredRange}
use Rattle.raft_log_rewriter.proofs.Stages.{in-append, in_or_last, names-append}

-- ---- entries

pub no_range : (t : Trace) → t ≡ new_trace → IsStoredRange t 0 0
no_range t is = let none : t.next ≡ 0 = ap (λ (x : Trace). x.next) is in record {
  order = omega arith;
  all = λ i low high gone. absurd (omega (arith, high, none));
  only = λ i low high. absurd (omega (arith, high));
}

pub range_is : (t : Trace) (end first stop : ℕ) → ((i : ℕ) → i < end → t.entry_file i ≡ None) → ((i : ℕ) → end ≤ i → i < t.next → IsSome (t.entry_file i)) → (t.low < end → (first ≡ t.low) × (stop ≡ end)) → (end ≤ t.low → first ≡ stop)
    → IsStoredRange t first stop
range_is t end first stop below above same none = by_test (nat_lt t.low end) refl
  where
    within : (i : ℕ) → i < t.next → t.entry_file i ≡ None → i < end
    within i high gone = omega (arith, λ (l : end ≤ i). not_there {P = ⊥} (t.entry_file i) gone (above i l high))

    by_test : (b : Bool) → nat_lt t.low end ≡ b → IsStoredRange t first stop
    by_test true e =
        let less = ltb-true t.low end e in
        let is = same less in
        record {
          order = omega (arith, less, is.0, is.1);
          all = λ i low high gone. (omega (arith, low, is.0), omega (arith, is.1, within i high gone));
          only = λ i low high. below i (omega (arith, high, is.1));
        }
    by_test false e =
        let more = ltb-false t.low end e in
        let is = none more in
        record {
          order = omega (arith, is);
          all = λ i low high gone. absurd (omega (arith, low, more, within i high gone));
          only = λ i low high. absurd (omega (arith, low, high, is));
        }

pub range_ok : {E : Type 0} (t : Trace) (end : ℕ) (result : Result (ℕ × ℕ) E) → ((i : ℕ) → i < end → t.entry_file i ≡ None) → ((i : ℕ) → end ≤ i → i < t.next → IsSome (t.entry_file i))
    → IfOk result (λ r. t.low < end → (r.0 ≡ t.low) × (r.1 ≡ end)) → IfOk result (λ r. end ≤ t.low → r.0 ≡ r.1) → IfOk result (λ r. IsStoredRange t r.0 r.1)
range_ok t end (Ok r) below above same none = range_is t end r.0 r.1 below above same none
range_ok t end (Err x) below above same none = tt

-- ---- keys

equal_too : (a b : List ℕ) → bytes_eq a b ≡ true → bytes_eq b a ≡ true
equal_too a b e = (bytes_decides b a).1 (sym ((bytes_decides a b).0 e))

pub found_among : (k : List ℕ) (pairs : List (List ℕ × List ℕ)) → IsSome (lookup (bytes_eq k) pairs) → is_in k (names_of pairs) ≡ true
found_among k [] some = absurd cc
found_among k (pair ∷ pairs) some = by_test (found_among k pairs) (bytes_eq k pair.0) refl some
  where
    by_test : (IsSome (lookup (bytes_eq k) pairs) → is_in k (names_of pairs) ≡ true) → (b : Bool) → bytes_eq k pair.0 ≡ b → IsSome (cond b (Some pair.1) (lookup (bytes_eq k) pairs)) → (bytes_eq pair.0 k || is_in k (names_of pairs)) ≡ true
    by_test rest true e h = or_left (bytes_eq pair.0 k) (is_in k (names_of pairs)) (equal_too k pair.0 e)
    by_test rest false e h = or_right (bytes_eq pair.0 k) (is_in k (names_of pairs)) (rest h)

pub names_all : {E : Type 0} (result : Result (Vec (Vec ℕ Global) Global) E) (t : Trace) (value : List ℕ → Option (List ℕ)) (pairs : List (List ℕ × List ℕ)) → AreKeysBetween value None None pairs
    → IfOk result (λ names. (k : List ℕ) → is_in k (names_of pairs) ≡ true → t.key_file k ≡ None → is_in k (payloads names.items) ≡ true) → IfOk result (λ names. AreStoredNames t value (payloads names.items))
names_all (Ok names) t value pairs keys all = λ k some none. all k (found_among k pairs (subst (λ (o : Option (List ℕ)). IsSome o) (sym (keys.exactly k)) some)) none
names_all (Err x) t value pairs keys all = tt

-- ---- names that are copied, one after the other

pub name_pushed : (names : List (List ℕ)) (name k : List ℕ) → is_in k names ≡ true → is_in k (names ++ name ∷ []) ≡ true
name_pushed names name k h = in-append k names (name ∷ []) ∙ or_left (is_in k names) (is_in k (name ∷ [])) h

pub name_last : (names : List (List ℕ)) (name : List ℕ) → is_in name (names ++ name ∷ []) ≡ true
name_last names name = in-append name names (name ∷ []) ∙ or_right (is_in name names) (is_in name (name ∷ [])) (or_left (bytes_eq name name) false ((bytes_decides name name).1 refl))

-- of one pair more
pub pair_more : (t : Trace) (pairs : List (List ℕ × List ℕ)) (pair : List ℕ × List ℕ) (names more : List (List ℕ)) → ((k : List ℕ) → is_in k (names_of pairs) ≡ true → t.key_file k ≡ None → is_in k names ≡ true)
    → ((k : List ℕ) → is_in k names ≡ true → is_in k more ≡ true) → (t.key_file pair.0 ≡ None → is_in pair.0 more ≡ true)
    → (k : List ℕ) → is_in k (names_of (pairs ++ pair ∷ [])) ≡ true → t.key_file k ≡ None → is_in k more ≡ true
pair_more t pairs pair names more before kept added k among none = by_place (in_or_last k pair.0 (names_of pairs) (ap (is_in k) (sym (names-append pairs (pair ∷ []))) ∙ among))
  where
    by_place : (is_in k (names_of pairs) ≡ true) ⊎ (pair.0 ≡ k) → is_in k more ≡ true
    by_place (inl old) = kept k (before k old none)
    by_place (inr last) = subst (λ (n : List ℕ). is_in n more ≡ true) last (added (ap t.key_file last ∙ none))
