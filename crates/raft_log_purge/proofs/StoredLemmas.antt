-- What is stored of a group anew is all that it has in the rewrite queue.
use Rattle.std.proofs.Common.{◌≡◌, ◌≤◌, ◌<◌, ◌+◌, ℕ, suc, Bool, true, false, cond, ◌||◌, List, [], ◌∷◌, ◌++◌, length, Option, Some, None, refl, sym, ap, ◌∙◌, subst, arith, ltb-true, ltb-false, leb-false}
use Rattle.std.specs.Prelude.{nat_le, nat_lt, bytes_eq}
use Rattle.std.specs.Cmp.Lexicographic.{bytes_decides}
use Rattle.std.proofs.lemmas.Bool.{leb-true, le-leb}
use Rattle.raft_log_records.specs.Batch.{FollowOn}
use Rattle.raft_log_records.specs.Item.{Change}
use Rattle.raft_log_records.specs.Item.Change.{entries, compact, put}
use Rattle.raft_log_records.specs.Spelling.{first_index}
use Rattle.raft_log_memtables.specs.Content.{GroupContent, Content, no_group, entry_at, after_change}
use Rattle.raft_log_memtables.specs.Replay.{mark_of, content_of}
use Rattle.raft_log_covers.specs.Joined.{AreChunks, all_entries, chunk_changes}
use Rattle.raft_log_covers.specs.Kept.{HasWhole}
use Rattle.raft_log_covers.specs.Marks.{of_group, after_changes, is_in}
use Rattle.raft_log_covers.specs.Trace.{Trace}
use Rattle.raft_log_covers.proofs.CellLemmas.{records_compose}
use Rattle.raft_log_covers.proofs.JoinedLemmas.{chunks_are_run, chunks_count}
use Rattle.raft_log_covers.proofs.MarkLemmas.{in_group}
use Rattle.raft_log_purge.specs.Anew.{puts, names_of, HasPairs, stored, IsAllStored}

either_none : {X : Type 0} (b : Bool) (o : Option X) → o ≡ None → cond b o None ≡ None
either_none true o h = h
either_none false o h = refl

module _ (E : Type 0) where
  puts_unmarked : (group : ℕ) (pairs : List (List ℕ × List ℕ)) → mark_of {E = E} (of_group group (puts pairs)) ≡ None
  puts_unmarked group [] = refl
  puts_unmarked group (pair ∷ pairs) = puts_unmarked group pairs

  chunks_unmarked : (group : ℕ) (chunks : List (List (ℕ × E))) (pairs : List (List ℕ × List ℕ)) → mark_of {E = E} (of_group group (chunk_changes chunks ++ puts pairs)) ≡ None
  chunks_unmarked group [] pairs = puts_unmarked group pairs
  chunks_unmarked group (es ∷ chunks) pairs = chunks_unmarked group chunks pairs

module _ {E : Type 0} where
  pub stored_unmarked : (group limit : ℕ) (chunks : List (List (ℕ × E))) (pairs : List (List ℕ × List ℕ)) → mark_of (of_group group (stored limit chunks pairs)) ≡ None
  stored_unmarked group limit chunks pairs = chunks_unmarked E group chunks pairs

  changes-append : (changes more : List (Change E)) (g : GroupContent E) → after_changes (changes ++ more) g ≡ after_changes more (after_changes changes g)
  changes-append [] more g = refl
  changes-append (change ∷ changes) more g = changes-append changes more (after_change change g)

  -- ---- keys

  puts_there : (pairs : List (List ℕ × List ℕ)) (g : GroupContent E) → g.there ≡ true → (after_changes (puts pairs) g).there ≡ true
  puts_there [] g h = h
  puts_there (pair ∷ pairs) g h = puts_there pairs (after_change (put pair.0 pair.1) g) refl

  puts_entry : (pairs : List (List ℕ × List ℕ)) (g : GroupContent E) (i : ℕ) → (after_changes (puts pairs) g).entry i ≡ g.entry i
  puts_entry [] g i = refl
  puts_entry (pair ∷ pairs) g i = puts_entry pairs (after_change (put pair.0 pair.1) g) i

  puts_value : (pairs : List (List ℕ × List ℕ)) (g new : GroupContent E) (k : List ℕ) → HasPairs g pairs
      → (after_changes (puts pairs) new).value k ≡ cond (is_in k (names_of pairs)) (g.value k) (new.value k)
  puts_value [] g new k h = refl
  puts_value (pair ∷ pairs) g new k h = puts_value pairs g (after_change (put pair.0 pair.1) new) k h.1 ∙ by_name (bytes_eq pair.0 k) refl (is_in k (names_of pairs))
    where
      by_name : (b : Bool) → bytes_eq pair.0 k ≡ b → (d : Bool) → cond d (g.value k) (cond b (Some pair.1) (new.value k)) ≡ cond (b || d) (g.value k) (new.value k)
      by_name true e true = refl
      by_name true e false = sym (subst (λ (name : List ℕ). g.value name ≡ Some pair.1) ((bytes_decides pair.0 k).0 e) h.0)
      by_name false e d = refl

  -- ---- entries

  -- a group of which nothing but its Compact was written
  abbrev fresh : ℕ → GroupContent E
  fresh limit = after_change (compact limit) no_group

  fresh_entry : (limit i : ℕ) → (fresh limit).entry i ≡ None
  fresh_entry limit i = either_none (nat_lt i limit) None refl

  chunks_value : (chunks : List (List (ℕ × E))) (g : GroupContent E) (k : List ℕ) → (after_changes (chunk_changes chunks) g).value k ≡ g.value k
  chunks_value [] g k = refl
  chunks_value (es ∷ chunks) g k = chunks_value chunks (after_change (entries es) g) k

  chunks_there : (chunks : List (List (ℕ × E))) (g : GroupContent E) → g.there ≡ true → (after_changes (chunk_changes chunks) g).there ≡ true
  chunks_there [] g h = h
  chunks_there (es ∷ chunks) g h = chunks_there chunks (after_change (entries es) g) refl

  -- changes of a group, written behind its Compact
  behind_fresh : (limit : ℕ) (changes : List (Change E)) → mark_of (of_group 0 changes) ≡ None
      → content_of (of_group 0 (compact limit ∷ []) ∷ (of_group 0 changes ∷ [])) 0 ≡ after_changes changes (fresh limit)
  behind_fresh limit changes unmarked =
      ap (λ (s : Content E). s 0) (records_compose (of_group 0 (compact limit ∷ []) ∷ []) (of_group 0 changes ∷ []) (unmarked, tt))
      ∙ in_group 0 changes (content_of (of_group 0 (compact limit ∷ []) ∷ []))

  as_one : (limit first : ℕ) (es : List (ℕ × E)) (chunks : List (List (ℕ × E))) → AreChunks first (es ∷ chunks)
      → after_changes (chunk_changes (es ∷ chunks)) (fresh limit) ≡ after_change (entries (all_entries (es ∷ chunks))) (fresh limit)
  as_one limit first es chunks h =
      sym (behind_fresh limit (chunk_changes (es ∷ chunks)) (unmarked (es ∷ chunks)))
      ∙ ap (λ (s : Content E). s 0) (chunks_count (of_group 0 (compact limit ∷ []) ∷ []) 0 first es chunks h)
      ∙ behind_fresh limit (entries (all_entries (es ∷ chunks)) ∷ []) refl
    where
      unmarked : (cs : List (List (ℕ × E))) → mark_of (of_group 0 (chunk_changes cs)) ≡ None
      unmarked [] = refl
      unmarked (c ∷ cs) = unmarked cs

  first_of_chunks : (first : ℕ) (es : List (ℕ × E)) (more : List (ℕ × E)) → 0 < length es → FollowOn (λ e. e.0) first es → first_index (es ++ more) ≡ first
  first_of_chunks first [] more some f = absurd (omega (arith, some))
  first_of_chunks first (e ∷ es) more some f = f.0

  -- the entries of the chunks, and no others
  pub record HasChunks (first stop : ℕ) (chunks : List (List (ℕ × E))) (new : GroupContent E) : Type 0 where
    pub within : (i : ℕ) → first ≤ i → i < stop → new.entry i ≡ entry_at (all_entries chunks) i
    pub outside : (i : ℕ) → (first ≤ i → stop ≤ i) → new.entry i ≡ None

  chunks_stored : (limit first stop : ℕ) (chunks : List (List (ℕ × E))) → AreChunks first chunks → first + length (all_entries chunks) ≡ stop
      → HasChunks first stop chunks (after_changes (chunk_changes chunks) (fresh limit))
  chunks_stored limit first stop [] h until = record {
    within = λ i low high. absurd (omega (arith, low, high, until));
    outside = λ i out. fresh_entry limit i;
  }
  chunks_stored limit first stop (es ∷ chunks) h until =
      let begins : first_index (all_entries (es ∷ chunks)) ≡ first = first_of_chunks first es (all_entries chunks) h.0 h.1 in
      let ends = (chunks_are_run first es chunks h).no_more in record {
        within = λ i low high. entry i ∙ ap (λ (b : Bool). cond b (entry_at (all_entries (es ∷ chunks)) i) ((fresh limit).entry i)) (le-leb (first_index (all_entries (es ∷ chunks))) i (subst (λ (n : ℕ). n ≤ i) (sym begins) low));
        outside = λ i out. entry i ∙ by_place i out begins ends (nat_le (first_index (all_entries (es ∷ chunks))) i) refl;
      }
    where
      entry : (i : ℕ) → (after_changes (chunk_changes (es ∷ chunks)) (fresh limit)).entry i
          ≡ cond (nat_le (first_index (all_entries (es ∷ chunks))) i) (entry_at (all_entries (es ∷ chunks)) i) ((fresh limit).entry i)
      entry i = ap (λ (g : GroupContent E). g.entry i) (as_one limit first es chunks h)

      by_place : (i : ℕ) → (first ≤ i → stop ≤ i) → first_index (all_entries (es ∷ chunks)) ≡ first
          → ((j : ℕ) → first_index (all_entries (es ∷ chunks)) + length (all_entries (es ∷ chunks)) ≤ j → entry_at (all_entries (es ∷ chunks)) j ≡ None)
          → (b : Bool) → nat_le (first_index (all_entries (es ∷ chunks))) i ≡ b → cond b (entry_at (all_entries (es ∷ chunks)) i) ((fresh limit).entry i) ≡ None
      by_place i out begins ends true e =
          let low = leb-true (first_index (all_entries (es ∷ chunks))) i e in
          let high : stop ≤ i = out (subst (λ (n : ℕ). n ≤ i) begins low) in
          ends i (omega (arith, begins, until, high))
      by_place i out begins ends false e = fresh_entry limit i

  -- ---- all of them

  pub stored_whole : (t : Trace) (g : GroupContent E) (limit first stop : ℕ) (chunks : List (List (ℕ × E))) (pairs : List (List ℕ × List ℕ)) → IsAllStored t g first stop chunks pairs
      → HasWhole t g (after_changes (stored limit chunks pairs) no_group)
  stored_whole t g limit first stop chunks pairs s = subst (λ (new : GroupContent E). HasWhole t g new) (sym (changes-append (chunk_changes chunks) (puts pairs) (fresh limit))) (record {
    there = puts_there pairs (after_changes (chunk_changes chunks) (fresh limit)) (chunks_there chunks (fresh limit) refl) ∙ sym s.there;
    entries_too = λ i some none. let at = s.entries_too i some none in entry i ∙ has.within i at.0 at.1 ∙ s.same i at.0 at.1;
    no_other_entry = λ i none. entry i ∙ by_place i none (nat_le first i) refl (nat_lt i stop) refl;
    keys_too = λ k some none. value k ∙ ap (λ (b : Bool). cond b (g.value k) None) (s.keys_too k some none);
    no_other_key = λ k none. value k ∙ either_none (is_in k (names_of pairs)) (g.value k) none;
  })
    where
      has : HasChunks first stop chunks (after_changes (chunk_changes chunks) (fresh limit))
      has = chunks_stored limit first stop chunks s.chunked s.until

      entry : (i : ℕ) → (after_changes (puts pairs) (after_changes (chunk_changes chunks) (fresh limit))).entry i ≡ (after_changes (chunk_changes chunks) (fresh limit)).entry i
      entry i = puts_entry pairs (after_changes (chunk_changes chunks) (fresh limit)) i

      value : (k : List ℕ) → (after_changes (puts pairs) (after_changes (chunk_changes chunks) (fresh limit))).value k ≡ cond (is_in k (names_of pairs)) (g.value k) None
      value k = puts_value pairs g (after_changes (chunk_changes chunks) (fresh limit)) k s.values
          ∙ ap (λ (o : Option (List ℕ)). cond (is_in k (names_of pairs)) (g.value k) o) (chunks_value chunks (fresh limit) k)

      by_place : (i : ℕ) → g.entry i ≡ None → (a : Bool) → nat_le first i ≡ a → (b : Bool) → nat_lt i stop ≡ b → (after_changes (chunk_changes chunks) (fresh limit)).entry i ≡ None
      by_place i none true low true high = let a = leb-true first i low in let b = ltb-true i stop high in has.within i a b ∙ s.same i a b ∙ none
      by_place i none true low false high = has.outside i (λ from. ltb-false i stop high)
      by_place i none false low b high = has.outside i (λ from. let below : suc i ≤ first = leb-false first i low in absurd (omega (arith, from, below)))
