-- A group that is written, from stage to stage.
use Rattle.std.proofs.Common.{◌≡◌, ◌⊎◌, inl, inr, ℕ, ◌&&◌, ◌+◌, ◌<◌, ◌≤◌, Bool, true, false, cond, ◌||◌, List, [], ◌∷◌, ◌++◌, length, Option, Some, None, refl, sym, ap, subst, ◌∙◌, arith, append_assoc, append-nil, length-append, ltb-true, ltb-false}
use Rattle.std.specs.Prelude.{IsSome, bytes_eq, nat_eq, nat_lt}
use Rattle.std.specs.Cmp.Lexicographic.{bytes_decides}
use Rattle.std.proofs.lemmas.Bool.{eqb-true, eq-eqb, or_left, or_right}
use Rattle.raft_log_records.specs.Batch.{FollowOn, numbered, run_of}
use Rattle.raft_log_records.specs.Item.{Change}
use Rattle.raft_log_records.specs.Item.Change.{clean, compact, entries, put}
use Rattle.raft_log_file.specs.Laws.{Batch}
use Rattle.raft_log_memtables.specs.Content.{Content, GroupContent, entry_at}
use Rattle.raft_log_memtables.specs.Entries.{or_else}
use Rattle.raft_log_memtables.specs.Laws.{all_of}
use Rattle.raft_log_memtables.specs.Replay.{mark_of}
use Rattle.raft_log_covers.specs.Cells.{batch_sets, batches_set}
use Rattle.raft_log_covers.specs.Cells.Cell.{presence}
use Rattle.raft_log_covers.specs.Joined.{AreChunks, all_entries, chunk_changes, without_marks}
use Rattle.raft_log_covers.specs.Kept.{Traces}
use Rattle.raft_log_covers.specs.Marks.{is_in, of_group}
use Rattle.raft_log_covers.specs.Written.{Written, all_batches, all_records, batch_of, records_of}
use Rattle.raft_log_covers.specs.Written.Written.{alone, grouped, unended}
use Rattle.raft_log_covers.proofs.FileLemmas.{not_there}
use Rattle.raft_log_purge.specs.Anew.{HasPairs, IsGroupAnew, Names, names_of, puts, stored}
use Rattle.raft_log_purge.proofs.RewrittenAnew.{stored_groups_are_anew}
use Rattle.raft_log_cleaner.specs.Written.{written_at}
use Rattle.raft_log_rewriter.specs.Parts.{AreEnded, AreStoredNames, HasEntries, HasKeys, HasParts, IsAmong, IsEnded, IsStoredRange, Open, items_of_open, unended_of}
use Rattle.raft_log_rewriter.specs.Parts.Open.{begun, closed}
use Rattle.raft_log_rewriter.proofs.Items.{all-append, all-last, is_among_after, is_among_unmarked, mark-append, sets-append, some_else, some_front, unmarked-append, unmarked_stay}
use Rattle.raft_log_rewriter.proofs.Marked.{groups_last, records_last}

-- ---- items more

pub parts_more : (content : Content (List ℕ)) (traces : Traces) (ws : List (Written (List ℕ))) (o : Open) (items part more : Batch) → mark_of more ≡ None → HasParts content traces ws o items part
    → HasParts content traces ws o (items ++ more) (part ++ more)
parts_more content traces ws o items part more unmarked p = record {
  ended = p.ended;
  unmarked = mark-append items more p.unmarked ∙ unmarked;
  parts = p.parts;
  groups = p.groups;
  holds =
      ap without_marks (sym (append_assoc (items_of_open o) items more))
      ∙ unmarked-append (items_of_open o ++ items) more
      ∙ (λ j. p.holds j ++ unmarked_stay more unmarked j)
      ∙ append_assoc (all_of p.parts) part more;
}

-- the group that was written is whole
pub parts_closed : (content : Content (List ℕ)) (traces : Traces) (ws : List (Written (List ℕ))) (o : Open) (items part : Batch) → IsGroupAnew content traces part → HasParts content traces ws o items part
    → HasParts content traces ws o items []
parts_closed content traces ws o items part group p = record {
  ended = p.ended;
  unmarked = p.unmarked;
  parts = p.parts ++ part ∷ [];
  groups = groups_last content traces p.parts part p.groups group;
  holds = p.holds ∙ sym (all-last p.parts part) ∙ sym (append-nil (all_of (p.parts ++ part ∷ [])));
}

-- ---- entries that follow one another

abbrev Entries : Type 0
Entries = List (ℕ × List ℕ)

pub follow-numbered : (first : ℕ) (parts : List (List ℕ)) → FollowOn (λ e. e.0) first (numbered first parts)
follow-numbered first [] = tt
follow-numbered first (e ∷ es) = (refl, follow-numbered (first + 1) es)

length-numbered : (first : ℕ) (parts : List (List ℕ)) → length (numbered first parts) ≡ length parts
length-numbered first [] = refl
length-numbered first (e ∷ es) = let rest = length-numbered (first + 1) es in omega (arith, rest)

none_before : (es : Entries) (first i : ℕ) → FollowOn (λ e. e.0) first es → i < first → entry_at es i ≡ None
none_before [] first i f h = refl
none_before (e ∷ es) first i f h = by_test (nat_eq e.0 i) refl (none_before es (first + 1) i f.1 (omega (arith, h)))
  where
    by_test : (b : Bool) → nat_eq e.0 i ≡ b → entry_at es i ≡ None → cond b (Some e.1) (entry_at es i) ≡ None
    by_test true x rest = let same = eqb-true e.0 i x in absurd (omega (arith, f.0, h, same))
    by_test false x rest = rest

at_low : (es more : Entries) (first i : ℕ) → FollowOn (λ e. e.0) first more → i < first → entry_at (es ++ more) i ≡ entry_at es i
at_low [] more first i f h = none_before more first i f h
at_low (e ∷ es) more first i f h = ap (λ (o : Option (List ℕ)). cond (nat_eq e.0 i) (Some e.1) o) (at_low es more first i f h)

at_high : (es more : Entries) (first i : ℕ) → FollowOn (λ e. e.0) first es → first + length es ≤ i → entry_at (es ++ more) i ≡ entry_at more i
at_high [] more first i f h = refl
at_high (e ∷ es) more first i f h = by_test (nat_eq e.0 i) refl (at_high es more (first + 1) i f.1 (omega (arith, h)))
  where
    by_test : (b : Bool) → nat_eq e.0 i ≡ b → entry_at (es ++ more) i ≡ entry_at more i → cond b (Some e.1) (entry_at (es ++ more) i) ≡ entry_at more i
    by_test true x rest = let same = eqb-true e.0 i x in absurd (omega (arith, f.0, h, same))
    by_test false x rest = rest

follow-append : (es more : Entries) (first : ℕ) → FollowOn (λ e. e.0) first es → FollowOn (λ e. e.0) (first + length es) more → FollowOn (λ e. e.0) first (es ++ more)
follow-append [] more first f g = subst (λ (n : ℕ). FollowOn (λ (e : ℕ × List ℕ). e.0) n more) (omega arith) g
follow-append (e ∷ es) more first f g = (f.0, follow-append es more (first + 1) f.1 (subst (λ (n : ℕ). FollowOn (λ (e : ℕ × List ℕ). e.0) n more) (omega arith) g))

-- ---- chunks

follow-chunks : (chunks : List Entries) (first : ℕ) → AreChunks first chunks → FollowOn (λ e. e.0) first (all_entries chunks)
follow-chunks [] first are = tt
follow-chunks (es ∷ chunks) first are = follow-append es (all_entries chunks) first are.1 (follow-chunks chunks (first + length es) are.2)

all-chunks : (chunks : List Entries) (es : Entries) → all_entries (chunks ++ es ∷ []) ≡ all_entries chunks ++ es
all-chunks [] es = append-nil es
all-chunks (x ∷ chunks) es = ap (λ (l : Entries). x ++ l) (all-chunks chunks es) ∙ sym (append_assoc x (all_entries chunks) es)

chunks_last : (chunks : List Entries) (first begin : ℕ) (es : Entries) → AreChunks first chunks → first + length (all_entries chunks) ≡ begin → 0 < length es → FollowOn (λ e. e.0) begin es → AreChunks first (chunks ++ es ∷ [])
chunks_last [] first begin es are until some f = (some, subst (λ (n : ℕ). FollowOn (λ (e : ℕ × List ℕ). e.0) n es) (omega (arith, until)) f, tt)
chunks_last (x ∷ chunks) first begin es are until some f =
    (are.0, are.1, chunks_last chunks (first + length x) begin es are.2 (omega (arith, until, length-append x (all_entries chunks))) some f)

changes-chunks : (chunks : List Entries) (es : Entries) → chunk_changes (chunks ++ es ∷ []) ≡ chunk_changes chunks ++ entries es ∷ []
changes-chunks [] es = refl
changes-chunks (x ∷ chunks) es = ap (λ (l : List (Change (List ℕ))). entries x ∷ l) (changes-chunks chunks es)

group-append : (group : ℕ) (changes more : List (Change (List ℕ))) → of_group group (changes ++ more) ≡ of_group group changes ++ of_group group more
group-append group [] more = refl
group-append group (c ∷ changes) more = ap (λ (l : Batch). record { group = group; change = c } ∷ l) (group-append group changes more)

-- ---- a group begins

pub entries_begun : (g : GroupContent (List ℕ)) (group first : ℕ) (part : Batch) → g.there ≡ true → part ≡ [] → HasEntries g group first first (part ++ of_group group (clean ∷ (compact 0 ∷ [])))
entries_begun g group first part there is = record {
  limit = 0;
  chunks = [];
  there = there;
  written = ap (λ (l : Batch). l ++ of_group group (clean ∷ (compact 0 ∷ []))) is;
  chunked = tt;
  until = omega arith;
  same = λ i low high. absurd (omega (arith, low, high));
}

-- entries more
pub chunk_added : (g : GroupContent (List ℕ)) (group first begin : ℕ) (part : Batch) (parts : List (List ℕ)) → 0 < length parts
    → ((i : ℕ) → begin ≤ i → i < begin + length parts → entry_at (numbered begin parts) i ≡ g.entry i) → HasEntries g group first begin part
    → HasEntries g group first (begin + length parts) (part ++ run_of group begin parts ∷ [])
chunk_added g group first begin part parts some same h =
    let es : Entries = numbered begin parts in
    let len : length es ≡ length parts = length-numbered begin parts in
    let follow : FollowOn (λ e. e.0) begin es = follow-numbered begin parts in
    let old : FollowOn (λ e. e.0) first (all_entries h.chunks) = follow-chunks h.chunks first h.chunked in
    record {
      limit = h.limit;
      chunks = h.chunks ++ es ∷ [];
      there = h.there;
      written =
          ap (λ (l : Batch). l ++ run_of group begin parts ∷ []) h.written
          ∙ sym (group-append group (clean ∷ (compact h.limit ∷ chunk_changes h.chunks)) (entries es ∷ []))
          ∙ ap (λ (l : List (Change (List ℕ))). of_group group (clean ∷ (compact h.limit ∷ l))) (sym (changes-chunks h.chunks es));
      chunked = chunks_last h.chunks first begin es h.chunked h.until (omega (arith, len, some)) follow;
      until = omega (arith, ap length (all-chunks h.chunks es), length-append (all_entries h.chunks) es, len, h.until);
      same = λ i low high. ap (λ (l : Entries). entry_at l i) (all-chunks h.chunks es) ∙ by_place i low high es refl follow old (nat_lt i begin) refl;
    }
  where
    by_place : (i : ℕ) → first ≤ i → i < begin + length parts → (es : Entries) → es ≡ numbered begin parts → FollowOn (λ e. e.0) begin es → FollowOn (λ e. e.0) first (all_entries h.chunks) → (b : Bool) → nat_lt i begin ≡ b
        → entry_at (all_entries h.chunks ++ es) i ≡ g.entry i
    by_place i low high es is follow old true below = let less = ltb-true i begin below in at_low (all_entries h.chunks) es begin i follow less ∙ h.same i low less
    by_place i low high es is follow old false above =
        let more = ltb-false i begin above in
        at_high (all_entries h.chunks) es first i old (omega (arith, h.until, more)) ∙ ap (λ (l : Entries). entry_at l i) is ∙ same i more high

-- ---- its keys

puts-append : (pairs more : List (List ℕ × List ℕ)) → puts {E = List ℕ} (pairs ++ more) ≡ puts pairs ++ puts more
puts-append [] more = refl
puts-append (pair ∷ pairs) more = ap (λ (l : List (Change (List ℕ))). put pair.0 pair.1 ∷ l) (puts-append pairs more)

pub names-append : (pairs more : List (List ℕ × List ℕ)) → names_of (pairs ++ more) ≡ names_of pairs ++ names_of more
names-append [] more = refl
names-append (pair ∷ pairs) more = ap (λ (l : List (List ℕ)). pair.0 ∷ l) (names-append pairs more)

or_or : (a b c : Bool) → ((a || b) || c) ≡ (a || (b || c))
or_or true b c = refl
or_or false b c = refl

pub in-append : (k : List ℕ) (names more : List (List ℕ)) → is_in k (names ++ more) ≡ (is_in k names || is_in k more)
in-append k [] more = refl
in-append k (name ∷ names) more = ap (λ (b : Bool). bytes_eq name k || b) (in-append k names more) ∙ sym (or_or (bytes_eq name k) (is_in k names) (is_in k more))

pairs_last : (g : GroupContent (List ℕ)) (pairs : List (List ℕ × List ℕ)) (name value : List ℕ) → g.value name ≡ Some value → HasPairs g pairs → HasPairs g (pairs ++ (name, value) ∷ [])
pairs_last g [] name value is has = (is, tt)
pairs_last g (pair ∷ pairs) name value is has = (has.0, pairs_last g pairs name value is has.1)

pub keys_begun : (g : GroupContent (List ℕ)) (group first stop : ℕ) (part : Batch) → HasEntries g group first stop part → HasKeys g group first stop [] part
keys_begun g group first stop part h = record {
  limit = h.limit;
  chunks = h.chunks;
  pairs = [];
  there = h.there;
  written = h.written ∙ ap (λ (l : List (Change (List ℕ))). of_group group (clean ∷ (compact h.limit ∷ l))) (sym (append-nil (chunk_changes h.chunks)));
  chunked = h.chunked;
  until = h.until;
  same = h.same;
  values = tt;
  named = λ k is some. absurd cc;
}

-- the name is among those, or is the last one
pub in_or_last : (k name : List ℕ) (names : List (List ℕ)) → is_in k (names ++ name ∷ []) ≡ true → (is_in k names ≡ true) ⊎ (name ≡ k)
in_or_last k name names is = by_test (is_in k names) refl (bytes_eq name k) refl (sym (in-append k names (name ∷ [])) ∙ is)
  where
    by_test : (a : Bool) → is_in k names ≡ a → (b : Bool) → bytes_eq name k ≡ b → (is_in k names || (bytes_eq name k || false)) ≡ true → (is_in k names ≡ true) ⊎ (name ≡ k)
    by_test true e b f h = inl e
    by_test false e true f h = inr ((bytes_decides name k).0 f)
    by_test false e false f h = absurd (let both : (false || (false || false)) ≡ true = (λ j. sym e j || (sym f j || false)) ∙ h in cc)

pub key_added : (g : GroupContent (List ℕ)) (group first stop : ℕ) (names : List (List ℕ)) (part : Batch) (name value : List ℕ) → g.value name ≡ Some value → HasKeys g group first stop names part
    → HasKeys g group first stop (names ++ name ∷ []) (part ++ record { group = group; change = put name value } ∷ [])
key_added g group first stop names part name value is h = record {
  limit = h.limit;
  chunks = h.chunks;
  pairs = h.pairs ++ (name, value) ∷ [];
  there = h.there;
  written =
      ap (λ (l : Batch). l ++ record { group = group; change = put name value } ∷ []) h.written
      ∙ sym (group-append group (clean ∷ stored h.limit h.chunks h.pairs) (put name value ∷ []))
      ∙ ap (λ (l : List (Change (List ℕ))). of_group group (clean ∷ (compact h.limit ∷ l)))
      (append_assoc (chunk_changes h.chunks) (puts h.pairs) (put name value ∷ []) ∙ ap (λ (l : List (Change (List ℕ))). chunk_changes h.chunks ++ l) (sym (puts-append h.pairs ((name, value) ∷ []))));
  chunked = h.chunked;
  until = h.until;
  same = h.same;
  values = pairs_last g h.pairs name value is h.values;
  named = λ k among some. ap (is_in k) (names-append h.pairs ((name, value) ∷ [])) ∙ in-append k (names_of h.pairs) (name ∷ []) ∙ by_name k some (in_or_last k name names among);
}
  where
    by_name : (k : List ℕ) → IsSome (g.value k) → (is_in k names ≡ true) ⊎ (name ≡ k) → (is_in k (names_of h.pairs) || (bytes_eq name k || false)) ≡ true
    by_name k some (inl before) = or_left (is_in k (names_of h.pairs)) (bytes_eq name k || false) (h.named k before some)
    by_name k some (inr last) = or_right (is_in k (names_of h.pairs)) (bytes_eq name k || false) (or_left (bytes_eq name k) false ((bytes_decides name k).1 last))

-- a key that isn't there
pub key_gone : (g : GroupContent (List ℕ)) (group first stop : ℕ) (names : List (List ℕ)) (part : Batch) (name : List ℕ) → g.value name ≡ None → HasKeys g group first stop names part
    → HasKeys g group first stop (names ++ name ∷ []) part
key_gone g group first stop names part name gone h = record {
  limit = h.limit;
  chunks = h.chunks;
  pairs = h.pairs;
  there = h.there;
  written = h.written;
  chunked = h.chunked;
  until = h.until;
  same = h.same;
  values = h.values;
  named = λ k among some. by_name k some (in_or_last k name names among);
}
  where
    by_name : (k : List ℕ) → IsSome (g.value k) → (is_in k names ≡ true) ⊎ (name ≡ k) → is_in k (names_of h.pairs) ≡ true
    by_name k some (inl before) = h.named k before some
    by_name k some (inr last) = not_there (g.value k) (sym (ap g.value last) ∙ gone) some

-- ---- the group is whole

module _ (content : Content (List ℕ)) (traces : Traces) (group first stop : ℕ) (names : List (List ℕ)) (part : Batch) (h : HasKeys (content group) group first stop names part) (range : IsStoredRange (traces group) first stop)
    (ends : (i : ℕ) → IsSome ((content group).entry i) → ((traces group).low ≤ i) × (i < (traces group).next)) where
  in_range : (i : ℕ) → IsSome ((content group).entry i) → (traces group).entry_file i ≡ None → (first ≤ i) × (i < stop)
  in_range i some none = let within = ends i some in range.all i within.0 within.1 none

  pub group_closed : AreStoredNames (traces group) (content group).value names → IsGroupAnew content traces part
  group_closed all =
      subst (λ (l : Batch). IsGroupAnew content traces l) (sym h.written)
      (stored_groups_are_anew traces content group h.limit first stop h.chunks h.pairs (record {
        there = h.there;
        chunked = h.chunked;
        until = h.until;
        same = h.same;
        entries_too = in_range;
        values = h.values;
        keys_too = λ k some none. h.named k (all k some none) some;
      }))

  -- its entries are written
  some_either : (es more : Entries) (i : ℕ) → IsSome (entry_at (es ++ more) i) → IsSome (entry_at es i) ⊎ IsSome (entry_at more i)
  some_either [] more i some = inr some
  some_either (e ∷ es) more i some = by_test (nat_eq e.0 i) refl (some_either es more i) some
    where
      by_test : (b : Bool) → nat_eq e.0 i ≡ b → (IsSome (entry_at (es ++ more) i) → IsSome (entry_at es i) ⊎ IsSome (entry_at more i)) → IsSome (cond b (Some e.1) (entry_at (es ++ more) i))
          → IsSome (cond b (Some e.1) (entry_at es i)) ⊎ IsSome (entry_at more i)
      by_test true x rest h = inl refl
      by_test false x rest h = rest h

  chunks_written : (chunks : List Entries) (more : List (Change (List ℕ))) (i : ℕ) → IsSome (entry_at (all_entries chunks) i) → IsSome (written_at (of_group group (chunk_changes chunks ++ more)) group i)
  chunks_written [] more i some = absurd cc
  chunks_written (es ∷ chunks) more i some = by_chunk (some_either es (all_entries chunks) i some) (chunks_written chunks more i)
    where
      by_chunk : IsSome (entry_at es i) ⊎ IsSome (entry_at (all_entries chunks) i) → (IsSome (entry_at (all_entries chunks) i) → IsSome (written_at (of_group group (chunk_changes chunks ++ more)) group i))
          → IsSome (or_else (written_at (of_group group (chunk_changes chunks ++ more)) group i) (cond (nat_eq group group) (entry_at es i) None))
      by_chunk (inl here) later =
          some_else (written_at (of_group group (chunk_changes chunks ++ more)) group i) (cond (nat_eq group group) (entry_at es i) None)
          (subst (λ (b : Bool). IsSome (cond b (entry_at es i) None)) (sym (eq-eqb group group refl)) here)
      by_chunk (inr there) later = some_front (written_at (of_group group (chunk_changes chunks ++ more)) group i) (cond (nat_eq group group) (entry_at es i) None) (later there)

  pub group_among : IsAmong (content group) (traces group) group part
  group_among = subst (λ (l : Batch). IsAmong (content group) (traces group) group l) (sym h.written) (record {
    named = or_left (nat_eq group group && true) (batch_sets (of_group group (stored h.limit h.chunks h.pairs)) group presence) (ap (λ (b : Bool). b && true) (eq-eqb group group refl));
    entries = λ i some none.
        let at = in_range i some none in
        some_front (some_front_of i) (cond (nat_eq group group) None None)
        (some_front (written_at (of_group group (chunk_changes h.chunks ++ puts h.pairs)) group i) (cond (nat_eq group group) None None)
        (chunks_written h.chunks (puts h.pairs) i (subst (λ (o : Option (List ℕ)). IsSome o) (sym (h.same i at.0 at.1)) some)));
  })
    where
      some_front_of : (i : ℕ) → Option (List ℕ)
      some_front_of i = or_else (written_at (of_group group (chunk_changes h.chunks ++ puts h.pairs)) group i) (cond (nat_eq group group) None None)

-- ---- all that was written

pub open_items : (ws : List (Written (List ℕ))) (o : Open) → all_of (all_records (ws ++ unended_of o)) ≡ all_of (all_records ws) ++ items_of_open o
open_items ws closed = ap (λ (l : List (Written (List ℕ))). all_of (all_records l)) (append-nil ws) ∙ sym (append-nil (all_of (all_records ws)))
open_items ws (begun id first middles) = ap all_of (records_last ws (unended id first middles)) ∙ all-append (all_records ws) (first ∷ middles)

pub among_closed : (content : Content (List ℕ)) (traces : Traces) (ws : List (Written (List ℕ))) (o : Open) (items part : Batch) (group : ℕ) → HasParts content traces ws o items part → IsAmong (content group) (traces group) group part
    → IsAmong (content group) (traces group) group (all_of (all_records (ws ++ unended_of o)) ++ items)
among_closed content traces ws o items part group p is =
    subst (λ (l : Batch). IsAmong (content group) (traces group) group l)
    (sym (append_assoc (all_of (all_records ws)) (items_of_open o) items) ∙ ap (λ (l : Batch). l ++ items) (sym (open_items ws o)))
    (is_among_after (content group) (traces group) group (all_of (all_records ws)) (items_of_open o ++ items)
    (is_among_unmarked (content group) (traces group) group (items_of_open o ++ items)
    (subst (λ (l : Batch). IsAmong (content group) (traces group) group l) (sym p.holds) (is_among_after (content group) (traces group) group (all_of p.parts) part is))))

one_batch : (w : Written (List ℕ)) → IsEnded w → all_of (records_of w) ≡ batch_of w
one_batch (alone items) is = append-nil items
one_batch (grouped id first middles last) is = ap (λ (l : Batch). first ++ l) (all-last middles last)
one_batch (unended id first middles) is = absurd is

pub ended_names : (ws : List (Written (List ℕ))) (group : ℕ) → AreEnded ws → batch_sets (all_of (all_records ws)) group presence ≡ true → Names ws group
ended_names ws group are set = sym (same ws are) ∙ set
  where
    same : (ws : List (Written (List ℕ))) → AreEnded ws → batch_sets (all_of (all_records ws)) group presence ≡ batches_set (all_batches ws) group presence
    same [] are = refl
    same (w ∷ ws) are =
        ap (λ (l : Batch). batch_sets l group presence) (all-append (records_of w) (all_records ws))
        ∙ sets-append (all_of (records_of w)) (all_of (all_records ws)) group
        ∙ (λ j. batch_sets (one_batch w are.0 j) group presence || same ws are.1 j)
