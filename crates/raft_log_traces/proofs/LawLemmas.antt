-- Laws of traces.
use Rattle.std.proofs.Common.{◌≡◌, ◌≤◌, ◌<◌, ◌+◌, ℕ, Bool, true, false, cond, List, [], ◌∷◌, length, map, Option, refl, sym, ap, subst, ◌∙◌, arith, ltb-true, ltb-false}
use Rattle.std.specs.Prelude.{nat_eq, nat_lt, is_some}
use Rattle.std.proofs.lemmas.List.{length-map}
use Rattle.raft_log_records.specs.Item.{Change, Item, change_map, item_map}
use Rattle.raft_log_records.specs.Item.Change.{entries, clean, compact, put, delete, mark}
use Rattle.raft_log_records.specs.Spelling.{first_index}
use Rattle.raft_log_memtables.specs.Content.{GroupContent}
use Rattle.raft_log_covers.specs.Cells.{Cell}
use Rattle.raft_log_covers.specs.Cells.Cell.{presence, index, key}
use Rattle.raft_log_covers.specs.Account.{IsFrom}
use Rattle.raft_log_covers.specs.Marks.{Names}
use Rattle.raft_log_covers.specs.Trace.{Trace, file_of, IsBounded, Bounds, Knows, TellsFiles, entered, trace_after}
use Rattle.raft_log_covers.specs.Kept.{Traces, traces_after, traces_after_item}
use Rattle.raft_log_traces.specs.Alike.{IsAlike}
use Rattle.raft_log_traces.specs.Files.{KeepsFrom}
use Rattle.raft_log_traces.specs.TraceLaws.{AlikeTracesKeep, KeptFilesTell, EntriesSayNothing}

alike_file : {E : Type 0} (t u : Trace) (g : GroupContent E) (c : Cell) → IsAlike t u → file_of t g c ≡ file_of u g c
alike_file t u g presence a = a.since
alike_file t u g (index i) a = λ j. cond (nat_lt i (a.low j)) (a.since j) (cond (nat_lt i (a.next j)) (a.entry_file i j) (a.tail j))
alike_file t u g (key k) a = λ j. cond (is_some (g.value k)) (a.key_file k j) (a.since j)

alike_bounds : {E : Type 0} (t u : Trace) (g : GroupContent E) (names : Names) → IsAlike t u → Bounds t g names → Bounds u g names
alike_bounds t u g names a b c = subst (λ (o : Option ℕ). IsBounded (names c) o) (alike_file t u g c a) (b c)

alike_knows : {E : Type 0} (t u : Trace) (older g : GroupContent E) (names : Names) → IsAlike t u → Knows t older g names → Knows u older g names
alike_knows t u older g names a k = record {
  below = λ i l. k.below i (subst (λ (n : ℕ). i < n) (sym a.low) l);
  above = λ i l m. k.above i (subst (λ (n : ℕ). n ≤ i) (sym a.low) l) (subst (λ (n : ℕ). n ≤ i) (sym a.next) m);
  ends = let e = k.ends in let p = a.next in let q = a.top in omega (arith, e, p, q);
  empty_top = λ h.
      let p = a.next in
      let q = a.top in
      let r = a.low in
      let e : t.top ≤ t.low = k.empty_top (omega (arith, h, p, r)) in
      omega (arith, e, q, r);
  past = λ c i l. k.past (a.cleaned ∙ c) i (subst (λ (n : ℕ). n ≤ i) (sym a.top) l);
  gone = λ name h. k.gone name (a.deleted name ∙ h);
  all_gone = λ c name v h. k.all_gone (a.cleaned ∙ c) name v (a.deleted name ∙ h);
  entries_since = λ c. k.entries_since (a.cleaned ∙ c);
  keys_since = λ c. k.keys_since (a.cleaned ∙ c);
}

alike_files : {E : Type 0} (t u : Trace) (g : GroupContent E) (names : Names) → IsAlike t u → TellsFiles t g names → TellsFiles u g names
alike_files t u g names a f = record {
  entries_named = λ i s. f.entries_named i s ∙ a.entry_file i;
  keys_named = λ k s. f.keys_named k s ∙ a.key_file k;
}

pub alike_traces_keep : {E : Type 0} → AlikeTracesKeep E
alike_traces_keep traces others account records content bs k a = record {
  accounted = k.accounted;
  bounds = λ group. alike_bounds (traces group) (others group) (content group) (account group) (a group) (k.bounds group);
  knows = λ group. alike_knows (traces group) (others group) _ (content group) (account group) (a group) (k.knows group);
  files = λ group. alike_files (traces group) (others group) (content group) (account group) (a group) (k.files group);
}

-- ---- files

tells : {E : Type 0} (first : ℕ) (t : Trace) (g : GroupContent E) (c : Cell) → KeepsFrom first t → IsFrom first (file_of t g c)
tells first t g presence k = k.since
tells first t g (index i) k = by_place (nat_lt i t.low) refl (nat_lt i t.next) refl
  where
    by_place : (b : Bool) → nat_lt i t.low ≡ b → (d : Bool) → nat_lt i t.next ≡ d → IsFrom first (cond b t.since (cond d (t.entry_file i) t.tail))
    by_place true e d f = k.since
    by_place false e true f = k.entries i (ltb-false i t.low e) (ltb-true i t.next f)
    by_place false e false f = k.tail
tells first t g (key name) k = by_test (is_some (g.value name))
  where
    by_test : (b : Bool) → IsFrom first (cond b (t.key_file name) t.since)
    by_test true = k.keys name
    by_test false = k.since

pub kept_files_tell : {E : Type 0} → KeptFilesTell E
kept_files_tell traces content first k group c = tells first (traces group) (content group) c (k group)

-- ---- entries seen in another way

same_first : {E F : Type 0} (f : E → F) (es : List (ℕ × E)) → first_index (map (λ e. (e.0, f e.1)) es) ≡ first_index es
same_first f [] = refl
same_first f (e ∷ es) = refl

change_seen : {E F : Type 0} (f : E → F) (file : ℕ) (c : Change E) (t : Trace) → trace_after file (change_map f c) t ≡ trace_after file c t
change_seen f file (entries es) t =
    let first = same_first f es in
    let count : length (map (λ e. (e.0, f e.1)) es) ≡ length es = length-map es (λ e. (e.0, f e.1)) in
    λ j. entered file (first j) (first j + count j) t (nat_lt t.low t.next)
change_seen f file clean t = refl
change_seen f file (compact limit) t = refl
change_seen f file (put name value) t = refl
change_seen f file (delete name) t = refl
change_seen f file (mark id status) t = refl

item_seen : {E F : Type 0} (f : E → F) (file : ℕ) (item : Item E) (traces : Traces) → traces_after_item file (item_map f item) traces ≡ traces_after_item file item traces
item_seen f file item traces = λ j. λ group. cond (nat_eq item.group group) (change_seen f file item.change (traces group) j) (traces group)

items_seen : {E F : Type 0} (f : E → F) (file : ℕ) (items : List (Item E)) (traces : Traces) → traces_after file (map (item_map f) items) traces ≡ traces_after file items traces
items_seen f file [] traces = refl
items_seen f file (item ∷ items) traces = ap (traces_after file (map (item_map f) items)) (item_seen f file item traces) ∙ items_seen f file items (traces_after_item file item traces)

pub entries_say_nothing : {E F : Type 0} → EntriesSayNothing E F
entries_say_nothing f file items traces group = ap (λ (ts : Traces). ts group) (items_seen f file items traces)
