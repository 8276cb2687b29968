-- Entries placed in their block one after the other have their bytes.
use Rattle.std.proofs.Common.{◌≡◌, ℕ, ◌+◌, Bool, false, List, [], ◌∷◌, ◌++◌, length, map, take, refl, sym, ap, ◌∙◌, append_assoc, arith, length-append}
use Rattle.std.specs.Prelude.{◌||◌}
use Rattle.std.specs.List.{flat_map, list_any}
use Rattle.std.proofs.lemmas.List.{append-nil, take_at, drop_at}
use Rattle.std.proofs.lemmas.List.Concat.{flat_map-cons}
use Rattle.std.proofs.lemmas.Bool.{or_parts}
use Rattle.raft_log_records.specs.declared.item.EntryIndex.{EntryIndex}
use Rattle.raft_log_records.specs.Item.{Change, Item, place, change_map, entry_bytes, with_bytes}
use Rattle.raft_log_records.specs.Item.Change.{entries, clean, compact, put, delete, mark}
use Rattle.raft_log_records.specs.Spelling.{entries_of, holds_entries, is_entries, block_of}
use Rattle.raft_log_records.specs.Places.{indexed, runs, run_end, placed_change, change_end, placed}
use Rattle.raft_log_records.proofs.Again.{placed_end}

-- the bytes of an item's entries
abbrev pub change_block : Change (List ℕ) → List ℕ
change_block c = flat_map (λ bytes. bytes) (entries_of c)

abbrev pub bytes_in : List (ℕ × List ℕ) → List (List ℕ)
bytes_in es = map {A = ℕ × List ℕ} {B = List ℕ} (λ e. e.1) es

block_cons : (item : Item (List ℕ)) (items : List (Item (List ℕ))) → block_of (item ∷ items) ≡ change_block item.change ++ block_of items
block_cons item items = flat_map-cons (λ (i : Item (List ℕ)). flat_map (λ bytes. bytes) (entries_of i.change)) item items

pub run_end_is : (at : ℕ) (es : List (ℕ × List ℕ)) → run_end at es ≡ at + length (flat_map (λ bytes. bytes) (bytes_in es))
run_end_is at [] = omega arith
run_end_is at (e ∷ es) =
    let rest = run_end_is (at + length e.1) es in
    let whole = ap length (flat_map-cons (λ (bytes : List ℕ). bytes) e.1 (bytes_in es)) in
    omega (arith, length-append e.1 (flat_map (λ bytes. bytes) (bytes_in es)))

change_end_is : (at : ℕ) (c : Change (List ℕ)) → change_end at c ≡ at + length (change_block c)
change_end_is at (entries es) = run_end_is at es
change_end_is at clean = omega arith
change_end_is at (compact index) = omega arith
change_end_is at (put key value) = omega arith
change_end_is at (delete key) = omega arith
change_end_is at (mark id status) = omega arith

pub placed_end_is : (at : ℕ) (items : List (Item (List ℕ))) → placed_end at items ≡ at + length (block_of items)
placed_end_is at [] = omega arith
placed_end_is at (item ∷ items) =
    let one = change_end_is at item.change in
    let rest = placed_end_is (change_end at item.change) items in
    let whole = ap length (block_cons item items) in
    omega (arith, length-append (change_block item.change) (block_of items))

-- ---- which items hold entries

kept : (at : ℕ) (c : Change (List ℕ)) → is_entries (placed_change at c) ≡ is_entries c
kept at (entries es) = refl
kept at clean = refl
kept at (compact index) = refl
kept at (put key value) = refl
kept at (delete key) = refl
kept at (mark id status) = refl

pub placed_held : (at : ℕ) (items : List (Item (List ℕ))) → list_any holds_entries (placed at items) ≡ list_any holds_entries items
placed_held at [] = refl
placed_held at (item ∷ items) =
    ap (λ (b : Bool). b || list_any holds_entries (placed (change_end at item.change) items)) (kept at item.change)
    ∙ ap (λ (b : Bool). holds_entries item || b) (placed_held (change_end at item.change) items)

nothing_in : (c : Change (List ℕ)) → is_entries c ≡ false → change_block c ≡ []
nothing_in (entries es) h = absurd cc
nothing_in clean h = refl
nothing_in (compact index) h = refl
nothing_in (put key value) h = refl
nothing_in (delete key) h = refl
nothing_in (mark id status) h = refl

pub none_block : (items : List (Item (List ℕ))) → list_any holds_entries items ≡ false → block_of items ≡ []
none_block [] h = refl
none_block (item ∷ items) h =
    let both = or_parts (holds_entries item) (list_any holds_entries items) h in
    block_cons item items ∙ ap (λ (l : List ℕ). l ++ block_of items) (nothing_in item.change both.0) ∙ none_block items both.1

-- ---- their bytes

one_entry : (pre bytes post : List ℕ) (index : ℕ) → entry_bytes (pre ++ (bytes ++ post)) (place index (length pre) (length bytes)) ≡ bytes
one_entry pre bytes post index = ap (λ (l : List ℕ). take (length bytes) l) (drop_at pre (bytes ++ post) (length pre) refl) ∙ take_at bytes post (length bytes) refl

abbrev Placed : Type 0
Placed = List (ℕ × List ℕ)

seen : List ℕ → List (ℕ × EntryIndex) → Placed
seen block es = map {A = ℕ × EntryIndex} {B = ℕ × List ℕ} (λ e. (e.0, entry_bytes block e.1)) es

run_placed : (pre : List ℕ) (es : Placed) (post : List ℕ) → seen (pre ++ (flat_map (λ bytes. bytes) (bytes_in es) ++ post)) (indexed (runs (length pre) es)) ≡ es
unfolding seen
run_placed pre [] post = refl
run_placed pre (e ∷ es) post =
    let more = flat_map (λ bytes. bytes) (bytes_in es) in
    let block = pre ++ (flat_map (λ bytes. bytes) (bytes_in (e ∷ es)) ++ post) in
    let first : block ≡ pre ++ (e.1 ++ (more ++ post)) = ap (λ (l : List ℕ). pre ++ (l ++ post)) (flat_map-cons (λ (bytes : List ℕ). bytes) e.1 (bytes_in es)) ∙ ap (λ (l : List ℕ). pre ++ l) (append_assoc e.1 more post) in
    let second : block ≡ (pre ++ e.1) ++ (more ++ post) = first ∙ sym (append_assoc pre e.1 (more ++ post)) in
    let len : length (pre ++ e.1) ≡ length pre + length e.1 = length-append pre e.1 in
    let one = ap (λ (b : List ℕ). entry_bytes b (place e.0 (length pre) (length e.1))) first ∙ one_entry pre e.1 (more ++ post) e.0 in
    let rest = run_placed (pre ++ e.1) es post in
    let others : seen block (indexed (runs (length pre + length e.1) es)) ≡ es =
    ap (λ (b : List ℕ). seen b (indexed (runs (length pre + length e.1) es))) second
    ∙ ap (λ (n : ℕ). seen ((pre ++ e.1) ++ (more ++ post)) (indexed (runs n es))) (sym len) ∙ rest in
    ap (λ (b : List ℕ). (e.0, b) ∷ seen block (indexed (runs (length pre + length e.1) es))) one ∙ ap (λ (l : Placed). e ∷ l) others

pub change_placed : (pre : List ℕ) (c : Change (List ℕ)) (post : List ℕ) → change_map (entry_bytes (pre ++ (change_block c ++ post))) (placed_change (length pre) c) ≡ c
unfolding seen
change_placed pre (entries es) post = ap (λ (l : Placed). entries l) (run_placed pre es post)
change_placed pre clean post = refl
change_placed pre (compact index) post = refl
change_placed pre (put key value) post = refl
change_placed pre (delete key) post = refl
change_placed pre (mark id status) post = refl

items_placed : (pre : List ℕ) (items : List (Item (List ℕ))) (post : List ℕ) → with_bytes (pre ++ (block_of items ++ post)) (placed (length pre) items) ≡ items
items_placed pre [] post = refl
items_placed pre (item ∷ items) post =
    let mine = change_block item.change in
    let more = block_of items in
    let block = pre ++ (block_of (item ∷ items) ++ post) in
    let first : block ≡ pre ++ (mine ++ (more ++ post)) = ap (λ (l : List ℕ). pre ++ (l ++ post)) (block_cons item items) ∙ ap (λ (l : List ℕ). pre ++ l) (append_assoc mine more post) in
    let second : block ≡ (pre ++ mine) ++ (more ++ post) = first ∙ sym (append_assoc pre mine (more ++ post)) in
    let len : length (pre ++ mine) ≡ change_end (length pre) item.change = length-append pre mine ∙ sym (change_end_is (length pre) item.change) in
    let one : change_map (entry_bytes block) (placed_change (length pre) item.change) ≡ item.change =
    ap (λ (b : List ℕ). change_map (entry_bytes b) (placed_change (length pre) item.change)) first ∙ change_placed pre item.change (more ++ post) in
    let rest = items_placed (pre ++ mine) items post in
    let others : with_bytes block (placed (change_end (length pre) item.change) items) ≡ items =
    ap (λ (b : List ℕ). with_bytes b (placed (change_end (length pre) item.change) items)) second
    ∙ ap (λ (n : ℕ). with_bytes ((pre ++ mine) ++ (more ++ post)) (placed n items)) (sym len) ∙ rest in
    ap (λ (c : Change (List ℕ)). record { group = item.group; change = c } ∷ with_bytes block (placed (change_end (length pre) item.change) items)) one
    ∙ ap (λ (l : List (Item (List ℕ))). item ∷ l) others

pub placed_bytes : (items : List (Item (List ℕ))) → with_bytes (block_of items) (placed 0 items) ≡ items
placed_bytes items = ap (λ (b : List ℕ). with_bytes b (placed 0 items)) (sym (append-nil (block_of items))) ∙ items_placed [] items []

-- ---- one more item

pub placed_push : (at : ℕ) (items : List (Item (List ℕ))) (item : Item (List ℕ))
    → placed at (items ++ item ∷ []) ≡ placed at items ++ record { group = item.group; change = placed_change (placed_end at items) item.change } ∷ []
placed_push at [] item = refl
placed_push at (i ∷ items) item = ap (λ (l : List (Item EntryIndex)). record { group = i.group; change = placed_change at i.change } ∷ l) (placed_push (change_end at i.change) items item)

-- an item without entries has no place
pub plain_placed : (at : ℕ) (f : EntryIndex → List ℕ) (c : Change EntryIndex) → is_entries c ≡ false → placed_change at (change_map f c) ≡ c
plain_placed at f (entries es) h = absurd cc
plain_placed at f clean h = refl
plain_placed at f (compact index) h = refl
plain_placed at f (put key value) h = refl
plain_placed at f (delete key) h = refl
plain_placed at f (mark id status) h = refl
