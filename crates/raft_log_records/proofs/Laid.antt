-- Entries that lie one after the other in a block are the block.
use Rattle.std.proofs.Common.{◌≡◌, ℕ, ◌+◌, ◌-◌, ◌≤◌, Bool, List, [], ◌∷◌, ◌++◌, length, map, take, drop, refl, sym, ap, subst, ◌∙◌, arith, length-take, length-drop}
use Rattle.std.specs.Prelude.{◌||◌}
use Rattle.std.specs.List.{flat_map, list_any}
use Rattle.std.proofs.lemmas.List.{drop-drop, drop-take, take-append-drop, take-append-le, drop-append-le, take-take, take_all}
use Rattle.std.proofs.lemmas.List.Concat.{flat_map-cons}
use Rattle.raft_log_records.specs.declared.item.EntryIndex.{EntryIndex}
use Rattle.raft_log_records.specs.Item.{Change, Item, change_map, item_map, entry_bytes, with_bytes, with_lengths}
use Rattle.raft_log_records.specs.Item.Change.{entries, clean, compact, put, delete, mark}
use Rattle.raft_log_records.specs.Spelling.{entries_of, holds_entries, is_entries, holds_mark, is_mark, lengths, block_of}
use Rattle.raft_log_records.specs.Batch.{IsRunLaid, IsLaid}

pub run_rises : (at : ℕ) (es : List EntryIndex) (end : ℕ) → IsRunLaid at es end → at ≤ end
run_rises at [] end h = omega arith
run_rises at (e ∷ es) end h = omega (arith, run_rises (at + e.entry_len) es end h.1)

pub laid_rises : (at : ℕ) (items : List (Item EntryIndex)) (end : ℕ) → IsLaid at items end → at ≤ end
laid_rises at [] end h = omega arith
laid_rises at (item ∷ items) end h = omega (arith, run_rises at (entries_of item.change) h.0 h.1, laid_rises h.0 items end h.2)

pub fronts : (n m : ℕ) (xs : List ℕ) → take n xs ++ take m (drop n xs) ≡ take (n + m) xs
fronts n m xs =
    let whole = take-append-drop n (take (n + m) xs) in
    let back = drop-take n m xs in
    let front : take n (take (n + m) xs) ≡ take n xs = take-take n (n + m) xs (omega arith) in
    ap (λ (l : List ℕ). take n xs ++ l) (sym back) ∙ ap (λ (l : List ℕ). l ++ drop n (take (n + m) xs)) (sym front) ∙ whole

-- a front of n and then one of m are a front of n + m
pub two_fronts : (n m at : ℕ) (block : List ℕ) → take n (drop at block) ++ take m (drop (at + n) block) ≡ take (n + m) (drop at block)
two_fronts n m at block = ap (λ (l : List ℕ). take n (drop at block) ++ take m l) (sym (drop-drop n at block)) ∙ fronts n m (drop at block)

pub run_bytes : (block : List ℕ) (at : ℕ) (es : List EntryIndex) (end : ℕ) → IsRunLaid at es end → flat_map (λ bytes. bytes) (map (entry_bytes block) es) ≡ take (end - at) (drop at block)
run_bytes block at [] end h = let k : end - at ≡ 0 = omega arith in sym (ap (λ (n : ℕ). take n (drop at block)) k)
run_bytes block at (e ∷ es) end h =
    let rest = run_bytes block (at + e.entry_len) es end h.1 in
    let up = run_rises (at + e.entry_len) es end h.1 in
    let both = two_fronts e.entry_len (end - (at + e.entry_len)) at block in
    let k : e.entry_len + (end - (at + e.entry_len)) ≡ end - at = omega arith in
    flat_map-cons (λ (bytes : List ℕ). bytes) (entry_bytes block e) (map (entry_bytes block) es)
    ∙ ap (λ (l : List ℕ). entry_bytes block e ++ l) rest
    ∙ ap (λ (o : ℕ). take e.entry_len (drop o block) ++ take (end - (at + e.entry_len)) (drop (at + e.entry_len) block)) h.0
    ∙ both ∙ ap (λ (n : ℕ). take n (drop at block)) k

pairs_map : {E F : Type 0} (f : E → F) (es : List (ℕ × E)) → map {A = ℕ × F} {B = F} (λ e. e.1) (map {A = ℕ × E} {B = ℕ × F} (λ e. (e.0, f e.1)) es) ≡ map f (map {A = ℕ × E} {B = E} (λ e. e.1) es)
pairs_map f [] = refl
pairs_map {E} {F} f (e ∷ es) = ap (λ (l : List F). f e.1 ∷ l) (pairs_map f es)

pub entries_map : {E F : Type 0} (f : E → F) (c : Change E) → entries_of (change_map f c) ≡ map f (entries_of c)
entries_map f (entries es) = pairs_map f es
entries_map f clean = refl
entries_map f (compact index) = refl
entries_map f (put key value) = refl
entries_map f (delete key) = refl
entries_map f (mark id status) = refl

item_block : Item (List ℕ) → List ℕ
item_block item = flat_map (λ bytes. bytes) (entries_of item.change)

pub laid_bytes : (block : List ℕ) (at : ℕ) (items : List (Item EntryIndex)) (end : ℕ) → IsLaid at items end → block_of (with_bytes block items) ≡ take (end - at) (drop at block)
laid_bytes block at [] end h = let k : end - at ≡ 0 = omega arith in sym (ap (λ (n : ℕ). take n (drop at block)) k)
laid_bytes block at (item ∷ items) end h =
    let first = ap (λ (l : List (List ℕ)). flat_map (λ bytes. bytes) l) (entries_map (entry_bytes block) item.change) ∙ run_bytes block at (entries_of item.change) h.0 h.1 in
    let rest = laid_bytes block h.0 items end h.2 in
    let up = run_rises at (entries_of item.change) h.0 h.1 in
    let up2 = laid_rises h.0 items end h.2 in
    let k : (h.0 - at) + (end - h.0) ≡ end - at = omega arith in
    let j : at + (h.0 - at) ≡ h.0 = omega arith in
    flat_map-cons (λ (i : Item (List ℕ)). flat_map (λ bytes. bytes) (entries_of i.change)) (item_map (entry_bytes block) item) (with_bytes block items)
    ∙ ap (λ (l : List ℕ). l ++ block_of (with_bytes block items)) first
    ∙ ap (λ (l : List ℕ). take (h.0 - at) (drop at block) ++ l) rest
    ∙ ap (λ (o : ℕ). take (h.0 - at) (drop at block) ++ take (end - h.0) (drop o block)) (sym j)
    ∙ two_fronts (h.0 - at) (end - h.0) at block ∙ ap (λ (n : ℕ). take n (drop at block)) k

-- the entries of a batch are its block
pub block_is : (block : List ℕ) (items : List (Item EntryIndex)) → IsLaid 0 items (length block) → block_of (with_bytes block items) ≡ block
block_is block items h = laid_bytes block 0 items (length block) h ∙ take_all (length block - 0) block (omega arith)

-- ---- lengths

entry_length : (block : List ℕ) (e : EntryIndex) → e.entry_offset + e.entry_len ≤ length block → length (entry_bytes block e) ≡ e.entry_len
entry_length block e h = omega (arith, length-take e.entry_len (drop e.entry_offset block), length-drop e.entry_offset block)

run_lengths : (block : List ℕ) (at : ℕ) (es : List (ℕ × EntryIndex)) (end : ℕ) → IsRunLaid at (map (λ e. e.1) es) end → end ≤ length block
    → map {A = ℕ × List ℕ} {B = ℕ × ℕ} (λ e. (e.0, length e.1)) (map {A = ℕ × EntryIndex} {B = ℕ × List ℕ} (λ e. (e.0, entry_bytes block e.1)) es) ≡ map {A = ℕ × EntryIndex} {B = ℕ × ℕ} (λ e. (e.0, e.1.entry_len)) es
run_lengths block at [] end h k = refl
run_lengths block at (e ∷ es) end h k =
    let up = run_rises (at + e.1.entry_len) (map (λ x. x.1) es) end h.1 in
    let one = entry_length block e.1 (omega arith) in
    ap (λ (n : ℕ). (e.0, n) ∷ map {A = ℕ × List ℕ} {B = ℕ × ℕ} (λ x. (x.0, length x.1)) (map {A = ℕ × EntryIndex} {B = ℕ × List ℕ} (λ x. (x.0, entry_bytes block x.1)) es)) one
    ∙ ap (λ (l : List (ℕ × ℕ)). (e.0, e.1.entry_len) ∷ l) (run_lengths block (at + e.1.entry_len) es end h.1 k)

change_lengths : (block : List ℕ) (at : ℕ) (c : Change EntryIndex) (end : ℕ) → IsRunLaid at (entries_of c) end → end ≤ length block
    → change_map length (change_map (entry_bytes block) c) ≡ change_map (λ e. e.entry_len) c
change_lengths block at (entries es) end h k = ap (λ (l : List (ℕ × ℕ)). entries l) (run_lengths block at es end h k)
change_lengths block at clean end h k = refl
change_lengths block at (compact index) end h k = refl
change_lengths block at (put key value) end h k = refl
change_lengths block at (delete key) end h k = refl
change_lengths block at (mark id status) end h k = refl

pub laid_lengths : (block : List ℕ) (at : ℕ) (items : List (Item EntryIndex)) (end : ℕ) → IsLaid at items end → end ≤ length block → lengths (with_bytes block items) ≡ with_lengths items
laid_lengths block at [] end h k = refl
laid_lengths block at (item ∷ items) end h k =
    let up = laid_rises h.0 items end h.2 in
    let one : item_map length (item_map (entry_bytes block) item) ≡ item_map (λ e. e.entry_len) item = ap (λ (c : Change ℕ). record { group = item.group; change = c }) (change_lengths block at item.change h.0 h.1 (omega arith)) in
    ap (λ (i : Item ℕ). i ∷ lengths (with_bytes block items)) one ∙ ap (λ (l : List (Item ℕ)). item_map (λ e. e.entry_len) item ∷ l) (laid_lengths block h.0 items end h.2 k)

-- ---- which items hold entries

pub holds_map : {E F : Type 0} (f : E → F) (c : Change E) → is_entries (change_map f c) ≡ is_entries c
holds_map f (entries es) = refl
holds_map f clean = refl
holds_map f (compact index) = refl
holds_map f (put key value) = refl
holds_map f (delete key) = refl
holds_map f (mark id status) = refl

pub any_held : {E F : Type 0} (f : E → F) (items : List (Item E)) → list_any holds_entries (map (item_map f) items) ≡ list_any holds_entries items
any_held f [] = refl
any_held f (item ∷ items) = ap (λ (b : Bool). b || list_any holds_entries (map (item_map f) items)) (holds_map f item.change) ∙ ap (λ (b : Bool). holds_entries item || b) (any_held f items)

-- ---- one more item

pub laid_push : (at : ℕ) (items : List (Item EntryIndex)) (mid : ℕ) (item : Item EntryIndex) (end : ℕ) → IsLaid at items mid → IsRunLaid mid (entries_of item.change) end → IsLaid at (items ++ item ∷ []) end
laid_push at [] mid item end h r = (end, subst (λ (n : ℕ). IsRunLaid n (entries_of item.change) end) (sym h) r, refl)
laid_push at (i ∷ items) mid item end h r = (h.0, h.1, laid_push h.0 items mid item end h.2 r)

-- what is put behind the block changes no entry in it
entry_stays : (block more : List ℕ) (e : EntryIndex) → e.entry_offset + e.entry_len ≤ length block → entry_bytes (block ++ more) e ≡ entry_bytes block e
entry_stays block more e h =
    ap (λ (l : List ℕ). take e.entry_len l) (drop-append-le e.entry_offset block more (omega arith))
    ∙ take-append-le e.entry_len (drop e.entry_offset block) more (omega (arith, length-drop e.entry_offset block))

run_stays : (block more : List ℕ) (at : ℕ) (es : List (ℕ × EntryIndex)) (end : ℕ) → IsRunLaid at (map (λ e. e.1) es) end → end ≤ length block
    → map {A = ℕ × EntryIndex} {B = ℕ × List ℕ} (λ e. (e.0, entry_bytes (block ++ more) e.1)) es ≡ map {A = ℕ × EntryIndex} {B = ℕ × List ℕ} (λ e. (e.0, entry_bytes block e.1)) es
run_stays block more at [] end h k = refl
run_stays block more at (e ∷ es) end h k =
    let up = run_rises (at + e.1.entry_len) (map (λ x. x.1) es) end h.1 in
    let one = entry_stays block more e.1 (omega arith) in
    ap (λ (b : List ℕ). (e.0, b) ∷ map {A = ℕ × EntryIndex} {B = ℕ × List ℕ} (λ x. (x.0, entry_bytes (block ++ more) x.1)) es) one
    ∙ ap (λ (l : List (ℕ × List ℕ)). (e.0, entry_bytes block e.1) ∷ l) (run_stays block more (at + e.1.entry_len) es end h.1 k)

change_stays : (block more : List ℕ) (at : ℕ) (c : Change EntryIndex) (end : ℕ) → IsRunLaid at (entries_of c) end → end ≤ length block → change_map (entry_bytes (block ++ more)) c ≡ change_map (entry_bytes block) c
change_stays block more at (entries es) end h k = ap (λ (l : List (ℕ × List ℕ)). entries l) (run_stays block more at es end h k)
change_stays block more at clean end h k = refl
change_stays block more at (compact index) end h k = refl
change_stays block more at (put key value) end h k = refl
change_stays block more at (delete key) end h k = refl
change_stays block more at (mark id status) end h k = refl

pub laid_stays : (block more : List ℕ) (at : ℕ) (items : List (Item EntryIndex)) (end : ℕ) → IsLaid at items end → end ≤ length block → with_bytes (block ++ more) items ≡ with_bytes block items
laid_stays block more at [] end h k = refl
laid_stays block more at (item ∷ items) end h k =
    let up = laid_rises h.0 items end h.2 in
    let one : item_map (entry_bytes (block ++ more)) item ≡ item_map (entry_bytes block) item = ap (λ (c : Change (List ℕ)). record { group = item.group; change = c }) (change_stays block more at item.change h.0 h.1 (omega arith)) in
    ap (λ (i : Item (List ℕ)). i ∷ with_bytes (block ++ more) items) one ∙ ap (λ (l : List (Item (List ℕ))). item_map (entry_bytes block) item ∷ l) (laid_stays block more h.0 items end h.2 k)

marks_map : {E F : Type 0} (f : E → F) (c : Change E) → is_mark (change_map f c) ≡ is_mark c
marks_map f (entries es) = refl
marks_map f clean = refl
marks_map f (compact index) = refl
marks_map f (put key value) = refl
marks_map f (delete key) = refl
marks_map f (mark id status) = refl

pub any_marked : {E F : Type 0} (f : E → F) (items : List (Item E)) → list_any holds_mark (map (item_map f) items) ≡ list_any holds_mark items
any_marked f [] = refl
any_marked f (item ∷ items) = ap (λ (b : Bool). b || list_any holds_mark (map (item_map f) items)) (marks_map f item.change) ∙ ap (λ (b : Bool). holds_mark item || b) (any_marked f items)
