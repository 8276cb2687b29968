-- Sums, lists that grow by one element, and the texts of entries.
use Rattle.std.proofs.Common.{◌≡◌, ◌<◌, ◌≤◌, ◌+◌, ◌-◌, ℕ, codes, drop, List, [], ◌∷◌, ◌++◌, length, get_or, take, map, Option, Some, None, refl, sym, ap, subst, ◌∙◌, arith, append_assoc, append-nil}
use Rattle.std.specs.Prelude.{slice_get}
use Rattle.std.specs.List.{flat_map}
use Rattle.std.proofs.lemmas.Grind.{flat_map-append}
use Rattle.std.proofs.lemmas.List.{map-append, take_more}
use Rattle.raft_log_records.specs.declared.item.EntryIndex.{EntryIndex}
use Rattle.raft_log_disk.specs.Text.{Text}
use Rattle.raft_log_items.specs.Holes.{last_behind}
use Rattle.raft_log_tool.specs.declared.span.FileSize.{FileSize}
use Rattle.raft_log_contents.specs.Endings.{named}
use Rattle.raft_log_tool.specs.Lines.{entries_text, sum_of}
use Rattle.raft_log_tool.specs.Span.{files_text, last_number}

-- ---- one element more

-- of texts that stand one after the other
pub flat_more_at : {X : Type 0} (f : X → Text) (xs : List X) (i : ℕ) (d : X) (start before new : Text) → i < length xs → before ≡ start ++ flat_map f (take i xs) → new ≡ before ++ f (get_or xs i d)
    → new ≡ start ++ flat_map f (take (i + 1) xs)
flat_more_at f xs i d start before new within so more =
    let next : flat_map f (take (i + 1) xs) ≡ flat_map f (take i xs) ++ f (get_or xs i d) =
    ap (flat_map f) (take_more xs i d within) ∙ flat_map-append f (take i xs) (get_or xs i d ∷ [])
    ∙ ap (λ (l : Text). flat_map f (take i xs) ++ l) (append-nil (f (get_or xs i d))) in
    more ∙ ap (λ (l : Text). l ++ f (get_or xs i d)) so ∙ append_assoc start (flat_map f (take i xs)) (f (get_or xs i d)) ∙ ap (λ (l : Text). start ++ l) (sym next)

-- of values of other ones
pub map_more : {X Y : Type 0} (f : X → Y) (xs : List X) (i : ℕ) (x : X) (y : Y) (before new : List Y) → i < length xs → x ≡ get_or xs i x → before ≡ map f (take i xs) → new ≡ before ++ y ∷ [] → y ≡ f x
    → new ≡ map f (take (i + 1) xs)
map_more f xs i x y before new within is so more same =
    more ∙ ap (λ (l : List _). l ++ y ∷ []) so ∙ ap (λ z. map f (take i xs) ++ z ∷ []) same
    ∙ sym (ap (map f) (take_more xs i x within ∙ ap (λ z. take i xs ++ z ∷ []) (sym is)) ∙ map-append f (take i xs) (x ∷ []))

-- ---- the last one

index_at : Option EntryIndex → ℕ
index_at None = 0
index_at (Some e) = e.index

last_told : (e : EntryIndex) (es : List EntryIndex) (last : EntryIndex) → slice_get (e ∷ es) (length es) ≡ Some last → last_behind e.index (map (λ e. (e.index, e)) es) ≡ last.index
unfolding index_at
last_told e [] last is = ap index_at is
last_told e (x ∷ es) last is = last_told x es last is

-- the lengths of entries, with their indexes beside them or not
pub lengths_told : (es : List EntryIndex) → map (λ (x : ℕ × EntryIndex). x.1.entry_len) (map (λ e. (e.index, e)) es) ≡ map (λ (e : EntryIndex). e.entry_len) es
lengths_told [] = refl
lengths_told (e ∷ es) = ap (λ (l : List ℕ). e.entry_len ∷ l) (lengths_told es)

-- what entries are whose first one and last one are known
pub record AreEntries (es : List EntryIndex) (first last : EntryIndex) : Type 0 where
  pub head : EntryIndex
  pub tail : List EntryIndex
  pub are : es ≡ head ∷ tail
  pub begins : head.index ≡ first.index
  pub ends : last_behind head.index (map (λ e. (e.index, e)) tail) ≡ last.index

pub are_entries : (es : List EntryIndex) (first last : EntryIndex) → slice_get es 0 ≡ Some first → slice_get es (length es - 1) ≡ Some last → AreEntries es first last
unfolding index_at
are_entries [] first last begins ends = absurd cc
are_entries (e ∷ es) first last begins ends =
    let one_less : length (e ∷ es) - 1 ≡ length es = omega arith in
    record { head = e; tail = es; are = refl; begins = ap index_at begins; ends = last_told e es last (subst (λ k. slice_get (e ∷ es) k ≡ Some last) one_less ends) }

number_at : Option FileSize → ℕ
number_at None = 0
number_at (Some size) = size.seq

last_size : (e : FileSize) (es : List FileSize) (last : FileSize) → slice_get (e ∷ es) (length es) ≡ Some last → last_number e.seq es ≡ last.seq
unfolding number_at
last_size e [] last is = ap number_at is
last_size e (x ∷ es) last is = last_size x es last is

-- and of files
pub record AreFiles (sizes : List FileSize) (first last : FileSize) : Type 0 where
  pub head : FileSize
  pub tail : List FileSize
  pub are : sizes ≡ head ∷ tail
  pub begins : head.seq ≡ first.seq
  pub ends : last_number head.seq tail ≡ last.seq

pub are_files : (sizes : List FileSize) (first last : FileSize) → slice_get sizes 0 ≡ Some first → slice_get sizes (length sizes - 1) ≡ Some last → AreFiles sizes first last
unfolding number_at
are_files [] first last begins ends = absurd cc
are_files (e ∷ es) first last begins ends =
    let one_less : length (e ∷ es) - 1 ≡ length es = omega arith in
    record { head = e; tail = es; are = refl; begins = ap number_at begins; ends = last_size e es last (subst (λ k. slice_get (e ∷ es) k ≡ Some last) one_less ends) }

-- ---- texts of several pieces

pub three : (t0 t1 t2 t3 a b c : Text) → t1 ≡ t0 ++ a → t2 ≡ t1 ++ b → t3 ≡ t2 ++ c → t3 ≡ t0 ++ ((a ++ b) ++ c)
three t0 t1 t2 t3 a b c first second third =
    third ∙ ap (λ (t : Text). t ++ c) (second ∙ ap (λ (t : Text). t ++ b) first ∙ append_assoc t0 a b) ∙ append_assoc t0 (a ++ b) c

-- what is said of entries
pub entries_said : (es : List EntryIndex) (first last : EntryIndex) (len : ℕ) → AreEntries es first last → len ≡ sum_of (map (λ (e : EntryIndex). e.entry_len) es)
    → (named (codes "entries ") first.index ++ named (codes " to ") last.index) ++ named (codes " bytes ") len ≡ entries_text es
entries_said es first last len are is =
    let total : len ≡ sum_of (map (λ (x : ℕ × EntryIndex). x.1.entry_len) (map (λ e. (e.index, e)) (are.head ∷ are.tail))) =
    is ∙ ap (λ (l : List EntryIndex). sum_of (map (λ (e : EntryIndex). e.entry_len) l)) are.are ∙ ap sum_of (sym (lengths_told (are.head ∷ are.tail))) in
    let said : (named (codes "entries ") first.index ++ named (codes " to ") last.index) ++ named (codes " bytes ") len ≡ entries_text (are.head ∷ are.tail) =
    λ i. (named (codes "entries ") (sym are.begins i) ++ named (codes " to ") (sym are.ends i)) ++ named (codes " bytes ") (total i) in
    said ∙ ap entries_text (sym are.are)

-- and of files
pub files_said : (sizes : List FileSize) (first last : FileSize) (len bytes : ℕ) → AreFiles sizes first last → len ≡ length sizes → bytes ≡ sum_of (map (λ (s : FileSize). s.bytes) sizes)
    → ((named (codes " from ") first.seq ++ named (codes " to ") last.seq) ++ named (codes " files ") len) ++ named (codes " bytes ") bytes ≡ files_text sizes
files_said sizes first last len bytes are counted summed =
    let many : len ≡ length (are.head ∷ are.tail) = counted ∙ ap length are.are in
    let all : bytes ≡ sum_of (map (λ (s : FileSize). s.bytes) (are.head ∷ are.tail)) = summed ∙ ap (λ (l : List FileSize). sum_of (map (λ (s : FileSize). s.bytes) l)) are.are in
    let said : ((named (codes " from ") first.seq ++ named (codes " to ") last.seq) ++ named (codes " files ") len) ++ named (codes " bytes ") bytes ≡ files_text (are.head ∷ are.tail) =
    λ i. ((named (codes " from ") (sym are.begins i) ++ named (codes " to ") (sym are.ends i)) ++ named (codes " files ") (many i)) ++ named (codes " bytes ") (all i) in
    said ∙ ap files_text (sym are.are)

-- ---- words

-- the first word, and those behind it
pub head_of : {X Y : Type 0} (f : X → Y) (xs : List X) (x : X) → 1 ≤ length xs → x ≡ get_or xs 0 x → map f xs ≡ f x ∷ map f (drop 1 xs)
head_of f [] x some is = absurd (omega (arith, some))
head_of f (y ∷ ys) x some is = ap (λ z. f z ∷ map f ys) (sym is)
