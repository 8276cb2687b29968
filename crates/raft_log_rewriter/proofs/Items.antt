-- Items without marks, and which entries and groups items have.
use Rattle.std.proofs.Common.{◌≡◌, ℕ, Bool, true, false, cond, ◌&&◌, ◌||◌, List, [], ◌∷◌, ◌++◌, Option, Some, None, refl, sym, ap, subst, ◌∙◌, append_assoc, append-nil}
use Rattle.std.specs.Prelude.{IsSome, nat_eq}
use Rattle.std.proofs.lemmas.Bool.{or_left, or_right, and_right}
use Rattle.raft_log_records.specs.declared.item.AtomicGroupStatus.{AtomicGroupStatus}
use Rattle.raft_log_records.specs.Item.{Change, Item}
use Rattle.raft_log_records.specs.Item.Change.{entries, clean, compact, put, delete, mark}
use Rattle.raft_log_file.specs.Laws.{Batch}
use Rattle.raft_log_memtables.specs.Content.{Content, GroupContent}
use Rattle.raft_log_memtables.specs.Entries.{or_else}
use Rattle.raft_log_memtables.specs.Laws.{AreMiddles, all_of}
use Rattle.raft_log_memtables.specs.MemTable.{is_mark_of}
use Rattle.raft_log_memtables.specs.Replay.{mark_in, mark_of}
use Rattle.raft_log_covers.specs.Cells.{batch_sets, sets}
use Rattle.raft_log_covers.specs.Cells.Cell.{presence}
use Rattle.raft_log_covers.specs.Joined.{without_marks}
use Rattle.raft_log_covers.specs.Kept.{Traces}
use Rattle.raft_log_covers.specs.Trace.{Trace}
use Rattle.raft_log_cleaner.specs.Written.{entry_in, written_at}
use Rattle.raft_log_cleaner.proofs.Written.{written_behind}
use Rattle.raft_log_rewriter.specs.Parts.{AreAmong, AreStored, IsAmong}

-- ---- marks

either_behind : (b : Bool) (x : Item (List ℕ)) (xs ys : Batch) → cond b (xs ++ ys) (x ∷ (xs ++ ys)) ≡ cond b xs (x ∷ xs) ++ ys
either_behind true x xs ys = refl
either_behind false x xs ys = refl

pub unmarked-append : (xs ys : Batch) → without_marks (xs ++ ys) ≡ without_marks xs ++ without_marks ys
unmarked-append [] ys = refl
unmarked-append (x ∷ xs) ys =
    ap (λ (l : Batch). cond (is_mark_of x.change) l (x ∷ l)) (unmarked-append xs ys)
    ∙ either_behind (is_mark_of x.change) x (without_marks xs) (without_marks ys)

-- items without a mark stay as they are
pub unmarked_stay : (xs : Batch) → mark_of xs ≡ None → without_marks xs ≡ xs
unmarked_stay [] none = refl
unmarked_stay (x ∷ xs) none = by_change (unmarked_stay xs) x.change none
  where
    by_change : (mark_of xs ≡ None → without_marks xs ≡ xs) → (change : Change (List ℕ)) → mark_in change (mark_of xs) ≡ None
        → cond (is_mark_of change) (without_marks xs) (x ∷ without_marks xs) ≡ x ∷ xs
    by_change rest (entries es) h = ap (λ (l : Batch). x ∷ l) (rest h)
    by_change rest clean h = ap (λ (l : Batch). x ∷ l) (rest h)
    by_change rest (compact limit) h = ap (λ (l : Batch). x ∷ l) (rest h)
    by_change rest (put name value) h = ap (λ (l : Batch). x ∷ l) (rest h)
    by_change rest (delete name) h = ap (λ (l : Batch). x ∷ l) (rest h)
    by_change rest (mark id status) h = absurd cc

pub mark-append : (xs ys : Batch) → mark_of xs ≡ None → mark_of (xs ++ ys) ≡ mark_of ys
mark-append [] ys none = refl
mark-append (x ∷ xs) ys none = by_change (mark-append xs ys) x.change none
  where
    by_change : (mark_of xs ≡ None → mark_of (xs ++ ys) ≡ mark_of ys) → (change : Change (List ℕ)) → mark_in change (mark_of xs) ≡ None → mark_in change (mark_of (xs ++ ys)) ≡ mark_of ys
    by_change rest (entries es) h = rest h
    by_change rest clean h = rest h
    by_change rest (compact limit) h = rest h
    by_change rest (put name value) h = rest h
    by_change rest (delete name) h = rest h
    by_change rest (mark id status) h = absurd cc

-- the mark of an atomic group, behind items
abbrev pub marked : Batch → ℕ → AtomicGroupStatus → Batch
marked items id status = items ++ record { group = 0; change = mark id status } ∷ []

pub mark_last : (items : Batch) (id : ℕ) (status : AtomicGroupStatus) → mark_of items ≡ None → mark_of (marked items id status) ≡ Some (id, status)
mark_last items id status none = mark-append items (record { group = 0; change = mark id status } ∷ []) none

pub without_last : (items : Batch) (id : ℕ) (status : AtomicGroupStatus) → without_marks (marked items id status) ≡ without_marks items
without_last items id status = unmarked-append items (record { group = 0; change = mark id status } ∷ []) ∙ append-nil (without_marks items)

pub middles-append : (id : ℕ) (middles : List Batch) (items : Batch) → AreMiddles id middles → AreMiddles id (items ∷ []) → AreMiddles id (middles ++ items ∷ [])
middles-append id [] items are is = is
middles-append id (m ∷ middles) items are is = (are.0, middles-append id middles items are.1 is)

pub all-append : (xs ys : List Batch) → all_of (xs ++ ys) ≡ all_of xs ++ all_of ys
all-append [] ys = refl
all-append (x ∷ xs) ys = ap (λ (l : Batch). x ++ l) (all-append xs ys) ∙ sym (append_assoc x (all_of xs) (all_of ys))

pub all-last : (xs : List Batch) (y : Batch) → all_of (xs ++ y ∷ []) ≡ all_of xs ++ y
all-last xs y = all-append xs (y ∷ []) ∙ ap (λ (l : Batch). all_of xs ++ l) (append-nil y)

-- ---- entries

pub some_else : (x y : Option (List ℕ)) → IsSome y → IsSome (or_else x y)
some_else None y some = some
some_else (Some x) y some = refl

pub some_front : (x y : Option (List ℕ)) → IsSome x → IsSome (or_else x y)
some_front None y some = absurd cc
some_front (Some x) y some = refl

pub written_before : (items more : Batch) (group i : ℕ) → IsSome (written_at items group i) → IsSome (written_at (items ++ more) group i)
written_before items more group i some =
    subst (λ (o : Option (List ℕ)). IsSome o) (sym (written_behind items more group i)) (some_else (written_at more group i) (written_at items group i) some)

pub written_after : (items more : Batch) (group i : ℕ) → IsSome (written_at more group i) → IsSome (written_at (items ++ more) group i)
written_after items more group i some =
    subst (λ (o : Option (List ℕ)). IsSome o) (sym (written_behind items more group i)) (some_front (written_at more group i) (written_at items group i) some)

else_none : (o : Option (List ℕ)) → o ≡ or_else o None
else_none None = refl
else_none (Some x) = refl

abbrev no_entry : Option (List ℕ)
no_entry = None

either_none : (b : Bool) → cond b no_entry no_entry ≡ no_entry
either_none true = refl
either_none false = refl

-- marks have no entries
pub written_unmarked : (items : Batch) (group i : ℕ) → written_at (without_marks items) group i ≡ written_at items group i
written_unmarked [] group i = refl
written_unmarked (item ∷ items) group i = by_change item.change (written_unmarked items group i)
  where
    by_change : (change : Change (List ℕ)) → written_at (without_marks items) group i ≡ written_at items group i
        → written_at (cond (is_mark_of change) (without_marks items) (record { group = item.group; change = change } ∷ without_marks items)) group i
        ≡ or_else (written_at items group i) (cond (nat_eq item.group group) (entry_in change i) None)
    by_change (mark id status) rest = rest ∙ else_none (written_at items group i) ∙ ap (λ (o : Option (List ℕ)). or_else (written_at items group i) o) (sym (either_none (nat_eq item.group group)))
    by_change (entries es) rest = ap (λ (o : Option (List ℕ)). or_else o (cond (nat_eq item.group group) (entry_in (entries es) i) None)) rest
    by_change clean rest = ap (λ (o : Option (List ℕ)). or_else o (cond (nat_eq item.group group) None None)) rest
    by_change (compact limit) rest = ap (λ (o : Option (List ℕ)). or_else o (cond (nat_eq item.group group) None None)) rest
    by_change (put name value) rest = ap (λ (o : Option (List ℕ)). or_else o (cond (nat_eq item.group group) None None)) rest
    by_change (delete name) rest = ap (λ (o : Option (List ℕ)). or_else o (cond (nat_eq item.group group) None None)) rest

-- ---- groups

or_or : (a b c : Bool) → ((a || b) || c) ≡ (a || (b || c))
or_or true b c = refl
or_or false b c = refl

pub sets-append : (items more : Batch) (group : ℕ) → batch_sets (items ++ more) group presence ≡ (batch_sets items group presence || batch_sets more group presence)
sets-append [] more group = refl
sets-append (item ∷ items) more group =
    ap (λ (b : Bool). (nat_eq item.group group && sets item.change presence) || b) (sets-append items more group)
    ∙ sym (or_or (nat_eq item.group group && sets item.change presence) (batch_sets items group presence) (batch_sets more group presence))

pub set_before : (items more : Batch) (group : ℕ) → batch_sets items group presence ≡ true → batch_sets (items ++ more) group presence ≡ true
set_before items more group h = sets-append items more group ∙ or_left (batch_sets items group presence) (batch_sets more group presence) h

pub set_after : (items more : Batch) (group : ℕ) → batch_sets more group presence ≡ true → batch_sets (items ++ more) group presence ≡ true
set_after items more group h = sets-append items more group ∙ or_right (batch_sets items group presence) (batch_sets more group presence) h

-- marks set no group
pub sets_unmarked : (items : Batch) (group : ℕ) → batch_sets (without_marks items) group presence ≡ batch_sets items group presence
sets_unmarked [] group = refl
sets_unmarked (item ∷ items) group = by_change item.change (sets_unmarked items group)
  where
    by_change : (change : Change (List ℕ)) → batch_sets (without_marks items) group presence ≡ batch_sets items group presence
        → batch_sets (cond (is_mark_of change) (without_marks items) (record { group = item.group; change = change } ∷ without_marks items)) group presence
        ≡ ((nat_eq item.group group && sets change presence) || batch_sets items group presence)
    by_change (mark id status) rest = rest ∙ ap (λ (b : Bool). b || batch_sets items group presence) (sym (and_right (nat_eq item.group group) false refl))
    by_change (entries es) rest = ap (λ (b : Bool). (nat_eq item.group group && true) || b) rest
    by_change clean rest = ap (λ (b : Bool). (nat_eq item.group group && true) || b) rest
    by_change (compact limit) rest = ap (λ (b : Bool). (nat_eq item.group group && true) || b) rest
    by_change (put name value) rest = ap (λ (b : Bool). (nat_eq item.group group && true) || b) rest
    by_change (delete name) rest = ap (λ (b : Bool). (nat_eq item.group group && true) || b) rest

-- ---- groups that were written stay so

pub is_among_before : (g : GroupContent (List ℕ)) (t : Trace) (group : ℕ) (items more : Batch) → IsAmong g t group items → IsAmong g t group (items ++ more)
is_among_before g t group items more is = record {
  named = set_before items more group is.named;
  entries = λ i some none. written_before items more group i (is.entries i some none);
}

pub is_among_after : (g : GroupContent (List ℕ)) (t : Trace) (group : ℕ) (items more : Batch) → IsAmong g t group more → IsAmong g t group (items ++ more)
is_among_after g t group items more is = record {
  named = set_after items more group is.named;
  entries = λ i some none. written_after items more group i (is.entries i some none);
}

pub is_among_unmarked : (g : GroupContent (List ℕ)) (t : Trace) (group : ℕ) (items : Batch) → IsAmong g t group (without_marks items) → IsAmong g t group items
is_among_unmarked g t group items is = record {
  named = sym (sets_unmarked items group) ∙ is.named;
  entries = λ i some none. subst (λ (o : Option (List ℕ)). IsSome o) (written_unmarked items group i) (is.entries i some none);
}

pub among_more : (content : Content (List ℕ)) (traces : Traces) (items more : Batch) (groups : List ℕ) → AreAmong content traces items groups → AreAmong content traces (items ++ more) groups
among_more content traces items more [] are = tt
among_more content traces items more (group ∷ groups) are =
    (λ there. is_among_before (content group) (traces group) group items more (are.0 there), among_more content traces items more groups are.1)

pub among_last : (content : Content (List ℕ)) (traces : Traces) (items : Batch) (groups : List ℕ) (group : ℕ) → AreAmong content traces items groups
    → ((content group).there ≡ true → IsAmong (content group) (traces group) group items) → AreAmong content traces items (groups ++ group ∷ [])
among_last content traces items [] group are last = (last, tt)
among_last content traces items (g ∷ groups) group are last = (are.0, among_last content traces items groups group are.1 last)

-- ---- stored entries

pub none_stored : (content : Content (List ℕ)) (traces : Traces) (items : Batch) → ((group i : ℕ) → written_at items group i ≡ None) → AreStored content traces items
none_stored content traces items none = record {
  bytes = λ group i v is. let both : no_entry ≡ Some v = sym (none group i) ∙ is in absurd cc;
  file = λ group i some. let both : IsSome no_entry = subst (λ (o : Option (List ℕ)). IsSome o) (none group i) some in absurd cc;
}

pub stored-append : (content : Content (List ℕ)) (traces : Traces) (items more : Batch) → AreStored content traces items → AreStored content traces more → AreStored content traces (items ++ more)
stored-append content traces items more one two = record {
  bytes = λ group i v is. by_last group i v (written_at more group i) refl (sym (written_behind items more group i) ∙ is);
  file = λ group i some. file_last group i (written_at more group i) refl (subst (λ (o : Option (List ℕ)). IsSome o) (written_behind items more group i) some);
}
  where
    by_last : (group i : ℕ) (v : List ℕ) (o : Option (List ℕ)) → written_at more group i ≡ o → or_else (written_at more group i) (written_at items group i) ≡ Some v → (content group).entry i ≡ Some v
    by_last group i v None e is = one.bytes group i v (ap (λ (x : Option (List ℕ)). or_else x (written_at items group i)) (sym e) ∙ is)
    by_last group i v (Some x) e is = two.bytes group i v (e ∙ ap (λ (o : Option (List ℕ)). or_else o (written_at items group i)) (sym e) ∙ is)

    file_last : (group i : ℕ) (o : Option (List ℕ)) → written_at more group i ≡ o → IsSome (or_else (written_at more group i) (written_at items group i)) → (traces group).entry_file i ≡ None
    file_last group i None e some = one.file group i (subst (λ (o : Option (List ℕ)). IsSome (or_else o (written_at items group i))) e some)
    file_last group i (Some x) e some = two.file group i (subst (λ (o : Option (List ℕ)). IsSome o) (sym e) refl)

pub marked_stored : (content : Content (List ℕ)) (traces : Traces) (items : Batch) (id : ℕ) (status : AtomicGroupStatus) → AreStored content traces items → AreStored content traces (marked items id status)
marked_stored content traces items id status stored =
    stored-append content traces items (record { group = 0; change = mark id status } ∷ []) stored
    (none_stored content traces (record { group = 0; change = mark id status } ∷ []) (λ group i. either_none (nat_eq 0 group)))
