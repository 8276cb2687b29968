-- Whether a batch that is replayed belongs to an atomic group.
use Rattle.std.proofs.Common.{◌≡◌, Bool, true, false, ◌||◌, List, [], ◌∷◌, ◌++◌, Option, None, refl, sym, ap, ◌∙◌}
use Rattle.std.specs.Prelude.{ℕ}
use Rattle.std.specs.List.{list_any}
use Rattle.std.proofs.lemmas.Bool.{false≢true, or_parts}
use Rattle.std.proofs.lemmas.List.Folds.{list_any-append}
use Rattle.raft_log_records.specs.declared.file_id.LogQueue.{LogQueue}
use Rattle.raft_log_records.specs.declared.file_id.LogQueue.TheVariants.{Append, Rewrite}
use Rattle.raft_log_records.specs.declared.item.AtomicGroupStatus.{AtomicGroupStatus}
use Rattle.raft_log_records.specs.declared.item.EntryIndex.{EntryIndex}
use Rattle.raft_log_records.specs.declared.item.LogItem.{LogItem}
use Rattle.raft_log_records.specs.Item.{Change, Item, item_of, items_of}
use Rattle.raft_log_records.specs.Item.Change.{entries, clean, compact, put, delete, mark}
use Rattle.raft_log_records.specs.Spelling.{holds_mark, is_mark}
use Rattle.raft_log_memtables.specs.Entries.{placed_in}
use Rattle.raft_log_memtables.specs.Replay.{mark_in, mark_of}
use Rattle.raft_log_memtables.proofs.Folds.{marks_mapped}
use Rattle.raft_log_covers.specs.Cells.{AreUnmarked}
use Rattle.raft_log_covers.specs.Queues.{batches_of}
use Rattle.raft_log_recovery.specs.Replay.{Placed}
use Rattle.raft_log_traced.specs.Traced.{AreOf, any_marked, filed_in, is_marked_in}

-- ---- a batch

plain_change : {E : Type 0} (change : Change E) (o : Option (ℕ × AtomicGroupStatus)) → is_mark change ≡ false → mark_in change o ≡ o
plain_change (entries es) o h = refl
plain_change clean o h = refl
plain_change (compact limit) o h = refl
plain_change (put key value) o h = refl
plain_change (delete key) o h = refl
plain_change (mark id status) o h = absurd (false≢true (sym h))

-- one that holds no mark belongs to no atomic group
pub unmarked : {E : Type 0} (items : List (Item E)) → list_any holds_mark items ≡ false → mark_of items ≡ None
unmarked [] h = refl
unmarked (item ∷ items) h =
    let both = or_parts (is_mark item.change) (list_any holds_mark items) h in
    plain_change item.change (mark_of items) both.0 ∙ unmarked items both.1

-- as its items say
items_marked : (items : List LogItem) → list_any (λ item. holds_mark (item_of item)) items ≡ list_any holds_mark (items_of items)
items_marked [] = refl
items_marked (item ∷ items) = ap (λ (b : Bool). holds_mark (item_of item) || b) (items_marked items)

-- ---- batches that are replayed

or_none : (b : Bool) → (b || false) ≡ b
or_none true = refl
or_none false = refl

one_more : (placed : List Placed) (p : Placed) → any_marked (placed ++ p ∷ []) ≡ (any_marked placed || is_marked_in p.handle.id.queue p.items)
one_more placed p =
    list_any-append (λ (q : Placed). is_marked_in q.handle.id.queue q.items) placed (p ∷ [])
    ∙ ap (λ (b : Bool). any_marked placed || b) (or_none (is_marked_in p.handle.id.queue p.items))

-- one more of the append queue
pub append_noted : (placed : List Placed) (p : Placed) (items : List LogItem) (was now : Bool) → p.handle.id.queue ≡ Append → p.items ≡ items_of items → was ≡ any_marked placed
    → now ≡ (was || list_any (λ item. holds_mark (item_of item)) items) → now ≡ any_marked (placed ++ p ∷ [])
append_noted placed p items was now queue same before is =
    is ∙ ap (λ (b : Bool). b || list_any (λ item. holds_mark (item_of item)) items) before
    ∙ ap (λ (b : Bool). any_marked placed || b)
    (items_marked items ∙ ap (λ (l : List (Item EntryIndex)). list_any holds_mark l) (sym same) ∙ ap (λ (q : LogQueue). is_marked_in q p.items) (sym queue))
    ∙ sym (one_more placed p)

-- or of the rewrite queue
pub rewrite_noted : (placed : List Placed) (p : Placed) (was : Bool) → p.handle.id.queue ≡ Rewrite → was ≡ any_marked placed → was ≡ any_marked (placed ++ p ∷ [])
rewrite_noted placed p was queue before =
    before ∙ sym (or_none (any_marked placed))
    ∙ ap (λ (b : Bool). any_marked placed || b) (ap (λ (q : LogQueue). is_marked_in q p.items) (sym queue))
    ∙ sym (one_more placed p)

-- ---- where none is

appends_unmarked : (appends : List Placed) → AreOf Append appends → any_marked appends ≡ false → AreUnmarked (batches_of (filed_in appends))
appends_unmarked [] of_queue none = tt
appends_unmarked (p ∷ appends) of_queue none =
    let both = or_parts (is_marked_in p.handle.id.queue p.items) (any_marked appends) none in
    let plain : list_any holds_mark p.items ≡ false = ap (λ (q : LogQueue). is_marked_in q p.items) (sym of_queue.0) ∙ both.0 in
    (marks_mapped (placed_in p.handle) p.items ∙ unmarked p.items plain, appends_unmarked appends of_queue.1 both.1)

pub all_unmarked : (rewrites appends : List Placed) → AreOf Append appends → any_marked (rewrites ++ appends) ≡ false → AreUnmarked (batches_of (filed_in appends))
all_unmarked rewrites appends of_queue none =
    let both = or_parts (any_marked rewrites) (any_marked appends)
    (sym (list_any-append (λ (q : Placed). is_marked_in q.handle.id.queue q.items) rewrites appends) ∙ none) in
    appends_unmarked appends of_queue both.1
