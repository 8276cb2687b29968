-- Tables whose entries lie in a block that was written anew.
use Rattle.std.proofs.Common.{◌≡◌, ℕ, Bool, true, false, cond, List, [], ◌∷◌, Option, Some, None, refl, sym, ap, subst, ◌∙◌}
use Rattle.std.specs.Prelude.{IsSome, nat_eq}
use Rattle.std.specs.Option.{option_map}
use Rattle.raft_log_records.specs.declared.file_id.FileBlockHandle.{FileBlockHandle}
use Rattle.raft_log_records.specs.declared.file_id.LogQueue.{LogQueue}
use Rattle.raft_log_records.specs.declared.file_id.LogQueue.TheVariants.{Rewrite}
use Rattle.raft_log_records.specs.declared.item.EntryIndex.{EntryIndex}
use Rattle.raft_log_records.specs.declared.item.LogItem.{LogItem}
use Rattle.raft_log_records.specs.declared.item.LogItemContent.{LogItemContent}
use Rattle.raft_log_records.specs.declared.item.LogItemContent.TheVariants as content
use Rattle.raft_log_records.specs.Item.{change_of, command_change, items_of}
use Rattle.raft_log_records.specs.Places.{indexed}
use Rattle.raft_log_records.specs.declared.command.Command.{Command}
use Rattle.raft_log_records.specs.declared.command.Command.TheVariants as command
use Rattle.raft_log_memtables.specs.Content.{Content, GroupContent, entry_at}
use Rattle.raft_log_memtables.specs.ContentLaws.{content_map}
use Rattle.raft_log_memtables.specs.Entries.{or_else, placed_in}
use Rattle.raft_log_memtables.specs.Moved.{group_moved, moved}
use Rattle.raft_log_traced.specs.Places.{items_moved, moved_by}
use Rattle.raft_log_marks.specs.Opened.{file_at}
use Rattle.raft_log_traced.specs.Traced.{file_on, lies_in}
use Rattle.raft_log_cleaner.specs.Written.{entry_in, written_at}
use Rattle.raft_log_cleaner.proofs.Written.{FileAfter, else_mapped, run_mapped}

-- ---- one item

-- an entry that is moved twice is where it was moved last
twice : {E : Type 0} (o first last : Option E) → moved (moved o first) last ≡ moved o (or_else last first)
twice None first last = refl
twice (Some x) None None = refl
twice (Some x) None (Some z) = refl
twice (Some x) (Some y) None = refl
twice (Some x) (Some y) (Some z) = refl

stays : {E : Type 0} (o : Option E) → o ≡ moved o None
stays None = refl
stays (Some x) = refl

none_placed : (place : FileBlockHandle) (b : Bool) → option_map (placed_in place) (cond b None None) ≡ None
none_placed place true = refl
none_placed place false = refl

unmoved : (place : FileBlockHandle) (b : Bool) (o : Option EntryIndex) → o ≡ moved o (option_map (placed_in place) (cond b None None))
unmoved place b o = stays o ∙ ap (λ (x : Option EntryIndex). moved o x) (sym (none_placed place b))

either_moved : (place : FileBlockHandle) (es : List EntryIndex) (b : Bool) (g : GroupContent EntryIndex) (i : ℕ)
    → (cond b (group_moved place es g) g).entry i ≡ moved (g.entry i) (option_map (placed_in place) (cond b (entry_at (indexed es) i) None))
either_moved place es true g i = ap (λ (x : Option EntryIndex). moved (g.entry i) x) (run_mapped (placed_in place) (indexed es) i)
either_moved place es false g i = stays (g.entry i)

command_moved : (place : FileBlockHandle) (command : Command) (b : Bool) (o : Option EntryIndex) (i : ℕ) → o ≡ moved o (option_map (placed_in place) (cond b (entry_in {E = EntryIndex} (command_change command) i) None))
command_moved place command.Clean b o i = unmoved place b o
command_moved place (command.Compact limit) b o i = unmoved place b o

item_moved : (place : FileBlockHandle) (group : ℕ) (change : LogItemContent) (c : Content EntryIndex) (other i : ℕ)
    → (moved_by place group change c other).entry i ≡ moved ((c other).entry i) (option_map (placed_in place) (cond (nat_eq group other) (entry_in (change_of change) i) None))
item_moved place group (content.EntryIndexes es) c other i = either_moved place es.items (nat_eq group other) (c other) i
item_moved place group (content.Command command) c other i = command_moved place command (nat_eq group other) ((c other).entry i) i
item_moved place group (content.Put key value) c other i = unmoved place (nat_eq group other) ((c other).entry i)
item_moved place group (content.Delete key) c other i = unmoved place (nat_eq group other) ((c other).entry i)
item_moved place group (content.AtomicGroup id status) c other i = unmoved place (nat_eq group other) ((c other).entry i)

either_there : (place : FileBlockHandle) (es : List EntryIndex) (b : Bool) (g : GroupContent EntryIndex) → (cond b (group_moved place es g) g).there ≡ g.there
either_there place es true g = refl
either_there place es false g = refl

item_there : (place : FileBlockHandle) (group : ℕ) (change : LogItemContent) (c : Content EntryIndex) (other : ℕ) → (moved_by place group change c other).there ≡ (c other).there
item_there place group (content.EntryIndexes es) c other = either_there place es.items (nat_eq group other) (c other)
item_there place group (content.Command command) c other = refl
item_there place group (content.Put key value) c other = refl
item_there place group (content.Delete key) c other = refl
item_there place group (content.AtomicGroup id status) c other = refl

either_value : (place : FileBlockHandle) (es : List EntryIndex) (b : Bool) (g : GroupContent EntryIndex) → (cond b (group_moved place es g) g).value ≡ g.value
either_value place es true g = refl
either_value place es false g = refl

item_value : (place : FileBlockHandle) (group : ℕ) (change : LogItemContent) (c : Content EntryIndex) (other : ℕ) → (moved_by place group change c other).value ≡ (c other).value
item_value place group (content.EntryIndexes es) c other = either_value place es.items (nat_eq group other) (c other)
item_value place group (content.Command command) c other = refl
item_value place group (content.Put key value) c other = refl
item_value place group (content.Delete key) c other = refl
item_value place group (content.AtomicGroup id status) c other = refl

-- ---- all items

pub entry_moved : (place : FileBlockHandle) (items : List LogItem) (c : Content EntryIndex) (group i : ℕ)
    → (items_moved place items c group).entry i ≡ moved ((c group).entry i) (option_map (placed_in place) (written_at (items_of items) group i))
entry_moved place [] c group i = stays ((c group).entry i)
entry_moved place (item ∷ items) c group i =
    let first : Option EntryIndex = cond (nat_eq item.raft_group_id group) (entry_in (change_of item.content) i) None in
    let last : Option EntryIndex = written_at (items_of items) group i in
    entry_moved place items (moved_by place item.raft_group_id item.content c) group i
    ∙ ap (λ (o : Option EntryIndex). moved o (option_map (placed_in place) last)) (item_moved place item.raft_group_id item.content c group i)
    ∙ twice ((c group).entry i) (option_map (placed_in place) first) (option_map (placed_in place) last)
    ∙ ap (λ (o : Option EntryIndex). moved ((c group).entry i) o) (else_mapped (placed_in place) last first)

there_moved : (place : FileBlockHandle) (items : List LogItem) (c : Content EntryIndex) (group : ℕ) → (items_moved place items c group).there ≡ (c group).there
there_moved place [] c group = refl
there_moved place (item ∷ items) c group = there_moved place items (moved_by place item.raft_group_id item.content c) group ∙ item_there place item.raft_group_id item.content c group

value_moved : (place : FileBlockHandle) (items : List LogItem) (c : Content EntryIndex) (group : ℕ) → (items_moved place items c group).value ≡ (c group).value
value_moved place [] c group = refl
value_moved place (item ∷ items) c group = value_moved place items (moved_by place item.raft_group_id item.content c) group ∙ item_value place item.raft_group_id item.content c group

-- ---- the content is as before

cell_stays : {F : Type 0} (f : EntryIndex → F) (place : FileBlockHandle) (o w : Option EntryIndex) → ((old x : EntryIndex) → o ≡ Some old → w ≡ Some x → f (placed_in place x) ≡ f old)
    → option_map f (moved o (option_map (placed_in place) w)) ≡ option_map f o
cell_stays f place None w h = refl
cell_stays f place (Some old) None h = refl
cell_stays f place (Some old) (Some x) h = ap (λ z. Some z) (h old x refl refl)

-- seen in whichever way in which each entry is at its new place what it was at the old one
pub content_stays : {F : Type 0} (f : EntryIndex → F) (place : FileBlockHandle) (items : List LogItem) (c : Content EntryIndex)
    → ((group i : ℕ) (old x : EntryIndex) → (c group).entry i ≡ Some old → written_at (items_of items) group i ≡ Some x → f (placed_in place x) ≡ f old)
    → content_map f (items_moved place items c) ≡ content_map f c
content_stays {F} f place items c h = λ j. λ group. record {
  there = there_moved place items c group j;
  entry = λ i. cell group i j;
  value = value_moved place items c group j;
}
  where
    cell : (group i : ℕ) → option_map f ((items_moved place items c group).entry i) ≡ option_map f ((c group).entry i)
    cell group i =
        ap (option_map f) (entry_moved place items c group i)
        ∙ cell_stays f place ((c group).entry i) (written_at (items_of items) group i) (h group i)

-- ---- where entries lie then

file_stays : {V : Type 0} (place : FileBlockHandle) (o w : Option EntryIndex) (v : Option V) (old new : Option ℕ) → place.id.queue ≡ Rewrite → (g : EntryIndex → V) → option_map g w ≡ v
    → IsSome o → file_at lies_in o ≡ old → FileAfter v old new → file_at lies_in (moved o (option_map (placed_in place) w)) ≡ new
file_stays place None w v old new queue g is some at after = absurd cc
file_stays {V} place (Some e) None v old new queue g is some at after = at ∙ subst (λ (x : Option V). FileAfter x old new) (sym is) after
file_stays {V} place (Some e) (Some x) v old new queue g is some at after =
    ap (λ (q : LogQueue). file_on q place.id.seq) queue ∙ sym (subst (λ (y : Option V). FileAfter y old new) (sym is) after)

-- an entry that the items have lies in the rewrite queue, and any other one where it lay
pub places_told : {V : Type 0} (place : FileBlockHandle) (items : List LogItem) (c : Content EntryIndex) (group i : ℕ) (v : Option V) (old new : Option ℕ) → place.id.queue ≡ Rewrite
    → (g : EntryIndex → V) → option_map g (written_at (items_of items) group i) ≡ v → IsSome ((c group).entry i) → file_at lies_in ((c group).entry i) ≡ old → FileAfter v old new
    → file_at lies_in ((items_moved place items c group).entry i) ≡ new
places_told place items c group i v old new queue g is some at after =
    ap (file_at lies_in) (entry_moved place items c group i) ∙ file_stays place ((c group).entry i) (written_at (items_of items) group i) v old new queue g is some at after

some_moved : {E : Type 0} (o w : Option E) → IsSome (moved o w) → IsSome o
some_moved None w some = some
some_moved (Some x) w some = refl

pub still_there : (place : FileBlockHandle) (items : List LogItem) (c : Content EntryIndex) (group i : ℕ) → IsSome ((items_moved place items c group).entry i) → IsSome ((c group).entry i)
still_there place items c group i some =
    some_moved ((c group).entry i) (option_map (placed_in place) (written_at (items_of items) group i)) (subst (λ (o : Option EntryIndex). IsSome o) (entry_moved place items c group i) some)
