-- The bytes of a group, as items come one by one.
use Rattle.std.proofs.Common.{◌≡◌, ◌<◌, ◌+◌, ℕ, Bool, true, false, List, [], ◌∷◌, ◌++◌, length, get_or, take, Option, Some, None, refl, sym, ap, ◌∙◌, append_assoc}
use Rattle.std.specs.Prelude.{◌==◌, if◌then◌else◌}
use Rattle.std.specs.List.{cons_option, filter_map}
use Rattle.std.proofs.lemmas.Bool.{eqb-true}
use Rattle.std.proofs.lemmas.List.{map-append, take_more}
use Rattle.std.proofs.lemmas.List.Elements.{filter_map-append}
use Rattle.raft_log_records.specs.declared.item.EntryIndex.{EntryIndex}
use Rattle.raft_log_records.specs.Item.{Item, item_of, items_of}
use Rattle.raft_log_records.specs.declared.item.LogItem.{LogItem}
use Rattle.raft_log_tool.specs.declared.sizes.GroupBytes.{GroupBytes}
use Rattle.raft_log_tool.specs.Sizes.{bytes_in, bytes_of_group, sum_behind, with_bytes, written_of}

sum_append : (before : Option GroupBytes) (xs ys : List GroupBytes) → sum_behind before (xs ++ ys) ≡ sum_behind (sum_behind before xs) ys
sum_append before [] ys = refl
sum_append before (x ∷ xs) ys = sum_append (Some (with_bytes before x)) xs ys

-- more items
pub bytes_append : (group : ℕ) (items more : List (Item EntryIndex)) → bytes_of_group group (items ++ more) ≡ sum_behind (bytes_of_group group items) (filter_map (written_of group) more)
bytes_append group items more =
    ap (sum_behind None) (filter_map-append (written_of group) items more) ∙ sum_append None (filter_map (written_of group) items) (filter_map (written_of group) more)

-- one item that writes bytes of its group
pub added : (n : ℕ) (item : Item EntryIndex) (more : GroupBytes) (old : ℕ → Option GroupBytes) (new : Option GroupBytes) → bytes_in item.change ≡ Some more
    → new ≡ (if item.group == n then Some (with_bytes (old item.group) more) else old n) → new ≡ sum_behind (old n) (filter_map (written_of n) (item ∷ []))
added n item more old new writes is = by_case (item.group == n) refl
  where
    by_case : (b : Bool) → (item.group == n) ≡ b → new ≡ sum_behind (old n) (filter_map (written_of n) (item ∷ []))
    by_case true key =
        is ∙ ap (λ (x : Bool). if x then Some (with_bytes (old item.group) more) else old n) key ∙ ap (λ m. Some (with_bytes (old m) more)) (eqb-true item.group n key)
        ∙ sym (ap (λ (o : Option GroupBytes). sum_behind (old n) (cons_option o [])) (ap (λ (x : Bool). if x then bytes_in item.change else None) key ∙ writes))
    by_case false key =
        is ∙ ap (λ (x : Bool). if x then Some (with_bytes (old item.group) more) else old n) key
        ∙ sym (ap (λ (o : Option GroupBytes). sum_behind (old n) (cons_option o [])) (ap (λ (x : Bool). if x then bytes_in item.change else None) key))

-- and one that writes none
pub not_added : (n : ℕ) (item : Item EntryIndex) (before : Option GroupBytes) → bytes_in item.change ≡ None → before ≡ sum_behind before (filter_map (written_of n) (item ∷ []))
not_added n item before writes = by_case (item.group == n) refl
  where
    by_case : (b : Bool) → (item.group == n) ≡ b → before ≡ sum_behind before (filter_map (written_of n) (item ∷ []))
    by_case true key = sym (ap (λ (o : Option GroupBytes). sum_behind before (cons_option o [])) (ap (λ (x : Bool). if x then bytes_in item.change else None) key ∙ writes))
    by_case false key = sym (ap (λ (o : Option GroupBytes). sum_behind before (cons_option o [])) (ap (λ (x : Bool). if x then bytes_in item.change else None) key))

-- the items of one more, of a list of the program's
pub items_next : (items : List LogItem) (i : ℕ) (item : LogItem) (before : List (Item EntryIndex)) → i < length items → item ≡ get_or items i item
    → (before ++ items_of (take i items)) ++ item_of item ∷ [] ≡ before ++ items_of (take (i + 1) items)
items_next items i item before within is =
    append_assoc before (items_of (take i items)) (item_of item ∷ [])
    ∙ ap (λ (l : List (Item EntryIndex)). before ++ l) (sym (ap items_of (take_more items i item within ∙ ap (λ x. take i items ++ x ∷ []) (sym is)) ∙ map-append item_of (take i items) (item ∷ [])))
