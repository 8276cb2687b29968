-- Entries, keys and marks of the rewrite queue's records, counted.
use Rattle.std.proofs.Common.{◌≡◌, ℕ, ◌+◌, ◌-◌, ◌<◌, ◌≤◌, ◌^◌, List, [], ◌∷◌, ◌++◌, refl, sym, ap, ◌∙◌, arith}
use Rattle.raft_log_records.specs.declared.file_id.LogQueue.TheVariants.{Append, Rewrite}
use Rattle.raft_log_records.specs.declared.item.EntryIndex.{EntryIndex}
use Rattle.raft_log_records.specs.declared.item.LogItem.{LogItem}
use Rattle.raft_log_records.specs.Item.{Change, Item, change_of, items_of}
use Rattle.raft_log_purge.specs.declared.due.RewriteCounts.{RewriteCounts}
use Rattle.raft_log_recovery.specs.Replay.{Placed}
use Rattle.raft_log_traced.specs.Traced.{rewrites_in}
use Rattle.raft_log_traced.specs.Written.{counted, counts_in, marks_by, sets_by, sum_in, sum_in_all, with_record}
use Rattle.raft_log_traced.proofs.PartedLemmas.{no_more, one_rewrite}

-- one item more
sum_more : (by : Change EntryIndex → ℕ) (items : List LogItem) (item : LogItem) → sum_in by (items_of (items ++ item ∷ [])) ≡ sum_in by (items_of items) + by (change_of item.content)
sum_more by [] item = omega arith
sum_more by (other ∷ items) item = let rest = sum_more by items item in omega (arith, rest)

-- up to the greatest count
pub counted_more : (before some more count now : ℕ) → count ≡ counted (before + some) → now ≡ counted (count + more) → now ≡ counted (before + (some + more))
counted_more before some more count now one two = omega (arith, one, two)

pub counted_item : (by : Change EntryIndex → ℕ) (items more : List LogItem) (item : LogItem) (before count now : ℕ) → more ≡ items ++ item ∷ [] → count ≡ counted (before + sum_in by (items_of items))
    → now ≡ counted (count + by (change_of item.content)) → now ≡ counted (before + sum_in by (items_of more))
counted_item by items more item before count now is one two =
    counted_more before (sum_in by (items_of items)) (by (change_of item.content)) count now one two
    ∙ ap (λ (n : ℕ). counted (before + n)) (sym (sum_more by items item))
    ∙ ap (λ (l : List LogItem). counted (before + sum_in by (items_of l))) (sym is)

-- one record more
sum_record : (by : Change EntryIndex → ℕ) (records : List (List (Item EntryIndex))) (items : List (Item EntryIndex)) → sum_in_all by (records ++ items ∷ []) ≡ sum_in_all by records + sum_in by items
sum_record by [] items = omega arith
sum_record by (other ∷ records) items = let rest = sum_record by records items in omega (arith, rest)

counted_record : (by : Change EntryIndex → ℕ) (records : List (List (Item EntryIndex))) (items : List (Item EntryIndex)) → counted (counted (sum_in_all by records) + sum_in by items) ≡ counted (sum_in_all by (records ++ items ∷ []))
counted_record by records items = let all = sum_record by records items in omega (arith, all)

with_more : (records : List (List (Item EntryIndex))) (items : List (Item EntryIndex)) → with_record (counts_in records) items ≡ counts_in (records ++ items ∷ [])
with_more records items = λ i. record { sets = counted_record sets_by records items i; marks = counted_record marks_by records items i }

-- a batch of the append queue isn't counted
pub append_counted : (placed : List Placed) (p : Placed) (counts : RewriteCounts) → p.handle.id.queue ≡ Append → counts ≡ counts_in (rewrites_in placed) → counts ≡ counts_in (rewrites_in (placed ++ p ∷ []))
append_counted placed p counts queue is = is ∙ ap (λ (l : List (List (Item EntryIndex))). counts_in l) (sym (no_more placed p queue))

-- one of the rewrite queue is
pub rewrite_counted : (placed : List Placed) (p : Placed) (counts now : RewriteCounts) → p.handle.id.queue ≡ Rewrite → counts ≡ counts_in (rewrites_in placed) → now ≡ with_record counts p.items
    → now ≡ counts_in (rewrites_in (placed ++ p ∷ []))
rewrite_counted placed p counts now queue is more =
    more ∙ ap (λ (c : RewriteCounts). with_record c p.items) is ∙ with_more (rewrites_in placed) p.items ∙ ap (λ (l : List (List (Item EntryIndex))). counts_in l) (sym (one_rewrite placed p queue))
