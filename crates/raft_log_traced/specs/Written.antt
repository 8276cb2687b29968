-- How many entries, keys and marks records have.
use Rattle.std.specs.Prelude.{ℕ, ◌+◌, ◌-◌, ◌^◌, min, List, [], ◌∷◌, length}
use Rattle.raft_log_records.specs.Item.{Change, Item}
use Rattle.raft_log_records.specs.Item.Change.{entries, clean, compact, put, delete, mark}
use Rattle.raft_log_purge.specs.declared.due.RewriteCounts.{RewriteCounts}

-- entries of a change, and keys that it sets
abbrev pub sets_by : {E : Type 0} → Change E → ℕ
sets_by (entries es) = length es
sets_by (put key value) = 1
sets_by clean = 0
sets_by (compact limit) = 0
sets_by (delete key) = 0
sets_by (mark id status) = 0

-- marks: a Clean, a Compact, a key that is removed
abbrev pub marks_by : {E : Type 0} → Change E → ℕ
marks_by (entries es) = 0
marks_by (put key value) = 0
marks_by clean = 1
marks_by (compact limit) = 1
marks_by (delete key) = 1
marks_by (mark id status) = 0

-- added up over the items of a record
abbrev pub sum_in : {E : Type 0} → (Change E → ℕ) → List (Item E) → ℕ
sum_in by [] = 0
sum_in by (item ∷ items) = by item.change + sum_in by items

-- and over records
abbrev pub sum_in_all : {E : Type 0} → (Change E → ℕ) → List (List (Item E)) → ℕ
sum_in_all by [] = 0
sum_in_all by (items ∷ records) = sum_in by items + sum_in_all by records

-- a count stays at 2^64 - 1
abbrev pub counted : ℕ → ℕ
counted n = min n (2 ^ 64 - 1)

-- so many, and those of a record more
abbrev pub with_record : {E : Type 0} → RewriteCounts → List (Item E) → RewriteCounts
with_record counts items = record { sets = counted (counts.sets + sum_in sets_by items); marks = counted (counts.marks + sum_in marks_by items) }

-- those of records
abbrev pub counts_in : {E : Type 0} → List (List (Item E)) → RewriteCounts
counts_in records = record { sets = counted (sum_in_all sets_by records); marks = counted (sum_in_all marks_by records) }
