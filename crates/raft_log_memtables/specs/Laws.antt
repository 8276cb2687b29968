-- What atomic groups come to, over whole lists of records.
use Rattle.std.specs.Prelude.{◌≡◌, ℕ, List, [], ◌∷◌, ◌++◌, Some}
use Rattle.raft_log_records.specs.Item.{Item}
use Rattle.raft_log_records.specs.declared.item.AtomicGroupStatus.TheVariants.{Begin, Middle, End}
use Rattle.raft_log_memtables.specs.Content.{after_batch}
use Rattle.raft_log_memtables.specs.Replay.{mark_of, content_of}

-- the records between the first and the last one of an atomic group
abbrev pub AreMiddles : {E : Type 0} → ℕ → List (List (Item E)) → Type 0
AreMiddles id [] = Unit {0}
AreMiddles id (items ∷ records) = (mark_of items ≡ Some (id, Middle)) × AreMiddles id records

abbrev pub all_of : {E : Type 0} → List (List (Item E)) → List (Item E)
all_of [] = []
all_of (items ∷ records) = items ++ all_of records

-- with its end an atomic group counts whole, as one batch
abbrev pub CountsWhole : Type 0 → Type 0
CountsWhole E = (records middles : List (List (Item E))) (first last : List (Item E)) (id : ℕ) → mark_of first ≡ Some (id, Begin)
    → AreMiddles id middles → mark_of last ≡ Some (id, End)
    → content_of (records ++ first ∷ (middles ++ last ∷ [])) ≡ after_batch (first ++ (all_of middles ++ last)) (content_of records)

-- without its end it counts nothing
abbrev pub CountsNothing : Type 0 → Type 0
CountsNothing E = (records middles : List (List (Item E))) (first : List (Item E)) (id : ℕ) → mark_of first ≡ Some (id, Begin)
    → AreMiddles id middles → content_of (records ++ first ∷ middles) ≡ content_of records
