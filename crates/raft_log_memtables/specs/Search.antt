-- Looking for entries behind the items of a batch, from the last item on.
use Rattle.std.specs.Prelude.{ℕ, Option}
use Rattle.raft_log_records.specs.declared.item.EntryIndex.{EntryIndex}
use Rattle.raft_log_records.specs.Item.{Change}
use Rattle.raft_log_memtables.specs.declared.taken.Search.{Search}
use Rattle.raft_log_memtables.specs.declared.taken.Search.TheVariants.{Found, Missing, Before}
use Rattle.raft_log_memtables.specs.Content.{GroupContent, after_change}
use Rattle.raft_log_memtables.specs.Taken.{HasWithin, NoneWithin}

-- entries that are there, or aren't, by these of an earlier time
pub record LeadsTo (before : ℕ → Option EntryIndex) (low : ℕ) (high : Option ℕ) (after : ℕ → Option EntryIndex) (first : ℕ) (last : Option ℕ) : Type 0 where
  pub has : HasWithin before low high → HasWithin after first last
  pub none : NoneWithin before low high → NoneWithin after first last

-- what a change leaves of a search between two indexes, whatever was there before it
abbrev pub Leaves : Change EntryIndex → ℕ → Option ℕ → Search → Type 0
Leaves change first last Found = (g : GroupContent EntryIndex) → HasWithin (after_change change g).entry first last
Leaves change first last Missing = (g : GroupContent EntryIndex) → NoneWithin (after_change change g).entry first last
Leaves change first last (Before low high) = (g : GroupContent EntryIndex) → LeadsTo g.entry low high (after_change change g).entry first last
