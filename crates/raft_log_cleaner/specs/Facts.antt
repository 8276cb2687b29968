-- What a cleaning knows of a group, by where its entries lie.
use Rattle.std.specs.Prelude.{◌≡◌, ◌⊎◌, ◌+◌, ◌-◌, ◌<◌, ◌≤◌, ◌^◌, ℕ, zero, suc, Bool, true, false, if◌then◌else◌, nat_le, List, Option, Some, None, IfSome}
use Rattle.raft_log_records.specs.declared.item.EntryIndex.{EntryIndex}
use Rattle.raft_log_memtables.specs.Content.{Content, GroupContent}
use Rattle.raft_log_covers.specs.Kept.{Traces}
use Rattle.raft_log_covers.specs.Account.{IsFrom}
use Rattle.raft_log_covers.specs.Trace.{Trace, least}
use Rattle.raft_log_marks.specs.Opened.{TellPlaces}
use Rattle.raft_log_purge.specs.declared.choice.GroupFacts.{GroupFacts}
use Rattle.raft_log_traced.specs.Traced.{lies_in}

-- ---- entries that are counted

-- there is an entry, and it passes a test of the append file in which it lies
abbrev pub passes : (Option ℕ → Bool) → Option EntryIndex → Bool
passes test None = false
passes test (Some e) = test (lies_in e)

-- how many entries below an index do
abbrev pub count_passing : (Option ℕ → Bool) → (ℕ → Option EntryIndex) → ℕ → ℕ
count_passing test entry zero = 0
count_passing test entry (suc index) = count_passing test entry index + (if passes test (entry index) then 1 else 0)

-- So many entries do, where one at the greatest index isn't counted: it is never rewritten.
pub record AreSoMany (test : Option ℕ → Bool) (entry : ℕ → Option EntryIndex) (count : ℕ) : Type 0 where
  pub limit : ℕ
  pub is : count ≡ count_passing test entry limit
  pub no_more : (i : ℕ) → limit ≤ i → i < 2 ^ 64 - 1 → passes test (entry i) ≡ false

-- it lies in the rewrite queue
abbrev pub is_rewritten : Option ℕ → Bool
is_rewritten None = true
is_rewritten (Some file) = false

-- so, or in an append file that isn't behind this one
abbrev pub lies_up_to : ℕ → Option ℕ → Bool
lies_up_to mark None = true
lies_up_to mark (Some file) = nat_le file mark

-- ---- the oldest file

-- the lesser of a file and another one that isn't behind a mark
abbrev pub least_up_to : ℕ → Option ℕ → Option ℕ → Option ℕ
least_up_to mark file None = file
least_up_to mark file (Some other) = if nat_le other mark then least file (Some other) else file

-- the file, or the one behind the mark
abbrev pub first_from : ℕ → Option ℕ → ℕ
first_from mark None = mark + 1
first_from mark (Some file) = file

-- it holds an entry of a group
abbrev pub HoldsEntry : (ℕ → Option EntryIndex) → ℕ → Type 0
HoldsEntry entry file = (i : ℕ) × (e : EntryIndex) × (entry i ≡ Some e) × (lies_in e ≡ Some file)

-- or a key
abbrev pub HoldsKey : Trace → ℕ → Type 0
HoldsKey t file = (k : List ℕ) × (t.key_file k ≡ Some file)

-- The oldest append file up to a mark that holds an entry below an index, if one does
pub record IsOldestOfEntries (entry : ℕ → Option EntryIndex) (mark limit : ℕ) (file : Option ℕ) : Type 0 where
  pub from : (i : ℕ) (e : EntryIndex) → i < limit → entry i ≡ Some e → IsFrom (first_from mark file) (lies_in e)
  pub held : IfSome file (λ f. (f ≤ mark) × HoldsEntry entry f)

-- so of keys
pub record IsOldestOfKeys (t : Trace) (mark : ℕ) (file : Option ℕ) : Type 0 where
  pub from : (k : List ℕ) → IsFrom (first_from mark file) (t.key_file k)
  pub held : IfSome file (λ f. (f ≤ mark) × HoldsKey t f)

-- and of both. An entry at the greatest index isn't looked at: it is never rewritten
pub record IsOldest (g : GroupContent EntryIndex) (t : Trace) (mark : ℕ) (file : Option ℕ) : Type 0 where
  pub entries : (i : ℕ) (e : EntryIndex) → i < 2 ^ 64 - 1 → g.entry i ≡ Some e → IsFrom (first_from mark file) (lies_in e)
  pub keys : (k : List ℕ) → IsFrom (first_from mark file) (t.key_file k)
  pub held : IfSome file (λ f. (f ≤ mark) × (HoldsEntry g.entry f ⊎ HoldsKey t f))

-- ---- facts of a group

-- Its least append file is the oldest one up to the mark that holds something of it. They say of its entries how many lie in the
-- rewrite queue, and how many there or in append files up to the mark
pub record AreFactsOf (g : GroupContent EntryIndex) (t : Trace) (mark times : ℕ) (facts : GroupFacts) : Type 0 where
  pub least : IsOldest g t mark facts.least_file
  pub rewritten : AreSoMany is_rewritten g.entry facts.rewritten
  pub up_to_mark : AreSoMany (lies_up_to mark) g.entry facts.up_to_mark
  pub reports : facts.reports ≡ times

-- ---- what traces say of entries

-- Each entry lies where its trace says, and there is none behind the trace's last one.
pub record TellEntries (traces : Traces) (content : Content EntryIndex) : Type 0 where
  pub placed : TellPlaces lies_in traces content
  pub past : (group i : ℕ) → (traces group).next ≤ i → (content group).entry i ≡ None
