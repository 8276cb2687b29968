-- What cleaning writes of one group: marks, entries and keys.
use Rattle.std.specs.Prelude.{◌≡◌, ◌⊎◌, ℕ, Bool, true, false, ◌&&◌, ◌||◌, if◌then◌else◌, nat_eq, nat_le}
use Rattle.std.specs.Prelude.{nat_lt, bytes_eq, is_some, IsSome, List, [], ◌∷◌, ◌++◌, Option, Some, None}
use Rattle.raft_log_records.specs.Item.{Change, Item}
use Rattle.raft_log_records.specs.Item.Change.{entries, clean, compact, put, delete}
use Rattle.raft_log_records.specs.Spelling.{first_index}
use Rattle.raft_log_memtables.specs.Content.{GroupContent, Content, no_group, entry_at, after_change}
use Rattle.raft_log_memtables.specs.Replay.{mark_of, content_of}
use Rattle.raft_log_covers.specs.Cells.{Cell, held, sets}
use Rattle.raft_log_covers.specs.Cells.Cell.{presence, index, key}
use Rattle.raft_log_covers.specs.Queues.{Filed}
use Rattle.raft_log_covers.specs.Account.{Account, IsAccounted}

-- ---- changes of one group

abbrev pub of_group : {E : Type 0} → ℕ → List (Change E) → List (Item E)
of_group group [] = []
of_group group (change ∷ changes) = record { group = group; change = change } ∷ of_group group changes

abbrev pub after_changes : {E : Type 0} → List (Change E) → GroupContent E → GroupContent E
after_changes [] g = g
after_changes (change ∷ changes) g = after_changes changes (after_change change g)

abbrev pub changes_set : {E : Type 0} → List (Change E) → Cell → Bool
changes_set [] c = false
changes_set (change ∷ changes) c = sets change c || changes_set changes c

-- what an account names of a group
abbrev pub Names : Type 0
Names = Cell → Option ℕ

-- an account with other names of one group
abbrev pub with_group : ℕ → Names → Account → Account
with_group group names account other c = if nat_eq group other then names c else account other c

-- What the changes make of a cell that an account names so, and then so: see `Settles`.
abbrev pub SettlesIn : {E : Type 0} → List (Change E) → GroupContent E → GroupContent E → Cell → Option ℕ → Option ℕ → Type 0
SettlesIn changes older g c old None =
    ((changes_set changes c ≡ true) × (held (after_changes changes no_group) c ≡ held g c)) ⊎ ((changes_set changes c ≡ false) × (held older c ≡ held g c))
SettlesIn changes older g c old (Some file) = old ≡ Some file

-- ---- marks

abbrev pub deletes : {E : Type 0} → List (List ℕ) → List (Change E)
deletes [] = []
deletes (k ∷ ks) = delete k ∷ deletes ks

abbrev pub is_in : List ℕ → List (List ℕ) → Bool
is_in wanted [] = false
is_in wanted (k ∷ ks) = bytes_eq k wanted || is_in wanted ks

-- A Clean, if the group was cleaned since its last marks. Then a Compact, also where nothing was compacted. Then the keys that
-- were deleted.
abbrev pub marks : {E : Type 0} → Bool → ℕ → List (List ℕ) → List (Change E)
marks true limit ks = clean ∷ (compact limit ∷ deletes ks)
marks false limit ks = compact limit ∷ deletes ks

-- The rule of marks, where older is what the rewrite queue has of the group, and g its content.
pub record MayMark {E : Type 0} (older g : GroupContent E) (names : Names) (cleaned : Bool) (limit : ℕ) (is_empty : Bool) (ks : List (List ℕ)) : Type 0 where
  pub there : g.there ≡ true
  -- the Compact is that of the first index, or lies past all that the rewrite queue has where there is no entry
  pub below : (i : ℕ) → nat_lt i limit ≡ true → g.entry i ≡ None
  pub no_entry : is_empty ≡ true → (i : ℕ) → g.entry i ≡ None
  pub past : is_empty ≡ true → cleaned ≡ false → (i : ℕ) → nat_lt i limit ≡ false → older.entry i ≡ None
  -- the keys are those that are gone and that the rewrite queue still has, and may be more that are gone
  pub gone : (k : List ℕ) → is_in k ks ≡ true → g.value k ≡ None
  pub all_gone : cleaned ≡ false → (k : List ℕ) → g.value k ≡ None → is_in k ks ≡ false → older.value k ≡ None
  -- no entry and no key was rewritten since the Clean
  pub entries_since : cleaned ≡ true → (i : ℕ) → names (index i) ≡ None → g.entry i ≡ None
  pub keys_since : cleaned ≡ true → (k : List ℕ) → names (key k) ≡ None → g.value k ≡ None

-- What is left to be named: entries and keys that are there, and what lies past the last entry.
abbrev pub names_after_marks : {E : Type 0} → GroupContent E → Names → ℕ → Bool → Cell → Option ℕ
names_after_marks g names limit is_empty presence = None
names_after_marks g names limit is_empty (index i) = if is_empty || nat_lt i limit then None else names (index i)
names_after_marks g names limit is_empty (key k) = if is_some (g.value k) then names (key k) else None

-- ---- entries and keys

-- Entries are rewritten, those that are settled. What comes behind them stands in the append queue, or isn't there.
pub record MayRewrite {E : Type 0} (g : GroupContent E) (names : Names) (es : List (ℕ × E)) (settled : ℕ → Bool) : Type 0 where
  pub there : g.there ≡ true
  pub same : (i : ℕ) → nat_le (first_index es) i ≡ true → settled i ≡ true → entry_at es i ≡ g.entry i
  pub named : (i : ℕ) → nat_le (first_index es) i ≡ true → settled i ≡ false → IsSome (names (index i))

abbrev pub names_after_entries : {E : Type 0} → Names → List (ℕ × E) → (ℕ → Bool) → Cell → Option ℕ
names_after_entries names es settled presence = None
names_after_entries names es settled (index i) = if nat_le (first_index es) i && settled i then None else names (index i)
names_after_entries names es settled (key k) = names (key k)

abbrev pub names_after_put : Names → List ℕ → Cell → Option ℕ
names_after_put names k presence = None
names_after_put names k (index i) = names (index i)
names_after_put names k (key other) = if bytes_eq k other then None else names (key other)

-- ---- laws: what is written of a group keeps the account, with these names

abbrev pub MarksSettle : Type 0 → Type 0
MarksSettle E = (account : Account) (records : List (List (Item E))) (content : Content E) (bs : List (Filed E)) (group : ℕ) (cleaned : Bool) (limit : ℕ) (is_empty : Bool) (ks : List (List ℕ))
    → IsAccounted account (content_of records) content bs → MayMark (content_of records group) (content group) (account group) cleaned limit is_empty ks
    → IsAccounted (with_group group (names_after_marks (content group) (account group) limit is_empty) account)
    (content_of (records ++ of_group group (marks cleaned limit ks) ∷ [])) content bs

-- a group that isn't there has a Clean alone for its mark
abbrev pub CleansSettle : Type 0 → Type 0
CleansSettle E = (account : Account) (records : List (List (Item E))) (content : Content E) (bs : List (Filed E)) (group : ℕ)
    → IsAccounted account (content_of records) content bs → ((c : Cell) → held (content group) c ≡ held no_group c)
    → IsAccounted (with_group group (λ c. None) account) (content_of (records ++ of_group group (clean ∷ []) ∷ [])) content bs

abbrev pub EntriesSettle : Type 0 → Type 0
EntriesSettle E = (account : Account) (records : List (List (Item E))) (content : Content E) (bs : List (Filed E)) (group : ℕ) (es : List (ℕ × E)) (settled : ℕ → Bool)
    → IsAccounted account (content_of records) content bs → MayRewrite (content group) (account group) es settled
    → IsAccounted (with_group group (names_after_entries (account group) es settled) account)
    (content_of (records ++ of_group group (entries es ∷ []) ∷ [])) content bs

abbrev pub KeysSettle : Type 0 → Type 0
KeysSettle E = (account : Account) (records : List (List (Item E))) (content : Content E) (bs : List (Filed E)) (group : ℕ) (k value : List ℕ)
    → IsAccounted account (content_of records) content bs → (content group).there ≡ true → (content group).value k ≡ Some value
    → IsAccounted (with_group group (names_after_put (account group) k) account)
    (content_of (records ++ of_group group (put k value ∷ []) ∷ [])) content bs

-- two batches without marks in one record do what they do in two
abbrev pub BatchesJoin : Type 0 → Type 0
BatchesJoin E = (records : List (List (Item E))) (first second : List (Item E)) → mark_of first ≡ None → mark_of second ≡ None
    → content_of (records ++ (first ++ second) ∷ []) ≡ content_of (records ++ first ∷ (second ∷ []))
