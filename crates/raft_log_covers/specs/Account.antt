-- Which append files may go: an account of where each cell's last change stands.
use Rattle.std.specs.Prelude.{◌≡◌, ◌⊎◌, ◌≤◌, ℕ, true, false, if◌then◌else◌, List, [], ◌∷◌, ◌++◌, Option, Some, None, drop}
use Rattle.raft_log_records.specs.Item.{Item}
use Rattle.raft_log_memtables.specs.Content.{Content, nothing, after_batch}
use Rattle.raft_log_memtables.specs.Replay.{content_of}
use Rattle.raft_log_covers.specs.Cells.{Cell, held, batch_sets, batches_set, after_batches}
use Rattle.raft_log_covers.specs.Queues.{Filed, batches_of, batches_from, Covers}
use Rattle.raft_log_covers.specs.Written.{Written, batch_of, records_of, all_records, IsWritten, AreWritten}

-- of each cell of a group: an append file in which it was set, or none where the rewrite queue has what the content has
abbrev pub Account : Type 0
Account = ℕ → Cell → Option ℕ

abbrev pub IsAccountedBy : {E : Type 0} → Option ℕ → Content E → Content E → List (Filed E) → ℕ → Cell → Type 0
IsAccountedBy None older content bs group c = held (older group) c ≡ held (content group) c
IsAccountedBy (Some file) older content bs group c = batches_set (batches_from file bs) group c ≡ true

-- the account is true of what is in the rewrite queue, of the content, and of the append queue
abbrev pub IsAccounted : {E : Type 0} → Account → Content E → Content E → List (Filed E) → Type 0
IsAccounted account older content bs = (group : ℕ) (c : Cell) → IsAccountedBy (account group c) older content bs group c

abbrev pub IsFrom : ℕ → Option ℕ → Type 0
IsFrom first None = Unit {0}
IsFrom first (Some file) = first ≤ file

-- the account names no file before this one
abbrev pub NamesNoneBefore : ℕ → Account → Type 0
NamesNoneBefore first account = (group : ℕ) (c : Cell) → IsFrom first (account group c)

-- the account after a batch in a file of the append queue
abbrev pub account_after : {E : Type 0} → ℕ → List (Item E) → Account → Account
account_after file items account group c = if batch_sets items group c then Some file else account group c

abbrev pub account_after_all : {E : Type 0} → List (Filed E) → Account → Account
account_after_all [] account = account
account_after_all (b ∷ bs) account = account_after_all bs (account_after b.file b.items account)

-- no cell has its last change in the append queue
abbrev pub no_account : Account
no_account group c = None

-- What a batch for the rewrite queue makes of an account, where older is what the queue has. Where it says none, the batch
-- sets the cell to what the content has, or leaves it and the queue had that. Where it names a file, the account named it
-- before.
abbrev pub Settles : {E : Type 0} → List (Item E) → Content E → Content E → ℕ → Cell → Option ℕ → Option ℕ → Type 0
Settles items older content group c old None =
    ((batch_sets items group c ≡ true) × (held (after_batch items nothing group) c ≡ held (content group) c))
    ⊎ ((batch_sets items group c ≡ false) × (held (older group) c ≡ held (content group) c))
Settles items older content group c old (Some file) = old ≡ Some file

-- ---- laws

-- Append files may go up to the first one that the account names: the rewrite queue covers the content for those that stay.
abbrev pub FilesMayGo : Type 0 → Type 0
FilesMayGo E = (account : Account) (older content : Content E) (bs : List (Filed E)) (first : ℕ) → IsAccounted account older content bs → NamesNoneBefore first account
    → Covers older content (batches_from first bs)

-- An opening finds an account: it names no file before the append queue is replayed, and then goes by its batches.
abbrev pub OpeningsAccount : Type 0 → Type 0
OpeningsAccount E = (older : Content E) (bs : List (Filed E)) → IsAccounted (account_after_all bs no_account) older (after_batches (batches_of bs) older) bs

-- A write keeps the account.
abbrev pub WritesAccount : Type 0 → Type 0
WritesAccount E = (account : Account) (older content : Content E) (bs : List (Filed E)) (file : ℕ) (items : List (Item E)) → IsAccounted account older content bs
    → IsAccounted (account_after file items account) older (after_batch items content) (bs ++ record { file = file; items = items } ∷ [])

-- So does what is written to the rewrite queue.
abbrev pub RewritesAccount : Type 0 → Type 0
RewritesAccount E = (account after : Account) (records : List (List (Item E))) (content : Content E) (bs : List (Filed E)) (w : Written E) → IsWritten w
    → IsAccounted account (content_of records) content bs → ((group : ℕ) (c : Cell) → Settles (batch_of w) (content_of records) content group c (account group c) (after group c))
    → IsAccounted after (content_of (records ++ records_of w)) content bs

-- Files that the account doesn't name may be forgotten.
abbrev pub FilesAreForgotten : Type 0 → Type 0
FilesAreForgotten E = (account : Account) (older content : Content E) (more bs : List (Filed E)) (first : ℕ) → IsAccounted account older content (more ++ bs) → NamesNoneBefore first account
    → batches_from first more ≡ [] → IsAccounted account older content bs

-- The rewrite queue is written anew, and its old records go from the front. Where the new ones give each cell that the account
-- doesn't name what the content has, the account is true of whatever is left of the old ones and the new ones.
abbrev pub OldRewritesMayGo : Type 0 → Type 0
OldRewritesMayGo E = (account : Account) (content : Content E) (bs : List (Filed E)) (old new : List (Written E)) → AreWritten old → AreWritten new
    → IsAccounted account (content_of (all_records old ++ all_records new)) content bs
    → ((group : ℕ) (c : Cell) → account group c ≡ None → held (content_of (all_records new) group) c ≡ held (content group) c)
    → (n : ℕ) → IsAccounted account (content_of (drop n (all_records old) ++ all_records new)) content bs
