-- Which file an account names of what is there, after a replay: of an entry the one that its place says, of a key the one that
-- the traces have.
use Rattle.std.specs.Prelude.{◌≡◌, ℕ, List, [], ◌∷◌, IsSome, Option, Some, None}
use Rattle.raft_log_records.specs.Item.{Change, Item}
use Rattle.raft_log_records.specs.Item.Change.{entries, clean, compact, put, delete, mark}
use Rattle.raft_log_memtables.specs.Content.{Content}
use Rattle.raft_log_covers.specs.Cells.{after_batches}
use Rattle.raft_log_covers.specs.Cells.Cell.{index, key}
use Rattle.raft_log_covers.specs.Queues.{Filed, batches_of}
use Rattle.raft_log_covers.specs.Account.{no_account, account_after_all}
use Rattle.raft_log_covers.specs.Kept.{Traces, traces_after_all}

-- by their places these entries lie in this append file
abbrev pub EachIn : {E : Type 0} → (E → Option ℕ) → ℕ → List (ℕ × E) → Type 0
EachIn at file [] = Unit {0}
EachIn at file (e ∷ es) = (at e.1 ≡ Some file) × EachIn at file es

abbrev pub ChangeIn : {E : Type 0} → (E → Option ℕ) → ℕ → Change E → Type 0
ChangeIn at file (entries es) = EachIn at file es
ChangeIn at file clean = Unit {0}
ChangeIn at file (compact limit) = Unit {0}
ChangeIn at file (put name value) = Unit {0}
ChangeIn at file (delete name) = Unit {0}
ChangeIn at file (mark id status) = Unit {0}

abbrev pub ItemsIn : {E : Type 0} → (E → Option ℕ) → ℕ → List (Item E) → Type 0
ItemsIn at file [] = Unit {0}
ItemsIn at file (item ∷ items) = ChangeIn at file item.change × ItemsIn at file items

-- the entries of each batch lie in its file
abbrev pub AreFiled : {E : Type 0} → (E → Option ℕ) → List (Filed E) → Type 0
AreFiled at [] = Unit {0}
AreFiled at (b ∷ bs) = ItemsIn at b.file b.items × AreFiled at bs

-- Where no entry of the rewrite queue lies in an append file, each entry that is there lies in the file that the account names.
abbrev pub PlacesTellFiles : Type 0 → Type 0
PlacesTellFiles E = (at : E → Option ℕ) (older : Content E) (bs : List (Filed E)) → ((group i : ℕ) (e : E) → (older group).entry i ≡ Some e → at e ≡ None) → AreFiled at bs
    → (group i : ℕ) (e : E) → (after_batches (batches_of bs) older group).entry i ≡ Some e → account_after_all bs no_account group (index i) ≡ at e

-- Traces that begin without files of keys have the one that the account names, of each key that is there.
abbrev pub TracesTellKeys : Type 0 → Type 0
TracesTellKeys E = (older : Content E) (bs : List (Filed E)) (traces : Traces) → ((group : ℕ) (k : List ℕ) → (traces group).key_file k ≡ None)
    → (group : ℕ) (k : List ℕ) → IsSome ((after_batches (batches_of bs) older group).value k)
    → account_after_all bs no_account group (key k) ≡ (traces_after_all bs traces group).key_file k
