-- Files that listeners keep, and what a hook makes of what it hears.
use Rattle.std.specs.Prelude.{◌≡◌, ◌+◌, ◌-◌, ◌^◌, ◌↔◌, ◌≤◌, ◌<◌, ℕ, List, [], ◌∷◌, min, Option, None, Some}
use Rattle.raft_log_records.specs.declared.file_id.LogQueue.{LogQueue}
use Rattle.raft_log_records.specs.declared.file_id.LogQueue.TheVariants.{Append, Rewrite}
use Rattle.raft_log_covers.specs.Account.{IsFrom}
use Rattle.raft_log_covers.specs.Trace.{least}
use Rattle.raft_log_purge.specs.Heard.{Heard}
use Rattle.raft_log_purge.specs.Heard.Heard.{Appended, Applied, Begun, Gone}
use Rattle.raft_log_purge.specs.declared.listener.PurgeHook.{PurgeHook}

-- none of these keeps a file before one
abbrev pub AllKeepFrom : {L : Type 0} → (L → LogQueue → Option ℕ) → LogQueue → ℕ → List L → Type 0
AllKeepFrom kept queue first [] = Unit {0}
AllKeepFrom kept queue first (l ∷ ls) = IsFrom first (kept l queue) × AllKeepFrom kept queue first ls

-- this is the least file that they keep, if they keep one
abbrev pub IsLeastKept : {L : Type 0} → (L → LogQueue → Option ℕ) → LogQueue → List L → Option ℕ → Type 0
IsLeastKept kept queue ls file = (n : ℕ) → IsFrom n file ↔ AllKeepFrom kept queue n ls

-- ---- the hook

-- from the least file with a batch that waits it keeps those of the append queue
abbrev pub kept_by_hook : PurgeHook → LogQueue → Option ℕ
kept_by_hook h Append = h.least
kept_by_hook h Rewrite = None

-- no batch waits
abbrev pub none_waits : PurgeHook
none_waits = record { least = None; waiting = 0 }

-- one more waits, in this file
abbrev pub waiting_at : ℕ → PurgeHook → PurgeHook
waiting_at file h = record { least = least h.least (Some file); waiting = min (h.waiting + 1) (2 ^ 64 - 1) }

-- one more batch of the append queue waits, or one fewer, and anything else changes nothing
abbrev pub heard_by_hook : PurgeHook → Heard → PurgeHook → Type 0
heard_by_hook old (Begun id) new = new ≡ old
heard_by_hook old (Appended handle) new = (handle.id.queue ≡ Append → new ≡ waiting_at handle.id.seq old) × (handle.id.queue ≡ Rewrite → new ≡ old)
heard_by_hook old (Applied id) new =
    (id.queue ≡ Append → old.waiting ≤ 1 → new ≡ none_waits)
    × (id.queue ≡ Append → 1 < old.waiting → (new.least ≡ old.least) × (new.waiting + 1 ≡ old.waiting))
    × (id.queue ≡ Rewrite → new ≡ old)
heard_by_hook old (Gone id) new = new ≡ old
