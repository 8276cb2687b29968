-- What listeners hear.
use Rattle.std.specs.Prelude.{◌≡◌, ◌+◌, ◌-◌, ℕ, zero, suc, List, [], ◌∷◌, cond, nat_lt}
use Rattle.raft_log_records.specs.declared.file_id.FileId.{FileId}
use Rattle.raft_log_records.specs.declared.file_id.FileBlockHandle.{FileBlockHandle}
use Rattle.raft_log_records.specs.declared.file_id.LogQueue.{LogQueue}

-- a file is there, a batch was appended at a place, it is in the memtables, the files up to this one are gone
pub data Heard : Type 0 where
  Begun : (id : FileId) → Heard
  Appended : (handle : FileBlockHandle) → Heard
  Applied : (id : FileId) → Heard
  Gone : (id : FileId) → Heard

-- each of the listeners heard this, where the relation is what a listener is once it heard something
abbrev pub AllHear : {L : Type 0} → (L → Heard → L → Type 0) → Heard → List L → List L → Type 0
AllHear hears event [] [] = Unit {0}
AllHear hears event [] (new ∷ news) = ⊥
AllHear hears event (old ∷ olds) [] = ⊥
AllHear hears event (old ∷ olds) (new ∷ news) = hears old event new × AllHear hears event olds news

-- each heard all of these, one after the other, and nothing else
abbrev pub HearAll : {L : Type 0} → (L → Heard → L → Type 0) → List Heard → List L → List L → Type 0
HearAll hears [] olds news = news ≡ olds
HearAll {L} hears (event ∷ events) olds news = (mids : List L) × AllHear hears event olds mids × HearAll hears events mids news

-- so many files of a queue are there, from a number on
abbrev pub files_from : LogQueue → ℕ → ℕ → List Heard
files_from queue first zero = []
files_from queue first (suc count) = Begun (record { queue = queue; seq = first }) ∷ files_from queue (first + 1) count

-- the files of a queue behind one are there, up to the last one
abbrev pub files_behind : LogQueue → ℕ → ℕ → List Heard
files_behind queue before last = files_from queue (before + 1) (last - before)

-- the files of a queue from one on are there, up to the last one
abbrev pub files_within : LogQueue → ℕ → ℕ → List Heard
files_within queue first last = Begun (record { queue = queue; seq = first }) ∷ files_behind queue first last

-- the files of a queue that went are gone, where these were its first ones before and behind
abbrev pub last_gone : LogQueue → ℕ → ℕ → List Heard
last_gone queue before behind = cond (nat_lt before behind) (Gone (record { queue = queue; seq = behind - 1 }) ∷ []) []
