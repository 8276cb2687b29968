-- A script that reads: how many lines have ended, and the bytes of the line that has not.
use Rattle.std.specs.Prelude.{◌≡◌, ◌≢◌, ℕ, ◌+◌, ◌≤◌, List, [], ◌++◌, length, Option}
use Rattle.std.specs.List.{AllByRecursion}
use Rattle.std.specs.Io.KnownBytes.{Appends}
use Rattle.raft_script_session.specs.declared.end.Stop.{Stop}
use Rattle.raft_script_session.specs.Lines.{lines_of}
use Rattle.raft_script_session.specs.Run.{Ran, Stops}

pub record ReadingValue : Type 0 where
  pub lines : ℕ
  pub pending : List ℕ

-- before the first byte
abbrev pub first : ReadingValue
first = record { lines = 0; pending = [] }

-- no newline is among the bytes
abbrev pub IsOpen : List ℕ → Type 0
IsOpen bytes = AllByRecursion (λ byte. byte ≢ 10) bytes

module _ {S : Type 0} (runs : S → List ℕ → Option (List ℕ) → S → Type 0) where
  -- these bytes end some lines, which are answered by this text
  pub record Takes (script : S) (old : ReadingValue) (bytes : List ℕ) (next : S) (new : ReadingValue) (text : List ℕ) : Type 0 where
    pub ended : List (List ℕ)
    pub cut : (rest : List ℕ) → lines_of (old.pending ++ (bytes ++ rest)) ≡ ended ++ lines_of (new.pending ++ rest)
    pub ran : Ran runs script ended text next
    pub open_line : IsOpen new.pending
    pub counted : new.lines ≡ old.lines + length ended
    pub few : length ended ≤ length bytes

  -- within these bytes, whatever follows them, the script stops so
  abbrev pub StopsWithin : S → ReadingValue → List ℕ → List ℕ → Stop → Type 0
  StopsWithin script old bytes written stop =
      (rest : List ℕ) → Stops runs script old.lines (lines_of (old.pending ++ (bytes ++ rest))) written stop

  -- the same of what was written in fact
  abbrev pub WritesAndStops : Option (List ℕ) → Option (List ℕ) → S → ReadingValue → List ℕ → Stop → Type 0
  WritesAndStops before after script old bytes stop =
      (written : List ℕ) × Appends before after written × StopsWithin script old bytes written stop

  abbrev pub WritesAndTakes : Option (List ℕ) → Option (List ℕ) → S → ReadingValue → List ℕ → S → ReadingValue → Type 0
  WritesAndTakes before after script old bytes next new =
      (written : List ℕ) × Appends before after written × Takes script old bytes next new written

  -- where nothing follows, what is open was answered as a line, and was an event
  abbrev pub WritesAll : Option (List ℕ) → Option (List ℕ) → S → ReadingValue → S → Type 0
  WritesAll before after script old next =
      (text : List ℕ) × Appends before after text × Ran runs script (lines_of old.pending) text next

  -- or the script stopped there
  abbrev pub StopsAtEnd : Option (List ℕ) → Option (List ℕ) → S → ReadingValue → Stop → Type 0
  StopsAtEnd before after script old stop =
      (written : List ℕ) × Appends before after written × Stops runs script old.lines (lines_of old.pending) written stop
