-- What is written of one line's answer.
use Rattle.std.specs.Prelude.{◌≡◌, ℕ, ◌+◌, List, [], ◌∷◌, Option, Some}
use Rattle.std.specs.Io.KnownBytes.{Appends}
use Rattle.raft_script_session.specs.declared.end.Stop.{Stop}
use Rattle.raft_script_session.specs.declared.end.Stop.TheVariants as stops
use Rattle.raft_script_session.specs.Lines.{AppendsFront}
use Rattle.raft_script_session.specs.Run.{wrong_line, Stops}
use Rattle.raft_script_session.specs.Reading.{ReadingValue}

-- the line with this number was refused, and so the script stops
abbrev pub RefusesLine : ℕ → Option (List ℕ) → Option (List ℕ) → Stop → Type 0
RefusesLine number before after (stops.NoEvent line) = (line ≡ number) × Appends before after (wrong_line number)
RefusesLine number before after stops.Memory = Appends before after []
RefusesLine number before after stops.Fault = AppendsFront before after (wrong_line number)

module _ {S : Type 0} (runs : S → List ℕ → Option (List ℕ) → S → Type 0) where
  -- the line was answered, and this was written
  abbrev pub AnswersLine : Option (List ℕ) → Option (List ℕ) → S → List ℕ → S → Type 0
  AnswersLine before after old line new = (text : List ℕ) × Appends before after text × runs old line (Some text) new

  -- behind so many lines the script stops at this line, whatever follows it
  abbrev pub StopsAt : Option (List ℕ) → Option (List ℕ) → S → ℕ → List ℕ → Stop → Type 0
  StopsAt before after old count line stop =
      (written : List ℕ) × Appends before after written × ((lines : List (List ℕ)) → Stops runs old count (line ∷ lines) written stop)

  -- the open line was answered, and the next one begins
  pub record EndsLine (before after : Option (List ℕ)) (script : S) (old : ReadingValue) (next : S) (new : ReadingValue) : Type 0 where
    pub answered : AnswersLine before after script old.pending next
    pub cleared : new.pending ≡ []
    pub counted : new.lines ≡ old.lines + 1
