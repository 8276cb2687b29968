-- A script of nodes with one of two machines: its first line says with which.
use Rattle.std.specs.Prelude.{◌≡◌, Bool, true, false, not, ◌&&◌, ◌||◌, ℕ, List, Option, Some, None, Result, Ok, Err}
use Rattle.raft_cluster_events.specs.Node.{NodeActs}
use Rattle.raft_script_lines.specs.declared.no_event.NoEvent.{NoEvent}
use Rattle.raft_script_lines.specs.declared.script_line.ScriptLine.{ScriptLine}
use Rattle.raft_script_lines.specs.Reading.{line_of}
use Rattle.raft_script_machines.specs.Speech.{Speech}
use Rattle.raft_script_session.specs.declared.end.ScriptEnd.{ScriptEnd}
use Rattle.raft_script_session.specs.Run.{Answers}
use Rattle.raft_cluster_script.specs.Script.{IsNone, ScriptValue, TakesSpoken, start}

-- one script for each machine: at most one of them begins
pub record EitherValue (A B : Type 0) : Type 0 where
  pub first : ScriptValue A
  pub second : ScriptValue B

abbrev pub is_there : {A : Type 0} → Option A → Bool
is_there None = false
is_there (Some it) = true

abbrev pub has_begun : {N : Type 0} → ScriptValue N → Bool
has_begun script = is_there script.cluster

module _ {A B : Type 0} (acts : NodeActs A) (speech : Speech) (other_acts : NodeActs B) (other_speech : Speech) where
  -- a line is the second script's once that has begun, and before where only that one has such a line
  abbrev pub is_for_second : EitherValue A B → ScriptLine → Bool
  is_for_second old line = has_begun old.second || (not (has_begun old.first) && not (speech.speaks line))

  abbrev pub TakesBy : Bool → EitherValue A B → ScriptLine → Option (List ℕ) → EitherValue A B → Type 0
  TakesBy true old line text new =
      TakesSpoken other_acts other_speech (other_speech.speaks line) old.second line text new.second × (new.first ≡ old.first)
  TakesBy false old line text new =
      TakesSpoken acts speech (speech.speaks line) old.first line text new.first × (new.second ≡ old.second)

  abbrev pub TakesEither : EitherValue A B → Result ScriptLine NoEvent → Option (List ℕ) → EitherValue A B → Type 0
  TakesEither old (Ok line) text new = TakesBy (is_for_second old line) old line text new
  TakesEither old (Err why) text new = IsNone text

  -- what the bytes of a line do, and are answered
  abbrev pub RunsEitherLine : EitherValue A B → List ℕ → Option (List ℕ) → EitherValue A B → Type 0
  RunsEitherLine old line text new = TakesEither old (line_of line) text new

  -- before its first line neither has begun
  abbrev pub either_start : EitherValue A B
  either_start = record { first = start acts speech; second = start other_acts other_speech }

  -- what is written for an input, where the script ends so
  abbrev pub RunsEither : List ℕ → Option (List ℕ) → Option (List ℕ) → ScriptEnd → Type 0
  RunsEither input before after end = (last : EitherValue A B) × Answers RunsEitherLine either_start input before after last end
