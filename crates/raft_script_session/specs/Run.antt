-- What is written for the lines of a script, and how it ends: over what each line does and is answered.
use Rattle.std.specs.Prelude.{◌≡◌, ◌⊎◌, ℕ, ◌+◌, nat_lt, true, List, [], ◌∷◌, ◌++◌, length, Option, Some, None, codes}
use Rattle.std.specs.Fmt.{decimal}
use Rattle.std.specs.Io.KnownBytes.{Appends}
use Rattle.raft_script_lines.specs.Words.{longest_line}
use Rattle.raft_script_session.specs.declared.end.ScriptEnd.{ScriptEnd}
use Rattle.raft_script_session.specs.declared.end.ScriptEnd.TheVariants as ends
use Rattle.raft_script_session.specs.declared.end.Stop.{Stop}
use Rattle.raft_script_session.specs.declared.end.Stop.TheVariants as stops
use Rattle.raft_script_session.specs.Lines.{lines_of}

-- the answer to a line that is no event
abbrev pub wrong_line : ℕ → List ℕ
wrong_line number = codes "line " ++ (decimal number ++ 10 ∷ [])

-- `runs old line text new`: the line takes the script from the one state to the other, and is answered by the text; by none where
-- it is no event
module _ {S : Type 0} (runs : S → List ℕ → Option (List ℕ) → S → Type 0) where
  -- each of these lines is an event, one after another, and this text is their answers
  abbrev pub Ran : S → List (List ℕ) → List ℕ → S → Type 0
  Ran old [] text new = (text ≡ []) × (new ≡ old)
  Ran old (line ∷ lines) text new =
      (next : S) × (first : List ℕ) × (others : List ℕ) × runs old line (Some first) next × (text ≡ first ++ others) × Ran next lines others new

  -- the line is too long, or no event
  abbrev pub IsNoEvent : S → List ℕ → Type 0
  IsNoEvent old line = (nat_lt longest_line (length line) ≡ true) ⊎ ((next : S) × runs old line None next)

  -- the first of these lines is none
  abbrev pub BeginsWrong : S → List (List ℕ) → Type 0
  BeginsWrong old [] = ⊥
  BeginsWrong old (line ∷ lines) = IsNoEvent old line

  -- the first of these lines, with this number, is answered so
  abbrev pub IsAnswered : S → ℕ → List (List ℕ) → List ℕ → Type 0
  IsAnswered old number [] text = ⊥
  IsAnswered old number (line ∷ lines) text =
      ((next : S) × runs old line (Some text) next) ⊎ (IsNoEvent old line × (text ≡ wrong_line number))

  -- a front of that is shown, or nothing
  abbrev pub IsShown : S → ℕ → List (List ℕ) → List ℕ → Type 0
  IsShown old number lines shown = (shown ≡ []) ⊎ ((left : List ℕ) × IsAnswered old number lines (shown ++ left))

  -- where the next line has this number, the script stops so, behind the text with which this was written
  abbrev pub Ends : S → ℕ → List (List ℕ) → List ℕ → List ℕ → Stop → Type 0
  Ends old number lines text written (stops.NoEvent line) =
      (line ≡ number) × (written ≡ text ++ wrong_line number) × BeginsWrong old lines
  Ends old number lines text written stops.Memory = written ≡ text
  Ends old number lines text written stops.Fault =
      (shown : List ℕ) × (written ≡ text ++ shown) × IsShown old number lines shown

  -- behind so many lines, of these lines this was written when the script stopped so
  pub record Stops (old : S) (count : ℕ) (lines : List (List ℕ)) (written : List ℕ) (stop : Stop) : Type 0 where
    pub ran : List (List ℕ)
    pub rest : List (List ℕ)
    pub split : lines ≡ ran ++ rest
    pub text : List ℕ
    pub at : S
    pub runs_to : Ran old ran text at
    pub ends : Ends at (count + length ran + 1) rest text written stop

  -- what was written for an input, where the script stopped so
  abbrev pub StopsIn : S → List ℕ → Option (List ℕ) → Option (List ℕ) → Stop → Type 0
  StopsIn old input before after stop = (written : List ℕ) × Appends before after written × Stops old 0 (lines_of input) written stop

  -- the input was read to its end, and each line was an event
  abbrev pub WritesText : S → List ℕ → Option (List ℕ) → Option (List ℕ) → S → Type 0
  WritesText old input before after new = (text : List ℕ) × Appends before after text × Ran old (lines_of input) text new

  -- what was written for an input, where the script ended so
  abbrev pub Answers : S → List ℕ → Option (List ℕ) → Option (List ℕ) → S → ScriptEnd → Type 0
  Answers old input before after new ends.Done = WritesText old input before after new
  Answers old input before after new (ends.NoEvent number) = StopsIn old input before after (stops.NoEvent number)
  Answers old input before after new ends.Memory = StopsIn old input before after stops.Memory
  Answers old input before after new ends.Fault = StopsIn old input before after stops.Fault
