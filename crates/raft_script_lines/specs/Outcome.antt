-- What a reading tells that may want memory.
use Rattle.std.specs.Prelude.{◌≡◌, ℕ, List, Result, Ok, Err}
use Rattle.raft_script_lines.specs.declared.script_line.ScriptLine.{ScriptLine}
use Rattle.raft_script_lines.specs.declared.no_event.NoEvent.{NoEvent}
use Rattle.raft_script_lines.specs.declared.no_event.ReadLineError.{ReadLineError}
use Rattle.raft_script_lines.specs.declared.no_event.ReadLineError.TheVariants as errors
use Rattle.raft_script_lines.specs.Grammar.{Spells}
use Rattle.raft_script_lines.specs.Reading.{line_of}

-- it tells what is read, unless memory was refused
abbrev pub Tells : {A : Type 0} → Result A ReadLineError → Result A NoEvent → Type 0
Tells (Ok value) read = read ≡ Ok value
Tells (Err (errors.NoEvent why)) read = read ≡ Err why
Tells (Err errors.Memory) read = Unit {0}

-- the bytes spell this line, and no other
pub record SpellsOnly (bytes : List ℕ) (line : ScriptLine) : Type 0 where
  pub spelled : Spells line bytes
  pub only : (other : ScriptLine) → Spells other bytes → other ≡ line

-- they spell no line
abbrev pub SpellsNone : List ℕ → Type 0
SpellsNone bytes = (line : ScriptLine) → Spells line bytes → ⊥

-- why a line isn't read: the bytes spell none, and this is the first reason; or memory was refused
abbrev pub IsWhyNot : List ℕ → ReadLineError → Type 0
IsWhyNot bytes (errors.NoEvent why) = SpellsNone bytes × (line_of bytes ≡ Err why)
IsWhyNot bytes errors.Memory = Unit {0}
