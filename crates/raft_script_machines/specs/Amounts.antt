-- The scripts of the adding machine: `propose` adds an amount, and an answer of 8 bytes is a total.
use Rattle.std.specs.Prelude.{ℕ, Bool, true, false, ◌==◌, List, length, Option, Some, None, if◌then◌else◌}
use Rattle.std.specs.Int.{w64, to_be_bytes}
use Rattle.raft_machines.specs.Adding.{total_of}
use Rattle.raft_machines.specs.declared.telling.Told.{Told}
use Rattle.raft_script_answers.specs.Answer.{number_or_dash, value_text}
use Rattle.raft_script_lines.specs.declared.script_line.ScriptEvent.{ScriptEvent}
use Rattle.raft_script_lines.specs.declared.script_line.ScriptEvent.TheVariants as events
use Rattle.raft_script_lines.specs.declared.script_line.ScriptLine.{ScriptLine}
use Rattle.raft_script_lines.specs.declared.script_line.ScriptLine.TheVariants as lines
use Rattle.raft_script_machines.specs.Speech.{Speech}

-- `kv` begins nodes of another machine
abbrev pub speaks_of_amounts : ScriptLine → Bool
speaks_of_amounts (lines.Kv count) = false
speaks_of_amounts _ = true

abbrev pub amount_in : ScriptEvent → Option (List ℕ)
amount_in (events.Propose node group amount) = Some (to_be_bytes w64 amount)
amount_in _ = None

-- an answer of 8 bytes is a total
abbrev pub total_in : List ℕ → Option ℕ
total_in answer = if length answer == 8 then Some (total_of answer) else None

abbrev pub shown_total : Told → List ℕ
shown_total told = value_text told.token told.place (number_or_dash (total_in told.answer))

abbrev pub amounts : Speech
amounts =
    record { speaks = speaks_of_amounts; proposes = amount_in; shows = shown_total; totals = λ state. Some (total_of state) }
