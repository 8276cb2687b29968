-- The scripts of the key-value machine: `put`, `get` and `drop`, and answers that are values.
use Rattle.std.specs.Prelude.{ℕ, Bool, true, false, ◌==◌, List, [], ◌∷◌, Option, Some, None, if◌then◌else◌, codes}
use Rattle.std.specs.Str.{is_utf8}
use Rattle.raft_wire.specs.declared.kv.KvCommand.{KvCommand}
use Rattle.raft_wire.specs.declared.kv.KvCommand.TheVariants.{Put, Get, Drop}
use Rattle.raft_wire.specs.Kv.{fault_of_command, spelled_command}
use Rattle.raft_machines.specs.declared.telling.Told.{Told}
use Rattle.raft_script_answers.specs.Answer.{full_text, value_text}
use Rattle.raft_script_lines.specs.declared.script_line.ScriptEvent.{ScriptEvent}
use Rattle.raft_script_lines.specs.declared.script_line.ScriptEvent.TheVariants as events
use Rattle.raft_script_lines.specs.declared.script_line.ScriptLine.{ScriptLine}
use Rattle.raft_script_lines.specs.declared.script_line.ScriptLine.TheVariants as lines
use Rattle.raft_script_machines.specs.Speech.{Speech}
use Rattle.raft_wire.specs.declared.error.FrameFault.{FrameFault}

-- `nodes` begins nodes of another machine, and a map has no total
abbrev pub speaks_of_keys : ScriptLine → Bool
speaks_of_keys (lines.Nodes count) = false
speaks_of_keys (lines.Total node group) = false
speaks_of_keys _ = true

-- a command within its limits is spelled
abbrev pub spelled_if : Option FrameFault → KvCommand → Option (List ℕ)
spelled_if None command = Some (spelled_command command)
spelled_if (Some fault) command = None

abbrev pub spelled : KvCommand → Option (List ℕ)
spelled command = spelled_if (fault_of_command command) command

abbrev pub command_in : ScriptEvent → Option (List ℕ)
command_in (events.Put node group key value) = spelled (Put key value)
command_in (events.Get node group key) = spelled (Get key)
command_in (events.Drop node group key) = spelled (Drop key)
command_in _ = None

-- a value as text; one that is none came from no script
abbrev pub text_of : List ℕ → List ℕ
text_of value = if is_utf8 value then value else codes "?"

-- the first byte of an answer tells whether there is a value
abbrev pub value_in : List ℕ → List ℕ
value_in [] = codes "-"
value_in (tag ∷ value) = if tag == 1 then text_of value else codes "-"

-- the answer to a put into a full map
abbrev pub is_full : List ℕ → Bool
is_full [] = false
is_full (tag ∷ rest) = tag == 2

abbrev pub shown_value : Told → List ℕ
shown_value told =
    if is_full told.answer then full_text told.token told.place
    else value_text told.token told.place (value_in told.answer)

abbrev pub keys : Speech
keys = record { speaks = speaks_of_keys; proposes = command_in; shows = shown_value; totals = λ state. None }
