-- What the scripts of nodes with a machine say of it.
use Rattle.std.specs.Prelude.{ℕ, Bool, List, Option}
use Rattle.raft_machines.specs.declared.telling.Told.{Told}
use Rattle.raft_script_lines.specs.declared.script_line.ScriptEvent.{ScriptEvent}
use Rattle.raft_script_lines.specs.declared.script_line.ScriptLine.{ScriptLine}

pub record Speech : Type 0 where
  -- whether its scripts have such a line
  pub speaks : ScriptLine → Bool
  -- the command that an event proposes; none where it proposes none of this machine's
  pub proposes : ScriptEvent → Option (List ℕ)
  -- how a told answer is printed
  pub shows : Told → List ℕ
  -- the total that a state is; none where the machine adds nothing up
  pub totals : List ℕ → Option ℕ
