-- What contracts see of the queue of commands.
use Rattle.std.specs.Prelude.{ℕ, ◌+◌, ◌%◌, ◌^◌, List}
use Rattle.raft_commands.specs.declared.command.Command.{Command}

-- the commands in their order, and the last number that a command of the state machine got
pub record Output (C D R K N : Type 0) : Type 0 where
  pub queue : List (Command C D R K N)
  pub last_sm_seq : ℕ

-- the number after this one; after the greatest of 64 bits comes 0
abbrev pub following_seq : ℕ → ℕ
following_seq seq = (seq + 1) % 2 ^ 64
