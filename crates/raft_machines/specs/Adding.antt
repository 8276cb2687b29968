-- The adding machine: a total below 2^64, named by its 8 bytes, the greatest first.
use Rattle.std.specs.Prelude.{ℕ, Bool, ◌+◌, ◌%◌, ◌^◌, ◌==◌, List, [], length, if◌then◌else◌}
use Rattle.std.specs.Int.{w64, from_be_bytes, to_be_bytes}
use Rattle.raft_machines.specs.Machine.{MachineRules}

-- the state of this total
abbrev pub state_of_total : ℕ → List ℕ
state_of_total total = to_be_bytes w64 total

-- the total that a state names
abbrev pub total_of : List ℕ → ℕ
total_of state = from_be_bytes w64 state

-- a command of 8 bytes is a number, which is added modulo 2^64
abbrev pub is_amount : List ℕ → Bool
is_amount command = length command == 8

-- the state after a command; one that is no amount changes nothing
abbrev pub after_command : List ℕ → List ℕ → List ℕ
after_command state command =
    if is_amount command then state_of_total ((total_of state + from_be_bytes w64 command) % 2 ^ 64)
    else state

-- the answer is the new total, and no bytes to what is no amount
abbrev pub answer_to : List ℕ → List ℕ → List ℕ
answer_to state command = if is_amount command then after_command state command else []

abbrev pub adding : MachineRules
adding =
    record {
      first = state_of_total 0;
      step = λ state place command. after_command state command;
      answer = λ state place command. answer_to state command;
      snapshot = λ state. state;
      restored = λ bytes. if length bytes == 8 then bytes else state_of_total 0;
    }
