-- Counters: the count of each key, by rising key.
use Rattle.std.specs.Prelude.{ℕ, Bool, ◌*◌, ◌+◌, ◌++◌, ◌==◌, List, [], length, min, replicate, slice_get, slice_index, slice_set, if◌then◌else◌}
use Rattle.std.specs.Option.{option_to_list}
use Rattle.raft_machines.specs.Machine.{MachineRules}

-- a command of two bytes is a key, and by how much its counter counts up
abbrev pub is_addition : List ℕ → Bool
is_addition command = length command == 2

-- a command of one byte says how many times 65,536 counters come
abbrev pub is_extension : List ℕ → Bool
is_extension command = length command == 1

-- the key's counter, if it is there, has counted up: no further than to 255
abbrev pub counted : List ℕ → ℕ → ℕ → List ℕ
counted counts key amount = slice_set counts key (min (slice_index counts key + amount) 255)

-- so many times 65,536 counters more, behind the others
abbrev pub extended : List ℕ → ℕ → List ℕ
extended counts times = counts ++ replicate (times * 65536) 0

-- the counts after a command
abbrev pub after_command : List ℕ → List ℕ → List ℕ
after_command counts command =
    if is_addition command then counted counts (slice_index command 0) (slice_index command 1)
    else if is_extension command then extended counts (slice_index command 0)
    else counts

-- the answer is the count before
abbrev pub answer_to : List ℕ → List ℕ → List ℕ
answer_to counts command =
    if is_addition command then option_to_list (slice_get counts (slice_index command 0)) else []

abbrev pub counters : MachineRules
counters =
    record {
      first = replicate 256 0;
      step = λ counts place command. after_command counts command;
      answer = λ counts place command. answer_to counts command;
      snapshot = λ counts. counts;
      restored = λ bytes. bytes;
    }
