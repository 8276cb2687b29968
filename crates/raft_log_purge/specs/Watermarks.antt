-- Up to which files the append queue is cleaned.
use Rattle.std.specs.Prelude.{◌+◌, ◌-◌, ◌*◌, ◌/◌, ℕ, min}

-- the file before which so many per cent of the files from the first to the last lie
abbrev pub file_at : ℕ → ℕ → ℕ → ℕ
file_at first last percent = first + (last - first + 1) * percent / 100

-- the same, but before the last one, which is written
abbrev pub mark_at : ℕ → ℕ → ℕ → ℕ
mark_at first last percent = min (file_at first last percent) (last - 1)
