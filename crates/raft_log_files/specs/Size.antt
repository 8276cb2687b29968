-- Sizes as settings have them: digits, spaces at will, and a unit.
use Rattle.std.specs.Prelude.{ℕ, ◌*◌, ◌^◌, Bool, ◌&&◌, ◌||◌, nat_lt, [], ◌∷◌, ◌++◌, take, drop, Option, Some, None, option_and_then, codes}
use Rattle.std.specs.Prelude.{◌==◌, if◌then◌else◌}
use Rattle.std.specs.List.{prefix_len}
use Rattle.std.specs.Fmt.{decimal}
use Rattle.raft_log_records.specs.declared.size.ReadableSize.{ReadableSize}
use Rattle.raft_log_disk.specs.Text.{Text, same_text}
use Rattle.raft_log_disk.specs.Name.{is_digit, value_of}

-- so many bytes
abbrev pub size_of : ℕ → ReadableSize
size_of n = record { 0 = n }

-- what a unit's letter stands for
abbrev pub letter_bytes : ℕ → Option ℕ
letter_bytes c =
    if c == 75 then Some 1024
    else if c == 77 then Some (1024 ^ 2)
    else if c == 71 then Some (1024 ^ 3)
    else if c == 84 then Some (1024 ^ 4)
    else if c == 80 then Some (1024 ^ 5)
    else None

-- a test: what may follow the letter, as in `K`, `KB` and `KiB`
abbrev pub ends_unit : Text → Bool
ends_unit text = same_text text [] || same_text text (codes "B") || same_text text (codes "iB")

-- the bytes of a unit: of none, of `B`, of a letter and what may follow it
abbrev pub unit_bytes : Text → Option ℕ
unit_bytes [] = Some 1
unit_bytes (c ∷ rest) =
    if c == 66 && same_text rest [] then Some 1
    else if ends_unit rest then letter_bytes c
    else None

abbrev pub is_space : ℕ → Bool
is_space b = b == 32

abbrev pub after_spaces : Text → Text
after_spaces text = drop (prefix_len is_space text) text

abbrev pub size_below_end : ℕ → Option ReadableSize
size_below_end n = if nat_lt n (2 ^ 64) then Some (size_of n) else None

-- so many units
abbrev pub sized : Text → Option ℕ → Option ReadableSize
sized number unit = option_and_then (λ u. size_below_end (value_of number * u)) unit

-- the size that a text says: of one digit at least, and below 2^64 bytes
abbrev pub size_said : Text → Option ReadableSize
size_said text =
    let count = prefix_len is_digit text in
    if count == 0 then None else sized (take count text) (unit_bytes (after_spaces (drop count text)))

-- how a size is written: its bytes, and `B`
abbrev pub size_text : ReadableSize → Text
size_text size = decimal size.0 ++ 66 ∷ []
