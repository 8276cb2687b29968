-- Lists of bytes, and the number at the front of one.
use Rattle.std.specs.Prelude.{◌<◌, ℕ, List, length, take, drop, get_or, Result, Ok, Err, nat_lt, if◌then◌else◌}
use Rattle.std.specs.Int.{Width, byte_len, from_be_bytes}

-- each item is a byte
abbrev pub AreBytes : List ℕ → Type 0
AreBytes bytes = (i : ℕ) → get_or bytes i 0 < 256

infixl 10 ◌>>=◌
-- what comes after a step that did not fail
abbrev pub ◌>>=◌ : {A B E : Type 0} → Result A E → (A → Result B E) → Result B E
(Ok x) >>= f = f x
(Err e) >>= f = Err e

-- a number of this width and the bytes behind it, or this fault where the bytes end before it does
abbrev pub number_or : {E : Type 0} → E → Width → List ℕ → Result (ℕ × List ℕ) E
number_or wrong w bytes = if nat_lt (length bytes) (byte_len w) then Err wrong else Ok (from_be_bytes w (take (byte_len w) bytes), drop (byte_len w) bytes)
