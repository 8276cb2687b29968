-- Reading from left to right: a reader answers the value at the front of the bytes and the bytes behind it, or the
-- first fault.
use Rattle.std.specs.Prelude.{◌≡◌, ℕ, zero, suc, Bool, not, ◌==◌, List, [], ◌∷◌, length, take, drop}
use Rattle.std.specs.Prelude.{Option, None, Result, Ok, Err, nat_lt, if◌then◌else◌}
use Rattle.std.specs.Int.{Width, w32}
pub use Rattle.raft_bytes.specs.Bytes.{◌>>=◌}
use Rattle.raft_bytes.specs.Bytes.{number_or}
use Rattle.raft_wire.specs.declared.error.FrameFault.{FrameFault}
use Rattle.raft_wire.specs.declared.error.FrameFault.TheVariants as fault
use Rattle.raft_wire.specs.declared.error.FrameError.{FrameError}
use Rattle.raft_wire.specs.declared.error.FrameError.TheVariants as errors

-- What a function returned, seen by view, is what reading gives, unless memory ran out.
abbrev pub Fails : {Y : Type 0} → FrameError → Result Y FrameFault → Type 0
Fails errors.Memory read = Unit {0}
Fails errors.StreamFailed read = ⊥
Fails (errors.Fault f) read = read ≡ Err f

abbrev pub Gives : {X Y : Type 0} → (X → Y) → Result X FrameError → Result Y FrameFault → Type 0
Gives view (Ok x) read = read ≡ Ok (view x)
Gives view (Err e) read = Fails e read

abbrev pub Reader : Type 0 → Type 0
Reader A = List ℕ → Result (A × List ℕ) FrameFault

-- ---- how readers are put together

-- one value behind the other
abbrev pub both : {A B : Type 0} → Reader A → Reader B → Reader (A × B)
both first second bytes = do
  a ← first bytes
  b ← second a.1
  Ok ((a.0, b.0), b.1)

-- what is made of the value
abbrev pub made : {A B : Type 0} → (A → B) → Reader A → Reader B
made make reader bytes = do
  a ← reader bytes
  Ok (make a.0, a.1)

-- a value that must pass a test
abbrev pub tested : {A : Type 0} → FrameFault → (A → Bool) → Reader A → Reader A
tested wrong test reader bytes = do
  a ← reader bytes
  if test a.0 then Ok a else Err wrong

-- so many values, each read with what the one before it leaves
unfoldable pub many_at : {A : Type 0} → (Option ℕ → Reader A) → (A → Option ℕ) → ℕ → Option ℕ → Reader (List A)
many_at one left zero last bytes = Ok ([], bytes)
many_at one left (suc n) last bytes = do
  first ← one last bytes
  others ← many_at one left n (left first.0) first.1
  Ok (first.0 ∷ others.0, others.1)

-- ---- numbers and lengths

abbrev pub number_at : Width → Reader ℕ
number_at w bytes = number_or fault.CutShort w bytes

abbrev pub byte_at : Reader ℕ
byte_at [] = Err fault.CutShort
byte_at (b ∷ rest) = Ok (b, rest)

-- so many bytes
unfoldable pub piece_at : ℕ → Reader (List ℕ)
piece_at n bytes = if nat_lt (length bytes) n then Err fault.CutShort else Ok (take n bytes, drop n bytes)

-- a count or length of four bytes, up to a limit
unfoldable pub count_at : ℕ → Reader ℕ
count_at limit bytes = do
  n ← number_at w32 bytes
  if nat_lt limit n.0 then Err fault.TooLong else Ok n

-- a count up to a limit, and so many values
unfoldable pub counted_at : {A : Type 0} → (Option ℕ → Reader A) → (A → Option ℕ) → ℕ → Reader (List A)
counted_at one left limit bytes = do
  count ← count_at limit bytes
  many_at one left count.0 None count.1

-- a length up to a limit, and so many bytes
unfoldable pub text_at : ℕ → Reader (List ℕ)
text_at limit bytes = do
  n ← count_at limit bytes
  piece_at n.0 n.1

-- such a text of at least one byte: a length of 0 is cut short
abbrev pub has_bytes : List ℕ → Bool
has_bytes bytes = not (length bytes == 0)

unfoldable pub filled_at : ℕ → Reader (List ℕ)
filled_at limit = tested fault.CutShort has_bytes (text_at limit)

-- a value that takes all of the bytes
unfoldable pub all_of : {A : Type 0} → Reader A → List ℕ → Result A FrameFault
all_of reader bytes = do
  a ← reader bytes
  if length a.1 == 0 then Ok a.0 else Err fault.TrailingBytes
