-- What a stream says, however it is cut into pieces.
use Rattle.std.specs.Prelude.{◌≡◌, ◌∷◌, ℕ, List, [], take, drop, Option, Some, None, Result, Ok, Err}
use Rattle.std.specs.List.{flat_map}
use Rattle.raft_wire.specs.declared.error.FrameFault.{FrameFault}
use Rattle.raft_wire.specs.declared.error.FrameError.{FrameError}
use Rattle.raft_wire.specs.declared.error.FrameError.TheVariants as errors
use Rattle.raft_wire.specs.declared.frame.Frame.{Frame}
use Rattle.raft_wire.specs.Stream.{Feeding, fresh, stopped, holding, Answers, front}

-- what a stream says: frames one after the other, and no more or a fault
abbrev pub Says : List ℕ → List (Result Frame FrameFault) → Feeding → Type 0
Says stream [] end = (front stream ≡ None) × (end ≡ holding stream)
Says stream (Ok frame ∷ others) end =
    (taken : ℕ) × (front stream ≡ Some (Ok frame, taken)) × Says (drop taken stream) others end
Says stream (Err why ∷ []) end = (taken : ℕ) × (front stream ≡ Some (Err why, taken)) × (end ≡ stopped)
Says stream (Err why ∷ (other ∷ others)) end = ⊥

-- one feeding of a piece: how much of it was taken, and what was answered
pub record Call : Type 0 where
  pub piece : List ℕ
  pub used : ℕ
  pub answer : Result (Option Frame) FrameError

-- calls of a feeder one after the other
abbrev pub Runs : Feeding → List Call → Feeding → Type 0
Runs old [] end = end ≡ old
Runs old (call ∷ calls) end =
    (next : Feeding) × Answers old call.piece call.used call.answer next × Runs next calls end

-- the bytes that were taken
abbrev pub taken_by : List Call → List ℕ
taken_by calls = flat_map (λ (call : Call). take call.used call.piece) calls

-- a frame or fault among the answers
abbrev pub said_first : Result (Option Frame) FrameError → List (Result Frame FrameFault) → List (Result Frame FrameFault)
said_first (Ok None) others = others
said_first (Ok (Some frame)) others = Ok frame ∷ others
said_first (Err (errors.Fault why)) others = Err why ∷ others
said_first (Err errors.StreamFailed) others = others
said_first (Err errors.Memory) others = others

-- the frames and faults that were answered
abbrev pub said_by : List Call → List (Result Frame FrameFault)
said_by [] = []
said_by (call ∷ calls) = said_first call.answer (said_by calls)

-- what calls answer is what the bytes say that they took
abbrev pub CallsSayTheStream : Type 0
CallsSayTheStream =
    (calls : List Call) (end : Feeding) → Runs fresh calls end → Says (taken_by calls) (said_by calls) end

-- a stream says one thing
abbrev pub StreamsSayOneThing : Type 0
StreamsSayOneThing =
    (stream : List ℕ) (said others : List (Result Frame FrameFault)) (end other : Feeding)
    → Says stream said end → Says stream others other → (said ≡ others) × (end ≡ other)

-- calls that took the same bytes, in whatever pieces, answered the same frames and faults and left the feeder the same
abbrev pub CutsDontMatter : Type 0
CutsDontMatter =
    (calls others : List Call) (end other : Feeding) → Runs fresh calls end → Runs fresh others other
    → taken_by calls ≡ taken_by others → (said_by calls ≡ said_by others) × (end ≡ other)
