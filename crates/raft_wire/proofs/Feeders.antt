-- What a feeder holds and answers.
use Rattle.std.proofs.Common.{◌≡◌, ℕ, ◌+◌, ◌<◌, ◌≤◌, true, false, cond, ltb, Bool, List, [], ◌++◌, length, Option, Some, None, Result, Ok, Err, refl, sym, ap, subst, ◌∙◌, arith, inl, inr, length-append}
use Rattle.std.specs.Prelude.{IsOk, is_ok}
use Rattle.std.proofs.lemmas.Bool.{cases_lt, ltb-false}
use Rattle.std.proofs.Math.Seq.{take-append-add}
use Rattle.raft_wire.specs.declared.error.FrameFault.TheVariants as fault
use Rattle.raft_wire.specs.declared.error.FrameError.{FrameError}
use Rattle.raft_wire.specs.declared.error.FrameError.TheVariants as errors
use Rattle.raft_wire.specs.declared.frame.Frame.{Frame}
use Rattle.raft_bytes.specs.Bytes.{AreBytes}
use Rattle.raft_bytes.proofs.Bytes.{AreBytes-joined}
use Rattle.raft_wire.specs.Stream.{length_in, fault_of_length, IsIdleSmall, HoldsRightly, IsSpelledSo}
use Rattle.raft_wire.specs.Wanted.{Takes}
use Rattle.raft_wire.proofs.Streams.{not_there, empty_waits, still_waits}
use Rattle.raft_wire.proofs.StreamProofs.{long_enough}
use Rattle.raft_wire.proofs.Fronts.{front_found}

-- ---- lengths

not_long : (a b : Bool) → cond a (Some fault.CutShort) (cond b (Some fault.TooLong) None) ≡ None → b ≡ false
not_long true b h = absurd cc
not_long false true h = absurd cc
not_long false false h = refl

pub right_length : (n : ℕ) → fault_of_length n ≡ None → n ≤ 17825788
right_length n h = ltb-false _ _ (not_long (ltb n 25) (ltb 17825788 n) h)

pub no_length_yet : (s : List ℕ) → length_in s ≡ None → length s < 4
no_length_yet s h = elim (cases_lt (length s) 4) [
  | inl lt ↦ lt
  | inr le ↦ absurd (not_there _ (sym h ∙ long_enough s le))
]

-- ---- what is held

pub no_bytes : (s : List ℕ) → s ≡ [] → AreBytes s
no_bytes s e = subst AreBytes (sym e) (λ i. omega arith)

still_bytes : (held piece : List ℕ) (used : ℕ) (answer : Result (Option Frame) FrameError) (new : List ℕ) → AreBytes held → AreBytes piece → Takes held piece used answer new → AreBytes new
still_bytes held piece used (Ok None) new a b t = subst AreBytes (sym t.2) (AreBytes-joined held piece a b)
still_bytes held piece used (Ok (Some frame)) new a b t = no_bytes new t.2
still_bytes held piece used (Err (errors.Fault why)) new a b t = no_bytes new t.2
still_bytes held piece used (Err errors.StreamFailed) new a b t = absurd t
still_bytes held piece used (Err errors.Memory) new a b t = subst AreBytes (sym t.1) a

pub holds_nothing : (held : List ℕ) (room : ℕ) → held ≡ [] → room ≤ 65536 → HoldsRightly held room
holds_nothing held room e le = record { bytes = no_bytes held e; waits = empty_waits held e; idle = λ _. le }

-- who took more holds something
pub took_more : {T E : Type 0} (r : Result T E) (held piece new : List ℕ) (room : ℕ) → IsOk r → new ≡ cond (is_ok r) (held ++ piece) held → 0 < length piece → IsIdleSmall new room
took_more (Ok x) held piece new room ok is some =
    let joined : new ≡ held ++ piece = is in
    λ nothing. absurd (omega (arith, length-append held piece, ap length joined, ap length nothing))
took_more (Err x) held piece new room ok is some = absurd cc

module _ (held piece : List ℕ) (used : ℕ) (answer : Result (Option Frame) FrameError) (new : List ℕ) (room : ℕ) (old : HoldsRightly held room) (bytes : AreBytes piece) (takes : Takes held piece used answer new) where
  pub still_holds : (later : ℕ) → IsIdleSmall new later → HoldsRightly new later
  still_holds later idle = record { bytes = still_bytes held piece used answer new old.bytes bytes takes; waits = still_waits held piece used answer new old.waits takes; idle = idle }

-- ---- what is answered

pub spelled_so : (held piece : List ℕ) (used : ℕ) (answer : Result (Option Frame) FrameError) (new : List ℕ) → AreBytes held → AreBytes piece → Takes held piece used answer new → IsSpelledSo held piece used answer
spelled_so held piece used (Ok None) new a b t = tt
spelled_so held piece used (Ok (Some frame)) new a b t =
    let found = front_found (held ++ piece) frame (length held + used) (AreBytes-joined held piece a b) t.0 in
    (found.0, sym (take-append-add held piece used) ∙ found.1)
spelled_so held piece used (Err why) new a b t = tt
