-- The front of a stream.
use Rattle.std.proofs.Common.{◌≡◌, ℕ, ◌+◌, ◌<◌, ◌≤◌, inl, inr, true, false, ltb, List, [], ◌∷◌, ◌++◌, length, get_or, take, drop, Option, Some, None, Result, Ok, Err, refl, sym, ap, ◌∙◌, arith, length-append}
use Rattle.std.proofs.lemmas.Bool.{cases_lt, le-ltb, lt-ltb}
use Rattle.std.proofs.lemmas.List.{take-append-le, drop-take}
use Rattle.std.proofs.Math.Seq.{take-append-add}
use Rattle.raft_wire.specs.declared.error.FrameFault.{FrameFault}
use Rattle.raft_wire.specs.declared.frame.Frame.{Frame}
use Rattle.raft_wire.specs.declared.error.FrameError.{FrameError}
use Rattle.raft_wire.specs.declared.error.FrameError.TheVariants as errors
use Rattle.raft_wire.specs.Reader.{all_of}
use Rattle.raft_wire.specs.Frames.{rest_at}
use Rattle.raft_wire.specs.Stream.{Judged, length_in, fault_of_length, judged_length, judged, front}
use Rattle.raft_wire.specs.Wanted.{Takes}

-- the first four bytes
pub four_bytes : (bytes : List ℕ) → 4 ≤ length bytes → take 4 bytes ≡ get_or bytes 0 0 ∷ get_or bytes 1 0 ∷ get_or bytes 2 0 ∷ get_or bytes 3 0 ∷ []
four_bytes [] h = absurd (omega arith)
four_bytes (a ∷ []) h = absurd (omega arith)
four_bytes (a ∷ b ∷ []) h = absurd (omega arith)
four_bytes (a ∷ b ∷ c ∷ []) h = absurd (omega arith)
four_bytes (a ∷ b ∷ c ∷ d ∷ bytes) h = refl

-- a length that is there stays as more comes
pub same_length : (held more : List ℕ) → 4 ≤ length held → length_in (held ++ more) ≡ length_in held
same_length held more h =
    let a : ltb (length held) 4 ≡ false = le-ltb _ _ h in
    let b : ltb (length (held ++ more)) 4 ≡ false = le-ltb _ _ (omega (arith, length-append held more)) in
    let t : take 4 (held ++ more) ≡ take 4 held = take-append-le 4 held more h in
    rw (a, b, t) refl

abbrev no_length : Option ℕ
no_length = None

pub not_there : (n : ℕ) → no_length ≡ Some n → ⊥
not_there n e = absurd cc

module _ (s : List ℕ) where
  nothing_there : length s < 4 → length_in s ≡ None
  nothing_there lt = let t : ltb (length s) 4 ≡ true = lt-ltb _ _ lt in rw t refl

  pub front_none : length_in s ≡ None → front s ≡ None
  unfolding front
  front_none h = rw h refl

  pub front_fault : (n : ℕ) (why : FrameFault) → length_in s ≡ Some n → fault_of_length n ≡ Some why → front s ≡ Some (Err why, 4)
  unfolding front
  front_fault n why h f = ap (judged s) h ∙ ap (judged_length s n) f

  pub front_waits : (n : ℕ) → length_in s ≡ Some n → fault_of_length n ≡ None → length s < n + 4 → front s ≡ None
  unfolding front
  front_waits n h f lt =
      let t : ltb (length s) (n + 4) ≡ true = lt-ltb _ _ lt in
      ap (judged s) h ∙ ap (judged_length s n) f ∙ rw t refl

  pub front_frame : (n : ℕ) → length_in s ≡ Some n → fault_of_length n ≡ None → n + 4 ≤ length s → front s ≡ Some (all_of rest_at (take n (drop 4 s)), n + 4)
  unfolding front
  front_frame n h f le =
      let t : ltb (length s) (n + 4) ≡ false = le-ltb _ _ le in
      ap (judged s) h ∙ ap (judged_length s n) f ∙ rw t refl

  -- a length that is there stands in at least four bytes
  pub has_length : (n : ℕ) → length_in s ≡ Some n → 4 ≤ length s
  has_length n h = elim (cases_lt (length s) 4) [
    | inl lt ↦ absurd (not_there n (sym (nothing_there lt) ∙ h))
    | inr le ↦ le
  ]

abbrev nothing_judged : Option Judged
nothing_judged = None

not_judged : (j : Judged) → nothing_judged ≡ Some j → ⊥
not_judged j e = absurd cc

-- what is held, and then what a piece brings
module _ (held piece : List ℕ) (waits : front held ≡ None) where
  pub held_short : (n : ℕ) (why : FrameFault) → length_in (held ++ piece) ≡ Some n → fault_of_length n ≡ Some why → length held < 4
  held_short n why h f = elim (cases_lt (length held) 4) [
    | inl lt ↦ lt
    | inr le ↦ absurd (not_judged (Err why, 4) (sym waits ∙ front_fault held n why (sym (same_length held piece le) ∙ h) f))
  ]

  pub held_waits : (n : ℕ) → length_in (held ++ piece) ≡ Some n → fault_of_length n ≡ None → length held < n + 4
  held_waits n h f = elim (cases_lt (length held) (n + 4)) [
    | inl lt ↦ lt
    | inr le ↦ absurd (not_judged (all_of rest_at (take n (drop 4 held)), n + 4) (sym waits ∙ front_frame held n (sym (same_length held piece (omega arith)) ∙ h) f le))
  ]

  pub frame_bytes : (n used : ℕ) → length held + used ≡ n + 4 → take n (drop 4 (held ++ piece)) ≡ drop 4 (held ++ take used piece)
  frame_bytes n used e =
      let four : 4 + n ≡ length held + used = omega arith in
      sym (drop-take 4 n (held ++ piece)) ∙ ap (λ (k : ℕ). drop 4 (take k (held ++ piece))) four ∙ ap (drop 4) (take-append-add held piece used)

  pub frame_brought : (n used : ℕ) → length_in (held ++ piece) ≡ Some n → fault_of_length n ≡ None → length held + used ≡ n + 4 → used ≤ length piece
      → front (held ++ piece) ≡ Some (all_of rest_at (drop 4 (held ++ take used piece)), length held + used)
  frame_brought n used h f e le =
      let long : n + 4 ≤ length (held ++ piece) = omega (arith, length-append held piece) in
      front_frame (held ++ piece) n h f long ∙ rw (frame_bytes n used e, sym e) refl

pub empty_waits : (s : List ℕ) → s ≡ [] → front s ≡ None
unfolding front
empty_waits s e = rw e refl

-- what is held after a piece can't be judged yet
pub still_waits : (held piece : List ℕ) (used : ℕ) (answer : Result (Option Frame) FrameError) (new : List ℕ) → front held ≡ None → Takes held piece used answer new → front new ≡ None
still_waits held piece used (Ok None) new waits t = ap front t.2 ∙ t.0
still_waits held piece used (Ok (Some frame)) new waits t = empty_waits new t.2
still_waits held piece used (Err (errors.Fault why)) new waits t = empty_waits new t.2
still_waits held piece used (Err errors.StreamFailed) new waits t = absurd t
still_waits held piece used (Err errors.Memory) new waits t = ap front t.1 ∙ waits
