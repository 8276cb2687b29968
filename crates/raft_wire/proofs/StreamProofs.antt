-- The laws of streams, by what stands at the front.
use Rattle.std.proofs.Common.{◌≡◌, ◌⊎◌, inl, inr, ℕ, ◌+◌, ◌<◌, ◌≤◌, true, false, ltb, List, ◌++◌, length, take, drop, Option, Some, None, Result, Ok, Err, refl, sym, ap, ◌∙◌, arith, length-append}
use Rattle.std.specs.Int.{w32, from_be_bytes}
use Rattle.std.proofs.lemmas.Bool.{cases_lt, le-ltb, lt-ltb}
use Rattle.std.proofs.lemmas.List.{drop_at, take-append-le, drop-append-le, length-drop}
use Rattle.raft_wire.specs.declared.error.FrameFault.{FrameFault}
use Rattle.raft_wire.specs.declared.frame.Frame.{Frame}
use Rattle.raft_wire.specs.Reader.{Reader, all_of}
use Rattle.raft_wire.specs.Entries.{spelled_entry, FitsEntry, entry_at}
use Rattle.raft_wire.specs.Frames.{spelled_frame, rest_at}
use Rattle.raft_wire.specs.Stream.{Judged, length_in, fault_of_length, judged_frame, judged_length, judged, front}
use Rattle.raft_wire.specs.StreamLaws.{FoundIsSpelled, SpelledIsFound, RefusedIsNoFrame, FoundStays, WaitsOnlySoLong, NoFrameBeginsAnother, NoEntryBeginsAnother, FramesAreShort}
use Rattle.raft_bytes.proofs.Bytes.{ok_is}
use Rattle.raft_wire.proofs.Fitting.{Reads}
use Rattle.raft_wire.proofs.Values.{entry_alone_reads}
use Rattle.raft_wire.proofs.Lengths.{rest_short}
use Rattle.raft_wire.proofs.Streams.{not_there, same_length, has_length, front_fault, front_frame}
use Rattle.raft_wire.proofs.Fronts.{fits_within, front_again, front_found, same_judged, length_found, not_refused}

pub found_is_spelled : FoundIsSpelled
found_is_spelled = λ stream frame taken bytes h. front_found stream frame taken bytes h

pub spelled_is_found : SpelledIsFound
spelled_is_found = λ frame more h. front_again frame more h

pub frames_short : FramesAreShort
frames_short = λ frame h. rest_short frame (fits_within frame.message.body h.body)

-- ---- what is found stays

abbrev no_judged : Option Judged
no_judged = None

pub some_none : (j : Judged) → no_judged ≡ Some j → ⊥
some_none j e = absurd cc

pub frame_waits : (s : List ℕ) (n : ℕ) → length s < n + 4 → judged_frame s n ≡ None
frame_waits s n lt = let t : ltb (length s) (n + 4) ≡ true = lt-ltb _ _ lt in rw t refl

frame_there : (s more : List ℕ) (n : ℕ) → n + 4 ≤ length s → judged_frame (s ++ more) n ≡ judged_frame s n
frame_there s more n le =
    let a : ltb (length s) (n + 4) ≡ false = le-ltb _ _ le in
    let b : ltb (length (s ++ more)) (n + 4) ≡ false = le-ltb _ _ (omega (arith, length-append s more)) in
    let c : take n (drop 4 (s ++ more)) ≡ take n (drop 4 s) = ap (take n) (drop-append-le 4 s more (omega arith)) ∙ take-append-le n (drop 4 s) more (omega (arith, length-drop 4 s)) in
    rw (a, b, c) refl

pub long_enough : (s : List ℕ) → 4 ≤ length s → length_in s ≡ Some (from_be_bytes w32 (take 4 s))
long_enough s le = let t : ltb (length s) 4 ≡ false = le-ltb _ _ le in rw t refl

same_rest : (s x y : List ℕ) → s ++ x ≡ s ++ y → x ≡ y
same_rest s x y e = sym (drop_at s x (length s) refl) ∙ ap (drop (length s)) e ∙ drop_at s y (length s) refl

frame_stays : (s more : List ℕ) (n : ℕ) (j : Judged) → judged_frame s n ≡ Some j → judged_frame (s ++ more) n ≡ Some j
frame_stays s more n j h = elim (cases_lt (length s) (n + 4)) [
  | inl lt ↦ absurd (some_none j (sym (frame_waits s n lt) ∙ h))
  | inr le ↦ frame_there s more n le ∙ h
]

length_stays : (s more : List ℕ) (n : ℕ) (why : Option FrameFault) (j : Judged) → judged_length s n why ≡ Some j → judged_length (s ++ more) n why ≡ Some j
length_stays s more n (Some why) j h = h
length_stays s more n None j h = frame_stays s more n j h

pub stays : (s more : List ℕ) (j : Judged) → front s ≡ Some j → front (s ++ more) ≡ Some j
unfolding front
stays s more j h =
    let l = length_found s (length_in s) j refl h in
    let there : length_in (s ++ more) ≡ Some l.0 = same_length s more (has_length s l.0 l.1) ∙ l.1 in
    ap (judged (s ++ more)) there ∙ length_stays s more l.0 (fault_of_length l.0) j l.2

pub found_stays : FoundStays
found_stays = λ stream more found h. stays stream more found h

-- ---- what a fault says

pub refused_is_no_frame : RefusedIsNoFrame
refused_is_no_frame = λ stream more rest why taken frame h fits e.
    let there = stays stream more (Err why, taken) h in
    let found = ap front e ∙ front_again frame rest fits in
    not_refused why frame (ap (λ (j : Judged). j.0) (same_judged (Err why, taken) (Ok frame, length (spelled_frame frame)) (sym there ∙ found)))

-- ---- waiting

abbrev Waits : List ℕ → Type 0
Waits s = (length s < 4) ⊎ ((n : ℕ) × (length_in s ≡ Some n) × (fault_of_length n ≡ None) × (length s < n + 4))

waits_with : (s : List ℕ) (n : ℕ) (why : Option FrameFault) → length_in s ≡ Some n → fault_of_length n ≡ why → front s ≡ None → Waits s
waits_with s n (Some why) l f h = absurd (some_none (Err why, 4) (sym h ∙ front_fault s n why l f))
waits_with s n None l f h = elim (cases_lt (length s) (n + 4)) [
  | inl lt ↦ inr (n, l, f, lt)
  | inr le ↦ absurd (some_none (all_of rest_at (take n (drop 4 s)), n + 4) (sym h ∙ front_frame s n l f le))
]

waits_for : (s : List ℕ) (l : Option ℕ) → length_in s ≡ l → front s ≡ None → Waits s
waits_for s None e h = elim (cases_lt (length s) 4) [
  | inl lt ↦ inl lt
  | inr le ↦ absurd (not_there (from_be_bytes w32 (take 4 s)) (sym e ∙ long_enough s le))
]
waits_for s (Some n) e h = waits_with s n (fault_of_length n) e refl h

pub waits_only_so_long : WaitsOnlySoLong
waits_only_so_long = λ stream h. waits_for stream (length_in stream) refl h

-- ---- one spelling

module _ {A : Type 0} (reader : Reader A) (spelled : A → List ℕ) (Fits : A → Type 0) (r : Reads reader spelled Fits) where
  one_spelling : (a b : A) (x y : List ℕ) → Fits a → Fits b → spelled a ++ x ≡ spelled b ++ y → (a ≡ b) × (x ≡ y)
  one_spelling a b x y fa fb e =
      let same = ok_is (a, x) (b, y) (sym (r.again a x fa) ∙ ap reader e ∙ r.again b y fb) in
      (ap (λ (p : A × List ℕ). p.0) same, ap (λ (p : A × List ℕ). p.1) same)

pub entries_apart : NoEntryBeginsAnother
entries_apart = λ a b x y fa fb e. one_spelling entry_at spelled_entry FitsEntry entry_alone_reads a b x y fa fb e

abbrev judged_as : Frame → ℕ → Judged
judged_as f n = (Ok f, n)

abbrev whole_of : Result Frame FrameFault → Frame → Frame
whole_of (Ok f) g = f
whole_of (Err e) g = g

pub frames_apart : NoFrameBeginsAnother
frames_apart = λ a b x y fa fb e.
    let both = sym (front_again a x fa) ∙ ap front e ∙ front_again b y fb in
    let same = same_judged (Ok a, length (spelled_frame a)) (Ok b, length (spelled_frame b)) both in
    let frames : a ≡ b = ap (λ (j : Judged). whole_of j.0 a) same in
    let joined : spelled_frame b ++ x ≡ spelled_frame b ++ y = ap (λ (f : Frame). spelled_frame f ++ x) (sym frames) ∙ e in
    (frames, same_rest (spelled_frame b) x y joined)
