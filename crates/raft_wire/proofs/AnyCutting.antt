-- Frames and faults don't depend on how a stream is cut.
use Rattle.std.proofs.Common.{◌≡◌, inl, inr, ℕ, ◌+◌, ◌≤◌, true, false, ltb, List, [], ◌∷◌, ◌++◌, length, take, drop, Option, Some, None, Result, Ok, Err, refl, sym, ap, subst, ◌∙◌, append_assoc, arith, length-append}
use Rattle.std.specs.Int.{w32, from_be_bytes}
use Rattle.std.proofs.lemmas.Bool.{cases_lt, le-ltb}
use Rattle.std.proofs.lemmas.List.{drop_at, take_all, take-take, drop-take, length-take-le, append-nil}
use Rattle.std.proofs.lemmas.List.Concat.{flat_map-cons}
use Rattle.std.proofs.Math.Seq.{take-append-add}
use Rattle.raft_wire.specs.declared.error.FrameFault.{FrameFault}
use Rattle.raft_wire.specs.declared.error.FrameError.{FrameError}
use Rattle.raft_wire.specs.declared.error.FrameError.TheVariants as errors
use Rattle.raft_wire.specs.declared.frame.Frame.{Frame}
use Rattle.raft_wire.specs.Reader.{all_of}
use Rattle.raft_wire.specs.Frames.{rest_at}
use Rattle.raft_wire.specs.Stream.{Judged, Feeding, fresh, stopped, holding, Answers, length_in, fault_of_length, judged_frame, judged_length, judged, front}
use Rattle.raft_wire.specs.Cuts.{Says, Call, Runs, taken_by, said_first, said_by, CallsSayTheStream, StreamsSayOneThing, CutsDontMatter}
use Rattle.raft_wire.proofs.Streams.{has_length, empty_waits}
use Rattle.raft_wire.proofs.Fronts.{same_judged, length_found, some_judged}
use Rattle.raft_wire.proofs.StreamProofs.{stays, some_none, frame_waits, long_enough}

-- ---- what is found is found in just the bytes that it takes

abbrev number_in : List ℕ → Option ℕ
number_in l = Some (from_be_bytes w32 l)

length_taken : (s : List ℕ) (t n : ℕ) → 4 ≤ t → t ≤ length s → length_in s ≡ Some n → length_in (take t s) ≡ Some n
length_taken s t n some le h =
    let long : 4 ≤ length (take t s) = omega (arith, length-take-le t s le) in
    let same : take 4 (take t s) ≡ take 4 s = take-take 4 t s some in
    long_enough (take t s) long ∙ ap (λ (l : List ℕ). number_in l) same ∙ sym (long_enough s (omega arith)) ∙ h

frame_judged_so : (s : List ℕ) (n : ℕ) → n + 4 ≤ length s → judged_frame s n ≡ some_judged (all_of rest_at (take n (drop 4 s))) (n + 4)
frame_judged_so s n le = let b : ltb (length s) (n + 4) ≡ false = le-ltb _ _ le in rw b refl

frame_within : (s : List ℕ) (n : ℕ) (r : Result Frame FrameFault) (t : ℕ) → n + 4 ≤ length s → judged_frame s n ≡ Some (r, t) → (t ≡ n + 4) × (t ≤ length s) × (judged_frame (take t s) n ≡ Some (r, t))
frame_within s n r t le h =
    let same = same_judged (all_of rest_at (take n (drop 4 s)), n + 4) (r, t) (sym (frame_judged_so s n le) ∙ h) in
    let t_is : n + 4 ≡ t = ap (λ (j : Judged). j.1) same in
    let size : length (take t s) ≡ t = length-take-le t s (omega arith) in
    let four : 4 + n ≡ t = omega arith in
    let bytes : take n (drop 4 (take t s)) ≡ take n (drop 4 s) =
    ap (λ (k : ℕ). take n (drop 4 (take k s))) (sym four) ∙ ap (take n) (drop-take 4 n s) ∙ take-take n n (drop 4 s) (omega arith) in
    (sym t_is, omega arith, frame_judged_so (take t s) n (omega arith) ∙ ap (λ (l : List ℕ). some_judged (all_of rest_at l) (n + 4)) bytes ∙ sym (frame_judged_so s n le) ∙ h)

frame_taken : (s : List ℕ) (n : ℕ) (r : Result Frame FrameFault) (t : ℕ) → judged_frame s n ≡ Some (r, t) → (t ≡ n + 4) × (t ≤ length s) × (judged_frame (take t s) n ≡ Some (r, t))
frame_taken s n r t h = elim (cases_lt (length s) (n + 4)) [
  | inl lt ↦ absurd (some_none (r, t) (sym (frame_waits s n lt) ∙ h))
  | inr le ↦ frame_within s n r t le h
]

judged_taken : (s : List ℕ) (n : ℕ) (why : Option FrameFault) (r : Result Frame FrameFault) (t : ℕ) → 4 ≤ length s → judged_length s n why ≡ Some (r, t) → (4 ≤ t) × (t ≤ length s) × (judged_length (take t s) n why ≡ Some (r, t))
judged_taken s n (Some why) r t some h =
    let four : 4 ≡ t = ap (λ (j : Judged). j.1) (same_judged (Err why, 4) (r, t) h) in
    (omega arith, omega arith, h)
judged_taken s n None r t some h =
    let f = frame_taken s n r t h in
    (omega (arith, f.0), f.1, f.2)

pub front_taken : (s : List ℕ) (r : Result Frame FrameFault) (t : ℕ) → front s ≡ Some (r, t) → (t ≤ length s) × (front (take t s) ≡ Some (r, t))
unfolding front
front_taken s r t h =
    let l = length_found s (length_in s) (r, t) refl h in
    let j = judged_taken s l.0 (fault_of_length l.0) r t (has_length s l.0 l.1) l.2 in
    (j.1, ap (judged (take t s)) (length_taken s t l.0 j.0 j.1 l.1) ∙ j.2)

-- ---- what is found at the front of what is held and a piece

-- the bytes that are held and those of the piece that are taken, and what follows
found_again : (held piece more : List ℕ) (used : ℕ) (r : Result Frame FrameFault) → used ≤ length piece → front (held ++ piece) ≡ Some (r, length held + used) → front (held ++ (take used piece ++ more)) ≡ Some (r, length held + used)
found_again held piece more used r le h =
    let t = front_taken (held ++ piece) r (length held + used) h in
    let bytes : take (length held + used) (held ++ piece) ≡ held ++ take used piece = take-append-add held piece used in
    ap front (sym (append_assoc held (take used piece) more)) ∙ stays (held ++ take used piece) more (r, length held + used) (ap front (sym bytes) ∙ t.1)

behind : (held piece more : List ℕ) (used : ℕ) → used ≤ length piece → drop (length held + used) (held ++ (take used piece ++ more)) ≡ more
behind held piece more used le =
    ap (drop (length held + used)) (sym (append_assoc held (take used piece) more)) ∙ drop_at (held ++ take used piece) more (length held + used) (omega (arith, length-append held (take used piece), length-take-le used piece le))

-- ---- a stream that has failed says nothing more

true_not_false : true ≡ false → ⊥
true_not_false e = absurd cc

abbrev IsSilent : List Call → Feeding → Type 0
IsSilent calls end = (taken_by calls ≡ []) × (said_by calls ≡ []) × (end ≡ stopped)

silent_step : (call : Call) (calls : List Call) (end : Feeding) (answer : Result (Option Frame) FrameError) (next : Feeding) → call.answer ≡ answer → Answers stopped call.piece call.used answer next → (next ≡ stopped → IsSilent calls end) → IsSilent (call ∷ calls) end
silent_step call calls end (Ok None) next is a h = absurd (true_not_false a.0)
silent_step call calls end (Ok (Some frame)) next is a h = absurd (true_not_false a.0)
silent_step call calls end (Err (errors.Fault why)) next is a h = absurd (true_not_false a.0)
silent_step call calls end (Err errors.StreamFailed) next is a h =
    let others = h a.2 in
    (flat_map-cons (λ (c : Call). take c.used c.piece) call calls ∙ ap (λ (k : ℕ). take k call.piece ++ taken_by calls) a.1 ∙ others.0, ap (λ (r : Result (Option Frame) FrameError). said_first r (said_by calls)) is ∙ others.1, others.2)
silent_step call calls end (Err errors.Memory) next is a h = absurd (true_not_false a.0)

silent : (calls : List Call) (old end : Feeding) → old ≡ stopped → Runs old calls end → IsSilent calls end
silent [] old end is h = (refl, refl, h ∙ is)
silent (call ∷ calls) old end is h =
    silent_step call calls end call.answer h.0 refl (subst (λ (f : Feeding). Answers f call.piece call.used call.answer h.0) is h.1) (λ e. silent calls h.0 end e h.2)

-- ---- calls say the stream

abbrev SaysFrom : List ℕ → List Call → Feeding → Type 0
SaysFrom held calls end = Says (held ++ taken_by calls) (said_by calls) end

says_step : (held : List ℕ) (call : Call) (calls : List Call) (end : Feeding) (answer : Result (Option Frame) FrameError) (next : Feeding) → front held ≡ None → call.answer ≡ answer → Answers (holding held) call.piece call.used answer next
    → ((now : List ℕ) → front now ≡ None → next ≡ holding now → SaysFrom now calls end) → (next ≡ stopped → IsSilent calls end)
    → Says (held ++ (take call.used call.piece ++ taken_by calls)) (said_first answer (said_by calls)) end
says_step held call calls end (Ok None) next waits is a go failed =
    let later = go (held ++ call.piece) a.1 a.3 in
    let whole : take call.used call.piece ≡ call.piece = take_all call.used call.piece (omega (arith, a.2)) in
    let bytes : held ++ (take call.used call.piece ++ taken_by calls) ≡ (held ++ call.piece) ++ taken_by calls = ap (λ (l : List ℕ). held ++ (l ++ taken_by calls)) whole ∙ sym (append_assoc held call.piece (taken_by calls)) in
    subst (λ (s : List ℕ). Says s (said_by calls) end) (sym bytes) later
says_step held call calls end (Ok (Some frame)) next waits is a go failed =
    let later = go [] (empty_waits [] refl) a.3 in
    (length held + call.used, found_again held call.piece (taken_by calls) call.used (Ok frame) a.2 a.1, subst (λ (s : List ℕ). Says s (said_by calls) end) (sym (behind held call.piece (taken_by calls) call.used a.2)) later)
says_step held call calls end (Err (errors.Fault why)) next waits is a go failed =
    let none = failed a.3 in
    let there = found_again held call.piece (taken_by calls) call.used (Err why) a.2 a.1 in
    subst (λ (said : List (Result Frame FrameFault)). Says (held ++ (take call.used call.piece ++ taken_by calls)) (Err why ∷ said) end) (sym none.1) (length held + call.used, there, none.2)
says_step held call calls end (Err errors.StreamFailed) next waits is a go failed = absurd (true_not_false (sym a.0))
says_step held call calls end (Err errors.Memory) next waits is a go failed =
    let later = go held waits a.2 in
    subst (λ (k : ℕ). Says (held ++ (take k call.piece ++ taken_by calls)) (said_by calls) end) (sym a.1) later

says : (calls : List Call) (held : List ℕ) (old end : Feeding) → front held ≡ None → old ≡ holding held → Runs old calls end → SaysFrom held calls end
says [] held old end waits is h = subst (λ (s : List ℕ). Says s [] end) (sym (append-nil held)) (waits, h ∙ is)
says (call ∷ calls) held old end waits is h =
    let step = says_step held call calls end call.answer h.0 waits refl (subst (λ (f : Feeding). Answers f call.piece call.used call.answer h.0) is h.1) (λ now w e. says calls now h.0 end w e h.2) (λ e. silent calls h.0 end e h.2) in
    subst (λ (l : List ℕ). Says (held ++ l) (said_by (call ∷ calls)) end) (sym (flat_map-cons (λ (c : Call). take c.used c.piece) call calls)) step

pub calls_say_the_stream : CallsSayTheStream
calls_say_the_stream = λ calls end h. says calls [] fresh end (empty_waits [] refl) refl h

-- ---- a stream says one thing

abbrev Said : Type 0
Said = Result Frame FrameFault

abbrev one_said : Said → List Said
one_said a = a ∷ []

same_found : (s : List ℕ) (r q : Said) (t u : ℕ) → front s ≡ Some (r, t) → front s ≡ Some (q, u) → (r ≡ q) × (t ≡ u)
same_found s r q t u a b =
    let same = same_judged (r, t) (q, u) (sym a ∙ b) in
    (ap (λ (j : Judged). j.0) same, ap (λ (j : Judged). j.1) same)

abbrev frame_said : Frame → Said
frame_said frame = Ok frame

abbrev fault_said : FrameFault → Said
fault_said why = Err why

not_mixed : (frame : Frame) (why : FrameFault) → frame_said frame ≡ fault_said why → ⊥
not_mixed frame why e = absurd cc

joined : (a b : Said) (xs ys : List Said) → a ≡ b → xs ≡ ys → a ∷ xs ≡ b ∷ ys
joined a b xs ys p q = cc

one_thing : (s : List ℕ) (xs ys : List Said) (end other : Feeding) → Says s xs end → Says s ys other → (xs ≡ ys) × (end ≡ other)
one_thing s [] [] end other a b = (refl, a.1 ∙ sym b.1)
one_thing s [] (Ok frame ∷ ys) end other a b = absurd (some_none (Ok frame, b.0) (sym a.0 ∙ b.1))
one_thing s [] (Err why ∷ []) end other a b = absurd (some_none (Err why, b.0) (sym a.0 ∙ b.1))
one_thing s [] (Err why ∷ (c ∷ ys)) end other a b = absurd b
one_thing s (Ok frame ∷ xs) [] end other a b = absurd (some_none (Ok frame, a.0) (sym b.0 ∙ a.1))
one_thing s (Ok frame ∷ xs) (Ok frame' ∷ ys) end other a b =
    let same = same_found s (Ok frame) (Ok frame') a.0 b.0 a.1 b.1 in
    let later = one_thing (drop a.0 s) xs ys end other a.2 (subst (λ (k : ℕ). Says (drop k s) ys other) (sym same.1) b.2) in
    (joined (Ok frame) (Ok frame') xs ys same.0 later.0, later.1)
one_thing s (Ok frame ∷ xs) (Err why ∷ []) end other a b = absurd (not_mixed frame why (same_found s (Ok frame) (Err why) a.0 b.0 a.1 b.1).0)
one_thing s (Ok frame ∷ xs) (Err why ∷ (c ∷ ys)) end other a b = absurd b
one_thing s (Err why ∷ []) [] end other a b = absurd (some_none (Err why, a.0) (sym b.0 ∙ a.1))
one_thing s (Err why ∷ []) (Ok frame ∷ ys) end other a b = absurd (not_mixed frame why (same_found s (Ok frame) (Err why) b.0 a.0 b.1 a.1).0)
one_thing s (Err why ∷ []) (Err why' ∷ []) end other a b =
    let same = same_found s (Err why) (Err why') a.0 b.0 a.1 b.1 in
    (ap one_said same.0, a.2 ∙ sym b.2)
one_thing s (Err why ∷ []) (Err why' ∷ (c ∷ ys)) end other a b = absurd b
one_thing s (Err why ∷ (c ∷ xs)) ys end other a b = absurd a

pub streams_say_one_thing : StreamsSayOneThing
streams_say_one_thing = λ stream said others end other a b. one_thing stream said others end other a b

pub cuts_dont_matter : CutsDontMatter
cuts_dont_matter = λ calls others end other a b same.
    let first = calls_say_the_stream calls end a in
    let second = calls_say_the_stream others other b in
    one_thing (taken_by calls) (said_by calls) (said_by others) end other first (subst (λ (s : List ℕ). Says s (said_by others) other) (sym same) second)
