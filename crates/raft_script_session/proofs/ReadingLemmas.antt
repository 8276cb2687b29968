-- What one byte does to a script that reads.
use Rattle.std.proofs.Common.{◌≡◌, ◌≢◌, ℕ, ◌+◌, ◌<◌, nat_lt, true, List, [], ◌∷◌, ◌++◌, length, Option, Result, Ok, Err, IfErr, OnOk, inl, inr, refl, sym, ap, ◌∙◌, arith, append_assoc, append-nil, subst, length-append, get_or, take, drop, suc, take-append-drop, drop-cons}
use Rattle.std.proofs.lemmas.List.{take_more}
use Rattle.std.proofs.KnownBytes.{Appends-nil, Appends-trans}
use Rattle.raft_script_session.specs.declared.end.Stop.{Stop}
use Rattle.raft_script_session.specs.declared.end.Stop.TheVariants as stops
use Rattle.raft_script_session.specs.Lines.{lines_of}
use Rattle.raft_script_session.specs.Run.{Ran, Stops, wrong_line}
use Rattle.raft_script_session.specs.Reading.{ReadingValue, IsOpen, Takes, StopsWithin, WritesAndTakes, WritesAndStops, WritesAll, StopsAtEnd}
use Rattle.raft_script_session.specs.Output.{RefusesLine, EndsLine, StopsAt}
use Rattle.raft_script_session.proofs.LineLemmas.{lines_cut, open_first, open_more, last_line}
use Rattle.raft_script_session.proofs.SessionLemmas.{Takes_append, StopsWithin_after_Takes}
use Rattle.raft_script_session.proofs.OutputLemmas.{stops_here}

pub on_ok : {X E : Type 0} (r : Result X E) {P Q : Type 0} → (P → Q) → OnOk r P → OnOk r Q
on_ok (Ok x) f h = f h
on_ok (Err e) f h = tt

pub if_err : {X E : Type 0} (r : Result X E) (P Q : E → Type 0) → ((e : E) → P e → Q e) → IfErr r P → IfErr r Q
if_err (Ok x) P Q f h = tt
if_err (Err e) P Q f h = f e h

long : (bytes : List ℕ) → 65536 < length bytes → nat_lt 65536 (length bytes) ≡ true
long bytes h = grind arith

piece_parts : (piece : List ℕ) (i : ℕ) → i < length piece → piece ≡ take i piece ++ (get_or piece i 0 ∷ drop (suc i) piece)
piece_parts piece i inside = sym (take-append-drop i piece) ∙ ap (λ l. take i piece ++ l) (drop-cons piece i 0 inside)

module _ {S : Type 0} (runs : S → List ℕ → Option (List ℕ) → S → Type 0) where
  pub newline_taken : (before after : Option (List ℕ)) (script : S) (old : ReadingValue) (next : S) (new : ReadingValue) → IsOpen old.pending → EndsLine runs before after script old next new → WritesAndTakes runs before after script old (10 ∷ []) next new
  newline_taken before after script old next new open_line h =
      let (text, wrote, answered) = h.answered in (
        text,
        wrote,
        record {
          ended = old.pending ∷ [];
          cut = λ rest. lines_cut old.pending rest open_line ∙ ap (λ l. old.pending ∷ lines_of (l ++ rest)) (sym h.cleared);
          ran = (next, text, [], answered, sym (append-nil text), (refl, refl));
          open_line = let P : List ℕ → Type 0 = λ l. IsOpen l in subst P (sym h.cleared) tt;
          counted = h.counted;
          few = omega arith;
        },
      )

  pub newline_stops : (before after : Option (List ℕ)) (script : S) (old : ReadingValue) (stop : Stop) → IsOpen old.pending → StopsAt runs before after script old.lines old.pending stop → WritesAndStops runs before after script old (10 ∷ []) stop
  newline_stops before after script old stop open_line (written, wrote, stopped) = (
    written,
    wrote,
    λ rest.
        let P : List (List ℕ) → Type 0 = λ lines. Stops runs script old.lines lines written stop in
        subst P (sym (lines_cut old.pending rest open_line)) (stopped (lines_of rest)),
  )

  pub byte_taken : (known : Option (List ℕ)) (script : S) (old new : ReadingValue) (byte : ℕ) → IsOpen old.pending → byte ≢ 10 → new.lines ≡ old.lines → new.pending ≡ old.pending ++ byte ∷ [] → WritesAndTakes runs known known script old (byte ∷ []) script new
  byte_taken known script old new byte open_line other same pushed = (
    [],
    Appends-nil known,
    record {
      ended = [];
      cut = λ rest. ap lines_of (sym (append_assoc old.pending (byte ∷ []) rest)) ∙ ap (λ l. lines_of (l ++ rest)) (sym pushed);
      ran = (refl, refl);
      open_line = let P : List ℕ → Type 0 = λ l. IsOpen l in subst P (sym pushed) (open_more old.pending byte open_line other);
      counted = omega arith;
      few = omega arith;
    },
  )

  pub memory_stops : (known : Option (List ℕ)) (script : S) (old : ReadingValue) (bytes : List ℕ) → WritesAndStops runs known known script old bytes stops.Memory
  memory_stops known script old bytes = ([], Appends-nil known, λ rest. stops_here runs script old.lines _ [] stops.Memory refl)

  pub long_stops : (before after : Option (List ℕ)) (script : S) (old : ReadingValue) (byte : ℕ) (stop : Stop) → IsOpen old.pending → byte ≢ 10 → 65536 < length (old.pending ++ byte ∷ []) → RefusesLine (old.lines + 1) before after stop → WritesAndStops runs before after script old (byte ∷ []) stop
  long_stops before after script old byte (stops.NoEvent number) open_line other too_long (same, wrote) = (
    wrong_line (old.lines + 1),
    wrote,
    λ rest.
        let pending = old.pending ++ byte ∷ [] in
        let (first, others, cut) = open_first pending rest (open_more old.pending byte open_line other) (omega arith) in
        let lines : lines_of (old.pending ++ ((byte ∷ []) ++ rest)) ≡ (pending ++ first) ∷ others = ap lines_of (sym (append_assoc old.pending (byte ∷ []) rest)) ∙ cut in
        let P : List (List ℕ) → Type 0 = λ l. Stops runs script old.lines l (wrong_line (old.lines + 1)) (stops.NoEvent number) in
        subst P (sym lines) (stops_here runs script old.lines ((pending ++ first) ∷ others) _ (stops.NoEvent number) (same, refl, inl (long (pending ++ first) (omega (arith, length-append pending first))))),
  )
  long_stops before after script old byte stops.Memory open_line other too_long wrote = ([], wrote, λ rest. stops_here runs script old.lines _ [] stops.Memory refl)
  long_stops before after script old byte stops.Fault open_line other too_long (front, left, split, wrote) = (
    front,
    wrote,
    λ rest.
        let pending = old.pending ++ byte ∷ [] in
        let (first, others, cut) = open_first pending rest (open_more old.pending byte open_line other) (omega arith) in
        let lines : lines_of (old.pending ++ ((byte ∷ []) ++ rest)) ≡ (pending ++ first) ∷ others = ap lines_of (sym (append_assoc old.pending (byte ∷ []) rest)) ∙ cut in
        let P : List (List ℕ) → Type 0 = λ l. Stops runs script old.lines l front stops.Fault in
        subst P (sym lines) (stops_here runs script old.lines ((pending ++ first) ∷ others) front stops.Fault (front, refl, inr (left, inr (inl (long (pending ++ first) (omega (arith, length-append pending first))), sym split)))),
  )

  pub all_written_before : (known : Option (List ℕ)) (script : S) (old : ReadingValue) → old.pending ≡ [] → WritesAll runs known known script old script
  all_written_before known script old none =
      let P : List ℕ → Type 0 = λ bytes. Ran runs script (lines_of bytes) [] script in
      ([], Appends-nil known, subst P (sym none) (refl, refl))

  pub last_written : (before after : Option (List ℕ)) (script : S) (old : ReadingValue) (next : S) (new : ReadingValue) → IsOpen old.pending → 0 < length old.pending → EndsLine runs before after script old next new → WritesAll runs before after script old next
  last_written before after script old next new open_line some h =
      let (text, wrote, answered) = h.answered in
      let P : List (List ℕ) → Type 0 = λ lines. Ran runs script lines text next in
      (text, wrote, subst P (sym (last_line old.pending open_line some)) (next, text, [], answered, sym (append-nil text), (refl, refl)))

  pub last_stops : (before after : Option (List ℕ)) (script : S) (old : ReadingValue) (stop : Stop) → IsOpen old.pending → 0 < length old.pending → StopsAt runs before after script old.lines old.pending stop → StopsAtEnd runs before after script old stop
  last_stops before after script old stop open_line some (written, wrote, stopped) =
      let P : List (List ℕ) → Type 0 = λ lines. Stops runs script old.lines lines written stop in
      (written, wrote, subst P (sym (last_line old.pending open_line some)) (stopped []))

  -- a piece up to a place and the byte there
  pub one_more_taken : (before mid after : Option (List ℕ)) (script : S) (old : ReadingValue) (between : S) (now : ReadingValue) (next : S) (new : ReadingValue) (piece : List ℕ) (i : ℕ) → i < length piece → WritesAndTakes runs before mid script old (take i piece) between now → WritesAndTakes runs mid after between now (get_or piece i 0 ∷ []) next new → WritesAndTakes runs before after script old (take (i + 1) piece) next new
  one_more_taken before mid after script old between now next new piece i inside (text, wrote, taken) (more, wrote_more, one) =
      let P : List ℕ → Type 0 = λ bytes. Takes runs script old bytes next new (text ++ more) in (
        text ++ more,
        Appends-trans before mid after text more wrote wrote_more,
        subst P (sym (take_more piece i 0 inside)) (Takes_append runs script old (take i piece) between now text (get_or piece i 0 ∷ []) next new more taken one),
      )

  -- the script stops at a byte of the piece
  pub stops_in_piece : (before mid after : Option (List ℕ)) (script : S) (old : ReadingValue) (between : S) (now : ReadingValue) (piece : List ℕ) (i : ℕ) (stop : Stop) → i < length piece → WritesAndTakes runs before mid script old (take i piece) between now → WritesAndStops runs mid after between now (get_or piece i 0 ∷ []) stop → WritesAndStops runs before after script old piece stop
  stops_in_piece before mid after script old between now piece i stop inside (text, wrote, taken) (written, wrote_more, stopped) =
      let left = drop (suc i) piece in
      let P : List ℕ → Type 0 = λ bytes. StopsWithin runs script old bytes (text ++ written) stop in (
        text ++ written,
        Appends-trans before mid after text written wrote wrote_more,
        subst P (sym (piece_parts piece i inside))
            (StopsWithin_after_Takes runs script old (take i piece) between now text (get_or piece i 0 ∷ left) written stop taken (λ rest. stopped (left ++ rest))),
      )
