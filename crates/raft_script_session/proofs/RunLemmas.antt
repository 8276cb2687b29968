-- What a whole run writes, from what was taken in and what came then.
use Rattle.std.proofs.Common.{◌≡◌, ℕ, ◌+◌, ◌<◌, take, List, [], ◌++◌, length, Option, Some, None, Result, Ok, Err, IfSome, IfErr, OnOk, inl, refl, sym, ap, ◌∙◌, arith, append-nil, subst}
use Rattle.std.specs.Io.KnownBytes.{Consumes, IsAtEnd}
use Rattle.std.proofs.KnownBytes.{Appends-nil, Appends-trans, Consumes-trans}
use Rattle.raft_script_session.specs.declared.end.Stop.{Stop}
use Rattle.raft_script_session.specs.declared.end.Stop.TheVariants as stops
use Rattle.raft_script_session.specs.Lines.{lines_of}
use Rattle.raft_script_session.specs.End.{end_of}
use Rattle.raft_script_session.specs.Run.{Ran, Stops, WritesText, StopsIn, Answers}
use Rattle.raft_script_session.specs.Reading.{ReadingValue, first, IsOpen, Takes, WritesAndTakes, WritesAndStops, WritesAll, StopsAtEnd}
use Rattle.raft_script_session.proofs.SessionLemmas.{Ran_append, Stops_after_Ran, StopsWithin_after_Takes, Takes_append}
use Rattle.raft_script_session.proofs.OutputLemmas.{stops_here}

consumed_then : (known left : Option (List ℕ)) (bytes : List ℕ) (P : List ℕ → Type 0) → Consumes known left bytes → ((rest : List ℕ) → P (bytes ++ rest)) → IfSome known P
consumed_then None left bytes P e h = tt
consumed_then (Some input) None bytes P e h = absurd e
consumed_then (Some input) (Some rest) bytes P e h = subst P (sym e) (h rest)

-- a read of no bytes at all
pub read_nothing : (known left after : Option (List ℕ)) (taken buffer : List ℕ) (n : ℕ) → n ≡ 0 → 0 < length buffer → Consumes known left taken → Consumes left after (take n buffer) × (n ≡ 0 → 0 < length buffer → IsAtEnd after) → Consumes known after taken × IsAtEnd after
read_nothing known left after taken buffer n none some before (read, last) =
    let P : List ℕ → Type 0 = λ bytes. Consumes known after bytes in
    let same : taken ++ take n buffer ≡ taken = ap (λ k. taken ++ take k buffer) none ∙ append-nil taken in
    (subst P same (Consumes-trans known left after taken (take n buffer) before read), last none some)

module _ {S : Type 0} (runs : S → List ℕ → Option (List ℕ) → S → Type 0) where
  takes_nothing : (script : S) (old : ReadingValue) → IsOpen old.pending → Takes runs script old [] script old []
  takes_nothing script old open_line =
      record {
        ended = [];
        cut = λ rest. refl;
        ran = (refl, refl);
        open_line = open_line;
        counted = omega arith;
        few = omega arith;
      }

  pub nothing_taken : (known : Option (List ℕ)) (script : S) (old : ReadingValue) → old ≡ first → WritesAndTakes runs known known script first [] script old
  nothing_taken known script old same =
      let P : ReadingValue → Type 0 = λ t. Takes runs script first [] script t [] in
      ([], Appends-nil known, subst P (sym same) (takes_nothing script first tt))

  -- the lines of what was taken in, where nothing follows
  all_cut : (script : S) (taken : List ℕ) (next : S) (now : ReadingValue) (text : List ℕ) (h : Takes runs script first taken next now text) → lines_of taken ≡ h.ended ++ lines_of now.pending
  all_cut script taken next now text h =
      ap lines_of (sym (append-nil taken)) ∙ (h.cut [] ∙ ap (λ l. h.ended ++ lines_of l) (append-nil now.pending))

  pub all_written : (before mid after : Option (List ℕ)) (script : S) (taken : List ℕ) (between : S) (now : ReadingValue) (next : S) → WritesAndTakes runs before mid script first taken between now → WritesAll runs mid after between now next → WritesText runs script taken before after next
  all_written before mid after script taken between now next (text, wrote, h) (more, others, ran) =
      let P : List (List ℕ) → Type 0 = λ lines. Ran runs script lines (text ++ more) next in (
        text ++ more,
        Appends-trans before mid after text more wrote others,
        subst P (sym (all_cut script taken between now text h)) (Ran_append runs script h.ended (lines_of now.pending) text more between next h.ran ran),
      )

  pub stops_at_the_end : (before mid after : Option (List ℕ)) (script : S) (taken : List ℕ) (between : S) (now : ReadingValue) (stop : Stop) → WritesAndTakes runs before mid script first taken between now → StopsAtEnd runs mid after between now stop → StopsIn runs script taken before after stop
  stops_at_the_end before mid after script taken between now stop (text, wrote, h) (written, others, stopped) =
      let last = lines_of now.pending in
      let P : List (List ℕ) → Type 0 = λ lines. Stops runs script 0 lines (text ++ written) stop in
      let Q : ℕ → Type 0 = λ n. Stops runs between n last written stop in (
        text ++ written,
        Appends-trans before mid after text written wrote others,
        subst P (sym (all_cut script taken between now text h)) (Stops_after_Ran runs script 0 h.ended last text written between stop h.ran (subst Q h.counted stopped)),
      )

  pub stops_in_feed : (known left before mid after : Option (List ℕ)) (script : S) (taken bytes : List ℕ) (between : S) (now : ReadingValue) (stop : Stop) → Consumes known left (taken ++ bytes) → WritesAndTakes runs before mid script first taken between now → WritesAndStops runs mid after between now bytes stop → IfSome known (λ input. StopsIn runs script input before after stop)
  stops_in_feed known left before mid after script taken bytes between now stop consumed (text, wrote, h) (written, others, stopped) =
      consumed_then known left (taken ++ bytes) (λ input. StopsIn runs script input before after stop) consumed
      (λ rest. (
        text ++ written,
        Appends-trans before mid after text written wrote others,
        StopsWithin_after_Takes runs script first taken between now text bytes written stop h stopped rest,
      ))

  pub stops_by_fault : (known left before after : Option (List ℕ)) (script : S) (taken : List ℕ) (between : S) (now : ReadingValue) → Consumes known left taken → WritesAndTakes runs before after script first taken between now → IfSome known (λ input. StopsIn runs script input before after stops.Fault)
  stops_by_fault known left before after script taken between now consumed (text, wrote, h) =
      consumed_then known left taken (λ input. StopsIn runs script input before after stops.Fault) consumed
      (λ rest.
      let last = lines_of (now.pending ++ rest) in
      let P : List (List ℕ) → Type 0 = λ lines. Stops runs script 0 lines text stops.Fault in
      let Q : List ℕ → Type 0 = λ t. Stops runs script 0 (h.ended ++ last) t stops.Fault in (
        text,
        wrote,
        subst P (sym (h.cut rest)) (subst Q (append-nil text) (Stops_after_Ran runs script 0 h.ended last text [] between stops.Fault h.ran (stops_here runs between (0 + length h.ended) last [] stops.Fault ([], refl, inl refl)))),
      ))

  pub stops_before : (known : Option (List ℕ)) (script : S) (input : List ℕ) → StopsIn runs script input known known stops.Memory
  stops_before known script input = ([], Appends-nil known, stops_here runs script 0 (lines_of input) [] stops.Memory refl)

  pub no_input_stops : (known held : Option (List ℕ)) (script : S) → IfSome known (λ input. StopsIn runs script input held held stops.Memory)
  no_input_stops None held script = tt
  no_input_stops (Some input) held script = stops_before held script input

  stop_answers : (script : S) (input : List ℕ) (before after : Option (List ℕ)) (last : S) (stop : Stop) → StopsIn runs script input before after stop → Answers runs script input before after last (end_of (Err stop))
  stop_answers script input before after last (stops.NoEvent number) h = h
  stop_answers script input before after last stops.Memory h = h
  stop_answers script input before after last stops.Fault h = h

  pub answers : (known before after : Option (List ℕ)) (script last : S) (r : Result (Unit {0}) Stop) → OnOk r (IfSome known (λ input. WritesText runs script input before after last)) → IfErr r (λ stop. IfSome known (λ input. StopsIn runs script input before after stop)) → IfSome known (λ input. Answers runs script input before after last (end_of r))
  answers None before after script last r ok err = tt
  answers (Some input) before after script last (Ok done) ok err = ok
  answers (Some input) before after script last (Err stop) ok err = stop_answers script input before after last stop err

  pub takes_more : (before mid after : Option (List ℕ)) (script : S) (taken piece : List ℕ) (between : S) (now : ReadingValue) (next : S) (new : ReadingValue) → WritesAndTakes runs before mid script first taken between now → WritesAndTakes runs mid after between now piece next new → WritesAndTakes runs before after script first (taken ++ piece) next new
  takes_more before mid after script taken piece between now next new (text, wrote, h) (more, others, k) =
      (text ++ more, Appends-trans before mid after text more wrote others, Takes_append runs script first taken between now text piece next new more h k)
