-- Lines one after another, and bytes one after another.
use Rattle.std.proofs.Common.{◌≡◌, ℕ, ◌+◌, List, [], ◌∷◌, ◌++◌, length, Option, sym, ap, ◌∙◌, arith, subst, append_assoc, length-append}
use Rattle.raft_script_session.specs.declared.end.Stop.{Stop}
use Rattle.raft_script_session.specs.declared.end.Stop.TheVariants as stops
use Rattle.raft_script_session.specs.Lines.{lines_of}
use Rattle.raft_script_session.specs.Run.{Ran, Ends, Stops, wrong_line}
use Rattle.raft_script_session.specs.Reading.{ReadingValue, Takes, StopsWithin}

module _ {S : Type 0} (runs : S → List ℕ → Option (List ℕ) → S → Type 0) where
  pub Ran_append : (old : S) (xs ys : List (List ℕ)) (text more : List ℕ) (mid new : S) → Ran runs old xs text mid → Ran runs mid ys more new → Ran runs old (xs ++ ys) (text ++ more) new
  Ran_append old [] ys text more mid new (none, same) ran =
      let P : S → Type 0 = λ o. Ran runs o ys more new in
      let Q : List ℕ → Type 0 = λ t. Ran runs old ys (t ++ more) new in
      subst Q (sym none) (subst P same ran)
  Ran_append old (line ∷ xs) ys text more mid new (next, first, others, answered, split, ran) after =
      (next, first, others ++ more, answered, ap (λ t. t ++ more) split ∙ append_assoc first others more, Ran_append next xs ys others more mid new ran after)

  Ends_behind : (at : S) (number : ℕ) (rest : List (List ℕ)) (before text written : List ℕ) (stop : Stop) → Ends runs at number rest text written stop → Ends runs at number rest (before ++ text) (before ++ written) stop
  Ends_behind at number rest before text written (stops.NoEvent line) (same, wrote, wrong) =
      (same, ap (λ t. before ++ t) wrote ∙ sym (append_assoc before text (wrong_line number)), wrong)
  Ends_behind at number rest before text written stops.Memory wrote = ap (λ t. before ++ t) wrote
  Ends_behind at number rest before text written stops.Fault (shown, wrote, front) =
      (shown, ap (λ t. before ++ t) wrote ∙ sym (append_assoc before text shown), front)

  pub Stops_after_Ran : (old : S) (count : ℕ) (ended lines : List (List ℕ)) (text written : List ℕ) (mid : S) (stop : Stop) → Ran runs old ended text mid → Stops runs mid (count + length ended) lines written stop → Stops runs old count (ended ++ lines) (text ++ written) stop
  Stops_after_Ran old count ended lines text written mid stop ran h =
      let number : count + length ended + length h.ran + 1 ≡ count + length (ended ++ h.ran) + 1 = omega (arith, length-append ended h.ran) in
      let P : ℕ → Type 0 = λ n. Ends runs h.at n h.rest (text ++ h.text) (text ++ written) stop in
      record {
        ran = ended ++ h.ran;
        rest = h.rest;
        split = ap (λ l. ended ++ l) h.split ∙ sym (append_assoc ended h.ran h.rest);
        text = text ++ h.text;
        at = h.at;
        runs_to = Ran_append old ended h.ran text h.text mid h.at ran h.runs_to;
        ends = subst P number (Ends_behind h.at _ h.rest text h.text written stop h.ends);
      }

  pub Takes_append : (script : S) (old : ReadingValue) (xs : List ℕ) (between : S) (mid : ReadingValue) (text ys : List ℕ) (next : S) (new : ReadingValue) (more : List ℕ) → Takes runs script old xs between mid text → Takes runs between mid ys next new more → Takes runs script old (xs ++ ys) next new (text ++ more)
  Takes_append script old xs between mid text ys next new more h k =
      record {
        ended = h.ended ++ k.ended;
        cut = λ rest.
            ap (λ l. lines_of (old.pending ++ l)) (append_assoc xs ys rest)
            ∙ (h.cut (ys ++ rest) ∙ (ap (λ l. h.ended ++ l) (k.cut rest) ∙ sym (append_assoc h.ended k.ended (lines_of (new.pending ++ rest)))));
        ran = Ran_append script h.ended k.ended text more between next h.ran k.ran;
        open_line = k.open_line;
        counted = let a = h.counted in let b = k.counted in omega (arith, length-append h.ended k.ended);
        few = let a = h.few in let b = k.few in omega (arith, length-append xs ys, length-append h.ended k.ended);
      }

  pub StopsWithin_after_Takes : (script : S) (old : ReadingValue) (xs : List ℕ) (between : S) (mid : ReadingValue) (text ys written : List ℕ) (stop : Stop) → Takes runs script old xs between mid text → StopsWithin runs between mid ys written stop → StopsWithin runs script old (xs ++ ys) (text ++ written) stop
  StopsWithin_after_Takes script old xs between mid text ys written stop h stopped rest =
      let lines = lines_of (mid.pending ++ (ys ++ rest)) in
      let same : lines_of (old.pending ++ ((xs ++ ys) ++ rest)) ≡ h.ended ++ lines = ap (λ l. lines_of (old.pending ++ l)) (append_assoc xs ys rest) ∙ h.cut (ys ++ rest) in
      let P : List (List ℕ) → Type 0 = λ l. Stops runs script old.lines l (text ++ written) stop in
      let Q : ℕ → Type 0 = λ n. Stops runs between n lines written stop in
      subst P (sym same) (Stops_after_Ran script old.lines h.ended lines text written between stop h.ran (subst Q h.counted (stopped rest)))
