-- How a script stops at a line: it is refused, its answer is cut off, or memory is.
use Rattle.std.proofs.Common.{◌≡◌, ℕ, ◌+◌, List, [], ◌∷◌, Option, Some, Result, Ok, Err, IfErr, inl, inr, refl, sym, arith, subst}
use Rattle.std.proofs.KnownBytes.{Appends-nil}
use Rattle.raft_script_session.specs.declared.end.Stop.{Stop}
use Rattle.raft_script_session.specs.declared.end.Stop.TheVariants as stops
use Rattle.raft_script_session.specs.Lines.{AppendsFront}
use Rattle.raft_script_session.specs.Run.{Ends, IsNoEvent, Stops, wrong_line}
use Rattle.raft_script_session.specs.Output.{RefusesLine, StopsAt}

module _ {S : Type 0} (runs : S → List ℕ → Option (List ℕ) → S → Type 0) where
  -- where nothing ran, the next line has the next number
  pub stops_here : (old : S) (count : ℕ) (lines : List (List ℕ)) (written : List ℕ) (stop : Stop) → Ends runs old (count + 1) lines [] written stop → Stops runs old count lines written stop
  stops_here old count lines written stop ends =
      let number : count + 1 ≡ count + 0 + 1 = omega arith in
      let P : ℕ → Type 0 = λ n. Ends runs old n lines [] written stop in
      record {
        ran = [];
        rest = lines;
        split = refl;
        text = [];
        at = old;
        runs_to = (refl, refl);
        ends = subst P number ends;
      }

  pub stops_in_answer : (before after : Option (List ℕ)) (old next : S) (count : ℕ) (line text : List ℕ) → runs old line (Some text) next → AppendsFront before after text → StopsAt runs before after old count line stops.Fault
  stops_in_answer before after old next count line text answered (front, left, split, wrote) =
      let P : List ℕ → Type 0 = λ t. runs old line (Some t) next in (
        front,
        wrote,
        λ lines. stops_here old count (line ∷ lines) front stops.Fault (front, refl, inr (left, inl (next, subst P split answered))),
      )

  pub stops_for_memory : (known : Option (List ℕ)) (old : S) (count : ℕ) (line : List ℕ) → StopsAt runs known known old count line stops.Memory
  stops_for_memory known old count line = ([], Appends-nil known, λ lines. stops_here old count (line ∷ lines) [] stops.Memory refl)

  pub stops_at_refused : (before after : Option (List ℕ)) (old : S) (count : ℕ) (line : List ℕ) (stop : Stop) → IsNoEvent runs old line → RefusesLine (count + 1) before after stop → StopsAt runs before after old count line stop
  stops_at_refused before after old count line (stops.NoEvent number) wrong (same, wrote) =
      (wrong_line (count + 1), wrote, λ lines. stops_here old count (line ∷ lines) (wrong_line (count + 1)) (stops.NoEvent number) (same, refl, wrong))
  stops_at_refused before after old count line stops.Memory wrong wrote =
      ([], wrote, λ lines. stops_here old count (line ∷ lines) [] stops.Memory refl)
  stops_at_refused before after old count line stops.Fault wrong (front, left, split, wrote) = (
    front,
    wrote,
    λ lines. stops_here old count (line ∷ lines) front stops.Fault (front, refl, inr (left, inr (wrong, sym split))),
  )

  pub stops_where_cut : {X : Type 0} (r : Result X Stop) (before after : Option (List ℕ)) (old next : S) (count : ℕ) (line text : List ℕ) → runs old line (Some text) next → IfErr r (λ stop. stop ≡ stops.Fault) → IfErr r (λ stop. AppendsFront before after text) → IfErr r (StopsAt runs before after old count line)
  stops_where_cut (Ok x) before after old next count line text answered fault cut = tt
  stops_where_cut (Err stop) before after old next count line text answered fault cut =
      let P : Stop → Type 0 = λ s. StopsAt runs before after old count line s in
      subst P (sym fault) (stops_in_answer before after old next count line text answered cut)
