use Rattle.std.proofs.Common.{◌≡◌, ◌∷◌, ℕ, List, sym, ap, subst, ◌∙◌}
use Rattle.std.specs.BTreeMap.{get, is_at}
use Rattle.std.specs.List.Sorted.{IsStrictlySortedBy}
use Rattle.std.specs.Map.{keys_of, lookup}
use Rattle.std.specs.Ordering.{nat_cmp}
use Rattle.std.proofs.lemmas.Map.Keys.{sorted_tail}
use Rattle.raft_log_items.specs.declared.checker.Span.{Span}
use Rattle.raft_log_items.specs.Holes.{with_spans}
use Rattle.raft_log_items.proofs.HoleLemmas.{spans_more}
use Rattle.raft_log_items.proofs.checker.ConsistencyChecker.add_spans.Goals as goal

pub loop-group-preserved : goal.loop-group-preserved
loop-group-preserved c =
    let at = c.loop-group in
    let rest = c.next.new.self in
    let here : ℕ × Span = (c.in-Some.group, c.in-Some.span) in
    let steps : at.group-iterator ≡ here ∷ rest = c.in-Some.ensures.steps in
    let rising : IsStrictlySortedBy nat_cmp (keys_of (here ∷ rest)) = subst (λ (l : List (ℕ × Span)). IsStrictlySortedBy nat_cmp (keys_of l)) steps at.invariant.rising in
    record {
      rising = sorted_tail nat_cmp here.0 (keys_of rest) rising;
      spans = λ n. spans_more n here rest (get nat_cmp at.self.spans) (get nat_cmp c.add.new.self.spans) rising (c.in_ok-add.ensures n)
          ∙ ap (λ (l : List (ℕ × Span)). with_spans (get nat_cmp at.self.spans n) (lookup (is_at (nat_cmp n)) l)) (sym steps) ∙ at.invariant.spans n;
    }
