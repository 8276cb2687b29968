use Rattle.std.proofs.Common.{◌≡◌, ◌++◌, ℕ, List, rules, sym, ap, ◌∙◌, append-nil}
use Rattle.std.specs.BTreeMap.{IsOrdered}
use Rattle.std.specs.Ordering.{nat_cmp}
use Rattle.raft_log_items.specs.declared.checker.Span.{Span}
use Rattle.raft_log_items.proofs.HoleLemmas.{are_holes, holes_of}
use Rattle.raft_log_items.proofs.checker.ConsistencyChecker.finish.Goals as goal

pub returns : goal.returns
returns c =
    let holes = c.loop-group.holes.items in
    let told : holes ≡ holes_of c.args.self.spans.entries =
    sym (append-nil holes) ∙ ap (λ (l : List (ℕ × Span)). holes ++ holes_of l) (sym c.in-None.ensures.steps.0) ∙ c.loop-group.invariant in
    let rising : IsOrdered nat_cmp c.args.self.spans = search rules in
    λ placed has. are_holes c.args.self placed holes rising told has
