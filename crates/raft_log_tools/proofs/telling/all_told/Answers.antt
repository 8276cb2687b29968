use Rattle.std.proofs.Common.{◌≡◌, ◌++◌, ℕ, List, sym, ap, subst, ◌∙◌, append-nil, rules}
use Rattle.std.specs.BTreeMap.{IsOrdered, get}
use Rattle.std.specs.Ordering.{nat_cmp}
use Rattle.raft_log_tools.specs.Checking.{AreTold}
use Rattle.raft_log_tools.proofs.ToldLemmas.{tells}
use Rattle.raft_log_tools.proofs.telling.all_told.Goals as goal

pub returns : goal.returns
returns c =
    let holes = c.loop-group.holes.items in
    let all : holes ≡ c.args.told.entries = sym (append-nil holes) ∙ ap (λ (l : List (ℕ × ℕ)). holes ++ l) (sym c.in-None.ensures.steps.0) ∙ c.loop-group.invariant in
    let rising : IsOrdered nat_cmp c.args.told = search rules in
    subst (AreTold (λ group. get nat_cmp c.args.told group)) (sym all) (tells c.args.told.entries rising)
