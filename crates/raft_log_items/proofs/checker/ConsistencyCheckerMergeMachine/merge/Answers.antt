use Rattle.std.proofs.Common.{ap, ◌∙◌}
use Rattle.std.specs.BTreeMap.{get}
use Rattle.std.specs.Ordering.{nat_cmp}
use Rattle.raft_log_items.specs.Holes.{with_spans}
use Rattle.raft_log_items.proofs.HoleLemmas.{placed_more}
use Rattle.raft_log_items.proofs.checker.ConsistencyCheckerMergeMachine.merge.Goals as goal

pub returns-clause-replayed : goal.returns-clause-replayed
returns-clause-replayed c = λ placed more has behind group.
    placed_more c.args.self.now placed more (get nat_cmp c.add_spans.new.self.spans) group has
    (c.in_ok-add_spans.ensures group ∙ ap (with_spans (get nat_cmp c.args.self.now.spans group)) (behind group))
