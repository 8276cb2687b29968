-- The engine's node leads just where the state's does, and tells what is known of its stored part.
use Rattle.std.proofs.Common.{◌∙◌, ap}
use Rattle.std.specs.Prelude.{not}
use Rattle.raft_node.proofs.Telling.{leads_nothing, leads_with}
use Rattle.raft_node.proofs.readers.leading_by.Goals as goal

pub returns-then-is_none : goal.returns-then-is_none
returns-then-is_none c = λ own s at. leads_nothing own c.args.engine.now s at (c.is_none.ensures ∙ ap not c.if-is_none.true)

pub returns : goal.returns
returns c = λ own s at.
    leads_with own c.args.engine.now s at _ _ _ (c.is_none.ensures ∙ ap not c.if-is_none.false)
    (c.get.ensures ∙ at.knows.vote) (c.last_log_id.ensures s.stored at.knows at.order.placed) (c.base_of.ensures s.stored at.knows)
