use Rattle.std.specs.Prelude.{◌∷◌, ◌++◌, []}
use Rattle.std.proofs.Common.{ap, ◌∙◌}
use Rattle.raft_log_ids.proofs.GrowthLemmas.{on_err}
use Rattle.raft_world.proofs.world.World.happen.Goals as goal

pub returns-in-Err-clause-err : goal.returns-in-Err-clause-err
returns-in-Err-clause-err c = λ ids rs g history h. c.stop_node_of.ensures g h

pub returns-in_err-mark-clause-err : goal.returns-in_err-mark-clause-err
returns-in_err-mark-clause-err c = λ ids rs g history h. on_err _ (c.in_err-mark.ensures ids rs g history h)

pub returns-clause-ok : goal.returns-clause-ok
returns-clause-ok c = λ ids rs g history h. (c.in_ok-mark.ensures ids rs g history h).world

pub returns-clause-marked : goal.returns-clause-marked
returns-clause-marked c = λ ids rs g history h. record {
  more = c.in_ok-mark.mark ∷ [];
  listed = c.push_reserved.ensures.items ∙ ap (λ l. l ++ c.in_ok-mark.mark ∷ []) c.reserve.ensures.items;
  say = ((c.in_ok-mark.ensures ids rs g history h).marked, tt);
}
