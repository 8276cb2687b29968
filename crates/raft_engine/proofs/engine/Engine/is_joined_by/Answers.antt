-- The log's end stands behind its last log id.
use Rattle.std.proofs.Common.{◌∙◌, ap}
use Rattle.raft_values.specs.LogId.{next_place}
use Rattle.raft_engine.specs.Following.{join_log}
use Rattle.raft_engine.proofs.SendingLemmas.{end-last}
use Rattle.raft_engine.proofs.engine.Engine.is_joined_by.Goals as goal

pub returns : goal.returns
returns g c = λ s k p. c.join_log.ensures ∙ ap (λ n. join_log n c.args.entries.now) (ap next_place (c.last_log_id.ensures s k p) ∙ end-last s p)
