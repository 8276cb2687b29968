-- The log's end stands behind its last log id.
use Rattle.std.proofs.Common.{◌∙◌, ap}
use Rattle.std.specs.Prelude.{nat_le}
use Rattle.raft_values.specs.LogId.{next_place}
use Rattle.raft_engine.proofs.SendingLemmas.{end-last}
use Rattle.raft_engine.proofs.engine.Engine.ends_before.Goals as goal

pub returns-in-Some : goal.returns-in-Some
returns-in-Some g c = λ s k p.
    rw c.in-Some.is (c.is_past.ensures ∙ ap (λ n. nat_le n c.in-Some.place) (ap next_place (c.last_log_id.ensures s k p) ∙ end-last s p))
