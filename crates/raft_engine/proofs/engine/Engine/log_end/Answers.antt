-- The place after the last log id fits.
use Rattle.std.proofs.Common.{◌≡◌, ◌∙◌, ap, arith}
use Rattle.raft_values.specs.LogId.{next_place}
use Rattle.raft_group_step.specs.StoredGroup.{end_place}
use Rattle.raft_engine.proofs.SendingLemmas.{end-last}
use Rattle.raft_engine.proofs.engine.Engine.log_end.Goals as goal

pub returns : goal.returns
returns g c = λ s k p fits.
    let ends : next_place c.last_log_id.result ≡ end_place s = ap next_place (c.last_log_id.ensures s k p) ∙ end-last s p in
    omega (arith, c.place_after.ensures, ends)
