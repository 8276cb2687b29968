-- What an engine that stands for a group's state keeps in order.
use Rattle.std.specs.Prelude.{ℕ, ◌≤◌}
use Rattle.std.proofs.Common.{sym, subst}
use Rattle.raft_values.specs.LogId.{next_place}
use Rattle.raft_group_step.specs.StoredGroup.{first_place}
use Rattle.raft_group_step.specs.GroupState.{GroupState}
use Rattle.raft_engine.specs.Building.{covered_id}
use Rattle.raft_engine.specs.Standing.{Engine, IsStateOf}
use Rattle.raft_engine.proofs.PurgeLemmas.{snapshot_known}

-- no more is purged than the snapshot has
pub purged_within : {C R : Type 0} (own : ℕ) (e : Engine C R) (s : GroupState) → IsStateOf own e s → e.state.state.purged_next ≤ next_place (covered_id e)
purged_within own e s stands =
    subst (λ first. first ≤ next_place (covered_id e)) (sym stands.knows.purged)
    (subst (λ id. first_place s.stored ≤ next_place id) (sym (snapshot_known s.stored e.state.state.snapshot_meta stands.knows.snapshot)) stands.order.purged)
