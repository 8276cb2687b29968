-- The voter groups in a membership that is lent are those of the membership in force.
use Rattle.std.proofs.Common.{◌≡◌, ◌∙◌, ℕ, ap, refl, true, false}
use Rattle.std.specs.Prelude.{List, [], Option, Some, None, option_map}
use Rattle.raft_engine.specs.Standing.{EffectiveMembership}
use Rattle.raft_group_step.specs.Lead.{configs_of}
use Rattle.raft_group_step.specs.Values.{LoggedMembership}
use Rattle.raft_known_state.specs.KnownState.{logged_as_effective}
use Rattle.raft_node_clock.specs.Quorum.{IsLatestQuorum}

abbrev configs_in : Option EffectiveMembership → List (List ℕ)
configs_in None = []
configs_in (Some m) = m.membership.configs

lent_configs : (held : Option LoggedMembership) → configs_in (option_map logged_as_effective held) ≡ configs_of held
lent_configs None = refl
lent_configs (Some m) = refl

pub same_configs : (held : Option LoggedMembership) (lent : Option EffectiveMembership) → lent ≡ option_map logged_as_effective held
    → configs_in lent ≡ configs_of held
same_configs held lent is = ap configs_in is ∙ lent_configs held

-- a group without a membership has no quorum
pub none_lent : (heard : ℕ → Option ℕ) (held : Option LoggedMembership) (lent : Option EffectiveMembership) → lent ≡ None
    → lent ≡ option_map logged_as_effective held → IsLatestQuorum (configs_of held) heard None
none_lent heard None lent none is = record { quorum = tt; latest = λ m never. cc }
none_lent heard (Some m) lent none is = cc
