-- The ids in a membership that is lent are those of the membership in force.
use Rattle.std.proofs.Common.{◌≡◌, ◌∙◌, ℕ, ap, refl, map}
use Rattle.std.specs.Prelude.{List, [], Option, Some, None, option_map}
use Rattle.raft_engine.specs.Standing.{EffectiveMembership}
use Rattle.raft_group_step.specs.Lead.{ids_of}
use Rattle.raft_group_step.specs.Values.{LoggedMembership}
use Rattle.raft_known_state.specs.KnownState.{logged_as_effective}

abbrev ids_in : Option EffectiveMembership → List ℕ
ids_in None = []
ids_in (Some m) = map (λ (x : ℕ × List ℕ). x.0) m.membership.nodes

lent_ids : (held : Option LoggedMembership) → ids_in (option_map logged_as_effective held) ≡ ids_of held
lent_ids None = refl
lent_ids (Some m) = refl

pub same_ids : (held : Option LoggedMembership) (lent : Option EffectiveMembership) → lent ≡ option_map logged_as_effective held
    → ids_in lent ≡ ids_of held
same_ids held lent is = ap ids_in is ∙ lent_ids held
