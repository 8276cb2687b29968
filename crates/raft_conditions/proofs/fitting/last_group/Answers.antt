-- The group at the last place is the last one.
use Rattle.std.proofs.Common.{◌∙◌, refl, subst, sym}
use Rattle.std.specs.Ordering.{nat_cmp}
use Rattle.raft_quorums.specs.Rising.{IsRising}
use Rattle.raft_quorums.proofs.CoherentLemmas.{last_config-is}
use Rattle.raft_conditions.proofs.FitLemmas.{some_group}
use Rattle.raft_conditions.proofs.fitting.last_group.Goals as goal

pub returns-clause-is : goal.returns-clause-is
returns-clause-is c =
    let groups = c.args.groups.now in
    c.as_slice.ensures.ids
    ∙ last_config-is groups groups c.index-groups-groups.result c.index-groups-groups.result (some_group groups (sym c.is_empty.ensures ∙ c.if-is_empty.false)) refl c.index-groups-groups.is

pub returns-clause-rising : goal.returns-clause-rising
returns-clause-rising c =
    let groups = c.args.groups.now in
    subst (IsRising nat_cmp)
    (last_config-is groups groups c.index-groups-groups.result c.index-groups-groups.result (some_group groups (sym c.is_empty.ensures ∙ c.if-is_empty.false)) refl c.index-groups-groups.is)
    c.as_slice.ensures.rising
