-- Where the second place isn't there the group is stored.
use Rattle.std.proofs.Common.{[], ◌∷◌, true, inr, subst, sym}
use Rattle.raft_log_ids.proofs.GrowthLemmas.{on_err}
use Rattle.raft_group_step.specs.StoredGroup.{MakeGroup, StoredGroup}
use Rattle.raft_group_step.specs.GroupState.{no_group}
use Rattle.raft_groups.proofs.groups.Groups.make_member.Goals as goal

pub returns-in_err-seat-2-clause-err : goal.returns-in_err-seat-2-clause-err
returns-in_err-seat-2-clause-err g c = λ well shown.
    let made : StoredGroup = record no_group { present = true } in
    let before = sym c.seat.ensures.storage in
    let up =
    c.in_ok-member.ensures.ok (subst (λ x. g.S.GroupStorage.is_well x) before well)
    (subst (λ x. g.S.GroupStorage.shows x c.args.group (no_group ∷ [])) before shown) in
    let both : g.S.GroupStorage.shows c.seat-2.new.self.storage c.args.group (no_group ∷ made ∷ []) × g.S.GroupStorage.fails c.seat-2.new.self.storage MakeGroup no_group = (
      g.met.S.GroupStorage.shows_more c.seat-2.new.self.storage c.args.group (made ∷ []) (no_group ∷ made ∷ []) (λ x is. inr is)
          (subst (λ x. g.S.GroupStorage.shows x c.args.group (made ∷ [])) (sym c.seat-2.ensures.storage) up.1.stored),
      g.met.S.GroupStorage.well_fails c.seat-2.new.self.storage (subst (λ x. g.S.GroupStorage.is_well x) (sym c.seat-2.ensures.storage) up.1.well) MakeGroup no_group,
    ) in
    on_err _ both
