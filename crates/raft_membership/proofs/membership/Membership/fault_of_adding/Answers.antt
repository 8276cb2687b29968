use Rattle.std.proofs.Common.{◌≡◌, ◌==◌, ◌∙◌, true, false, length, sym, ap, subst}
use Rattle.std.specs.declared.cmp.Ordering.TheVariants.{Equal}
use Rattle.std.specs.Ordering.{is_eq}
use Rattle.std.specs.Cmp.Lexicographic.{pointwise}
use Rattle.raft_quorums.specs.Quorum.{last_config, next_configs}
use Rattle.raft_quorums.specs.Rising.{IsRising}
use Rattle.raft_membership.specs.Membership.{first_outside, lesser}
use Rattle.raft_membership.specs.Validity.{fault_of, groups_fault}
use Rattle.raft_membership.proofs.AddedLemmas.{fault-added, with_ids-nobody}
use Rattle.raft_membership.proofs.membership.Membership.fault_of_adding.Given as given
use Rattle.raft_membership.proofs.membership.Membership.fault_of_adding.Goals as goal

same : (g : given.Over) (x y : _) → g.NID.Ord.cmp x y ≡ Equal → x ≡ y
same g x y e = g.met.NID.NodeIdEssential.equal_is_same x y (g.met.NID.Ord.matches_eq x y ∙ ap is_eq e)

pub returns-then-has_nobody : goal.returns-then-has_nobody
returns-then-has_nobody g c =
    let last = last_config c.args.self.now.configs in
    let shown : c.as_slice-last.result.now ≡ last = c.as_slice-last.ensures.ids ∙ c.last.ensures in
    let nobody : (length last == 0) ≡ true = subst (λ l. (length l == 0) ≡ true) shown (sym c.has_nobody.ensures ∙ c.if-has_nobody.true) in
    c.step_fault.ensures
    ∙ ap (λ goal. groups_fault g.NID.Ord.cmp (g.S.HasId.has c.args.nodes.now) (next_configs (pointwise g.NID.PartialEq.eq) c.args.self.now.configs goal))
    (sym (with_ids-nobody g.met.NID.Ord.total last (g.G.Goal.ids c.args.ids.now) nobody c.requires.rising))

pub returns : goal.returns
returns g c =
    let last = last_config c.args.self.now.configs in
    let known = g.S.HasId.has c.args.nodes.now in
    let cmp = g.NID.Ord.cmp in
    let shown : c.as_slice-last.result.now ≡ last = c.as_slice-last.ensures.ids ∙ c.last.ensures in
    let some : (length last == 0) ≡ false = subst (λ l. (length l == 0) ≡ false) shown (sym c.has_nobody.ensures ∙ c.if-has_nobody.false) in
    let rising : IsRising cmp last = subst (IsRising cmp) c.last.ensures c.as_slice-last.ensures.rising in
    c.fault_of.ensures
    ∙ ap (fault_of false) (c.lesser.ensures
    ∙ ap (λ o. lesser cmp o c.first_missing-2.result) (c.first_missing.ensures ∙ ap (first_outside known) shown)
    ∙ ap (lesser cmp (first_outside known last)) c.first_missing-2.ensures)
    ∙ fault-added g.NID.PartialEq.eq g.met.NID.Ord.total (same g) known c.args.self.now.configs (g.G.Goal.ids c.args.ids.now) some rising c.requires.rising
