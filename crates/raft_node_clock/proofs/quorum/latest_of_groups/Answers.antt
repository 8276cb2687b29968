-- The next group is counted, too.
use Rattle.std.proofs.Common.{ℕ, List, [], ◌∷◌, subst}
use Rattle.raft_node_clock.specs.Heard.{heard_at}
use Rattle.raft_node_clock.specs.Quorum.{IsLatestQuorum}
use Rattle.raft_node_clock.proofs.Quorums.{with_next}
use Rattle.raft_node_clock.proofs.quorum.latest_of_groups.Goals as goal

pub loop-group-preserved : goal.loop-group-preserved
loop-group-preserved c =
    let heard = heard_at c.args.own c.args.now c.args.heards.now in
    with_next heard c.args.first.now _ c.args.others.now c.loop-group.group-index c.loop-group.latest c.in_ok-more.more c.earlier-latest.result c.loop-group-test.true c.loop-group.invariant
    (subst (λ (voters : List ℕ). IsLatestQuorum (voters ∷ []) heard c.in_ok-more.more) c.group-item.is c.in_ok-more.ensures) c.earlier-latest.ensures
