use Rattle.std.proofs.Common.{ap}
use Rattle.raft_known_state.specs.KnownState.{KnownState}
use Rattle.raft_known_state.proofs.KnownStateLemmas.{both_ok, saved}
use Rattle.raft_known_state.proofs.known_state.KnownState+u64+BasicNode.save_snapshot.Goals as goal

pub returns-clause-known : goal.returns-clause-known
returns-clause-known c = λ s x k e.
    let old = c.args.self.now in
    let now : KnownState = record old { state = record old.state { snapshot_meta = c.args.meta } } in
    both_ok c.refresh_memberships.result (c.refresh_memberships.ensures.noted (c.show_order.ensures s k)) c.refresh_memberships.ensures.rest
    (λ noted both. saved old now c.refresh_memberships.new.self s k noted both x (ap (λ meta. record old { state = record old.state { snapshot_meta = meta } }) e))
