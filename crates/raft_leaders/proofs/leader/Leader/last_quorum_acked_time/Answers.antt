-- What the clocks have counted.
use Rattle.std.proofs.Common.{◌≡◌, ◌∙◌, sym, subst}
use Rattle.std.specs.Prelude.{Some, None}
use Rattle.std.specs.Option.{option_cmp}
use Rattle.std.specs.Ordering.{nat_cmp}
use Rattle.raft_progress.specs.Granted.{IsGranted}
use Rattle.raft_progress.specs.Parts.{value_of}
use Rattle.raft_progress.specs.Values.{rises_above}
use Rattle.raft_leaders.proofs.PeerLemmas.{built_stays}
use Rattle.raft_leaders.proofs.leader.Leader.last_quorum_acked_time.Goals as goal

pub returns-clause-granted : goal.returns-clause-granted
returns-clause-granted g c =
    let eq = g.NID.PartialEq.eq in
    let old = c.self.inside.clock_progress in
    let new = c.increase_to.new.self in
    let own = c.self.inside.vote.leader_id.node_id in
    let built : new.built_with ≡ None =
    built_stays eq old new own (Some c.args.now) (rises_above (option_cmp nat_cmp) (λ t. t) (value_of eq old own) (Some c.args.now)) c.increase_to.ensures.sets c.increase_to.ensures.unless_it_rises
    ∙ c.self.invariant.1 in
    subst (λ time. IsGranted eq (option_cmp nat_cmp) (λ t. t) (g.QS.QuorumSet.accepts new.quorum_set) None time new.voters) (sym c.granted.ensures)
    (subst (λ start. IsGranted eq (option_cmp nat_cmp) (λ t. t) (g.QS.QuorumSet.accepts new.quorum_set) start new.granted new.voters) built (c.increase_to.ensures.counted c.self.invariant.0).1)
