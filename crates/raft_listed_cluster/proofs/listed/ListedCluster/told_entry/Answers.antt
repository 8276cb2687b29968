use Rattle.std.proofs.Common.{length, refl, ap}
use Rattle.std.specs.Option.{option_copied}
use Rattle.std.proofs.lemmas.Option.{slice_get_past, slice_get_read}
use Rattle.raft_listed_cluster.proofs.ReadingFacts.{none_lent, told_lent}
use Rattle.raft_listed_cluster.proofs.listed.ListedCluster.told_entry.Goals as goal

pub returns : goal.returns
returns g c has =
    let tells = c.told.result.now in
    let told = c.in_ok-told.told.now in
    let there = c.in_ok-told.ensures.lookup in
    told_lent g.N.Machine.StateMachine.rules g.N.ClusterNode.acts g.N.ClusterNode.states c.args.self.now has c.args.group c.args.number c.args.at tells told (option_copied c.entry.result) c.told.ensures
    (slice_get_read tells (length tells) c.args.at told refl there.3.0 there.1) c.entry.ensures.entry

-- nothing was told there
pub returns-in_err-told : goal.returns-in_err-told
returns-in_err-told g c has =
    let tells = c.told.result.now in
    none_lent g.N.Machine.StateMachine.rules g.N.ClusterNode.acts g.N.ClusterNode.states c.args.self.now has c.args.group c.args.number c.args.at tells (option_copied c.from_residual.result) c.told.ensures
    (slice_get_past tells c.args.at c.in_err-told.ensures.lookup.3) (ap option_copied c.from_residual.ensures)
