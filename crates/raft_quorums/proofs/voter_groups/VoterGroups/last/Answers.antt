use Rattle.raft_quorums.proofs.CoherentLemmas.{last_config-is}
use Rattle.raft_quorums.proofs.voter_groups.VoterGroups.last.Goals as goal

pub returns : goal.returns
returns g c =
    last_config-is c.args.self.now c.as_slice-groups.result.now c.index-groups-groups.result c.index-groups-groups.result c.requires c.as_slice-groups.ensures c.index-groups-groups.is
