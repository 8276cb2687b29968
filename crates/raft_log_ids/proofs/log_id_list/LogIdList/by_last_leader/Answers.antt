use Rattle.std.proofs.Common.{◌∙◌, ap}
use Rattle.raft_log_ids.specs.LogIdList.{ids_of, keys_of, last_run}
use Rattle.raft_log_ids.proofs.log_id_list.LogIdList.by_last_leader.Goals as goal

pub returns : goal.returns
returns g c =
    let cmp = g.NID.Ord.cmp in
    c.keys_of_last_leader.ensures
    ∙ ap (λ ids. keys_of cmp (last_run cmp ids)) (ap ids_of c.as_slice.ensures ∙ c.self.view_is)
