use Rattle.std.proofs.Common.{◌∙◌, ap, sym}
use Rattle.raft_log_ids.specs.LogIdList.{last_id}
use Rattle.raft_log_ids.proofs.LogIdListLemmas.{last_id-ids_of}
use Rattle.raft_log_ids.proofs.log_id_list.LogIdList.last.Goals as goal

pub returns : goal.returns
returns g c =
    let keys = c.key_log_ids.ensures in
    c.last.ensures.value ∙ sym (last_id-ids_of c.key_log_ids.result.now keys.order.0) ∙ ap last_id keys.ids
