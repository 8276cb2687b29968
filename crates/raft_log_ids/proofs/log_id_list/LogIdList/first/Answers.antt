use Rattle.std.proofs.Common.{◌∙◌, ap, sym}
use Rattle.std.specs.List.{slice_get}
use Rattle.raft_log_ids.proofs.LogIdListLemmas.{first_id-ids_of}
use Rattle.raft_log_ids.proofs.log_id_list.LogIdList.first.Goals as goal

pub returns : goal.returns
returns g c =
    let keys = c.key_log_ids.ensures in
    c.first.ensures.value ∙ sym (first_id-ids_of c.key_log_ids.result.now keys.order.0) ∙ ap (λ ids. slice_get ids 0) keys.ids
