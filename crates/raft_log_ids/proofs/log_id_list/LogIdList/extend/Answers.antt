use Rattle.std.proofs.Common.{map, sym, subst, ◌∙◌, ap}
use Rattle.raft_log_ids.specs.LogIdList.{AllGoOn, last_id}
use Rattle.raft_log_ids.proofs.LogIdListLemmas.{last_id-ids_of}
use Rattle.raft_log_ids.proofs.log_id_list.LogIdList.extend.Goals as goal

pub extend_keys-requires-clause-go_on : goal.extend_keys-requires-clause-go_on
extend_keys-requires-clause-go_on g c =
    subst (λ last. AllGoOn last (map g.LID.RaftLogId.id c.args.new_ids.now))
    (sym (ap last_id c.self.view_is) ∙ last_id-ids_of c.self.inside.key_log_ids c.self.invariant.0) c.requires
