use Rattle.std.proofs.Common.{sym, ◌∙◌, ap, subst}
use Rattle.raft_log_ids.specs.LogIdList.{GoesOn, last_id}
use Rattle.raft_log_ids.proofs.LogIdListLemmas.{last_id-ids_of}
use Rattle.raft_log_ids.proofs.log_id_list.LogIdList.append.Goals as goal

pub append_key-requires-clause-goes_on : goal.append_key-requires-clause-goes_on
append_key-requires-clause-goes_on g c =
    subst (λ found. GoesOn found c.args.new_log_id)
    (sym (ap last_id c.self.view_is) ∙ last_id-ids_of c.self.inside.key_log_ids c.self.invariant.0) c.requires
