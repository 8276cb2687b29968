use Rattle.std.proofs.Common.{sym, ◌∙◌, ap}
use Rattle.raft_log_ids.specs.LogIdList.{keys_of}
use Rattle.raft_log_ids.proofs.KeysOfLemmas.{keys_of-ids_of}
use Rattle.raft_log_ids.proofs.log_id_list.LogIdList.key_log_ids.Goals as goal

pub returns-clause-keys : goal.returns-clause-keys
returns-clause-keys g c =
    c.as_slice.ensures ∙ sym (keys_of-ids_of g.NID.Ord.cmp g.met.NID.Ord.total c.self.inside.key_log_ids c.self.invariant) ∙ ap (keys_of g.NID.Ord.cmp) c.self.view_is
