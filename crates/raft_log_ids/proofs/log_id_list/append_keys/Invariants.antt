use Rattle.std.proofs.Common.{◌≡◌, map, take, drop}
use Rattle.raft_log_ids.specs.LogIdList.{ids_of, last_id, extended, AllGoOn, AreKeys, KeepsFront}
use Rattle.raft_log_ids.proofs.log_id_list.append_keys.Given as goal

abbrev pub invariant-loop-new_id : goal.invariant-loop-new_id
invariant-loop-new_id g l =
    (ids_of l.keys ≡ extended (ids_of l.initial.keys) (take l.new_id-index (map g.LID.RaftLogId.id l.new_ids)))
    × AllGoOn (last_id l.keys) (drop l.new_id-index (map g.LID.RaftLogId.id l.new_ids))
    × AreKeys g.NID.Ord.cmp l.keys
    × KeepsFront l.initial.keys l.keys
