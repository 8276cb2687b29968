-- Where the log ids of a key end.
use Rattle.std.proofs.Common.{◌<◌, List, [], ◌∷◌, arith}
use Rattle.raft_values.specs.declared.log_id.LogId.{LogId}
use Rattle.raft_log_ids.specs.LogIdList.{end_of_key, IsBelowNext}

-- a key's log ids end past it
pub end_above : {K : Type 0} (key : LogId K) (keys : List (LogId K)) → IsBelowNext key keys → key.index < end_of_key key keys
end_above key [] h = omega arith
end_above key (next ∷ keys) h = h
