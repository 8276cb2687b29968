use Rattle.raft_kv_reading.proofs.Keys.{are_keys, few_take_all, keys_here, refused_by_keys}
use Rattle.raft_kv_reading.proofs.laws.full_maps_refuse_puts.Goals as goal

pub returns-clause-full : goal.returns-clause-full
returns-clause-full c = λ list place. (keys_here list place, are_keys list place, refused_by_keys list place)

pub returns-clause-few : goal.returns-clause-few
returns-clause-few c = λ list place few. few_take_all list place few
