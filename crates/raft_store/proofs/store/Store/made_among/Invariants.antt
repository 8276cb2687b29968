-- Those so far that the node has, and those of the groups still to come, are those of all.
use Rattle.std.proofs.Common.{◌≡◌, ◌++◌, length}
use Rattle.std.specs.Prelude.{None, filter, is_some}
use Rattle.std.specs.Vec.Iter.{into_iter_items, into_iter_len}
use Rattle.raft_group_storage.specs.Keeping.{KeepsAll}
use Rattle.raft_machines.specs.Machine.{MachineRules}
use Rattle.raft_store.specs.Batches.{ShowsBy}
use Rattle.raft_store.specs.Keys.{group_key}
use Rattle.raft_store.proofs.store.Store.made_among.Given as goal

abbrev pub invariant-loop-group : goal.invariant-loop-group
invariant-loop-group g l =
    let L = g.L.ContentLog in
    record {
      made : L.is_sound l.initial.self.log
          → l.made.items ++ filter (λ group. is_some ((L.answers l.initial.self.log group).value group_key)) (into_iter_items l.group-iterator)
          ≡ filter (λ group. is_some ((L.answers l.initial.self.log group).value group_key)) (into_iter_items l.initial.group-iterator);
      sound : L.is_sound l.initial.self.log → L.is_sound l.self.log;
      steady : L.is_sound l.self.log → L.is_sound l.initial.self.log × (L.answers l.self.log ≡ L.answers l.initial.self.log);
      kept : (rules : MachineRules) → KeepsAll (ShowsBy rules L.is_sound L.answers L.leaves l.initial.self.log l.initial.self.recent) (ShowsBy rules L.is_sound L.answers L.leaves l.self.log l.self.recent);
      refused : l.self.refused ≡ l.initial.self.refused;
      cleaning : l.self.failed_cleaning ≡ l.initial.self.failed_cleaning;
      met : L.meets l.initial.self.log l.self.log None;
      left : into_iter_len l.group-iterator ≡ length (into_iter_items l.group-iterator);
    }
