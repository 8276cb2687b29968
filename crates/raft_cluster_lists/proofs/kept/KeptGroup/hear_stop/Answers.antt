use Rattle.std.proofs.Common.{arith}
use Rattle.raft_cluster_lists.specs.declared.kept.KeptGroup.{KeptGroup}
use Rattle.raft_cluster_lists.proofs.ReadyLemmas.{takes_one}
use Rattle.raft_cluster_lists.proofs.kept.KeptGroup.hear_stop.Goals as goal

pub returns-in-Some-clause-room : goal.returns-in-Some-clause-room
returns-in-Some-clause-room c =
    let old = c.args.self.now in
    let new : KeptGroup = record { group = old.group; list = c.hear.new.list; stopped = c.keep_stopped.new.stopped } in
    takes_one old new c.hear.ensures.room c.keep_stopped.ensures.room

pub returns-in_default-clause-room : goal.returns-in_default-clause-room
returns-in_default-clause-room c =
    let old = c.args.self.now in
    let new : KeptGroup = record { group = old.group; list = c.hear.new.list; stopped = old.stopped } in
    takes_one old new c.hear.ensures.room (λ n space. omega (arith, space))
