-- A snapshot is handed to the engine elsewhere.
use Rattle.std.proofs.Common.{sym, subst}
use Rattle.raft_engine.proofs.ClockLemmas.{keeps_same}
use Rattle.raft_member.specs.Hearing.{HearsIn}
use Rattle.raft_member.proofs.messages.take_message.Goals as goal

pub returns-in-SnapshotRequest-clause-heard : goal.returns-in-SnapshotRequest-clause-heard
returns-in-SnapshotRequest-clause-heard g c =
    let leader = c.args.engine.now.leader in
    subst (λ body. HearsIn body c.args.message.now.sender c.args.sending_time leader leader) (sym c.in-SnapshotRequest.is) (keeps_same leader)
