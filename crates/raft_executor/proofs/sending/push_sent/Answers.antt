-- What the command sends stands behind the others.
use Rattle.raft_engine.specs.Commands.{sending_of}
use Rattle.raft_executor.specs.Said.{listed}
use Rattle.raft_executor.proofs.SendingLemmas.{said_more}
use Rattle.raft_executor.proofs.sending.push_sent.Goals as goal

pub returns-clause-ok : goal.returns-clause-ok
returns-clause-ok g c = λ s before well shown vote said.
    said_more g.S.GroupStorage.stands c.args.all.now.items (listed c.in_ok-message.message) c.push.new.all.items before
    (sending_of c.args.sender.now.own s c.args.sender.now.committed c.args.command.now) said
    (c.in_ok-message.ensures.ok s well shown vote) c.in_ok-push.ensures
