use Rattle.std.proofs.Common.{refl, None}
use Rattle.std.proofs.lemmas.Result.{on_ok_weaker}
use Rattle.raft_commands.specs.declared.command.Command.TheVariants.{Respond}
use Rattle.raft_commands.specs.declared.respond.Respond.TheVariants.{AppendEntries}
use Rattle.raft_group_step.specs.Message.{AppendReply, last_sent}
use Rattle.raft_engine.specs.Commands.{message_to}
use Rattle.raft_messages.specs.Messages.{outcome_of}
use Rattle.raft_engine.proofs.StandingLemmas.{sent_more}
use Rattle.raft_engine.proofs.engine.Engine.answer_append.Goals as goal

pub returns-clause-step : goal.returns-clause-step
returns-clause-step g c = λ x own r m step spells on.
    let body = AppendReply (record { vote = m.vote; id = m.id; previous = m.previous; last = last_sent m.previous m.entries; outcome = outcome_of c.args.resp }) in
    on_ok_weaker c.push_command.result
    (λ h. sent_more x own c.args.self.now _ r step (Respond None (AppendEntries c.new.result)) (message_to own c.args.tx.peer body)
    refl refl refl refl refl h refl refl refl (rw c.new.ensures on) refl (λ s upto. rw (c.new.ensures, spells.vote, spells.id, spells.previous, spells.last) refl))
    c.push_command.ensures.ok
