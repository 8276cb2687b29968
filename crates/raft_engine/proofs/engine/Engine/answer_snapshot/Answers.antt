use Rattle.std.proofs.Common.{◌∙◌, refl, None}
use Rattle.std.specs.Prelude.{Some}
use Rattle.std.proofs.lemmas.Result.{on_ok_weaker}
use Rattle.raft_commands.specs.declared.command.Command.TheVariants.{Respond}
use Rattle.raft_commands.specs.declared.respond.Respond.TheVariants.{InstallFullSnapshot}
use Rattle.raft_group_step.specs.Message.{SnapshotReply, Numbered}
use Rattle.raft_engine.specs.Commands.{message_to, snapshot_result}
use Rattle.raft_engine.proofs.StandingLemmas.{sent_more}
use Rattle.raft_engine.proofs.engine.Engine.answer_snapshot.Goals as goal

pub returns-clause-step : goal.returns-clause-step
returns-clause-step g c = λ x own r id step spells on.
    let vote = c.vote_ref.ensures ∙ step.state.knows.vote in
    let outcome = snapshot_result c.args.tx.vote (record { vote = r.state.stored.vote }) in
    let body = SnapshotReply (record { vote = c.args.tx.vote; id = Numbered id; previous = None; last = Some x.snapshot.last; outcome = outcome }) in
    on_ok_weaker c.push_command.result
    (λ h. sent_more x own c.args.self.now _ r step (Respond None (InstallFullSnapshot c.new.result)) (message_to own c.args.tx.peer body)
    refl refl refl refl refl h refl refl refl (rw (c.new.ensures, c.new-resp.ensures, vote) on) refl (λ s upto. rw (c.new.ensures, c.new-resp.ensures, vote, spells.number, spells.last) refl))
    c.push_command.ensures.ok
