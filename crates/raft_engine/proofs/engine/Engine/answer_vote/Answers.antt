use Rattle.std.proofs.Common.{◌∙◌, refl}
use Rattle.std.specs.Prelude.{None}
use Rattle.raft_commands.specs.declared.command.Command.TheVariants.{Respond}
use Rattle.raft_commands.specs.declared.respond.Respond.TheVariants.{Vote as ToVote}
use Rattle.std.proofs.lemmas.Result.{on_ok_weaker}
use Rattle.raft_group_step.specs.StoredGroup.{last_id}
use Rattle.raft_group_step.specs.Message.{VoteReply}
use Rattle.raft_engine.specs.Commands.{message_to}
use Rattle.raft_engine.proofs.StandingLemmas.{sent_more}
use Rattle.raft_engine.proofs.engine.Engine.answer_vote.Goals as goal

pub returns-clause-step : goal.returns-clause-step
returns-clause-step g c = λ x own r step.
    let last = c.last_log_id-last.ensures r.state.stored step.state.knows step.state.order.placed in
    let vote = c.vote_ref.ensures ∙ step.state.knows.vote in
    on_ok_weaker c.push_command.result
    (λ h. sent_more x own c.args.self.now _ r step (Respond None (ToVote c.new.result)) (message_to own c.args.tx.peer (VoteReply r.state.stored.vote c.args.granted (last_id r.state.stored)))
    refl refl refl refl refl h refl refl refl (rw (c.new.ensures, c.new-resp.ensures, vote, last) (refl, refl)) refl (λ s upto. rw (c.new.ensures, c.new-resp.ensures, vote, last) refl))
    c.push_command.ensures.ok
