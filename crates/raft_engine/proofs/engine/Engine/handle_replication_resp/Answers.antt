-- An answer leaves the number of the peer's next request, or ends the lead; what the leader hears by it decides nothing of that.
use Rattle.std.specs.Prelude.{◌∷◌, ◌++◌}
use Rattle.std.proofs.Common.{sym}
use Rattle.std.proofs.lemmas.Result.{on_ok_weaker}
use Rattle.raft_group_step.specs.Message.{AppendReply, SnapshotReply}
use Rattle.raft_group_step.specs.GroupStep.{begun}
use Rattle.raft_group_step.specs.Reply.{reply_step}
use Rattle.raft_group_step.specs.Refusal.{next_blank, numbers_of_reply}
use Rattle.raft_engine.specs.Clock.{moment_shown}
use Rattle.raft_engine.specs.Events.{received}
use Rattle.raft_engine.specs.Sending.{reply_of}
use Rattle.raft_engine.specs.Standing.{given}
use Rattle.raft_engine.proofs.ClockLemmas.{begins_hearing, hears_then, may_hearing}
use Rattle.raft_engine.proofs.EventLemmas.{event_taken, step_begun}
use Rattle.raft_engine.proofs.LeaderFinish.{finish_answered, reply_fits}
use Rattle.raft_engine.proofs.RoomLemmas.{can_finish_when_ready, finish_at, message_accepted}
use Rattle.raft_engine.proofs.engine.Engine.handle_replication_resp.Goals as goal

pub returns-clause-heard : goal.returns-clause-heard
returns-clause-heard g c =
    let old = c.args.self.now.leader in
    let reply = reply_of c.args.reply.now c.args.outcome.now in
    let shown = moment_shown c.args.peer reply c.args.sending_time old in
    let heard = c.hear_answer.new.self.leader in
    let answered = c.answered.new.self.leader in
    let so_far = hears_then c.args.peer shown old heard answered c.hear_answer.ensures.heard c.in_ok-answered.ensures.heard in
    on_ok_weaker c.finish.result (hears_then c.args.peer shown old answered c.finish.new.self.leader so_far) c.finish.ensures.heard

pub returns-clause-append : goal.returns-clause-append
returns-clause-append g c = λ x own at s now may.
    let old = c.args.self.now in
    let heard = c.hear_answer.new.self in
    let peer = c.args.peer in
    let reply = reply_of c.args.reply.now c.args.outcome.now in
    let event = received own peer (AppendReply reply) at in
    let may_now = may_hearing own old heard s event c.hear_answer.ensures.rest (c.hear_answer.ensures.stands own s may.stands) may in
    let range = (message_accepted own peer at s (AppendReply reply) may.accepted).0 in
    let numbers = at ∷ numbers_of_reply reply ++ next_blank s in
    let can = finish_at own (begun at s).state.now s (can_finish_when_ready own s numbers may.ready range) in
    let begins = begins_hearing x own old heard s at c.hear_answer.ensures.rest (step_begun x own at heard s may_now.stands may_now.empty) in
    let step = c.in_ok-answered.ensures.step (given x old s) own (begun at s) begins (sym now) (reply_fits at s reply range) in
    on_ok_weaker c.finish.result (event_taken x own old c.finish.new.self s event may)
    (c.finish.ensures.step (given x old s) own (reply_step peer reply (begun at s)) step (finish_answered own peer reply (begun at s) can))

pub returns-clause-snapshot : goal.returns-clause-snapshot
returns-clause-snapshot g c = λ x own at s now may.
    let old = c.args.self.now in
    let heard = c.hear_answer.new.self in
    let peer = c.args.peer in
    let reply = reply_of c.args.reply.now c.args.outcome.now in
    let event = received own peer (SnapshotReply reply) at in
    let may_now = may_hearing own old heard s event c.hear_answer.ensures.rest (c.hear_answer.ensures.stands own s may.stands) may in
    let range = (message_accepted own peer at s (SnapshotReply reply) may.accepted).0 in
    let numbers = at ∷ numbers_of_reply reply ++ next_blank s in
    let can = finish_at own (begun at s).state.now s (can_finish_when_ready own s numbers may.ready range) in
    let begins = begins_hearing x own old heard s at c.hear_answer.ensures.rest (step_begun x own at heard s may_now.stands may_now.empty) in
    let step = c.in_ok-answered.ensures.step (given x old s) own (begun at s) begins (sym now) (reply_fits at s reply range) in
    on_ok_weaker c.finish.result (event_taken x own old c.finish.new.self s event may)
    (c.finish.ensures.step (given x old s) own (reply_step peer reply (begun at s)) step (finish_answered own peer reply (begun at s) can))
