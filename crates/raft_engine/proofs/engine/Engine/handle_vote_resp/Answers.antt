-- The answer is counted, and a lead that begins has room for the end of the event; a greater log that it tells of is noted.
use Rattle.std.specs.Prelude.{◌≡◌, max, true, false}
use Rattle.std.proofs.Common.{sym, subst, arith, ◌∙◌, ◌∷◌, ◌++◌}
use Rattle.raft_group_step.specs.Message.{VoteReply}
use Rattle.raft_group_step.specs.VoteReply.{vote_reply_step}
use Rattle.raft_group_step.specs.GroupStep.{begun}
use Rattle.raft_group_step.specs.Refusal.{next_blank, numbers_of}
use Rattle.raft_engine.specs.Events.{tells_greater_log}
use Rattle.raft_engine.specs.Standing.{given}
use Rattle.raft_engine.proofs.EventLemmas.{step_begun, told_taken, untold_taken}
use Rattle.raft_engine.proofs.NewLeadLemmas.{ready_leads, reply_finishes}
use Rattle.raft_engine.proofs.RoomLemmas.{can_finish_when_ready, message_accepted, ready_at}
use Rattle.raft_engine.specs.Clock.{KeepsHeard, KeepsHeardOrBegins}
use Rattle.raft_engine.specs.Standing.{Engine}
use Rattle.raft_engine.proofs.ClockLemmas.{begins_then, keeps_then}
use Rattle.raft_engine.proofs.engine.Engine.handle_vote_resp.Goals as goal

pub returns-then-is_told-clause-taken : goal.returns-then-is_told-clause-taken
returns-then-is_told-clause-taken g c = λ x own at s now may.
    let e = c.args.self.now in
    let peer = c.args.target in
    let resp = c.args.resp.now in
    let places = may.ready.places in
    let body = VoteReply resp.vote resp.vote_granted resp.last_log_id in
    let counted = c.in_ok-vote_reply.ensures.step (given x e s) own (begun at s) (step_begun x own at e s may.stands may.empty) (sym now) (λ stands. omega (arith, places)) in
    let can =
    can_finish_when_ready own (begun at s).state (at ∷ numbers_of body ++ next_blank s) (ready_at own (max s.now at) s may.ready) (message_accepted own peer at s body may.accepted).0 in
    let whole = c.in_ok-finish.ensures.step (given x e s) own (vote_reply_step peer resp.vote resp.vote_granted (begun at s)) counted
    (reply_finishes own peer resp.vote resp.vote_granted (begun at s) (ready_leads own (max s.now at) s may.ready) can) in
    let told : tells_greater_log s body ≡ true = sym (c.is_told_of_greater_log-is_told.ensures own s may.stands) ∙ c.if-is_told.true in
    told_taken x own peer at e c.finish.new.self s body may whole _ told c.set_greater_log.ensures

pub returns-else-is_told-clause-taken : goal.returns-else-is_told-clause-taken
returns-else-is_told-clause-taken g c = λ x own at s now may.
    let e = c.args.self.now in
    let peer = c.args.target in
    let resp = c.args.resp.now in
    let places = may.ready.places in
    let body = VoteReply resp.vote resp.vote_granted resp.last_log_id in
    let counted = c.in_ok-vote_reply.ensures.step (given x e s) own (begun at s) (step_begun x own at e s may.stands may.empty) (sym now) (λ stands. omega (arith, places)) in
    let can =
    can_finish_when_ready own (begun at s).state (at ∷ numbers_of body ++ next_blank s) (ready_at own (max s.now at) s may.ready) (message_accepted own peer at s body may.accepted).0 in
    let whole = c.in_ok-finish.ensures.step (given x e s) own (vote_reply_step peer resp.vote resp.vote_granted (begun at s)) counted
    (reply_finishes own peer resp.vote resp.vote_granted (begun at s) (ready_leads own (max s.now at) s may.ready) can) in
    let untold : tells_greater_log s body ≡ false = sym (c.is_told_of_greater_log-is_told.ensures own s may.stands) ∙ c.if-is_told.false in
    untold_taken x own peer at e c.finish.new.self s body may whole untold

pub returns-then-is_told-clause-heard : goal.returns-then-is_told-clause-heard
returns-then-is_told-clause-heard g c =
    let old = c.args.self.now.leader in
    subst (λ (y : Engine _ _). KeepsHeardOrBegins old y.leader) (sym c.set_greater_log.ensures)
    (begins_then old c.vote_reply.new.self.leader c.finish.new.self.leader c.in_ok-vote_reply.ensures.heard c.in_ok-finish.ensures.heard)

pub returns-else-is_told-clause-heard : goal.returns-else-is_told-clause-heard
returns-else-is_told-clause-heard g c =
    begins_then c.args.self.now.leader c.vote_reply.new.self.leader c.finish.new.self.leader c.in_ok-vote_reply.ensures.heard c.in_ok-finish.ensures.heard

pub returns-then-is_told-clause-leads_on : goal.returns-then-is_told-clause-leads_on
returns-then-is_told-clause-leads_on g c = λ none.
    let old = c.args.self.now.leader in
    subst (λ (y : Engine _ _). KeepsHeard old y.leader) (sym c.set_greater_log.ensures)
    (keeps_then old c.vote_reply.new.self.leader c.finish.new.self.leader (c.in_ok-vote_reply.ensures.leads_on none) c.in_ok-finish.ensures.heard)

pub returns-else-is_told-clause-leads_on : goal.returns-else-is_told-clause-leads_on
returns-else-is_told-clause-leads_on g c = λ none.
    keeps_then c.args.self.now.leader c.vote_reply.new.self.leader c.finish.new.self.leader (c.in_ok-vote_reply.ensures.leads_on none) c.in_ok-finish.ensures.heard
