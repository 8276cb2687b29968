-- Entries of a request that isn't refused have no gap.
use Rattle.std.proofs.Common.{◌≡◌, ◌∙◌, ap, ap₂, sym, refl, false}
use Rattle.std.proofs.Math.Bool.{true≢false}
use Rattle.raft_group_step.specs.Message.{AppendRequest}
use Rattle.raft_group_step.specs.GroupStep.{begun}
use Rattle.raft_group_step.specs.AppendRequest.{append_request_step}
use Rattle.raft_engine.specs.Events.{received}
use Rattle.raft_engine.specs.Following.{follow_one_another}
use Rattle.raft_engine.specs.Standing.{given}
use Rattle.raft_engine.proofs.EventLemmas.{event_taken, step_begun}
use Rattle.raft_engine.proofs.GapLemmas.{without_gap}
use Rattle.raft_engine.proofs.ReceivedLemmas.{append_request_finishes, begins_to_finish, sound_append}
use Rattle.raft_engine.proofs.ClockLemmas.{keeps_same, keeps_then}
use Rattle.raft_engine.proofs.engine.Engine.handle_append_entries.Goals as goal

pub returns-clause-taken : goal.returns-clause-taken
returns-clause-taken g c = λ x own at s m now says repeats may.
    let peer = c.args.tx.peer in
    let step = step_begun x own at c.args.self.now s may.stands may.empty in
    let can = begins_to_finish own peer (AppendRequest m) at s may.ready may.accepted in
    let sound = sound_append own peer m at s may.accepted in (
      refl,
      event_taken x own c.args.self.now c.finish.new.self s (received own peer (AppendRequest m) at) may
          (c.in_ok-finish.ensures.step (given x c.args.self.now s) own (append_request_step own peer m (begun at s))
          (c.in_ok-append_request.ensures.step (given x c.args.self.now s) own (begun at s) m step (sym now) says repeats sound.0 sound.1)
          (append_request_finishes own peer (begun at s) can (given x c.args.self.now s) c.args.self.now step m sound.0)),
    )

pub returns-then-not-follow_one_another-clause-taken : goal.returns-then-not-follow_one_another-clause-taken
returns-then-not-follow_one_another-clause-taken g c = λ x own at s m now says repeats may.
    let sound = sound_append own c.args.tx.peer m at s may.accepted in
    let whole = without_gap m.vote m.entries m.previous sound.1 in
    let told : follow_one_another c.args.req.prev_log_id c.args.req.entries ≡ false = ap (follow_one_another c.args.req.prev_log_id) (sym c.as_slice.ensures) ∙ sym c.follow_one_another.ensures ∙ c.if-not-follow_one_another.true in
    absurd (true≢false (sym whole ∙ ap₂ follow_one_another (sym says.previous) (sym says.entries) ∙ told))

pub returns-then-not-follow_one_another-clause-heard : goal.returns-then-not-follow_one_another-clause-heard
returns-then-not-follow_one_another-clause-heard g c = keeps_same c.args.self.now.leader

pub returns-clause-heard : goal.returns-clause-heard
returns-clause-heard g c =
    keeps_then c.args.self.now.leader c.append_request.new.self.leader c.finish.new.self.leader c.in_ok-append_request.ensures.heard c.in_ok-finish.ensures.heard
