-- A leader's room lasts until it has sent.
use Rattle.std.proofs.Common.{◌≡◌, ◌<◌, ◌^◌, ◌∙◌, ℕ, ap, sym, subst, true, not, OnOk, arith}
use Rattle.std.specs.Prelude.{Some}
use Rattle.std.specs.Option.{is_some}
use Rattle.std.proofs.Math.Bool.{true≢false}
use Rattle.std.proofs.lemmas.Result.{on_ok_weaker}
use Rattle.raft_values.specs.LogId.{next_place, place_of}
use Rattle.raft_group_step.specs.StoredGroup.{end_place, snapshot_last}
use Rattle.raft_group_step.specs.Frames.{with_frames}
use Rattle.raft_group_step.specs.Lead.{commit_as_leader, purge_as_wished}
use Rattle.raft_group_step.proofs.Words.{commit_keeps_role, commit_keeps_stored, purge_keeps_role}
use Rattle.raft_leaders.proofs.OwnLemmas.{none_if}
use Rattle.raft_engine.specs.Standing.{IsWholeStepOf, PlaysRole}
use Rattle.raft_engine.specs.Events.{CanFinish, HasLeadRoom}
use Rattle.raft_engine.proofs.ElectionLemmas.{known_end}
use Rattle.raft_engine.proofs.FinishLemmas.{commit_keeps_wish, finished_unled, room_for_frames, wished_keeps}
use Rattle.raft_engine.proofs.PurgeLemmas.{KeepsStanding, led}
use Rattle.raft_engine.proofs.ClockLemmas.{keeps_same, keeps_then, keeps_untouched}
use Rattle.raft_engine.proofs.engine.Engine.finish.Goals as goal

pub returns-then-is_none-clause-step : goal.returns-then-is_none-clause-step
returns-then-is_none-clause-step g c = λ x own r step can.
    let self = c.args.self.now in
    let none = none_if self.leader (c.is_none.ensures ∙ ap not c.if-is_none.true) in
    let plays = subst (λ l. PlaysRole own l self.candidate r.state.stored r.state.role) none step.state.role in
    rw (finished_unled own (place_of c.args.before) self.candidate r.state.stored r plays) (c.note_part.ensures.step x own r step)

pub returns-then-not-has_room-clause-step : goal.returns-then-not-has_room-clause-step
returns-then-not-has_room-clause-step g c = λ x own r step can.
    let self = c.args.self.now in
    let some : is_some self.leader ≡ true = c.is_none.ensures ∙ ap not c.if-is_none.false in
    let lead = led own self.leader self.candidate r.state.stored r.state.role some step.state.role in
    let room : HasLeadRoom own r.state lead.0 = subst (CanFinish own r.state) lead.1 can in
    absurd (true≢false (sym (c.has_room.ensures.1 (subst (λ place. place < 2 ^ 63) (sym (known_end x own self r step)) room.places)) ∙ c.if-not-has_room.true))

pub returns-clause-step : goal.returns-clause-step
returns-clause-step g c = λ x own r step can.
    let self = c.args.self.now in
    let some : is_some self.leader ≡ true = c.is_none.ensures ∙ ap not c.if-is_none.false in
    let lead = led own self.leader self.candidate r.state.stored r.state.role some step.state.role in
    let room : HasLeadRoom own r.state lead.0 = subst (CanFinish own r.state) lead.1 can in
    let commits = c.in_ok-commit_as_leader.ensures.step x own r step in
    let committed = commit_as_leader own r.state.role r in
    let stored = commit_keeps_stored own r.state.role r in
    let may : (place : ℕ) → committed.state.wish ≡ Some place → place < next_place (snapshot_last committed.state.stored) =
    λ place e. subst (λ s. place < next_place (snapshot_last s)) (sym stored) (room.wish place (sym (commit_keeps_wish own r.state.role r) ∙ e)) in
    let places = room.places in
    let fits : end_place committed.state.stored < 2 ^ 64 =
    let l : end_place r.state.stored < 2 ^ 64 = omega arith in subst (λ s. end_place s < 2 ^ 64) (sym stored) l in
    let purges = c.in_ok-purge_as_wished.ensures.step x own committed commits fits may in
    let purged = purge_as_wished committed.state.role committed.state.wish committed in
    let keeps = wished_keeps committed.state.role committed.state.wish committed commits.state.order.placed in
    let role = purge_keeps_role committed.state.role committed.state.wish committed ∙ commit_keeps_role own r.state.role r ∙ lead.1 in
    subst (λ b. OnOk c.with_frames.result (IsWholeStepOf x own c.with_frames.new.self (with_frames own b purged))) c.index.ensures
    (c.with_frames.ensures.step x own purged (c.note_part-2.ensures.step x own purged purges)
    (room_for_frames own lead.0 r.state purged.state room step.state.order.placed purges.state.order.placed
    (subst (λ s. KeepsStanding s purged.state.stored) stored keeps) role))

pub returns-then-is_none-clause-heard : goal.returns-then-is_none-clause-heard
returns-then-is_none-clause-heard g c = keeps_untouched c.args.self.now.leader c.note_part.new.self.leader c.note_part.ensures.leader

pub returns-then-not-has_room-clause-heard : goal.returns-then-not-has_room-clause-heard
returns-then-not-has_room-clause-heard g c = keeps_same c.args.self.now.leader

pub returns-clause-heard : goal.returns-clause-heard
returns-clause-heard g c =
    let old = c.args.self.now.leader in
    let committed = c.commit_as_leader.new.self.leader in
    let purged = c.purge_as_wished.new.self.leader in
    let noted = c.note_part-2.new.self.leader in
    let commits = keeps_untouched old committed c.commit_as_leader.ensures.leader in
    let purges = keeps_then old committed purged commits c.in_ok-purge_as_wished.ensures.heard in
    let so_far = keeps_then old purged noted purges (keeps_untouched purged noted c.note_part-2.ensures.leader) in
    on_ok_weaker c.with_frames.result (keeps_then old noted c.with_frames.new.self.leader so_far) c.with_frames.ensures.heard
