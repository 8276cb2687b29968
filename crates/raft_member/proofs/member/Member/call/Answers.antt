-- A refused call ends so, and another as its step.
use Rattle.std.proofs.Common.{◌≡◌, Some, None, max, option_map, sym, ap, ◌∙◌}
use Rattle.raft_group_step.specs.GroupEvent.{Call}
use Rattle.raft_group_step.specs.Refusal.{refusal_of}
use Rattle.raft_conditions.specs.Reason.{reason_of}
use Rattle.raft_member.specs.Running.{left_by}
use Rattle.raft_member.proofs.EventLemmas.{ended_as_run, has_room_behind, may_take, stopped_as_halted, up_again}
use Rattle.raft_member.proofs.member.Member.call.Goals as goal

pub returns-in-Some-clause-ok : goal.returns-in-Some-clause-ok
returns-in-Some-clause-ok g c = λ s built down moment idle lawful.
    let own = c.args.self.now.id in
    let facts = c.facts_of.ensures s idle.stands down.present (has_room_behind own s lawful) in
    let refused : refusal_of own s (Call c.args.call.now c.args.now) ≡ Some (reason_of c.in-Some.refusal) =
    sym (c.in-Ok.ensures.refusal own s facts) ∙ ap (option_map reason_of) c.in-Some.is in
    (refused, up_again (g.S.GroupStorage.is_well c.args.storage.now) (g.S.GroupStorage.shows c.args.storage.now c.args.group) c.args.self.now c.args.engine.now s down moment idle)

pub returns-in-Ok-accepted_call-clause-ok : goal.returns-in-Ok-accepted_call-clause-ok
returns-in-Ok-accepted_call-clause-ok g c = λ s built down moment idle lawful.
    let own = c.args.self.now.id in
    let event = Call c.args.call.now c.args.now in
    let facts = c.facts_of.ensures s idle.stands down.present (has_room_behind own s lawful) in
    let accepted : refusal_of own s event ≡ None = sym (c.in-Ok.ensures.refusal own s facts) ∙ ap (option_map reason_of) c.in_default.is in
    let at : c.max-moment.result ≡ max s.now c.args.now = c.max-moment.ensures ∙ ap (λ n. max n c.args.now) moment in
    let is_well = g.S.GroupStorage.is_well c.accepted_call.new.storage in
    let shown = g.S.GroupStorage.shows c.accepted_call.new.storage c.args.group in
    let ended = c.in-Ok-accepted_call.ended in
    ended_as_run g.S.GroupStorage.stands is_well shown own s event c.args.stop (left_by ended c.accepted_call.new.engine c.accepted_call.new.self) ended accepted
    (c.in-Ok-accepted_call.ensures.ok c.args.now s built down idle at (may_take own c.args.engine.now s event idle lawful accepted))

pub returns-in-Err-accepted_call-clause-err : goal.returns-in-Err-accepted_call-clause-err
returns-in-Err-accepted_call-clause-err g c = λ s built down moment idle lawful.
    let own = c.args.self.now.id in
    let event = Call c.args.call.now c.args.now in
    let facts = c.facts_of.ensures s idle.stands down.present (has_room_behind own s lawful) in
    let accepted : refusal_of own s event ≡ None = sym (c.in-Ok.ensures.refusal own s facts) ∙ ap (option_map reason_of) c.in_default.is in
    let at : c.max-moment.result ≡ max s.now c.args.now = c.max-moment.ensures ∙ ap (λ n. max n c.args.now) moment in
    stopped_as_halted (g.S.GroupStorage.shows c.accepted_call.new.storage c.args.group) (g.S.GroupStorage.fails c.accepted_call.new.storage) own s event c.accepted_call.new.self accepted
    (c.in-Err-accepted_call.ensures.err c.args.now s built down idle at (may_take own c.args.engine.now s event idle lawful accepted))

pub returns-in-Err-accepted_call-clause-taken : goal.returns-in-Err-accepted_call-clause-taken
returns-in-Err-accepted_call-clause-taken g c = λ s present idle lawful.
    let own = c.args.self.now.id in
    let facts = c.facts_of.ensures s idle.stands present (has_room_behind own s lawful) in
    sym (c.in-Ok.ensures.refusal own s facts) ∙ ap (option_map reason_of) c.in_default.is
