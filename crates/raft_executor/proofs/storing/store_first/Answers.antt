-- Each command takes from the room what it stores.
use Rattle.raft_executor.proofs.StoringLemmas.{all_are_stored, next_given, nothing_yet, one_fails, one_is_stored}
use Rattle.raft_log_ids.proofs.GrowthLemmas.{on_err}
use Rattle.raft_executor.proofs.storing.store_first.Goals as goal

pub loop-command-init : goal.loop-command-init
loop-command-init g c = (
  λ well. well,
  λ other parts differ shown. shown,
  λ x given well. rw c.iter_commands-left.ensures (given, nothing_yet _ _ _ _),
  g.met.S.GroupStorage.meets_none c.args.storage.now,
)

pub loop-command-preserved : goal.loop-command-preserved
loop-command-preserved g c = (
  λ well. c.in_ok-room.ensures.well (c.loop-command.invariant.0 well),
  λ other parts differ shown. c.in_ok-room.ensures.others other parts differ (c.loop-command.invariant.1 other parts differ shown),
  λ x given well.
      let before = c.loop-command.invariant.2 x given well in
      let next = next_given g.S.GroupStorage.stands _ x c.in-Some.command.now _ _ c.in-Some.ensures.steps before.0 in (
        next.1,
        one_is_stored x _ c.loop-command.room _ c.in-Some.command.now _ _ _ _ _ c.args.group c.in-Some.ensures.steps before.1
            (c.in_ok-room.ensures.room x)
            (c.in_ok-room.ensures.ok x next.0 (c.loop-command.invariant.0 well)),
      ),
  g.met.S.GroupStorage.meets_later _ _ _ _ c.loop-command.invariant.3 c.in_ok-room.ensures.met,
)

pub returns-clause-ok : goal.returns-clause-ok
returns-clause-ok g c = λ x given well.
    all_are_stored x _ c.loop-command.room c.loop-command.left _ _ c.args.group c.in_default.ensures.steps.0 (c.loop-command.invariant.2 x given well).1

pub returns-in_err-room-clause-err : goal.returns-in_err-room-clause-err
returns-in_err-room-clause-err g c = λ x given well.
    let before = c.loop-command.invariant.2 x given well in
    let next = next_given g.S.GroupStorage.stands _ x c.in-Some.command.now _ _ c.in-Some.ensures.steps before.0 in
    on_err _
    (one_fails x _ c.loop-command.room c.in-Some.command.now _ _ _ _ _ _ c.args.group c.in-Some.ensures.steps before.1
    (c.in_err-room.ensures.err x next.0 (c.loop-command.invariant.0 well)))
