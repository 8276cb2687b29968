-- Each command's message stands behind those of the commands before it.
use Rattle.std.proofs.Common.{[], ◌++◌, append_assoc, refl, sym, ap, ◌∙◌}
use Rattle.raft_engine.specs.Commands.{sending_of, sent_by}
use Rattle.raft_executor.proofs.sending.messages.Goals as goal

pub loop-command-init : goal.loop-command-init
loop-command-init g c = (
  λ well. well,
  λ group parts shown. shown,
  λ s well shown vote. rw (c.iter_commands-left.ensures, c.new-all.ensures.items) ([], tt, refl),
  g.met.S.GroupStorage.meets_none c.args.storage.now,
)

pub loop-command-preserved : goal.loop-command-preserved
loop-command-preserved g c = (
  λ well. c.in_ok-push_sent.ensures.well (c.loop-command.invariant.0 well),
  λ group parts shown. c.push_sent.ensures.kept group parts (c.loop-command.invariant.1 group parts shown),
  λ s well shown vote.
      let before = c.loop-command.invariant.2 s well shown vote in
      let own = c.args.sender.now.own in
      let upto = c.args.sender.now.committed in
      let more = sending_of own s upto c.in-Some.command.now in (
        before.0 ++ more,
        c.in_ok-push_sent.ensures.ok s before.0 (c.loop-command.invariant.0 well) (c.loop-command.invariant.1 _ _ shown) vote before.1,
        append_assoc before.0 more _
            ∙ (ap (λ left. before.0 ++ sent_by own s upto left) (sym c.in-Some.ensures.steps)
            ∙ before.2),
      ),
  g.met.S.GroupStorage.meets_later _ _ _ _ c.loop-command.invariant.3 c.in_ok-push_sent.ensures.met,
)
