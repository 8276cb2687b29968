-- A key more: it tells a log id of the leader there, or the answer is with the keys behind it.
use Rattle.std.proofs.Common.{◌+◌, ◌∙◌, ap, sym, get_or}
use Rattle.raft_values.specs.LogId.{log_id_of}
use Rattle.raft_known_state.specs.KnownState.{stands_under}
use Rattle.raft_known_state.proofs.KeyLeaderLemmas.{next_key, found_next, is_here, ends_below, is_of_another}
use Rattle.raft_known_state.proofs.key_leaders.has_leader_from.Goals as goal
use Rattle.raft_known_state.proofs.key_leaders.has_leader_from.Goals.{else-eq-via-then-eq+else-goes_up_to, else-eq-via-else-eq}

pub returns-then-goes_up_to : goal.returns-then-goes_up_to
returns-then-goes_up_to c =
    sym
    (c.loop-at.invariant
    ∙ next_key c.args.leader.now c.args.place c.args.keys.now c.loop-at.at (log_id_of 0 0 0) c.requires c.loop-at-test.true
    ∙ is_here _ _ _ c.if-eq.ensures
    (c.if-goes_up_to.ensures ∙ ap (stands_under c.args.place (get_or c.args.keys.now c.loop-at.at (log_id_of 0 0 0))) (found_next c.args.keys.now (c.loop-at.at + 1) c.get.result c.get.ensures.lookup.0 c.get.ensures.lookup.1)))

pub loop-at-preserved : goal.loop-at-preserved
loop-at-preserved c =
    c.loop-at.invariant
    ∙ next_key c.args.leader.now c.args.place c.args.keys.now c.loop-at.at (log_id_of 0 0 0) c.requires c.loop-at-test.true
    ∙ elim c.else-eq.branch [
      | else-eq-via-then-eq+else-goes_up_to w ↦
          ends_below _ _ _
          (w.if-goes_up_to.ensures ∙ ap (stands_under c.args.place (get_or c.args.keys.now c.loop-at.at (log_id_of 0 0 0))) (found_next c.args.keys.now (c.loop-at.at + 1) w.get.result w.get.ensures.lookup.0 w.get.ensures.lookup.1))
      | else-eq-via-else-eq w ↦ is_of_another _ _ _ w.if-eq.ensures
    ]
