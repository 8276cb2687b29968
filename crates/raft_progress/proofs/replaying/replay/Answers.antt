use Rattle.std.proofs.Common.{◌∙◌, length, take, drop, suc, sym, subst}
use Rattle.std.proofs.lemmas.Iterator.Adapters.{YieldsList-from_vec}
use Rattle.std.proofs.lemmas.Iterator.Consumers.{YieldsList-turn}
use Rattle.std.proofs.lemmas.Result.{err_from_is_err_and}
use Rattle.raft_progress.specs.Replay.{IsRefused, Replays}
use Rattle.raft_progress.proofs.ReplayLemmas.{replays_push, split_at, take_push}
use Rattle.raft_progress.proofs.replaying.replay.Goals as goal

pub loop-item-preserved : goal.loop-item-preserved
loop-item-preserved g c =
    let made = c.into_iter-item-iterator.ensures.into_iter_gives in
    let t = YieldsList-turn (YieldsList-from_vec {s = c.into_iter-item-iterator.result} c.args.items.items made.0 (made.1 ∙ c.args.items.ok.0)) c.loop-item.yielded c.loop-item.item-iterator c.loop-item.yielded_by c.next.result c.next.new.self c.in-Some.item c.in-Some.is c.next.ensures.steps in
    record {
      replayed = subst (λ l. Replays g.ID.PartialEq.eq g.P.Ord.cmp g.V.Borrow.borrowed g.QS.QuorumSet.members c.args.progress.now l c.replay_item.new.progress)
          (sym (take_push c.loop-item.yielded c.args.items.items c.in-Some.item t.0 t.1))
          (replays_push g.ID.PartialEq.eq g.P.Ord.cmp g.V.Borrow.borrowed g.QS.QuorumSet.members c.args.progress.now (take (length c.loop-item.yielded) c.args.items.items) c.loop-item.progress c.in-Some.item c.replay_item.new.progress
          c.loop-item.invariant.replayed c.in_ok-replay_item.ensures.ok);
      counted = λ h. c.replay_item.ensures.counted (c.loop-item.invariant.counted h);
    }

pub returns-in_err-replay_item-clause-err : goal.returns-in_err-replay_item-clause-err
returns-in_err-replay_item-clause-err g c =
    let made = c.into_iter-item-iterator.ensures.into_iter_gives in
    let t = YieldsList-turn (YieldsList-from_vec {s = c.into_iter-item-iterator.result} c.args.items.items made.0 (made.1 ∙ c.args.items.ok.0)) c.loop-item.yielded c.loop-item.item-iterator c.loop-item.yielded_by c.next.result c.next.new.self c.in-Some.item c.in-Some.is c.next.ensures.steps in
    let p = err_from_is_err_and c.from_residual.result c.from_residual.ensures.1 in
    rw (p.1, p.2)
    (record {
      done = take (length c.loop-item.yielded) c.args.items.items;
      item = c.in-Some.item;
      left = drop (suc (length c.loop-item.yielded)) c.args.items.items;
      split = split_at c.args.items.items (length c.loop-item.yielded) c.in-Some.item t.0 t.1;
      replayed = subst (λ q. Replays g.ID.PartialEq.eq g.P.Ord.cmp g.V.Borrow.borrowed g.QS.QuorumSet.members c.args.progress.now (take (length c.loop-item.yielded) c.args.items.items) q)
          (sym c.in_err-replay_item.ensures.unchanged) c.loop-item.invariant.replayed;
      refused = subst (λ q. IsRefused g.ID.PartialEq.eq g.P.Ord.cmp g.V.Borrow.borrowed q c.in-Some.item c.in_err-replay_item.field-0.0) (sym c.in_err-replay_item.ensures.unchanged) c.in_err-replay_item.ensures.refused;
    })
