use Rattle.std.proofs.Common.{◌≡◌, ◌+◌, ◌<◌, List, map, length, get_or, take, drop, sym, subst, ◌∙◌, ap, arith}
use Rattle.std.proofs.lemmas.List.{length-map}
use Rattle.raft_log_ids.specs.LogIdList.{ids_of, last_id, appended, extended, AllGoOn, GoesOn, HasFewerKeys}
use Rattle.raft_log_ids.proofs.ExtendLemmas.{next_goes_on, extended_more, last-grown, item_id}
use Rattle.raft_log_ids.proofs.FrontLemmas.{front-trans}
use Rattle.raft_log_ids.proofs.GrowthLemmas.{on_err, fewer_keys-at}
use Rattle.raft_log_ids.proofs.log_id_list.append_keys.Goals as goal

pub append_key-requires-clause-goes_on : goal.append_key-requires-clause-goes_on
append_key-requires-clause-goes_on g c =
    let ids = c.args.new_ids.now in
    let more = map g.LID.RaftLogId.id ids in
    let i = c.loop-new_id.new_id-index in
    let id = c.get_log_id.result.now in
    let within : i < length more = omega (arith, length-map ids g.LID.RaftLogId.id) in
    let here : id ≡ get_or more i id =
    item_id g.LID.RaftLogId.id ids i c.new_id-item.result id c.loop-new_id-test.true c.new_id-item.is c.get_log_id.ensures in
    subst (GoesOn (last_id c.loop-new_id.keys)) (sym here)
    (next_goes_on (last_id c.loop-new_id.keys) more i id within c.loop-new_id.invariant.1).0

pub loop-new_id-preserved : goal.loop-new_id-preserved
loop-new_id-preserved g c =
    let ids = c.args.new_ids.now in
    let more = map g.LID.RaftLogId.id ids in
    let i = c.loop-new_id.new_id-index in
    let id = c.get_log_id.result.now in
    let keys = c.loop-new_id.keys in
    let new = c.append_key.new.keys in
    let within : i < length more = omega (arith, length-map ids g.LID.RaftLogId.id) in
    let here : id ≡ get_or more i id =
    item_id g.LID.RaftLogId.id ids i c.new_id-item.result id c.loop-new_id-test.true c.new_id-item.is c.get_log_id.ensures in
    let grown : ids_of new ≡ appended (ids_of keys) (get_or more i id) =
    c.in_ok-append_key.ensures.ok ∙ ap (appended (ids_of keys)) here in (
      grown ∙ ap (λ l. appended l (get_or more i id)) c.loop-new_id.invariant.0
          ∙ sym (extended_more (ids_of c.args.keys.now) more i id within),
      subst (λ last. AllGoOn last (drop (i + 1) more))
          (sym (last-grown keys new (get_or more i id) c.in_ok-append_key.ensures.keys.0 grown))
          (next_goes_on (last_id keys) more i id within c.loop-new_id.invariant.1).1,
      c.in_ok-append_key.ensures.keys,
      front-trans c.args.keys.now keys new c.loop-new_id.invariant.3 c.in_ok-append_key.ensures.front,
    )

pub returns-in_err-append_key-clause-only : goal.returns-in_err-append_key-clause-only
returns-in_err-append_key-clause-only g c =
    let cmp = g.NID.Ord.cmp in
    let ids = c.args.new_ids.now in
    let more = map g.LID.RaftLogId.id ids in
    let i = c.loop-new_id.new_id-index in
    let id = c.get_log_id.result.now in
    let before = extended (ids_of c.args.keys.now) (take i more) in
    let within : i < length more = omega (arith, length-map ids g.LID.RaftLogId.id) in
    let here : id ≡ get_or more i id =
    item_id g.LID.RaftLogId.id ids i c.new_id-item.result id c.loop-new_id-test.true c.new_id-item.is c.get_log_id.ensures in
    on_err c.from_residual.result
    (fewer_keys-at cmp (ids_of c.args.keys.now) more i id within
    (subst (λ x. HasFewerKeys cmp before (appended before x)) here
    (subst (λ (l : List _). HasFewerKeys cmp l (appended l id)) c.loop-new_id.invariant.0 c.in_err-append_key.ensures.only)))
