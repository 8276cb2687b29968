-- The last key is the last log id.
use Rattle.std.proofs.Common.{◌≡◌, ◌∙◌, ◌+◌, ◌<◌, ap, sym, subst, arith}
use Rattle.std.specs.List.{AllByRecursion}
use Rattle.raft_values.specs.LogId.{next_place}
use Rattle.raft_leaders.specs.Leader.{end_of}
use Rattle.raft_leaders.proofs.OwnLemmas.{end_is, rises_or_none}
use Rattle.raft_leaders.proofs.accepted.end_of_log.Goals as goal

pub overflow_add-result : goal.overflow_add-result
overflow_add-result c =
    let e : c.in-Some.last.now.index + 1 ≡ end_of c.args.log_ids.now =
    ap next_place c.in-Some.ensures.value ∙ end_is c.key_log_ids.result.now c.args.log_ids.now c.key_log_ids.ensures.order.0 c.key_log_ids.ensures.ids in
    omega (arith, c.requires)

pub returns-in-None : goal.returns-in-None
returns-in-None c =
    let e = ap next_place c.in-None.ensures.value ∙ end_is c.key_log_ids.result.now c.args.log_ids.now c.key_log_ids.ensures.order.0 c.key_log_ids.ensures.ids in
    record {
      end = e;
      below =
          subst (λ n. AllByRecursion (λ id. id.index < n) c.args.log_ids.now) (sym e)
          (rises_or_none c.key_log_ids.result.now c.args.log_ids.now c.key_log_ids.ensures.order.0 c.key_log_ids.ensures.ids);
    }

pub returns-in-Some : goal.returns-in-Some
returns-in-Some c =
    let e = ap next_place c.in-Some.ensures.value ∙ end_is c.key_log_ids.result.now c.args.log_ids.now c.key_log_ids.ensures.order.0 c.key_log_ids.ensures.ids in
    record {
      end = e;
      below =
          subst (λ n. AllByRecursion (λ id. id.index < n) c.args.log_ids.now) (sym e)
          (rises_or_none c.key_log_ids.result.now c.args.log_ids.now c.key_log_ids.ensures.order.0 c.key_log_ids.ensures.ids);
    }
