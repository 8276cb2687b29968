-- The last of the leader's own is the last one that a key tells, from the last key on.
use Rattle.std.proofs.Common.{◌≡◌, ◌∙◌, ◌+◌, ◌-◌, ◌<◌, ap, sym, subst, arith, length, drop, get_or}
use Rattle.std.specs.Prelude.{filter, [], None}
use Rattle.std.specs.List.{last_or}
use Rattle.raft_values.specs.LogId.{log_id_of}
use Rattle.raft_log_ids.specs.LogIdList.{IsBelowNext, end_of_key, ids_of, leader_ids}
use Rattle.raft_log_ids.proofs.KeyTestLemmas.{rest_whole}
use Rattle.raft_leaders.specs.Accepted.{last_own_within}
use Rattle.raft_leaders.proofs.OwnLemmas.{is_own_within, found_is, key_apart, none_before_key, none_if, none_more}
use Rattle.raft_leaders.proofs.accepted.last_own_within.Goals as goal

pub own_within-own-requires : goal.own_within-own-requires
own_within-own-requires c =
    let keys = c.key_log_ids-keys.result.now in
    let at = length keys - 1 - c.loop-back.back in
    let within : at < length keys = omega (arith, c.loop-back-test.true) in
    subst (IsBelowNext (get_or keys at (log_id_of 0 0 0))) (sym (rest_whole keys (at + 1))) (key_apart keys at (log_id_of 0 0 0) within c.key_log_ids-keys.ensures.order.0)

pub returns-then-is_some : goal.returns-then-is_some
returns-then-is_some c =
    let keys = c.key_log_ids-keys.result.now in
    let at = length keys - 1 - c.loop-back.back in
    let d = log_id_of 0 0 0 in
    let key = get_or keys at d in
    let within : at < length keys = omega (arith, c.loop-back-test.true) in
    let here : length keys - c.loop-back.back ≡ at + 1 = omega (arith, c.loop-back-test.true) in
    let none : filter (is_own_within c.args.leader_id c.args.from c.args.below) (ids_of (drop (at + 1) keys)) ≡ [] =
    subst (λ n. filter (is_own_within c.args.leader_id c.args.from c.args.below) (ids_of (drop n keys)) ≡ []) here c.loop-back.invariant in
    found_is c.args.leader_id c.args.from c.args.below keys at d c.own_within-own.result within none (sym c.is_some.ensures ∙ c.if-is_some.true)
    (c.own_within-own.ensures ∙ ap (λ rest. last_own_within c.args.leader_id c.args.from c.args.below (leader_ids key.leader_id key.index (end_of_key key rest))) (rest_whole keys (at + 1)))
    ∙ ap (last_own_within c.args.leader_id c.args.from c.args.below) c.key_log_ids-keys.ensures.ids

pub returns-then-keys-at : goal.returns-then-keys-at
returns-then-keys-at c =
    let keys = c.key_log_ids-keys.result.now in
    let at = length keys - 1 - c.loop-back.back in
    let d = log_id_of 0 0 0 in
    let key = get_or keys at d in
    let within : at < length keys = omega (arith, c.loop-back-test.true) in
    let here : length keys - c.loop-back.back ≡ at + 1 = omega (arith, c.loop-back-test.true) in
    let behind : filter (is_own_within c.args.leader_id c.args.from c.args.below) (ids_of (drop (at + 1) keys)) ≡ [] =
    subst (λ n. filter (is_own_within c.args.leader_id c.args.from c.args.below) (ids_of (drop n keys)) ≡ []) here c.loop-back.invariant in
    let none : filter (is_own_within c.args.leader_id c.args.from c.args.below) (ids_of (drop at keys)) ≡ [] =
    none_more c.args.leader_id c.args.from c.args.below keys at d within behind
    (sym (c.own_within-own.ensures ∙ ap (λ rest. last_own_within c.args.leader_id c.args.from c.args.below (leader_ids key.leader_id key.index (end_of_key key rest))) (rest_whole keys (at + 1)))
    ∙ none_if c.own_within-own.result (sym c.is_some.ensures ∙ c.if-is_some.false)) in
    sym (ap (last_or None) (none_before_key c.args.leader_id c.args.from c.args.below keys at d within c.key_log_ids-keys.ensures.order.0 c.if-keys-at.true none))
    ∙ ap (last_own_within c.args.leader_id c.args.from c.args.below) c.key_log_ids-keys.ensures.ids

pub loop-back-preserved : goal.loop-back-preserved
loop-back-preserved c =
    let keys = c.key_log_ids-keys.result.now in
    let at = length keys - 1 - c.loop-back.back in
    let d = log_id_of 0 0 0 in
    let key = get_or keys at d in
    let within : at < length keys = omega (arith, c.loop-back-test.true) in
    let here : length keys - c.loop-back.back ≡ at + 1 = omega (arith, c.loop-back-test.true) in
    let back : length keys - (c.loop-back.back + 1) ≡ at = omega arith in
    let none : filter (is_own_within c.args.leader_id c.args.from c.args.below) (ids_of (drop (at + 1) keys)) ≡ [] =
    subst (λ n. filter (is_own_within c.args.leader_id c.args.from c.args.below) (ids_of (drop n keys)) ≡ []) here c.loop-back.invariant in
    subst (λ n. filter (is_own_within c.args.leader_id c.args.from c.args.below) (ids_of (drop n keys)) ≡ []) (sym back)
    (none_more c.args.leader_id c.args.from c.args.below keys at d within none
    (sym (c.own_within-own.ensures ∙ ap (λ rest. last_own_within c.args.leader_id c.args.from c.args.below (leader_ids key.leader_id key.index (end_of_key key rest))) (rest_whole keys (at + 1)))
    ∙ none_if c.own_within-own.result (sym c.is_some.ensures ∙ c.if-is_some.false)))
