-- The last key alone tells the last log id.
use Rattle.std.proofs.Common.{◌≡◌, ◌-◌, ◌∙◌, inl, inr, ap, sym, subst, drop, length, arith}
use Rattle.raft_log_ids.specs.LogIdList.{PlacesRise, last_id}
use Rattle.raft_log_ids.proofs.LogIdListLemmas.{last_id-ids_of}
use Rattle.raft_known_state.proofs.TermLemmas.{last_left, last_rises}
use Rattle.raft_known_state.proofs.known_state.KnownState+u64+BasicNode.keys_of_leader.Goals as goal

pub returns-then-may_have_leader-clause-last : goal.returns-then-may_have_leader-clause-last
returns-then-may_have_leader-clause-last c =
    sym (last_id-ids_of c.key_log_ids-keys.result.now c.key_log_ids-keys.ensures.order.0) ∙ ap last_id c.key_log_ids-keys.ensures.ids

pub returns-clause-rise : goal.returns-clause-rise
returns-clause-rise c =
    let keys = c.key_log_ids-keys.result.now in
    let at : c.saturating_sub.result ≡ length keys - 1 = omega (arith, c.saturating_sub.ensures) in
    subst PlacesRise (sym (c.split_at.ensures.back ∙ ap (λ n. drop n keys) at)) (last_rises keys c.key_log_ids-keys.ensures.order.0)

pub returns-clause-last : goal.returns-clause-last
returns-clause-last c =
    let keys = c.key_log_ids-keys.result.now in
    let at : c.saturating_sub.result ≡ length keys - 1 = omega (arith, c.saturating_sub.ensures) in
    ap last_id (c.split_at.ensures.back ∙ ap (λ n. drop n keys) at) ∙ last_left keys
    ∙ sym (last_id-ids_of keys c.key_log_ids-keys.ensures.order.0) ∙ ap last_id c.key_log_ids-keys.ensures.ids

pub returns-then-may_have_leader-clause-ids : goal.returns-then-may_have_leader-clause-ids
returns-then-may_have_leader-clause-ids c = λ s known. inl (c.key_log_ids-keys.ensures.ids ∙ known.ids)

pub returns-clause-ids : goal.returns-clause-ids
returns-clause-ids c = λ s known. inr (c.may_have_leader.ensures s known c.if-may_have_leader.false)
