-- The log id at the place is that of the log's entry there, if the place is above the purge point.
use Rattle.std.proofs.Common.{◌≤◌, ◌<◌, ◌∙◌, ap, subst, Some}
use Rattle.std.specs.Option.{option_eq}
use Rattle.raft_log_ids.specs.LogIdList.{id_at}
use Rattle.raft_group_step.specs.Values.{log_id_eq}
use Rattle.raft_known_state.proofs.KnownStateLemmas.{id_at-known, is_found, none_found}
use Rattle.raft_known_state.proofs.known_state.KnownState+u64+BasicNode.has_log_id.Goals as goal

pub returns : goal.returns
returns c = λ s k p.
    c.eq.ensures
    ∙ ap (λ found. option_eq log_id_eq found (Some c.args.log_id.now)) (c.get.ensures ∙ ap (λ ids. id_at ids c.args.log_id.now.index) k.ids ∙ id_at-known s c.args.log_id.now.index p)
    ∙ is_found s c.args.log_id.now (subst (λ n. n ≤ c.args.log_id.now.index) (c.first_place.ensures s k) c.if-log_id-first_place.false)

pub returns-then-log_id-first_place : goal.returns-then-log_id-first_place
returns-then-log_id-first_place c = λ s k p. none_found s c.args.log_id.now (subst (λ n. c.args.log_id.now.index < n) (c.first_place.ensures s k) c.if-log_id-first_place.true)
