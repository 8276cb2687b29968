-- At the purge point or above it the log id at a place is that of the entry there.
use Rattle.std.proofs.Common.{◌≤◌, ◌∙◌, ap, subst}
use Rattle.std.specs.Option.{is_some}
use Rattle.raft_log_ids.specs.LogIdList.{id_at}
use Rattle.raft_known_state.proofs.KnownStateLemmas.{id_at-known, some_found}
use Rattle.raft_known_state.proofs.known_state.KnownState+u64+BasicNode.has_entry_at.Goals as goal

pub returns : goal.returns
returns c = λ s k p.
    c.is_some.ensures
    ∙ ap is_some (c.get.ensures ∙ ap (λ ids. id_at ids c.args.place) k.ids ∙ id_at-known s c.args.place p)
    ∙ some_found s c.args.place (subst (λ n. n ≤ c.args.place) (c.first_place.ensures s k) c.if-place-first_place.false)
