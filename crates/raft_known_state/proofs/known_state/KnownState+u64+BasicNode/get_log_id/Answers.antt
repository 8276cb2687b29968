use Rattle.std.proofs.Common.{ap, ◌∙◌}
use Rattle.raft_log_ids.specs.LogIdList.{id_at}
use Rattle.raft_known_state.proofs.KnownStateLemmas.{id_at-known}
use Rattle.raft_known_state.proofs.known_state.KnownState+u64+BasicNode.get_log_id.Goals as goal

pub returns : goal.returns
returns c = λ s k p. c.get.ensures ∙ ap (λ ids. id_at ids c.args.place) k.ids ∙ id_at-known s c.args.place p
