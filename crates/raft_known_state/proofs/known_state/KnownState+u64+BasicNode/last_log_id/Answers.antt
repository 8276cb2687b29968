use Rattle.std.proofs.Common.{ap, ◌∙◌}
use Rattle.raft_log_ids.specs.LogIdList.{last_id}
use Rattle.raft_known_state.proofs.KnownStateLemmas.{last-known}
use Rattle.raft_known_state.proofs.known_state.KnownState+u64+BasicNode.last_log_id.Goals as goal

pub returns : goal.returns
returns c = λ s k p. c.copied.ensures ∙ c.last.ensures ∙ ap last_id k.ids ∙ last-known s p
