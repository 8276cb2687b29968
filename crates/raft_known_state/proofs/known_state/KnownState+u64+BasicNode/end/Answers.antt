use Rattle.std.proofs.Common.{◌∙◌}
use Rattle.raft_known_state.proofs.KnownStateLemmas.{end_known}
use Rattle.raft_known_state.proofs.known_state.KnownState+u64+BasicNode.end.Goals as goal

pub returns : goal.returns
returns c = λ s k p. c.next_index.ensures ∙ end_known c.copied.result s c.args.self.now.state.log_ids (c.copied.ensures ∙ c.last.ensures) k.ids p
