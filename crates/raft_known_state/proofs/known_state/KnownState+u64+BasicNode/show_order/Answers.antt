use Rattle.std.proofs.Common.{◌∙◌, subst, sym}
use Rattle.raft_known_state.specs.KnownState.{AreInOrder}
use Rattle.raft_known_state.proofs.OrderLemmas.{told_in_order}
use Rattle.raft_known_state.proofs.known_state.KnownState+u64+BasicNode.show_order.Goals as goal

pub returns : goal.returns
returns c = λ s k.
    subst AreInOrder (sym k.memberships) (told_in_order c.key_log_ids.result.now s c.key_log_ids.ensures.order.0 (c.key_log_ids.ensures.ids ∙ k.ids))
