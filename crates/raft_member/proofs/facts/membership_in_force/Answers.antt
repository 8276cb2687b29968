-- A membership that an entry has, has its log id.
use Rattle.std.proofs.Common.{ap, ◌∙◌}
use Rattle.raft_group_step.specs.StoredGroup.{membership_in_force}
use Rattle.raft_messages.specs.Memberships.{in_force}
use Rattle.raft_member.proofs.FactLemmas.{in_force_again}
use Rattle.raft_member.proofs.facts.membership_in_force.Goals as goal

pub returns : goal.returns
returns c = λ s knows.
    c.pair_in_force.ensures ∙ ap in_force (c.effective_membership.ensures s knows) ∙ in_force_again (membership_in_force s)
