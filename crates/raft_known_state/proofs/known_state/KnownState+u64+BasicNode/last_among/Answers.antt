-- The last of the first memberships, or else the snapshot's.
use Rattle.std.proofs.Common.{◌-◌, ◌∙◌, ap, length, take}
use Rattle.std.proofs.lemmas.Result.{MatchResult-weaker}
use Rattle.std.specs.List.{slice_get}
use Rattle.raft_known_state.proofs.KnownStateLemmas.{last_is}
use Rattle.raft_known_state.proofs.known_state.KnownState+u64+BasicNode.last_among.Goals as goal

pub returns-in-Some : goal.returns-in-Some
returns-in-Some c =
    MatchResult-weaker c.clone.result c.clone.ensures.cases
    (λ y e. e ∙ last_is (take c.args.count c.args.self.now.memberships) _ _
    (c.in-Some.ensures.value ∙ ap (λ ms. slice_get ms (length ms - 1)) (c.split_at.ensures.front ∙ ap (take c.args.count) c.as_slice.ensures)))
    (λ y e. tt)
