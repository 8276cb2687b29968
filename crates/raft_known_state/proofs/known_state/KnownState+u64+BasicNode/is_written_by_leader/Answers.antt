-- The keys tell the log ids, and those above the purge point are the entries'.
use Rattle.std.proofs.Common.{◌∙◌, ap}
use Rattle.std.specs.List.{list_any}
use Rattle.raft_log_ids.specs.LogIdList.{ids_of}
use Rattle.raft_group_step.specs.StoredGroup.{first_place}
use Rattle.raft_known_state.specs.KnownState.{is_of_leader_from}
use Rattle.raft_known_state.proofs.KeyLeaderLemmas.{written-known}
use Rattle.raft_known_state.proofs.known_state.KnownState+u64+BasicNode.is_written_by_leader.Goals as goal

pub returns : goal.returns
returns c = λ s k p.
    c.has_leader_from.ensures
    ∙ ap (λ place. list_any (is_of_leader_from c.args.leader.now place) (ids_of c.key_log_ids.result.now)) (c.first_place.ensures s k)
    ∙ ap (list_any (is_of_leader_from c.args.leader.now (first_place s))) (c.key_log_ids.ensures.ids ∙ k.ids)
    ∙ written-known c.args.leader.now s p
