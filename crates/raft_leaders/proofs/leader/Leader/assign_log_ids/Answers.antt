-- The ids that were given.
use Rattle.std.proofs.Common.{◌≡◌, ◌∙◌, ◌+◌, ap, map, length, refl}
use Rattle.raft_values.specs.LogId.{next_place}
use Rattle.raft_log_ids.specs.LogIdList.{leader_ids}
use Rattle.raft_leaders.proofs.GivenLemmas.{ids-with_log_ids}
use Rattle.raft_leaders.proofs.PeerLemmas.{next_is}
use Rattle.raft_leaders.proofs.leader.Leader.assign_log_ids.Goals as goal

pub returns-clause-ids : goal.returns-clause-ids
returns-clause-ids g c =
    let leader = c.self.inside.vote.leader_id in
    let entries = c.args.entries.now in
    let first = c.next_index-first.result in
    let start : first ≡ next_place c.self.inside.last_log_id = c.next_index-first.ensures ∙ next_is c.self.inside.last_log_id in
    rw (← c.self.view_is)
    (ap (map g.LID.RaftLogId.id) c.give_log_ids.ensures
    ∙ ids-with_log_ids g.LID.RaftLogId.with_id leader g.LID.RaftLogId.id g.met.LID.RaftLogId.given_id first (first + length entries) entries refl
    ∙ ap (λ n. leader_ids leader n (n + length entries)) start)
