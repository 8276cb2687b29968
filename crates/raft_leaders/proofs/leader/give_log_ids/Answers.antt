-- One more is given a log id.
use Rattle.std.proofs.Common.{◌≡◌, ◌∙◌, ap, suc, ◌+◌, refl, get_or, arith}
use Rattle.std.proofs.Math.ListN.{set}
use Rattle.raft_leaders.specs.Leader.{id_of_leader}
use Rattle.raft_leaders.proofs.GivenLemmas.{given, next_given, give_next, given_all}
use Rattle.raft_leaders.proofs.leader.give_log_ids.Goals as goal

pub loop-at-preserved : goal.loop-at-preserved
loop-at-preserved g c =
    let with_id = g.LID.RaftLogId.with_id in
    let at = c.loop-at.at in
    let first = c.args.first in
    let leader = c.args.leader_id in
    let all = c.args.entries.now in
    let d = c.index-entries-at.result in
    let one : suc at ≡ at + 1 = omega arith in
    ap (λ y. set c.loop-at.entries at y) (c.set_log_id.ensures ∙ ap (λ i. with_id (get_or c.loop-at.entries at d) i) c.new.ensures)
    ∙ ap (λ l. set l at (with_id (get_or l at d) (id_of_leader leader (first + at)))) c.loop-at.invariant
    ∙ ap (λ x. set (given with_id leader at first all) at (with_id x (id_of_leader leader (first + at)))) (next_given with_id leader at first all d)
    ∙ give_next with_id leader at first (first + at) all d c.loop-at-test.true refl
    ∙ ap (λ n. given with_id leader n first all) one

pub returns : goal.returns
returns g c = c.loop-at.invariant ∙ given_all g.LID.RaftLogId.with_id c.args.leader_id c.loop-at.at c.args.first c.args.entries.now c.loop-at-test.false
