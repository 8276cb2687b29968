-- Each peer begins unknown.
use Rattle.std.proofs.Common.{◌∙◌, ap, map, Result, IsErrAnd}
use Rattle.std.specs.Prelude.{IfOk}
use Rattle.std.proofs.lemmas.Result.{err_from_is_err_and}
use Rattle.raft_leaders.specs.Leader.{unknown_peer}
use Rattle.raft_leaders.proofs.leader.Leader.new.Goals as goal

pub returns-clause-voters : goal.returns-clause-voters
returns-clause-voters g c =
    c.in_ok-progress.ensures.voters
    ∙ ap (λ v. map (λ id. (id, v)) (g.QS.QuorumSet.members c.args.quorum_set)) (c.empty-unknown.ensures ∙ ap unknown_peer c.end_of-began.ensures)

pub returns-clause-learners : goal.returns-clause-learners
returns-clause-learners g c =
    c.in_ok-progress.ensures.learners ∙ ap (λ v. map (λ id. (id, v)) c.args.learner_ids.now) (c.empty-unknown.ensures ∙ ap unknown_peer c.end_of-began.ensures)

-- without memory there is no lead

not_given : {T E : Type 0} (Q : E → Type 0) (P : T → Type 0) (r : Result T E) → IsErrAnd r Q → IfOk r P
not_given Q P r is = let p = err_from_is_err_and r is in rw p.1 tt

pub returns-in_err-clock_set-clause-vote : goal.returns-in_err-clock_set-clause-vote
returns-in_err-clock_set-clause-vote g c = not_given _ _ c.from_residual.result c.from_residual.ensures.1

pub returns-in_err-clock_set-clause-last_log_id : goal.returns-in_err-clock_set-clause-last_log_id
returns-in_err-clock_set-clause-last_log_id g c = not_given _ _ c.from_residual.result c.from_residual.ensures.1

pub returns-in_err-clock_set-clause-noop_log_id : goal.returns-in_err-clock_set-clause-noop_log_id
returns-in_err-clock_set-clause-noop_log_id g c = not_given _ _ c.from_residual.result c.from_residual.ensures.1

pub returns-in_err-clock_set-clause-began : goal.returns-in_err-clock_set-clause-began
returns-in_err-clock_set-clause-began g c = not_given _ _ c.from_residual.result c.from_residual.ensures.1

pub returns-in_err-clock_set-clause-quorum_set : goal.returns-in_err-clock_set-clause-quorum_set
returns-in_err-clock_set-clause-quorum_set g c = not_given _ _ c.from_residual.result c.from_residual.ensures.1

pub returns-in_err-clock_set-clause-voters : goal.returns-in_err-clock_set-clause-voters
returns-in_err-clock_set-clause-voters g c = not_given _ _ c.from_residual.result c.from_residual.ensures.1

pub returns-in_err-clock_set-clause-learners : goal.returns-in_err-clock_set-clause-learners
returns-in_err-clock_set-clause-learners g c = not_given _ _ c.from_residual.result c.from_residual.ensures.1

pub returns-in_err-clock_set-clause-voter_clocks : goal.returns-in_err-clock_set-clause-voter_clocks
returns-in_err-clock_set-clause-voter_clocks g c = not_given _ _ c.from_residual.result c.from_residual.ensures.1

pub returns-in_err-clock_set-clause-learner_clocks : goal.returns-in_err-clock_set-clause-learner_clocks
returns-in_err-clock_set-clause-learner_clocks g c = not_given _ _ c.from_residual.result c.from_residual.ensures.1

pub returns-in_err-progress-clause-vote : goal.returns-in_err-progress-clause-vote
returns-in_err-progress-clause-vote g c = not_given _ _ c.from_residual-in_err-progress.result c.from_residual-in_err-progress.ensures.1

pub returns-in_err-progress-clause-last_log_id : goal.returns-in_err-progress-clause-last_log_id
returns-in_err-progress-clause-last_log_id g c = not_given _ _ c.from_residual-in_err-progress.result c.from_residual-in_err-progress.ensures.1

pub returns-in_err-progress-clause-noop_log_id : goal.returns-in_err-progress-clause-noop_log_id
returns-in_err-progress-clause-noop_log_id g c = not_given _ _ c.from_residual-in_err-progress.result c.from_residual-in_err-progress.ensures.1

pub returns-in_err-progress-clause-began : goal.returns-in_err-progress-clause-began
returns-in_err-progress-clause-began g c = not_given _ _ c.from_residual-in_err-progress.result c.from_residual-in_err-progress.ensures.1

pub returns-in_err-progress-clause-quorum_set : goal.returns-in_err-progress-clause-quorum_set
returns-in_err-progress-clause-quorum_set g c = not_given _ _ c.from_residual-in_err-progress.result c.from_residual-in_err-progress.ensures.1

pub returns-in_err-progress-clause-voters : goal.returns-in_err-progress-clause-voters
returns-in_err-progress-clause-voters g c = not_given _ _ c.from_residual-in_err-progress.result c.from_residual-in_err-progress.ensures.1

pub returns-in_err-progress-clause-learners : goal.returns-in_err-progress-clause-learners
returns-in_err-progress-clause-learners g c = not_given _ _ c.from_residual-in_err-progress.result c.from_residual-in_err-progress.ensures.1

pub returns-in_err-progress-clause-voter_clocks : goal.returns-in_err-progress-clause-voter_clocks
returns-in_err-progress-clause-voter_clocks g c = not_given _ _ c.from_residual-in_err-progress.result c.from_residual-in_err-progress.ensures.1

pub returns-in_err-progress-clause-learner_clocks : goal.returns-in_err-progress-clause-learner_clocks
returns-in_err-progress-clause-learner_clocks g c = not_given _ _ c.from_residual-in_err-progress.result c.from_residual-in_err-progress.ensures.1

pub returns-in_err-clock_progress-clause-vote : goal.returns-in_err-clock_progress-clause-vote
returns-in_err-clock_progress-clause-vote g c = not_given _ _ c.from_residual-in_err-clock_progress.result c.from_residual-in_err-clock_progress.ensures.1

pub returns-in_err-clock_progress-clause-last_log_id : goal.returns-in_err-clock_progress-clause-last_log_id
returns-in_err-clock_progress-clause-last_log_id g c = not_given _ _ c.from_residual-in_err-clock_progress.result c.from_residual-in_err-clock_progress.ensures.1

pub returns-in_err-clock_progress-clause-noop_log_id : goal.returns-in_err-clock_progress-clause-noop_log_id
returns-in_err-clock_progress-clause-noop_log_id g c = not_given _ _ c.from_residual-in_err-clock_progress.result c.from_residual-in_err-clock_progress.ensures.1

pub returns-in_err-clock_progress-clause-began : goal.returns-in_err-clock_progress-clause-began
returns-in_err-clock_progress-clause-began g c = not_given _ _ c.from_residual-in_err-clock_progress.result c.from_residual-in_err-clock_progress.ensures.1

pub returns-in_err-clock_progress-clause-quorum_set : goal.returns-in_err-clock_progress-clause-quorum_set
returns-in_err-clock_progress-clause-quorum_set g c = not_given _ _ c.from_residual-in_err-clock_progress.result c.from_residual-in_err-clock_progress.ensures.1

pub returns-in_err-clock_progress-clause-voters : goal.returns-in_err-clock_progress-clause-voters
returns-in_err-clock_progress-clause-voters g c = not_given _ _ c.from_residual-in_err-clock_progress.result c.from_residual-in_err-clock_progress.ensures.1

pub returns-in_err-clock_progress-clause-learners : goal.returns-in_err-clock_progress-clause-learners
returns-in_err-clock_progress-clause-learners g c = not_given _ _ c.from_residual-in_err-clock_progress.result c.from_residual-in_err-clock_progress.ensures.1

pub returns-in_err-clock_progress-clause-voter_clocks : goal.returns-in_err-clock_progress-clause-voter_clocks
returns-in_err-clock_progress-clause-voter_clocks g c = not_given _ _ c.from_residual-in_err-clock_progress.result c.from_residual-in_err-clock_progress.ensures.1

pub returns-in_err-clock_progress-clause-learner_clocks : goal.returns-in_err-clock_progress-clause-learner_clocks
returns-in_err-clock_progress-clause-learner_clocks g c = not_given _ _ c.from_residual-in_err-clock_progress.result c.from_residual-in_err-clock_progress.ensures.1
