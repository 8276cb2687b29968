-- Where the leader has written an entry already, nothing is appended.
use Rattle.std.proofs.Common.{◌≡◌, ◌∙◌, sym, true, false}
use Rattle.std.specs.List.{list_any}
use Rattle.raft_group_step.specs.Values.{is_written_by}
use Rattle.raft_engine.proofs.ClockLemmas.{keeps_same}
use Rattle.raft_engine.proofs.engine.Engine.append_blank.Goals as goal

pub returns-then-has_written-clause-step : goal.returns-then-has_written-clause-step
returns-then-has_written-clause-step g c = λ x own r lead step leads.
    let written : list_any (is_written_by r.state.stored.vote.leader_id) r.state.stored.log ≡ true =
    sym (c.has_written.ensures x own r lead step leads) ∙ c.if-has_written.true in
    rw written step

pub returns-clause-step : goal.returns-clause-step
returns-clause-step g c = λ x own r lead step leads.
    let none : list_any (is_written_by r.state.stored.vote.leader_id) r.state.stored.log ≡ false =
    sym (c.has_written.ensures x own r lead step leads) ∙ c.if-has_written.false in
    rw none (c.append.ensures.step x own r lead step leads)

pub returns-then-has_written-clause-heard : goal.returns-then-has_written-clause-heard
returns-then-has_written-clause-heard g c = keeps_same c.args.self.now.leader

pub returns-clause-heard : goal.returns-clause-heard
returns-clause-heard g c = c.append.ensures.heard
