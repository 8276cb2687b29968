-- A leader whose first entry is the next one has written none of its log.
use Rattle.std.proofs.Common.{◌≤◌, ◌∙◌, ap, sym, subst}
use Rattle.std.specs.Prelude.{ℕ}
use Rattle.std.specs.List.{list_any}
use Rattle.raft_values.specs.declared.vote.Vote.{Vote}
use Rattle.raft_values.specs.declared.log_id.LogId.{LogId}
use Rattle.raft_group_step.specs.Values.{is_written_by}
use Rattle.raft_group_step.specs.StoredGroup.{end_place}
use Rattle.raft_engine.proofs.AppendLemmas.{leads_now}
use Rattle.raft_engine.proofs.WrittenLemmas.{none_written}
use Rattle.raft_engine.proofs.engine.Engine.has_written.Goals as goal

pub returns-then-end-noop_log_id : goal.returns-then-end-noop_log_id
returns-then-end-noop_log_id g c = λ x own r lead step leads.
    let l = c.in-Some.leader in
    let s = r.state.stored in
    let now = leads_now x own c.args.self.now r step lead leads l c.in-Some.is in
    let ends = c.end.ensures s step.state.knows step.state.order.placed in
    let behind : end_place s ≤ l.noop_log_id.index =
    subst (λ n. n ≤ l.noop_log_id.index) ends (subst (λ (id : LogId ℕ). c.end.result ≤ id.index) c.noop_log_id.ensures c.if-end-noop_log_id.true) in
    let none = none_written l.vote.leader_id l.noop_log_id.index s step.state.order.placed behind now.wrote in
    sym none ∙ ap (λ (v : Vote ℕ). list_any (is_written_by v.leader_id) s.log) now.vote

pub returns : goal.returns
returns g c = λ x own r lead step leads.
    let s = r.state.stored in
    let now = leads_now x own c.args.self.now r step lead leads c.in-Some.leader c.in-Some.is in
    c.is_written_by_leader.ensures s step.state.knows step.state.order.placed
    ∙ ap (λ (v : Vote ℕ). list_any (is_written_by v.leader_id) s.log) (c.vote_ref.ensures ∙ now.vote)
