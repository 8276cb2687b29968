-- One more node is told.
use Rattle.std.proofs.Common.{suc, ◌≡◌, ◌∙◌, ◌+◌, ◌∷◌, ◌++◌, [], ap, sym, take, get_or, arith}
use Rattle.std.proofs.lemmas.List.{take_all}
use Rattle.std.proofs.Math.Seq.{take-suc}
use Rattle.raft_group_step.specs.GroupState.{GroupState}
use Rattle.raft_group_step.specs.Heartbeat.{send_notices}
use Rattle.raft_engine.proofs.ReplicationLemmas.{tell_one_more, told_state}
use Rattle.raft_engine.proofs.engine.Engine.send_notices.Goals as goal

pub loop-n-preserved : goal.loop-n-preserved
loop-n-preserved g c = (
  c.notice.ensures.leader ∙ c.loop-n.invariant.0,
  λ x own r lead step is_lead.
      let ids = c.args.ids.now in
      let i = c.loop-n.n-index in
      let so_far = send_notices own lead (take i ids) r in
      let next : take (i + 1) ids ≡ take i ids ++ get_or ids i 0 ∷ [] = (let at : i + 1 ≡ suc i = omega arith in ap (λ k. take k ids) at) ∙ take-suc ids i 0 c.loop-n-test.true in
      rw (ap (λ ns. send_notices own lead ns r) next ∙ tell_one_more own lead (take i ids) (get_or ids i 0) r)
      (c.in_ok-notice.ensures.step x own so_far lead (c.loop-n.invariant.1 x own r lead step is_lead) (ap (λ (s : GroupState). s.role) (told_state own lead (take i ids) r) ∙ is_lead)),
)

pub returns-clause-step : goal.returns-clause-step
returns-clause-step g c = λ x own r lead step is_lead.
    rw (sym (take_all c.loop-n.n-index c.args.ids.now (omega (arith, c.loop-n-test.false)))) (c.loop-n.invariant.1 x own r lead step is_lead)
