use Rattle.std.proofs.Common.{◌∙◌, ap}
use Rattle.raft_group_step.specs.StoredGroup.{end_place}
use Rattle.raft_machines.specs.Telling.{untold_of}
use Rattle.raft_log_ids.proofs.GrowthLemmas.{on_err}
use Rattle.raft_applier.proofs.Tokens.{one_more}
use Rattle.raft_applier.proofs.applier.Applier.take_token.Goals as goal

pub returns-clause-ok : goal.returns-clause-ok
returns-clause-ok g c = λ e s has idle low caught. record {
  folded = caught.folded;
  last = caught.last;
  lead = caught.lead;
  waiting =
      ap untold_of c.in_ok-push.ensures.ok
      ∙ one_more c.args.self.now.applied.waiting s.untold c.args.token c.next_place_of-place.result (end_place s.stored) caught.waiting (c.next_place_of-place.ensures e s has idle low);
}

pub returns-in_err-push-clause-err : goal.returns-in_err-push-clause-err
returns-in_err-push-clause-err g c = λ s caught. on_err c.from_residual.result (record {
  folded = caught.folded;
  last = caught.last;
  lead = caught.lead;
  waiting = ap untold_of c.in_err-push.ensures.err ∙ caught.waiting;
})
