use Rattle.std.proofs.Common.{◌-◌, ◌∙◌, ap}
use Rattle.raft_machines.specs.Telling.{untold_of}
use Rattle.raft_applier.proofs.Tokens.{without_last}
use Rattle.raft_applier.proofs.applier.Applier.give_back_token.Goals as goal

pub returns : goal.returns
returns g c = λ s x caught. record {
  folded = caught.folded;
  last = caught.last;
  lead = caught.lead;
  waiting = ap untold_of c.truncate.ensures ∙ without_last c.args.self.now.applied.waiting s.untold x c.without_one-kept.result (c.without_one-kept.ensures ∙ ap (λ n. n - 1) c.len.ensures) caught.waiting;
}
