use Rattle.std.proofs.Common.{refl}
use Rattle.raft_progress.proofs.ValuesLemmas.{within, value_found, with_found, has_found, with_missing, has_missing}
use Rattle.raft_progress.proofs.entries.place.Goals as goal

pub returns-in-Some : goal.returns-in-Some
returns-in-Some g c = record {
  has = has_found g.ID.PartialEq.eq c.args.id.now c.args.entries.now c.in-Some.at c.in-Some.ensures;
  within = within g.ID.PartialEq.eq c.args.id.now c.args.entries.now c.in-Some.at c.in-Some.ensures;
  value = λ x. value_found g.ID.PartialEq.eq c.args.id.now c.args.entries.now c.in-Some.at x c.in-Some.ensures;
  with_value = λ x v. with_found g.ID.PartialEq.eq c.args.id.now c.args.entries.now c.in-Some.at x v c.in-Some.ensures;
  without = tt;
}

pub returns-in-None : goal.returns-in-None
returns-in-None g c = record {
  has = has_missing g.ID.PartialEq.eq c.args.id.now c.args.entries.now c.in-None.ensures;
  within = tt;
  value = tt;
  with_value = tt;
  without = λ v. with_missing g.ID.PartialEq.eq c.args.id.now c.args.entries.now v c.in-None.ensures;
}
