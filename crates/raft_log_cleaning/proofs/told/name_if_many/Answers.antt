-- A group is named just where it has so many entries.
use Rattle.std.proofs.Common.{Bool, true, sym, ap, ◌∙◌}
use Rattle.std.specs.Prelude.{if◌then◌else◌}
use Rattle.std.proofs.lemmas.Bool.{false≢true}
use Rattle.raft_log_cleaning.specs.Told.{is_named}
use Rattle.raft_log_cleaning.proofs.Named.{same_number}
use Rattle.raft_log_cleaning.proofs.told.name_if_many.Goals as goal

pub returns-then-not-has_many_rewritten-clause-own : goal.returns-then-not-has_many_rewritten-clause-own
returns-then-not-has_many_rewritten-clause-own c = λ fresh. record {
  count = c.rewritten_of-rewritten.result;
  are = c.rewritten_of-rewritten.ensures;
  many = (λ told. absurd (false≢true (sym fresh ∙ told)), λ large. absurd (false≢true (sym c.if-not-has_many_rewritten.true ∙ c.has_many_rewritten.ensures.1 large)));
}

pub returns-clause-others : goal.returns-clause-others
returns-clause-others c = λ other apart. c.in_ok-name.ensures other ∙ ap (λ (b : Bool). if b then true else is_named c.args.named.now other) apart

pub returns-clause-own : goal.returns-clause-own
returns-clause-own c = λ fresh. record {
  count = c.rewritten_of-rewritten.result;
  are = c.rewritten_of-rewritten.ensures;
  many = (λ told. c.has_many_rewritten.ensures.0 c.if-not-has_many_rewritten.false, λ large. c.in_ok-name.ensures c.args.group ∙ ap (λ (b : Bool). if b then true else is_named c.args.named.now c.args.group) (same_number c.args.group));
}
