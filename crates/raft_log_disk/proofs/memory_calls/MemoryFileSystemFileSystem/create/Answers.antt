use Rattle.std.proofs.Common.{false, inl, refl, ap, ◌∙◌}
use Rattle.std.specs.String.{string_bytes}
use Rattle.raft_log_disk.proofs.FilesLemmas.{still_pushed, created}
use Rattle.raft_log_disk.proofs.RisingLemmas.{pushed_rising}
use Rattle.raft_log_disk.proofs.CauseLemmas.{at_err}
use Rattle.raft_log_disk.proofs.EndLemmas.{IsSpent, at_end, memory_call, memory_cause, not_blown, not_given, one_call, refused_by, refused_call, refused_cause, refused_free}
use Rattle.raft_log_disk.proofs.memory_calls.MemoryFileSystemFileSystem.create.Goals as goal

pub invariant_of-self : goal.invariant_of-self
invariant_of-self c = record { named = c.args.self.now.named; rising = c.args.self.now.rising }

pub invariant_of-self-then-self : goal.invariant_of-self-then-self
invariant_of-self-then-self c = record { named = c.args.self.now.named; rising = c.args.self.now.rising }

pub invariant_of-self-then-not-has_directory : goal.invariant_of-self-then-not-has_directory
invariant_of-self-then-not-has_directory c = record { named = c.args.self.now.named; rising = c.args.self.now.rising }

pub invariant_of-self-in-Break-1 : goal.invariant_of-self-in-Break-1
invariant_of-self-in-Break-1 c = record { named = c.args.self.now.named; rising = c.args.self.now.rising }

pub invariant_of-self-2 : goal.invariant_of-self-2
invariant_of-self-2 c = record {
  named = still_pushed _ _ _ _ _ c.args.self.now.named c.in_ok-push.ensures.items c.new.ensures.number (ap string_bytes c.new.ensures.path ∙ c.in_ok-path.ensures.ok) c.requires;
  rising = pushed_rising _ _ _ _ _ c.args.self.now.named c.args.self.now.rising c.in_ok-push.ensures.items c.new.ensures.number (ap string_bytes c.new.ensures.path ∙ c.in_ok-path.ensures.ok);
}

pub returns-then-spend : goal.returns-then-spend
returns-then-spend c =
    let spend : IsSpent c.args.self.now.fuse c.spend.new.self = record { left = c.spend.ensures.left; refusals = c.spend.ensures.refusals; lacks = c.spend.ensures.lacks; reads = c.spend.ensures.reads } in
    let by = refused_by c.args.self.now.fuse c.spend.new.self c.refuse.new.self spend c.refuse.ensures.left c.refuse.ensures.counted c.refuse.ensures.lacks c.refuse.ensures.reads in
    record {
      ok = tt;
      err = inl refl;
      unchanged = refused_free _ c.refuse.result c.refuse.ensures.refused;
      cause = refused_cause false _ _ c.args.self.now.fuse c.refuse.new.self c.refuse.result c.refuse.ensures.refused by;
      call = refused_call _ c.args.self.now.fuse c.refuse.new.self c.refuse.result c.refuse.ensures.refused by (inl (c.spend.ensures.only c.if-spend.true));
      bound = λ b. b;
    }

pub returns-then-self-clause-ok : goal.returns-then-self-clause-ok
returns-then-self-clause-ok c = tt

pub returns-then-self-clause-err : goal.returns-then-self-clause-err
returns-then-self-clause-err c = inl refl

pub returns-then-self-clause-unchanged : goal.returns-then-self-clause-unchanged
returns-then-self-clause-unchanged c = refused_free _ c.refuse-then-self.result c.refuse-then-self.ensures.refused

pub returns-then-self-clause-cause : goal.returns-then-self-clause-cause
returns-then-self-clause-cause c =
    let spend : IsSpent c.args.self.now.fuse c.spend.new.self = record { left = c.spend.ensures.left; refusals = c.spend.ensures.refusals; lacks = c.spend.ensures.lacks; reads = c.spend.ensures.reads } in
    let by = refused_by c.args.self.now.fuse c.spend.new.self c.refuse-then-self.new.self spend c.refuse-then-self.ensures.left c.refuse-then-self.ensures.counted c.refuse-then-self.ensures.lacks c.refuse-then-self.ensures.reads in
    refused_cause false _ _ c.args.self.now.fuse c.refuse-then-self.new.self c.refuse-then-self.result c.refuse-then-self.ensures.refused by

pub returns-then-self-clause-bound : goal.returns-then-self-clause-bound
returns-then-self-clause-bound c = λ b. b

pub returns-then-not-has_directory-clause-ok : goal.returns-then-not-has_directory-clause-ok
returns-then-not-has_directory-clause-ok c = tt

pub returns-then-not-has_directory-clause-err : goal.returns-then-not-has_directory-clause-err
returns-then-not-has_directory-clause-err c = inl refl

pub returns-then-not-has_directory-clause-unchanged : goal.returns-then-not-has_directory-clause-unchanged
returns-then-not-has_directory-clause-unchanged c = refl

pub returns-then-not-has_directory-clause-call : goal.returns-then-not-has_directory-clause-call
returns-then-not-has_directory-clause-call c =
    let spend : IsSpent c.args.self.now.fuse c.spend.new.self = record { left = c.spend.ensures.left; refusals = c.spend.ensures.refusals; lacks = c.spend.ensures.lacks; reads = c.spend.ensures.reads } in
    one_call _ c.args.self.now.fuse c.spend.new.self _ spend (not_blown _ c.spend.ensures.blown c.if-spend.false) (λ x. absurd cc) (λ x. refl)

pub returns-then-not-has_directory-clause-bound : goal.returns-then-not-has_directory-clause-bound
returns-then-not-has_directory-clause-bound c = λ b. b

pub returns-in_err-path : goal.returns-in_err-path
returns-in_err-path c =
    let spend : IsSpent c.args.self.now.fuse c.spend.new.self = record { left = c.spend.ensures.left; refusals = c.spend.ensures.refusals; lacks = c.spend.ensures.lacks; reads = c.spend.ensures.reads } in
    record {
      ok = not_given _ _ c.from_residual.result c.from_residual.ensures.1;
      err = at_err c.from_residual.result _ (inl refl);
      unchanged = at_end c.from_residual.result _ refl;
      cause = memory_cause false _ _ c.args.self.now.fuse c.spend.new.self c.from_residual.result c.from_residual.ensures.1 spend;
      call = memory_call _ c.args.self.now.fuse c.spend.new.self c.from_residual.result c.from_residual.ensures.1 spend (not_blown _ c.spend.ensures.blown c.if-spend.false);
      bound = λ b. b;
    }

pub returns-in_err-push-clause-ok : goal.returns-in_err-push-clause-ok
returns-in_err-push-clause-ok c = not_given _ _ c.from_residual-in_err-push.result c.from_residual-in_err-push.ensures.1

pub returns-in_err-push-clause-cause : goal.returns-in_err-push-clause-cause
returns-in_err-push-clause-cause c =
    let spend : IsSpent c.args.self.now.fuse c.spend.new.self = record { left = c.spend.ensures.left; refusals = c.spend.ensures.refusals; lacks = c.spend.ensures.lacks; reads = c.spend.ensures.reads } in
    memory_cause false _ _ c.args.self.now.fuse c.spend.new.self c.from_residual-in_err-push.result c.from_residual-in_err-push.ensures.1 spend

pub returns-in_err-push-clause-call : goal.returns-in_err-push-clause-call
returns-in_err-push-clause-call c =
    let spend : IsSpent c.args.self.now.fuse c.spend.new.self = record { left = c.spend.ensures.left; refusals = c.spend.ensures.refusals; lacks = c.spend.ensures.lacks; reads = c.spend.ensures.reads } in
    memory_call _ c.args.self.now.fuse c.spend.new.self c.from_residual-in_err-push.result c.from_residual-in_err-push.ensures.1 spend (not_blown _ c.spend.ensures.blown c.if-spend.false)

pub returns-in_err-push-clause-bound : goal.returns-in_err-push-clause-bound
returns-in_err-push-clause-bound c = λ b. b

pub returns-clause-ok : goal.returns-clause-ok
returns-clause-ok c = (refl, created _ _ _ _ _ _ c.args.self.now.named c.in_ok-push.ensures.items c.new.ensures.number (ap string_bytes c.new.ensures.path ∙ c.in_ok-path.ensures.ok) c.new.ensures.state)

pub returns-clause-err : goal.returns-clause-err
returns-clause-err c = tt

pub returns-clause-unchanged : goal.returns-clause-unchanged
returns-clause-unchanged c = tt

pub returns-clause-bound : goal.returns-clause-bound
returns-clause-bound c = λ b. b
