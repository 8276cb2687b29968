use Rattle.std.proofs.Common.{false, inl, inr, refl, sym, subst, ◌∙◌}
use Rattle.raft_log_disk.specs.Disk.{IsIn}
use Rattle.raft_log_disk.specs.Memory.{texts_of}
use Rattle.raft_log_disk.proofs.FilesLemmas.{in_pushed}
use Rattle.raft_log_disk.proofs.CauseLemmas.{at_err}
use Rattle.raft_log_disk.proofs.EndLemmas.{IsSpent, at_end, call_cause, memory_call, memory_cause, not_blown, not_ok, one_call, refused_by, refused_call, refused_cause, refused_free}
use Rattle.raft_log_disk.proofs.memory_calls.MemoryFileSystemFileSystem.make_dir.Goals as goal

pub invariant_of-self : goal.invariant_of-self
invariant_of-self c = record { named = c.args.self.now.named; rising = c.args.self.now.rising }

pub invariant_of-self-else-spend : goal.invariant_of-self-else-spend
invariant_of-self-else-spend c = record { named = c.args.self.now.named; rising = c.args.self.now.rising }

pub invariant_of-self-then-has_file : goal.invariant_of-self-then-has_file
invariant_of-self-then-has_file c = record { named = c.args.self.now.named; rising = c.args.self.now.rising }

pub returns-then-spend : goal.returns-then-spend
returns-then-spend c =
    let spend : IsSpent c.args.self.now.fuse c.spend.new.self = record { left = c.spend.ensures.left; refusals = c.spend.ensures.refusals; lacks = c.spend.ensures.lacks; reads = c.spend.ensures.reads } in
    let by = refused_by c.args.self.now.fuse c.spend.new.self c.refuse.new.self spend c.refuse.ensures.left c.refuse.ensures.counted c.refuse.ensures.lacks c.refuse.ensures.reads in
    record {
      ok = tt;
      dirs = inl refl;
      unchanged = refused_free _ c.refuse.result c.refuse.ensures.refused;
      cause = refused_cause false _ _ c.args.self.now.fuse c.refuse.new.self c.refuse.result c.refuse.ensures.refused by;
      call = refused_call _ c.args.self.now.fuse c.refuse.new.self c.refuse.result c.refuse.ensures.refused by (inl (c.spend.ensures.only c.if-spend.true));
      bound = λ b. b;
    }

pub returns-then-has_file : goal.returns-then-has_file
returns-then-has_file c =
    let spend : IsSpent c.args.self.now.fuse c.spend.new.self = record { left = c.spend.ensures.left; refusals = c.spend.ensures.refusals; lacks = c.spend.ensures.lacks; reads = c.spend.ensures.reads } in
    let by = refused_by c.args.self.now.fuse c.spend.new.self c.refuse-then-has_file.new.self spend c.refuse-then-has_file.ensures.left c.refuse-then-has_file.ensures.counted c.refuse-then-has_file.ensures.lacks c.refuse-then-has_file.ensures.reads in
    record {
      ok = tt;
      dirs = inl refl;
      unchanged = refused_free _ c.refuse-then-has_file.result c.refuse-then-has_file.ensures.refused;
      cause = refused_cause false _ _ c.args.self.now.fuse c.refuse-then-has_file.new.self c.refuse-then-has_file.result c.refuse-then-has_file.ensures.refused by;
      call = refused_call _ c.args.self.now.fuse c.refuse-then-has_file.new.self c.refuse-then-has_file.result c.refuse-then-has_file.ensures.refused by (inr (sym c.has_file.ensures ∙ c.if-has_file.true));
      bound = λ b. b;
    }

pub returns-then-has_text : goal.returns-then-has_text
returns-then-has_text c =
    let spend : IsSpent c.args.self.now.fuse c.spend.new.self = record { left = c.spend.ensures.left; refusals = c.spend.ensures.refusals; lacks = c.spend.ensures.lacks; reads = c.spend.ensures.reads } in
    record {
      ok = subst (λ l. IsIn c.args.path.now (texts_of l)) c.deref.ensures.value (c.if-has_text.ensures.yes refl);
      dirs = inl refl;
      unchanged = tt;
      cause = call_cause false _ _ c.args.self.now.fuse c.spend.new.self _ spend (λ x. x) (λ x. x);
      call = one_call _ c.args.self.now.fuse c.spend.new.self _ spend (not_blown _ c.spend.ensures.blown c.if-spend.false) (λ x. absurd cc) (λ there. let no = c.if-has_file.false in let is = c.has_file.ensures in absurd cc);
      bound = λ b. b;
    }

pub returns-in_err-path : goal.returns-in_err-path
returns-in_err-path c =
    let spend : IsSpent c.args.self.now.fuse c.spend.new.self = record { left = c.spend.ensures.left; refusals = c.spend.ensures.refusals; lacks = c.spend.ensures.lacks; reads = c.spend.ensures.reads } in
    record {
      ok = not_ok _ _ c.from_residual.result c.from_residual.ensures.1;
      dirs = inl refl;
      unchanged = at_end c.from_residual.result _ (at_err c.from_residual.result _ refl);
      cause = memory_cause false _ _ c.args.self.now.fuse c.spend.new.self c.from_residual.result c.from_residual.ensures.1 spend;
      call = memory_call _ c.args.self.now.fuse c.spend.new.self c.from_residual.result c.from_residual.ensures.1 spend (not_blown _ c.spend.ensures.blown c.if-spend.false);
      bound = λ b. b;
    }

pub returns-in_err-push-clause-ok : goal.returns-in_err-push-clause-ok
returns-in_err-push-clause-ok c = not_ok _ _ c.from_residual-in_err-push.result c.from_residual-in_err-push.ensures.1

pub returns-in_err-push-clause-cause : goal.returns-in_err-push-clause-cause
returns-in_err-push-clause-cause c =
    let spend : IsSpent c.args.self.now.fuse c.spend.new.self = record { left = c.spend.ensures.left; refusals = c.spend.ensures.refusals; lacks = c.spend.ensures.lacks; reads = c.spend.ensures.reads } in
    memory_cause false _ _ c.args.self.now.fuse c.spend.new.self c.from_residual-in_err-push.result c.from_residual-in_err-push.ensures.1 spend

pub returns-in_err-push-clause-call : goal.returns-in_err-push-clause-call
returns-in_err-push-clause-call c =
    let spend : IsSpent c.args.self.now.fuse c.spend.new.self = record { left = c.spend.ensures.left; refusals = c.spend.ensures.refusals; lacks = c.spend.ensures.lacks; reads = c.spend.ensures.reads } in
    memory_call _ c.args.self.now.fuse c.spend.new.self c.from_residual-in_err-push.result c.from_residual-in_err-push.ensures.1 spend (not_blown _ c.spend.ensures.blown c.if-spend.false)

pub returns-in_err-push-clause-bound : goal.returns-in_err-push-clause-bound
returns-in_err-push-clause-bound c = λ b. b

pub returns-clause-ok : goal.returns-clause-ok
returns-clause-ok c = in_pushed _ _ _ _ c.in_ok-push.ensures.items c.in_ok-path.ensures.ok

pub returns-clause-unchanged : goal.returns-clause-unchanged
returns-clause-unchanged c = tt

pub returns-clause-cause : goal.returns-clause-cause
returns-clause-cause c =
    let spend : IsSpent c.args.self.now.fuse c.spend.new.self = record { left = c.spend.ensures.left; refusals = c.spend.ensures.refusals; lacks = c.spend.ensures.lacks; reads = c.spend.ensures.reads } in
    call_cause false _ _ c.args.self.now.fuse c.spend.new.self _ spend (λ x. x) (λ x. x)

pub returns-clause-call : goal.returns-clause-call
returns-clause-call c =
    let spend : IsSpent c.args.self.now.fuse c.spend.new.self = record { left = c.spend.ensures.left; refusals = c.spend.ensures.refusals; lacks = c.spend.ensures.lacks; reads = c.spend.ensures.reads } in
    one_call _ c.args.self.now.fuse c.spend.new.self _ spend (not_blown _ c.spend.ensures.blown c.if-spend.false) (λ x. absurd cc) (λ there. let no = c.if-has_file.false in let is = c.has_file.ensures in absurd cc)

pub returns-clause-bound : goal.returns-clause-bound
returns-clause-bound c = λ b. b
