use Rattle.std.proofs.Common.{false, inl, inr, refl, ap, subst, ◌∙◌}
use Rattle.std.specs.String.{string_bytes}
use Rattle.raft_log_disk.specs.Disk.{IsIn}
use Rattle.raft_log_disk.specs.Memory.{texts_of}
use Rattle.raft_log_disk.proofs.FilesLemmas.{still_moved}
use Rattle.raft_log_disk.proofs.RisingLemmas.{moved_rising}
use Rattle.raft_log_disk.proofs.CauseLemmas.{at_err}
use Rattle.raft_log_disk.proofs.EndLemmas.{IsSpent, at_end, memory_call, memory_cause, missing_cause, not_blown, not_ok, one_call, refused_by, refused_call, refused_cause, refused_free}
use Rattle.raft_log_disk.proofs.memory_calls.MemoryFileSystemFileSystem.rename.Goals as goal

pub invariant_of-self : goal.invariant_of-self
invariant_of-self c = record { named = c.args.self.now.named; rising = c.args.self.now.rising }

pub invariant_of-self-then-has_text : goal.invariant_of-self-then-has_text
invariant_of-self-then-has_text c = record { named = c.args.self.now.named; rising = c.args.self.now.rising }

pub invariant_of-self-else-has_text : goal.invariant_of-self-else-has_text
invariant_of-self-else-has_text c = record { named = c.args.self.now.named; rising = c.args.self.now.rising }

pub invariant_of-self-2 : goal.invariant_of-self-2
invariant_of-self-2 c = record {
  named = still_moved _ _ _ _ _ _ _ c.args.self.now.named c.in-Some.ensures c.index_mut.ensures.value c.rename.ensures.number (ap string_bytes c.rename.ensures.path ∙ c.in_ok-to.ensures.ok) c.requires;
  rising = moved_rising _ _ _ _ _ c.args.self.now.rising c.in-Some.ensures c.index_mut.ensures.value c.rename.ensures.number;
}

pub returns-then-spend : goal.returns-then-spend
returns-then-spend c =
    let spend : IsSpent c.args.self.now.fuse c.spend.new.self = record { left = c.spend.ensures.left; refusals = c.spend.ensures.refusals; lacks = c.spend.ensures.lacks; reads = c.spend.ensures.reads } in
    let by = refused_by c.args.self.now.fuse c.spend.new.self c.refuse.new.self spend c.refuse.ensures.left c.refuse.ensures.counted c.refuse.ensures.lacks c.refuse.ensures.reads in
    record {
      ok = tt;
      err = inl refl;
      unchanged = refused_free _ c.refuse.result c.refuse.ensures.refused;
      cause = refused_cause false _ _ c.args.self.now.fuse c.refuse.new.self c.refuse.result c.refuse.ensures.refused by;
      call = refused_call _ c.args.self.now.fuse c.refuse.new.self c.refuse.result c.refuse.ensures.refused by (inl (c.spend.ensures.only c.if-spend.true));
      bound = λ b. b;
    }

pub returns-then-has_text : goal.returns-then-has_text
returns-then-has_text c =
    let spend : IsSpent c.args.self.now.fuse c.spend.new.self = record { left = c.spend.ensures.left; refusals = c.spend.ensures.refusals; lacks = c.spend.ensures.lacks; reads = c.spend.ensures.reads } in
    let by = refused_by c.args.self.now.fuse c.spend.new.self c.refuse-then-has_text.new.self spend c.refuse-then-has_text.ensures.left c.refuse-then-has_text.ensures.counted c.refuse-then-has_text.ensures.lacks c.refuse-then-has_text.ensures.reads in
    record {
      ok = tt;
      err = inl refl;
      unchanged = refused_free _ c.refuse-then-has_text.result c.refuse-then-has_text.ensures.refused;
      cause = refused_cause false _ _ c.args.self.now.fuse c.refuse-then-has_text.new.self c.refuse-then-has_text.result c.refuse-then-has_text.ensures.refused by;
      call = refused_call _ c.args.self.now.fuse c.refuse-then-has_text.new.self c.refuse-then-has_text.result c.refuse-then-has_text.ensures.refused by (inr (subst (λ l. IsIn c.args.to.now (texts_of l)) c.deref.ensures.value (c.if-has_text.ensures.yes refl)));
      bound = λ b. b;
    }

pub returns-in_default : goal.returns-in_default
returns-in_default c =
    let spend : IsSpent c.args.self.now.fuse c.spend.new.self = record { left = c.spend.ensures.left; refusals = c.spend.ensures.refusals; lacks = c.spend.ensures.lacks; reads = c.spend.ensures.reads } in
    record {
      ok = tt;
      err = inl refl;
      unchanged = refl;
      cause = missing_cause false _ _ c.args.self.now.fuse c.spend.new.self spend (inl c.in_default.ensures);
      call = one_call _ c.args.self.now.fuse c.spend.new.self _ spend (not_blown _ c.spend.ensures.blown c.if-spend.false) (λ x. absurd cc) (λ x. refl);
      bound = λ b. b;
    }

pub returns-then-not-has_directory-clause-ok : goal.returns-then-not-has_directory-clause-ok
returns-then-not-has_directory-clause-ok c = tt

pub returns-then-not-has_directory-clause-err : goal.returns-then-not-has_directory-clause-err
returns-then-not-has_directory-clause-err c = inl refl

pub returns-then-not-has_directory-clause-unchanged : goal.returns-then-not-has_directory-clause-unchanged
returns-then-not-has_directory-clause-unchanged c = refl

pub returns-then-not-has_directory-clause-call : goal.returns-then-not-has_directory-clause-call
returns-then-not-has_directory-clause-call c =
    let spend : IsSpent c.args.self.now.fuse c.spend.new.self = record { left = c.spend.ensures.left; refusals = c.spend.ensures.refusals; lacks = c.spend.ensures.lacks; reads = c.spend.ensures.reads } in
    one_call _ c.args.self.now.fuse c.spend.new.self _ spend (not_blown _ c.spend.ensures.blown c.if-spend.false) (λ x. absurd cc) (λ x. refl)

pub returns-then-not-has_directory-clause-bound : goal.returns-then-not-has_directory-clause-bound
returns-then-not-has_directory-clause-bound c = λ b. b

pub returns-in_err-to : goal.returns-in_err-to
returns-in_err-to c =
    let spend : IsSpent c.args.self.now.fuse c.spend.new.self = record { left = c.spend.ensures.left; refusals = c.spend.ensures.refusals; lacks = c.spend.ensures.lacks; reads = c.spend.ensures.reads } in
    record {
      ok = not_ok _ _ c.from_residual.result c.from_residual.ensures.1;
      err = at_err c.from_residual.result _ (inl refl);
      unchanged = at_end c.from_residual.result _ refl;
      cause = memory_cause false _ _ c.args.self.now.fuse c.spend.new.self c.from_residual.result c.from_residual.ensures.1 spend;
      call = memory_call _ c.args.self.now.fuse c.spend.new.self c.from_residual.result c.from_residual.ensures.1 spend (not_blown _ c.spend.ensures.blown c.if-spend.false);
      bound = λ b. b;
    }

pub returns-in_err-front : goal.returns-in_err-front
returns-in_err-front c =
    let spend : IsSpent c.args.self.now.fuse c.spend.new.self = record { left = c.spend.ensures.left; refusals = c.spend.ensures.refusals; lacks = c.spend.ensures.lacks; reads = c.spend.ensures.reads } in
    record {
      ok = not_ok _ _ c.from_residual-in_err-front.result c.from_residual-in_err-front.ensures.1;
      err = at_err c.from_residual-in_err-front.result _ (inl refl);
      unchanged = at_end c.from_residual-in_err-front.result _ refl;
      cause = memory_cause false _ _ c.args.self.now.fuse c.spend.new.self c.from_residual-in_err-front.result c.from_residual-in_err-front.ensures.1 spend;
      call = memory_call _ c.args.self.now.fuse c.spend.new.self c.from_residual-in_err-front.result c.from_residual-in_err-front.ensures.1 spend (not_blown _ c.spend.ensures.blown c.if-spend.false);
      bound = λ b. b;
    }

pub returns-clause-err : goal.returns-clause-err
returns-clause-err c = tt

pub returns-clause-unchanged : goal.returns-clause-unchanged
returns-clause-unchanged c = tt

pub returns-clause-bound : goal.returns-clause-bound
returns-clause-bound c = λ b. b
