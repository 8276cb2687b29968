use Rattle.std.proofs.Common.{false, inl, refl}
use Rattle.raft_log_disk.proofs.FilesLemmas.{still_without, deleted}
use Rattle.raft_log_disk.proofs.RisingLemmas.{without_rising}
use Rattle.raft_log_disk.proofs.EndLemmas.{IsSpent, call_cause, missing_cause, not_blown, one_call, refused_by, refused_call, refused_cause, refused_free}
use Rattle.raft_log_disk.proofs.memory_calls.MemoryFileSystemFileSystem.delete.Goals as goal

pub invariant_of-self : goal.invariant_of-self
invariant_of-self c = record { named = c.args.self.now.named; rising = c.args.self.now.rising }

pub invariant_of-self-else-spend : goal.invariant_of-self-else-spend
invariant_of-self-else-spend c = record { named = c.args.self.now.named; rising = c.args.self.now.rising }

pub invariant_of-self-2 : goal.invariant_of-self-2
invariant_of-self-2 c = record {
  named = still_without _ _ _ _ _ c.args.self.now.named c.in-Some.ensures c.remove.ensures.items;
  rising = without_rising _ _ _ _ c.args.self.now.rising c.in-Some.ensures c.remove.ensures.items;
}

pub returns-then-spend : goal.returns-then-spend
returns-then-spend c =
    let spend : IsSpent c.args.self.now.fuse c.spend.new.self = record { left = c.spend.ensures.left; refusals = c.spend.ensures.refusals; lacks = c.spend.ensures.lacks; reads = c.spend.ensures.reads } in
    let by = refused_by c.args.self.now.fuse c.spend.new.self c.refuse.new.self spend c.refuse.ensures.left c.refuse.ensures.counted c.refuse.ensures.lacks c.refuse.ensures.reads in
    record {
      ok = tt;
      err = inl refl;
      unchanged = refused_free _ c.refuse.result c.refuse.ensures.refused;
      cause = refused_cause false _ _ c.args.self.now.fuse c.refuse.new.self c.refuse.result c.refuse.ensures.refused by;
      call = refused_call _ c.args.self.now.fuse c.refuse.new.self c.refuse.result c.refuse.ensures.refused by (inl (c.spend.ensures.only c.if-spend.true));
      bound = λ b. b;
    }

pub returns-in_default : goal.returns-in_default
returns-in_default c =
    let spend : IsSpent c.args.self.now.fuse c.spend.new.self = record { left = c.spend.ensures.left; refusals = c.spend.ensures.refusals; lacks = c.spend.ensures.lacks; reads = c.spend.ensures.reads } in
    record {
      ok = tt;
      err = inl refl;
      unchanged = refl;
      cause = missing_cause false _ _ c.args.self.now.fuse c.spend.new.self spend (c.in_default.ensures);
      call = one_call _ c.args.self.now.fuse c.spend.new.self _ spend (not_blown _ c.spend.ensures.blown c.if-spend.false) (λ x. absurd cc) (λ x. refl);
      bound = λ b. b;
    }

pub returns : goal.returns
returns c =
    let spend : IsSpent c.args.self.now.fuse c.spend.new.self = record { left = c.spend.ensures.left; refusals = c.spend.ensures.refusals; lacks = c.spend.ensures.lacks; reads = c.spend.ensures.reads } in
    record {
      ok = deleted c.args.self.now.directories.items _ _ _ _ c.args.self.now.next c.remove.result c.in-Some.ensures c.remove.ensures.items;
      err = tt;
      unchanged = tt;
      cause = call_cause false _ _ c.args.self.now.fuse c.spend.new.self _ spend (λ none. let some = c.in-Some.ensures.found c.remove.result in absurd cc) (λ x. x);
      call = one_call _ c.args.self.now.fuse c.spend.new.self _ spend (not_blown _ c.spend.ensures.blown c.if-spend.false) (λ x. absurd cc) (λ x. absurd x);
      bound = λ b. b;
    }
