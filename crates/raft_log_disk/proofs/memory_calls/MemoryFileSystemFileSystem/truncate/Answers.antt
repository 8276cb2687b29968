use Rattle.std.proofs.Common.{false, inl, ◌≡◌, ◌+◌, ◌-◌, length, arith, refl, sym, ap, subst, ◌^◌, min, ◌∙◌}
use Rattle.raft_log_disk.specs.Disk.{LacksRoom, after_truncate, resized}
use Rattle.raft_log_disk.specs.Memory.{file_of}
use Rattle.raft_log_disk.specs.MemorySystem.{disk_in, room_in}
use Rattle.raft_log_disk.proofs.CauseLemmas.{at_err, cramped_cause}
use Rattle.raft_log_disk.proofs.EndLemmas.{IsSpent, absent_call, absent_cause, at_end, at_fault, call_cause, cramped_call, memory_call, memory_cause, not_blown, not_ok, noted_or_kept, one_call, read_alike, refused_by, refused_call, refused_cause, refused_free}
use Rattle.raft_log_disk.proofs.FilesLemmas.{file_changed, file_kept, length_there, number_there, refused_truncate_noted, still_named}
use Rattle.raft_log_disk.proofs.RisingLemmas.{still_rising}
use Rattle.raft_log_disk.proofs.memory_calls.MemoryFileSystemFileSystem.truncate.Goals as goal

pub invariant_of-self : goal.invariant_of-self
invariant_of-self c = record { named = c.args.self.now.named; rising = c.args.self.now.rising }

pub invariant_of-self-in_default : goal.invariant_of-self-in_default
invariant_of-self-in_default c = record { named = c.args.self.now.named; rising = c.args.self.now.rising }

pub invariant_of-self-then-is_refused : goal.invariant_of-self-then-is_refused
invariant_of-self-then-is_refused c = record {
  named = still_named c.args.self.now.files.items c.args.fd.0 c.in-Some.i c.args.self.now.next c.index_mut.result.now c.refuse_truncate.new.self c.args.self.now.named c.in-Some.ensures c.index_mut.ensures.value c.refuse_truncate.ensures.number c.refuse_truncate.ensures.path;
  rising = still_rising c.args.self.now.files.items c.args.fd.0 c.in-Some.i c.index_mut.result.now c.refuse_truncate.new.self c.args.self.now.rising c.in-Some.ensures c.index_mut.ensures.value c.refuse_truncate.ensures.number c.refuse_truncate.ensures.path;
}

pub invariant_of-self-then-is_cramped : goal.invariant_of-self-then-is_cramped
invariant_of-self-then-is_cramped c = record { named = c.args.self.now.named; rising = c.args.self.now.rising }

pub invariant_of-self-2 : goal.invariant_of-self-2
invariant_of-self-2 c = record {
  named = still_named c.args.self.now.files.items c.args.fd.0 c.in-Some.i c.args.self.now.next c.index_mut-2.result.now c.truncate.new.self c.args.self.now.named c.in-Some.ensures c.index_mut-2.ensures.value c.truncate.ensures.number c.truncate.ensures.path;
  rising = still_rising c.args.self.now.files.items c.args.fd.0 c.in-Some.i c.index_mut-2.result.now c.truncate.new.self c.args.self.now.rising c.in-Some.ensures c.index_mut-2.ensures.value c.truncate.ensures.number c.truncate.ensures.path;
}

pub is_cramped-requires : goal.is_cramped-requires
is_cramped-requires c = c.in-Some.ensures.within

pub returns-in_default : goal.returns-in_default
returns-in_default c =
    let spend : IsSpent c.args.self.now.fuse c.spend-is_refused.new.self = record { left = c.spend-is_refused.ensures.left; refusals = c.spend-is_refused.ensures.refusals; lacks = c.spend-is_refused.ensures.lacks; reads = c.spend-is_refused.ensures.reads } in
    record {
      ok = tt;
      err = inl refl;
      unchanged = at_fault c.missing.result _ refl;
      cause = absent_cause false _ _ c.spend-is_refused.result c.args.self.now.fuse c.spend-is_refused.new.self c.missing.new.self c.missing.result c.missing.ensures.fault spend c.missing.ensures.left c.missing.ensures.counted c.missing.ensures.lacks c.missing.ensures.reads c.in_default.ensures;
      call = absent_call _ c.spend-is_refused.result c.args.self.now.fuse c.spend-is_refused.new.self c.missing.new.self c.missing.result c.missing.ensures.fault spend c.missing.ensures.left c.spend-is_refused.ensures.blown c.spend-is_refused.ensures.only;
      bound = λ b. b;
    }

pub returns-then-is_refused : goal.returns-then-is_refused
returns-then-is_refused c =
    let spend : IsSpent c.args.self.now.fuse c.spend-is_refused.new.self = record { left = c.spend-is_refused.ensures.left; refusals = c.spend-is_refused.ensures.refusals; lacks = c.spend-is_refused.ensures.lacks; reads = c.spend-is_refused.ensures.reads } in
    let by = refused_by c.args.self.now.fuse c.spend-is_refused.new.self c.refuse.new.self spend c.refuse.ensures.left c.refuse.ensures.counted c.refuse.ensures.lacks c.refuse.ensures.reads in
    record {
      ok = tt;
      err = noted_or_kept c.refuse_truncate.result _ _ _ _ (file_kept c.args.self.now.directories.items c.args.self.now.files.items c.args.fd.0 c.in-Some.i c.args.self.now.next c.index_mut.result.now c.refuse_truncate.new.self c.in-Some.ensures c.index_mut.ensures.value c.refuse_truncate.ensures.number c.refuse_truncate.ensures.path)
          (refused_truncate_noted c.args.self.now.directories.items c.args.self.now.files.items c.args.fd.0 c.in-Some.i c.args.self.now.next c.args.len c.index_mut.result.now c.refuse_truncate.new.self c.in-Some.ensures c.index_mut.ensures.value c.refuse_truncate.ensures.number c.refuse_truncate.ensures.path)
          c.refuse_truncate.ensures.ok c.refuse_truncate.ensures.err;
      unchanged = refused_free _ c.refuse.result c.refuse.ensures.refused;
      cause = refused_cause false _ _ c.args.self.now.fuse c.refuse.new.self c.refuse.result c.refuse.ensures.refused by;
      call = refused_call _ c.args.self.now.fuse c.refuse.new.self c.refuse.result c.refuse.ensures.refused by (inl (c.spend-is_refused.ensures.only c.if-is_refused.true));
      bound = λ b. b;
    }

pub returns-then-is_cramped : goal.returns-then-is_cramped
returns-then-is_cramped c =
    let spend : IsSpent c.args.self.now.fuse c.spend-is_refused.new.self = record { left = c.spend-is_refused.ensures.left; refusals = c.spend-is_refused.ensures.refusals; lacks = c.spend-is_refused.ensures.lacks; reads = c.spend-is_refused.ensures.reads } in
    let there = length_there _ _ _ _ c.in-Some.ensures c.index.ensures in
    let growth : c.saturating_sub-growth.result ≡ c.args.len - length (file_of c.args.self.now.files.items c.args.fd.0).bytes = omega (arith, there, c.saturating_sub-growth.ensures, c.len.ensures) in
    record {
      ok = tt;
      err = inl refl;
      unchanged = at_fault c.lack_room.result _ refl;
      cause = cramped_cause false _ _ _ _ _ c.lack_room.ensures.fault (c.lack_room.ensures.counted ∙ ap (λ n. min (n + 1) (2 ^ 64 - 1)) spend.refusals) (c.lack_room.ensures.lacks ∙ spend.lacks) (read_alike c.args.self.now.fuse c.lack_room.new.self (c.lack_room.ensures.reads ∙ spend.reads))
          (subst (LacksRoom (room_in c.args.self.now) (disk_in c.args.self.now) c.args.fd.0) growth (c.if-is_cramped.ensures.yes refl c.args.fd.0 c.in-Some.ensures));
      call = cramped_call _ c.args.self.now.fuse c.spend-is_refused.new.self c.lack_room.new.self c.lack_room.result c.lack_room.ensures.fault spend c.lack_room.ensures.left (not_blown _ c.spend-is_refused.ensures.blown c.if-is_refused.false);
      bound = λ b. b;
    }

pub returns-in_err-truncate : goal.returns-in_err-truncate
returns-in_err-truncate c =
    let spend : IsSpent c.args.self.now.fuse c.spend-is_refused.new.self = record { left = c.spend-is_refused.ensures.left; refusals = c.spend-is_refused.ensures.refusals; lacks = c.spend-is_refused.ensures.lacks; reads = c.spend-is_refused.ensures.reads } in
    let kept = file_kept c.args.self.now.directories.items c.args.self.now.files.items c.args.fd.0 c.in-Some.i c.args.self.now.next c.index_mut-2.result.now c.truncate.new.self c.in-Some.ensures c.index_mut-2.ensures.value c.in_err-truncate.ensures.number c.in_err-truncate.ensures.path c.in_err-truncate.ensures.err in
    record {
      ok = not_ok _ _ c.from_residual.result c.from_residual.ensures.1;
      err = at_err c.from_residual.result _ (inl kept);
      unchanged = at_end c.from_residual.result _ kept;
      cause = memory_cause false _ _ c.args.self.now.fuse c.spend-is_refused.new.self c.from_residual.result c.from_residual.ensures.1 spend;
      call = memory_call _ c.args.self.now.fuse c.spend-is_refused.new.self c.from_residual.result c.from_residual.ensures.1 spend (not_blown _ c.spend-is_refused.ensures.blown c.if-is_refused.false);
      bound = λ b. b;
    }

pub returns : goal.returns
returns c =
    let spend : IsSpent c.args.self.now.fuse c.spend-is_refused.new.self = record { left = c.spend-is_refused.ensures.left; refusals = c.spend-is_refused.ensures.refusals; lacks = c.spend-is_refused.ensures.lacks; reads = c.spend-is_refused.ensures.reads } in
    let there = length_there _ _ _ _ c.in-Some.ensures c.index.ensures in
    let growth : c.saturating_sub-growth.result ≡ c.args.len - length (file_of c.args.self.now.files.items c.args.fd.0).bytes = omega (arith, there, c.saturating_sub-growth.ensures, c.len.ensures) in
    record {
      ok = file_changed (λ f. after_truncate f c.args.len (resized f.bytes c.args.len)) c.args.self.now.directories.items c.args.self.now.files.items c.args.fd.0 c.in-Some.i c.args.self.now.next c.index_mut-2.result.now c.truncate.new.self c.in-Some.ensures c.index_mut-2.ensures.value c.in_ok-truncate.ensures.number c.in_ok-truncate.ensures.path c.in_ok-truncate.ensures.ok;
      err = tt;
      unchanged = tt;
      cause = call_cause false _ _ c.args.self.now.fuse c.spend-is_refused.new.self _ spend (number_there c.args.self.now.directories.items _ c.args.self.now.next _ _ c.index_mut-2.result.now c.in-Some.ensures)
          (λ short. let yes = c.if-is_cramped.ensures.no c.args.fd.0 c.in-Some.ensures (subst (LacksRoom (room_in c.args.self.now) (disk_in c.args.self.now) c.args.fd.0) (sym growth) short) in absurd cc);
      call = one_call _ c.args.self.now.fuse c.spend-is_refused.new.self _ spend (not_blown _ c.spend-is_refused.ensures.blown c.if-is_refused.false) (λ x. absurd cc) (λ x. absurd x);
      bound = λ b. b;
    }
