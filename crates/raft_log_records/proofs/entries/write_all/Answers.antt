use Rattle.std.proofs.Common.{map, length, ◌≤◌, refl, ◌≡◌, ◌++◌, ◌∙◌, ℕ, List, [], take, drop, ap, sym, arith, inr, append-nil, length-append}
use Rattle.std.proofs.lemmas.List.{take_all, drop_all}
use Rattle.std.proofs.lemmas.Result.{err_from_is_err_and}
use Rattle.raft_log_records.specs.Batch.{joined, numbered}
use Rattle.raft_log_records.specs.Places.{runs}
use Rattle.raft_log_records.specs.declared.item.EntryIndex.{EntryIndex}
use Rattle.raft_log_records.proofs.Messages.{IsWrittenTo, written_more, all_at_end, stays, too_long, all_more, one_past, refused_one}
use Rattle.raft_log_records.proofs.entries.write_all.Goals as goal

all_bytes : {X : Type 0} (f : X → List ℕ) (old now : List ℕ) (first : ℕ) (xs : List X) (k : ℕ) (rs : List EntryIndex) (index : ℕ) → IsWrittenTo f old now first xs k rs index → length xs ≤ k → now ≡ old ++ joined (map f xs)
all_bytes f old now first xs k rs index w h = w.bytes ∙ ap (λ (l : List _). old ++ joined (map f l)) (take_all k xs h)

all_places : {X : Type 0} (f : X → List ℕ) (old now : List ℕ) (first : ℕ) (xs : List X) (k : ℕ) (rs : List EntryIndex) (index : ℕ) → IsWrittenTo f old now first xs k rs index → length xs ≤ k → rs ≡ runs (length old) (numbered first (map f xs))
all_places f old now first xs k rs index w h =
    sym (ap (λ (l : List _). rs ++ runs (length now) (numbered index (map f l))) (drop_all k xs h) ∙ append-nil rs) ∙ w.places

pub returns-in_err-write-clause-stays : goal.returns-in_err-write-clause-stays
returns-in_err-write-clause-stays g c =
    let p = err_from_is_err_and c.from_residual-in_err-write.result c.from_residual-in_err-write.ensures.1 in
    rw p.1 (stays g.T.Message.bytes c.args.out.now.items c.loop-entry.out.items c.write.new.out.items c.args.first c.args.entries.now c.loop-entry.entry-index c.loop-entry.indexes.items c.loop-entry.index c.loop-entry.invariant.written c.in_err-write.ensures.err)

pub returns-in_err-write-clause-long : goal.returns-in_err-write-clause-long
returns-in_err-write-clause-long g c =
    let p = err_from_is_err_and c.from_residual-in_err-write.result c.from_residual-in_err-write.ensures.1 in
    rw (p.1, p.2) (refused_one (g.T.Message.fits c.entry-item.result) _ _ _ c.in_err-write.ensures.cause
    (λ past. one_past g.T.Message.fits c.args.entries.now c.loop-entry.entry-index c.entry-item.result c.loop-entry-test.true c.entry-item.is past))

pub returns-then-len-clause-long : goal.returns-then-len-clause-long
returns-then-len-clause-long g c =
    inr (too_long g.T.Message.bytes c.args.out.now.items c.loop-entry.out.items c.write.new.out.items c.args.first c.args.entries.now c.loop-entry.entry-index c.entry-item.result c.loop-entry.indexes.items c.loop-entry.index c.loop-entry.invariant.written
    c.loop-entry-test.true c.entry-item.is c.in_ok-write.ensures.ok (omega (arith, c.loop-entry.invariant.written.count)))

pub loop-entry-preserved : goal.loop-entry-preserved
loop-entry-preserved g c = record {
  written = written_more g.T.Message.bytes c.args.out.now.items c.loop-entry.out.items c.write.new.out.items c.args.first c.args.entries.now c.loop-entry.entry-index c.entry-item.result c.loop-entry.indexes.items c.push.new.self.items c.loop-entry.index _ _ c.loop-entry.invariant.written
      c.loop-entry-test.true c.entry-item.is c.in_ok-write.ensures.ok c.in_ok-push.ensures.items (omega (arith, c.len-at.ensures)) (omega (arith, c.len-at.ensures, c.len-in-loop-entry-2.ensures)) (omega (arith, c.loop-entry.invariant.written.count, c.len.ensures, c.len-in-loop-entry.ensures, c.if-len.false));
  fit = all_more g.T.Message.fits c.args.entries.now c.loop-entry.entry-index c.entry-item.result c.loop-entry-test.true c.entry-item.is c.in_ok-write.ensures.within c.loop-entry.invariant.fit;
}

pub returns-in_err-push-clause-stays : goal.returns-in_err-push-clause-stays
returns-in_err-push-clause-stays g c =
    let p = err_from_is_err_and c.from_residual-in_err-push.result c.from_residual-in_err-push.ensures.1 in
    rw p.1 (stays g.T.Message.bytes c.args.out.now.items c.loop-entry.out.items c.write.new.out.items c.args.first c.args.entries.now c.loop-entry.entry-index c.loop-entry.indexes.items c.loop-entry.index c.loop-entry.invariant.written (_, c.in_ok-write.ensures.ok))

pub overflow_add-len-in-loop-entry : goal.overflow_add-len-in-loop-entry
overflow_add-len-in-loop-entry g c = omega arith

pub overflow_cast-at : goal.overflow_cast-at
overflow_cast-at g c = omega (arith, c.loop-entry.invariant.written.short, c.len-at.ensures)

pub overflow_cast-len : goal.overflow_cast-len
overflow_cast-len g c = omega (arith, c.len.ensures, c.len-in-loop-entry-2.ensures, c.if-len.false)

pub overflow_sub-len : goal.overflow_sub-len
overflow_sub-len g c =
    let longer = ap length c.in_ok-write.ensures.ok in
    let sum = length-append c.loop-entry.out.items (g.T.Message.bytes c.entry-item.result) in
    omega (arith, c.len-at.ensures, c.len-in-loop-entry-2.ensures)

pub overflow_add-index : goal.overflow_add-index
overflow_add-index g c = omega (arith, c.loop-entry.invariant.written.index_is, c.requires.indexes, c.loop-entry-test.true)

pub returns-clause-bytes : goal.returns-clause-bytes
returns-clause-bytes g c = all_bytes g.T.Message.bytes _ _ _ _ _ _ _ c.loop-entry.invariant.written c.loop-entry-test.false

pub returns-clause-places : goal.returns-clause-places
returns-clause-places g c = all_places g.T.Message.bytes _ _ _ _ _ _ _ c.loop-entry.invariant.written c.loop-entry-test.false

pub returns-clause-short : goal.returns-clause-short
returns-clause-short g c = omega (arith, c.loop-entry.invariant.written.short, c.loop-entry-test.false)

pub returns-clause-fit : goal.returns-clause-fit
returns-clause-fit g c = all_at_end g.T.Message.fits _ _ c.loop-entry-test.false c.loop-entry.invariant.fit

pub returns-then-len-clause-stays : goal.returns-then-len-clause-stays
returns-then-len-clause-stays g c = stays g.T.Message.bytes _ _ _ _ _ _ _ _ c.loop-entry.invariant.written (_, c.in_ok-write.ensures.ok)
