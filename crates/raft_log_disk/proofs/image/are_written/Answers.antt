use Rattle.std.proofs.Common.{◌≤◌, ◌-◌, length, arith, refl, sym, ◌∙◌}
use Rattle.raft_log_records.specs.Reading.{record_at}
use Rattle.raft_log_disk.specs.Memory.{state_of}
use Rattle.raft_log_disk.proofs.ChanceLemmas.{ends, skips_yes, skips_no, read_as, goes_yes, goes_no, fails_at, runs_out}
use Rattle.raft_log_disk.proofs.image.are_written.Goals as goal

pub loop-step-preserved : goal.loop-step-preserved
loop-step-preserved c =
    let read = read_as (record_at c.args.signature c.loop-step.rest.now) _ _ c.in-Some.is c.in_ok-len.ensures.read in
    let part = c.split_at-in-loop-step.ensures in
    record {
      place = omega (arith, c.loop-step.invariant.place, part.back_len);
      yes = goes_yes (state_of c.args.file.now) c.args.alignment c.args.signature (length c.args.bytes.now) c.loop-step.step c.loop-step.at c.in-Some.len c.loop-step.rest.now _ _ _ c.loop-step-test.true read part.front part.back (c.if-not-is_written.ensures.yes refl) c.loop-step.invariant.yes;
      no = goes_no (state_of c.args.file.now) c.args.alignment c.args.signature (length c.args.bytes.now) c.loop-step.step c.loop-step.at c.in-Some.len c.loop-step.rest.now _ _ c.loop-step-test.true read part.back c.loop-step.invariant.no;
    }

pub loop-step-preserved-in_default : goal.loop-step-preserved-in_default
loop-step-preserved-in_default c =
    let none = read_as (record_at c.args.signature c.loop-step.rest.now) _ _ c.in_default.is c.in_ok-len.ensures.read in
    let part = c.split_at-in_default.ensures in
    let skipped = c.padding-skipped.ensures in
    record {
      place = omega (arith, c.loop-step.invariant.place, part.back_len, skipped.within);
      yes = skips_yes (state_of c.args.file.now) c.args.alignment c.args.signature (length c.args.bytes.now) c.loop-step.step c.loop-step.at c.padding-skipped.result c.loop-step.rest.now _ _ c.loop-step-test.true none skipped.is part.back c.loop-step.invariant.yes;
      no = skips_no (state_of c.args.file.now) c.args.alignment c.args.signature (length c.args.bytes.now) c.loop-step.step c.loop-step.at c.padding-skipped.result c.loop-step.rest.now _ _ c.loop-step-test.true none skipped.is part.back c.loop-step.invariant.no;
    }

pub returns-then-skipped-eq0-clause-yes : goal.returns-then-skipped-eq0-clause-yes
returns-then-skipped-eq0-clause-yes c = λ _. c.loop-step.invariant.yes
    (ends (state_of c.args.file.now) c.args.alignment c.args.signature (length c.args.bytes.now - c.loop-step.step) c.loop-step.at c.loop-step.rest.now (read_as (record_at c.args.signature c.loop-step.rest.now) _ _ c.in_default.is c.in_ok-len.ensures.read)
    (sym c.padding-skipped.ensures.is ∙ c.if-skipped-eq0.true))

pub returns-then-not-is_written-clause-no : goal.returns-then-not-is_written-clause-no
returns-then-not-is_written-clause-no c = λ p.
    let read = read_as (record_at c.args.signature c.loop-step.rest.now) _ _ c.in-Some.is c.in_ok-len.ensures.read in
    c.if-not-is_written.ensures.no (fails_at (state_of c.args.file.now) c.args.alignment c.args.signature (length c.args.bytes.now) c.loop-step.step c.loop-step.at c.in-Some.len c.loop-step.rest.now _ _ c.loop-step-test.true read c.split_at-in-loop-step.ensures.front c.loop-step.invariant.no p)

pub returns-clause-yes : goal.returns-clause-yes
returns-clause-yes c = λ _. c.loop-step.invariant.yes (runs_out (state_of c.args.file.now) c.args.alignment c.args.signature (length c.args.bytes.now) c.loop-step.step c.loop-step.at c.loop-step.rest.now c.loop-step-test.false)
