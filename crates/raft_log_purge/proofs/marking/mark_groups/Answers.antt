use Rattle.std.proofs.Common.{◌≡◌, inl, ◌<◌, ℕ, false, refl, subst, arith}
use Rattle.raft_log_traces.specs.GroupTraces.{traces_in}
use Rattle.raft_log_purge.specs.Marking.{needs_marks}
use Rattle.raft_log_purge.proofs.StepLemmas.{no_steps, has_steps_added, so_for_each}
use Rattle.raft_log_purge.proofs.marking.mark_groups.Goals as goal

pub loop-group-init : goal.loop-group-init
loop-group-init c = record {
  counted = refl;
  steps = λ content there. no_steps content (traces_in c.args.traces.now) c.args.batch.now.items;
  marked = λ k l. absurd (omega (arith, l));
}

pub overflow_add-count : goal.overflow_add-count
overflow_add-count c =
    let counted = c.loop-group.invariant.counted in
    let within = c.loop-group-test.true in
    search (arith, counted, within)

pub loop-group-preserved : goal.loop-group-preserved
loop-group-preserved c =
    let at = c.loop-group in
    let counted = at.invariant.counted in record {
      counted = omega (arith, counted);
      steps = λ content there. has_steps_added content (traces_in c.args.traces.now) (traces_in at.traces) (traces_in c.mark_group.new.traces) c.args.batch.now.items at.batch.items c.mark_group.new.batch.items
          (at.invariant.steps content there) (c.in_ok-mark_group.ensures.steps content there);
      marked = so_for_each (λ g. needs_marks c.args.file (traces_in at.traces g) ≡ false) (λ g. needs_marks c.args.file (traces_in c.mark_group.new.traces g) ≡ false) c.args.groups.now at.group-index
          at.invariant.marked c.in_ok-mark_group.ensures.stays c.in_ok-mark_group.ensures.marked;
    }

pub returns-then-is_large-clause-steps : goal.returns-then-is_large-clause-steps
returns-then-is_large-clause-steps c = c.loop-group.invariant.steps

pub returns-then-is_large-clause-marked : goal.returns-then-is_large-clause-marked
returns-then-is_large-clause-marked c = λ k l. c.loop-group.invariant.marked k (subst (λ (n : ℕ). k < n) c.loop-group.invariant.counted l)

pub returns-clause-steps : goal.returns-clause-steps
returns-clause-steps c = c.loop-group.invariant.steps

pub returns-clause-marked : goal.returns-clause-marked
returns-clause-marked c = λ k l. c.loop-group.invariant.marked k (subst (λ (n : ℕ). k < n) c.loop-group.invariant.counted l)

pub returns-clause-all_or_large : goal.returns-clause-all_or_large
returns-clause-all_or_large c =
    let counted = c.loop-group.invariant.counted in
    let past = c.loop-group-test.false in
    let most = c.loop-group.auto.group-index-end in
    inl (omega (arith, counted, past, most))
