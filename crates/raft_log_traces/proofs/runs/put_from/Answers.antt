use Rattle.std.proofs.Common.{refl, ◌∙◌, subst, List, arith}
use Rattle.raft_log_traces.specs.declared.runs.Run.{Run}
use Rattle.raft_log_traces.specs.Runs.{EndsBefore, EndsFrom, EndsIn}
use Rattle.raft_log_traces.proofs.RunLemmas.{in_last, popped, put_last}
use Rattle.raft_log_traces.proofs.runs.put_from.Goals as goal

pub loop-runs-preserved : goal.loop-runs-preserved
loop-runs-preserved c =
    let ends : EndsFrom c.args.first c.loop-runs.runs.items = subst (λ (rs : List Run). EndsFrom c.args.first rs) c.deref.ensures.value c.loop-runs-test.ensures.yes in
    record {
      below = λ i l. popped c.args.first c.loop-runs.runs.items c.pop.new.self.items c.pop.result i ends c.pop.ensures.items l ∙ c.loop-runs.invariant.below i l;
      room = let held = c.loop-runs.invariant.room in let cap = c.pop.ensures.capacity in let len = c.pop.ensures.len in omega (arith, held, cap, len);
    }

pub returns-clause-ok : goal.returns-clause-ok
returns-clause-ok c =
    put_last c.args.first c.args.file c.args.runs.now.items c.loop-runs.runs.items c.push.new.self.items (record { first = c.args.first; file = c.args.file })
    refl refl c.in_ok-push.ensures.items c.loop-runs.invariant.below

pub returns-then-ends_in-clause-ok : goal.returns-then-ends_in-clause-ok
returns-then-ends_in-clause-ok c =
    let before : EndsBefore c.args.first c.loop-runs.runs.items = subst (λ (rs : List Run). EndsBefore c.args.first rs) c.deref.ensures.value c.loop-runs-test.ensures.no in
    let last : EndsIn c.args.file c.loop-runs.runs.items = subst (λ (rs : List Run). EndsIn c.args.file rs) c.deref-2.ensures.value c.if-ends_in.ensures in
    in_last c.args.first c.args.file c.args.runs.now.items c.loop-runs.runs.items last before c.loop-runs.invariant.below
