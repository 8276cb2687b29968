use Rattle.std.proofs.Common.{◌≡◌, ◌-◌, ◌∷◌, ℕ, List, Option, drop, IfSome, sym, subst, ◌∙◌, arith}
use Rattle.raft_log_covers.specs.Account.{IsFrom}
use Rattle.raft_log_traces.specs.declared.runs.Run.{Run}
use Rattle.raft_log_traces.specs.Runs.{file_in}
use Rattle.raft_log_traces.proofs.FileLemmas.{CoverFrom, IsReached, cover_more, counted_kept, hidden_kept, counted_reached, hidden_reached}
use Rattle.raft_log_traces.proofs.files.least_of_entries.Goals as goal
use Rattle.raft_log_traces.proofs.files.least_of_entries.Goals.{then-has_within, else-has_within}

pub loop-at-preserved : goal.loop-at-preserved
loop-at-preserved c =
    let inv = c.loop-at.invariant in
    let floor = c.args.floor in
    let next = c.args.next in
    let run = c.run_before-run.result in
    let rest = drop c.loop-at.at c.args.runs.now in
    let e : drop (c.loop-at.at - 1) c.args.runs.now ≡ run ∷ rest = c.run_before-run.ensures in
    record {
      within = let w = inv.within in omega (arith, w);
      cover = subst (λ (rs : List Run). CoverFrom rs c.earlier-end.result next) (sym e) (cover_more run rest c.loop-at.end next c.earlier-end.result c.earlier-end.ensures inv.cover);
      kept = λ n h i l m. subst (λ (rs : List Run). IsFrom n (file_in rs i)) (sym e) (elim c.if-has_within.branch [
        | then-has_within w ↦ counted_kept run rest floor next c.loop-at.least c.if-has_within.least (w.least-is ∙ w.lesser-least.ensures) inv.kept n h i l m
        | else-has_within w ↦ hidden_kept run rest floor c.loop-at.end next c.loop-at.least inv.cover w.if-has_within.ensures.no inv.kept n (subst (λ (o : Option ℕ). IsFrom n o) w.least-is h) i l m
      ]);
      reached = subst (λ (rs : List Run). IfSome c.if-has_within.least (IsReached floor next rs)) (sym e) (elim c.if-has_within.branch [
        | then-has_within w ↦ counted_reached run rest floor c.loop-at.end next c.loop-at.least c.if-has_within.least (w.least-is ∙ w.lesser-least.ensures) inv.cover w.if-has_within.ensures.yes inv.reached
        | else-has_within w ↦ subst (λ (o : Option ℕ). IfSome o (IsReached floor next (run ∷ rest))) (sym w.least-is) (hidden_reached run rest floor next c.loop-at.least inv.reached)
      ]);
    }

pub returns-clause-kept : goal.returns-clause-kept
returns-clause-kept c = λ n h i l m.
    let none : c.loop-at.at ≡ 0 = let t = c.loop-at-test.false in omega (arith, t) in
    subst (λ (k : ℕ). IsFrom n (file_in (drop k c.args.runs.now) i)) none (c.loop-at.invariant.kept n h i l m)
