-- One more group.
use Rattle.std.proofs.Common.{◌≡◌, ◌+◌, ◌<◌, ℕ, List, length, take, get_or, refl, sym, ap, subst, ◌∙◌, arith}
use Rattle.std.specs.List.Sorted.{IsStrictlySortedBy}
use Rattle.std.specs.Ordering.{nat_cmp}
use Rattle.std.proofs.lemmas.List.{take_all, take_more}
use Rattle.raft_log_cleaner.specs.Live.{AreLiveIn}
use Rattle.raft_log_cleaner.specs.Told.{is_among}
use Rattle.raft_log_cleaner.proofs.Living.{live_more}
use Rattle.raft_log_cleaner.proofs.live.live_of.Goals as goal

pub loop-group-init : goal.loop-group-init
loop-group-init c = (0, refl, omega arith)

pub loop-group-preserved : goal.loop-group-preserved
loop-group-preserved c =
    let log = c.args.log.now in
    let xs = c.deref-group-items.result.now in
    let i = c.loop-group.group-index in
    let within : i < length xs = omega arith in
    let before = c.loop-group.invariant in
    let more = c.in_ok-more.more in (
      before.0 + more,
      subst (λ (l : List ℕ). AreLiveIn log l (before.0 + more)) (sym (take_more xs i 0 within)) (live_more log (take i xs) (get_or xs i 0) before.0 more before.1 c.in_ok-more.ensures),
      omega (arith, before.2, c.sum_of-sets.ensures),
    )

pub returns : goal.returns
returns c =
    let xs = c.deref-group-items.result.now in
    let i = c.loop-group.group-index in
    let so_far = c.loop-group.invariant in
    record {
      groups = xs;
      rising = subst (IsStrictlySortedBy nat_cmp) (sym c.deref-group-items.ensures.value) c.in_ok-groups.ensures.rising;
      exactly = λ group. c.in_ok-groups.ensures.exactly group ∙ ap (λ (l : List ℕ). is_among l group) (sym c.deref-group-items.ensures.value);
      all = so_far.0;
      counted = subst (λ (l : List ℕ). AreLiveIn c.args.log.now l so_far.0) (take_all i xs c.loop-group-test.false) so_far.1;
      sets = so_far.2;
      marks = omega (arith, c.saturating_mul-marks.ensures, c.len.ensures, ap length c.deref-group-items.ensures.value);
    }
