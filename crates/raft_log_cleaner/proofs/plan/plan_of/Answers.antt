-- One group after the other is judged.
use Rattle.std.proofs.Common.{◌≡◌, ℕ, ◌+◌, ◌<◌, ◌≤◌, Bool, List, length, take, get_or, eqb, sym, subst, ap, ◌∙◌, arith}
use Rattle.std.specs.Prelude.{◌&&◌, if◌then◌else◌}
use Rattle.std.specs.List.Sorted.{IsStrictlySortedBy}
use Rattle.std.specs.Ordering.{nat_cmp}
use Rattle.std.proofs.lemmas.List.{take_all, take_more}
use Rattle.raft_log_memtables.specs.MemTables.{content_in}
use Rattle.raft_log_purge.specs.Reports.{count_in}
use Rattle.raft_log_traces.specs.GroupTraces.{traces_in}
use Rattle.raft_log_cleaner.specs.Told.{IsChosen, is_among}
use Rattle.raft_log_cleaner.proofs.Judged.{HasJudged, all_judged, judged_more, next_apart, none_judged}
use Rattle.raft_log_cleaner.proofs.plan.plan_of.Goals as goal

pub loop-group-init : goal.loop-group-init
loop-group-init c = none_judged c.args.log.now c.args.marks c.args.reports.now c.new-plan.result.told.items c.new-plan.result.reports c.new-plan.ensures.told c.new-plan.ensures.reports

pub add-requires : goal.add-requires
add-requires c = λ left. let is = c.in_ok-choice.ensures in omega (arith, (is.left.0 left).early, is.are.reports)

pub loop-group-preserved : goal.loop-group-preserved
loop-group-preserved c =
    let log = c.args.log.now in
    let before = c.args.reports.now in
    let xs = c.deref-group-items.result.now in
    let i = c.loop-group.group-index in
    let x = get_or xs i 0 in
    let mid = c.loop-group.plan.reports in
    let choice = c.in_ok-choice.choice in
    let within : i < length xs = omega arith in
    let rising : IsStrictlySortedBy nat_cmp xs = subst (IsStrictlySortedBy nat_cmp) (sym c.deref-group-items.ensures.value) c.in_ok-groups.ensures.rising in
    subst (λ (l : List ℕ). HasJudged log c.args.marks before l c.add.new.self.told.items c.add.new.self.reports) (sym (take_more xs i 0 within))
    (judged_more log c.args.marks before (take i xs) c.loop-group.plan.told.items c.add.new.self.told.items x mid c.add.new.self.reports choice (next_apart xs i rising within) c.loop-group.invariant
    (subst (λ (n : ℕ). IsChosen (content_in log.tables x) (traces_in log.traces x) c.args.marks n choice) c.count-before.ensures c.in_ok-choice.ensures)
    c.in_ok-add.ensures.told
    (λ other. c.in_ok-add.ensures.reports other ∙ ap (λ (n : ℕ). if choice.is_left && eqb x other then n + 1 else count_in mid other) c.count-before.ensures))

pub returns : goal.returns
returns c =
    let log = c.args.log.now in
    let xs = c.deref-group-items.result.now in
    let i = c.loop-group.group-index in
    let rising : IsStrictlySortedBy nat_cmp xs = subst (IsStrictlySortedBy nat_cmp) (sym c.deref-group-items.ensures.value) c.in_ok-groups.ensures.rising in
    all_judged log c.args.marks c.args.reports.now xs c.loop-group.plan.told.items c.loop-group.plan.reports rising
    (λ group. c.in_ok-groups.ensures.exactly group ∙ ap (λ (l : List ℕ). is_among l group) (sym c.deref-group-items.ensures.value))
    (subst (λ (l : List ℕ). HasJudged log c.args.marks c.args.reports.now l c.loop-group.plan.told.items c.loop-group.plan.reports) (take_all i xs c.loop-group-test.false) c.loop-group.invariant)
