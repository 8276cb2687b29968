-- One more group.
use Rattle.std.proofs.Common.{◌<◌, ◌+◌, ℕ, List, length, take, get_or, sym, ap, subst, ◌∙◌, arith}
use Rattle.std.specs.List.Sorted.{IsStrictlySortedBy}
use Rattle.std.specs.Ordering.{nat_cmp}
use Rattle.std.proofs.lemmas.Bool.{false≢true}
use Rattle.std.proofs.lemmas.List.{take_all, take_more}
use Rattle.raft_log_cleaner.specs.Told.{is_among}
use Rattle.raft_log_cleaner.proofs.Judged.{next_apart}
use Rattle.raft_log_cleaning.specs.Told.{is_named}
use Rattle.raft_log_cleaning.proofs.Named.{AreJudged, all_judged, judged_more, none_named}
use Rattle.raft_log_cleaning.proofs.told.many_rewritten.Goals as goal

pub loop-group-init : goal.loop-group-init
loop-group-init c = record { named = λ group is. absurd (false≢true (sym (none_named c.new-many.result group c.new-many.ensures.empty) ∙ is)); judged = λ group among. absurd (false≢true among) }

pub loop-group-preserved : goal.loop-group-preserved
loop-group-preserved c =
    let xs = c.deref-group-items.result.now in
    let i = c.loop-group.group-index in
    let within : i < length xs = omega arith in
    let rising : IsStrictlySortedBy nat_cmp xs = subst (IsStrictlySortedBy nat_cmp) (sym c.deref-group-items.ensures.value) c.in_ok-groups.ensures.rising in
    judged_more c.args.log.now (take i xs) (take (i + 1) xs) (get_or xs i 0) (is_named c.loop-group.many) (is_named c.name_if_many.new.named) (take_more xs i 0 within) (next_apart xs i rising within) c.loop-group.invariant
    c.in_ok-name_if_many.ensures.others c.in_ok-name_if_many.ensures.own

pub returns : goal.returns
returns c =
    let xs = c.deref-group-items.result.now in
    let i = c.loop-group.group-index in
    all_judged c.args.log.now xs (is_named c.loop-group.many) (λ group. c.in_ok-groups.ensures.exactly group ∙ ap (λ (l : List ℕ). is_among l group) (sym c.deref-group-items.ensures.value))
    (subst (λ (l : List ℕ). AreJudged c.args.log.now l (is_named c.loop-group.many)) (take_all i xs c.loop-group-test.false) c.loop-group.invariant)
