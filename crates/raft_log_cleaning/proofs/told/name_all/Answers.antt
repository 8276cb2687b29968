-- One more group.
use Rattle.std.proofs.Common.{ℕ, List, take, get_or, sym, ap, ◌∙◌, arith}
use Rattle.std.specs.Prelude.{◌||◌}
use Rattle.std.proofs.lemmas.List.{take_all, take_more}
use Rattle.raft_log_cleaner.specs.Told.{is_among}
use Rattle.raft_log_cleaning.specs.Told.{is_named}
use Rattle.raft_log_cleaning.proofs.Named.{named_more, or_false}
use Rattle.raft_log_cleaning.proofs.told.name_all.Goals as goal

pub loop-group-init : goal.loop-group-init
loop-group-init c = λ group. sym (or_false (is_named c.args.named.now group))

pub loop-group-preserved : goal.loop-group-preserved
loop-group-preserved c =
    let xs = c.args.groups.now in
    let i = c.loop-group.group-index in
    λ group.
    named_more (is_named c.args.named.now) (is_named c.name.new.named) (is_named c.loop-group.named) (take i xs) (get_or xs i 0) c.loop-group.invariant c.in_ok-name.ensures group
    ∙ ap (λ (l : List ℕ). is_named c.args.named.now group || is_among l group) (sym (take_more xs i 0 (omega arith)))

pub returns : goal.returns
returns c = λ group.
    c.loop-group.invariant group ∙ ap (λ (l : List ℕ). is_named c.args.named.now group || is_among l group) (take_all c.loop-group.group-index c.args.groups.now c.loop-group-test.false)
