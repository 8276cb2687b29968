use Rattle.std.proofs.Common.{◌≡◌, ◌+◌, ◌∷◌, [], ℕ, List, Option, get_or, drop, sym, ap, ◌∙◌, add-one, drop-cons}
use Rattle.std.specs.BTreeMap.{get}
use Rattle.std.specs.Option.{option_or}
use Rattle.std.specs.Ordering.{nat_cmp}
use Rattle.std.proofs.lemmas.List.{drop_all}
use Rattle.raft_log_tools.proofs.ToldLemmas.{put_step, told_in, told_is}
use Rattle.raft_log_tools.proofs.telling.put_all.Goals as goal

pub loop-group-preserved : goal.loop-group-preserved
loop-group-preserved c = λ rising n.
    let holes = c.args.holes.now in
    let i = c.loop-group.group-index in
    let hole : ℕ × ℕ = get_or holes i (0, 0) in
    let within = c.loop-group-test.true in
    let step : drop i holes ≡ hole ∷ drop (i + 1) holes = rw (add-one, drop-cons holes i (0, 0)) in
    put_step n holes i hole (get nat_cmp c.loop-group.told) (get nat_cmp c.put.new.told) step rising (c.in_ok-put.ensures n) ∙ c.loop-group.invariant rising n

pub returns : goal.returns
returns c = λ of are n.
    let holes = c.args.holes.now in
    let none : drop c.loop-group.group-index holes ≡ [] = drop_all c.loop-group.group-index holes c.loop-group-test.false in
    sym (ap (λ (l : List (ℕ × ℕ)). option_or (told_in n l) (get nat_cmp c.loop-group.told n)) none)
    ∙ c.loop-group.invariant are.rising n ∙ ap (λ (o : Option ℕ). option_or o (get nat_cmp c.args.told.now n)) (told_is of holes n are)
