use Rattle.std.proofs.Common.{◌≡◌, ◌∙◌, ◌-◌, ◌++◌, ◌∷◌, [], length, sym, subst, arith}
use Rattle.std.proofs.lemmas.List.{with_items_is}
use Rattle.raft_progress.specs.Granted.{IsFalling, IsFallingBut}
use Rattle.raft_progress.proofs.FallingLemmas.{falling_pushed}
use Rattle.raft_progress.proofs.front.push_falling.Goals as goal

pub returns-clause-falling : goal.returns-clause-falling
returns-clause-falling g c = λ f.
    let last : length c.args.voters.now.items ≡ c.len-last.result - 1 = omega (arith, c.len-last.ensures, c.in_ok-push.ensures.len, c.args.voters.now.ok.0) in
    subst (IsFalling g.P.Ord.cmp g.V.Borrow.borrowed) (sym (with_items_is c.push.new.self c.move_up.new.voters (omega (arith, c.move_up.auto.voters, c.as_mut_slice.ensures.len))))
    (c.move_up.ensures.falling
    (subst (λ n. IsFallingBut g.P.Ord.cmp g.V.Borrow.borrowed n c.as_mut_slice.result.now) last
    (subst (IsFallingBut g.P.Ord.cmp g.V.Borrow.borrowed (length c.args.voters.now.items)) (sym (c.as_mut_slice.ensures.value ∙ c.in_ok-push.ensures.items))
    (falling_pushed g.met.P.Ord.total g.V.Borrow.borrowed c.args.voters.now.items c.args.entry f))))
