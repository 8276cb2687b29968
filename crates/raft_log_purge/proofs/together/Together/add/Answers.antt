use Rattle.std.proofs.Common.{◌≡◌, ◌∙◌, ◌&&◌, ℕ, Option, Some, ap}
use Rattle.raft_log_records.specs.Item.{items_of}
use Rattle.raft_log_purge.proofs.ToldLemmas.{if_first, if_not_first, told_more}
use Rattle.raft_log_purge.proofs.together.Together.add.Goals as goal
use Rattle.raft_log_purge.proofs.together.Together.add.Goals.{then-self, else-self}

pub returns : goal.returns
returns c = λ records t.
    let old = c.args.self.now.so_far in
    let comes = c.may_come-comes.result in
    let new : c.if-self.self ≡ (old && comes) = elim c.if-self.branch as (λ b. c.if-self.self ≡ (old && comes)) [
      | then-self w ↦ if_first old comes c.if-self.self w.if-self.true w.self-is
      | else-self w ↦ if_not_first old comes c.if-self.self w.if-self.false (w.self-is ∙ w.if-self.false)
    ] in
    told_more c.args.self.now _ records (items_of c.args.items.now) c.mark_in-mark.result comes c.mark_in-mark.ensures c.may_come-comes.ensures new
    (ap (λ (o : Option ℕ). Some o) c.left_open.ensures) t
