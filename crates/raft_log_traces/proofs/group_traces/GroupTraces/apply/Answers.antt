use Rattle.std.proofs.Common.{◌≡◌, ◌+◌, ◌++◌, ◌∷◌, [], List, take, sym, ap, subst, ◌∙◌, Result, Ok, Err}
use Rattle.std.specs.Prelude.{OnErr}
use Rattle.std.proofs.lemmas.List.{map_more, take_all}
use Rattle.raft_log_records.specs.declared.item.LogItem.{LogItem}
use Rattle.raft_log_records.specs.Item.{item_of, items_of}
use Rattle.raft_log_covers.specs.Kept.{traces_after}
use Rattle.raft_log_traces.specs.Alike.{AreAlike}
use Rattle.raft_log_traces.specs.Traces.{traces_at}
use Rattle.raft_log_traces.specs.GroupTraces.{traces_in}
use Rattle.raft_log_traces.proofs.AlikeLemmas.{each_joined, one_more}
use Rattle.raft_log_traces.proofs.group_traces.GroupTraces.apply.Goals as goal

on_err : {A E : Type 0} {P : Type 0} (r : Result A E) → P → OnErr r P
on_err (Ok x) p = tt
on_err (Err e) p = p

pub returns-in_err-apply_item-clause-err : goal.returns-in_err-apply_item-clause-err
unfolding traces_in
returns-in_err-apply_item-clause-err c =
    on_err c.from_residual.result (c.loop-item.item-index, each_joined _ _ _ c.loop-item.invariant c.in_err-apply_item.ensures.err)

pub loop-item-preserved : goal.loop-item-preserved
loop-item-preserved c =
    let items = c.args.items.now in
    let index = c.loop-item.item-index in
    let more : items_of (take (index + 1) items) ≡ items_of (take index items) ++ item_of c.item-item.result ∷ [] =
    map_more item_of items index c.item-item.result c.loop-item-test.true ∙ ap (λ (x : LogItem). items_of (take index items) ++ item_of x ∷ []) (sym c.item-item.is) in
    one_more c.args.file (items_of (take index items)) (items_of (take (index + 1) items)) (item_of c.item-item.result) (traces_at c.args.self.now.traces) (traces_at c.loop-item.self.traces) (traces_at c.apply_item.new.traces)
    more c.loop-item.invariant c.in_ok-apply_item.ensures.ok

pub returns-clause-ok : goal.returns-clause-ok
unfolding traces_in
returns-clause-ok c = λ group.
    subst (λ (l : List LogItem). AreAlike (traces_after c.args.file (items_of l) (traces_at c.args.self.now.traces)) (traces_at c.loop-item.self.traces)) (take_all c.loop-item.item-index c.args.items.now c.loop-item-test.false) c.loop-item.invariant group
