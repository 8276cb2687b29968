use Rattle.std.proofs.Common.{◌≡◌, ◌++◌, ◌∷◌, [], arith}
use Rattle.std.proofs.lemmas.Result.{err_from_is_err_and}
use Rattle.std.proofs.lemmas.List.{map_push}
use Rattle.raft_log_records.specs.Item.{item_of, items_of}
use Rattle.raft_log_records.specs.Reading.{items_at}
use Rattle.raft_log_records.proofs.Loops.{items_go_on, items_fail, items_done}
use Rattle.raft_log_records.proofs.reading.items_behind.Goals as goal

pub returns-in_err-item : goal.returns-in_err-item
returns-in_err-item c =
    let p = err_from_is_err_and c.from_residual-in_err-item.result c.from_residual-in_err-item.ensures.1 in
    rw (p.1, p.2) (items_fail c.in_err-item.field-0.0 (items_of c.loop.items.items) c.args.count c.loop.counter c.args.limit c.loop.at c.loop.rest.now (items_at c.args.count c.args.limit 0 c.args.bytes.now) c.loop-test.true c.in_err-item.ensures.read c.loop.invariant.read)

pub loop-preserved : goal.loop-preserved
loop-preserved c =
    let item = c.in_ok-item.item in
    let e : items_of c.push.new.self.items ≡ items_of c.loop.items.items ++ item_of item ∷ [] = rw c.in_ok-push.ensures.items (map_push _ c.loop.items.items item) in
    record {
      within = omega (arith, c.in_ok-item.ensures.within);
      read = rw e (items_go_on (items_of c.loop.items.items) c.args.count c.loop.counter c.args.limit c.loop.at c.loop.rest.now (item_of item) c.in_ok-item.after_entries c.in_ok-item.after.now (items_at c.args.count c.args.limit 0 c.args.bytes.now) c.loop-test.true c.in_ok-item.ensures.read c.loop.invariant.read);
    }

pub returns : goal.returns
returns c = items_done (items_of c.loop.items.items) c.args.count c.loop.counter c.args.limit c.loop.at c.loop.rest.now (items_at c.args.count c.args.limit 0 c.args.bytes.now) c.loop-test.false c.loop.invariant.read
