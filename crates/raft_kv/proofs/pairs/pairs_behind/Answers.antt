use Rattle.std.proofs.Common.{None, map}
use Rattle.std.proofs.lemmas.Result.{err_from_is_err_and}
use Rattle.std.proofs.lemmas.List.{map_push}
use Rattle.raft_wire.specs.Reader.{many_at}
use Rattle.raft_wire.proofs.Lists.{goes_on, ends, is_done}
use Rattle.raft_kv.specs.Map.{nothing_left, pair_at}
use Rattle.raft_kv.specs.Pairs.{plain_pair}
use Rattle.raft_kv.proofs.pairs.pairs_behind.Goals as goal

pub returns-in_err-pair : goal.returns-in_err-pair
returns-in_err-pair c =
    let p = err_from_is_err_and c.from_residual.result c.from_residual.ensures.1 in
    rw (p.1, p.2) (ends (λ _. pair_at) nothing_left c.in_err-pair.field-0.0 (map plain_pair c.loop.pairs.items) c.args.count c.loop.counter None c.loop.rest.now (many_at (λ _. pair_at) nothing_left c.args.count None c.args.bytes.now) c.loop-test.true c.in_err-pair.ensures c.loop.invariant)

pub loop-preserved : goal.loop-preserved
loop-preserved c =
    rw (c.in_ok-push.ensures.items, map_push plain_pair c.loop.pairs.items c.in_ok-pair.pair)
    (goes_on (λ _. pair_at) nothing_left (map plain_pair c.loop.pairs.items) c.args.count c.loop.counter None c.loop.rest.now (plain_pair c.in_ok-pair.pair) c.in_ok-pair.after.now (many_at (λ _. pair_at) nothing_left c.args.count None c.args.bytes.now) c.loop-test.true c.in_ok-pair.ensures c.loop.invariant)

pub returns : goal.returns
returns c = is_done (λ _. pair_at) nothing_left (map plain_pair c.loop.pairs.items) c.args.count c.loop.counter None c.loop.rest.now (many_at (λ _. pair_at) nothing_left c.args.count None c.args.bytes.now) c.loop-test.false c.loop.invariant
