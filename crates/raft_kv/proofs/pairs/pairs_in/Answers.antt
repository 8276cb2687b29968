use Rattle.std.proofs.Common.{arith, map, subst}
use Rattle.raft_kv.specs.Pairs.{IsTreeOf, plain_pair}
use Rattle.raft_kv.proofs.Restored.{tree_restored, tree_within}
use Rattle.raft_kv.proofs.pairs.pairs_in.Goals as goal

pub returns-in-Some-clause-spelling : goal.returns-in-Some-clause-spelling
returns-in-Some-clause-spelling c = tree_restored c.args.bytes.now (map plain_pair c.in-Ok.pairs.items) c.in-Some.pairs (λ i. omega (arith, c.type_inv.bytes i)) c.in-Ok.ensures (subst (IsTreeOf (map plain_pair c.in-Ok.pairs.items)) c.in-Some.is c.in_ok-pairs.ensures)

pub returns-in-Some-clause-within : goal.returns-in-Some-clause-within
returns-in-Some-clause-within c = tree_within c.args.bytes.now (map plain_pair c.in-Ok.pairs.items) c.in-Some.pairs (λ i. omega (arith, c.type_inv.bytes i)) c.in-Ok.ensures (subst (IsTreeOf (map plain_pair c.in-Ok.pairs.items)) c.in-Some.is c.in_ok-pairs.ensures)
