use Rattle.std.proofs.Common.{◌<◌, ◌^◌, ℕ, arith}
use Rattle.std.proofs.lemmas.List.Elements.{All-from_get_or}
use Rattle.raft_wire.proofs.InOrder.{ids_fit}
use Rattle.raft_wire.proofs.memberships.put_ids.Goals as goal

pub returns-clause-fits : goal.returns-clause-fits
returns-clause-fits c =
    (c.requires.count, ids_fit c.args.ids.now c.requires.rising (All-from_get_or (λ (n : ℕ). n < 2 ^ 64) c.args.ids.now 0 (λ i h. omega (arith, c.type_inv.ids i))))
