use Rattle.std.proofs.Common.{subst, arith, vec_capacity}
use Rattle.raft_wire.specs.Stream.{FeederValue, IsSpelledSo}
use Rattle.raft_wire.proofs.Feeders.{still_holds, spelled_so}
use Rattle.raft_wire.proofs.feeder.Feeder.feed.Goals as goal

pub invariant_of-self : goal.invariant_of-self
invariant_of-self c =
    let fed = c.take_piece-fed in
    still_holds c.self.inside.held.items c.args.piece.now fed.result.used fed.result.frame fed.new.held.items (vec_capacity c.self.inside.held) c.self.invariant (λ i. omega (arith, c.type_inv.piece i)) fed.ensures.taken (vec_capacity fed.new.held) fed.ensures.idle

pub invariant_of-self-else-matches : goal.invariant_of-self-else-matches
invariant_of-self-else-matches c =
    let fed = c.take_piece-fed in
    still_holds c.self.inside.held.items c.args.piece.now fed.result.used fed.result.frame fed.new.held.items (vec_capacity c.self.inside.held) c.self.invariant (λ i. omega (arith, c.type_inv.piece i)) fed.ensures.taken (vec_capacity fed.new.held) fed.ensures.idle

pub returns-then-matches-clause-holds : goal.returns-then-matches-clause-holds
returns-then-matches-clause-holds c =
    let fed = c.take_piece-fed in
    still_holds c.self.inside.held.items c.args.piece.now fed.result.used fed.result.frame fed.new.held.items (vec_capacity c.self.inside.held) c.self.invariant (λ i. omega (arith, c.type_inv.piece i)) fed.ensures.taken (vec_capacity fed.new.held) fed.ensures.idle

pub returns-else-matches-clause-holds : goal.returns-else-matches-clause-holds
returns-else-matches-clause-holds c =
    let fed = c.take_piece-fed in
    still_holds c.self.inside.held.items c.args.piece.now fed.result.used fed.result.frame fed.new.held.items (vec_capacity c.self.inside.held) c.self.invariant (λ i. omega (arith, c.type_inv.piece i)) fed.ensures.taken (vec_capacity fed.new.held) fed.ensures.idle

pub returns-else-matches-clause-spelled : goal.returns-else-matches-clause-spelled
returns-else-matches-clause-spelled c =
    let fed = c.take_piece-fed in
    subst (λ (feeder : FeederValue). IsSpelledSo feeder.feeding.held c.args.piece.now fed.result.used fed.result.frame) c.self.view_is
    (spelled_so c.self.inside.held.items c.args.piece.now fed.result.used fed.result.frame fed.new.held.items c.self.invariant.bytes (λ i. omega (arith, c.type_inv.piece i)) fed.ensures.taken)
