use Rattle.std.specs.Prelude.{List, take, ◌+◌}
use Rattle.std.proofs.Common.{sym, subst, arith}
use Rattle.raft_world.specs.declared.member.Member.{Member}
use Rattle.raft_world.proofs.GroupLemmas.{AreBegun, begins, begun_all, begun_next, history_begins, ids_fit}
use Rattle.raft_world.proofs.world.World.new.Goals as goal

pub returns-in_err-new-clause-history : goal.returns-in_err-new-clause-history
returns-in_err-new-clause-history c = history_begins c.args.ids.now (ids_fit c.args.ids.now (λ k low. omega (arith, c.type_inv.ids k)))

pub returns-in_err-push-clause-history : goal.returns-in_err-push-clause-history
returns-in_err-push-clause-history c = history_begins c.args.ids.now (ids_fit c.args.ids.now (λ k low. omega (arith, c.type_inv.ids k)))

pub returns-clause-history : goal.returns-clause-history
returns-clause-history c = history_begins c.args.ids.now (ids_fit c.args.ids.now (λ k low. omega (arith, c.type_inv.ids k)))

pub returns-clause-world : goal.returns-clause-world
returns-clause-world c =
    let inv = c.loop-id.invariant in
    begins c.loop-id.world c.args.ids.now (begun_all c.loop-id.world.members.items c.args.ids.now c.loop-id.id-index (omega arith) inv.begun) inv.messages inv.setup inv.led

pub loop-id-preserved : goal.loop-id-preserved
loop-id-preserved c =
    let inv = c.loop-id.invariant in
    let made = c.in_ok-new.ensures in
    record {
      begun =
          subst (λ (l : List Member). AreBegun l (take (c.loop-id.id-index + 1) c.args.ids.now)) (sym c.in_ok-push.ensures.items)
          (begun_next c.loop-id.world.members.items c.args.ids.now c.loop-id.id-index c.in_ok-new.field-0 inv.begun (omega arith) made.0 made.1);
      messages = inv.messages;
      setup = inv.setup;
      led = inv.led;
    }
