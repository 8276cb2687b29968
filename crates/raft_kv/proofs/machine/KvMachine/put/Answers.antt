use Rattle.std.proofs.Common.{◌≡◌, ◌∙◌, ℕ, Bool, List, false, cond, ap, sym, subst}
use Rattle.std.specs.FinMap as finite
use Rattle.raft_wire.specs.Kv.{IsKey, IsValue}
use Rattle.raft_kv.specs.Machine.{is_full_for}
use Rattle.raft_kv.specs.Map.{Map, map_of}
use Rattle.raft_kv.proofs.Maps.{insert_of}
use Rattle.raft_kv.proofs.Changes.{inserted}
use Rattle.raft_kv.proofs.machine.KvMachine.put.Goals as goal

pub invariant_of-self-2 : goal.invariant_of-self-2
invariant_of-self-2 c =
    let key = c.in_ok-key.key in
    let value = c.in_ok-value.value in
    let full : is_full_for (map_of c.self.inside.pairs) key.items ≡ false =
    ap (λ (m : Map). is_full_for m key.items) c.self.view_is ∙ ap (is_full_for c.args.self.now) c.in_ok-key.ensures.items ∙ sym c.is_full_for.ensures ∙ c.if-is_full_for.false in
    let given = c.in_ok-insert.ensures in
    inserted c.self.inside.pairs c.insert.new.self key value c.in_ok-insert.field-0 c.self.invariant full
    (subst IsKey (sym c.in_ok-key.ensures.items) c.requires.key) (subst IsValue (sym c.in_ok-value.ensures.items) c.requires.value) given.old given.entries given.len given.ordered

pub returns-clause-ok : goal.returns-clause-ok
returns-clause-ok c =
    let key = c.in_ok-key.key in
    let value = c.in_ok-value.value in
    let full : is_full_for c.args.self.now c.args.key.now ≡ false = sym c.is_full_for.ensures ∙ c.if-is_full_for.false in
    insert_of c.self.inside.pairs c.insert.new.self key value c.in_ok-insert.ensures.updates
    ∙ ap (λ (m : Map). finite.insert m key.items value.items) c.self.view_is
    ∙ ap (λ (k : List ℕ). finite.insert c.args.self.now k value.items) c.in_ok-key.ensures.items
    ∙ ap (λ (v : List ℕ). finite.insert c.args.self.now c.args.key.now v) c.in_ok-value.ensures.items
    ∙ sym (ap (λ (b : Bool). cond b c.args.self.now (finite.insert c.args.self.now c.args.key.now c.args.value.now)) full)
