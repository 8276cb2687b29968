-- Members by their places.
use Rattle.std.specs.Prelude.{◌≡◌, ◌==◌, ◌<◌, ◌+◌, ℕ, zero, suc, Bool, true, false, List, [], ◌∷◌, length, slice_get, slice_set as set, Option, Some, None, IfSome, refl}
use Rattle.std.specs.List.{position_from, slice_index_or as get_or}
use Rattle.std.proofs.Common.{sym, ap, ◌∙◌, subst, arith, cond}
use Rattle.std.proofs.lemmas.Bool.{eq-eqb, ne_eqb, eqb-true, eqb-false}
use Rattle.raft_laws.specs.GroupWorld.{NodeState, Absent, state_or, with_node_state}
use Rattle.raft_world.specs.Member.{IsAt}
use Rattle.raft_world.specs.World.{AreNodes, IsNodeAt, IsPlace, IsPlaceOf, member_of}
use Rattle.raft_world.specs.declared.member.Member.{Member}

-- ---- which place it is

placed_step : (m : Member) (ms : List Member) (id at : ℕ) (b : Bool) → (m.replica.id == id) ≡ b
    → ((i : ℕ) → position_from (λ (x : Member). x.replica.id == id) (at + 1) ms ≡ Some i → (k : ℕ) × (i ≡ at + 1 + k) × IsPlace ms id k)
    → (i : ℕ) → cond b (Some at) (position_from (λ (x : Member). x.replica.id == id) (at + 1) ms) ≡ Some i → (k : ℕ) × (i ≡ at + k) × IsPlace (m ∷ ms) id k
placed_step m ms id at true is next i e = (0, (let same : at ≡ i = cc e in omega arith), eqb-true m.replica.id id is)
placed_step m ms id at false is next i e =
    let n = next i e in (suc n.0, (let far : i ≡ at + 1 + n.0 = n.1 in omega arith), (eqb-false m.replica.id id is, n.2))

placed_from : (ms : List Member) (id at i : ℕ) → position_from (λ (x : Member). x.replica.id == id) at ms ≡ Some i → (k : ℕ) × (i ≡ at + k) × IsPlace ms id k
placed_from [] id at i e = absurd (let no : None ≡ Some i = e in cc)
placed_from (m ∷ ms) id at i e = placed_step m ms id at (m.replica.id == id) refl (placed_from ms id (at + 1)) i e

absent_step : (m : Member) (ms : List Member) (id at : ℕ) (b : Bool) → (position_from (λ (x : Member). x.replica.id == id) (at + 1) ms ≡ None → member_of id ms ≡ None)
    → cond b (Some at) (position_from (λ (x : Member). x.replica.id == id) (at + 1) ms) ≡ None → cond b (Some m) (member_of id ms) ≡ None
absent_step m ms id at true next e = absurd (let no : Some at ≡ None = e in cc)
absent_step m ms id at false next e = next e

absent_from : (ms : List Member) (id at : ℕ) → position_from (λ (x : Member). x.replica.id == id) at ms ≡ None → member_of id ms ≡ None
absent_from [] id at e = refl
absent_from (m ∷ ms) id at e = absent_step m ms id at (m.replica.id == id) (absent_from ms id (at + 1)) e

-- where the search says so, the first member with the id stands
pub placed : (ms : List Member) (id : ℕ) (o : Option ℕ) → o ≡ position_from (λ (x : Member). x.replica.id == id) 0 ms → IsPlaceOf ms id o
placed ms id None e = absent_from ms id 0 (sym e)
placed ms id (Some i) e =
    let p = placed_from ms id 0 i (sym e) in
    let same : p.0 ≡ i = (let far : i ≡ 0 + p.0 = p.1 in omega arith) in
    subst (IsPlace ms id) same p.2

-- ---- what stands there

pub within : (ms : List Member) (id place : ℕ) → IsPlace ms id place → place < length ms
within [] id place h = absurd h
within (m ∷ ms) id zero h = omega arith
within (m ∷ ms) id (suc place) h = let rest : place < length ms = within ms id place h.1 in omega arith

pub some_within : (ms : List Member) (id : ℕ) (o : Option ℕ) → IsPlaceOf ms id o → IfSome o (λ place. place < length ms)
some_within ms id None h = tt
some_within ms id (Some place) h = within ms id place h

pub named : (ms : List Member) (id place : ℕ) (d : Member) → IsPlace ms id place → (get_or ms place d).replica.id ≡ id
named [] id place d h = absurd h
named (m ∷ ms) id zero d h = h
named (m ∷ ms) id (suc place) d h = named ms id place d h.1

pub found : (ms : List Member) (id place : ℕ) (d : Member) → IsPlace ms id place → member_of id ms ≡ Some (get_or ms place d)
found [] id place d h = absurd h
found (m ∷ ms) id zero d h = ap (λ b. cond b (Some m) (member_of id ms)) (eq-eqb m.replica.id id h)
found (m ∷ ms) id (suc place) d h = ap (λ b. cond b (Some m) (member_of id ms)) (ne_eqb m.replica.id id h.0) ∙ found ms id place d h.1

pub found_get : (ms : List Member) (id place : ℕ) → IsPlace ms id place → slice_get ms place ≡ member_of id ms
found_get [] id place h = absurd h
found_get (m ∷ ms) id zero h = sym (ap (λ b. cond b (Some m) (member_of id ms)) (eq-eqb m.replica.id id h))
found_get (m ∷ ms) id (suc place) h = found_get ms id place h.1 ∙ sym (ap (λ b. cond b (Some m) (member_of id ms)) (ne_eqb m.replica.id id h.0))

-- ---- a member in its place

pub still_placed : (ms : List Member) (id place : ℕ) (new : Member) → new.replica.id ≡ id → IsPlace ms id place → IsPlace (set ms place new) id place
still_placed [] id place new e h = absurd h
still_placed (m ∷ ms) id zero new e h = e
still_placed (m ∷ ms) id (suc place) new e h = (h.0, still_placed ms id place new e h.1)

pub set_there : (ms : List Member) (id place : ℕ) (new : Member) → new.replica.id ≡ id → IsPlace ms id place → member_of id (set ms place new) ≡ Some new
set_there [] id place new e h = absurd h
set_there (m ∷ ms) id zero new e h = ap (λ b. cond b (Some new) (member_of id ms)) (eq-eqb new.replica.id id e)
set_there (m ∷ ms) id (suc place) new e h = ap (λ b. cond b (Some m) (member_of id (set ms place new))) (ne_eqb m.replica.id id h.0) ∙ set_there ms id place new e h.1

pub set_beside : (ms : List Member) (id place n : ℕ) (new : Member) → new.replica.id ≡ id → (n ≡ id → ⊥) → IsPlace ms id place → member_of n (set ms place new) ≡ member_of n ms
set_beside [] id place n new e ne h = absurd h
set_beside (m ∷ ms) id zero n new e ne h =
    ap (λ b. cond b (Some new) (member_of n ms)) (ne_eqb new.replica.id n (λ is. ne (sym is ∙ e)))
    ∙ sym (ap (λ b. cond b (Some m) (member_of n ms)) (ne_eqb m.replica.id n (λ is. ne (sym is ∙ h))))
set_beside (m ∷ ms) id (suc place) n new e ne h = ap (λ o. cond (m.replica.id == n) (Some m) o) (set_beside ms id place n new e ne h.1)

-- ---- nodes

-- the member there is in its node's state
pub node_there : (ms : List Member) (nodes : ℕ → NodeState) (id place : ℕ) (m : Member) → IsPlace ms id place → AreNodes ms nodes → m ≡ get_or ms place m → IsAt m (nodes id)
node_there ms nodes id place m h are e =
    subst (λ (o : Option Member). IsNodeAt o (nodes id)) (found ms id place m h ∙ ap Some (sym e)) (are id)

pub named_there : (ms : List Member) (id place : ℕ) (m : Member) → IsPlace ms id place → m ≡ get_or ms place m → m.replica.id ≡ id
named_there ms id place m h e = ap (λ (x : Member). x.replica.id) e ∙ named ms id place m h

-- there is no such node
pub no_node : (ms : List Member) (nodes : ℕ → NodeState) (id : ℕ) → member_of id ms ≡ None → AreNodes ms nodes → nodes id ≡ Absent
no_node ms nodes id none are = subst (λ (o : Option Member). IsNodeAt o (nodes id)) none (are id)

with_step : (id n : ℕ) (b : Bool) (state : NodeState) (nodes : ℕ → NodeState) (o : Option Member) → (n == id) ≡ b → (n ≡ id → IsNodeAt o state) → ((n ≡ id → ⊥) → IsNodeAt o (nodes n))
    → IsNodeAt o (state_or b state (nodes n))
with_step id n true state nodes o is here others = here (eqb-true n id is)
with_step id n false state nodes o is here others = others (eqb-false n id is)

-- the nodes after one came into this state
pub nodes_with : (ms : List Member) (nodes : ℕ → NodeState) (id place : ℕ) (new : Member) (state : NodeState) → IsPlace ms id place → AreNodes ms nodes → new.replica.id ≡ id → IsAt new state
    → AreNodes (set ms place new) (with_node_state id state nodes)
nodes_with ms nodes id place new state h are e at n =
    with_step id n (n == id) state nodes (member_of n (set ms place new)) refl
    (λ is. subst (λ (o : Option Member). IsNodeAt o state) (sym (ap (λ k. member_of k (set ms place new)) is ∙ set_there ms id place new e h)) at)
    (λ ne. subst (λ (o : Option Member). IsNodeAt o (nodes n)) (sym (set_beside ms id place n new e ne h)) (are n))

-- the nodes after one came into this state, whose member stayed as it was
pub nodes_left : (ms : List Member) (nodes : ℕ → NodeState) (id place : ℕ) (m : Member) (state : NodeState) → IsPlace ms id place → AreNodes ms nodes → m ≡ get_or ms place m → IsAt m state
    → AreNodes ms (with_node_state id state nodes)
nodes_left ms nodes id place m state h are e at n =
    with_step id n (n == id) state nodes (member_of n ms) refl
    (λ is. subst (λ (o : Option Member). IsNodeAt o state) (sym (ap (λ k. member_of k ms) is ∙ found ms id place m h ∙ ap Some (sym e))) at)
    (λ ne. are n)

-- and again into another one
pub nodes_again : (ms : List Member) (nodes : ℕ → NodeState) (id place : ℕ) (new : Member) (before state : NodeState) → IsPlace ms id place → AreNodes ms (with_node_state id before nodes)
    → new.replica.id ≡ id → IsAt new state → AreNodes (set ms place new) (with_node_state id state nodes)
nodes_again ms nodes id place new before state h are e at n =
    with_step id n (n == id) state nodes (member_of n (set ms place new)) refl
    (λ is. subst (λ (o : Option Member). IsNodeAt o state) (sym (ap (λ k. member_of k (set ms place new)) is ∙ set_there ms id place new e h)) at)
    (λ ne.
    subst (λ (o : Option Member). IsNodeAt o (nodes n)) (sym (set_beside ms id place n new e ne h))
    (subst (λ b. IsNodeAt (member_of n ms) (state_or b before (nodes n))) (ne_eqb n id ne) (are n)))

-- a node that stays as it is
pub nodes_same : (ms : List Member) (nodes : ℕ → NodeState) (id : ℕ) (state : NodeState) → nodes id ≡ state → AreNodes ms nodes → AreNodes ms (with_node_state id state nodes)
nodes_same ms nodes id state same are n =
    with_step id n (n == id) state nodes (member_of n ms) refl
    (λ is. subst (IsNodeAt (member_of n ms)) (ap nodes is ∙ same) (are n))
    (λ ne. are n)
