-- Ids that were read are in rising order.
use Rattle.std.proofs.Common.{◌≡◌, ℕ, zero, suc, ◌<◌, ◌≤◌, cond, List, [], ◌∷◌, map, Option, Some, None, Ok, Err, sym, subst, arith}
use Rattle.std.specs.declared.cmp.Ordering.TheVariants.{Less}
use Rattle.std.specs.Ordering.{nat_cmp}
use Rattle.std.specs.Cmp.{nat_cmp_is}
use Rattle.std.specs.Int.{w64}
use Rattle.raft_quorums.specs.Rising.{IsBelowAll, IsRising, IsRisingByFirst}
use Rattle.raft_wire.specs.declared.error.FrameFault.TheVariants as fault
use Rattle.raft_wire.specs.Reader.{Reader, ◌>>=◌, number_at, many_at}
use Rattle.raft_wire.specs.Memberships.{Chained, is_above, IsAbove, id_above, that_id, address_at, node_above, that_node}
use Rattle.raft_bytes.proofs.Bytes.{bind_ok, passed_ok, ok_is}
use Rattle.raft_wire.proofs.Values.{above}

-- what holds of each value that is read holds in a list that is read
many_chain : {A : Type 0} (one : Option ℕ → Reader A) (left : A → Option ℕ) (Is : Option ℕ → A → Type 0) → ((last : Option ℕ) (bytes : List ℕ) (x : A × List ℕ) → one last bytes ≡ Ok x → Is last x.0)
    → (n : ℕ) (last : Option ℕ) (bytes : List ℕ) (x : List A × List ℕ) → many_at one left n last bytes ≡ Ok x → Chained Is left last x.0
unfolding many_at
many_chain {A} one left Is each zero last bytes x e = subst (λ (y : List A × List ℕ). Chained Is left last y.0) (ok_is ([], bytes) x e) tt
many_chain {A} one left Is each (suc n) last bytes x e =
    let a = bind_ok (one last bytes) (λ first. many_at one left n (left first.0) first.1 >>= λ others. Ok (first.0 ∷ others.0, others.1)) x e in
    let b = bind_ok (many_at one left n (left a.0.0) a.0.1) (λ others. Ok (a.0.0 ∷ others.0, others.1)) x a.2 in
    let made : List A × List ℕ = (a.0.0 ∷ b.0.0, b.0.1) in
    subst (λ (y : List A × List ℕ). Chained Is left last y.0) (ok_is made x b.2) (each last bytes a.0 a.1, many_chain one left Is each n (left a.0.0) a.0.1 b.0 b.1)

id_is_above : (last : Option ℕ) (bytes : List ℕ) (x : ℕ × List ℕ) → id_above last bytes ≡ Ok x → IsAbove last x.0
unfolding id_above
id_is_above last bytes x e =
    let a = bind_ok (number_at w64 bytes) (λ a. cond (is_above last a.0) (Ok a) (Err fault.NotRising)) x e in
    let g = passed_ok (is_above last a.0.0) fault.NotRising a.0 x a.2 in
    subst (λ (y : ℕ × List ℕ). IsAbove last y.0) g.1 (above last a.0.0 g.0)

node_is_above : (last : Option ℕ) (bytes : List ℕ) (x : (ℕ × List ℕ) × List ℕ) → node_above last bytes ≡ Ok x → IsAbove last x.0.0
unfolding node_above
node_is_above last bytes x e =
    let a = bind_ok (id_above last bytes) (λ a. address_at a.1 >>= λ b. Ok ((a.0, b.0), b.1)) x e in
    let b = bind_ok (address_at a.0.1) (λ b. Ok ((a.0.0, b.0), b.1)) x a.2 in
    let made : (ℕ × List ℕ) × List ℕ = ((a.0.0, b.0.0), b.0.1) in
    subst (λ (y : (ℕ × List ℕ) × List ℕ). IsAbove last y.0.0) (ok_is made x b.2) (id_is_above last bytes a.0 a.1)

below_all : (x y : ℕ) (ids : List ℕ) → x ≤ y → Chained IsAbove that_id (Some y) ids → IsBelowAll nat_cmp x ids
below_all x y [] le h = tt
below_all x y (z ∷ ids) le h =
    let lt : x < z = omega (arith, h.0) in
    (sym (nat_cmp_is x z Less lt), below_all x z ids (omega arith) h.1)

rising : (last : Option ℕ) (ids : List ℕ) → Chained IsAbove that_id last ids → IsRising nat_cmp ids
rising last [] h = tt
rising last (x ∷ ids) h = (below_all x x ids (omega arith) h.1, rising (Some x) ids h.1)

firsts : (last : Option ℕ) (nodes : List (ℕ × List ℕ)) → Chained (λ last node. IsAbove last node.0) that_node last nodes → Chained IsAbove that_id last (map (λ (p : ℕ × List ℕ). p.0) nodes)
firsts last [] h = tt
firsts last (node ∷ nodes) h = (h.0, firsts (Some node.0) nodes h.1)

pub ids_rise : (n : ℕ) (bytes : List ℕ) (x : List ℕ × List ℕ) → many_at id_above that_id n None bytes ≡ Ok x → IsRising nat_cmp x.0
ids_rise n bytes x e = rising None x.0 (many_chain id_above that_id IsAbove id_is_above n None bytes x e)

pub nodes_rise : (n : ℕ) (bytes : List ℕ) (x : List (ℕ × List ℕ) × List ℕ) → many_at node_above that_node n None bytes ≡ Ok x → IsRisingByFirst nat_cmp x.0
nodes_rise n bytes x e =
    rising None (map (λ (p : ℕ × List ℕ). p.0) x.0) (firsts None x.0 (many_chain node_above that_node (λ last node. IsAbove last node.0) node_is_above n None bytes x e))
