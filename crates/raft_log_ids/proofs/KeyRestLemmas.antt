-- The front of keys, and their rest, are keys.
use Rattle.std.proofs.Common.{◌≡◌, ℕ, zero, suc, ◌+◌, ◌-◌, ◌<◌, ◌≤◌, false, List, [], ◌∷◌, length, set, get_or, take, drop, refl, ap, sym, subst, ◌∙◌, arith}
use Rattle.std.specs.declared.cmp.Ordering.{Ordering}
use Rattle.std.specs.declared.cmp.Ordering.TheVariants.{Less, Equal, Greater}
use Rattle.std.specs.Ordering.{is_eq, ordering_then, ordering_reverse, nat_cmp}
use Rattle.std.specs.Cmp.{IsTotalOrder}
use Rattle.std.proofs.lemmas.Cmp.{nat_cmp_total}
use Rattle.raft_values.specs.declared.vote.LeaderId.{LeaderId}
use Rattle.raft_values.specs.declared.log_id.LogId.{LogId}
use Rattle.raft_values.specs.Vote.{leader_cmp}
use Rattle.raft_log_ids.specs.LogIdList.{IsBelowNext, PlacesRise, ChangesLeader, LeadersChange, AreKeys}
use Rattle.raft_log_ids.proofs.KeyCutLemmas.{id_by}

equal_alone : (o : Ordering) → o ≡ ordering_reverse o → o ≡ Equal
equal_alone Less e = cc
equal_alone Equal e = refl
equal_alone Greater e = cc

itself : {X : Type 0} (cmp : X → X → Ordering) → IsTotalOrder cmp → (x : X) → cmp x x ≡ Equal
itself cmp order x = equal_alone (cmp x x) (order.antisymm x x)

module _ {K : Type 0} where
  below-take : (key : LogId K) (n : ℕ) (keys : List (LogId K)) → IsBelowNext key keys → IsBelowNext key (take n keys)
  below-take key zero keys h = tt
  below-take key (suc n) [] h = tt
  below-take key (suc n) (next ∷ keys) h = h

  places-take : (n : ℕ) (keys : List (LogId K)) → PlacesRise keys → PlacesRise (take n keys)
  places-take zero keys h = tt
  places-take (suc n) [] h = tt
  places-take (suc n) (key ∷ keys) h = (below-take key n keys h.0, places-take n keys h.1)

  places-pair : (keys : List (LogId K)) (i : ℕ) (key id : LogId K) → PlacesRise keys → key ≡ get_or keys i key → suc i < length keys → key.index < id.index → PlacesRise (take (suc (suc i)) (set keys (suc i) id))
  places-pair [] i key id h e l m = absurd (omega arith)
  places-pair (first ∷ []) i key id h e l m = absurd (omega arith)
  places-pair (first ∷ next ∷ keys) zero key id h e l m = (subst (λ (x : LogId K). x.index < id.index) e m, (tt, tt))
  places-pair (first ∷ next ∷ keys) (suc i) key id h e l m = (h.0, places-pair (next ∷ keys) i key id h.1 e (omega arith) m)

  below-rest : (at : ℕ) (leader : LeaderId K) (keys : List (LogId K)) → ((d : LogId K) → 0 < length keys → at < (get_or keys 0 d).index) → IsBelowNext (id_by leader at) keys
  below-rest at leader [] h = tt
  below-rest at leader (next ∷ keys) h = h next (omega arith)

  pub places-rest : (keys : List (LogId K)) (i : ℕ) (leader : LeaderId K) (at : ℕ) → PlacesRise keys → i < length keys
      → ((d : LogId K) → suc i < length keys → at < (get_or keys (suc i) d).index) → PlacesRise (id_by leader at ∷ drop (suc i) keys)
  places-rest [] i leader at h l m = absurd (omega arith)
  places-rest (first ∷ keys) zero leader at h l m = (below-rest at leader keys (λ d n. m d (omega arith)), h.1)
  places-rest (first ∷ keys) (suc i) leader at h l m = places-rest keys i leader at h.1 (omega arith) (λ d n. m d (omega arith))

module _ {K : Type 0} (cmp : K → K → Ordering) (order : IsTotalOrder cmp) where
  same_term : (a : LeaderId K) (o : Ordering) → o ≡ Equal → ordering_then o (cmp a.node_id a.node_id) ≡ Equal
  same_term a o e = rw e (itself cmp order a.node_id)

  -- a leader compares equal to itself
  pub same_leader-equal : (a : LeaderId K) → leader_cmp cmp a a ≡ Equal
  same_leader-equal a = same_term a (nat_cmp a.term a.term) (itself nat_cmp nat_cmp_total a.term)

module _ {K : Type 0} (cmp : K → K → Ordering) where
  changes-take : (key : LogId K) (n : ℕ) (keys : List (LogId K)) → ChangesLeader cmp key keys → ChangesLeader cmp key (take n keys)
  changes-take key zero keys h = tt
  changes-take key (suc n) [] h = tt
  changes-take key (suc zero) (next ∷ keys) h = tt
  changes-take key (suc (suc n)) (next ∷ []) h = tt
  changes-take key (suc (suc n)) (next ∷ later ∷ keys) h = h

  leaders-take : (n : ℕ) (keys : List (LogId K)) → LeadersChange cmp keys → LeadersChange cmp (take n keys)
  leaders-take zero keys h = tt
  leaders-take (suc n) [] h = tt
  leaders-take (suc n) (key ∷ keys) h = (changes-take key n keys h.0, leaders-take n keys h.1)

  -- the front of keys
  pub AreKeys-take : (n : ℕ) (keys : List (LogId K)) → AreKeys cmp keys → AreKeys cmp (take n keys)
  AreKeys-take n keys h = (places-take n keys h.0, leaders-take n keys h.1)

  -- the rest of keys
  pub AreKeys-drop : (n : ℕ) (keys : List (LogId K)) → AreKeys cmp keys → AreKeys cmp (drop n keys)
  AreKeys-drop zero keys h = h
  AreKeys-drop (suc n) [] h = (tt, tt)
  AreKeys-drop (suc n) (key ∷ keys) h = AreKeys-drop n keys (h.0.1, h.1.1)

  leaders-pair : (keys : List (LogId K)) (i : ℕ) (id : LogId K) → LeadersChange cmp keys → suc i < length keys → LeadersChange cmp (take (suc (suc i)) (set keys (suc i) id))
  leaders-pair [] i id h l = absurd (omega arith)
  leaders-pair (first ∷ []) i id h l = absurd (omega arith)
  leaders-pair (first ∷ next ∷ keys) zero id h l = (tt, (tt, tt))
  leaders-pair (first ∷ next ∷ []) (suc i) id h l = absurd (omega arith)
  leaders-pair (first ∷ next ∷ later ∷ keys) (suc zero) id h l = (h.0, leaders-pair (next ∷ later ∷ keys) zero id h.1 (omega arith))
  leaders-pair (first ∷ next ∷ later ∷ keys) (suc (suc i)) id h l = (h.0, leaders-pair (next ∷ later ∷ keys) (suc i) id h.1 (omega arith))

  -- the front of keys, and behind it one more log id
  pub AreKeys-pair : (keys : List (LogId K)) (count : ℕ) (key id : LogId K) → AreKeys cmp keys → 0 < count → count < length keys → key ≡ get_or keys (count - 1) key
      → key.index < id.index → AreKeys cmp (take (count + 1) (set keys count id))
  AreKeys-pair keys zero key id h l m e n = absurd (omega arith)
  AreKeys-pair keys (suc i) key id h l m e n =
      let back : suc i - 1 ≡ i = omega arith in
      let more : suc i + 1 ≡ suc (suc i) = omega arith in
      let here : key ≡ get_or keys i key = e ∙ ap (λ n. get_or keys n key) back in
      rw more (places-pair keys i key id h.0 here m n, leaders-pair keys i id h.1 m)

  changes-by : (a b : LogId K) (keys : List (LogId K)) → a.leader_id ≡ b.leader_id → ChangesLeader cmp a keys → ChangesLeader cmp b keys
  changes-by a b [] e h = tt
  changes-by a b (next ∷ []) e h = tt
  changes-by a b (next ∷ later ∷ keys) e h = subst (λ x. is_eq (leader_cmp cmp x next.leader_id) ≡ false) e h

  leaders-rest : (keys : List (LogId K)) (i : ℕ) (key : LogId K) (at : ℕ) → LeadersChange cmp keys → i < length keys → key ≡ get_or keys i key → LeadersChange cmp (id_by key.leader_id at ∷ drop (suc i) keys)
  leaders-rest [] i key at h l e = absurd (omega arith)
  leaders-rest (first ∷ keys) zero key at h l e = (changes-by first (id_by key.leader_id at) keys (ap (λ (x : LogId K). x.leader_id) (sym e)) h.0, h.1)
  leaders-rest (first ∷ keys) (suc i) key at h l e = leaders-rest keys i key at h.1 (omega arith) e

  -- the rest of keys, and before it a log id of the leader before
  pub AreKeys-rest : (keys : List (LogId K)) (count : ℕ) (key : LogId K) (at : ℕ) → AreKeys cmp keys → 0 < count → count ≤ length keys → key ≡ get_or keys (count - 1) key
      → ((d : LogId K) → count < length keys → at < (get_or keys count d).index) → AreKeys cmp (id_by key.leader_id at ∷ drop count keys)
  AreKeys-rest keys zero key at h l m e n = absurd (omega arith)
  AreKeys-rest keys (suc i) key at h l m e n =
      let back : suc i - 1 ≡ i = omega arith in
      (places-rest keys i key.leader_id at h.0 (omega arith) n, leaders-rest keys i key at h.1 (omega arith) (e ∙ ap (λ n. get_or keys n key) back))
