-- Lists that stand side by side, and the first node of an id.
use Rattle.std.proofs.Common.{◌≡◌, ◌+◌, ℕ, zero, suc, eqb, Bool, true, false, cond, not, List, [], ◌∷◌, ◌++◌, Some, None, length, map, nat_lt, position, slice_get, refl, sym, ap, ◌∙◌, subst, arith, eqb-true}
use Rattle.std.proofs.lemmas.Bool.{eq-eqb}
use Rattle.std.specs.List.{AllByRecursion, AllZip, position_or_len}
use Rattle.std.specs.Prelude.{slice_set}
use Rattle.raft_cluster_events.specs.Node.{NodeActs}
use Rattle.raft_cluster.specs.Cluster.{with_node}
use Rattle.raft_cluster.specs.Facts.{node_in, place_in}

-- ---- side by side

pub all_zip_append : {A B : Type 0} (R : A → B → Type 0) (xs us : List A) (ys vs : List B) → AllZip R xs ys → AllZip R us vs → AllZip R (xs ++ us) (ys ++ vs)
all_zip_append R [] us [] vs h k = k
all_zip_append R [] us (y ∷ ys) vs h k = absurd h
all_zip_append R (x ∷ xs) us [] vs h k = absurd h
all_zip_append R (x ∷ xs) us (y ∷ ys) vs h k = (h.0, all_zip_append R xs us ys vs h.1 k)

pub record HasBeside {A B : Type 0} (R : A → B → Type 0) (ys : List B) (k : ℕ) (x : A) : Type 0 where
  pub other : B
  pub stands : slice_get ys k ≡ Some other
  pub related : R x other

pub beside : {A B : Type 0} (R : A → B → Type 0) (xs : List A) (ys : List B) → AllZip R xs ys → (k : ℕ) (x : A) → slice_get xs k ≡ Some x → HasBeside R ys k x
beside R [] ys h k x e = absurd (cc)
beside R (a ∷ rest) [] h k x e = absurd h
beside R (a ∷ rest) (b ∷ bs) h zero x e =
    let same : a ≡ x = cc in record { other = b; stands = refl; related = subst (λ z. R z b) same h.0 }
beside R (a ∷ rest) (b ∷ bs) h (suc k) x e =
    let b = beside R rest bs h.1 k x e in record { other = b.other; stands = b.stands; related = b.related }

pub all_of : {A : Type 0} (P : A → Type 0) → ((x : A) → P x) → (xs : List A) → AllByRecursion P xs
all_of P f [] = tt
all_of P f (x ∷ xs) = (f x, all_of P f xs)

pub all_push : {A : Type 0} (P : A → Type 0) (xs : List A) (x : A) → AllByRecursion P xs → P x → AllByRecursion P (xs ++ x ∷ [])
all_push P [] x all one = (one, tt)
all_push P (y ∷ ys) x all one = (all.0, all_push P ys x all.1 one)

at_position : {A : Type 0} (p : A → Bool) (xs : List A) (i : ℕ) → position p xs ≡ Some i → i ≡ position_or_len p xs
at_position p xs i e = go (nat_lt (position_or_len p xs) (length xs)) e
  where
    go : (b : Bool) → cond b (Some (position_or_len p xs)) None ≡ Some i → i ≡ position_or_len p xs
    go true is = cc
    go false is = absurd (cc)

-- ---- nodes

other_id : (a n m : ℕ) → a ≡ n → eqb m n ≡ false → eqb a m ≡ false
other_id a n m is other = grind arith

module _ {N : Type 0} (acts : NodeActs N) where
  pub its_id : (nodes : List N) (n : ℕ) (node : N) → node_in acts nodes n ≡ Some node → acts.id node ≡ n
  its_id [] n node e = absurd (cc)
  its_id (x ∷ xs) n node e = go (eqb (acts.id x) n) refl (its_id xs n node) e
    where
      go : (b : Bool) → eqb (acts.id x) n ≡ b → (node_in acts xs n ≡ Some node → acts.id node ≡ n) → cond b (Some x) (node_in acts xs n) ≡ Some node → acts.id node ≡ n
      go true is more there = let same : x ≡ node = cc in subst (λ y. acts.id y ≡ n) same (eqb-true (acts.id x) n is)
      go false is more there = more there

  pub found_new : (nodes : List N) (n : ℕ) (new before : N) → acts.id new ≡ n → node_in acts nodes n ≡ Some before → node_in acts (with_node acts n new nodes) n ≡ Some new
  found_new [] n new before is e = absurd (cc)
  found_new (x ∷ xs) n new before is e = go (eqb (acts.id x) n) refl (found_new xs n new before is) e
    where
      go : (b : Bool) → eqb (acts.id x) n ≡ b → (node_in acts xs n ≡ Some before → node_in acts (with_node acts n new xs) n ≡ Some new)
          → cond b (Some x) (node_in acts xs n) ≡ Some before → node_in acts (cond b (new ∷ xs) (x ∷ with_node acts n new xs)) n ≡ Some new
      go true at more there = ap (λ c. cond c (Some new) (node_in acts xs n)) (eq-eqb (acts.id new) n is)
      go false at more there = ap (λ c. cond c (Some x) (node_in acts (with_node acts n new xs) n)) at ∙ more there

  pub found_other : (nodes : List N) (n m : ℕ) (new : N) → acts.id new ≡ n → eqb m n ≡ false → node_in acts (with_node acts n new nodes) m ≡ node_in acts nodes m
  found_other [] n m new is other = refl
  found_other (x ∷ xs) n m new is other = go (eqb (acts.id x) n) refl (found_other xs n m new is other)
    where
      go : (b : Bool) → eqb (acts.id x) n ≡ b → node_in acts (with_node acts n new xs) m ≡ node_in acts xs m
          → node_in acts (cond b (new ∷ xs) (x ∷ with_node acts n new xs)) m ≡ cond (eqb (acts.id x) m) (Some x) (node_in acts xs m)
      go true at more =
          ap (λ c. cond c (Some new) (node_in acts xs m)) (other_id (acts.id new) n m is other)
          ∙ sym (ap (λ c. cond c (Some x) (node_in acts xs m)) (other_id (acts.id x) n m (eqb-true (acts.id x) n at) other))
      go false at more = ap (λ o. cond (eqb (acts.id x) m) (Some x) o) more

  pub ids_kept : (nodes : List N) (n : ℕ) (new : N) → acts.id new ≡ n → map acts.id (with_node acts n new nodes) ≡ map acts.id nodes
  ids_kept [] n new is = refl
  ids_kept (x ∷ xs) n new is = go (eqb (acts.id x) n) refl (ids_kept xs n new is)
    where
      go : (b : Bool) → eqb (acts.id x) n ≡ b → map acts.id (with_node acts n new xs) ≡ map acts.id xs → map acts.id (cond b (new ∷ xs) (x ∷ with_node acts n new xs)) ≡ acts.id x ∷ map acts.id xs
      go true at more = ap (λ i. i ∷ map acts.id xs) (is ∙ sym (eqb-true (acts.id x) n at))
      go false at more = ap (λ l. acts.id x ∷ l) more

  -- where the first node of the id stands another one is put
  pub put_first : (nodes : List N) (n : ℕ) (new : N) → slice_set nodes (position_or_len (λ node. eqb (acts.id node) n) nodes) new ≡ with_node acts n new nodes
  put_first [] n new = refl
  put_first (x ∷ xs) n new = go (eqb (acts.id x) n) (put_first xs n new)
    where
      go : (b : Bool) → slice_set xs (position_or_len (λ node. eqb (acts.id node) n) xs) new ≡ with_node acts n new xs
          → slice_set (x ∷ xs) (cond (not b) (1 + position_or_len (λ node. eqb (acts.id node) n) xs) 0) new ≡ cond b (new ∷ xs) (x ∷ with_node acts n new xs)
      go true more = refl
      go false more =
          let next : 1 + position_or_len (λ node. eqb (acts.id node) n) xs ≡ suc (position_or_len (λ node. eqb (acts.id node) n) xs) = omega arith in
          ap (λ k. slice_set (x ∷ xs) k new) next ∙ ap (λ l. x ∷ l) more

  pub put_at_place : (nodes : List N) (id place : ℕ) (new before : N) → Some place ≡ place_in acts nodes (Some id) → node_in acts nodes id ≡ Some before → slice_set nodes place new ≡ with_node acts (acts.id before) new nodes
  put_at_place nodes id place new before first found =
      ap (λ k. slice_set nodes k new) (at_position (λ node. eqb (acts.id node) id) nodes place (sym first)) ∙ put_first nodes id new
      ∙ ap (λ i. with_node acts i new nodes) (sym (its_id nodes id before found))
