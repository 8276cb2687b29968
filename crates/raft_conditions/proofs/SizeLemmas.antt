-- How many ids and nodes there are where some come in, and whether all of them pass a test.
use Rattle.std.proofs.Common.{◌≡◌, ℕ, suc, ◌+◌, Bool, true, false, cond, List, [], ◌∷◌, length, map, refl, ap, sym, ◌∙◌, subst, arith}
use Rattle.std.specs.Prelude.{◌&&◌, ◌||◌, not, nat_eq, count_by, if◌then◌else◌}
use Rattle.std.specs.declared.cmp.Ordering.TheVariants.{Less, Equal, Greater}
use Rattle.std.specs.Ordering.{nat_cmp, match_ordering, is_eq}
use Rattle.std.specs.List.{list_all}
use Rattle.std.specs.BTreeSet.{insert_key}
use Rattle.std.proofs.Math.Bool.{and-true, and_assoc, and_comm, and_self_left, or-false, or_assoc, or_self_left}
use Rattle.std.proofs.lemmas.Bool.{eqb-true, or_parts}
use Rattle.std.proofs.lemmas.Cmp.{nat_cmp_total, nat_eq_equiv}
use Rattle.std.proofs.lemmas.Map.Lookups.{exact_unsigned}
use Rattle.std.proofs.lemmas.Bool.Decides.{nat_tests}
use Rattle.raft_membership.proofs.FaultLemmas.{or_swap}
use Rattle.raft_quorums.specs.Nodes.{has_id, has_node, with_ids, with_node, with_nodes, with_new_node, with_new_nodes}
use Rattle.raft_quorums.specs.Rising.{IsBelowAll, IsRising, IsRisingByFirst}
use Rattle.raft_quorums.specs.RisingLaws.{below_is_absent, below_trans, rising_insert_key}
use Rattle.raft_quorums.specs.QuorumLaws.{and_left, and_right, count_more}
use Rattle.raft_quorums.proofs.PlaceLemmas.{rising-with_node}
use Rattle.raft_membership.proofs.FaultLemmas.{has_with_new_nodes}
use Rattle.raft_membership.specs.MembershipChange.{without_nodes}
use Rattle.std.proofs.lemmas.List.Sums.{length-filter}
use Rattle.raft_group_step.specs.Limits.{are_few_nodes, is_short_address}
use Rattle.raft_conditions.specs.Fitting.{are_fit_nodes}

-- ---- numbers in order

eq_by_order : (x y : ℕ) → nat_eq x y ≡ is_eq (nat_cmp x y)
eq_by_order x y = grind (arith, nat_tests)

less_apart : (x y : ℕ) → nat_cmp x y ≡ Less → nat_eq x y ≡ false
less_apart x y e = eq_by_order x y ∙ ap is_eq e

greater_apart : (x y : ℕ) → nat_cmp y x ≡ Greater → nat_eq x y ≡ false
greater_apart x y e = grind (arith, nat_tests)

other_way : (x y : ℕ) → nat_cmp x y ≡ Greater → nat_eq x y ≡ false
other_way x y e = eq_by_order x y ∙ ap is_eq e

absent : (k : ℕ) (xs : List ℕ) → IsBelowAll nat_cmp k xs → has_id nat_eq xs k ≡ false
absent k xs h = below_is_absent nat_cmp_total eq_by_order k xs h

and_turn : (a b c : Bool) → ((a && b) && c) ≡ (b && (a && c))
and_turn a b c = ap (λ x. x && c) (and_comm a b) ∙ and_assoc b a c

and_swap : (a b c : Bool) → (b && (a && c)) ≡ (a && (b && c))
and_swap a b c = sym (and_turn a b c) ∙ and_assoc a b c

-- ---- one id that comes in

-- it is there beside the others
has-insert_key : (xs : List ℕ) (k j : ℕ) → has_id nat_eq (insert_key nat_cmp xs k) j ≡ (nat_eq k j || has_id nat_eq xs j)
has-insert_key [] k j = refl
has-insert_key (x ∷ xs) k j =
    elim (nat_cmp k x) as (λ o. nat_cmp k x ≡ o → has_id nat_eq (match_ordering o (k ∷ x ∷ xs) (x ∷ xs) (x ∷ insert_key nat_cmp xs k)) j
    ≡ (nat_eq k j || (nat_eq x j || has_id nat_eq xs j))) [
      | Less ↦ λ e. refl
      | Equal ↦ λ e. sym (or_self_left (nat_eq x j) (has_id nat_eq xs j)) ∙ ap (λ i. nat_eq i j || (nat_eq x j || has_id nat_eq xs j)) (sym (exact_unsigned k x e))
      | Greater ↦ λ e. ap (λ b. nat_eq x j || b) (has-insert_key xs k j) ∙ or_swap (nat_eq k j) (nat_eq x j) (has_id nat_eq xs j)
    ] refl

-- one that isn't there makes one more
length-insert_key : (xs : List ℕ) (k : ℕ) → IsRising nat_cmp xs → length (insert_key nat_cmp xs k) ≡ length xs + cond (not (has_id nat_eq xs k)) 1 0
length-insert_key [] k h = refl
length-insert_key (x ∷ xs) k h =
    elim (nat_cmp k x) as (λ o. nat_cmp k x ≡ o → length (match_ordering o (k ∷ x ∷ xs) (x ∷ xs) (x ∷ insert_key nat_cmp xs k))
    ≡ suc (length xs) + cond (not (nat_eq x k || has_id nat_eq xs k)) 1 0) [
      | Less ↦ λ e.
          let none : has_id nat_eq (x ∷ xs) k ≡ false = absent k (x ∷ xs) (e, below_trans nat_cmp_total k x xs e h.0) in
          rw none (omega arith)
      | Equal ↦ λ e.
          let there : nat_eq x k ≡ true = ap (nat_eq x) (exact_unsigned k x e) ∙ nat_eq_equiv.refl x in
          rw there (omega arith)
      | Greater ↦ λ e.
          let apart : nat_eq x k ≡ false = greater_apart x k e in
          rw (apart, length-insert_key xs k h.1) (omega arith)
    ] refl

-- one that is there leaves them as they are
insert_key-there : (xs : List ℕ) (k : ℕ) → IsRising nat_cmp xs → has_id nat_eq xs k ≡ true → insert_key nat_cmp xs k ≡ xs
insert_key-there [] k h there = cc there
insert_key-there (x ∷ xs) k h there =
    elim (nat_cmp k x) as (λ o. nat_cmp k x ≡ o → match_ordering o (k ∷ x ∷ xs) (x ∷ xs) (x ∷ insert_key nat_cmp xs k) ≡ x ∷ xs) [
      | Less ↦ λ e.
          let none : has_id nat_eq (x ∷ xs) k ≡ false = absent k (x ∷ xs) (e, below_trans nat_cmp_total k x xs e h.0) in cc (there, none)
      | Equal ↦ λ e. refl
      | Greater ↦ λ e.
          let apart : nat_eq x k ≡ false = greater_apart x k e in
          ap (λ l. x ∷ l) (insert_key-there xs k h.1 (ap (λ b. b || has_id nat_eq xs k) (sym apart) ∙ there))
    ] refl

module _ (p : ℕ → Bool) where
  -- all pass where those that are there and the one that comes in do
  all-insert_key : (xs : List ℕ) (k : ℕ) → list_all p (insert_key nat_cmp xs k) ≡ (p k && list_all p xs)
  all-insert_key [] k = refl
  all-insert_key (x ∷ xs) k =
      elim (nat_cmp k x) as (λ o. nat_cmp k x ≡ o → list_all p (match_ordering o (k ∷ x ∷ xs) (x ∷ xs) (x ∷ insert_key nat_cmp xs k))
      ≡ (p k && (p x && list_all p xs))) [
        | Less ↦ λ e. refl
        | Equal ↦ λ e. sym (and_self_left (p x) (list_all p xs)) ∙ ap (λ i. p i && (p x && list_all p xs)) (sym (exact_unsigned k x e))
        | Greater ↦ λ e. ap (λ b. p x && b) (all-insert_key xs k) ∙ and_swap (p k) (p x) (list_all p xs)
      ] refl

  pub all-with_ids : (ids xs : List ℕ) → list_all p (with_ids nat_cmp xs ids) ≡ (list_all p xs && list_all p ids)
  all-with_ids [] xs = sym (and-true (list_all p xs))
  all-with_ids (k ∷ ids) xs =
      all-with_ids ids (insert_key nat_cmp xs k)
      ∙ ap (λ b. b && list_all p ids) (all-insert_key xs k)
      ∙ and_turn (p k) (list_all p xs) (list_all p ids)

-- ---- ids that come in

-- an id below the others is no matter for them
new_above : (xs : List ℕ) (k : ℕ) (ids : List ℕ) → IsBelowAll nat_cmp k ids
    → count_by (λ id. not (has_id nat_eq (insert_key nat_cmp xs k) id)) ids ≡ count_by (λ id. not (has_id nat_eq xs id)) ids
new_above xs k [] h = refl
new_above xs k (id ∷ ids) h =
    count_more (λ i. not (has_id nat_eq (insert_key nat_cmp xs k) i)) id ids
    ∙ ap (λ b. cond (not b) 1 0 + count_by (λ i. not (has_id nat_eq (insert_key nat_cmp xs k) i)) ids) (has-insert_key xs k id ∙ ap (λ b. b || has_id nat_eq xs id) (less_apart k id h.0))
    ∙ ap (λ n. cond (not (has_id nat_eq xs id)) 1 0 + n) (new_above xs k ids h.1)
    ∙ sym (count_more (λ i. not (has_id nat_eq xs i)) id ids)

-- so many more as are new
pub length-with_ids : (ids xs : List ℕ) → IsRising nat_cmp xs → IsRising nat_cmp ids
    → length (with_ids nat_cmp xs ids) ≡ length xs + count_by (λ id. not (has_id nat_eq xs id)) ids
length-with_ids [] xs h k = omega arith
length-with_ids (id ∷ ids) xs h k =
    let rest = length-with_ids ids (insert_key nat_cmp xs id) (rising_insert_key nat_cmp_total id xs h) k.1 in
    let one = length-insert_key xs id h in
    let same = new_above xs id ids k.0 in
    let more = count_more (λ i. not (has_id nat_eq xs i)) id ids in
    omega arith

-- where all are there already, the ids stay
pub with_ids-there : (ids xs : List ℕ) → IsRising nat_cmp xs → list_all (has_id nat_eq xs) ids ≡ true → with_ids nat_cmp xs ids ≡ xs
with_ids-there [] xs h there = refl
with_ids-there (id ∷ ids) xs h there =
    let here : has_id nat_eq xs id ≡ true = and_left (has_id nat_eq xs id) (list_all (has_id nat_eq xs) ids) there in
    let rest : list_all (has_id nat_eq xs) ids ≡ true = and_right (has_id nat_eq xs id) (list_all (has_id nat_eq xs) ids) there in
    ap (λ l. with_ids nat_cmp l ids) (insert_key-there xs id h here) ∙ with_ids-there ids xs h rest

-- ---- the ids of nodes that come in

abbrev pub ids_of : List (ℕ × List ℕ) → List ℕ
ids_of nodes = map (λ (x : ℕ × List ℕ). x.0) nodes

pub has-ids : (nodes : List (ℕ × List ℕ)) (id : ℕ) → has_node nat_eq nodes id ≡ has_id nat_eq (ids_of nodes) id
has-ids [] id = refl
has-ids (x ∷ xs) id = ap (λ b. nat_eq x.0 id || b) (has-ids xs id)

ids-with_node : (nodes : List (ℕ × List ℕ)) (id : ℕ) (node : List ℕ) → ids_of (with_node nat_cmp nodes id node) ≡ insert_key nat_cmp (ids_of nodes) id
ids-with_node [] id node = refl
ids-with_node (x ∷ xs) id node =
    elim (nat_cmp id x.0) as (λ o. nat_cmp id x.0 ≡ o → ids_of (match_ordering o ((id, node) ∷ x ∷ xs) ((id, node) ∷ xs) (x ∷ with_node nat_cmp xs id node))
    ≡ match_ordering o (id ∷ x.0 ∷ ids_of xs) (x.0 ∷ ids_of xs) (x.0 ∷ insert_key nat_cmp (ids_of xs) id)) [
      | Less ↦ λ e. refl
      | Equal ↦ λ e. ap (λ i. i ∷ ids_of xs) (exact_unsigned id x.0 e)
      | Greater ↦ λ e. ap (λ l. x.0 ∷ l) (ids-with_node xs id node)
    ] refl

pub ids-with_nodes : (news nodes : List (ℕ × List ℕ)) → ids_of (with_nodes nat_cmp nodes news) ≡ with_ids nat_cmp (ids_of nodes) (ids_of news)
ids-with_nodes [] nodes = refl
ids-with_nodes (n ∷ news) nodes =
    ids-with_nodes news (with_node nat_cmp nodes n.0 n.1) ∙ ap (λ l. with_ids nat_cmp l (ids_of news)) (ids-with_node nodes n.0 n.1)

ids-with_new_node : (nodes : List (ℕ × List ℕ)) (id : ℕ) (node : List ℕ) → IsRisingByFirst nat_cmp nodes
    → ids_of (with_new_node nat_eq nat_cmp nodes id node) ≡ insert_key nat_cmp (ids_of nodes) id
ids-with_new_node nodes id node h =
    elim (has_node nat_eq nodes id) as (λ b. has_node nat_eq nodes id ≡ b → ids_of (if b then nodes else with_node nat_cmp nodes id node) ≡ insert_key nat_cmp (ids_of nodes) id) [
      | true ↦ λ e. sym (insert_key-there (ids_of nodes) id h (sym (has-ids nodes id) ∙ e))
      | false ↦ λ e. ids-with_node nodes id node
    ] refl

pub ids-with_new_nodes : (news nodes : List (ℕ × List ℕ)) → IsRisingByFirst nat_cmp nodes
    → ids_of (with_new_nodes nat_eq nat_cmp nodes news) ≡ with_ids nat_cmp (ids_of nodes) (ids_of news)
ids-with_new_nodes [] nodes h = refl
ids-with_new_nodes (n ∷ news) nodes h =
    let one = ids-with_new_node nodes n.0 n.1 h in
    ids-with_new_nodes news (with_new_node nat_eq nat_cmp nodes n.0 n.1) (subst (IsRising nat_cmp) (sym one) (rising_insert_key nat_cmp_total n.0 (ids_of nodes) h))
    ∙ ap (λ l. with_ids nat_cmp l (ids_of news)) one

length-ids : (nodes : List (ℕ × List ℕ)) → length (ids_of nodes) ≡ length nodes
length-ids [] = refl
length-ids (x ∷ xs) = ap suc (length-ids xs)

count-ids : (nodes news : List (ℕ × List ℕ)) → count_by (λ id. not (has_id nat_eq (ids_of nodes) id)) (ids_of news) ≡ count_by (λ (x : ℕ × List ℕ). not (has_node nat_eq nodes x.0)) news
count-ids nodes [] = refl
count-ids nodes (n ∷ news) =
    count_more (λ id. not (has_id nat_eq (ids_of nodes) id)) n.0 (ids_of news)
    ∙ ap (λ b. cond (not b) 1 0 + count_by (λ id. not (has_id nat_eq (ids_of nodes) id)) (ids_of news)) (sym (has-ids nodes n.0))
    ∙ ap (λ m. cond (not (has_node nat_eq nodes n.0)) 1 0 + m) (count-ids nodes news)
    ∙ sym (count_more (λ (x : ℕ × List ℕ). not (has_node nat_eq nodes x.0)) n news)

sized : (nodes news all : List (ℕ × List ℕ)) → IsRisingByFirst nat_cmp nodes → IsRisingByFirst nat_cmp news
    → ids_of all ≡ with_ids nat_cmp (ids_of nodes) (ids_of news) → length all ≡ length nodes + count_by (λ (x : ℕ × List ℕ). not (has_node nat_eq nodes x.0)) news
sized nodes news all h k e =
    sym (length-ids all) ∙ ap length e ∙ length-with_ids (ids_of news) (ids_of nodes) h k
    ∙ ap (λ n. n + count_by (λ id. not (has_id nat_eq (ids_of nodes) id)) (ids_of news)) (length-ids nodes)
    ∙ ap (λ n. length nodes + n) (count-ids nodes news)

-- so many more nodes as are new, whether or not they take the place of others
pub length-with_nodes : (nodes news : List (ℕ × List ℕ)) → IsRisingByFirst nat_cmp nodes → IsRisingByFirst nat_cmp news
    → length (with_nodes nat_cmp nodes news) ≡ length nodes + count_by (λ (x : ℕ × List ℕ). not (has_node nat_eq nodes x.0)) news
length-with_nodes nodes news h k = sized nodes news (with_nodes nat_cmp nodes news) h k (ids-with_nodes news nodes)

pub length-with_new_nodes : (nodes news : List (ℕ × List ℕ)) → IsRisingByFirst nat_cmp nodes → IsRisingByFirst nat_cmp news
    → length (with_new_nodes nat_eq nat_cmp nodes news) ≡ length nodes + count_by (λ (x : ℕ × List ℕ). not (has_node nat_eq nodes x.0)) news
length-with_new_nodes nodes news h k = sized nodes news (with_new_nodes nat_eq nat_cmp nodes news) h k (ids-with_new_nodes news nodes h)

-- ---- nodes that pass a test

module _ (p : ℕ × List ℕ → Bool) where
  -- the id below those of all is none of theirs
  others_alike : (nodes : List (ℕ × List ℕ)) (id : ℕ) → IsBelowAll nat_cmp id (ids_of nodes)
      → list_all (λ (x : ℕ × List ℕ). nat_eq id x.0 || p x) nodes ≡ list_all p nodes
  others_alike [] id h = refl
  others_alike (x ∷ xs) id h =
      ap (λ b. (b || p x) && list_all (λ (y : ℕ × List ℕ). nat_eq id y.0 || p y) xs) (less_apart id x.0 h.0)
      ∙ ap (λ b. p x && b) (others_alike xs id h.1)

  -- all pass where the node that comes in does, and those with other ids
  all-with_node : (nodes : List (ℕ × List ℕ)) (id : ℕ) (node : List ℕ) → IsRisingByFirst nat_cmp nodes
      → list_all p (with_node nat_cmp nodes id node) ≡ (p (id, node) && list_all (λ (x : ℕ × List ℕ). nat_eq id x.0 || p x) nodes)
  all-with_node [] id node h = refl
  all-with_node (x ∷ xs) id node h =
      elim (nat_cmp id x.0) as (λ o. nat_cmp id x.0 ≡ o → list_all p (match_ordering o ((id, node) ∷ x ∷ xs) ((id, node) ∷ xs) (x ∷ with_node nat_cmp xs id node))
      ≡ (p (id, node) && ((nat_eq id x.0 || p x) && list_all (λ (y : ℕ × List ℕ). nat_eq id y.0 || p y) xs))) [
        | Less ↦ λ e. ap (λ b. p (id, node) && b) (sym (others_alike (x ∷ xs) id (e, below_trans nat_cmp_total id x.0 (ids_of xs) e h.0)))
        | Equal ↦ λ e.
            let there : nat_eq id x.0 ≡ true = ap (nat_eq id) (sym (exact_unsigned id x.0 e)) ∙ nat_eq_equiv.refl id in
            let below : IsBelowAll nat_cmp id (ids_of xs) = subst (λ i. IsBelowAll nat_cmp i (ids_of xs)) (sym (exact_unsigned id x.0 e)) h.0 in
            ap (λ b. p (id, node) && b) (sym (others_alike xs id below))
            ∙ ap (λ b. p (id, node) && ((b || p x) && list_all (λ (y : ℕ × List ℕ). nat_eq id y.0 || p y) xs)) (sym there)
        | Greater ↦ λ e.
            let apart : nat_eq id x.0 ≡ false = other_way id x.0 e in
            ap (λ b. p x && b) (all-with_node xs id node h.1)
            ∙ and_swap (p (id, node)) (p x) (list_all (λ (y : ℕ × List ℕ). nat_eq id y.0 || p y) xs)
            ∙ ap (λ b. p (id, node) && ((b || p x) && list_all (λ (y : ℕ × List ℕ). nat_eq id y.0 || p y) xs)) (sym apart)
      ] refl

-- new nodes come in, in place of those with their ids
pub all-with_nodes : (p : ℕ × List ℕ → Bool) (news nodes : List (ℕ × List ℕ)) → IsRisingByFirst nat_cmp nodes → IsRisingByFirst nat_cmp news
    → list_all p (with_nodes nat_cmp nodes news) ≡ (list_all (λ (x : ℕ × List ℕ). has_node nat_eq news x.0 || p x) nodes && list_all p news)
all-with_nodes p [] nodes h k = sym (and-true (list_all p nodes))
all-with_nodes p (n ∷ news) nodes h k =
    all-with_nodes p news (with_node nat_cmp nodes n.0 n.1) (rising-with_node nat_cmp_total n.0 n.1 nodes h) k.1
    ∙ ap (λ b. b && list_all p news) (all-with_node (λ (x : ℕ × List ℕ). has_node nat_eq news x.0 || p x) nodes n.0 n.1 h)
    ∙ ap (λ b. ((b || p n) && list_all (λ (x : ℕ × List ℕ). nat_eq n.0 x.0 || (has_node nat_eq news x.0 || p x)) nodes) && list_all p news)
    (has-ids news n.0 ∙ absent n.0 (ids_of news) k.0)
    ∙ and_turn (p n) (list_all (λ (x : ℕ × List ℕ). nat_eq n.0 x.0 || (has_node nat_eq news x.0 || p x)) nodes) (list_all p news)
    ∙ ap (λ b. b && (p n && list_all p news)) (tests_alike nodes)
  where
    tests_alike : (xs : List (ℕ × List ℕ)) → list_all (λ (x : ℕ × List ℕ). nat_eq n.0 x.0 || (has_node nat_eq news x.0 || p x)) xs
        ≡ list_all (λ (x : ℕ × List ℕ). (nat_eq n.0 x.0 || has_node nat_eq news x.0) || p x) xs
    tests_alike [] = refl
    tests_alike (x ∷ xs) =
        ap (λ b. b && list_all (λ (y : ℕ × List ℕ). nat_eq n.0 y.0 || (has_node nat_eq news y.0 || p y)) xs) (sym (or_assoc (nat_eq n.0 x.0) (has_node nat_eq news x.0) (p x)))
        ∙ ap (λ b. ((nat_eq n.0 x.0 || has_node nat_eq news x.0) || p x) && b) (tests_alike xs)

-- a node that isn't there comes in beside the others
all-new_node : (p : ℕ × List ℕ → Bool) (nodes : List (ℕ × List ℕ)) (id : ℕ) (node : List ℕ)
    → list_all p (with_new_node nat_eq nat_cmp nodes id node) ≡ ((has_node nat_eq nodes id || p (id, node)) && list_all p nodes)
all-new_node p nodes id node =
    elim (has_node nat_eq nodes id) as (λ b. has_node nat_eq nodes id ≡ b → list_all p (if b then nodes else with_node nat_cmp nodes id node) ≡ ((b || p (id, node)) && list_all p nodes)) [
      | true ↦ λ e. refl
      | false ↦ λ e. beside nodes e
    ] refl
  where
    beside : (xs : List (ℕ × List ℕ)) → has_node nat_eq xs id ≡ false → list_all p (with_node nat_cmp xs id node) ≡ (p (id, node) && list_all p xs)
    beside [] e = refl
    beside (x ∷ xs) e =
        elim (nat_cmp id x.0) as (λ o. nat_cmp id x.0 ≡ o → list_all p (match_ordering o ((id, node) ∷ x ∷ xs) ((id, node) ∷ xs) (x ∷ with_node nat_cmp xs id node))
        ≡ (p (id, node) && (p x && list_all p xs))) [
          | Less ↦ λ f. refl
          | Equal ↦ λ f.
              let there : nat_eq x.0 id ≡ true = ap (nat_eq x.0) (exact_unsigned id x.0 f) ∙ nat_eq_equiv.refl x.0 in
              cc ((or_parts (nat_eq x.0 id) (has_node nat_eq xs id) e).0, there)
          | Greater ↦ λ f.
              ap (λ b. p x && b) (beside xs (or_parts (nat_eq x.0 id) (has_node nat_eq xs id) e).1) ∙ and_swap (p (id, node)) (p x) (list_all p xs)
        ] refl

-- new nodes come in beside those that are there
pub all-with_new_nodes : (p : ℕ × List ℕ → Bool) (news nodes : List (ℕ × List ℕ)) → IsRisingByFirst nat_cmp news
    → list_all p (with_new_nodes nat_eq nat_cmp nodes news) ≡ (list_all p nodes && list_all (λ (x : ℕ × List ℕ). has_node nat_eq nodes x.0 || p x) news)
all-with_new_nodes p [] nodes k = sym (and-true (list_all p nodes))
all-with_new_nodes p (n ∷ news) nodes k =
    all-with_new_nodes p news (with_new_node nat_eq nat_cmp nodes n.0 n.1) k.1
    ∙ ap (λ b. list_all p (with_new_node nat_eq nat_cmp nodes n.0 n.1) && b) (same_above news k.0)
    ∙ ap (λ b. b && list_all (λ (x : ℕ × List ℕ). has_node nat_eq nodes x.0 || p x) news) (all-new_node p nodes n.0 n.1)
    ∙ and_turn (has_node nat_eq nodes n.0 || p n) (list_all p nodes) (list_all (λ (x : ℕ × List ℕ). has_node nat_eq nodes x.0 || p x) news)
  where
    same_above : (xs : List (ℕ × List ℕ)) → IsBelowAll nat_cmp n.0 (ids_of xs)
        → list_all (λ (x : ℕ × List ℕ). has_node nat_eq (with_new_node nat_eq nat_cmp nodes n.0 n.1) x.0 || p x) xs ≡ list_all (λ (x : ℕ × List ℕ). has_node nat_eq nodes x.0 || p x) xs
    same_above [] h = refl
    same_above (x ∷ xs) h =
        ap (λ b. (b || p x) && list_all (λ (y : ℕ × List ℕ). has_node nat_eq (with_new_node nat_eq nat_cmp nodes n.0 n.1) y.0 || p y) xs)
        (has_with_new_nodes nat_eq nat_cmp exact_unsigned eqb-true nodes (n ∷ []) x.0 ∙ ap (λ b. has_node nat_eq nodes x.0 || (b || false)) (less_apart n.0 x.0 h.0) ∙ or-false (has_node nat_eq nodes x.0))
        ∙ ap (λ b. (has_node nat_eq nodes x.0 || p x) && b) (same_above xs h.1)

pub count_of_ids : (group : List ℕ) (nodes : List (ℕ × List ℕ)) → count_by (λ (x : ℕ × List ℕ). not (has_id nat_eq group x.0)) nodes ≡ count_by (λ id. not (has_id nat_eq group id)) (ids_of nodes)
count_of_ids group [] = refl
count_of_ids group (n ∷ nodes) =
    count_more (λ (x : ℕ × List ℕ). not (has_id nat_eq group x.0)) n nodes
    ∙ ap (λ m. cond (not (has_id nat_eq group n.0)) 1 0 + m) (count_of_ids group nodes)
    ∙ sym (count_more (λ id. not (has_id nat_eq group id)) n.0 (ids_of nodes))

-- ---- nodes within the limits

-- there are few nodes, and all of them are short, where new ones come in
abbrev pub is_fit_with_new : List (ℕ × List ℕ) → List (ℕ × List ℕ) → Bool
is_fit_with_new nodes news =
    are_few_nodes (length nodes + count_by (λ (x : ℕ × List ℕ). not (has_node nat_eq nodes x.0)) news)
    && (list_all (λ (x : ℕ × List ℕ). is_short_address x.1) nodes && list_all (λ (x : ℕ × List ℕ). has_node nat_eq nodes x.0 || is_short_address x.1) news)

pub fit_with_new : (nodes news : List (ℕ × List ℕ)) → IsRisingByFirst nat_cmp nodes → IsRisingByFirst nat_cmp news
    → is_fit_with_new nodes news ≡ are_fit_nodes (with_new_nodes nat_eq nat_cmp nodes news)
fit_with_new nodes news h k =
    ap (λ n. are_few_nodes n && (list_all (λ (x : ℕ × List ℕ). is_short_address x.1) nodes && list_all (λ (x : ℕ × List ℕ). has_node nat_eq nodes x.0 || is_short_address x.1) news)) (sym (length-with_new_nodes nodes news h k))
    ∙ ap (λ b. are_few_nodes (length (with_new_nodes nat_eq nat_cmp nodes news)) && b) (sym (all-with_new_nodes (λ (x : ℕ × List ℕ). is_short_address x.1) news nodes k))

-- the same where they take the place of those with their ids
abbrev pub is_fit_with : List (ℕ × List ℕ) → List (ℕ × List ℕ) → Bool
is_fit_with nodes news =
    are_few_nodes (length nodes + count_by (λ (x : ℕ × List ℕ). not (has_node nat_eq nodes x.0)) news)
    && (list_all (λ (x : ℕ × List ℕ). has_node nat_eq news x.0 || is_short_address x.1) nodes && list_all (λ (x : ℕ × List ℕ). is_short_address x.1) news)

pub fit_with : (nodes news : List (ℕ × List ℕ)) → IsRisingByFirst nat_cmp nodes → IsRisingByFirst nat_cmp news
    → is_fit_with nodes news ≡ are_fit_nodes (with_nodes nat_cmp nodes news)
fit_with nodes news h k =
    ap (λ n. are_few_nodes n && (list_all (λ (x : ℕ × List ℕ). has_node nat_eq news x.0 || is_short_address x.1) nodes && list_all (λ (x : ℕ × List ℕ). is_short_address x.1) news)) (sym (length-with_nodes nodes news h k))
    ∙ ap (λ b. are_few_nodes (length (with_nodes nat_cmp nodes news)) && b) (sym (all-with_nodes (λ (x : ℕ × List ℕ). is_short_address x.1) news nodes h k))

-- and where some leave
abbrev pub is_fit_without : List (ℕ × List ℕ) → List ℕ → Bool
is_fit_without nodes ids =
    are_few_nodes (count_by (λ (x : ℕ × List ℕ). not (has_id nat_eq ids x.0)) nodes)
    && list_all (λ (x : ℕ × List ℕ). has_id nat_eq ids x.0 || is_short_address x.1) nodes

all-without : (p : ℕ × List ℕ → Bool) (ids : List ℕ) (nodes : List (ℕ × List ℕ))
    → list_all (λ (x : ℕ × List ℕ). has_id nat_eq ids x.0 || p x) nodes ≡ list_all p (without_nodes nat_eq nodes ids)
all-without p ids [] = refl
all-without p ids (n ∷ nodes) =
    elim (has_id nat_eq ids n.0) as (λ b. ((b || p n) && list_all (λ (x : ℕ × List ℕ). has_id nat_eq ids x.0 || p x) nodes)
    ≡ list_all p (cond (not b) (n ∷ without_nodes nat_eq nodes ids) (without_nodes nat_eq nodes ids))) [
      | true ↦ all-without p ids nodes
      | false ↦ ap (λ b. p n && b) (all-without p ids nodes)
    ]

pub fit_without : (nodes : List (ℕ × List ℕ)) (ids : List ℕ) → is_fit_without nodes ids ≡ are_fit_nodes (without_nodes nat_eq nodes ids)
fit_without nodes ids =
    ap (λ n. are_few_nodes n && list_all (λ (x : ℕ × List ℕ). has_id nat_eq ids x.0 || is_short_address x.1) nodes) (sym (length-filter (λ (x : ℕ × List ℕ). not (has_id nat_eq ids x.0)) nodes))
    ∙ ap (λ b. are_few_nodes (length (without_nodes nat_eq nodes ids)) && b) (all-without (λ (x : ℕ × List ℕ). is_short_address x.1) ids nodes)
