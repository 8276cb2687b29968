-- What is asked of the nodes that a change leaves, without making them.
use Rattle.std.proofs.Common.{◌≡◌, ◌==◌, length, map, Bool, true, false, cond, List, [], ◌∷◌, refl, ap, sym, subst, ◌∙◌}
use Rattle.std.specs.Prelude.{◌&&◌, ◌||◌, not, if◌then◌else◌, Option, Some, None}
use Rattle.std.proofs.Math.Bool.{or_self_left, or-false}
use Rattle.std.specs.declared.cmp.Ordering.{Ordering}
use Rattle.std.specs.declared.cmp.Ordering.TheVariants.{Less, Equal, Greater}
use Rattle.std.specs.Ordering.{match_ordering}
use Rattle.std.specs.List.{filter, fold}
use Rattle.raft_quorums.specs.Nodes.{has_id, has_node, with_ids, with_node, with_nodes, with_new_node, with_new_nodes}
use Rattle.raft_membership.specs.Membership.{has_empty_group, is_voter, lesser, first_outside, least_outside}
use Rattle.raft_membership.specs.Validity.{fault_of, groups_fault, IsChangeFault}
use Rattle.raft_quorums.specs.Quorum.{last_config, next_configs}
use Rattle.std.specs.Cmp.Lexicographic.{pointwise}
use Rattle.raft_membership.specs.declared.membership.Membership.{Membership}
use Rattle.raft_membership.specs.declared.change_members.ChangeMembers.TheVariants.{AddVoters, ReplaceAllVoters, AddNodes, SetNodes, RemoveNodes}
use Rattle.raft_membership.specs.declared.error.ChangeMembershipError.{ChangeMembershipError}
use Rattle.raft_membership.specs.declared.error.ChangeMembershipError.TheVariants.{EmptyMembership, LearnerNotFound}
use Rattle.raft_membership.specs.MembershipChange.{fault_after, without_nodes, retained_nodes}
use Rattle.raft_quorums.specs.QuorumLaws.{or_left, or_right}

pub or_swap : (a b c : Bool) → (b || (a || c)) ≡ (a || (b || c))
or_swap true true c = refl
or_swap true false c = refl
or_swap false true c = refl
or_swap false false c = refl

or_turn : (a b c : Bool) → ((a || b) || c) ≡ (b || (a || c))
or_turn true true c = refl
or_turn true false c = refl
or_turn false true c = refl
or_turn false false c = refl

or_held : (a b : Bool) → (a ≡ true → b ≡ true) → b ≡ (a || b)
or_held true b h = h refl
or_held false b h = refl

joined : (a b c : Bool) → (a ≡ true → c ≡ true) → (a || (b && c)) ≡ ((a || b) && c)
joined true b c h = sym (h refl)
joined false b c h = refl

dropped : (a b c : Bool) → (a ≡ true → c ≡ false) → (b && c) ≡ ((a || b) && c)
dropped true true c h = refl
dropped true false c h = sym (h refl)
dropped false b c h = refl

pub and_true : (a b : Bool) → b ≡ true → (a && b) ≡ a
and_true true b h = h
and_true false b h = refl

module _ {K N : Type 0} (eq : K → K → Bool) (cmp : K → K → Ordering) (same : (x y : K) → cmp x y ≡ Equal → x ≡ y) where
  -- a node that comes in is there beside the others
  has_with_node : (xs : List (K × N)) (id : K) (node : N) (k : K) → has_node eq (with_node cmp xs id node) k ≡ (eq id k || has_node eq xs k)
  has_with_node [] id node k = refl
  has_with_node (x ∷ xs) id node k =
      elim (cmp id x.0) as (λ o. cmp id x.0 ≡ o → has_node eq (match_ordering o ((id, node) ∷ x ∷ xs) ((id, node) ∷ xs) (x ∷ with_node cmp xs id node)) k
      ≡ (eq id k || (eq x.0 k || has_node eq xs k))) [
        | Less ↦ λ e. refl
        | Equal ↦ λ e. sym (or_self_left (eq id k) (has_node eq xs k)) ∙ ap (λ i. eq id k || (eq i k || has_node eq xs k)) (same id x.0 e)
        | Greater ↦ λ e. ap (λ b. eq x.0 k || b) (has_with_node xs id node k) ∙ or_swap (eq id k) (eq x.0 k) (has_node eq xs k)
      ] refl

  has_folded : (put : List (K × N) → K → N → List (K × N)) → ((xs : List (K × N)) (id : K) (node : N) (k : K) → has_node eq (put xs id node) k ≡ (eq id k || has_node eq xs k))
      → (news xs : List (K × N)) (k : K) → has_node eq (fold (λ ys (new : K × N). put ys new.0 new.1) xs news) k ≡ (has_node eq xs k || has_node eq news k)
  has_folded put one [] xs k = sym (or-false (has_node eq xs k))
  has_folded put one (n ∷ news) xs k =
      has_folded put one news (put xs n.0 n.1) k ∙ ap (λ b. b || has_node eq news k) (one xs n.0 n.1 k)
      ∙ or_turn (eq n.0 k) (has_node eq xs k) (has_node eq news k)

  pub has_with_nodes : (xs news : List (K × N)) (k : K) → has_node eq (with_nodes cmp xs news) k ≡ (has_node eq xs k || has_node eq news k)
  has_with_nodes xs news k = has_folded (with_node cmp) has_with_node news xs k

  has_with_new_node : (identical : (x y : K) → eq x y ≡ true → x ≡ y) (xs : List (K × N)) (id : K) (node : N) (k : K)
      → has_node eq (with_new_node eq cmp xs id node) k ≡ (eq id k || has_node eq xs k)
  has_with_new_node identical xs id node k =
      elim (has_node eq xs id) as (λ b. has_node eq xs id ≡ b → has_node eq (if b then xs else with_node cmp xs id node) k ≡ (eq id k || has_node eq xs k)) [
        | true ↦ λ e. or_held (eq id k) (has_node eq xs k) (λ h. ap (has_node eq xs) (sym (identical id k h)) ∙ e)
        | false ↦ λ e. has_with_node xs id node k
      ] refl

  pub has_with_new_nodes : (identical : (x y : K) → eq x y ≡ true → x ≡ y) (xs news : List (K × N)) (k : K)
      → has_node eq (with_new_nodes eq cmp xs news) k ≡ (has_node eq xs k || has_node eq news k)
  has_with_new_nodes identical xs news k = has_folded (with_new_node eq cmp) (has_with_new_node identical) news xs k

module _ {K N : Type 0} (eq : K → K → Bool) (identical : (x y : K) → eq x y ≡ true → x ≡ y) where
  -- of the nodes those are left that are kept
  has_kept : (keep : K → Bool) (nodes : List (K × N)) (k : K) → has_node eq (filter (λ (x : K × N). keep x.0) nodes) k ≡ (has_node eq nodes k && keep k)
  has_kept keep [] k = refl
  has_kept keep (x ∷ xs) k =
      elim (keep x.0) as (λ b. keep x.0 ≡ b → has_node eq (cond b (x ∷ filter (λ (y : K × N). keep y.0) xs) (filter (λ (y : K × N). keep y.0) xs)) k
      ≡ ((eq x.0 k || has_node eq xs k) && keep k)) [
        | true ↦ λ e. ap (λ b. eq x.0 k || b) (has_kept keep xs k) ∙ joined (eq x.0 k) (has_node eq xs k) (keep k) (λ h. ap keep (sym (identical x.0 k h)) ∙ e)
        | false ↦ λ e. has_kept keep xs k ∙ dropped (eq x.0 k) (has_node eq xs k) (keep k) (λ h. ap keep (sym (identical x.0 k h)) ∙ e)
      ] refl

  pub has_without_nodes : (nodes : List (K × N)) (ids : List K) (k : K) → has_node eq (without_nodes eq nodes ids) k ≡ (has_node eq nodes k && not (has_id eq ids k))
  has_without_nodes nodes ids k = has_kept (λ id. not (has_id eq ids id)) nodes k

module _ {K N : Type 0} (eq : K → K → Bool) (cmp : K → K → Ordering) (itself : (x : K) → eq x x ≡ true) (identical : (x y : K) → eq x y ≡ true → x ≡ y) where
  group_alike : (keep : K → Bool) (nodes : List (K × N)) (ids : List K) → ((id : K) → has_id eq ids id ≡ true → keep id ≡ true)
      → first_outside (has_node eq (filter (λ (x : K × N). keep x.0) nodes)) ids ≡ first_outside (has_node eq nodes) ids
  group_alike keep nodes [] stay = refl
  group_alike keep nodes (x ∷ xs) stay =
      ap (λ b. cond (not b) (Some x) (first_outside (has_node eq (filter (λ (y : K × N). keep y.0) nodes)) xs))
      (has_kept eq identical keep nodes x ∙ and_true (has_node eq nodes x) (keep x) (stay x (or_left (eq x x) (has_id eq xs x) (itself x))))
      ∙ ap (λ o. cond (not (has_node eq nodes x)) (Some x) o) (group_alike keep nodes xs (λ id e. stay id (or_right (eq x id) (has_id eq xs id) e)))

  groups_alike : (keep : K → Bool) (nodes : List (K × N)) (least : Option K) (groups : List (List K)) → ((id : K) → is_voter eq groups id ≡ true → keep id ≡ true)
      → fold (λ found group. lesser cmp found (first_outside (has_node eq (filter (λ (x : K × N). keep x.0) nodes)) group)) least groups
      ≡ fold (λ found group. lesser cmp found (first_outside (has_node eq nodes) group)) least groups
  groups_alike keep nodes least [] stay = refl
  groups_alike keep nodes least (x ∷ xs) stay =
      groups_alike keep nodes (lesser cmp least (first_outside (has_node eq (filter (λ (y : K × N). keep y.0) nodes)) x)) xs (λ id e. stay id (or_right (has_id eq x id) (is_voter eq xs id) e))
      ∙ ap (λ o. fold (λ found group. lesser cmp found (first_outside (has_node eq nodes) group)) (lesser cmp least o) xs)
      (group_alike keep nodes x (λ id e. stay id (or_left (has_id eq x id) (is_voter eq xs id) e)))

  -- whether former voters leave the nodes is nothing to the voters of the new groups
  pub retained-alike : (retain : Bool) (old new : List (List K)) (nodes : List (K × N))
      → least_outside cmp (has_node eq (retained_nodes eq retain old new nodes)) new ≡ least_outside cmp (has_node eq nodes) new
  retained-alike true old new nodes = refl
  retained-alike false old new nodes =
      groups_alike (λ id. is_voter eq new id || not (is_voter eq old id)) nodes None new (λ id e. or_left (is_voter eq new id) (not (is_voter eq old id)) e)

module _ {K : Type 0} (cmp : K → K → Ordering) where
  -- tests that answer alike find the same
  pub least_outside-same : (p r : K → Bool) (configs : List (List K)) → ((k : K) → p k ≡ r k) → least_outside cmp p configs ≡ least_outside cmp r configs
  least_outside-same p r configs e = ap (λ (t : K → Bool). least_outside cmp t configs) (λ i k. e k i)

-- the fault of the goal alone, and beside the last group
module _ {K : Type 0} (cmp : K → K → Ordering) (known : K → Bool) where
  pub fault-alone : (goal : List K) → fault_of (length goal == 0) (first_outside known goal) ≡ groups_fault cmp known (goal ∷ [])
  fault-alone goal = ap (λ b. fault_of b (first_outside known goal)) (sym (or-false (length goal == 0)))

  pub fault-joint : (last goal : List K) → fault_of ((length last == 0) || (length goal == 0)) (lesser cmp (first_outside known last) (first_outside known goal))
      ≡ groups_fault cmp known (last ∷ goal ∷ [])
  fault-joint last goal =
      ap (λ b. fault_of ((length last == 0) || b) (lesser cmp (first_outside known last) (first_outside known goal))) (sym (or-false (length goal == 0)))

module _ {K N : Type 0} (eq : K → K → Bool) (cmp : K → K → Ordering) (itself : (x : K) → eq x x ≡ true) (identical : (x y : K) → eq x y ≡ true → x ≡ y)
    (same : (x y : K) → cmp x y ≡ Equal → x ≡ y) (m : Membership K N) (retain : Bool) where
  pub told-replace : (ids : List K) → groups_fault cmp (has_node eq m.nodes) (next_configs (pointwise eq) m.configs ids) ≡ fault_after eq cmp m (ReplaceAllVoters ids) retain
  told-replace ids =
      let new : List (List K) = next_configs (pointwise eq) m.configs ids in
      ap (fault_of (has_empty_group new)) (sym (retained-alike eq cmp itself identical retain m.configs new m.nodes))

  pub told-add_voters : (nodes : List (K × N)) → let new : List (List K) = next_configs (pointwise eq) m.configs (with_ids cmp (last_config m.configs) (map (λ (x : K × N). x.0) nodes))
      in groups_fault cmp (λ id. has_node eq m.nodes id || has_node eq nodes id) new ≡ fault_after eq cmp m (AddVoters nodes) retain
  told-add_voters nodes =
      let new : List (List K) = next_configs (pointwise eq) m.configs (with_ids cmp (last_config m.configs) (map (λ (x : K × N). x.0) nodes)) in
      let wider : List (K × N) = with_new_nodes eq cmp m.nodes nodes in
      ap (fault_of (has_empty_group new))
      (least_outside-same cmp (λ id. has_node eq m.nodes id || has_node eq nodes id) (has_node eq wider) new (λ k. sym (has_with_new_nodes eq cmp same identical m.nodes nodes k))
      ∙ sym (retained-alike eq cmp itself identical retain m.configs new wider))

  pub told-add : (nodes : List (K × N)) → groups_fault cmp (λ id. has_node eq m.nodes id || has_node eq nodes id) m.configs ≡ fault_after eq cmp m (AddNodes nodes) retain
  told-add nodes =
      ap (fault_of (has_empty_group m.configs))
      (least_outside-same cmp (λ id. has_node eq m.nodes id || has_node eq nodes id) (has_node eq (with_new_nodes eq cmp m.nodes nodes)) m.configs
      (λ k. sym (has_with_new_nodes eq cmp same identical m.nodes nodes k)))

  pub told-set : (nodes : List (K × N)) → groups_fault cmp (λ id. has_node eq m.nodes id || has_node eq nodes id) m.configs ≡ fault_after eq cmp m (SetNodes nodes) retain
  told-set nodes =
      ap (fault_of (has_empty_group m.configs))
      (least_outside-same cmp (λ id. has_node eq m.nodes id || has_node eq nodes id) (has_node eq (with_nodes cmp m.nodes nodes)) m.configs
      (λ k. sym (has_with_nodes eq cmp same m.nodes nodes k)))

  pub told-remove : (ids : List K) → groups_fault cmp (λ id. has_node eq m.nodes id && not (has_id eq ids id)) m.configs ≡ fault_after eq cmp m (RemoveNodes ids) retain
  told-remove ids =
      ap (fault_of (has_empty_group m.configs))
      (least_outside-same cmp (λ id. has_node eq m.nodes id && not (has_id eq ids id)) (has_node eq (without_nodes eq m.nodes ids)) m.configs
      (λ k. sym (has_without_nodes eq identical m.nodes ids k)))

module _ {K : Type 0} where
  inside : (x y : ChangeMembershipError K) → Some x ≡ Some y → x ≡ y
  inside x y e = cc

  settled : (empty : Bool) (missing : Option K) (e : ChangeMembershipError K) → Some e ≡ fault_of empty missing → IsChangeFault (fault_of empty missing) e
  settled true missing e h =
      subst (λ x. IsChangeFault (Some (EmptyMembership (record {}))) x) (sym (inside e (EmptyMembership (record {})) h)) refl
  settled false None e h = cc h
  settled false (Some id) e h =
      subst (λ x. IsChangeFault (Some (LearnerNotFound (record { node_id = id }))) x) (sym (inside e (LearnerNotFound (record { node_id = id })) h)) refl

  -- a fault that was told is that of what the change asks for
  pub told-fault : (empty : Bool) (missing : Option K) (e : ChangeMembershipError K) → Some e ≡ fault_of empty missing → IsChangeFault (fault_of empty missing) e
  told-fault empty missing e h = settled empty missing e h
