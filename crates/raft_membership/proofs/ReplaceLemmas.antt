-- Why replacing all voters is done after two changes.
use Rattle.std.proofs.Common.{◌≡◌, ◌<◌, Bool, true, false, List, [], ◌∷◌, length, refl, ap, ◌∙◌, arith}
use Rattle.std.specs.Prelude.{◌&&◌, ◌||◌, not, ◌==◌, cond, if◌then◌else◌, Option, Some, None}
use Rattle.std.specs.declared.cmp.Ordering.{Ordering}
use Rattle.std.specs.declared.cmp.Ordering.TheVariants.{Less, Equal, Greater}
use Rattle.std.specs.Ordering.{match_ordering}
use Rattle.std.proofs.lemmas.Grind.{common_steps}
use Rattle.std.specs.List.{list_any, list_all, filter, fold}
use Rattle.std.specs.Cmp.{IsEquivalence}
use Rattle.raft_membership.specs.Laws.{IsReplacedInTwo, IsValid}
use Rattle.raft_quorums.specs.Nodes.{has_id, has_node}
use Rattle.raft_membership.specs.Membership.{is_voter, has_empty_group, lesser, first_missing, missing_voter}
use Rattle.raft_membership.specs.MembershipChange.{next_coherent, retained_nodes}
use Rattle.raft_membership.specs.Validity.{learner_fault, validity_fault}
use Rattle.raft_membership.specs.declared.membership.Membership.{Membership}
use Rattle.raft_membership.specs.declared.error.ChangeMembershipError.TheVariants.{EmptyMembership}
use Rattle.std.specs.Cmp.Lexicographic.{pointwise, lists_equiv}
use Rattle.raft_quorums.specs.Quorum.{next_configs, last_of}
use Rattle.raft_quorums.specs.QuorumLaws.{or_left, or_right, and_left, and_right}

pub both : (a b : Bool) → a ≡ true → b ≡ true → (a && b) ≡ true
both true b h k = k
both false b h k = h

of_last : {Q : Type 0} (p : Q → Bool) (x : Q) (xs : List Q) → list_all p (x ∷ xs) ≡ true → p (last_of x xs) ≡ true
of_last p x [] h = and_left (p x) true h
of_last p x (y ∷ ys) h = of_last p y ys (and_right (p x) (list_all p (y ∷ ys)) h)

module _ {Q : Type 0} (eq : Q → Q → Bool) (same : IsEquivalence eq) (goal : Q) where
  goal_stands : (configs : List Q) → list_any (λ c. eq c goal) (next_configs eq configs goal) ≡ true
  goal_stands [] = or_left (eq goal goal) false (same.refl goal)
  goal_stands (x ∷ xs) =
      elim (list_any (λ c. eq c goal) (x ∷ xs)) as (λ b. list_any (λ c. eq c goal) (if b then goal ∷ [] else last_of x xs ∷ goal ∷ []) ≡ true) [
        | true ↦ or_left (eq goal goal) false (same.refl goal)
        | false ↦ or_right (eq (last_of x xs) goal) (eq goal goal || false) (or_left (eq goal goal) false (same.refl goal))
      ]

  goal_alone : (configs : List Q) → list_any (λ c. eq c goal) configs ≡ true → next_configs eq configs goal ≡ goal ∷ []
  goal_alone [] h = refl
  goal_alone (x ∷ xs) h = ap (λ b. if b then goal ∷ [] else last_of x xs ∷ goal ∷ []) h

  -- two steps towards a goal end at the goal alone
  pub two_steps : (configs : List Q) → next_configs eq (next_configs eq configs goal) goal ≡ goal ∷ []
  two_steps configs = goal_alone (next_configs eq configs goal) (goal_stands configs)

-- what holds of the goal and of each config holds of each config after a step
pub step_keeps : {Q : Type 0} (eq : Q → Q → Bool) (p : Q → Bool) (goal : Q) (configs : List Q) → p goal ≡ true → list_all p configs ≡ true → list_all p (next_configs eq configs goal) ≡ true
step_keeps eq p goal [] g h = both (p goal) true g refl
step_keeps eq p goal (x ∷ xs) g h =
    elim (list_any (λ c. eq c goal) (x ∷ xs)) as (λ b. list_all p (if b then goal ∷ [] else last_of x xs ∷ goal ∷ []) ≡ true) [
      | true ↦ both (p goal) true g refl
      | false ↦ both (p (last_of x xs)) (p goal && true) (of_last p x xs h) (both (p goal) true g refl)
    ]

module _ {K N : Type 0} (eq : K → K → Bool) (nodes : List (K × N)) where
  abbrev pub all_present : List K → Bool
  all_present group = list_all (has_node eq nodes) group

  pub present_if_none_missing : (group : List K) → first_missing eq nodes group ≡ None → all_present group ≡ true
  present_if_none_missing [] h = refl
  present_if_none_missing (x ∷ xs) h =
      elim (has_node eq nodes x) as (λ b. cond (not b) (Some x) (first_missing eq nodes xs) ≡ None → (b && all_present xs) ≡ true) [
        | true ↦ λ k. present_if_none_missing xs k
        | false ↦ λ k. cc k
      ] h

  pub none_missing_if_present : (group : List K) → all_present group ≡ true → first_missing eq nodes group ≡ None
  none_missing_if_present [] h = refl
  none_missing_if_present (x ∷ xs) h =
      elim (has_node eq nodes x) as (λ b. (b && all_present xs) ≡ true → cond (not b) (Some x) (first_missing eq nodes xs) ≡ None) [
        | true ↦ λ k. none_missing_if_present xs k
        | false ↦ λ k. cc k
      ] h

module _ {K N : Type 0} (eq : K → K → Bool) (cmp : K → K → Ordering) (nodes : List (K × N)) where
  abbrev next_least : Option K → List K → Option K
  next_least least group = lesser cmp least (first_missing eq nodes group)

  lesser_is_some : (a : K) (b : Option K) → (w : K) × (lesser cmp (Some a) b ≡ Some w)
  lesser_is_some a None = (a, refl)
  lesser_is_some a (Some b) =
      elim (cmp a b) as (λ o. (w : K) × (match_ordering o (Some a) (Some a) (Some b) ≡ Some w)) [ Less ↦ (a, refl) | Equal ↦ (a, refl) | Greater ↦ (b, refl) ]

  some_stays : (a : K) (configs : List (List K)) → (w : K) × (fold next_least (Some a) configs ≡ Some w)
  some_stays a [] = (a, refl)
  some_stays a (x ∷ xs) =
      let w = lesser_is_some a (first_missing eq nodes x) in
      let v = some_stays w.0 xs in
      (v.0, ap (λ l. fold next_least l xs) w.1 ∙ v.1)

  pub present_if_no_missing_voter : (configs : List (List K)) → missing_voter eq cmp configs nodes ≡ None → list_all (all_present eq nodes) configs ≡ true
  present_if_no_missing_voter [] h = refl
  present_if_no_missing_voter (x ∷ xs) h =
      elim (first_missing eq nodes x) as (λ o. first_missing eq nodes x ≡ o → fold next_least o xs ≡ None → list_all (all_present eq nodes) (x ∷ xs) ≡ true) [
        | None ↦ λ e k. both (all_present eq nodes x) (list_all (all_present eq nodes) xs) (present_if_none_missing eq nodes x e) (present_if_no_missing_voter xs k)
        | Some a ↦ λ e k. let v = some_stays a xs in cc (v.1, k)
      ] refl h

  pub no_missing_voter_if_present : (configs : List (List K)) → list_all (all_present eq nodes) configs ≡ true → missing_voter eq cmp configs nodes ≡ None
  no_missing_voter_if_present [] h = refl
  no_missing_voter_if_present (x ∷ xs) h =
      ap (λ o. fold next_least o xs) (none_missing_if_present eq nodes x (and_left (all_present eq nodes x) (list_all (all_present eq nodes) xs) h))
      ∙ no_missing_voter_if_present xs (and_right (all_present eq nodes x) (list_all (all_present eq nodes) xs) h)

-- what holds of each config after a step holds of the goal
goal_of_step : {Q : Type 0} (eq : Q → Q → Bool) (p : Q → Bool) (goal : Q) (configs : List Q) → list_all p (next_configs eq configs goal) ≡ true → p goal ≡ true
goal_of_step eq p goal [] h = and_left (p goal) true h
goal_of_step eq p goal (x ∷ xs) h =
    elim (list_any (λ c. eq c goal) (x ∷ xs)) as (λ b. list_all p (if b then goal ∷ [] else last_of x xs ∷ goal ∷ []) ≡ true → p goal ≡ true) [
      | true ↦ λ k. and_left (p goal) true k
      | false ↦ λ k. and_left (p goal) true (and_right (p (last_of x xs)) (p goal && true) k)
    ] h

module _ {K N : Type 0} (eq : K → K → Bool) (same : IsEquivalence eq) (identical : (x y : K) → eq x y ≡ true → x ≡ y) where
  kept_present : (keep : K → Bool) (nodes : List (K × N)) (id : K) → keep id ≡ true → has_node eq nodes id ≡ true → has_node eq (filter (λ (x : K × N). keep x.0) nodes) id ≡ true
  kept_present keep [] id k h = h
  kept_present keep (x ∷ xs) id k h =
      elim (eq x.0 id) as (λ b. eq x.0 id ≡ b → (b || has_node eq xs id) ≡ true → has_node eq (filter (λ (y : K × N). keep y.0) (x ∷ xs)) id ≡ true) [
        | true ↦ λ e _. ap (λ b. has_node eq (cond b (x ∷ filter (λ (y : K × N). keep y.0) xs) (filter (λ (y : K × N). keep y.0) xs)) id) (ap keep (identical x.0 id e) ∙ k)
            ∙ or_left (eq x.0 id) (has_node eq (filter (λ (y : K × N). keep y.0) xs) id) e
        | false ↦ λ _ l. elim (keep x.0) as (λ b. has_node eq (cond b (x ∷ filter (λ (y : K × N). keep y.0) xs) (filter (λ (y : K × N). keep y.0) xs)) id ≡ true) [
          | true ↦ or_right (eq x.0 id) (has_node eq (filter (λ (y : K × N). keep y.0) xs) id) (kept_present keep xs id k l)
          | false ↦ kept_present keep xs id k l
        ]
      ] refl h

  group_kept : (keep : K → Bool) (nodes : List (K × N)) (ids : List K) → ((id : K) → has_id eq ids id ≡ true → keep id ≡ true)
      → list_all (has_node eq nodes) ids ≡ true → list_all (has_node eq (filter (λ (x : K × N). keep x.0) nodes)) ids ≡ true
  group_kept keep nodes [] stay h = refl
  group_kept keep nodes (x ∷ xs) stay h =
      both (has_node eq (filter (λ (y : K × N). keep y.0) nodes) x) (list_all (has_node eq (filter (λ (y : K × N). keep y.0) nodes)) xs)
      (kept_present keep nodes x (stay x (or_left (eq x x) (has_id eq xs x) (same.refl x))) (and_left (has_node eq nodes x) (list_all (has_node eq nodes) xs) h))
      (group_kept keep nodes xs (λ id e. stay id (or_right (eq x id) (has_id eq xs id) e)) (and_right (has_node eq nodes x) (list_all (has_node eq nodes) xs) h))

  groups_kept : (keep : K → Bool) (nodes : List (K × N)) (groups : List (List K)) → ((id : K) → is_voter eq groups id ≡ true → keep id ≡ true)
      → list_all (all_present eq nodes) groups ≡ true → list_all (all_present eq (filter (λ (x : K × N). keep x.0) nodes)) groups ≡ true
  groups_kept keep nodes [] stay h = refl
  groups_kept keep nodes (x ∷ xs) stay h =
      both (all_present eq (filter (λ (y : K × N). keep y.0) nodes) x) (list_all (all_present eq (filter (λ (y : K × N). keep y.0) nodes)) xs)
      (group_kept keep nodes x (λ id e. stay id (or_left (has_id eq x id) (is_voter eq xs id) e)) (and_left (all_present eq nodes x) (list_all (all_present eq nodes) xs) h))
      (groups_kept keep nodes xs (λ id e. stay id (or_right (has_id eq x id) (is_voter eq xs id) e)) (and_right (all_present eq nodes x) (list_all (all_present eq nodes) xs) h))

  retained_present : (retain : Bool) (old new : List (List K)) (nodes : List (K × N)) → list_all (all_present eq nodes) new ≡ true → list_all (all_present eq (retained_nodes eq retain old new nodes)) new ≡ true
  retained_present true old new nodes h = h
  retained_present false old new nodes h =
      groups_kept (λ id. is_voter eq new id || not (is_voter eq old id)) nodes new (λ id e. or_left (is_voter eq new id) (not (is_voter eq old id)) e) h

abbrev has_members : {K : Type 0} → List K → Bool
has_members group = not (length group == 0)

no_empty_group : {K : Type 0} (configs : List (List K)) → has_empty_group configs ≡ false → list_all has_members configs ≡ true
no_empty_group [] h = refl
no_empty_group (x ∷ xs) h =
    elim (length x == 0) as (λ b. (b || has_empty_group xs) ≡ false → (not b && list_all has_members xs) ≡ true) [ true ↦ λ k. cc k | false ↦ λ k. no_empty_group xs k ] h

all_have_members : {K : Type 0} (configs : List (List K)) → list_all has_members configs ≡ true → has_empty_group configs ≡ false
all_have_members [] h = refl
all_have_members (x ∷ xs) h =
    elim (length x == 0) as (λ b. (not b && list_all has_members xs) ≡ true → (b || has_empty_group xs) ≡ false) [ true ↦ λ k. cc k | false ↦ λ k. all_have_members xs k ] h

no_fault_no_learner : {K : Type 0} (missing : Option K) → learner_fault missing ≡ None → missing ≡ None
no_fault_no_learner None h = refl
no_fault_no_learner (Some id) h = cc h

module _ {K N : Type 0} (eq : K → K → Bool) (cmp : K → K → Ordering) where
  valid_parts : (configs : List (List K)) (nodes : List (K × N)) → validity_fault eq cmp configs nodes ≡ None → (list_all has_members configs ≡ true) × (list_all (all_present eq nodes) configs ≡ true)
  valid_parts configs nodes h =
      elim (has_empty_group configs) as (λ b. has_empty_group configs ≡ b → (if b then Some (EmptyMembership (record {})) else learner_fault (missing_voter eq cmp configs nodes)) ≡ None → (list_all has_members configs ≡ true) × (list_all (all_present eq nodes) configs ≡ true)) [
        | true ↦ λ e k. cc k
        | false ↦ λ e k. (no_empty_group configs e, present_if_no_missing_voter eq cmp nodes configs (no_fault_no_learner (missing_voter eq cmp configs nodes) k))
      ] refl h

  valid_whole : (configs : List (List K)) (nodes : List (K × N)) → list_all has_members configs ≡ true → list_all (all_present eq nodes) configs ≡ true → validity_fault eq cmp configs nodes ≡ None
  valid_whole configs nodes h k =
      ap (λ b. if b then Some (EmptyMembership (record {})) else learner_fault (missing_voter eq cmp configs nodes)) (all_have_members configs h)
      ∙ ap learner_fault (no_missing_voter_if_present eq cmp nodes configs k)

module _ {K N : Type 0} (eq : K → K → Bool) (cmp : K → K → Ordering) (same : IsEquivalence eq) (identical : (x y : K) → eq x y ≡ true → x ≡ y) where
  step_valid : (m : Membership K N) (goal : List K) (retain : Bool) → IsValid eq cmp m → has_members goal ≡ true → all_present eq m.nodes goal ≡ true
      → IsValid eq cmp (next_coherent eq cmp m goal retain) × (all_present eq (next_coherent eq cmp m goal retain).nodes goal ≡ true)
  step_valid m goal retain valid some present =
      let parts = valid_parts eq cmp m.configs m.nodes valid in
      let new : List (List K) = next_configs (pointwise eq) m.configs goal in
      let stay = retained_present eq same identical retain m.configs new m.nodes (step_keeps (pointwise eq) (all_present eq m.nodes) goal m.configs present parts.1) in (
        valid_whole eq cmp new (retained_nodes eq retain m.configs new m.nodes) (step_keeps (pointwise eq) has_members goal m.configs some parts.0) stay,
        goal_of_step (pointwise eq) (all_present eq (retained_nodes eq retain m.configs new m.nodes)) goal m.configs stay,
      )

  -- two changes give the goal alone, and are both valid
  pub replaced_in_two : (m : Membership K N) (goal : List K) (retain : Bool) → IsValid eq cmp m → has_members goal ≡ true → first_missing eq m.nodes goal ≡ None
      → IsReplacedInTwo eq cmp m goal retain
  replaced_in_two m goal retain valid some present =
      let one = step_valid m goal retain valid some (present_if_none_missing eq m.nodes goal present) in
      let two = step_valid (next_coherent eq cmp m goal retain) goal retain one.0 some one.1 in
      (one.0, two.0, two_steps (pointwise eq) (lists_equiv same) goal m.configs)

pub has_some : {K : Type 0} (group : List K) → 0 < length group → has_members group ≡ true
has_some [] h = absurd (omega arith)
has_some (x ∷ xs) h = grind (arith, common_steps)
