-- Why quorums meet, and why changes are coherent.
use Rattle.std.proofs.Common.{◌≡◌, ◌<◌, Bool, true, false, List, [], ◌∷◌, length, refl, ◌∙◌, arith}
use Rattle.std.specs.Prelude.{◌||◌, if◌then◌else◌, IsTrue}
use Rattle.std.specs.declared.cmp.Ordering.{Ordering}
use Rattle.std.specs.List.{list_any}
use Rattle.std.specs.Cmp.{IsEquivalence}
use Rattle.std.specs.Cmp.Lexicographic.{pointwise, lists_equiv}
use Rattle.raft_membership.specs.declared.membership.Membership.{Membership}
use Rattle.raft_membership.specs.declared.change_members.ChangeMembers.{ChangeMembers}
use Rattle.raft_membership.specs.declared.change_members.ChangeMembers.TheVariants.{AddVoterIds, AddVoters, RemoveVoters, ReplaceAllVoters, AddNodes, SetNodes, RemoveNodes, ReplaceAllNodes}
use Rattle.raft_quorums.specs.Nodes.{has_id}
use Rattle.raft_membership.specs.Membership.{is_voter}
use Rattle.raft_membership.specs.MembershipChange.{changed}
use Rattle.raft_quorums.specs.Quorum.{is_majority, is_quorum, share_config, next_configs, last_of}
use Rattle.raft_quorums.specs.QuorumLaws.{IsWithin, majorities_share, one_of_both, or_left, or_right, and_left}

-- two quorums of configs of which there is one share a voter
pub two_quorums_meet : {K : Type 0} (eq : K → K → Bool) → IsEquivalence eq → (p r : K → Bool) (configs : List (List K)) → 0 < length configs
    → is_quorum configs p ≡ true → is_quorum configs r ≡ true → (id : K) × IsTrue (is_voter eq configs id) × IsTrue (p id) × IsTrue (r id)
two_quorums_meet eq same p r [] h f g = absurd (omega arith)
two_quorums_meet eq same p r (x ∷ xs) h f g =
    let w = one_of_both eq same.refl p r x (majorities_share p r x (and_left (is_majority p x) (is_quorum xs p) f) (and_left (is_majority r x) (is_quorum xs r) g))
    in (w.0, or_left (has_id eq x w.0) (is_voter eq xs w.0) w.1, w.2, w.3)

any_within : {X : Type 0} (p r : X → Bool) → IsWithin p r → (xs : List X) → list_any p xs ≡ true → list_any r xs ≡ true
any_within p r wider [] h = h
any_within p r wider (x ∷ xs) h =
    elim (p x) as (λ b. p x ≡ b → (b || list_any p xs) ≡ true → list_any r (x ∷ xs) ≡ true) [
      | true ↦ λ e _. or_left (r x) (list_any r xs) (wider x e)
      | false ↦ λ _ k. or_right (r x) (list_any r xs) (any_within p r wider xs k)
    ] refl h

any_last : {X : Type 0} (r : X → Bool) (x : X) (xs : List X) → r (last_of x xs) ≡ true → list_any r (x ∷ xs) ≡ true
any_last r x [] h = or_left (r x) false h
any_last r x (y ∷ ys) h = or_right (r x) (list_any r (y ∷ ys)) (any_last r y ys h)

module _ {Q : Type 0} (eq : Q → Q → Bool) (same : IsEquivalence eq) where
  shares_goal : (goal : Q) (configs : List Q) → list_any (λ a. eq a goal) configs ≡ true → share_config eq configs (goal ∷ []) ≡ true
  shares_goal goal configs h =
      any_within (λ a. eq a goal) (λ a. list_any (λ b. eq b a) (goal ∷ [])) (λ x e. or_left (eq goal x) false (same.symm goal x ∙ e)) configs h

  shares_last : (goal x : Q) (xs : List Q) → share_config eq (x ∷ xs) (last_of x xs ∷ goal ∷ []) ≡ true
  shares_last goal x xs =
      any_last (λ a. list_any (λ b. eq b a) (last_of x xs ∷ goal ∷ [])) x xs
      (or_left (eq (last_of x xs) (last_of x xs)) (list_any (λ b. eq b (last_of x xs)) (goal ∷ [])) (same.refl (last_of x xs)))

  shares_itself : (configs : List Q) → 0 < length configs → share_config eq configs configs ≡ true
  shares_itself [] h = absurd (omega arith)
  shares_itself (x ∷ xs) h =
      or_left (list_any (λ b. eq b x) (x ∷ xs)) (list_any (λ a. list_any (λ b. eq b a) (x ∷ xs)) xs)
      (or_left (eq x x) (list_any (λ b. eq b x) xs) (same.refl x))

  -- a step shares a config with what it starts from
  pub shares_step : (goal : Q) (configs : List Q) → 0 < length configs → share_config eq configs (next_configs eq configs goal) ≡ true
  shares_step goal [] h = absurd (omega arith)
  shares_step goal (x ∷ xs) h =
      elim (list_any (λ a. eq a goal) (x ∷ xs)) as (λ b. list_any (λ a. eq a goal) (x ∷ xs) ≡ b → share_config eq (x ∷ xs) (if b then goal ∷ [] else last_of x xs ∷ goal ∷ []) ≡ true) [
        | true ↦ λ e. shares_goal goal (x ∷ xs) e
        | false ↦ λ e. shares_last goal x xs
      ] refl

-- a change shares a voter group with what it starts from
pub change_shares : {K N : Type 0} (eq : K → K → Bool) (cmp : K → K → Ordering) → IsEquivalence eq → (m : Membership K N) → 0 < length m.configs
    → (change : ChangeMembers K N) (retain : Bool) → share_config (pointwise eq) m.configs (changed eq cmp m change retain).configs ≡ true
change_shares eq cmp same m h (AddVoterIds ids) retain = shares_step (pointwise eq) (lists_equiv same) _ m.configs h
change_shares eq cmp same m h (AddVoters nodes) retain = shares_step (pointwise eq) (lists_equiv same) _ m.configs h
change_shares eq cmp same m h (RemoveVoters ids) retain = shares_step (pointwise eq) (lists_equiv same) _ m.configs h
change_shares eq cmp same m h (ReplaceAllVoters ids) retain = shares_step (pointwise eq) (lists_equiv same) _ m.configs h
change_shares eq cmp same m h (AddNodes nodes) retain = shares_itself (pointwise eq) (lists_equiv same) m.configs h
change_shares eq cmp same m h (SetNodes nodes) retain = shares_itself (pointwise eq) (lists_equiv same) m.configs h
change_shares eq cmp same m h (RemoveNodes ids) retain = shares_itself (pointwise eq) (lists_equiv same) m.configs h
change_shares eq cmp same m h (ReplaceAllNodes nodes) retain = shares_itself (pointwise eq) (lists_equiv same) m.configs h
