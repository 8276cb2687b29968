-- The numbers of a leader's next requests, and what the facts of a group rest on.
use Rattle.std.specs.Prelude.{◌≡◌, ℕ, ◌+◌, ◌-◌, ◌<◌, ◌==◌, ◌^◌, ◌&&◌, ◌||◌, max, min, nat_eq, nat_lt, Bool, true, false, if◌then◌else◌}
use Rattle.std.specs.Prelude.{List, [], ◌∷◌, ◌++◌, map, Option, Some, None, is_some, unwrap_or, refl}
use Rattle.std.specs.List.{list_all}
use Rattle.std.proofs.Common.{ap, sym, ◌∙◌, subst, arith}
use Rattle.std.proofs.lemmas.Bool.{eqb-true, and_from}
use Rattle.std.proofs.lemmas.Bool.Decides.{nat_tests}
use Rattle.std.proofs.Math.Bool.{and_assoc, true≢false}
use Rattle.raft_quorums.specs.Nodes.{has_node}
use Rattle.raft_quorums.specs.QuorumLaws.{and_left, and_right}
use Rattle.raft_progress.specs.declared.progress_entry.ProgressEntry.{ProgressEntry}
use Rattle.raft_progress.specs.Parts.{has_value, ids_of, value_of}
use Rattle.raft_leaders.specs.Leader.{LeaderValue, peer_at, unknown_peer}
use Rattle.raft_leaders.proofs.PeerLemmas.{somebody_has}
use Rattle.raft_leaders.specs.Candidate.{CandidateValue}
use Rattle.raft_group_step.specs.Values.{LoggedMembership}
use Rattle.raft_group_step.specs.StoredGroup.{StoredGroup}
use Rattle.raft_group_step.specs.Peer.{PeerState, new_peer, peer_or}
use Rattle.raft_group_step.specs.GroupState.{Lead, Role, Follower, Candidate, Leader, is_candidate, is_leader}
use Rattle.raft_group_step.specs.Refusal.{are_in_range, next_ids, number_limit}
use Rattle.raft_known_state.specs.KnownState.{effective_of}
use Rattle.raft_messages.specs.Memberships.{in_force}
use Rattle.raft_engine.specs.Standing.{EffectiveMembership, IsBelowPeer, Leads, PeersRise, PlaysRole}
use Rattle.raft_engine.proofs.PeersLemmas.{same_tests}

-- ---- the greatest of the numbers

max_below : (a b limit : ℕ) → nat_lt (max a b) limit ≡ (nat_lt b limit && nat_lt a limit)
max_below a b limit =
    same_tests (nat_lt (max a b) limit) (nat_lt b limit && nat_lt a limit)
    (λ h. let m : max a b < limit = grind (arith, nat_tests, h) in
    and_from (nat_lt b limit) (nat_lt a limit) (let k : b < limit = omega arith in grind (arith, nat_tests, k)) (let k : a < limit = omega arith in grind (arith, nat_tests, k)))
    (λ h. let f : b < limit = grind (arith, nat_tests, and_left (nat_lt b limit) (nat_lt a limit) h) in
    let g : a < limit = grind (arith, nat_tests, and_right (nat_lt b limit) (nat_lt a limit) h) in
    let m : max a b < limit = omega arith in
    grind (arith, nat_tests, m))

capped_below : (n cap limit : ℕ) → limit < cap + 1 → nat_lt (min n cap) limit ≡ nat_lt n limit
capped_below n cap limit l =
    same_tests (nat_lt (min n cap) limit) (nat_lt n limit)
    (λ h. let m : min n cap < limit = grind (arith, nat_tests, h) in let k : n < limit = omega arith in grind (arith, nat_tests, k))
    (λ h. let m : n < limit = grind (arith, nat_tests, h) in let k : min n cap < limit = omega arith in grind (arith, nat_tests, k))

-- ---- the walk over the leader's entries

-- the number of the next request to the peer is below the limit
abbrev pub is_below : LeaderValue ℕ EffectiveMembership → ℕ → ℕ → Bool
is_below l limit id = nat_lt ((peer_at nat_eq l id).curr_inflight_id + 1) limit

-- so are those to all these peers
abbrev pub are_below : LeaderValue ℕ EffectiveMembership → ℕ → List (ℕ × ProgressEntry ℕ) → Bool
are_below l limit xs = list_all (is_below l limit) (ids_of xs)

-- the number is the greatest of those that come before the rest
abbrev pub Bounds : LeaderValue ℕ EffectiveMembership → ℕ → List (ℕ × ProgressEntry ℕ) → List (ℕ × ProgressEntry ℕ) → Type 0
Bounds l greatest rest all =
    (limit : ℕ) → 0 < limit → limit < 2 ^ 64 → (nat_lt greatest limit && are_below l limit rest) ≡ are_below l limit all

pub bounds_at_first : (l : LeaderValue ℕ EffectiveMembership) (all : List (ℕ × ProgressEntry ℕ)) → Bounds l 0 all all
bounds_at_first l all = λ limit low high. let e : nat_lt 0 limit ≡ true = grind (arith, nat_tests, low) in ap (λ b. b && are_below l limit all) e

module _ (l : LeaderValue ℕ EffectiveMembership) (x : ℕ × ProgressEntry ℕ) (rest all : List (ℕ × ProgressEntry ℕ)) (next greatest new : ℕ)
    (number : next ≡ min ((peer_at nat_eq l x.0).curr_inflight_id + 1) (2 ^ 64 - 1)) (greater : new ≡ max next greatest) where
  -- one more entry
  pub bounds_more : Bounds l greatest (x ∷ rest) all → Bounds l new rest all
  bounds_more h = λ limit low high.
      let n = (peer_at nat_eq l x.0).curr_inflight_id + 1 in
      let e : nat_lt new limit ≡ (nat_lt greatest limit && nat_lt n limit) =
      ap (λ k. nat_lt k limit) greater ∙ max_below next greatest limit
      ∙ ap (λ k. nat_lt greatest limit && nat_lt k limit) number
      ∙ ap (λ b. nat_lt greatest limit && b) (capped_below n (2 ^ 64 - 1) limit (omega arith)) in
      ap (λ b. b && are_below l limit rest) e ∙ and_assoc (nat_lt greatest limit) (nat_lt n limit) (are_below l limit rest) ∙ h limit low high

and_true : (b : Bool) → b ≡ (b && true)
and_true true = refl
and_true false = refl

pub bounds_at_last : (l : LeaderValue ℕ EffectiveMembership) (greatest : ℕ) (all : List (ℕ × ProgressEntry ℕ)) → Bounds l greatest [] all
    → (limit : ℕ) → 0 < limit → limit < 2 ^ 64 → nat_lt greatest limit ≡ are_below l limit all
bounds_at_last l greatest all h limit low high = and_true (nat_lt greatest limit) ∙ h limit low high

-- ---- the peers of the lead

module _ (limit : ℕ) (more : 1 < limit) where
  abbrev is_low : PeerState → Bool
  is_low p = nat_lt p.next_id limit

  abbrev are_low : List PeerState → Bool
  are_low peers = list_all (λ n. nat_lt n limit) (map (λ (p : PeerState). p.next_id) peers)

  found_low : (d : PeerState) (peers : List PeerState) → is_low d ≡ true → are_low peers ≡ true → is_low (peer_or d peers) ≡ true
  found_low d [] low h = low
  found_low d (x ∷ xs) low h =
      elim (x.peer == d.peer) as (λ b. is_low (if b then x else peer_or d xs) ≡ true) [
        | true ↦ and_left (is_low x) (are_low xs) h
        | false ↦ found_low d xs low (and_right (is_low x) (are_low xs) h)
      ]

  below_rest : (n m : ℕ) (peers : List PeerState) → n < m → IsBelowPeer m peers → IsBelowPeer n peers
  below_rest n m [] l h = tt
  below_rest n m (x ∷ xs) l h = let k : m < x.peer = h in omega arith

  -- who is below all of them isn't there
  below_all : (d : PeerState) (peers : List PeerState) → PeersRise peers → IsBelowPeer d.peer peers → peer_or d peers ≡ d
  below_all d [] rising below = refl
  below_all d (x ∷ xs) rising below =
      let lower : d.peer < x.peer = below in
      let other : (x.peer == d.peer) ≡ false = grind (arith, nat_tests, lower) in
      rw other (below_all d xs rising.1 (below_rest d.peer x.peer xs lower rising.0))

  all_low : (began : ℕ) (peers : List PeerState) → PeersRise peers → ((n : ℕ) → is_low (peer_or (new_peer began n) peers) ≡ true) → are_low peers ≡ true
  all_low began [] rising h = refl
  all_low began (x ∷ xs) rising h =
      let one : nat_lt 1 limit ≡ true = grind (arith, nat_tests, more) in
      let same : (x.peer == x.peer) ≡ true = grind (arith, nat_tests) in
      let rest = peer_or (new_peer began x.peer) xs in
      and_from (is_low x) (are_low xs) (ap (λ b. is_low (if b then x else rest)) (sym same) ∙ h x.peer)
      (all_low began xs rising.1 (λ n.
      elim (x.peer == n) as (λ b. (x.peer == n) ≡ b → is_low (peer_or (new_peer began n) xs) ≡ true) [
        | true ↦ λ e. ap is_low (below_all (new_peer began n) xs rising.1 (subst (λ k. IsBelowPeer k xs) (eqb-true x.peer n e) rising.0)) ∙ one
        | false ↦ λ e. ap (λ b. is_low (if b then x else peer_or (new_peer began n) xs)) (sym e) ∙ h n
      ] refl))

  -- ---- who has an entry

  all_there : (test : ℕ → Bool) (xs : List (ℕ × ProgressEntry ℕ)) → ((n : ℕ) → test n ≡ true) → list_all test (ids_of xs) ≡ true
  all_there test [] h = refl
  all_there test (x ∷ xs) h = and_from (test x.0) (list_all test (ids_of xs)) (h x.0) (all_there test xs h)

  one_there : (test : ℕ → Bool) (xs : List (ℕ × ProgressEntry ℕ)) (n : ℕ) → list_all test (ids_of xs) ≡ true → has_node nat_eq xs n ≡ true → test n ≡ true
  one_there test [] n h k = absurd (true≢false (sym k))
  one_there test (x ∷ xs) n h k =
      elim (nat_eq x.0 n) as (λ b. nat_eq x.0 n ≡ b → (b || has_node nat_eq xs n) ≡ true → test n ≡ true) [
        | true ↦ λ e _. ap test (sym (eqb-true x.0 n e)) ∙ and_left (test x.0) (list_all test (ids_of xs)) h
        | false ↦ λ _ j. one_there test xs n (and_right (test x.0) (list_all test (ids_of xs)) h) j
      ] refl k

  all_front : (test : ℕ → Bool) (xs ys : List (ℕ × ProgressEntry ℕ)) → list_all test (ids_of (xs ++ ys)) ≡ (list_all test (ids_of xs) && list_all test (ids_of ys))
  all_front test [] ys = refl
  all_front test (x ∷ xs) ys =
      elim (test x.0) as (λ b. (b && list_all test (ids_of (xs ++ ys))) ≡ ((b && list_all test (ids_of xs)) && list_all test (ids_of ys))) [ true ↦ all_front test xs ys | false ↦ refl ]

  module _ (own : ℕ) (l : LeaderValue ℕ EffectiveMembership) (s : StoredGroup) (lead : Lead) (h : Leads own l s lead) where
    some_entry : (n : ℕ) → are_below l limit (l.progress.voters ++ l.progress.learners) ≡ true → has_value nat_eq l.progress n ≡ true → is_below l limit n ≡ true
    some_entry n all has =
        let parts : (are_below l limit l.progress.voters && are_below l limit l.progress.learners) ≡ true = sym (all_front (is_below l limit) l.progress.voters l.progress.learners) ∙ all in
        elim (has_node nat_eq l.progress.voters n) as (λ b. has_node nat_eq l.progress.voters n ≡ b → (b || has_node nat_eq l.progress.learners n) ≡ true → is_below l limit n ≡ true) [
          | true ↦ λ v _. one_there (is_below l limit) l.progress.voters n (and_left (are_below l limit l.progress.voters) (are_below l limit l.progress.learners) parts) v
          | false ↦ λ _ v. one_there (is_below l limit) l.progress.learners n (and_right (are_below l limit l.progress.voters) (are_below l limit l.progress.learners) parts) v
        ] refl has

    -- who has no entry begins at the first number
    any_entry : (n : ℕ) → are_below l limit (l.progress.voters ++ l.progress.learners) ≡ true → is_below l limit n ≡ true
    any_entry n all =
        elim (value_of nat_eq l.progress n) as (λ o. value_of nat_eq l.progress n ≡ o → nat_lt ((unwrap_or o (unknown_peer l.began)).curr_inflight_id + 1) limit ≡ true) [
          | None ↦ λ e. grind (arith, nat_tests, more)
          | Some v ↦ λ e. ap (λ o. nat_lt ((unwrap_or o (unknown_peer l.began)).curr_inflight_id + 1) limit) (sym e) ∙ some_entry n all (somebody_has nat_eq l.progress n v e)
        ] refl

    -- the numbers of the entries are below the limit where those of the lead's peers are
    pub entries_low : are_below l limit (l.progress.voters ++ l.progress.learners) ≡ are_low lead.peers
    entries_low =
        same_tests (are_below l limit (l.progress.voters ++ l.progress.learners)) (are_low lead.peers)
        (λ all. all_low lead.began lead.peers h.rising (λ n. ap is_low (h.peers n) ∙ any_entry n all))
        (λ all. all_there (is_below l limit) (l.progress.voters ++ l.progress.learners)
        (λ n. ap is_low (sym (h.peers n)) ∙ found_low (new_peer lead.began n) lead.peers (grind (arith, nat_tests, more)) all))

-- ---- what an engine says of the role

-- the number is the greatest of a leader's next requests; it is 0 where there is no leader
abbrev pub IsGreatest : Option (LeaderValue ℕ EffectiveMembership) → ℕ → Type 0
IsGreatest None greatest = greatest ≡ 0
IsGreatest (Some l) greatest =
    (limit : ℕ) → 0 < limit → limit < 2 ^ 64 → nat_lt greatest limit ≡ are_below l limit (l.progress.voters ++ l.progress.learners)

module _ (own : ℕ) (s : StoredGroup) where
  pub leads_told : (l : Option (LeaderValue ℕ EffectiveMembership)) (c : Option (CandidateValue ℕ EffectiveMembership)) (role : Role) → PlaysRole own l c s role → is_some l ≡ is_leader role
  leads_told None None Follower h = refl
  leads_told None (Some c) Follower h = refl
  leads_told (Some l) c Follower h = absurd h
  leads_told None None (Candidate granters) h = refl
  leads_told None (Some c) (Candidate granters) h = refl
  leads_told (Some l) c (Candidate granters) h = absurd h
  leads_told None c (Leader lead) h = absurd h
  leads_told (Some l) c (Leader lead) h = refl

  pub stands_told : (l : Option (LeaderValue ℕ EffectiveMembership)) (c : Option (CandidateValue ℕ EffectiveMembership)) (role : Role) → PlaysRole own l c s role → is_some c ≡ is_candidate role
  stands_told None None Follower h = refl
  stands_told None (Some c) Follower h = absurd h
  stands_told (Some l) c Follower h = absurd h
  stands_told None None (Candidate granters) h = absurd h
  stands_told None (Some c) (Candidate granters) h = refl
  stands_told (Some l) c (Candidate granters) h = absurd h
  stands_told None c (Leader lead) h = absurd h
  stands_told (Some l) None (Leader lead) h = refl
  stands_told (Some l) (Some c) (Leader lead) h = absurd h

  pub range_told : (l : Option (LeaderValue ℕ EffectiveMembership)) (c : Option (CandidateValue ℕ EffectiveMembership)) (role : Role) (greatest : ℕ) → PlaysRole own l c s role → IsGreatest l greatest
      → are_in_range (next_ids role) ≡ nat_lt greatest number_limit
  range_told None c Follower greatest h g = ap (λ n. nat_lt n number_limit) (sym g)
  range_told (Some l) c Follower greatest h g = absurd h
  range_told None c (Candidate granters) greatest h g = ap (λ n. nat_lt n number_limit) (sym g)
  range_told (Some l) c (Candidate granters) greatest h g = absurd h
  range_told None c (Leader lead) greatest h g = absurd h
  range_told (Some l) None (Leader lead) greatest h g =
      sym (entries_low number_limit (omega arith) own l s lead h) ∙ sym (g number_limit (omega arith) (omega arith))
  range_told (Some l) (Some c) (Leader lead) greatest h g = absurd h

-- ---- the membership in force, as the engine knows it

pub in_force_again : (o : Option LoggedMembership) → in_force (effective_of o) ≡ o
in_force_again None = refl
in_force_again (Some m) = refl
