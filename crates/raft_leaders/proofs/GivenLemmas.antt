-- Things that are given log ids one after the other.
use Rattle.std.proofs.Common.{◌≡◌, ℕ, zero, suc, ◌+◌, ◌<◌, ◌≤◌, List, [], ◌∷◌, map, length, get_or, refl, ap, sym, ◌∙◌, arith}
use Rattle.std.proofs.Math.ListN.{set}
use Rattle.raft_values.specs.declared.vote.LeaderId.{LeaderId}
use Rattle.raft_values.specs.declared.log_id.LogId.{LogId}
use Rattle.raft_log_ids.specs.LogIdList.{leader_ids}
use Rattle.raft_log_ids.proofs.LogIdLemmas.{leader_ids-none, leader_ids-first}
use Rattle.raft_leaders.specs.Leader.{id_of_leader, with_log_ids}

module _ {K X : Type 0} (with_id : X → LogId K → X) (leader : LeaderId K) where
  -- the first so many have been given log ids from the place on
  abbrev pub given : ℕ → ℕ → List X → List X
  given zero place xs = xs
  given (suc n) place [] = []
  given (suc n) place (x ∷ xs) = with_id x (id_of_leader leader place) ∷ given n (place + 1) xs

  -- the next one has not been given one yet
  pub next_given : (n place : ℕ) (xs : List X) (d : X) → get_or (given n place xs) n d ≡ get_or xs n d
  next_given zero place xs d = refl
  next_given (suc n) place [] d = refl
  next_given (suc n) place (x ∷ xs) d = next_given n (place + 1) xs d

  pub length-given : (n place : ℕ) (xs : List X) → length (given n place xs) ≡ length xs
  length-given zero place xs = refl
  length-given (suc n) place [] = refl
  length-given (suc n) place (x ∷ xs) = ap suc (length-given n (place + 1) xs)

  -- and gets the next log id
  pub give_next : (n place at : ℕ) (xs : List X) (d : X) → n < length xs → at ≡ place + n
      → set (given n place xs) n (with_id (get_or xs n d) (id_of_leader leader at)) ≡ given (suc n) place xs
  give_next n place at [] d h e = absurd (omega arith)
  give_next zero place at (x ∷ xs) d h e =
      let here : at ≡ place = omega arith in ap (λ k. with_id x (id_of_leader leader k) ∷ xs) here
  give_next (suc n) place at (x ∷ xs) d h e =
      ap (λ l. with_id x (id_of_leader leader place) ∷ l) (give_next n (place + 1) at xs d (omega arith) (omega arith))

  pub given_all : (n place : ℕ) (xs : List X) → length xs ≤ n → given n place xs ≡ with_log_ids with_id leader place xs
  given_all zero place [] h = refl
  given_all zero place (x ∷ xs) h = absurd (omega arith)
  given_all (suc n) place [] h = refl
  given_all (suc n) place (x ∷ xs) h = ap (λ l. with_id x (id_of_leader leader place) ∷ l) (given_all n (place + 1) xs (omega arith))

  -- their log ids are the leader's, one place after the other
  pub ids-with_log_ids : (id : X → LogId K) → ((x : X) (i : LogId K) → id (with_id x i) ≡ i) → (place end : ℕ) (xs : List X) → end ≡ place + length xs
      → map id (with_log_ids with_id leader place xs) ≡ leader_ids leader place end
  ids-with_log_ids id given_id place end [] e = sym (leader_ids-none leader place end (omega arith))
  ids-with_log_ids id given_id place end (x ∷ xs) e =
      ap (λ i. i ∷ map id (with_log_ids with_id leader (place + 1) xs)) (given_id x (id_of_leader leader place))
      ∙ ap (λ l. id_of_leader leader place ∷ l) (ids-with_log_ids id given_id (place + 1) end xs (omega arith))
      ∙ sym (leader_ids-first leader place end (omega arith))
