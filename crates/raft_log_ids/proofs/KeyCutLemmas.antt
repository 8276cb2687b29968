-- What a place parts of the full list of log ids: the log id there, those below it, those from it on.
use Rattle.std.proofs.Common.{◌≡◌, ◌≢◌, ℕ, zero, suc, ◌+◌, ◌-◌, ◌<◌, ◌≤◌, true, false, List, [], ◌∷◌, ◌++◌, length, set, get_or, take, drop, refl, ap, sym, subst, ◌∙◌, arith, append-nil, append_assoc}
use Rattle.std.specs.Prelude.{Some, None, ◌==◌, nat_lt, nat_le}
use Rattle.std.specs.List.{filter, find}
use Rattle.std.specs.List.Sorted.{IsNonDecreasingBy}
use Rattle.std.proofs.lemmas.Bool.Decides.{nat_tests}
use Rattle.std.proofs.lemmas.List.{get_or_default}
use Rattle.std.proofs.lemmas.List.Elements.{filter-append}
use Rattle.std.proofs.lemmas.List.Folds.{find-append}
use Rattle.raft_values.specs.declared.vote.LeaderId.{LeaderId}
use Rattle.raft_values.specs.declared.log_id.LogId.{LogId}
use Rattle.raft_log_ids.specs.LogIdList.{leader_ids, ids_of, id_at, truncated, from_place, PlacesRise}
use Rattle.raft_log_ids.proofs.LogIdLemmas.{leader_ids-join, leader_ids-first, filter-all, filter-no, find-no}
use Rattle.raft_log_ids.proofs.LogIdListLemmas.{final}

below-yes : (a b : ℕ) → a < b → nat_lt a b ≡ true
below-yes a b h = grind (arith, nat_tests)

below-no : (a b : ℕ) → b ≤ a → nat_lt a b ≡ false
below-no a b h = grind (arith, nat_tests)

upto-yes : (a b : ℕ) → a ≤ b → nat_le a b ≡ true
upto-yes a b h = grind (arith, nat_tests)

upto-no : (a b : ℕ) → b < a → nat_le a b ≡ false
upto-no a b h = grind (arith, nat_tests)

same-yes : (a : ℕ) → (a == a) ≡ true
same-yes a = grind (arith, nat_tests)

same-no : (a b : ℕ) → a ≢ b → (a == b) ≡ false
same-no a b h = grind (arith, nat_tests)

module _ {K : Type 0} where
  -- the log id of a leader at a place
  abbrev pub id_by : LeaderId K → ℕ → LogId K
  id_by leader index = record { leader_id = leader; index = index }

  -- all keys stand behind the place, or none do
  abbrev pub IsBelowKeys : ℕ → List (LogId K) → Type 0
  IsBelowKeys index [] = Unit {0}
  IsBelowKeys index (key ∷ keys) = index < key.index

  pub first-below : (key : LogId K) (keys : List (LogId K)) (i : ℕ) (found : LogId K) → PlacesRise (key ∷ keys) → i < length (key ∷ keys) → found ≡ get_or (key ∷ keys) i found → key.index ≤ found.index
  first-below key keys zero found h l e = let same : found.index ≡ key.index = ap (λ x. x.index) e in omega arith
  first-below key [] (suc i) found h l e = absurd (omega arith)
  first-below key (next ∷ keys) (suc i) found h l e =
      let later = first-below next keys i found h.1 (omega arith) e in omega (arith, later)

  -- rising places don't fall
  pub places-non_decreasing : (keys : List (LogId K)) → PlacesRise keys → IsNonDecreasingBy (λ (x : LogId K). x.index) keys
  places-non_decreasing [] h i j d l m = absurd (omega arith)
  places-non_decreasing (key ∷ keys) h zero j d l m =
      first-below key keys j (get_or (key ∷ keys) j d) h m (get_or_default (key ∷ keys) j d (get_or (key ∷ keys) j d) m)
  places-non_decreasing (key ∷ keys) h (suc i) zero d l m = absurd (omega arith)
  places-non_decreasing (key ∷ keys) h (suc i) (suc j) d l m = places-non_decreasing keys h.1 i j d (omega arith) (omega arith)

  pub first-below-final : (key : LogId K) (keys : List (LogId K)) → PlacesRise (key ∷ keys) → key.index ≤ (final key keys).index
  first-below-final key [] h = omega arith
  first-below-final key (next ∷ keys) h = let later = first-below-final next keys h.1 in omega (arith, later)

  -- a leader's log ids: the one at a place, those below, those from there on
  find-there : (leader : LeaderId K) (a b index : ℕ) → a ≤ index → index < b → find (λ id. id.index == index) (leader_ids leader a b) ≡ Some (id_by leader index)
  find-there leader a b index h l =
      rw (
        ← leader_ids-join leader a index b h (omega arith),
        find-append,
        find-no leader (λ id. id.index == index) a index (λ k m n. same-no k index (omega arith)),
        leader_ids-first leader index b l,
        same-yes index,
      ) refl

  find-nowhere : (leader : LeaderId K) (a b index : ℕ) → ((k : ℕ) → a ≤ k → k < b → k ≢ index) → find (λ id. id.index == index) (leader_ids leader a b) ≡ None
  find-nowhere leader a b index h = find-no leader (λ id. id.index == index) a b (λ k m n. same-no k index (h k m n))

  below-here : (leader : LeaderId K) (a b at : ℕ) → a ≤ at → at ≤ b → truncated (leader_ids leader a b) at ≡ leader_ids leader a at
  below-here leader a b at h l =
      rw (
        ← leader_ids-join leader a at b h l,
        filter-append,
        filter-all leader (λ id. nat_lt id.index at) a at (λ k m n. below-yes k at n),
        filter-no leader (λ id. nat_lt id.index at) at b (λ k m n. below-no k at m),
        append-nil,
      ) refl

  from-here : (leader : LeaderId K) (a b at : ℕ) → a ≤ at → at ≤ b → filter (λ id. nat_le at id.index) (leader_ids leader a b) ≡ leader_ids leader at b
  from-here leader a b at h l =
      rw (
        ← leader_ids-join leader a at b h l,
        filter-append,
        filter-no leader (λ id. nat_le at id.index) a at (λ k m n. upto-no at k n),
        filter-all leader (λ id. nat_le at id.index) at b (λ k m n. upto-yes at k m),
      ) refl

  -- the log id at a place before the first key
  pub id_at-before : (keys : List (LogId K)) (index : ℕ) → PlacesRise keys → IsBelowKeys index keys → id_at (ids_of keys) index ≡ None
  id_at-before [] index h l = refl
  id_at-before (key ∷ []) index h l =
      rw (append-nil, find-nowhere key.leader_id key.index (key.index + 1) index (λ k m n e. omega arith)) refl
  id_at-before (key ∷ next ∷ keys) index h l =
      rw (find-append, find-nowhere key.leader_id key.index next.index index (λ k m n e. omega arith))
      (id_at-before (next ∷ keys) index h.1 (omega arith))

  -- the log id at a place behind the last key
  pub id_at-behind : (key : LogId K) (keys : List (LogId K)) (index : ℕ) → PlacesRise (key ∷ keys) → (final key keys).index < index → id_at (ids_of (key ∷ keys)) index ≡ None
  id_at-behind key [] index h l =
      rw (append-nil, find-nowhere key.leader_id key.index (key.index + 1) index (λ k m n e. omega arith)) refl
  id_at-behind key (next ∷ keys) index h l =
      let low = first-below-final next keys h.1 in
      rw (find-append, find-nowhere key.leader_id key.index next.index index (λ k m n e. omega (arith, low)))
      (id_at-behind next keys index h.1 l)

  -- the log id at a place from a key on, below the next one
  pub id_at-inside : (keys : List (LogId K)) (i : ℕ) (key : LogId K) (index : ℕ) → PlacesRise keys → key ≡ get_or keys i key → key.index ≤ index
      → suc i < length keys → ((d : LogId K) → index < (get_or keys (suc i) d).index) → id_at (ids_of keys) index ≡ Some (id_by key.leader_id index)
  id_at-inside [] i key index h e l m n = absurd (omega arith)
  id_at-inside (first ∷ []) i key index h e l m n = absurd (omega arith)
  id_at-inside (first ∷ next ∷ keys) zero key index h e l m n =
      let low : first.index ≤ index = subst (λ (x : LogId K). x.index ≤ index) e l in
      rw (find-append, find-there first.leader_id first.index next.index index low (n key))
      (ap (λ (x : LogId K). Some (id_by x.leader_id index)) (sym e))
  id_at-inside (first ∷ next ∷ keys) (suc i) key index h e l m n =
      let low = first-below next keys i key h.1 (omega arith) e in
      rw (find-append, find-nowhere first.leader_id first.index next.index index (λ k o p q. omega (arith, low)))
      (id_at-inside (next ∷ keys) i key index h.1 e l (omega arith) n)

  -- the last key's own log id
  pub id_at-last : (key : LogId K) (keys : List (LogId K)) → PlacesRise (key ∷ keys) → id_at (ids_of (key ∷ keys)) (final key keys).index ≡ Some (final key keys)
  id_at-last key [] h = rw (append-nil, find-there key.leader_id key.index (key.index + 1) key.index (omega arith) (omega arith)) refl
  id_at-last key (next ∷ keys) h =
      let low = first-below-final next keys h.1 in
      rw (find-append, find-nowhere key.leader_id key.index next.index (final next keys).index (λ k m n e. omega (arith, low)))
      (id_at-last next keys h.1)

  -- nothing stands below a place that isn't behind the first key
  pub truncated-before : (keys : List (LogId K)) (at : ℕ) → PlacesRise keys → ((d : LogId K) → 0 < length keys → at ≤ (get_or keys 0 d).index) → truncated (ids_of keys) at ≡ []
  truncated-before [] at h l = refl
  truncated-before (key ∷ []) at h l =
      rw (append-nil, filter-no key.leader_id (λ id. nat_lt id.index at) key.index (key.index + 1) (λ k m n. below-no k at (omega (arith, l key (omega arith))))) refl
  truncated-before (key ∷ next ∷ keys) at h l =
      rw (filter-append, filter-no key.leader_id (λ id. nat_lt id.index at) key.index next.index (λ k m n. below-no k at (omega (arith, l key (omega arith)))))
      (truncated-before (next ∷ keys) at h.1 (λ d m. omega (arith, l key (omega arith))))

  -- all stand below a place behind the last key
  pub truncated-behind : (key : LogId K) (keys : List (LogId K)) (at : ℕ) → PlacesRise (key ∷ keys) → (final key keys).index < at → truncated (ids_of (key ∷ keys)) at ≡ ids_of (key ∷ keys)
  truncated-behind key [] at h l =
      rw (append-nil, filter-all key.leader_id (λ id. nat_lt id.index at) key.index (key.index + 1) (λ k m n. below-yes k at (omega arith))) refl
  truncated-behind key (next ∷ keys) at h l =
      let low = first-below-final next keys h.1 in
      rw (
        filter-append,
        filter-all key.leader_id (λ id. nat_lt id.index at) key.index next.index (λ k m n. below-yes k at (omega (arith, low))),
        truncated-behind next keys at h.1 l,
      ) refl

  -- what is left below a place from a key on, not behind the next one: the key's leader goes on up to there
  pub truncated-pair : (keys : List (LogId K)) (i : ℕ) (key : LogId K) (at : ℕ) → PlacesRise keys → key ≡ get_or keys i key → key.index + 1 < at
      → suc i < length keys → ((d : LogId K) → at ≤ (get_or keys (suc i) d).index)
      → ids_of (take (suc (suc i)) (set keys (suc i) (id_by key.leader_id (at - 1)))) ≡ truncated (ids_of keys) at
  truncated-pair [] i key at h e l m n = absurd (omega arith)
  truncated-pair (first ∷ []) i key at h e l m n = absurd (omega arith)
  truncated-pair (first ∷ next ∷ keys) zero key at h e l m n =
      let one_leader : key.leader_id ≡ first.leader_id = ap (λ (x : LogId K). x.leader_id) e in
      let low : first.index + 1 < at = subst (λ (x : LogId K). x.index + 1 < at) e l in
      let back : at - 1 + 1 ≡ at = omega arith in
      rw (
        filter-append,
        below-here first.leader_id first.index next.index at (omega arith) (n key),
        truncated-before (next ∷ keys) at h.1 (λ d o. n d),
        one_leader,
        back,
      )
      (rw (← append_assoc, leader_ids-join first.leader_id first.index (at - 1) at (omega arith) (omega arith)) refl)
  truncated-pair (first ∷ next ∷ keys) (suc i) key at h e l m n =
      let low = first-below next keys i key h.1 (omega arith) e in
      rw (filter-append, filter-all first.leader_id (λ id. nat_lt id.index at) first.index next.index (λ k o p. below-yes k at (omega (arith, low))))
      (ap (λ ids. leader_ids first.leader_id first.index next.index ++ ids) (truncated-pair (next ∷ keys) i key at h.1 e l (omega arith) n))

  -- what is left below the place right behind a key
  pub truncated-front : (keys : List (LogId K)) (i : ℕ) (key : LogId K) (at : ℕ) → PlacesRise keys → key ≡ get_or keys i key → key.index + 1 ≡ at
      → suc i < length keys → ((d : LogId K) → at ≤ (get_or keys (suc i) d).index)
      → ids_of (take (suc i) keys) ≡ truncated (ids_of keys) at
  truncated-front [] i key at h e l m n = absurd (omega arith)
  truncated-front (first ∷ []) i key at h e l m n = absurd (omega arith)
  truncated-front (first ∷ next ∷ keys) zero key at h e l m n =
      let low : first.index + 1 ≡ at = ap (λ (x : LogId K). x.index + 1) (sym e) ∙ l in
      rw (
        filter-append,
        below-here first.leader_id first.index next.index at (omega arith) (n key),
        truncated-before (next ∷ keys) at h.1 (λ d o. n d),
        low,
      ) refl
  truncated-front (first ∷ next ∷ keys) (suc i) key at h e l m n =
      let low = first-below next keys i key h.1 (omega arith) e in
      rw (filter-append, filter-all first.leader_id (λ id. nat_lt id.index at) first.index next.index (λ k o p. below-yes k at (omega (arith, low))))
      (ap (λ ids. leader_ids first.leader_id first.index next.index ++ ids) (truncated-front (next ∷ keys) i key at h.1 e l (omega arith) n))

  -- all stand at or behind a place that isn't behind the first key
  pub from_place-before : (keys : List (LogId K)) (at : ℕ) → PlacesRise keys → ((d : LogId K) → 0 < length keys → at ≤ (get_or keys 0 d).index) → from_place at (ids_of keys) ≡ ids_of keys
  from_place-before [] at h l = refl
  from_place-before (key ∷ []) at h l =
      rw (append-nil, filter-all key.leader_id (λ id. nat_le at id.index) key.index (key.index + 1) (λ k m n. upto-yes at k (omega (arith, l key (omega arith))))) refl
  from_place-before (key ∷ next ∷ keys) at h l =
      rw (
        filter-append,
        filter-all key.leader_id (λ id. nat_le at id.index) key.index next.index (λ k m n. upto-yes at k (omega (arith, l key (omega arith)))),
        from_place-before (next ∷ keys) at h.1 (λ d m. omega (arith, l key (omega arith))),
      ) refl

  -- none does behind the last key
  pub from_place-behind : (key : LogId K) (keys : List (LogId K)) (at : ℕ) → PlacesRise (key ∷ keys) → (final key keys).index < at → from_place at (ids_of (key ∷ keys)) ≡ []
  from_place-behind key [] at h l =
      rw (append-nil, filter-no key.leader_id (λ id. nat_le at id.index) key.index (key.index + 1) (λ k m n. upto-no at k (omega arith))) refl
  from_place-behind key (next ∷ keys) at h l =
      let low = first-below-final next keys h.1 in
      rw (filter-append, filter-no key.leader_id (λ id. nat_le at id.index) key.index next.index (λ k m n. upto-no at k (omega (arith, low))))
      (from_place-behind next keys at h.1 l)

  -- what stands from a place on that is a key's or lies below the next one: the key moves up to there
  pub from_place-inside : (keys : List (LogId K)) (i : ℕ) (key : LogId K) (at : ℕ) → PlacesRise keys → key ≡ get_or keys i key → key.index ≤ at
      → i < length keys → ((d : LogId K) → suc i < length keys → at < (get_or keys (suc i) d).index) → at ≤ (final key (drop (suc i) keys)).index
      → from_place at (ids_of keys) ≡ ids_of (id_by key.leader_id at ∷ drop (suc i) keys)
  from_place-inside [] i key at h e l m n o = absurd (omega arith)
  from_place-inside (first ∷ []) (suc i) key at h e l m n o = absurd (omega arith)
  from_place-inside (first ∷ []) zero key at h e l m n o =
      let one_leader : key.leader_id ≡ first.leader_id = ap (λ (x : LogId K). x.leader_id) e in
      let one_place : key.index ≡ first.index = ap (λ (x : LogId K). x.index) e in
      let here : at ≡ first.index = omega arith in
      rw (one_leader, here) (from_place-before (first ∷ []) first.index h (λ d p. omega arith))
  from_place-inside (first ∷ next ∷ keys) zero key at h e l m n o =
      let one_leader : key.leader_id ≡ first.leader_id = ap (λ (x : LogId K). x.leader_id) e in
      let one_place : key.index ≡ first.index = ap (λ (x : LogId K). x.index) e in
      let below : at < next.index = n key (omega arith) in
      rw (
        filter-append,
        from-here first.leader_id first.index next.index at (omega arith) (omega arith),
        one_leader,
        from_place-before (next ∷ keys) at h.1 (λ d p. omega arith),
      ) refl
  from_place-inside (first ∷ next ∷ keys) (suc i) key at h e l m n o =
      let low = first-below next keys i key h.1 (omega arith) e in
      rw (filter-append, filter-no first.leader_id (λ id. nat_le at id.index) first.index next.index (λ k p q. upto-no at k (omega (arith, low))))
      (from_place-inside (next ∷ keys) i key at h.1 e l (omega arith) (λ d p. n d (omega arith)) o)
