-- Leaders among the log ids that keys tell, and among the entries of a placed log.
use Rattle.std.specs.Prelude.{◌≡◌, ℕ, zero, suc, ◌+◌, ◌-◌, ◌<◌, ◌≤◌, ◌&&◌, ◌||◌, nat_lt, nat_le, Bool, true, false, List, [], ◌∷◌, ◌++◌, map, length, drop, Option, Some, None, refl}
use Rattle.std.specs.List.{slice_get, list_any, range_with_len}
use Rattle.std.specs.Option.{option_copied, is_some, IfSome}
use Rattle.std.proofs.Common.{sym, ap, ◌∙◌, arith, get_or, Bor}
use Rattle.std.proofs.lemmas.Option.{slice_get_read, slice_get_past}
use Rattle.std.proofs.lemmas.Bool.Decides.{nat_tests}
use Rattle.std.proofs.lemmas.List.Folds.{list_any-append}
use Rattle.std.proofs.lemmas.Bool.{and_right}
use Rattle.raft_membership.proofs.FaultLemmas.{and_true}
use Rattle.raft_values.specs.declared.vote.LeaderId.{LeaderId}
use Rattle.raft_values.specs.declared.log_id.LogId.{LogId}
use Rattle.raft_values.specs.LogId.{next_place}
use Rattle.raft_log_ids.proofs.KeyEndLemmas.{end_above}
use Rattle.raft_log_ids.specs.LogIdList.{leader_ids, end_of_key, ids_of, IsBelowNext, PlacesRise}
use Rattle.raft_group_step.specs.Values.{Entry, leader_eq, is_written_by}
use Rattle.raft_group_step.specs.StoredGroup.{StoredGroup, first_place}
use Rattle.raft_known_state.specs.KnownState.{ArePlaced, IsPlaced, entry_ids, purged_ids, stored_ids, is_of_leader_from, stands_under}

-- ---- keys

by_last : (b : Bool) (place start : ℕ) → ((b && nat_le place start) || false) ≡ (b && nat_lt place (start + 1))
by_last false place start = refl
by_last true place start = grind (arith, nat_tests)

by_later : (b : Bool) (place start n : ℕ) → ((b && nat_le place start) || (b && nat_lt place (start + 1 + suc n))) ≡ (b && nat_lt place (start + suc (suc n)))
by_later false place start n = refl
by_later true place start n = grind (arith, nat_tests)

-- of a leader's log ids one is at the place or above it if they end above it
any_of_leader : (leader own : LeaderId ℕ) (place start n : ℕ) → list_any (is_of_leader_from leader place) (map (λ index. record { leader_id = own; index = index }) (range_with_len start (suc n))) ≡ (leader_eq own leader && nat_lt place (start + suc n))
any_of_leader leader own place start zero = by_last (leader_eq own leader) place start
any_of_leader leader own place start (suc n) =
    ap (λ b. (leader_eq own leader && nat_le place start) || b) (any_of_leader leader own place (start + 1) n) ∙ by_later (leader_eq own leader) place start n

any_up_to : (leader own : LeaderId ℕ) (place start end : ℕ) → start < end → list_any (is_of_leader_from leader place) (leader_ids own start end) ≡ (leader_eq own leader && nat_lt place end)
any_up_to leader own place start end l =
    let n : end - start ≡ suc (end - start - 1) = omega arith in
    let at : start + suc (end - start - 1) ≡ end = omega arith in
    ap (λ k. list_any (is_of_leader_from leader place) (map (λ index. record { leader_id = own; index = index }) (range_with_len start k))) n
    ∙ any_of_leader leader own place start (end - start - 1)
    ∙ ap (λ k. leader_eq own leader && nat_lt place k) at

under_end : (place : ℕ) (key : LogId ℕ) (rest : List (LogId ℕ)) → nat_lt place (end_of_key key rest) ≡ stands_under place key (slice_get rest 0)
under_end place key [] = grind (arith, nat_tests)
under_end place key (next ∷ rest) = refl

-- what the first key tells, and then the others
first_key : (leader : LeaderId ℕ) (place : ℕ) (key : LogId ℕ) (rest : List (LogId ℕ)) → IsBelowNext key rest
    → list_any (is_of_leader_from leader place) (ids_of (key ∷ rest)) ≡ ((leader_eq key.leader_id leader && stands_under place key (slice_get rest 0)) || list_any (is_of_leader_from leader place) (ids_of rest))
first_key leader place key rest l =
    list_any-append (is_of_leader_from leader place) (leader_ids key.leader_id key.index (end_of_key key rest)) (ids_of rest)
    ∙ ap (λ b. b || list_any (is_of_leader_from leader place) (ids_of rest))
    (any_up_to leader key.leader_id place key.index (end_of_key key rest) (end_above key rest l) ∙ ap (λ b. leader_eq key.leader_id leader && b) (under_end place key rest))

-- one key more
pub next_key : (leader : LeaderId ℕ) (place : ℕ) (keys : List (LogId ℕ)) (at : ℕ) (d : LogId ℕ) → PlacesRise keys → at < length keys
    → list_any (is_of_leader_from leader place) (ids_of (drop at keys))
    ≡ ((leader_eq (get_or keys at d).leader_id leader && stands_under place (get_or keys at d) (slice_get keys (at + 1))) || list_any (is_of_leader_from leader place) (ids_of (drop (at + 1) keys)))
next_key leader place [] at d r l = absurd (omega arith)
next_key leader place (x ∷ keys) zero d r l = first_key leader place x keys r.0
next_key leader place (x ∷ keys) (suc at) d r l =
    let more : suc at + 1 ≡ suc (at + 1) = omega arith in
    rw more (next_key leader place keys at d r.1 (omega arith))

-- the key behind it
pub found_next : (keys : List (LogId ℕ)) (i : ℕ) (found : Option (Bor (LogId ℕ))) → is_some found ≡ nat_lt i (length keys) → IfSome found (λ x. x.now ≡ get_or keys i x.now) → option_copied found ≡ slice_get keys i
found_next keys i None e f = let past : length keys ≤ i = grind (arith, nat_tests, e) in sym (slice_get_past keys i past)
found_next keys i (Some x) e f = let within : i < length keys = grind (arith, nat_tests, e) in sym (slice_get_read keys (length keys) i x.now refl within f)

-- the answer is with this key, or with the others
pub is_here : (p q rest : Bool) → true ≡ p → true ≡ q → ((p && q) || rest) ≡ true
is_here true true rest e f = refl
is_here true false rest e f = cc
is_here false q rest e f = cc

pub ends_below : (p q rest : Bool) → false ≡ q → ((p && q) || rest) ≡ rest
ends_below p true rest e = cc
ends_below true false rest e = refl
ends_below false false rest e = refl

pub is_of_another : (p q rest : Bool) → false ≡ p → ((p && q) || rest) ≡ rest
is_of_another true q rest e = cc
is_of_another false q rest e = refl

-- ---- entries

-- all entries of a placed log are at its first place or above it
entries_of : (leader : LeaderId ℕ) (start place : ℕ) (es : List Entry) → ArePlaced place es → start ≤ place → list_any (is_of_leader_from leader start) (entry_ids es) ≡ list_any (is_written_by leader) es
entries_of leader start place [] p l = refl
entries_of leader start place (e ∷ es) p l =
    let within : nat_le start e.log_id.index ≡ true = let f : e.log_id.index ≡ place = p.0 in grind (arith, nat_tests, f, l) in
    ap (λ b. b || list_any (is_of_leader_from leader start) (entry_ids es)) (and_true (leader_eq e.log_id.leader_id leader) (nat_le start e.log_id.index) within)
    ∙ ap (λ b. leader_eq e.log_id.leader_id leader || b) (entries_of leader start (suc place) es p.1 (omega arith))

written_parts : (leader : LeaderId ℕ) (purged_id : Option (LogId ℕ)) (log : List Entry) → ArePlaced (next_place purged_id) log → list_any (is_of_leader_from leader (next_place purged_id)) (purged_ids purged_id ++ entry_ids log) ≡ list_any (is_written_by leader) log
written_parts leader None log p = entries_of leader 0 0 log p (omega arith)
written_parts leader (Some id) log p =
    let below : nat_le (id.index + 1) id.index ≡ false = grind (arith, nat_tests) in
    ap (λ b. b || list_any (is_of_leader_from leader (id.index + 1)) (entry_ids log)) (and_right (leader_eq id.leader_id leader) (nat_le (id.index + 1) id.index) below)
    ∙ entries_of leader (id.index + 1) (id.index + 1) log p (omega arith)

-- the leader's log ids from the first place on are those of its entries in the log
pub written-known : (leader : LeaderId ℕ) (s : StoredGroup) → IsPlaced s → list_any (is_of_leader_from leader (first_place s)) (stored_ids s) ≡ list_any (is_written_by leader) s.log
written-known leader s p = written_parts leader s.purged s.log p
