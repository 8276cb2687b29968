-- The memberships of a log are in order, and those in order are counted by halving.
use Rattle.std.proofs.Common.{◌≡◌, ℕ, zero, suc, ◌+◌, ◌-◌, ◌<◌, ◌≤◌, true, false, List, [], ◌∷◌, ◌++◌, length, take, drop, get_or, leb, le-leb, leb-true, refl, ap, sym, subst, ◌∙◌, arith}
use Rattle.std.specs.Prelude.{Option, Some, None}
use Rattle.std.specs.List.Sorted.{IsPartitionedBy}
use Rattle.std.proofs.lemmas.Bool.Decides.{nat_tests}
use Rattle.raft_values.specs.declared.vote.LeaderId.{LeaderId}
use Rattle.raft_values.specs.declared.log_id.LogId.{LogId}
use Rattle.raft_values.specs.LogId.{next_place}
use Rattle.raft_log_ids.specs.LogIdList.{ids_of, leader_ids, PlacesRise}
use Rattle.raft_state.specs.declared.entry.EntryPayload.TheVariants.{Blank, Normal, Membership as Members}
use Rattle.raft_log_ids.proofs.LogIdLemmas.{leader_ids-first, leader_ids-none}
use Rattle.raft_group_step.specs.Values.{Entry, EntryPayload}
use Rattle.raft_group_step.specs.StoredGroup.{StoredGroup}
use Rattle.raft_known_state.specs.KnownState.{AreInOrder, EffectiveMembership, drop_below, entry_ids, is_below, memberships_in, purged_ids, stored_ids, take_below, with_membership_of}
use Rattle.raft_known_state.proofs.PlacedIds.{Placed}

-- ---- a count of those in order

below_at : (place : ℕ) (id : Option (LogId ℕ)) → is_below place id ≡ leb (next_place id) place
below_at place None = grind (arith, nat_tests)
below_at place (Some id) = grind (arith, nat_tests)

-- of those in order none is below a place behind one that isn't
pub parted : (place : ℕ) (ms : List EffectiveMembership) → AreInOrder ms → IsPartitionedBy (λ m. is_below place m.log_id) ms
parted place ms h i j d l m e =
    let later : next_place (get_or ms j d).log_id ≤ place = leb-true _ _ (sym (below_at place (get_or ms j d).log_id) ∙ e) in
    let not_later : next_place (get_or ms i d).log_id ≤ next_place (get_or ms j d).log_id = h i j d l m in
    below_at place (get_or ms i d).log_id ∙ le-leb _ _ (omega arith)

-- those below the place come first, and the others behind them
pub take_counted : (place : ℕ) (ms : List EffectiveMembership) (n : ℕ) → n ≤ length ms
    → ((k : ℕ) (d : EffectiveMembership) → k < n → is_below place (get_or ms k d).log_id ≡ true)
    → ((d : EffectiveMembership) → n < length ms → is_below place (get_or ms n d).log_id ≡ false)
    → take n ms ≡ take_below place ms
take_counted place [] zero l h f = refl
take_counted place [] (suc n) l h f = absurd (omega arith)
take_counted place (m ∷ ms) zero l h f = rw (f m (omega arith)) refl
take_counted place (m ∷ ms) (suc n) l h f =
    rw (h 0 m (omega arith)) (ap (λ rest. m ∷ rest) (take_counted place ms n (omega arith) (λ k d b. h (suc k) d (omega arith)) (λ d b. f d (omega arith))))

pub drop_counted : (place : ℕ) (ms : List EffectiveMembership) (n : ℕ) → n ≤ length ms
    → ((k : ℕ) (d : EffectiveMembership) → k < n → is_below place (get_or ms k d).log_id ≡ true)
    → ((d : EffectiveMembership) → n < length ms → is_below place (get_or ms n d).log_id ≡ false)
    → drop n ms ≡ drop_below place ms
drop_counted place [] zero l h f = refl
drop_counted place [] (suc n) l h f = absurd (omega arith)
drop_counted place (m ∷ ms) zero l h f = rw (f m (omega arith)) refl
drop_counted place (m ∷ ms) (suc n) l h f =
    rw (h 0 m (omega arith)) (drop_counted place ms n (omega arith) (λ k d b. h (suc k) d (omega arith)) (λ d b. f d (omega arith)))

-- ---- the memberships of a log

-- each stands at the place or above it, and above the one before
abbrev RiseFrom : ℕ → List EffectiveMembership → Type 0
RiseFrom place [] = Unit {0}
RiseFrom place (m ∷ ms) = (place < next_place m.log_id) × RiseFrom (next_place m.log_id) ms

from_lower : (low place : ℕ) (ms : List EffectiveMembership) → low ≤ place → RiseFrom place ms → RiseFrom low ms
from_lower low place [] l h = tt
from_lower low place (m ∷ ms) l h = (let above : place < next_place m.log_id = h.0 in omega arith, h.1)

all_above : (place : ℕ) (ms : List EffectiveMembership) → RiseFrom place ms → (k : ℕ) (d : EffectiveMembership) → k < length ms → place ≤ next_place (get_or ms k d).log_id
all_above place [] h k d l = absurd (omega arith)
all_above place (m ∷ ms) h zero d l = let above : place < next_place m.log_id = h.0 in omega arith
all_above place (m ∷ ms) h (suc k) d l =
    let above : place < next_place m.log_id = h.0 in
    let more = all_above (next_place m.log_id) ms h.1 k d (omega arith) in
    omega (arith, more)

in_order : (place : ℕ) (ms : List EffectiveMembership) → RiseFrom place ms → AreInOrder ms
in_order place [] h i j d l m = absurd (omega arith)
in_order place (x ∷ ms) h zero zero d l m = omega arith
in_order place (x ∷ ms) h zero (suc j) d l m = all_above (next_place x.log_id) ms h.1 j d (omega arith)
in_order place (x ∷ ms) h (suc i) zero d l m = absurd (omega arith)
in_order place (x ∷ ms) h (suc i) (suc j) d l m = in_order (next_place x.log_id) ms h.1 i j d (omega arith) (omega arith)

entries_rise : (es : List Entry) (place : ℕ) → Placed place (entry_ids es) → RiseFrom place (memberships_in es)
entries_rise [] place p = tt
entries_rise (e ∷ es) place p =
    let at : e.log_id.index ≡ place = p.0 in
    here e.payload (omega arith) (subst (λ n. RiseFrom n (memberships_in es)) (let next : suc place ≡ e.log_id.index + 1 = omega arith in next) (entries_rise es (suc place) p.1))
  where
    here : (x : EntryPayload) → place ≤ e.log_id.index → RiseFrom (e.log_id.index + 1) (memberships_in es) → RiseFrom place (with_membership_of e.log_id x (memberships_in es))
    here Blank l h = from_lower place (e.log_id.index + 1) (memberships_in es) (omega arith) h
    here (Normal command) l h = from_lower place (e.log_id.index + 1) (memberships_in es) (omega arith) h
    here (Members m) l h = (omega arith, h)

pub none_in_order : AreInOrder []
none_in_order = in_order 0 [] tt

-- those of placed entries are in order
pub placed_in_order : (es : List Entry) (place : ℕ) → Placed place (entry_ids es) → AreInOrder (memberships_in es)
placed_in_order es place p = in_order place (memberships_in es) (entries_rise es place p)

-- ---- keys

run_placed : (leader : LeaderId ℕ) (n from to : ℕ) (rest : List (LogId ℕ)) → to ≡ from + n → Placed to rest → Placed from (leader_ids leader from to ++ rest)
run_placed leader zero from to rest e h =
    rw (leader_ids-none leader from to (omega arith)) (let at : to ≡ from = omega arith in subst (λ k. Placed k rest) at h)
run_placed leader (suc n) from to rest e h =
    let next : from + 1 ≡ suc from = omega arith in
    rw (leader_ids-first leader from to (omega arith)) (refl, subst (λ k. Placed k (leader_ids leader (from + 1) to ++ rest)) next (run_placed leader n (from + 1) to rest (omega arith) h))

-- the log ids that keys tell stand at consecutive places
keys_placed : (key : LogId ℕ) (keys : List (LogId ℕ)) → PlacesRise (key ∷ keys) → Placed key.index (ids_of (key ∷ keys))
keys_placed key [] h = run_placed key.leader_id 1 key.index (key.index + 1) [] refl tt
keys_placed key (next ∷ keys) h =
    run_placed key.leader_id (next.index - key.index) key.index next.index (ids_of (next ∷ keys)) (let below : key.index < next.index = h.0 in omega arith) (keys_placed next keys h.1)

behind_purged : (purged_id : Option (LogId ℕ)) (es : List Entry) (place : ℕ) → Placed place (purged_ids purged_id ++ entry_ids es) → AreInOrder (memberships_in es)
behind_purged None es place p = placed_in_order es place p
behind_purged (Some id) es place p = placed_in_order es (suc place) p.1

without_entries : (purged_id : Option (LogId ℕ)) (es : List Entry) → purged_ids purged_id ++ entry_ids es ≡ [] → AreInOrder (memberships_in es)
without_entries None [] e = none_in_order
without_entries None (x ∷ es) e = cc e
without_entries (Some id) es e = cc e

-- the memberships of a log of which keys tell the log ids
pub told_in_order : (keys : List (LogId ℕ)) (s : StoredGroup) → PlacesRise keys → ids_of keys ≡ stored_ids s → AreInOrder (memberships_in s.log)
told_in_order [] s h e = without_entries s.purged s.log (sym e)
told_in_order (key ∷ keys) s h e = behind_purged s.purged s.log key.index (subst (Placed key.index) e (keys_placed key keys h))
