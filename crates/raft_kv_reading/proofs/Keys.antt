-- The keys that have a value before a place, and the puts that are refused there.
use Rattle.std.proofs.Common.{◌≡◌, ℕ, ◌<◌, ◌≤◌, Bool, true, false, not, List, [], ◌∷◌, length, map, Option, Some, None, refl, sym, ap, ◌∙◌, arith}
use Rattle.std.specs.Prelude.{◌&&◌, ◌||◌, T, bytes_eq, is_some, nat_le}
use Rattle.std.specs.declared.cmp.Ordering.{Ordering}
use Rattle.std.specs.declared.cmp.Ordering.TheVariants.{Less, Equal, Greater}
use Rattle.std.specs.FinMap as finite
use Rattle.std.specs.FinMap.Entries.{below_all}
use Rattle.std.specs.List.{AllByRecursion, IsDistinct, list_any}
use Rattle.std.specs.Ordering.{eq_by_cmp, is_eq, is_lt}
use Rattle.std.proofs.lemmas.Bool.Decides.{nat_tests}
use Rattle.std.proofs.lemmas.List.{length-map}
use Rattle.std.proofs.lemmas.Map.Text.{is_eq-slice_cmp}
use Rattle.raft_group_step.specs.Values.{Entry}
use Rattle.raft_wire.specs.declared.kv.KvCommand.{KvCommand}
use Rattle.raft_wire.specs.declared.kv.KvCommand.TheVariants.{Put, Get, Drop}
use Rattle.raft_kv.specs.Map.{Map, Pair, in_order}
use Rattle.raft_kv.specs.Machine.{is_full_for}
use Rattle.raft_kv.proofs.WithinMaps.{first_of, second_of}
use Rattle.raft_kv_reading.specs.Values.{Key, Value, command_on, is_refused}
use Rattle.raft_kv_reading.specs.Answers.{AreKeysBefore, IsRefusedByFullMap}
use Rattle.raft_kv_reading.proofs.Fronts.{all_spelled, answer_by, answer_here, front_map, front_state}
use Rattle.raft_kv_reading.proofs.Changes.{never_two, value_is}
use Rattle.raft_kv_reading.proofs.Telling.{refused_by_map}

-- ---- the keys of a map stand once

less_differs : (o : Ordering) → T (is_lt o) → is_eq o ≡ false
less_differs Less p = refl
less_differs Equal p = absurd p
less_differs Greater p = absurd p

abbrev keys_in : List Pair → List Key
keys_in pairs = map (λ (pair : Pair). pair.0) pairs

above_differ : (key : Key) (pairs : List Pair) → T (below_all in_order key pairs) → AllByRecursion (λ (other : Key). bytes_eq key other ≡ false) (keys_in pairs)
above_differ key [] h = tt
above_differ key (pair ∷ pairs) h =
    (sym (is_eq-slice_cmp key pair.0) ∙ less_differs (in_order key pair.0) (first_of _ _ h), above_differ key pairs (second_of _ _ h))

once : (pairs : List Pair) → T (finite.is_sorted in_order pairs) → IsDistinct bytes_eq (keys_in pairs)
unfolding IsDistinct
once [] h = tt
once (pair ∷ pairs) h = (above_differ pair.0 pairs (first_of _ _ h), once pairs (second_of _ _ h))

by_bytes : (key : Key) (keys : List Key) → list_any (eq_by_cmp in_order key) keys ≡ list_any (bytes_eq key) keys
by_bytes key [] = refl
by_bytes key (other ∷ keys) =
    ap (λ (b : Bool). b || list_any (eq_by_cmp in_order key) keys) (is_eq-slice_cmp key other)
    ∙ ap (λ (b : Bool). bytes_eq key other || b) (by_bytes key keys)

-- ---- of a front

module _ (list : List Entry) (place : ℕ) where
  abbrev here : Map
  here = front_map list place

  abbrev pub keys_here : List Key
  keys_here = keys_in (finite.entries here)

  pub are_keys : AreKeysBefore list place keys_here
  are_keys = record {
    once = once (finite.entries here) (finite.entries_sorted here);
    each = λ key.
        sym (by_bytes key keys_here) ∙ sym (finite.contains_key-keys here key) ∙ ap is_some (value_is list key place);
  }

  pub refused_by_keys : IsRefusedByFullMap list place keys_here
  refused_by_keys key value e =
      let size : finite.len here ≡ length keys_here = finite.len-entries here ∙ sym (length-map (finite.entries here) (λ (pair : Pair). pair.0)) in
      refused_by_map list place key value e
      ∙ ap (λ (n : ℕ). nat_le 4096 n && not (is_some (finite.get here key))) size
      ∙ ap (λ (v : Option Value). nat_le 4096 (length keys_here) && not (is_some v)) (value_is list key place)

  -- ---- few entries refuse no put

  few_places : place < 4096 → (key : Key) → is_full_for here key ≡ false
  few_places few key =
      let small : finite.len here ≤ place = (all_spelled list place).few in
      let no_limit : nat_le 4096 (finite.len here) ≡ false = grind (arith, nat_tests, few, small) in
      ap (λ (b : Bool). b && not (is_some (finite.get here key))) no_limit

  taken_by : place < 4096 → (command : Option KvCommand) → command_on list place ≡ command → is_refused list place ≡ false
  taken_by few None e =
      ap (λ (answer : List ℕ). bytes_eq answer (2 ∷ [])) (answer_here list place ∙ ap (answer_by (front_state list place)) e)
  taken_by few (Some (Put key value)) e = refused_by_map list place key value e ∙ few_places few key
  taken_by few (Some (Get key)) e =
      ap (λ (answer : List ℕ). bytes_eq answer (2 ∷ [])) (answer_here list place ∙ ap (answer_by (front_state list place)) e)
      ∙ never_two (finite.get here key)
  taken_by few (Some (Drop key)) e =
      ap (λ (answer : List ℕ). bytes_eq answer (2 ∷ [])) (answer_here list place ∙ ap (answer_by (front_state list place)) e)
      ∙ never_two (finite.get here key)

  pub few_take_all : place < 4096 → is_refused list place ≡ false
  few_take_all few = taken_by few (command_on list place) refl
