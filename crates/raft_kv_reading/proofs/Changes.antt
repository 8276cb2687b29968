-- The map of each front holds, at each key, what the last change of the key left.
use Rattle.std.proofs.Common.{◌≡◌, ℕ, zero, suc, ◌+◌, Bool, true, false, cond, List, [], ◌∷◌, ◌++◌, Option, Some, None, refl, sym, ap, ◌∙◌, arith}
use Rattle.std.specs.Prelude.{bytes_eq, filter_map, option_and_then}
use Rattle.std.specs.List.{cons_option, last_or, range_with_len}
use Rattle.std.proofs.lemmas.List.{append-nil}
use Rattle.std.specs.Ordering.{eq_by_cmp}
use Rattle.std.specs.FinMap as finite
use Rattle.std.specs.Cmp.Lexicographic.{nat_list_cmp_total}
use Rattle.std.proofs.lemmas.List.Elements.{filter_map-append}
use Rattle.std.proofs.lemmas.Map.Text.{is_eq-slice_cmp}
use Rattle.raft_group_step.specs.Values.{Entry}
use Rattle.raft_wire.specs.declared.kv.KvCommand.{KvCommand}
use Rattle.raft_wire.specs.declared.kv.KvCommand.TheVariants.{Put, Get, Drop}
use Rattle.raft_kv.specs.Map.{Map, in_order}
use Rattle.raft_kv.specs.Machine.{after_command, answer_of, answer_to, is_full_for}
use Rattle.raft_kv_reading.specs.Values.{Change, Gives, Takes, Key, Value, change_by, change_on, changes_before, command_on, value_before, value_left}
use Rattle.raft_kv_reading.proofs.Fronts.{all_spelled, answer_by, answer_here, empty_front, front_map, front_state, map_by, map_next}

-- ---- the changes of one place more

abbrev pub changed : Option Value → Option Change → Option Value
changed value None = value
changed value (Some change) = value_left (Some change)

one_place_more : (from count : ℕ) → range_with_len from (suc count) ≡ range_with_len from count ++ (from + count) ∷ []
one_place_more from zero =
    let same : from ≡ from + 0 = omega arith in
    ap (λ (n : ℕ). n ∷ []) same
one_place_more from (suc count) =
    let same : from + 1 + count ≡ from + suc count = omega arith in
    ap (λ (l : List ℕ). from ∷ l) (one_place_more (from + 1) count ∙ ap (λ (n : ℕ). range_with_len (from + 1) count ++ n ∷ []) same)

last_of : {A : Type 0} (o : Option A) (xs : List A) (x : A) → last_or o (xs ++ x ∷ []) ≡ Some x
last_of o [] x = refl
last_of o (y ∷ xs) x = last_of (Some y) xs x

module _ (list : List Entry) (key : Key) where
  -- the changes before a place, and that of the place itself
  changes_next : (place : ℕ) → changes_before list (suc place) key ≡ changes_before list place key ++ filter_map (change_on list key) (place ∷ [])
  changes_next place =
      let same : 0 + place ≡ place = omega arith in
      ap (filter_map (change_on list key)) (one_place_more 0 place ∙ ap (λ (n : ℕ). range_with_len 0 place ++ n ∷ []) same)
      ∙ filter_map-append (change_on list key) (range_with_len 0 place) (place ∷ [])

  pub value_next : (place : ℕ) → value_before list (suc place) key ≡ changed (value_before list place key) (change_on list key place)
  value_next place =
      ap (λ (cs : List Change). value_left (last_or None cs)) (changes_next place) ∙ by (changes_before list place key) (change_on list key place)
    where
      by : (changes : List Change) (change : Option Change) → value_left (last_or None (changes ++ cons_option change [])) ≡ changed (value_left (last_or None changes)) change
      by changes None = ap (λ (cs : List Change). value_left (last_or None cs)) (append-nil changes)
      by changes (Some change) = ap value_left (last_of None changes change)

-- ---- what a command changes of a map, and whether its answer tells a refusal

pub never_two : (value : Option Value) → bytes_eq (answer_of value) (2 ∷ []) ≡ false
never_two None = refl
never_two (Some value) = refl

pub refused_put : (m : Map) (key value : List ℕ) → bytes_eq (answer_to m (Put key value)) (2 ∷ []) ≡ is_full_for m key
refused_put m key value = by (is_full_for m key) where
  by : (full : Bool) → bytes_eq (cond full (2 ∷ []) (answer_of (finite.get m key))) (2 ∷ []) ≡ full
  by true = refl
  by false = never_two (finite.get m key)

same_key_test : (key other : Key) → eq_by_cmp in_order key other ≡ bytes_eq key other
same_key_test key other = is_eq-slice_cmp key other

-- what the command changes of the key, where this is its answer
abbrev pub change_from : Key → List ℕ → Option KvCommand → Option Change
change_from key answer command = cond (bytes_eq answer (2 ∷ [])) None (option_and_then (change_by key) command)

got_next : (m : Map) (key : Key) (command : KvCommand) → finite.get (after_command m command) key ≡ changed (finite.get m key) (change_from key (answer_to m command) (Some command))
got_next m key (Put other value) = by (is_full_for m other) (refused_put m other value) where
  gives : (same : Bool) → cond same (Some value) (finite.get m key) ≡ changed (finite.get m key) (cond same (Some (Gives value)) None)
  gives true = refl
  gives false = refl

  by : (full : Bool) → bytes_eq (cond full (2 ∷ []) (answer_of (finite.get m other))) (2 ∷ []) ≡ full
      → finite.get (cond full m (finite.insert m other value)) key ≡ changed (finite.get m key) (cond (bytes_eq (cond full (2 ∷ []) (answer_of (finite.get m other))) (2 ∷ [])) None (change_by key (Put other value)))
  by true is = refl
  by false is =
      finite.get-insert nat_list_cmp_total m other value key ∙ ap (λ (b : Bool). cond b (Some value) (finite.get m key)) (same_key_test key other)
      ∙ gives (bytes_eq key other) ∙ ap (λ (b : Bool). changed (finite.get m key) (cond b None (change_by key (Put other value)))) (sym is)
got_next m key (Get other) = ap (λ (b : Bool). changed (finite.get m key) (cond b None None)) (sym (never_two (finite.get m other)))
got_next m key (Drop other) =
    finite.get-remove nat_list_cmp_total m other key ∙ ap (λ (b : Bool). cond b None (finite.get m key)) (same_key_test key other)
    ∙ takes (bytes_eq key other) ∙ ap (λ (b : Bool). changed (finite.get m key) (cond b None (change_by key (Drop other)))) (sym (never_two (finite.get m other)))
  where
    takes : (same : Bool) → cond same None (finite.get m key) ≡ changed (finite.get m key) (cond same (Some Takes) None)
    takes true = refl
    takes false = refl

-- ---- values of fronts

module _ (list : List Entry) where
  pub change_is : (key : Key) (n : ℕ) (command : Option KvCommand) → command_on list n ≡ command → change_on list key n ≡ change_from key (answer_by (front_state list n) command) command
  change_is key n command e =
      ap (λ (answer : List ℕ). change_from key answer (command_on list n)) (answer_here list n)
      ∙ ap (λ (c : Option KvCommand). change_from key (answer_by (front_state list n) c) c) e

  change_here : (key : Key) (n : ℕ) (command : Option KvCommand) → command_on list n ≡ command
      → finite.get (map_by list (front_map list n) command) key ≡ changed (finite.get (front_map list n) key) (change_on list key n)
  change_here key n None e = ap (changed (finite.get (front_map list n) key)) (sym (change_is key n None e))
  change_here key n (Some command) e = got_next (front_map list n) key command ∙ ap (changed (finite.get (front_map list n) key)) (sym (change_is key n (Some command) e))

  pub value_is : (key : Key) (n : ℕ) → finite.get (front_map list n) key ≡ value_before list n key
  value_is key zero = ap (λ (m : Map). finite.get m key) (empty_front list) ∙ finite.get-empty in_order key
  value_is key (suc n) =
      ap (λ (m : Map). finite.get m key) (map_next list n (all_spelled list n)) ∙ change_here key n (command_on list n) refl
      ∙ ap (λ (v : Option Value). changed v (change_on list key n)) (value_is key n) ∙ sym (value_next list key n)
