-- Values on lists of few entries, and behind puts of 4,096 keys.
use Rattle.std.proofs.Common.{◌≡◌, ℕ, zero, suc, ◌+◌, ◌<◌, ◌≤◌, Bool, true, false, cond, not, List, [], ◌∷◌, length, take, Option, Some, None, refl, sym, ap, ◌∙◌, arith, length-append, take_at}
use Rattle.std.specs.Prelude.{bytes_eq, codes, filter_map, is_some, option_and_then, nat_le, slice_get, ◌&&◌}
use Rattle.std.specs.List.{cons_option, last_or, range_with_len}
use Rattle.std.specs.FinMap as finite
use Rattle.std.proofs.lemmas.Bool.Decides.{nat_tests}
use Rattle.raft_state.specs.declared.entry.EntryPayload.TheVariants.{Normal}
use Rattle.raft_group_step.specs.Values.{Entry}
use Rattle.raft_laws.proofs.BallotAgreement.{slice_get_end}
use Rattle.raft_machines.specs.Fold.{answer_at, answer_in, fold_of}
use Rattle.raft_machines.proofs.FoldLemmas.{fold_of-append}
use Rattle.raft_wire.specs.declared.kv.KvCommand.TheVariants.{Put, Get, Drop}
use Rattle.raft_wire.specs.Kv.{FitsCommand, spelled_command, IsKey, IsValue}
use Rattle.raft_kv.specs.Map.{spelled_map}
use Rattle.raft_kv.specs.Machine.{answer_of, is_full_for, kv}
use Rattle.raft_kv.specs.Rows.{key_of, numbers_below, put_apple}
use Rattle.raft_kv.proofs.FullMap.{counted, full_answer, known_answer, numbers_within}
use Rattle.raft_kv.proofs.RowLemmas.{put_fits}
use Rattle.raft_kv.proofs.WithinMaps.{answer_given, step_of}
use Rattle.raft_kv_reading.specs.Rows.{apple, behind_full, entry_at, put_seven, puts_below}
use Rattle.raft_kv_reading.specs.Values.{Change, Gives, Key, Value, change_by, change_on, command_on, is_refused, value_before, value_left}
use Rattle.raft_kv_reading.proofs.Changes.{changed, value_is, value_next}
use Rattle.raft_kv_reading.proofs.Fronts.{front_map}
use Rattle.raft_kv_reading.proofs.Keys.{few_take_all}
use Rattle.raft_kv_reading.proofs.Telling.{answers_tell, is_change, refused_by_map, spelled_stands}

-- ---- lists of few entries

-- what the command at the place changes, if it is taken
abbrev pub change_asked : List Entry → Key → ℕ → Option Change
change_asked list key place = option_and_then (change_by key) (command_on list place)

same_changes : (list : List Entry) (key : Key) (from count : ℕ) → from + count ≤ 4096
    → filter_map (change_on list key) (range_with_len from count) ≡ filter_map (change_asked list key) (range_with_len from count)
same_changes list key from zero few = refl
same_changes list key from (suc count) few =
    let taken : change_on list key from ≡ change_asked list key from = ap (λ (refused : Bool). cond refused None (change_asked list key from)) (few_take_all list from (omega (arith, few))) in
    ap (λ (change : Option Change). cons_option change (filter_map (change_on list key) (range_with_len (from + 1) count))) taken
    ∙ ap (cons_option (change_asked list key from)) (same_changes list key (from + 1) count (omega (arith, few)))

-- among the first 4,096 entries each put is taken
pub value_of_few : (list : List Entry) (place : ℕ) (key : Key) → place ≤ 4096
    → value_before list place key ≡ value_left (last_or None (filter_map (change_asked list key) (range_with_len 0 place)))
value_of_few list place key few =
    ap (λ (cs : List Change). value_left (last_or None cs)) (same_changes list key 0 place (omega (arith, few)))

-- ---- behind puts of 4,096 keys

count_of_puts : (n : ℕ) → length (puts_below n) ≡ n
unfolding puts_below
count_of_puts zero = refl
count_of_puts (suc n) =
    let before = count_of_puts n in
    let more = length-append (puts_below n) (entry_at n (Normal (spelled_command (Put (key_of n) (1 ∷ [])))) ∷ []) in
    omega (arith, before, more)

number_fits : (n : ℕ) → IsKey (key_of n) × IsValue (1 ∷ [])
number_fits n = (record { some = omega arith; few = omega arith }, record { some = omega arith; few = omega arith })

has_place : (n : ℕ) → n + 1 ≤ 4096 → is_full_for (numbers_below n) (key_of n) ≡ false
has_place n le =
    let size = counted n (omega (arith, le)) in
    let few : nat_le 4096 (finite.len (numbers_below n)) ≡ false = grind (arith, nat_tests, size, le) in
    ap (λ (b : Bool). b && not (is_some (finite.get (numbers_below n) (key_of n)))) few

-- they make the map of these numbers
fold_of_puts : (n : ℕ) → n ≤ 4096 → fold_of kv (puts_below n) ≡ spelled_map (numbers_below n)
unfolding puts_below numbers_below
fold_of_puts zero le = refl
fold_of_puts (suc n) le =
    let bytes : List ℕ = spelled_command (Put (key_of n) (1 ∷ [])) in
    fold_of-append kv (puts_below n) (entry_at n (Normal bytes))
    ∙ ap (λ (state : List ℕ). kv.step state (length (puts_below n)) bytes) (fold_of_puts n (omega (arith, le)))
    ∙ step_of (numbers_below n) (Put (key_of n) (1 ∷ [])) (numbers_within n (omega (arith, le))) (number_fits n)
    ∙ ap (λ (full : Bool). spelled_map (cond full (numbers_below n) (finite.insert (numbers_below n) (key_of n) (1 ∷ [])))) (has_place n (omega (arith, le)))

module _ (bytes : List ℕ) where
  full_state : fold_of kv (take 4096 (behind_full bytes)) ≡ spelled_map (numbers_below 4096)
  full_state =
      ap (fold_of kv) (take_at (puts_below 4096) (entry_at 4096 (Normal bytes) ∷ []) 4096 (count_of_puts 4096)) ∙ fold_of_puts 4096 (omega arith)

  stands_last : slice_get (behind_full bytes) 4096 ≡ Some (entry_at 4096 (Normal bytes))
  stands_last =
      ap (slice_get (behind_full bytes)) (sym (count_of_puts 4096)) ∙ slice_get_end (puts_below 4096) (entry_at 4096 (Normal bytes))

  last_answer : answer_at kv (behind_full bytes) 4096 ≡ kv.answer (spelled_map (numbers_below 4096)) 4096 bytes
  last_answer =
      ap (answer_in kv (fold_of kv (take 4096 (behind_full bytes))) 4096) stands_last
      ∙ ap (λ (state : List ℕ). kv.answer state 4096 bytes) full_state

-- ---- a new key

apple_stands : command_on (behind_full put_apple) 4096 ≡ Some (Put (codes "apple") (codes "red"))
apple_stands = spelled_stands (behind_full put_apple) 4096 (entry_at 4096 (Normal put_apple)) (Put (codes "apple") (codes "red")) put_fits (stands_last put_apple) refl

pub apple_refused : is_refused (behind_full put_apple) 4096 ≡ true
apple_refused = ap (λ (answer : List ℕ). bytes_eq answer (2 ∷ [])) (last_answer put_apple ∙ full_answer)

nothing_there : (many : Bool) (value : Option Value) → (many && not (is_some value)) ≡ true → value ≡ None
nothing_there many None e = refl
nothing_there true (Some value) e = absurd (let no : false ≡ true = e in cc)
nothing_there false (Some value) e = absurd (let no : false ≡ true = e in cc)

-- a refused put leaves its key without a value
refused_left : (list : List Entry) (place : ℕ) (key : Key) (value : Value) → command_on list place ≡ Some (Put key value) → is_refused list place ≡ true
    → value_before list (suc place) key ≡ None
refused_left list place key value stands refused =
    let full : is_full_for (front_map list place) key ≡ true = sym (refused_by_map list place key value stands) ∙ refused in
    value_next list key place
    ∙ ap (λ (r : Bool). changed (value_before list place key) (cond r None (change_asked list key place))) refused
    ∙ sym (value_is list key place) ∙ nothing_there _ (finite.get (front_map list place) key) full

pub apple_left : value_before (behind_full put_apple) 4097 apple ≡ None
apple_left = refused_left (behind_full put_apple) 4096 (codes "apple") (codes "red") apple_stands apple_refused

-- ---- a key that is there

seven_fits : FitsCommand (Put (key_of 7) (codes "red"))
seven_fits = (record { some = omega arith; few = omega arith }, record { some = omega arith; few = omega arith })

seven_stands : command_on (behind_full put_seven) 4096 ≡ Some (Put (key_of 7) (codes "red"))
seven_stands = spelled_stands (behind_full put_seven) 4096 (entry_at 4096 (Normal put_seven)) (Put (key_of 7) (codes "red")) seven_fits (stands_last put_seven) refl

seven_taken : is_refused (behind_full put_seven) 4096 ≡ false
seven_taken =
    ap (λ (answer : List ℕ). bytes_eq answer (2 ∷ []))
    (last_answer put_seven ∙ answer_given (numbers_below 4096) (Put (key_of 7) (codes "red")) (numbers_within 4096 (omega arith)) seven_fits ∙ known_answer)

-- a put that was taken leaves its value
taken_left : (list : List Entry) (place : ℕ) (key : Key) (value : Value) → command_on list place ≡ Some (Put key value) → is_refused list place ≡ false
    → value_before list (suc place) key ≡ Some value
taken_left list place key value stands taken =
    value_next list key place ∙ ap (changed (value_before list place key)) (is_change list key place (Gives value) (stands, taken))

pub seven_left : value_before (behind_full put_seven) 4097 (key_of 7) ≡ Some (codes "red")
seven_left = taken_left (behind_full put_seven) 4096 (key_of 7) (codes "red") seven_stands seven_taken

-- ---- answers of rows

pub get_row : (list : List Entry) (place : ℕ) (key : Key) (value : Option Value) → command_on list place ≡ Some (Get key) → value_before list place key ≡ value → answer_at kv list place ≡ answer_of value
get_row list place key value stands is = (answers_tell list place).of_get key stands ∙ ap answer_of is

pub drop_row : (list : List Entry) (place : ℕ) (key : Key) (value : Option Value) → command_on list place ≡ Some (Drop key) → value_before list place key ≡ value → answer_at kv list place ≡ answer_of value
drop_row list place key value stands is = (answers_tell list place).of_drop key stands ∙ ap answer_of is

pub put_row : (list : List Entry) (place : ℕ) (key : Key) (new : Value) (value : Option Value) → place < 4096 → command_on list place ≡ Some (Put key new) → value_before list place key ≡ value
    → answer_at kv list place ≡ answer_of value
put_row list place key new value few stands is =
    (answers_tell list place).of_put key new stands
    ∙ ap (λ (refused : Bool). cond refused (2 ∷ []) (answer_of (value_before list place key))) (few_take_all list place few) ∙ ap answer_of is
