-- What answers tell of keys, and which change is the last one.
use Rattle.std.proofs.Common.{◌≡◌, ℕ, zero, suc, ◌+◌, ◌<◌, Bool, true, false, cond, List, [], ◌∷◌, take, Option, Some, None, refl, sym, ap, ◌∙◌, arith}
use Rattle.std.specs.Prelude.{bytes_eq, nat_lt, option_and_then, slice_get}
use Rattle.std.specs.Result.{result_ok}
use Rattle.std.specs.FinMap as finite
use Rattle.std.proofs.lemmas.Bool.Decides.{nat_tests}
use Rattle.std.proofs.lemmas.Map.Text.{is_eq-slice_cmp}
use Rattle.raft_state.specs.declared.entry.EntryPayload.TheVariants.{Normal}
use Rattle.raft_group_step.specs.Values.{Entry}
use Rattle.raft_machines.specs.Fold.{answer_at, fold_of}
use Rattle.raft_wire.proofs.Whole.{whole_again}
use Rattle.raft_wire.specs.declared.kv.KvCommand.{KvCommand}
use Rattle.raft_wire.specs.declared.kv.KvCommand.TheVariants.{Put, Get, Drop}
use Rattle.raft_wire.specs.Kv.{FitsCommand, command_at, spelled_command}
use Rattle.raft_wire.proofs.KvReading.{command_reads}
use Rattle.raft_kv.specs.Machine.{answer_of, is_full_for, kv, state_of}
use Rattle.raft_kv.specs.Map.{Map, IsWithin}
use Rattle.raft_kv.proofs.Maps.{same_key}
use Rattle.raft_kv.proofs.WithinMaps.{itself, one_map, restored_again}
use Rattle.raft_kv_reading.specs.Values.{Change, Gives, Takes, Key, Value, change_by, change_on, command_in, command_on, is_refused, value_before, value_left}
use Rattle.raft_kv_reading.specs.Answers.{IsChange, StaysBetween, TellsValue, value_in}
use Rattle.raft_kv_reading.proofs.Fronts.{all_spelled, answer_by, answer_here, front_map, front_state}
use Rattle.raft_kv_reading.proofs.Changes.{change_is, changed, never_two, refused_put, value_is, value_next}

-- ---- tests of keys

same_key_itself : (key : Key) → bytes_eq key key ≡ true
same_key_itself key = sym (is_eq-slice_cmp key key) ∙ itself key

key_is : (key other : Key) → bytes_eq key other ≡ true → key ≡ other
key_is key other e = same_key key other (is_eq-slice_cmp key other ∙ e)

-- ---- answers

module _ (list : List Entry) (place : ℕ) where
  answer_to_command : (command : Option KvCommand) → command_on list place ≡ command → answer_at kv list place ≡ answer_by (front_state list place) command
  answer_to_command command e = answer_here list place ∙ ap (answer_by (front_state list place)) e

  -- a put is refused where the map has no place for its key
  pub refused_by_map : (key : Key) (value : Value) → command_on list place ≡ Some (Put key value) → is_refused list place ≡ is_full_for (front_map list place) key
  refused_by_map key value e =
      ap (λ (answer : List ℕ). bytes_eq answer (2 ∷ [])) (answer_to_command (Some (Put key value)) e) ∙ refused_put (front_map list place) key value

  -- which answers tell a value
  pub value_told : (key : Key) → answer_of (finite.get (front_map list place) key) ≡ answer_of (value_before list place key)
  value_told key = ap answer_of (value_is list key place)

  pub answers_tell : TellsValue list place (answer_at kv list place)
  answers_tell = record {
    of_get = λ key e. answer_to_command (Some (Get key)) e ∙ value_told key;
    of_drop = λ key e. answer_to_command (Some (Drop key)) e ∙ value_told key;
    of_put = λ key value e.
        answer_to_command (Some (Put key value)) e
        ∙ ap (λ (full : Bool). cond full (2 ∷ []) (answer_of (finite.get (front_map list place) key))) (sym (refused_by_map key value e))
        ∙ ap (λ (answer : List ℕ). cond (is_refused list place) (2 ∷ []) answer) (value_told key);
    of_others = λ e. answer_to_command None e;
  }

-- ---- commands that stand on a list

-- an entry with the command's bytes has this command
pub spelled_stands : (list : List Entry) (place : ℕ) (entry : Entry) (command : KvCommand) → FitsCommand command
    → slice_get list place ≡ Some entry → entry.payload ≡ Normal (spelled_command command) → command_on list place ≡ Some command
spelled_stands list place entry command fits stands payload =
    ap (option_and_then (λ (e : Entry). command_in e.payload)) stands ∙ ap command_in payload
    ∙ ap result_ok (whole_again command_at spelled_command FitsCommand command_reads command fits)

-- ---- the last change

module _ (list : List Entry) (key : Key) where
  pub unchanged : (place : ℕ) → StaysBetween list key 0 place → value_before list place key ≡ None
  unchanged zero none = refl
  unchanged (suc place) none =
      value_next list key place ∙ ap (changed (value_before list place key)) (none place (omega arith) (omega arith))
      ∙ unchanged place (λ q from below. none q from (omega (arith, below)))

  pub last_left : (place at : ℕ) (change : Change) → at < place → change_on list key at ≡ Some change → StaysBetween list key (at + 1) place → value_before list place key ≡ value_left (Some change)
  last_left zero at change less is none = absurd (omega (arith, less))
  last_left (suc place) at change less is none =
      by (nat_lt at place) refl (λ earlier. last_left place at change earlier is (λ q from below. none q from (omega (arith, below))))
    where
      by : (b : Bool) → nat_lt at place ≡ b → (at < place → value_before list place key ≡ value_left (Some change)) → value_before list (suc place) key ≡ value_left (Some change)
      by true before left =
          let earlier : at < place = grind (arith, nat_tests, before) in
          value_next list key place ∙ ap (changed (value_before list place key)) (none place (omega (arith, earlier)) (omega arith)) ∙ left earlier
      by false here left =
          let same : place ≡ at = grind (arith, nat_tests, here, less) in
          value_next list key place ∙ ap (λ (q : ℕ). changed (value_before list place key) (change_on list key q)) same
          ∙ ap (changed (value_before list place key)) is

-- ---- changes are puts and drops

module _ (list : List Entry) (key : Key) (place : ℕ) where
  pub is_change : (change : Change) → IsChange list key place change → change_on list key place ≡ Some change
  is_change (Gives value) h =
      ap (λ (refused : Bool). cond refused None (option_and_then (change_by key) (command_on list place))) h.1
      ∙ ap (option_and_then (change_by key)) h.0
      ∙ ap (λ (same : Bool). cond same (Some (Gives value)) None) (same_key_itself key)
  is_change Takes h =
      change_is list key place (Some (Drop key)) h
      ∙ ap (λ (refused : Bool). cond refused None (change_by key (Drop key))) (never_two (finite.get (front_map list place) key))
      ∙ ap (λ (same : Bool). cond same (Some Takes) None) (same_key_itself key)

  change_if_taken : (command : Option KvCommand) (refused : Bool) (change : Change) → command_on list place ≡ command → is_refused list place ≡ refused
      → cond refused None (option_and_then (change_by key) command) ≡ Some change → IsChange list key place change
  change_if_taken command true change at is e = absurd (let no : None ≡ Some change = e in cc)
  change_if_taken None false change at is e = absurd (let no : None ≡ Some change = e in cc)
  change_if_taken (Some (Put other value)) false change at is e = by (bytes_eq key other) refl change e where
    by : (same : Bool) → bytes_eq key other ≡ same → (c : Change) → cond same (Some (Gives value)) None ≡ Some c → IsChange list key place c
    by true same (Gives given) e =
        let value_is : value ≡ given = (let both : Some (Gives value) ≡ Some (Gives given) = e in cc) in
        (at ∙ ap (λ (k : Key). Some (Put k value)) (sym (key_is key other same)) ∙ ap (λ (v : Value). Some (Put key v)) value_is, is)
    by true same Takes e = absurd (let no : Some (Gives value) ≡ Some Takes = e in cc)
    by false same c e = absurd (let no : None ≡ Some c = e in cc)
  change_if_taken (Some (Get other)) false change at is e = absurd (let no : None ≡ Some change = e in cc)
  change_if_taken (Some (Drop other)) false change at is e = by (bytes_eq key other) refl change e where
    by : (same : Bool) → bytes_eq key other ≡ same → (c : Change) → cond same (Some Takes) None ≡ Some c → IsChange list key place c
    by true same (Gives given) e = absurd (let no : Some Takes ≡ Some (Gives given) = e in cc)
    by true same Takes e = at ∙ ap (λ (k : Key). Some (Drop k)) (sym (key_is key other same))
    by false same c e = absurd (let no : None ≡ Some c = e in cc)

  pub only_changes : (change : Change) → change_on list key place ≡ Some change → IsChange list key place change
  only_changes change e = change_if_taken (command_on list place) (is_refused list place) change refl refl e

-- ---- what clients read

value_again : (value : Option Value) → value_in (answer_of value) ≡ value
value_again None = refl
value_again (Some value) = refl

pub told_value : (list : List Entry) (place : ℕ) (answer : List ℕ) (key : Key) → answer ≡ answer_at kv list place → command_on list place ≡ Some (Get key) → value_in answer ≡ value_before list place key
told_value list place answer key told is =
    ap value_in (told ∙ (answers_tell list place).of_get key is) ∙ value_again (value_before list place key)

-- a machine's map that is the fold of a front
pub value_lent : (m : Map) → IsWithin m → (list : List Entry) (place : ℕ) → state_of m ≡ fold_of kv (take place list) → (key : Key) → finite.get m key ≡ value_before list place key
value_lent m within list place is key =
    let front = all_spelled list place in
    let same : m ≡ front_map list place = one_map m (front_map list place) within front.within (sym (restored_again m within) ∙ is ∙ front.state) in
    ap (λ (n : Map). finite.get n key) same ∙ value_is list key place
