-- The machine behind each front of a list: its state spells a map, which the command at the next place changes.
use Rattle.std.proofs.Common.{◌≡◌, ℕ, zero, suc, ◌+◌, ◌-◌, ◌≤◌, Bool, true, false, cond, List, [], ◌∷◌, length, take, Option, Some, None, Result, Ok, Err, refl, sym, ap, subst, ◌∙◌, arith}
use Rattle.std.specs.Prelude.{slice_get, option_and_then}
use Rattle.std.specs.Result.{result_ok}
use Rattle.std.specs.FinMap as finite
use Rattle.std.specs.Cmp.Lexicographic.{nat_list_cmp_total}
use Rattle.raft_state.specs.declared.entry.EntryPayload.TheVariants.{Blank, Normal, Membership as Members}
use Rattle.raft_group_step.specs.Values.{Entry, EntryPayload}
use Rattle.raft_history_laws.proofs.LastNoted.{take_one_more}
use Rattle.raft_machines.specs.Fold.{after_payload, answer_at, answer_to_payload, fold_of}
use Rattle.raft_machines.specs.Fold.{answer_in as answer_to_entry}
use Rattle.raft_machines.proofs.FoldLemmas.{fold_of-append}
use Rattle.raft_wire.specs.declared.error.FrameFault.{FrameFault}
use Rattle.raft_wire.specs.Reader.{all_of}
use Rattle.raft_wire.specs.declared.kv.KvCommand.{KvCommand}
use Rattle.raft_wire.specs.declared.kv.KvCommand.TheVariants.{Put, Get, Drop}
use Rattle.raft_wire.specs.Kv.{FitsCommand, command_at}
use Rattle.raft_kv.specs.Map.{Map, in_order, map_in, spelled_map, IsWithin}
use Rattle.raft_kv.specs.Machine.{after_command, answer_in, answer_to, is_full_for, kv, state_after}
use Rattle.raft_kv.proofs.WithinMaps.{command_within, empty_within, map_again}
use Rattle.raft_kv_reading.specs.Values.{command_in, command_on}
use Rattle.raft_kv_reading.proofs.Fits.{read_fits}

-- ---- one step on bytes, by the command that they spell

abbrev pub state_by : List ℕ → Option KvCommand → List ℕ
state_by state None = state
state_by state (Some command) = spelled_map (after_command (map_in state) command)

abbrev pub answer_by : List ℕ → Option KvCommand → List ℕ
answer_by state None = []
answer_by state (Some command) = answer_to (map_in state) command

state_read : (state : List ℕ) (read : Result KvCommand FrameFault) → state_after state read ≡ state_by state (result_ok read)
state_read state (Ok command) = refl
state_read state (Err f) = refl

answer_read : (state : List ℕ) (read : Result KvCommand FrameFault) → answer_in state read ≡ answer_by state (result_ok read)
answer_read state (Ok command) = refl
answer_read state (Err f) = refl

payload_step : (state : List ℕ) (place : ℕ) (payload : EntryPayload) → after_payload kv state place payload ≡ state_by state (command_in payload)
payload_step state place Blank = refl
payload_step state place (Normal bytes) = state_read state (all_of command_at bytes)
payload_step state place (Members membership) = refl

payload_answer : (state : List ℕ) (place : ℕ) (payload : EntryPayload) → answer_to_payload kv state place payload ≡ answer_by state (command_in payload)
payload_answer state place Blank = refl
payload_answer state place (Normal bytes) = answer_read state (all_of command_at bytes)
payload_answer state place (Members membership) = refl

-- ---- commands of a list fit

fits_read : (bytes : List ℕ) (command : KvCommand) → result_ok (all_of command_at bytes) ≡ Some command → FitsCommand command
fits_read bytes command e = by (all_of command_at bytes) refl e where
  by : (read : Result KvCommand FrameFault) → all_of command_at bytes ≡ read → result_ok read ≡ Some command → FitsCommand command
  by (Ok c) is e =
      let same : c ≡ command = cc in
      subst FitsCommand same (read_fits bytes c is)
  by (Err f) is e = absurd cc

payload_fits : (payload : EntryPayload) (command : KvCommand) → command_in payload ≡ Some command → FitsCommand command
payload_fits Blank command e = absurd cc
payload_fits (Normal bytes) command e = fits_read bytes command e
payload_fits (Members membership) command e = absurd cc

no_more : {A : Type 0} (n : ℕ) (xs : List A) → slice_get xs n ≡ None → take (suc n) xs ≡ take n xs
no_more zero [] e = refl
no_more zero (x ∷ xs) e = absurd (let no : Some x ≡ None = e in cc)
no_more (suc n) [] e = refl
no_more (suc n) (x ∷ xs) e = ap (λ l. x ∷ l) (no_more n xs e)

module _ (list : List Entry) where
  -- the machine's state behind the first n entries, and the map that it spells
  abbrev pub front_state : ℕ → List ℕ
  front_state n = fold_of kv (take n list)

  abbrev pub front_map : ℕ → Map
  front_map n = map_in (front_state n)

  abbrev command_at_entry : Option Entry → Option KvCommand
  command_at_entry entry = option_and_then (λ (e : Entry). command_in e.payload) entry

  pub command_fits_on : (n : ℕ) (command : KvCommand) → command_on list n ≡ Some command → FitsCommand command
  command_fits_on n command e = by (slice_get list n) e where
    by : (entry : Option Entry) → command_at_entry entry ≡ Some command → FitsCommand command
    by None e = absurd (let no : None ≡ Some command = e in cc)
    by (Some entry) e = payload_fits entry.payload command e

  pub state_next : (n : ℕ) → front_state (suc n) ≡ state_by (front_state n) (command_on list n)
  state_next n = by (slice_get list n) refl where
    by : (entry : Option Entry) → slice_get list n ≡ entry → front_state (suc n) ≡ state_by (front_state n) (command_at_entry entry)
    by None e = ap (fold_of kv) (no_more n list e)
    by (Some entry) e = ap (fold_of kv) (take_one_more n list entry e) ∙ fold_of-append kv (take n list) entry ∙ payload_step (front_state n) (length (take n list)) entry.payload

  pub answer_here : (n : ℕ) → answer_at kv list n ≡ answer_by (front_state n) (command_on list n)
  answer_here n = by (slice_get list n) where
    by : (entry : Option Entry) → answer_to_entry kv (front_state n) n entry ≡ answer_by (front_state n) (command_at_entry entry)
    by None = refl
    by (Some entry) = payload_answer (front_state n) n entry.payload

  -- ---- the map of each front

  pub record IsSpelled (n : ℕ) : Type 0 where
    pub within : IsWithin (front_map n)
    pub state : front_state n ≡ spelled_map (front_map n)
    pub few : finite.len (front_map n) ≤ n

  abbrev pub map_by : Map → Option KvCommand → Map
  map_by m None = m
  map_by m (Some command) = after_command m command

  map_of_next : (n : ℕ) (command : Option KvCommand) → command_on list n ≡ command → IsSpelled n → (front_map (suc n) ≡ map_by (front_map n) command) × IsWithin (map_by (front_map n) command)
  map_of_next n None e h = (ap map_in (state_next n ∙ ap (state_by (front_state n)) e), h.within)
  map_of_next n (Some command) e h =
      let within = command_within (front_map n) command h.within (command_fits_on n command e) in
      (ap map_in (state_next n ∙ ap (state_by (front_state n)) e) ∙ map_again (after_command (front_map n) command) within, within)

  pub map_next : (n : ℕ) → IsSpelled n → front_map (suc n) ≡ map_by (front_map n) (command_on list n)
  map_next n h = (map_of_next n (command_on list n) refl h).0

  state_of_next : (n : ℕ) (command : Option KvCommand) → command_on list n ≡ command → IsSpelled n → front_state (suc n) ≡ spelled_map (map_by (front_map n) command)
  state_of_next n None e h = state_next n ∙ ap (state_by (front_state n)) e ∙ h.state
  state_of_next n (Some command) e h = state_next n ∙ ap (state_by (front_state n)) e

  one_more : (m : Map) (command : Option KvCommand) → finite.len (map_by m command) ≤ finite.len m + 1
  one_more m None = omega arith
  one_more m (Some (Put key value)) = by (is_full_for m key) (finite.contains_key m key) (finite.len-insert nat_list_cmp_total m key value) where
    by : (full there : Bool) → finite.len (finite.insert m key value) ≡ cond there (finite.len m) (finite.len m + 1) → finite.len (cond full m (finite.insert m key value)) ≤ finite.len m + 1
    by true there is = omega arith
    by false true is = omega (arith, is)
    by false false is = omega (arith, is)
  one_more m (Some (Get key)) = omega arith
  one_more m (Some (Drop key)) = by (finite.contains_key m key) (finite.len-remove nat_list_cmp_total m key) where
    by : (there : Bool) → finite.len (finite.remove m key) ≡ cond there (finite.len m - 1) (finite.len m) → finite.len (finite.remove m key) ≤ finite.len m + 1
    by true is = omega (arith, is)
    by false is = omega (arith, is)

  spelled_next : (n : ℕ) → IsSpelled n → IsSpelled (suc n)
  spelled_next n h =
      let next = map_of_next n (command_on list n) refl h in
      let more = one_more (front_map n) (command_on list n) in
      let size : finite.len (front_map (suc n)) ≡ finite.len (map_by (front_map n) (command_on list n)) = ap finite.len next.0 in
      record {
        within = subst IsWithin (sym next.0) next.1;
        state = state_of_next n (command_on list n) refl h ∙ ap spelled_map (sym next.0);
        few = omega (arith, h.few, more, size);
      }

  pub empty_front : front_map 0 ≡ finite.empty
  empty_front = map_again finite.empty empty_within

  pub all_spelled : (n : ℕ) → IsSpelled n
  all_spelled zero =
      let size : finite.len (front_map 0) ≡ 0 = ap finite.len empty_front ∙ finite.len-empty in_order (List ℕ) in
      record {
        within = subst IsWithin (sym empty_front) empty_within;
        state = ap spelled_map (sym empty_front);
        few = omega (arith, size);
      }
  all_spelled (suc n) = spelled_next n (all_spelled n)
