-- Each state of the adding machine has eight bytes.
use Rattle.std.specs.Prelude.{◌≡◌, ◌+◌, ◌%◌, ◌^◌, ℕ, Bool, true, false, List, [], ◌∷◌, length, if◌then◌else◌, refl}
use Rattle.std.specs.Int.{from_be_bytes, w64}
use Rattle.std.proofs.Common.{arith}
use Rattle.raft_state.specs.declared.entry.EntryPayload.TheVariants.{Blank, Normal, Membership}
use Rattle.raft_group_step.specs.Values.{Entry, EntryPayload}
use Rattle.raft_machines.specs.Adding.{adding, after_command, is_amount, state_of_total, total_of}
use Rattle.raft_machines.specs.Fold.{after_payload, state_from}
use Rattle.raft_store_laws.specs.Storable.{HasShortSnapshots}

command_eight : (state command : List ℕ) → length state ≡ 8 → length (after_command state command) ≡ 8
command_eight state command eight = by_amount (is_amount command)
  where
    by_amount : (b : Bool) → length (if b then state_of_total ((total_of state + from_be_bytes w64 command) % 2 ^ 64) else state) ≡ 8
    by_amount true = refl
    by_amount false = eight

payload_eight : (state : List ℕ) (place : ℕ) (payload : EntryPayload) → length state ≡ 8 → length (after_payload adding state place payload) ≡ 8
payload_eight state place Blank eight = eight
payload_eight state place (Normal command) eight = command_eight state command eight
payload_eight state place (Membership m) eight = eight

state_eight : (state : List ℕ) (place : ℕ) (es : List Entry) → length state ≡ 8 → length (state_from adding state place es) ≡ 8
state_eight state place [] eight = eight
state_eight state place (e ∷ es) eight = state_eight (after_payload adding state place e.payload) (place + 1) es (payload_eight state place e.payload eight)

pub adding_is_short : HasShortSnapshots adding
adding_is_short es = let eight = state_eight (state_of_total 0) 0 es refl in omega (arith, eight)
