-- Entries: their one spelling, and how it is read. A further kind of entry is a further tag.
use Rattle.std.specs.Prelude.{ℕ, zero, suc, ◌+◌, ◌≤◌, ◌==◌, Bool, true, List, [], ◌∷◌, ◌++◌, length}
use Rattle.std.specs.Prelude.{Option, Some, None, Ok, Err}
use Rattle.std.specs.Int.{w32, to_be_bytes}
use Rattle.raft_values.specs.declared.log_id.LogId.{LogId}
use Rattle.raft_state.specs.declared.entry.EntryPayload.TheVariants.{Blank, Normal, Membership as Members}
use Rattle.raft_wire.specs.declared.error.FrameFault.TheVariants as fault
use Rattle.raft_group_step.specs.Limits.{command_limit}
use Rattle.raft_group_step.specs.Values.{Membership, Entry, EntryPayload}
use Rattle.raft_wire.specs.Reader.{Reader, both, made, tested, text_at}
use Rattle.raft_wire.specs.Fields.{spelled_log_id, FitsLogId, log_id_at}
use Rattle.raft_wire.specs.Memberships.{spelled_membership, FitsMembership, membership_at}

-- bytes behind their length
abbrev pub spelled_text : List ℕ → List ℕ
spelled_text bytes = to_be_bytes w32 (length bytes) ++ bytes

-- ---- what an entry asks for: a tag, and what belongs to it

abbrev pub spelled_payload : EntryPayload → List ℕ
spelled_payload Blank = 0 ∷ []
spelled_payload (Normal command) = 1 ∷ spelled_text command
spelled_payload (Members m) = 2 ∷ spelled_membership m

abbrev pub FitsPayload : EntryPayload → Type 0
FitsPayload Blank = Unit {0}
FitsPayload (Normal command) = length command ≤ command_limit
FitsPayload (Members m) = FitsMembership m

abbrev pub normal_of : List ℕ → EntryPayload
normal_of command = Normal command

abbrev pub members_of : Membership → EntryPayload
members_of m = Members m

unfoldable pub payload_at : Reader EntryPayload
payload_at [] = Err fault.CutShort
payload_at (zero ∷ rest) = Ok (Blank, rest)
payload_at (suc zero ∷ rest) = made normal_of (text_at command_limit) rest
payload_at (suc (suc zero) ∷ rest) = made members_of membership_at rest
payload_at (suc (suc (suc b)) ∷ rest) = Err fault.BadTag

-- ---- entries: a log id, whose place follows the one before where there is one, and what it asks for

abbrev pub spelled_entry : Entry → List ℕ
spelled_entry e = spelled_log_id e.log_id ++ spelled_payload e.payload

pub record FitsEntry (e : Entry) : Type 0 where
  pub log_id : FitsLogId e.log_id
  pub payload : FitsPayload e.payload

-- the place is the one after the last
abbrev pub follows : Option ℕ → ℕ → Bool
follows None index = true
follows (Some last) index = index == last + 1

abbrev pub entry_of : LogId ℕ × EntryPayload → Entry
entry_of x = record { log_id = x.0; payload = x.1 }

unfoldable pub entry_behind : Option ℕ → Reader Entry
entry_behind last = made entry_of (both (tested fault.NotRising (λ id. follows last id.index) log_id_at) payload_at)

-- an entry alone
unfoldable pub entry_at : Reader Entry
entry_at = entry_behind None

-- what an entry leaves for the next
abbrev pub that_place : Entry → Option ℕ
that_place e = Some e.log_id.index
