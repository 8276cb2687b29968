-- What is new in a leader's note: one entry at most.
use Rattle.std.specs.Prelude.{◌≡◌, ◌⊎◌, ℕ, List, [], ◌∷◌, ◌++◌, length, Option}
use Rattle.raft_values.specs.declared.vote.Vote.{Vote}
use Rattle.raft_state.specs.declared.entry.EntryPayload.TheVariants.{Blank}
use Rattle.raft_group_step.specs.Values.{Entry, EntryPayload, entry_of}
use Rattle.raft_group_step.specs.GroupEvent.{GroupCall}
use Rattle.raft_laws.specs.declared.world_event.WorldEvent.{WorldEvent}
use Rattle.raft_laws.specs.GroupWorld.{GroupWorld, Led, new_world}
use Rattle.raft_laws.specs.GroupRun.{group_run}
use Rattle.raft_laws.specs.OneList.{AreNodeIds}
use Rattle.raft_laws.specs.Origins.{Events, IsAskedAt}
use Rattle.raft_history_laws.specs.NotedIds.{IsOrigin}
use Rattle.raft_list_laws.specs.Accounts.{Accounts, AreTrue}
use Rattle.raft_list_laws.specs.Bases.{base_of}

-- the next entry behind the list, of the vote's leader
abbrev pub behind : Vote ℕ → List Entry → EntryPayload → Entry
behind vote list payload = entry_of (record { leader_id = vote.leader_id; index = length list }) payload

-- the list, or it and one entry behind it of which this holds
abbrev pub GoesOnByOne : Vote ℕ → List Entry → (Entry → Type 0) → List Entry → Type 0
GoesOnByOne vote list P next =
    (next ≡ list)
    ⊎ ((payload : EntryPayload) × (next ≡ list ++ behind vote list payload ∷ []) × P (behind vote list payload))

-- a command or change of an event wrote the entry, and no later event noted its log id
abbrev pub WasCommanded : Events → GroupWorld → Entry → Type 0
WasCommanded es w e =
    (number : ℕ) × (call : GroupCall) × IsAskedAt es w number call e × IsOrigin es w number e.log_id

-- a leader that wasn't noted before has a blank entry behind what it took over, or nothing; one that was has a command or change
-- behind its last list, or nothing
pub record HasFewNew (es : Events) (w : GroupWorld) (a : Accounts) (l : Led) : Type 0 where
  pub first : a.latest l.vote ≡ [] → GoesOnByOne l.vote (base_of l) (λ e. e.payload ≡ Blank) l.list
  pub later : (a.latest l.vote ≡ [] → ⊥) → GoesOnByOne l.vote (a.latest l.vote) (WasCommanded es w) l.list

-- the note that the last event of a run leaves, by accounts of the notes before it
abbrev pub NewEntriesAreFew : Type 0
NewEntriesAreFew =
    (ids : List ℕ) → AreNodeIds ids → (es : Events) (last : WorldEvent × Option ℕ) (a : Accounts) (v : GroupWorld) (l : Led)
    → AreTrue a v → v.led ≡ (group_run es (new_world ids)).led
    → (group_run (es ++ last ∷ []) (new_world ids)).led ≡ v.led ++ l ∷ []
    → HasFewNew (es ++ last ∷ []) (new_world ids) a l
