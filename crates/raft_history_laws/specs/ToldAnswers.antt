-- What a told token stands for: an entry that is settled under the vote of the node that tells it, then and ever after.
use Rattle.std.specs.Prelude.{◌≡◌, ℕ, false, List, [], ◌∷◌, slice_get, Some, Contains}
use Rattle.raft_values.specs.declared.vote.Vote.{Vote}
use Rattle.raft_group_step.specs.Values.{Entry, vote_lt}
use Rattle.raft_group_step.specs.StoredGroup.{Holds, held}
use Rattle.raft_group_step.specs.Message.{Message}
use Rattle.raft_group_step.specs.GroupState.{GroupState, Untold}
use Rattle.raft_laws.specs.declared.world_event.WorldEvent.{WorldEvent}
use Rattle.raft_laws.specs.GroupWorld.{GroupWorld, Done, Recorded}
use Rattle.raft_laws.specs.NodeEvent.{NodeEvent}
use Rattle.raft_laws.specs.GroupRun.{At, Replays, scene_of}
use Rattle.raft_laws.specs.OneList.{IsGroupHistory, IsLeading, IsSettledUnder}
use Rattle.raft_laws.specs.Settled.{group_list}

-- the node at which the event happens leads behind it, and has an entry at the token's place that is settled under its vote
pub record IsToldUnder (before : GroupWorld) (event : WorldEvent) (after : GroupWorld) (x : Untold) : Type 0 where
  pub node : ℕ
  pub at_node : NodeEvent
  pub here : scene_of before event ≡ At node at_node
  pub state : GroupState
  pub leading : IsLeading after node state
  pub entry : Entry
  pub stands : slice_get (held state.stored) x.place ≡ Some entry
  pub settled : IsSettledUnder after state.stored.vote entry

-- so is each token that an event tells, in the world behind the event
abbrev pub ToldIsSettledUnder : Type 0
ToldIsSettledUnder =
    (ids : List ℕ) (rs : List Recorded) (last : Recorded) (middle end : GroupWorld)
    → IsGroupHistory ids rs middle → Replays middle (last ∷ []) end
    → (sent : List Message) (told : List Untold) (unknown : List ℕ) → last.outcome ≡ Done sent told unknown
    → (x : Untold) → Contains told x → IsToldUnder middle last.event end x

-- what is settled under a vote stays so, however the history goes on
abbrev pub SettledUnderStays : Type 0
SettledUnderStays =
    (ids : List ℕ) (rs more : List Recorded) (middle end : GroupWorld) → IsGroupHistory ids rs middle → Replays middle more end
    → (vote : Vote ℕ) (e : Entry) → IsSettledUnder middle vote e → IsSettledUnder end vote e

-- each node that leads under a vote that isn't below the teller's holds the list up to the told place
abbrev pub HoldTold : GroupWorld → Vote ℕ → Untold → Type 0
HoldTold end vote x =
    (n : ℕ) (s : GroupState) → IsLeading end n s → vote_lt s.stored.vote vote ≡ false → Holds s.stored (group_list end) x.place

-- leader completeness, for told tokens: so it is in each later world
abbrev pub LeadersHoldTold : Type 0
LeadersHoldTold =
    (ids : List ℕ) (rs more : List Recorded) (last : Recorded) (middle next end : GroupWorld)
    → IsGroupHistory ids rs middle → Replays middle (last ∷ []) next → Replays next more end
    → (sent : List Message) (told : List Untold) (unknown : List ℕ) → last.outcome ≡ Done sent told unknown
    → (x : Untold) → Contains told x
    → (t : IsToldUnder middle last.event next x) × HoldTold end t.state.stored.vote x
