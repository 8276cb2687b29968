-- The tokens that a leader is still to tell.
use Rattle.std.specs.Prelude.{◌≡◌, ℕ, ◌<◌, ◌≤◌, false, List, [], ◌∷◌, slice_get, Some, Contains}
use Rattle.raft_group_step.specs.Values.{Entry}
use Rattle.raft_group_step.specs.StoredGroup.{end_place, held}
use Rattle.raft_group_step.specs.GroupState.{GroupState, Lead, Leader, Untold}
use Rattle.raft_group_step.specs.StepResult.{is_within}
use Rattle.raft_laws.specs.GroupWorld.{GroupWorld, Recorded, Up}
use Rattle.raft_laws.specs.OneList.{IsGroupHistory}

-- the node leads, and the token's place was written in this lead: it lies above all that is committed, and has an entry of the
-- vote's leader
pub record IsWaiting (s : GroupState) (x : Untold) : Type 0 where
  pub lead : Lead
  pub leads : s.role ≡ Leader lead
  pub since : lead.began ≤ x.place
  pub within : x.place < end_place s.stored
  pub above : is_within x.place s.committed ≡ false
  pub entry : Entry
  pub stands : slice_get (held s.stored) x.place ≡ Some entry
  pub own : entry.log_id.leader_id ≡ s.stored.vote.leader_id

-- each stands before the later ones
abbrev pub AreRising : List Untold → Type 0
AreRising [] = Unit {0}
AreRising (x ∷ xs) = ((y : Untold) → Contains xs y → x.place < y.place) × AreRising xs

-- so wait the tokens of each node that is up, by rising place
abbrev pub WaitsOwn : Type 0
WaitsOwn =
    (ids : List ℕ) (rs : List Recorded) (end : GroupWorld) → IsGroupHistory ids rs end
    → (n : ℕ) (s : GroupState) → end.nodes n ≡ Up s
    → ((x : Untold) → Contains s.untold x → IsWaiting s x) × AreRising s.untold
