-- What a new leader took over: its list up to its first own entry.
use Rattle.std.specs.Prelude.{◌≡◌, ◌⊎◌, ℕ, ◌<◌, ◌≤◌, if◌then◌else◌, List, [], ◌∷◌, length, slice_get, Some, Contains}
use Rattle.raft_values.specs.declared.vote.LeaderId.{LeaderId}
use Rattle.raft_values.specs.declared.vote.Vote.{Vote}
use Rattle.raft_values.specs.LogId.{log_id_of}
use Rattle.raft_state.specs.declared.entry.EntryPayload.TheVariants.{Membership as Members}
use Rattle.raft_group_step.specs.Values.{Entry, Membership, entry_of, is_written_by}
use Rattle.raft_laws.specs.BallotLists.{AgreeBelow}
use Rattle.raft_laws.specs.GroupWorld.{GroupWorld, Led, Recorded}
use Rattle.raft_laws.specs.OneList.{IsGroupHistory}

-- the entries before the first one of this leader
abbrev pub before_own : LeaderId ℕ → List Entry → List Entry
before_own leader [] = []
before_own leader (e ∷ es) = if is_written_by leader e then [] else e ∷ before_own leader es

-- what the leader of the note took over
abbrev pub base_of : Led → List Entry
base_of l = before_own l.vote.leader_id l.list

-- the list is a front of one that another vote's leader was noted with, by a note before this one
pub record WasNotedBefore (w : GroupWorld) (note : ℕ) (vote : Vote ℕ) (list : List Entry) : Type 0 where
  pub number : ℕ
  pub earlier : number < note
  pub other : Led
  pub there : slice_get w.led number ≡ Some other
  pub of_other : other.vote ≡ vote → ⊥
  pub front : AgreeBelow (length list) list other.list

-- in each world to which a history leads, what a noted leader took over is a front of a list that another leader was noted with
-- before, or it has one entry at most: that of a set-up
abbrev pub BasesWereNoted : Type 0
BasesWereNoted =
    (ids : List ℕ) (rs : List Recorded) (end : GroupWorld) → IsGroupHistory ids rs end
    → (note : ℕ) (l : Led) → slice_get end.led note ≡ Some l
    → (length (base_of l) ≤ 1) ⊎ WasNotedBefore end note l.vote (base_of l)

-- in each world to which a history leads, a noted list begins with the entry of the group's set-up
abbrev pub SetUpsComeFirst : Type 0
SetUpsComeFirst =
    (ids : List ℕ) (rs : List Recorded) (end : GroupWorld) → IsGroupHistory ids rs end
    → (m : Membership) → end.setup ≡ Some m
    → (l : Led) → Contains end.led l → slice_get l.list 0 ≡ Some (entry_of (log_id_of 0 0 0) (Members m))
