-- What is noted of a group in a world, so that its list can go on from there.
use Rattle.std.specs.Prelude.{◌≡◌, ◌⊎◌, ℕ, ◌<◌, List, [], ◌∷◌, length, Some, None, Contains}
use Rattle.raft_values.specs.LogId.{log_id_of}
use Rattle.raft_state.specs.declared.entry.EntryPayload.TheVariants.{Membership as Members}
use Rattle.raft_group_step.specs.Values.{Entry, Membership, entry_of}
use Rattle.raft_laws.specs.BallotLists.{AgreeBelow}
use Rattle.raft_laws.specs.GroupWorld.{GroupWorld, Led}
use Rattle.raft_list_laws.specs.Accounts.{AreTrue}
use Rattle.raft_list_laws.specs.Changes.{with_setup}
use Rattle.raft_group_lists.specs.Notes.{Notes, accounts_of, list_to}

-- the first entry of a group: the membership that it was set up with
abbrev pub setup_entry : Membership → Entry
setup_entry m = entry_of (log_id_of 0 0 0) (Members m)

-- the list is a front of one that a leader was noted with
pub record IsLedFront (w : GroupWorld) (list : List Entry) : Type 0 where
  pub led : Led
  pub among : Contains w.led led
  pub front : AgreeBelow (length list) list led.list

-- the list is the set-up's entry alone
pub record IsSetUpAlone (w : GroupWorld) (list : List Entry) : Type 0 where
  pub membership : Membership
  pub set_up : w.setup ≡ Some membership
  pub alone : list ≡ setup_entry membership ∷ []

abbrev pub IsKnown : GroupWorld → List Entry → Type 0
IsKnown w list = IsLedFront w list ⊎ IsSetUpAlone w list

-- the set-up's entry is noted, as the first of a list
pub record HasFirst (s : Notes) (m : Membership) : Type 0 where
  pub at : ℕ
  pub within : at < length s.noted
  pub list : list_to s.noted (Some at) ≡ setup_entry m ∷ []

-- this is noted of the world: what it stands for is true, each list that is noted is known there, and so is the set-up's entry
pub record IsListOf (s : Notes) (w : GroupWorld) : Type 0 where
  pub truth : AreTrue (accounts_of s) w
  pub known : (at : ℕ) → at < length s.noted → IsKnown w (list_to s.noted (Some at))
  pub first : (m : Membership) → w.setup ≡ Some m → HasFirst s m

-- a set-up that stopped is heard, too, and in this world it wasn't taken: then nobody led yet
pub record IsSetUpAhead (s : Notes) (w : GroupWorld) : Type 0 where
  pub none : w.setup ≡ None
  pub unled : w.led ≡ []
  pub membership : Membership
  pub list : IsListOf s (with_setup w membership)

abbrev pub HasListOf : Notes → GroupWorld → Type 0
HasListOf s w = IsListOf s w ⊎ IsSetUpAhead s w

-- so it is, where a set-up that was heard ahead has this membership
abbrev pub HasListBy : Membership → Notes → GroupWorld → Type 0
HasListBy m s w = IsListOf s w ⊎ ((ahead : IsSetUpAhead s w) × (ahead.membership ≡ m))
