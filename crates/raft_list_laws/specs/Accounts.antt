-- What is kept of a group so that its list can be told after each event.
use Rattle.std.specs.Prelude.{◌≡◌, ◌⊎◌, ℕ, ◌&&◌, Bool, List, [], length, take, Contains}
use Rattle.raft_values.specs.declared.vote.Vote.{Vote}
use Rattle.raft_quorums.specs.Quorum.{is_quorum}
use Rattle.raft_group_step.specs.Values.{Entry, is_written_by}
use Rattle.raft_laws.specs.BallotLists.{AgreeBelow}
use Rattle.raft_laws.specs.GroupWorld.{GroupWorld, Led}
use Rattle.raft_laws.specs.Settled.{count_to_last, group_list, has_accepted_some, is_at_or_after, setup_configs, settled_part}

pub record Accounts : Type 0 where
  -- the voter groups of the set-up
  pub voters : List (List ℕ)
  -- all that the vote's leader had when it was last noted; nothing where it never was
  pub latest : Vote ℕ → List Entry
  -- whether a node has accepted, under the vote, an entry of the vote's own leader at the place or past it
  pub reached : Vote ℕ → ℕ → ℕ → Bool
  -- the list of the group
  pub list : List Entry

-- a leader was noted under the vote with this list
abbrev pub WasNoted : GroupWorld → Vote ℕ → List Entry → Type 0
WasNoted w vote list = (l : Led) × Contains w.led l × (l.vote ≡ vote) × (l.list ≡ list)

-- all but the list is as in the world
pub record AreNoted (a : Accounts) (w : GroupWorld) : Type 0 where
  pub voters : a.voters ≡ setup_configs w.setup
  -- what stands as a leader's last list was noted, and each list that was noted is a front of it
  pub noted : (vote : Vote ℕ) → (a.latest vote ≡ []) ⊎ WasNoted w vote (a.latest vote)
  pub latest : (l : Led) → Contains w.led l → AgreeBelow (length l.list) l.list (a.latest l.vote)
  pub reached : (vote : Vote ℕ) (place node : ℕ)
      → a.reached vote place node ≡ has_accepted_some w vote (is_at_or_after vote.leader_id place) node

-- the accounts are true of the world
pub record AreTrue (a : Accounts) (w : GroupWorld) : Type 0 where
  pub notes : AreNoted a w
  pub list : a.list ≡ group_list w

-- the entry is of the vote's leader, and a quorum has accepted it or a later one of that leader
abbrev pub is_reached : Accounts → Vote ℕ → Entry → Bool
is_reached a vote e = is_written_by vote.leader_id e && is_quorum a.voters (a.reached vote e.log_id.index)

-- what is settled of a leader's last list
abbrev pub settled_of : Accounts → Vote ℕ → List Entry
settled_of a vote = take (count_to_last (is_reached a vote) 0 0 (a.latest vote)) (a.latest vote)

-- what is settled of each leader's lists is a front of this list
abbrev pub PartsAreFronts : List Entry → GroupWorld → Type 0
PartsAreFronts list w =
    (l : Led) → Contains w.led l → AgreeBelow (length (settled_part w l)) (settled_part w l) list
