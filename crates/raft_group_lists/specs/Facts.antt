-- The facts of an event of which a group's list is told.
use Rattle.std.specs.Prelude.{◌≡◌, ℕ, ◌&&◌, if◌then◌else◌, Bool, List, length, slice_get, Option, Some, None, MatchOption}
use Rattle.std.specs.List.{list_any}
use Rattle.raft_values.specs.declared.vote.LeaderId.{LeaderId}
use Rattle.raft_values.specs.declared.vote.Vote.{Vote}
use Rattle.raft_values.specs.declared.log_id.LogId.{LogId}
use Rattle.raft_group_step.specs.Values.{Entry, leader_eq, vote_eq}
use Rattle.raft_group_step.specs.Message.{Message}
use Rattle.raft_laws.specs.BallotLists.{AgreeBelow}
use Rattle.raft_laws.specs.GroupWorld.{Led}
use Rattle.raft_laws.specs.Settled.{body_accepts, is_at_or_after}
use Rattle.raft_list_facts.specs.Accepting.{accepted_in}
use Rattle.raft_list_laws.specs.Changes.{IsSilent}
use Rattle.raft_group_lists.specs.declared.notes.Noted.{Noted}
use Rattle.raft_group_lists.specs.Notes.{Notes, accounts_of, list_to}

-- the place of a log id, if it is the leader's own
abbrev pub own_place : LogId ℕ → LeaderId ℕ → Option ℕ
own_place id leader = if leader_eq id.leader_id leader then Some id.index else None

-- the list has an own entry of the vote's leader at a place or past it just where its last entry, which has this log id, is one
abbrev pub OwnComeLast : Vote ℕ → List Entry → LogId ℕ → Type 0
OwnComeLast vote list last =
    (place : ℕ) → list_any (λ (e : Entry). is_at_or_after vote.leader_id place e.log_id) list ≡ is_at_or_after vote.leader_id place last

-- the note says that this node led under the vote, with the list whose last entry is noted there, and which goes on from the one
-- that the vote's leader was noted with before
pub record IsNoteOf (s : Notes) (node : ℕ) (vote : Vote ℕ) (last : ℕ) (l : Led) : Type 0 where
  pub of_node : l.node ≡ node
  pub of_vote : l.vote ≡ vote
  pub of_list : l.list ≡ list_to s.noted (Some last)
  pub goes_on : AgreeBelow (length ((accounts_of s).latest vote)) ((accounts_of s).latest vote) l.list
  pub own : (x : Noted) → slice_get s.noted last ≡ Some x → OwnComeLast vote l.list x.entry.log_id

-- the message says that this node has accepted, under the vote alone, all up to the log id
pub record AcceptsUpTo (node : ℕ) (vote : Vote ℕ) (last : LogId ℕ) (m : Message) : Type 0 where
  pub of_node : m.sender ≡ node
  pub accepts : (other : Vote ℕ) (p : LogId ℕ → Bool) → body_accepts other p m.body ≡ (vote_eq vote other && p last)

-- ---- what messages accept

-- a message accepts under one vote all up to one log id, or it accepts nothing
abbrev pub MessagesAccept : Type 0
MessagesAccept =
    (m : Message) → MatchOption (accepted_in m.body) (IsSilent m) (λ accepted. AcceptsUpTo m.sender accepted.vote accepted.last m)
