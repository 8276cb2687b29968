-- How an event changes the accounts of a group: by its set-up, the note of a leader, and each message that it sends.
use Rattle.std.specs.Prelude.{◌≡◌, ℕ, suc, ◌<◌, ◌≤◌, ◌==◌, ◌&&◌, ◌||◌, if◌then◌else◌, Bool, false, List, []}
use Rattle.std.specs.Prelude.{◌∷◌, ◌++◌, length, slice_get, Some, None, Contains}
use Rattle.std.specs.List.{list_any}
use Rattle.raft_values.specs.declared.vote.Vote.{Vote}
use Rattle.raft_group_step.specs.Values.{Entry, Membership, vote_eq}
use Rattle.raft_group_step.specs.Message.{Message}
use Rattle.raft_laws.specs.BallotLists.{AgreeBelow}
use Rattle.raft_laws.specs.GroupWorld.{GroupWorld, Led, Recorded}
use Rattle.raft_laws.specs.OneList.{IsGroupHistory}
use Rattle.raft_laws.specs.Settled.{body_accepts, group_list, is_at_or_after}
use Rattle.raft_list_laws.specs.Accounts.{Accounts, AreTrue, PartsAreFronts, settled_of}

-- ---- the worlds

abbrev pub with_setup : GroupWorld → Membership → GroupWorld
with_setup w m = record w { setup = Some m }

-- a leader is noted behind the others
abbrev pub with_note : GroupWorld → Led → GroupWorld
with_note w l = record w { led = w.led ++ l ∷ [] }

abbrev pub with_message : GroupWorld → Message → GroupWorld
with_message w m = record w { messages = w.messages ++ m ∷ [] }

-- ---- what they bring

-- the note says that this node has accepted, under the vote, an own entry of the vote's leader at the place or past it
abbrev pub note_reaches : Led → Vote ℕ → ℕ → ℕ → Bool
note_reaches l vote place node =
    (l.node == node && vote_eq l.vote vote) && list_any (λ (e : Entry). is_at_or_after vote.leader_id place e.log_id) l.list

-- so says the message
abbrev pub message_reaches : Message → Vote ℕ → ℕ → ℕ → Bool
message_reaches m vote place node =
    m.sender == node && body_accepts vote (is_at_or_after vote.leader_id place) m.body

-- ---- the accounts behind them

-- the list stays as it is, unless more is settled that goes on from it: then it is that
pub record GoesOn (list settled next : List Entry) : Type 0 where
  pub stays : length settled ≤ length list → next ≡ list
  pub grows : length list < length settled → AgreeBelow (length list) list settled → next ≡ settled

-- nobody has led yet, and the voters are those of the set-up
pub record IsSetUp (a : Accounts) (m : Membership) (next : Accounts) : Type 0 where
  pub voters : next.voters ≡ m.configs
  pub latest : (vote : Vote ℕ) → next.latest vote ≡ a.latest vote
  pub reached : (vote : Vote ℕ) (place node : ℕ) → next.reached vote place node ≡ a.reached vote place node
  pub list : next.list ≡ a.list

-- the leader's list is the noted one from now on, its node has accepted it, and the group's list goes on with what that settles
pub record IsNoted (a : Accounts) (l : Led) (next : Accounts) : Type 0 where
  pub voters : next.voters ≡ a.voters
  pub latest : (vote : Vote ℕ) → next.latest vote ≡ (if vote_eq vote l.vote then l.list else a.latest vote)
  pub reached : (vote : Vote ℕ) (place node : ℕ)
      → next.reached vote place node ≡ (a.reached vote place node || note_reaches l vote place node)
  pub list : GoesOn a.list (settled_of next l.vote) next.list

-- the sender has accepted what the message says, under one vote alone, and the group's list goes on with what that settles
pub record IsAccepted (a : Accounts) (m : Message) (vote : Vote ℕ) (next : Accounts) : Type 0 where
  pub one_vote : (other : Vote ℕ) (place node : ℕ) → vote_eq other vote ≡ false → message_reaches m other place node ≡ false
  pub voters : next.voters ≡ a.voters
  pub latest : (other : Vote ℕ) → next.latest other ≡ a.latest other
  pub reached : (other : Vote ℕ) (place node : ℕ)
      → next.reached other place node ≡ (a.reached other place node || message_reaches m other place node)
  pub list : GoesOn a.list (settled_of next vote) next.list

-- the message accepts nothing
abbrev pub IsSilent : Message → Type 0
IsSilent m = (vote : Vote ℕ) (place node : ℕ) → message_reaches m vote place node ≡ false

-- ---- the laws

abbrev pub SetUpsKeep : Type 0
SetUpsKeep =
    (a next : Accounts) (w : GroupWorld) (m : Membership) → AreTrue a w → w.led ≡ []
    → IsSetUp a m next → AreTrue next (with_setup w m)

-- a leader that goes on from its last list; what is settled behind the note stands on one list
abbrev pub NotesKeep : Type 0
NotesKeep =
    (a next : Accounts) (w : GroupWorld) (l : Led) (list : List Entry) → AreTrue a w
    → AgreeBelow (length (a.latest l.vote)) (a.latest l.vote) l.list → PartsAreFronts list (with_note w l)
    → IsNoted a l next → AreTrue next (with_note w l)

abbrev pub AcceptancesKeep : Type 0
AcceptancesKeep =
    (a next : Accounts) (w : GroupWorld) (m : Message) (vote : Vote ℕ) (list : List Entry) → AreTrue a w
    → PartsAreFronts list (with_message w m)
    → IsAccepted a m vote next → AreTrue next (with_message w m)

abbrev pub SilentKeep : Type 0
SilentKeep =
    (a : Accounts) (w : GroupWorld) (m : Message) → AreTrue a w → IsSilent m → AreTrue a (with_message w m)

-- ---- where what is settled stands

-- in each world to which a history leads, what is settled of each leader's lists is a front of the group's list
abbrev pub PartsOfHistories : Type 0
PartsOfHistories =
    (ids : List ℕ) (rs : List Recorded) (end : GroupWorld) → IsGroupHistory ids rs end → PartsAreFronts (group_list end) end

-- what stands on one list behind a note stood on it before; so too behind a message
abbrev pub FrontsBeforeNotes : Type 0
FrontsBeforeNotes =
    (list : List Entry) (w : GroupWorld) (l : Led) → PartsAreFronts list (with_note w l) → PartsAreFronts list w

abbrev pub FrontsBeforeMessages : Type 0
FrontsBeforeMessages =
    (list : List Entry) (w : GroupWorld) (m : Message) → PartsAreFronts list (with_message w m) → PartsAreFronts list w

-- in each world to which a history leads, a noted list has an own entry of its leader at a place or past it just where its last
-- entry is one
abbrev pub OwnEntriesComeLast : Type 0
OwnEntriesComeLast =
    (ids : List ℕ) (rs : List Recorded) (end : GroupWorld) → IsGroupHistory ids rs end
    → (l : Led) → Contains end.led l → (front : List Entry) (last : Entry) → l.list ≡ front ++ last ∷ []
    → (place : ℕ)
    → list_any (λ (e : Entry). is_at_or_after l.vote.leader_id place e.log_id) l.list
    ≡ is_at_or_after l.vote.leader_id place last.log_id

-- in each world to which a history leads, nobody has led where no group is set up
abbrev pub NobodyLedBefore : Type 0
NobodyLedBefore =
    (ids : List ℕ) (rs : List Recorded) (end : GroupWorld) → IsGroupHistory ids rs end → end.setup ≡ None → end.led ≡ []

-- the last note to which a history leads goes on from the list that its vote's leader was noted with last, by accounts that were
-- true before it
abbrev pub NotesGoOn : Type 0
NotesGoOn =
    (ids : List ℕ) (rs : List Recorded) (end : GroupWorld) → IsGroupHistory ids rs end
    → (a : Accounts) (w : GroupWorld) (l : Led) → AreTrue a w → end.led ≡ w.led ++ l ∷ []
    → AgreeBelow (length (a.latest l.vote)) (a.latest l.vote) l.list

-- in each world to which a history leads, two noted lists that have an entry of one log id have it at one place, and are the same
-- up to it
abbrev pub NotedListsAgree : Type 0
NotedListsAgree =
    (ids : List ℕ) (rs : List Recorded) (end : GroupWorld) → IsGroupHistory ids rs end
    → (one other : Led) → Contains end.led one → Contains end.led other
    → (i j : ℕ) (x y : Entry) → slice_get one.list i ≡ Some x → slice_get other.list j ≡ Some y → x.log_id ≡ y.log_id
    → (i ≡ j) × AgreeBelow (suc i) one.list other.list
