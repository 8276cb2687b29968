-- What each part of a report makes of what is noted.
use Rattle.std.specs.Prelude.{◌≡◌, ◌⊎◌, ℕ, suc, ◌<◌, List, [], ◌∷◌, ◌++◌, length, slice_get, Option, Some, None, MatchOption, Contains}
use Rattle.raft_values.specs.declared.log_id.LogId.{LogId}
use Rattle.raft_group_step.specs.Values.{Entry, EntryPayload, Membership}
use Rattle.raft_group_step.specs.Message.{Message}
use Rattle.raft_laws.specs.BallotLists.{AgreeBelow}
use Rattle.raft_laws.specs.GroupWorld.{GroupWorld, Led}
use Rattle.raft_list_laws.specs.Accounts.{AreTrue, PartsAreFronts}
use Rattle.raft_list_laws.specs.Changes.{with_message, with_note, with_setup}
use Rattle.raft_group_lists.specs.Facts.{OwnComeLast}
use Rattle.raft_group_lists.specs.Notes.{EndsWith, IsNotedAt, Notes, accounts_of, list_to}
use Rattle.raft_list_facts.specs.declared.acceptance.Acceptance.{Acceptance}
use Rattle.raft_list_facts.specs.declared.leading.Leading.{Leading}
use Rattle.raft_list_steps.specs.declared.report.SetUp.{SetUp}
use Rattle.raft_list_steps.specs.Lists.{HasFirst, IsKnown, IsListOf}
use Rattle.raft_list_steps.specs.Reports.{IsLeadOf, SaysSetUp, accepted_by, listed, start_of}
use Rattle.raft_list_laws.specs.Bases.{base_of}

-- ---- worlds

abbrev pub with_first : GroupWorld → Option Membership → GroupWorld
with_first w None = w
with_first w (Some m) = with_setup w m

abbrev pub with_notes : GroupWorld → List Led → GroupWorld
with_notes w [] = w
with_notes w (l ∷ ls) = with_notes (with_note w l) ls

abbrev pub with_messages : GroupWorld → List Message → GroupWorld
with_messages w [] = w
with_messages w (m ∷ ms) = with_messages (with_message w m) ms

-- ---- a set-up

-- nobody has led in the world where this sets the group up
abbrev pub IsUnled : GroupWorld → Option Membership → Type 0
IsUnled w first = (m : Membership) → first ≡ Some m → (w.setup ≡ None) × (w.led ≡ [])

abbrev pub SetsUp : Notes → Option SetUp → Notes → Type 0
SetsUp s said next =
    (w : GroupWorld) (first : Option Membership) → SaysSetUp said first → IsUnled w first → IsListOf s w → IsListOf next (with_first w first)

-- ---- a leader

-- noted lists that have an entry of one log id have it at one place, and are the same up to it
abbrev pub ListsAgree : List Led → Type 0
ListsAgree led =
    (one other : Led) → Contains led one → Contains led other
    → (i j : ℕ) (x y : Entry) → slice_get one.list i ≡ Some x → slice_get other.list j ≡ Some y → x.log_id ≡ y.log_id
    → (i ≡ j) × AgreeBelow (suc i) one.list other.list

-- a leader's own entries stand at the end of its list
abbrev pub OwnAreLast : Led → Type 0
OwnAreLast l = (before : List Entry) (last : Entry) → l.list ≡ before ++ last ∷ [] → OwnComeLast l.vote l.list last.log_id

-- a leader is to be noted behind this world, in which its group is set up: what is told of it is so
pub record IsNext (leading : Leading) (written : Option EntryPayload) (w : GroupWorld) (l : Led) : Type 0 where
  pub told : IsLeadOf leading written w w l
  pub agree : ListsAgree (with_note w l).led
  pub own : OwnAreLast l
  pub membership : Membership
  pub set_up : w.setup ≡ Some membership

-- the leader's list ends there, as the event leaves it; what else is noted is known
pub record IsEndOf (s : Notes) (w : GroupWorld) (l : Led) (last : LogId ℕ) (at : ℕ) : Type 0 where
  pub truth : AreTrue (accounts_of s) w
  pub within : at < length s.noted
  pub list : list_to s.noted (Some at) ≡ l.list
  pub noted : IsNotedAt s.noted last at
  pub known : (k : ℕ) → k < length s.noted → IsKnown w (list_to s.noted (Some k)) ⊎ (list_to s.noted (Some k) ≡ l.list)
  pub first : (m : Membership) → w.setup ≡ Some m → HasFirst s m

-- the list that is noted there ends with the log id
pub record IsEndedAt (s : Notes) (last : LogId ℕ) (start : Option ℕ) (at : ℕ) : Type 0 where
  pub there : start ≡ Some at
  pub within : at < length s.noted
  pub noted : IsNotedAt s.noted last at
  pub ends : EndsWith (list_to s.noted (Some at)) last

-- no list is noted there, or it ends with another log id
abbrev pub EndsElsewhere : Notes → LogId ℕ → Option ℕ → Type 0
EndsElsewhere s last start = (k : ℕ) → start ≡ Some k → EndsWith (list_to s.noted (Some k)) last → ⊥

abbrev pub StartsAt : Notes → Leading → Option ℕ → Type 0
StartsAt s leading at =
    (written : Option EntryPayload) (w : GroupWorld) (l : Led) → IsNext leading written w l → IsListOf s w
    → list_to s.noted at ≡ start_of ((accounts_of s).latest l.vote) (base_of l)

abbrev pub EndsAt : Notes → Leading → LogId ℕ → Option EntryPayload → ℕ → Notes → Type 0
EndsAt s leading last written at next =
    (w : GroupWorld) (l : Led) → IsNext leading written w l → IsListOf s w → IsEndOf next w l last at

-- what is settled behind the note stands on one list
abbrev pub Leads : Notes → ℕ → Leading → Option EntryPayload → Notes → Type 0
Leads s node leading written next =
    (w : GroupWorld) (l : Led) (list : List Entry) → IsNext leading written w l → l.node ≡ node → PartsAreFronts list (with_note w l)
    → IsListOf s w → IsListOf next (with_note w l)

abbrev pub AreNext : Option Leading → Option EntryPayload → ℕ → GroupWorld → List Led → Type 0
AreNext leading written node w notes =
    MatchOption leading (notes ≡ []) (λ x. (l : Led) × (notes ≡ l ∷ []) × IsNext x written w l × (l.node ≡ node))

abbrev pub MayLead : Notes → ℕ → Option Leading → Option EntryPayload → Notes → Type 0
MayLead s node leading written next =
    (w : GroupWorld) (notes : List Led) (list : List Entry) → AreNext leading written node w notes → PartsAreFronts list (with_notes w notes)
    → IsListOf s w → IsListOf next (with_notes w notes)

-- ---- an acceptance

abbrev pub AreSentBy : ℕ → List Message → Type 0
AreSentBy node sent = (m : Message) → Contains sent m → m.sender ≡ node

-- what is settled behind the messages stands on one list
abbrev pub Accepts : Notes → ℕ → Option Acceptance → Notes → Type 0
Accepts s node said next =
    (w : GroupWorld) (sent : List Message) (list : List Entry) → PartsAreFronts list (with_messages w sent)
    → AreSentBy node sent → accepted_by sent ≡ listed said → IsListOf s w → IsListOf next (with_messages w sent)
