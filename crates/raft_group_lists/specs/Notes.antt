-- What is noted of a group's leaders, and the accounts that it stands for.
use Rattle.std.specs.Prelude.{◌≡◌, ℕ, zero, suc, ◌<◌, ◌≤◌, ◌==◌, ◌&&◌, ◌||◌, nat_le, if◌then◌else◌, Bool, false, List, []}
use Rattle.std.specs.Prelude.{◌∷◌, ◌++◌, length, take, drop, slice_get, Option, Some, None, option_map}
use Rattle.std.specs.List.{list_any}
use Rattle.raft_values.specs.declared.vote.LeaderId.{LeaderId}
use Rattle.raft_values.specs.declared.vote.Vote.{Vote}
use Rattle.raft_values.specs.declared.log_id.LogId.{LogId}
use Rattle.raft_quorums.specs.Quorum.{is_quorum}
use Rattle.raft_group_step.specs.Values.{Entry, LoggedMembership, Membership, is_written_by, last_membership, vote_eq}
use Rattle.raft_laws.specs.Settled.{count_to_last}
use Rattle.raft_list_laws.specs.Accounts.{Accounts, settled_of}
use Rattle.raft_list_laws.specs.Changes.{GoesOn}
use Rattle.raft_group_lists.specs.declared.notes.Noted.{Noted}
use Rattle.raft_group_lists.specs.declared.notes.Reached.{Reached}
use Rattle.raft_group_lists.specs.declared.notes.Lead.{Lead}

-- ---- lists of leaders

abbrev pub entry_in : Option Noted → List Entry
entry_in None = []
entry_in (Some x) = x.entry ∷ []

abbrev pub before_in : Option Noted → Option ℕ
before_in None = None
before_in (Some x) = x.before

abbrev pub count_in : Option Noted → ℕ
count_in None = 0
count_in (Some x) = x.count

-- the entry that is noted there, and those before it, so many in all
abbrev pub front : List Noted → ℕ → Option ℕ → List Entry
front noted zero at = []
front noted (suc n) None = []
front noted (suc n) (Some k) = front noted n (before_in (slice_get noted k)) ++ entry_in (slice_get noted k)

abbrev pub count_to : List Noted → Option ℕ → ℕ
count_to noted None = 0
count_to noted (Some k) = count_in (slice_get noted k)

-- the leader's list whose last entry is noted there
abbrev pub list_to : List Noted → Option ℕ → List Entry
list_to noted at = front noted (count_to noted at) at

-- the entries that are noted at these places
abbrev pub entries_at : List Noted → List ℕ → List Entry
entries_at noted [] = []
entries_at noted (k ∷ ks) = entry_in (slice_get noted k) ++ entries_at noted ks

-- ---- who accepted what

abbrev pub reaches : Option ℕ → ℕ → Bool
reaches None place = false
reaches (Some last) place = nat_le place last

abbrev pub has_reached : List Reached → ℕ → ℕ → Bool
has_reached reached place node =
    list_any (λ (one : Reached). one.node == node && reaches one.place place) reached

-- who has accepted the place, once this node has accepted up to its last one
abbrev pub is_now_reached : List Reached → ℕ → Option ℕ → ℕ → ℕ → Bool
is_now_reached reached node last place n = has_reached reached place n || (node == n && reaches last place)

-- the entry is the leader's own, and a quorum has accepted it then
abbrev pub passes : List (List ℕ) → LeaderId ℕ → List Reached → ℕ → Option ℕ → Entry → Bool
passes voters leader reached node last e =
    is_written_by leader e && is_quorum voters (is_now_reached reached node last e.log_id.index)

-- the entries up to the last one that passes
abbrev pub settled_by : (Entry → Bool) → List Entry → List Entry
settled_by p xs = take (count_to_last p 0 0 xs) xs

-- ---- all of it

abbrev pub later_or : Option Lead → Option Lead → Option Lead
later_or None lead = lead
later_or (Some later) lead = Some later

-- what is noted under the vote
abbrev pub lead_in : List Lead → Vote ℕ → Option Lead
lead_in [] vote = None
lead_in (x ∷ xs) vote = later_or (lead_in xs vote) (if vote_eq x.vote vote then Some x else None)

abbrev pub last_in : Option Lead → Option ℕ
last_in None = None
last_in (Some lead) = lead.last

abbrev pub reached_in : Option Lead → List Reached
reached_in None = []
reached_in (Some lead) = lead.reached.items

-- the entry is of the vote's leader, and a quorum has accepted it by what is noted under the vote
abbrev pub is_settled : List (List ℕ) → Lead → Entry → Bool
is_settled voters lead e =
    is_written_by lead.vote.leader_id e && is_quorum voters (has_reached lead.reached.items e.log_id.index)

-- the vote is noted there, and not behind it
pub record IsLeadAt (noted_leads : List Lead) (vote : Vote ℕ) (at : ℕ) : Type 0 where
  pub lead : Lead
  pub there : slice_get noted_leads at ≡ Some lead
  pub of_vote : lead.vote ≡ vote
  pub is_last : lead_in (drop (suc at) noted_leads) vote ≡ None

-- it is noted there how far the node has accepted
pub record IsSpot (reached : List Reached) (node at : ℕ) : Type 0 where
  pub one : Reached
  pub there : slice_get reached at ≡ Some one
  pub of_node : one.node ≡ node

-- the same list and the same acceptances
pub record SameLead (one other : Lead) : Type 0 where
  pub vote : other.vote ≡ one.vote
  pub last : other.last ≡ one.last
  pub reached : (place node : ℕ) → has_reached other.reached.items place node ≡ has_reached one.reached.items place node

-- the same under each vote
pub record SameLeads (some other : List Lead) : Type 0 where
  pub last : (vote : Vote ℕ) → last_in (lead_in other vote) ≡ last_in (lead_in some vote)
  pub reached : (vote : Vote ℕ) (place node : ℕ)
      → has_reached (reached_in (lead_in other vote)) place node ≡ has_reached (reached_in (lead_in some vote)) place node

pub record Notes : Type 0 where
  pub voters : List (List ℕ)
  pub noted : List Noted
  pub leads : List Lead
  -- where the entries of the group's list are noted
  pub listed : List ℕ

abbrev pub accounts_of : Notes → Accounts
accounts_of s =
    record {
      voters = s.voters;
      latest = λ vote. list_to s.noted (last_in (lead_in s.leads vote));
      reached = λ vote place node. has_reached (reached_in (lead_in s.leads vote)) place node;
      list = entries_at s.noted s.listed;
    }

abbrev pub notes_of : List (List ℕ) → List Noted → List Lead → List ℕ → Notes
notes_of voters noted leads listed = record { voters = voters; noted = noted; leads = leads; listed = listed }

-- nothing is noted
abbrev pub no_notes : Notes
no_notes = notes_of [] [] [] []

-- where the leader's list ends, by what is said of it and by what was noted
abbrev pub end_or : Option ℕ → Option ℕ → Option ℕ
end_or None known = known
end_or (Some last) known = Some last

-- under the vote the leader's list ends as it is said, and the node has accepted up to the place; the list goes on with what that
-- settles
pub record Learns (s : Notes) (node : ℕ) (vote : Vote ℕ) (last place : Option ℕ) (next : Notes) : Type 0 where
  pub ends : (other : Vote ℕ)
      → last_in (lead_in next.leads other)
      ≡ (if vote_eq other vote then end_or last (last_in (lead_in s.leads vote)) else last_in (lead_in s.leads other))
  pub accepts : (other : Vote ℕ) (at n : ℕ)
      → has_reached (reached_in (lead_in next.leads other)) at n
      ≡ (has_reached (reached_in (lead_in s.leads other)) at n || (vote_eq other vote && (node == n && reaches place at)))
  pub list : GoesOn (accounts_of s).list (settled_of (accounts_of next) vote) (accounts_of next).list

-- ---- what holds of all notes

-- so many entries are noted, or none is meant
abbrev pub IsWithin : List Noted → Option ℕ → Type 0
IsWithin noted at = (k : ℕ) → at ≡ Some k → k < length noted

abbrev pub AreWithin : List Noted → List ℕ → Type 0
AreWithin noted ks = (i k : ℕ) → slice_get ks i ≡ Some k → k < length noted

-- what is noted at this place stands behind an entry that was noted earlier, or is the first of its list
pub record IsJoined (noted : List Noted) (k : ℕ) (x : Noted) : Type 0 where
  pub count : x.count ≡ suc (count_to noted x.before)
  pub low : x.count ≤ suc k
  pub before : (j : ℕ) → x.before ≡ Some j → j < k

abbrev pub AreJoined : List Noted → Type 0
AreJoined noted = (k : ℕ) (x : Noted) → slice_get noted k ≡ Some x → IsJoined noted k x

pub record AreWhole (s : Notes) : Type 0 where
  pub joined : AreJoined s.noted
  pub leads : (i : ℕ) (lead : Lead) → slice_get s.leads i ≡ Some lead → IsWithin s.noted lead.last
  pub listed : AreWithin s.noted s.listed

-- ---- what is noted of a log id

-- an entry of this log id is noted there
pub record IsNotedAt (noted : List Noted) (id : LogId ℕ) (at : ℕ) : Type 0 where
  pub one : Noted
  pub there : slice_get noted at ≡ Some one
  pub of_id : one.entry.log_id ≡ id

-- none is noted
abbrev pub HasNoId : List Noted → LogId ℕ → Type 0
HasNoId noted id = (at : ℕ) → IsNotedAt noted id at → ⊥

-- ---- the membership in force

-- the last membership of the list
abbrev pub membership_in : List Entry → Option Membership
membership_in list = option_map (λ (m : LoggedMembership). m.membership) (last_membership None list)

-- ---- what is written

-- one entry more is noted, behind the others
pub record IsWrittenAt (noted : List Noted) (entry : Entry) (at : ℕ) (more : List Noted) : Type 0 where
  pub one : Noted
  pub of_entry : one.entry ≡ entry
  pub place : at ≡ length noted
  pub behind : more ≡ noted ++ one ∷ []

-- the last entry of the list has this log id
pub record EndsWith (list : List Entry) (id : LogId ℕ) : Type 0 where
  pub before : List Entry
  pub last : Entry
  pub is : list ≡ before ++ last ∷ []
  pub of_id : last.log_id ≡ id

abbrev pub IsEnded : List Entry → Type 0
IsEnded list = (id : LogId ℕ) × EndsWith list id
