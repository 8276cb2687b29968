-- What is kept of a group before an event.
use Rattle.std.proofs.Common.{◌≡◌, ◌⊎◌, inl, inr, ℕ, List, Option, Some, None, refl, sym, ap, ◌∙◌, subst, ⊎_elim}
use Rattle.raft_group_step.specs.Values.{Membership}
use Rattle.raft_laws.specs.OneList.{AreNodeIds}
use Rattle.raft_machines.specs.Machine.{MachineRules}
use Rattle.raft_headline.specs.ClusterEvent.{Recorded as PlainRecord}
use Rattle.raft_cluster_laws.specs.Kept.{Candidates}
use Rattle.raft_group_lists.specs.Notes.{no_notes}
use Rattle.raft_cluster_events.specs.declared.event.ClusterEvent.{ClusterEvent}
use Rattle.raft_cluster_lists.specs.declared.kept.KeptGroup.{KeptGroup}
use Rattle.raft_cluster_lists.specs.Groups.{IsBegunFor, IsPreparedFor, IsSameGroup, KeepsOn, entries_of, kept_in}
use Rattle.raft_cluster_lists.specs.Keeping.{GroupNotes, KeepsList, list_in}
use Rattle.raft_cluster_lists.proofs.ListsKept.{lists_begin}
use Rattle.raft_listed_cluster.specs.Keeping.{noted_with, notes_of, one_of}
use Rattle.raft_listed_cluster.specs.Listed.{lists_of}
use Rattle.raft_listed_cluster.proofs.ListFacts.{same_kept}

-- the list that is kept of a group is that of its notes
pub same_list : (kept : Option KeptGroup) (asked : Option Membership) → list_in (notes_of kept asked) ≡ entries_of kept
same_list None asked = refl
same_list (Some k) asked = refl

-- ---- the same

pub same_entries : (old new : Option KeptGroup) → KeepsOn IsSameGroup old new → entries_of new ≡ entries_of old
same_entries None new same = ap entries_of same
same_entries (Some k) new same = ap entries_of same.1 ∙ ap (λ a. a.list) same.2.notes.accounts

pub begun_entries : (event : ClusterEvent) (h : ℕ) (old new : Option KeptGroup) → IsBegunFor event h old new → entries_of new ≡ entries_of old
begun_entries event h old new begun =
    ap entries_of begun.there ∙ ap (λ a. a.list) begun.is_new.notes.accounts ∙ sym (ap entries_of begun.none)

pub prepared_lists : (event : ClusterEvent) (olds news : List KeptGroup) → IsPreparedFor event olds news → (h : ℕ) → lists_of news h ≡ lists_of olds h
prepared_lists event olds news prepared h =
    ⊎_elim (λ same. same_entries (kept_in olds h) (kept_in news h) same) (λ begun. begun_entries event h (kept_in olds h) (kept_in news h) begun) (prepared h)

module _ (rules : MachineRules) (ids : List ℕ) (fit : AreNodeIds ids) (h : ℕ) (candidates : Candidates) (history : List PlainRecord) (asked : Option Membership) where
  abbrev Keeps : Option KeptGroup → Type 0
  Keeps kept = KeepsList rules ids h candidates history (notes_of kept asked)

  pub same_on : (old new : Option KeptGroup) → KeepsOn IsSameGroup old new → Keeps old → Keeps new
  same_on None new same keeps = subst Keeps (sym same) keeps
  same_on (Some k) new same keeps =
      let next : KeptGroup = same.0 in
      subst Keeps (sym same.1) (same_kept rules ids h candidates history (noted_with k asked) (noted_with next asked) same.2.notes same.2.stopped (λ x has. has) keeps)

  -- a group of which nothing was kept is kept from now on
  pub begun_on : (event : ClusterEvent) (old new : Option KeptGroup) → IsBegunFor event h old new → Keeps old → Keeps new
  begun_on event old new begun keeps =
      let nothing : GroupNotes = record { notes = no_notes; stopped = λ n. None; asked = one_of asked } in
      let first = lists_begin rules ids fit h candidates history (subst Keeps begun.none keeps) nothing refl in
      subst Keeps (sym begun.there)
      (same_kept rules ids h candidates history nothing (noted_with begun.kept asked) begun.is_new.notes begun.is_new.stopped (λ x has. has) first)

  pub prepared_on : (event : ClusterEvent) (old new : Option KeptGroup) → KeepsOn IsSameGroup old new ⊎ IsBegunFor event h old new → Keeps old → Keeps new
  prepared_on event old new (inl same) keeps = same_on old new same keeps
  prepared_on event old new (inr begun) keeps = begun_on event old new begun keeps
