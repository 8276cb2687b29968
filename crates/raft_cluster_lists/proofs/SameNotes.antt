-- Where the same is noted, it is of the same worlds.
use Rattle.std.specs.Prelude.{◌≡◌, ℕ, List, [], map, fold, slice_get, Option, Some, None, refl, Contains}
use Rattle.std.proofs.Common.{inl, inr, sym, ap, ◌∙◌, ⊎_elim}
use Rattle.raft_values.specs.LogId.{log_id_of}
use Rattle.raft_values.specs.declared.vote.Vote.{Vote}
use Rattle.raft_group_step.specs.StoredGroup.{held}
use Rattle.raft_group_step.specs.Values.{Entry, EntryPayload, Membership}
use Rattle.raft_laws.specs.GroupWorld.{GroupWorld, Led, new_world}
use Rattle.raft_laws.specs.Settled.{group_list, longer, settled_part}
use Rattle.raft_laws.proofs.Counts.{contains_among}
use Rattle.raft_list_laws.specs.Accounts.{AreTrue}
use Rattle.raft_list_laws.specs.Changes.{with_setup}
use Rattle.raft_list_laws.specs.NewEntries.{GoesOnByOne}
use Rattle.raft_group_lists.specs.Notes.{HasNoId, IsNotedAt, Notes, accounts_of, count_to, no_notes}
use Rattle.raft_list_steps.specs.Lists.{HasFirst, HasListOf, IsListOf, setup_entry}
use Rattle.raft_list_steps.proofs.ListFacts.{entry_noted}
use Rattle.raft_list_steps.proofs.RunLemmas.{nothing_noted, same_list}
use Rattle.raft_list_reports.specs.Told.{AreStops}
use Rattle.raft_cluster_lists.specs.Keeping.{AreNotesOf, GroupNotes, IsNotedOf}
use Rattle.raft_cluster_lists.specs.Lists.{AreSame}

pub same_noted : (s t : Notes) (w : GroupWorld) → AreSame s t → IsListOf s w → IsListOf t w
same_noted s t w same h = same_list s t same.accounts same.noted w h

pub same_has : (s t : Notes) (one other : List Membership) (w : GroupWorld) → AreSame s t → ((x : Membership) → Contains one x → Contains other x) → IsNotedOf s one w → IsNotedOf t other w
same_has s t one other w same more has =
    ⊎_elim
    (λ h. inl (same_noted s t w same h))
    (λ a. inr (record { none = a.0.none; unled = a.0.unled; membership = a.0.membership; list = same_noted s t (with_setup w a.0.membership) same a.0.list }, more a.0.membership a.1))
    has

-- where nobody led the list is empty
pub unled_none : (w : GroupWorld) → w.led ≡ [] → group_list w ≡ []
unled_none w none = ap (λ (ls : List Led). fold longer [] (map (settled_part w) ls)) none

-- whatever the set-up
unled_list : (w : GroupWorld) (m : Membership) → w.led ≡ [] → group_list (with_setup w m) ≡ group_list w
unled_list w m unled = unled_none (with_setup w m) unled ∙ sym (unled_none w unled)

pub has_list : (s : Notes) (asked : List Membership) (w : GroupWorld) → IsNotedOf s asked w → (accounts_of s).list ≡ group_list w
has_list s asked w has =
    ⊎_elim (λ h. h.truth.list) (λ a. a.0.list.truth.list ∙ unled_list w a.0.membership a.0.unled) has

pub any_list : (s : Notes) (asked : List Membership) (w : GroupWorld) → IsNotedOf s asked w → HasListOf s w
any_list s asked w has = ⊎_elim (λ h. inl h) (λ a. inr a.0) has

-- of nodes that know of no group nothing is noted
nothing_true : (ids : List ℕ) → AreTrue (accounts_of no_notes) (new_world ids)
nothing_true ids =
    record {
      notes = record { voters = refl; noted = λ vote. inl refl; latest = λ l c. absurd (contains_among [] l c); reached = λ vote place node. refl };
      list = refl;
    }

pub none_noted : (ids : List ℕ) → IsListOf no_notes (new_world ids)
none_noted ids = nothing_noted no_notes nothing_true refl ids [] (new_world ids) refl

-- ---- calls that stopped

same_write : (n : ℕ) (vote : Vote ℕ) (list next : List Entry) (one other : ℕ → Option EntryPayload) → other n ≡ one n → GoesOnByOne vote list (λ (e : Entry). one n ≡ Some e.payload) next → GoesOnByOne vote list (λ (e : Entry). other n ≡ Some e.payload) next
same_write n vote list next one other same on =
    ⊎_elim (λ is. inl is) (λ x. inr (x.0, x.1, same ∙ x.2)) on

pub same_stops : (one other : ℕ → Option EntryPayload) (w : GroupWorld) → ((n : ℕ) → other n ≡ one n) → AreStops one w → AreStops other w
same_stops one other w same stops = record {
  down = λ n st down a v is_true led some own.
      same_write n st.vote (a.latest st.vote) (held st) one other (same n) (stops.down n st down a v is_true led some own);
}

pub same_notes : (k next : GroupNotes) (w : GroupWorld) → AreSame k.notes next.notes → ((n : ℕ) → next.stopped n ≡ k.stopped n) → ((x : Membership) → Contains k.asked x → Contains next.asked x) → AreNotesOf k w → AreNotesOf next w
same_notes k next w same stopped more was = record {
  list = same_has k.notes next.notes k.asked next.asked w same more was.list;
  stops = same_stops k.stopped next.stopped w stopped was.stops;
}

-- ---- the set-up's entry

pub first_noted : (s : Notes) (m : Membership) → HasFirst s m → (at : ℕ) × IsNotedAt s.noted (log_id_of 0 0 0) at
first_noted s m first =
    entry_noted s.noted (count_to s.noted (Some first.at)) (Some first.at) 0 (setup_entry m) (ap (λ (xs : List Entry). slice_get xs 0) first.list)

-- where it isn't noted, the group wasn't set up, and none was heard ahead
pub not_set_up : (s : Notes) (asked : List Membership) (w : GroupWorld) → HasNoId s.noted (log_id_of 0 0 0) → IsNotedOf s asked w → IsListOf s w × (w.setup ≡ None)
not_set_up s asked w none has =
    ⊎_elim
    (λ h. (h, unset h w.setup refl))
    (λ a. let noted = first_noted s a.0.membership (a.0.list.first a.0.membership refl) in absurd (none noted.0 noted.1))
    has
  where
    unset : IsListOf s w → (o : Option Membership) → w.setup ≡ o → w.setup ≡ None
    unset h None is = is
    unset h (Some m) is = let noted = first_noted s m (h.first m is) in absurd (none noted.0 noted.1)
