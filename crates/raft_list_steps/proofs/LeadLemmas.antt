-- A leader is noted with its list.
use Rattle.std.specs.Prelude.{◌≡◌, ◌⊎◌, ℕ, ◌<◌, List, [], ◌∷◌, length, slice_get, Option, Some, None, refl}
use Rattle.std.proofs.Common.{inl, inr, sym, ap, ◌∙◌, subst, arith, ⊎_elim}
use Rattle.raft_values.specs.declared.vote.Vote.{Vote}
use Rattle.raft_values.specs.declared.log_id.LogId.{LogId}
use Rattle.raft_group_step.specs.Values.{Entry, EntryPayload, entry_of}
use Rattle.raft_laws.specs.BallotLists.{AgreeBelow}
use Rattle.raft_laws.specs.GroupWorld.{GroupWorld, Led}
use Rattle.raft_laws.proofs.BallotAgreement.{agree_append, agree_none, agree_refl, same_some}
use Rattle.raft_list_laws.specs.Accounts.{AreTrue, PartsAreFronts}
use Rattle.raft_list_laws.specs.Changes.{with_note}
use Rattle.raft_group_lists.specs.declared.notes.Noted.{Noted}
use Rattle.raft_group_lists.specs.Facts.{IsNoteOf, OwnComeLast}
use Rattle.raft_group_lists.specs.Notes.{EndsWith, IsNotedAt, Notes, accounts_of, list_to}
use Rattle.raft_list_facts.specs.declared.leading.Leading.{Leading}
use Rattle.raft_list_steps.specs.Lists.{HasFirst, IsKnown, IsListOf, setup_entry}
use Rattle.raft_list_laws.specs.Bases.{base_of}
use Rattle.raft_list_steps.specs.Reports.{HasLast, IsGained, new_payload, start_of}
use Rattle.raft_list_steps.specs.Steps.{AreNext, EndsAt, IsEndOf, IsNext, Leads, MayLead, with_notes}
use Rattle.raft_list_steps.proofs.ListFacts.{last_noted, still_noted}

-- a list that goes on from its start goes on from what was noted last
gained_goes_on : (list taken : List Entry) (e : Entry) (next : List Entry) → IsGained (start_of list taken) e next → AgreeBelow (length list) list next
gained_goes_on [] taken e next g = agree_none next
gained_goes_on (x ∷ xs) taken e next g =
    ⊎_elim
    (λ same. subst (AgreeBelow (length (x ∷ xs)) (x ∷ xs)) (sym same) (agree_refl (length (x ∷ xs)) (x ∷ xs) (omega arith)))
    (λ more. subst (AgreeBelow (length (x ∷ xs)) (x ∷ xs)) (sym more) (agree_append (x ∷ xs) (e ∷ [])))
    g

module _ (s : Notes) (node : ℕ) (leading : Leading) (last : LogId ℕ) (is_last : leading.last ≡ Some last) (written : Option EntryPayload) (w : GroupWorld) (l : Led) (next : IsNext leading written w l) (at : ℕ) (e : IsEndOf s w l last at) where
  own_come_last : (x : Noted) → slice_get s.noted at ≡ Some x → OwnComeLast leading.vote l.list x.entry.log_id
  own_come_last x there =
      let id : last ≡ x.entry.log_id = sym e.noted.of_id ∙ ap (λ (y : Noted). y.entry.log_id) (same_some (sym e.noted.there ∙ there)) in
      let ends : EndsWith l.list last = subst (HasLast l.list) is_last next.told.last in
      let own : OwnComeLast l.vote l.list ends.last.log_id = next.own ends.before ends.last ends.is in
      let under = subst (λ (v : Vote ℕ). OwnComeLast v l.list ends.last.log_id) next.told.vote own in
      subst (λ (i : LogId ℕ). OwnComeLast leading.vote l.list i) (ends.of_id ∙ id) under

  pub is_note : l.node ≡ node → IsNoteOf s node leading.vote at l
  is_note of_node =
      let goes = gained_goes_on ((accounts_of s).latest l.vote) (base_of l) (entry_of last (new_payload ((accounts_of s).latest l.vote) written)) l.list (next.told.gains (accounts_of s) w e.truth refl last is_last) in
      record {
        of_node = of_node;
        of_vote = next.told.vote;
        of_list = sym e.list;
        goes_on = subst (λ (v : Vote ℕ). AgreeBelow (length ((accounts_of s).latest v)) ((accounts_of s).latest v) l.list) next.told.vote goes;
        own = own_come_last;
      }

  known_behind : (list : List Entry) → IsKnown w list ⊎ (list ≡ l.list) → IsKnown (with_note w l) list
  known_behind list known =
      ⊎_elim
      (λ old.
      ⊎_elim
      (λ k. inl (record { led = k.led; among = still_noted w l k.led k.among; front = k.front }))
      (λ k. inr (record { membership = k.membership; set_up = k.set_up; alone = k.alone }))
      old)
      (λ same.
      inl
      (record {
        led = l;
        among = last_noted w l;
        front = subst (λ (xs : List Entry). AgreeBelow (length xs) xs l.list) (sym same) (agree_refl (length l.list) l.list (omega arith));
      }))
      known

  pub list_behind_note : (more : Notes) → more.noted ≡ s.noted → AreTrue (accounts_of more) (with_note w l) → IsListOf more (with_note w l)
  list_behind_note more same t =
      record {
        truth = t;
        known = λ k less.
            let lists : list_to more.noted (Some k) ≡ list_to s.noted (Some k) = ap (λ (ns : List Noted). list_to ns (Some k)) same in
            known_behind (list_to more.noted (Some k))
            (subst (λ (xs : List Entry). IsKnown w xs ⊎ (xs ≡ l.list)) (sym lists) (e.known k (subst (λ (ns : List Noted). k < length ns) same less)));
        first = λ m up.
            let f = e.first m up in
            record {
              at = f.at;
              within = subst (λ (ns : List Noted). f.at < length ns) (sym same) f.within;
              list = ap (λ (ns : List Noted). list_to ns (Some f.at)) same ∙ f.list;
            };
      }

-- what `note` promises
pub record NotesWith (s : Notes) (node : ℕ) (vote : Vote ℕ) (at : ℕ) (next : Notes) : Type 0 where
  pub truth : (w : GroupWorld) (l : Led) (list : List Entry) → AreTrue (accounts_of s) w → IsNoteOf s node vote at l → PartsAreFronts list (with_note w l) → AreTrue (accounts_of next) (with_note w l)
  pub noted : next.noted ≡ s.noted

pub leads : (s more next : Notes) (node : ℕ) (leading : Leading) (last : LogId ℕ) → leading.last ≡ Some last → (written : Option EntryPayload) (at : ℕ) → EndsAt s leading last written at more → NotesWith more node leading.vote at next → Leads s node leading written next
leads s more next node leading last is_last written at ends notes w l list is of_node fronts h =
    let e = ends w l is h in
    list_behind_note more node leading last is_last written w l is at e next notes.noted
    (notes.truth w l list e.truth (is_note more node leading last is_last written w l is at e of_node) fronts)

-- a leader has the set-up's entry at least
pub leads_with_none : (s : Notes) (node : ℕ) (leading : Leading) (written : Option EntryPayload) → leading.last ≡ None → Leads s node leading written s
leads_with_none s node leading written none w l list is of_node fronts h =
    let empty : l.list ≡ [] = subst (HasLast l.list) none is.told.last in
    let first = is.told.first is.membership is.set_up in
    absurd (let no : None ≡ Some (setup_entry is.membership) = sym (ap (λ (xs : List Entry). slice_get xs 0) empty) ∙ first in cc)

pub may_not_lead : (s : Notes) (node : ℕ) (said : Option Leading) (written : Option EntryPayload) → said ≡ None → MayLead s node said written s
may_not_lead s node said written none w notes list next fronts h =
    let nothing : notes ≡ [] = subst (λ (o : Option Leading). AreNext o written node w notes) none next in
    subst (λ (ls : List Led). IsListOf s (with_notes w ls)) (sym nothing) h

pub may_lead : (s next : Notes) (node : ℕ) (said : Option Leading) (x : Leading) (written : Option EntryPayload) → said ≡ Some x → Leads s node x written next → MayLead s node said written next
may_lead s next node said x written is leads_so w notes list are fronts h =
    let l : (y : Led) × (notes ≡ y ∷ []) × IsNext x written w y × (y.node ≡ node) = subst (λ (o : Option Leading). AreNext o written node w notes) is are in
    subst (λ (ls : List Led). IsListOf next (with_notes w ls)) (sym l.1)
    (leads_so w l.0 list l.2 l.3 (subst (λ (ls : List Led). PartsAreFronts list (with_notes w ls)) l.1 fronts) h)
