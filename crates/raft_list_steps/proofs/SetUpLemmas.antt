-- A set-up is noted.
use Rattle.std.specs.Prelude.{◌≡◌, ℕ, ◌<◌, List, [], length, Option, Some, None, refl}
use Rattle.std.proofs.Common.{inl, inr, sym, ap, ◌∙◌, subst, ⊎_elim}
use Rattle.raft_group_step.specs.Values.{Entry, Membership}
use Rattle.raft_laws.specs.GroupWorld.{GroupWorld}
use Rattle.raft_laws.proofs.BallotAgreement.{same_some}
use Rattle.raft_list_laws.specs.Accounts.{AreTrue}
use Rattle.raft_list_laws.specs.Changes.{with_setup}
use Rattle.raft_group_lists.specs.declared.notes.Noted.{Noted}
use Rattle.raft_group_lists.specs.Notes.{Notes, accounts_of, list_to}
use Rattle.raft_list_steps.specs.declared.report.SetUp.{SetUp}
use Rattle.raft_list_steps.specs.Lists.{HasFirst, IsKnown, IsListOf, setup_entry}
use Rattle.raft_list_steps.specs.Reports.{SaysSetUp}
use Rattle.raft_list_steps.specs.Steps.{SetsUp, with_first}
use Rattle.raft_list_steps.proofs.EndLemmas.{IsWritten, written_cases, written_within}

pub sets_up_nothing : (s : Notes) (said : Option SetUp) → said ≡ None → SetsUp s said s
sets_up_nothing s said none w first says unled h =
    let nothing : first ≡ None = subst (λ (o : Option SetUp). SaysSetUp o first) none says in
    subst (λ (o : Option Membership). IsListOf s (with_first w o)) (sym nothing) h

pub record SetsUpWith (s : Notes) (voters : List (List ℕ)) (next : Notes) : Type 0 where
  pub truth : (w : GroupWorld) (m : Membership) → AreTrue (accounts_of s) w → w.led ≡ [] → m.configs ≡ voters → AreTrue (accounts_of next) (with_setup w m)
  pub noted : next.noted ≡ s.noted

module _ (s more next : Notes) (x : SetUp) (at : ℕ) (is : IsWritten s (setup_entry x.membership) None at more) (up : SetsUpWith more x.voters next) where
  same_list : (k : ℕ) → list_to next.noted (Some k) ≡ list_to more.noted (Some k)
  same_list k = ap (λ (ns : List Noted). list_to ns (Some k)) up.noted

  same_within : (k : ℕ) → k < length next.noted → k < length more.noted
  same_within k less = subst (λ (ns : List Noted). k < length ns) up.noted less

  the_first : HasFirst next x.membership
  the_first =
      record {
        at = at;
        within = subst (λ (ns : List Noted). at < length ns) (sym up.noted) (written_within s (setup_entry x.membership) None at more is);
        list = same_list at ∙ is.list;
      }

  known_still : (w : GroupWorld) → w.setup ≡ None → (list : List Entry) → IsKnown w list → IsKnown (with_setup w x.membership) list
  known_still w before list known =
      ⊎_elim
      (λ k. inl (record { led = k.led; among = k.among; front = k.front }))
      (λ k. absurd (let no : None ≡ Some k.membership = sym before ∙ k.set_up in cc))
      known

  pub sets_up : (said : Option SetUp) → said ≡ Some x → SetsUp s said next
  sets_up said is_some w first says unled h =
      let told : (first ≡ Some x.membership) × (x.voters ≡ x.membership.configs) = subst (λ (o : Option SetUp). SaysSetUp o first) is_some says in
      let none = unled x.membership told.0 in
      let here : IsListOf next (with_setup w x.membership) =
      record {
        truth = up.truth w x.membership (is.truth w h.truth) none.1 (sym told.1);
        known = λ k less.
            ⊎_elim
            (λ old.
            known_still w none.0 (list_to next.noted (Some k))
            (subst (IsKnown w) (sym (same_list k ∙ is.others k old)) (h.known k old)))
            (λ e.
            inr
            (record {
              membership = x.membership;
              set_up = refl;
              alone = ap (λ (n : ℕ). list_to next.noted (Some n)) e ∙ same_list at ∙ is.list;
            }))
            (written_cases s (setup_entry x.membership) None at more is k (same_within k less));
        first = λ m e. subst (HasFirst next) (same_some e) the_first;
      }
      in
      subst (λ (o : Option Membership). IsListOf next (with_first w o)) (sym told.0) here
