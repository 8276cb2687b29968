-- What is noted under each vote, where that under one has changed.
use Rattle.std.specs.Prelude.{◌≡◌, ◌⊎◌, ℕ, zero, suc, ◌==◌, ◌&&◌, ◌||◌, if◌then◌else◌, Bool, true, false, List, [], ◌∷◌, drop, slice_get, slice_set, Option, Some, None, refl}
use Rattle.std.proofs.Common.{inl, inr, sym, ap, ◌∙◌, subst, ⊎_elim}
use Rattle.std.proofs.lemmas.Bool.{cases_Bool, cond-false, cond-true}
use Rattle.raft_values.specs.declared.vote.Vote.{Vote}
use Rattle.raft_quorums.specs.Quorum.{is_quorum}
use Rattle.raft_group_step.specs.Values.{Entry, is_written_by, vote_eq}
use Rattle.raft_laws.proofs.BallotAgreement.{same_some}
use Rattle.raft_laws.proofs.VoteRanks.{vote_eq_same}
use Rattle.raft_laws.proofs.WorldLimits.{vote_itself}
use Rattle.raft_list_laws.specs.Accounts.{settled_of}
use Rattle.raft_list_laws.specs.Changes.{GoesOn}
use Rattle.raft_group_lists.specs.declared.notes.Noted.{Noted}
use Rattle.raft_group_lists.specs.declared.notes.Lead.{Lead}
use Rattle.raft_group_lists.specs.Notes.{AreWhole, AreWithin, IsLeadAt, IsWithin, Learns, SameLead, SameLeads, accounts_of, end_or, entries_at, has_reached, is_settled, last_in, later_or, lead_in, list_to, notes_of, reached_in, reaches, settled_by}

pub vote_eq_turned : (a b : Vote ℕ) → vote_eq a b ≡ vote_eq b a
vote_eq_turned a b =
    ⊎_elim
    (λ same. ap (λ (v : Vote ℕ). vote_eq v b) (vote_eq_same a b same) ∙ ap (vote_eq b) (sym (vote_eq_same a b same)))
    (λ apart.
    ⊎_elim
    (λ same. absurd (let e : true ≡ false = sym (vote_itself a) ∙ ap (vote_eq a) (sym (vote_eq_same b a same)) ∙ apart in cc))
    (λ other. apart ∙ sym other)
    (cases_Bool (vote_eq b a)))
    (cases_Bool (vote_eq a b))

pub lead_found : (xs : List Lead) (at : ℕ) (x : Lead) → slice_get xs at ≡ Some x → lead_in (drop (suc at) xs) x.vote ≡ None → lead_in xs x.vote ≡ Some x
lead_found [] at x e none = absurd (let f : None ≡ Some x = e in cc)
lead_found (z ∷ zs) zero x e none =
    ap (λ o. later_or o (if vote_eq z.vote x.vote then Some z else None)) none
    ∙ ap (λ (y : Lead). if vote_eq y.vote x.vote then Some y else None) (same_some e)
    ∙ cond-true (vote_eq x.vote x.vote) (Some x) None (vote_itself x.vote)
lead_found (z ∷ zs) (suc at) x e none = ap (λ o. later_or o (if vote_eq z.vote x.vote then Some z else None)) (lead_found zs at x e none)

pub lead_set : (xs : List Lead) (at : ℕ) (x y : Lead) → slice_get xs at ≡ Some x → y.vote ≡ x.vote → lead_in (drop (suc at) xs) x.vote ≡ None → (other : Vote ℕ) → lead_in (slice_set xs at y) other ≡ (if vote_eq x.vote other then Some y else lead_in xs other)
lead_set [] at x y e same none other = absurd (let f : None ≡ Some x = e in cc)
lead_set (z ∷ zs) zero x y e same none other =
    ap (λ (v : Vote ℕ). later_or (lead_in zs other) (if vote_eq v other then Some y else None)) same
    ∙ ⊎_elim
    (λ yes.
    ap (λ b. later_or (lead_in zs other) (if b then Some y else None)) yes
    ∙ ap (λ o. later_or o (Some y)) (ap (lead_in zs) (sym (vote_eq_same x.vote other yes)) ∙ none)
    ∙ sym (cond-true (vote_eq x.vote other) (Some y) (lead_in (z ∷ zs) other) yes))
    (λ apart.
    ap (λ b. later_or (lead_in zs other) (if b then Some y else None)) apart
    ∙ ap (λ b. later_or (lead_in zs other) (if b then Some z else None)) (sym (ap (λ (u : Lead). vote_eq u.vote other) (same_some e) ∙ apart))
    ∙ sym (cond-false (vote_eq x.vote other) (Some y) (lead_in (z ∷ zs) other) apart))
    (cases_Bool (vote_eq x.vote other))
lead_set (z ∷ zs) (suc at) x y e same none other =
    ap (λ o. later_or o (if vote_eq z.vote other then Some z else None)) (lead_set zs at x y e same none other)
    ∙ through (vote_eq x.vote other)
  where
    through : (b : Bool) → later_or (if b then Some y else lead_in zs other) (if vote_eq z.vote other then Some z else None) ≡ (if b then Some y else lead_in (z ∷ zs) other)
    through true = refl
    through false = refl

pub set_cases : {A : Type 0} (xs : List A) (at : ℕ) (y : A) (i : ℕ) (l : A) → slice_get (slice_set xs at y) i ≡ Some l → (l ≡ y) ⊎ (slice_get xs i ≡ Some l)
set_cases [] at y i l e = inr e
set_cases (z ∷ zs) zero y zero l e = inl (sym (same_some e))
set_cases (z ∷ zs) zero y (suc i) l e = inr e
set_cases (z ∷ zs) (suc at) y zero l e = inr e
set_cases (z ∷ zs) (suc at) y (suc i) l e = set_cases zs at y i l e

-- what is noted under the votes is noted, also with one more that has no list
pub middle_within : (noted : List Noted) (leads middle : List Lead) → ((i : ℕ) (lead : Lead) → slice_get leads i ≡ Some lead → IsWithin noted lead.last) → ((i : ℕ) (lead : Lead) → slice_get middle i ≡ Some lead → (slice_get leads i ≡ Some lead) ⊎ (lead.last ≡ None)) → (i : ℕ) (lead : Lead) → slice_get middle i ≡ Some lead → IsWithin noted lead.last
middle_within noted leads middle w lasts i lead e =
    ⊎_elim
    (λ old. w i lead old)
    (λ none. λ k p. absurd (let no : None ≡ Some k = sym none ∙ p in cc))
    (lasts i lead e)

pub end_some : (last known end : Option ℕ) (k : ℕ) → last ≡ Some k → end ≡ last → end ≡ end_or last known
end_some last known end k is e = e ∙ is ∙ sym (ap (λ o. end_or o known) is)

pub end_none : (last known end : Option ℕ) → last ≡ None → end ≡ known → end ≡ end_or last known
end_none last known end is e = e ∙ sym (ap (λ o. end_or o known) is)

-- ---- the change under one vote

module _ (voters : List (List ℕ)) (noted : List Noted) (leads middle : List Lead) (listed after : List ℕ) (vote : Vote ℕ) (at : ℕ) (f : IsLeadAt middle vote at) (kept : SameLeads leads middle) (y : Lead) (of_vote : y.vote ≡ f.lead.vote) where
  abbrev new_leads : List Lead
  new_leads = slice_set middle at y

  none_behind : lead_in (drop (suc at) middle) f.lead.vote ≡ None
  none_behind = ap (lead_in (drop (suc at) middle)) f.of_vote ∙ f.is_last

  -- what is noted under a vote then
  found : (other : Vote ℕ) → lead_in new_leads other ≡ (if vote_eq other vote then Some y else lead_in middle other)
  found other =
      lead_set middle at f.lead y f.there of_vote none_behind other
      ∙ ap (λ b. if b then Some y else lead_in middle other) (ap (λ (v : Vote ℕ). vote_eq v other) f.of_vote ∙ vote_eq_turned vote other)

  known : lead_in middle vote ≡ Some f.lead
  known = subst (λ (v : Vote ℕ). lead_in middle v ≡ Some f.lead) f.of_vote (lead_found middle at f.lead f.there none_behind)

  here : lead_in new_leads vote ≡ Some y
  here = found vote ∙ cond-true (vote_eq vote vote) (Some y) (lead_in middle vote) (vote_itself vote)

  -- a change that changes nothing
  pub unchanged : SameLead f.lead y → SameLeads leads new_leads
  unchanged s =
      record {
        last = λ other. same (λ (o : Option Lead). last_in o) s.last other ∙ kept.last other;
        reached = λ other place node.
            same (λ (o : Option Lead). has_reached (reached_in o) place node) (s.reached place node) other ∙ kept.reached other place node;
      }
    where
      same : {A : Type 0} (g : Option Lead → A) → g (Some y) ≡ g (Some f.lead) → (other : Vote ℕ) → g (lead_in new_leads other) ≡ g (lead_in middle other)
      same g e other =
          ap g (found other)
          ∙ ⊎_elim
          (λ yes.
          ap g (cond-true (vote_eq other vote) (Some y) (lead_in middle other) yes)
          ∙ e ∙ ap g (sym known ∙ ap (lead_in middle) (sym (vote_eq_same other vote yes))))
          (λ apart. ap g (cond-false (vote_eq other vote) (Some y) (lead_in middle other) apart))
          (cases_Bool (vote_eq other vote))

  pub whole_then : AreWhole (notes_of voters noted leads listed) → ((i : ℕ) (lead : Lead) → slice_get middle i ≡ Some lead → (slice_get leads i ≡ Some lead) ⊎ (lead.last ≡ None)) → IsWithin noted y.last → AreWithin noted after → AreWhole (notes_of voters noted new_leads after)
  whole_then w lasts within listed_within =
      record {
        joined = w.joined;
        leads = λ i lead e.
            ⊎_elim
            (λ is. subst (λ (l : Lead). IsWithin noted l.last) (sym is) within)
            (λ old. middle_within noted leads middle w.leads lasts i lead old)
            (set_cases middle at y i lead e);
        listed = listed_within;
      }

  -- what is settled under the vote then
  settled_here : settled_of (accounts_of (notes_of voters noted new_leads after)) vote ≡ settled_by (is_settled voters y) (list_to noted y.last)
  settled_here =
      ap (λ (o : Option Lead). settled_by (λ (e : Entry). is_written_by vote.leader_id e && is_quorum voters (has_reached (reached_in o) e.log_id.index)) (list_to noted (last_in o))) here
      ∙ ap (λ (v : Vote ℕ). settled_by (λ (e : Entry). is_written_by v.leader_id e && is_quorum voters (has_reached y.reached.items e.log_id.index)) (list_to noted y.last)) (sym (of_vote ∙ f.of_vote))

  pub learned : (node : ℕ) (last place : Option ℕ) → y.last ≡ end_or last f.lead.last → ((p n : ℕ) → has_reached y.reached.items p n ≡ (has_reached f.lead.reached.items p n || (node == n && reaches place p))) → GoesOn (entries_at noted listed) (settled_by (is_settled voters y) (list_to noted y.last)) (entries_at noted after) → Learns (notes_of voters noted leads listed) node vote last place (notes_of voters noted new_leads after)
  learned node last place ends more on =
      record {
        ends = λ other.
            ap last_in (found other)
            ∙ ⊎_elim
            (λ yes.
            ap last_in (cond-true (vote_eq other vote) (Some y) (lead_in middle other) yes)
            ∙ ends ∙ ap (end_or last) (ap last_in (sym known) ∙ kept.last vote)
            ∙ sym (cond-true (vote_eq other vote) (end_or last (last_in (lead_in leads vote))) (last_in (lead_in leads other)) yes))
            (λ apart.
            ap last_in (cond-false (vote_eq other vote) (Some y) (lead_in middle other) apart)
            ∙ kept.last other
            ∙ sym (cond-false (vote_eq other vote) (end_or last (last_in (lead_in leads vote))) (last_in (lead_in leads other)) apart))
            (cases_Bool (vote_eq other vote));
        accepts = λ other p n.
            ap (λ o. has_reached (reached_in o) p n) (found other)
            ∙ ⊎_elim
            (λ yes.
            ap (λ o. has_reached (reached_in o) p n) (cond-true (vote_eq other vote) (Some y) (lead_in middle other) yes)
            ∙ more p n
            ∙ ap (λ b. b || (node == n && reaches place p))
            (ap (λ o. has_reached (reached_in o) p n) (sym known ∙ ap (lead_in middle) (sym (vote_eq_same other vote yes))) ∙ kept.reached other p n)
            ∙ ap (λ b. has_reached (reached_in (lead_in leads other)) p n || (b && (node == n && reaches place p))) (sym yes))
            (λ apart.
            ap (λ o. has_reached (reached_in o) p n) (cond-false (vote_eq other vote) (Some y) (lead_in middle other) apart)
            ∙ kept.reached other p n
            ∙ sym (or_none (has_reached (reached_in (lead_in leads other)) p n) (vote_eq other vote) (node == n && reaches place p) apart))
            (cases_Bool (vote_eq other vote));
        list = subst (λ es. GoesOn (entries_at noted listed) es (entries_at noted after)) (sym settled_here) on;
      }
    where
      or_none : (a b c : Bool) → b ≡ false → (a || (b && c)) ≡ a
      or_none true b c e = refl
      or_none false b c e = ap (λ x. x && c) e
