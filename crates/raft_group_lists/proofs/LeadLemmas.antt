-- One vote more that is noted, and one node that has accepted more.
use Rattle.std.specs.Prelude.{◌≡◌, ◌⊎◌, ℕ, zero, suc, ◌+◌, ◌==◌, ◌&&◌, ◌||◌, if◌then◌else◌, Bool, true, false, List, [], ◌∷◌, ◌++◌, length, slice_get, slice_set, Option, Some, None, refl}
use Rattle.std.specs.List.{list_any}
use Rattle.std.proofs.Common.{inl, inr, sym, ap, ap₂, ◌∙◌, arith, ⊎_elim, length-append}
use Rattle.std.proofs.lemmas.Bool.{cases_Bool, cases_lt, cond-false, cond-true}
use Rattle.std.proofs.lemmas.List.{drop_all}
use Rattle.std.proofs.lemmas.Option.{slice_get_within}
use Rattle.raft_values.specs.declared.vote.Vote.{Vote}
use Rattle.raft_group_step.specs.Values.{vote_eq}
use Rattle.raft_laws.proofs.BallotAgreement.{same_some, slice_get-append, slice_get_end}
use Rattle.raft_laws.proofs.Shapes.{slice_after}
use Rattle.raft_laws.proofs.VoteRanks.{vote_eq_same}
use Rattle.raft_list_laws.proofs.Keeping.{or_last, or_middle}
use Rattle.raft_group_lists.specs.declared.notes.Lead.{Lead}
use Rattle.raft_group_lists.specs.declared.notes.Reached.{Reached}
use Rattle.raft_group_lists.specs.Notes.{IsLeadAt, SameLeads, has_reached, last_in, later_or, lead_in, reached_in, reaches}

-- ---- a vote more

later_none : (o : Option Lead) → later_or o None ≡ o
later_none None = refl
later_none (Some x) = refl

later_then : (a b c : Option Lead) → later_or (later_or a b) c ≡ later_or a (later_or b c)
later_then None b c = refl
later_then (Some x) b c = refl

pub lead_end : (xs : List Lead) (y : Lead) (vote : Vote ℕ) → lead_in (xs ++ y ∷ []) vote ≡ later_or (if vote_eq y.vote vote then Some y else None) (lead_in xs vote)
lead_end [] y vote = sym (later_none (if vote_eq y.vote vote then Some y else None))
lead_end (x ∷ xs) y vote =
    ap (λ o. later_or o (if vote_eq x.vote vote then Some x else None)) (lead_end xs y vote)
    ∙ later_then (if vote_eq y.vote vote then Some y else None) (lead_in xs vote) (if vote_eq x.vote vote then Some x else None)

module _ (xs : List Lead) (y : Lead) (new : lead_in xs y.vote ≡ None) where
  end_there : slice_get (xs ++ y ∷ []) (length xs) ≡ Some y
  end_there = slice_get_end xs y

  pub end_is_lead : IsLeadAt (xs ++ y ∷ []) y.vote (length xs)
  end_is_lead =
      let size = length-append xs (y ∷ []) in
      record {
        lead = y;
        there = end_there;
        of_vote = refl;
        is_last = ap (λ ls. lead_in ls y.vote) (drop_all (suc (length xs)) (xs ++ y ∷ []) (omega arith));
      }

  -- what is noted under a vote behind it, where nothing is noted under the new one yet
  end_same : {A : Type 0} (f : Option Lead → A) → f (Some y) ≡ f None → (vote : Vote ℕ) → f (lead_in (xs ++ y ∷ []) vote) ≡ f (lead_in xs vote)
  end_same f empty vote =
      ap f (lead_end xs y vote)
      ∙ ⊎_elim
      (λ same.
      ap (λ (o : Option Lead). f (later_or o (lead_in xs vote))) (cond-true (vote_eq y.vote vote) (Some y) None same)
      ∙ empty ∙ ap f (sym new ∙ ap (lead_in xs) (vote_eq_same y.vote vote same)))
      (λ other. ap (λ (o : Option Lead). f (later_or o (lead_in xs vote))) (cond-false (vote_eq y.vote vote) (Some y) None other))
      (cases_Bool (vote_eq y.vote vote))

  pub end_changes_nothing : y.last ≡ None → y.reached.items ≡ [] → SameLeads xs (xs ++ y ∷ [])
  end_changes_nothing last reached =
      record {
        last = λ vote. end_same last_in last vote;
        reached = λ vote place node. end_same (λ (o : Option Lead). has_reached (reached_in o) place node) (ap (λ rs. has_reached rs place node) reached) vote;
      }

pub end_cases : (xs : List Lead) (y : Lead) (i : ℕ) (lead : Lead) → slice_get (xs ++ y ∷ []) i ≡ Some lead → (slice_get xs i ≡ Some lead) ⊎ (y ≡ lead)
end_cases xs y i lead e =
    ⊎_elim
    (λ l. inl (sym (slice_get-append xs (y ∷ []) i l) ∙ e))
    (λ l.
    let within = slice_get_within (xs ++ y ∷ []) i lead e in
    let size = length-append xs (y ∷ []) in
    let here : length xs + 0 ≡ i = omega arith in
    inr (same_some (sym (slice_after xs (y ∷ []) 0) ∙ ap (slice_get (xs ++ y ∷ [])) here ∙ e)))
    (cases_lt i (length xs))

pub lasts_of_end : (xs : List Lead) (y : Lead) → y.last ≡ None → (i : ℕ) (lead : Lead) → slice_get (xs ++ y ∷ []) i ≡ Some lead → (slice_get xs i ≡ Some lead) ⊎ (lead.last ≡ None)
lasts_of_end xs y none i lead e =
    ⊎_elim (λ old. inl old) (λ is. inr (ap (λ (x : Lead). x.last) (sym is) ∙ none)) (end_cases xs y i lead e)

-- ---- a node that has accepted more

pub any_set : {A : Type 0} (p : A → Bool) (xs : List A) (i : ℕ) (x y : A) (b : Bool) → slice_get xs i ≡ Some x → p y ≡ (p x || b) → list_any p (slice_set xs i y) ≡ (list_any p xs || b)
any_set p [] i x y b e t = absurd (let no : None ≡ Some x = e in cc)
any_set p (z ∷ zs) zero x y b e t =
    let same = same_some e in
    ap (λ c. c || list_any p zs) (t ∙ ap (λ u. p u || b) (sym same)) ∙ or_middle (p z) (list_any p zs) b
any_set p (z ∷ zs) (suc i) x y b e t =
    ap (λ c. p z || c) (any_set p zs i x y b e t) ∙ or_last (p z) (list_any p zs) b

and_spread : (a r s : Bool) → (a && (r || s)) ≡ ((a && r) || (a && s))
and_spread true r s = refl
and_spread false r s = refl

pub reached_more : (xs : List Reached) (i : ℕ) (x y : Reached) (node : ℕ) (place : Option ℕ) → slice_get xs i ≡ Some x → x.node ≡ node → y.node ≡ x.node → ((at : ℕ) → reaches y.place at ≡ (reaches x.place at || reaches place at)) → (at n : ℕ) → has_reached (slice_set xs i y) at n ≡ (has_reached xs at n || (node == n && reaches place at))
reached_more xs i x y node place there of same more at n =
    any_set (λ (one : Reached). one.node == n && reaches one.place at) xs i x y (node == n && reaches place at) there
    (ap₂ (λ (m : ℕ) (b : Bool). m == n && b) same (more at)
    ∙ and_spread (x.node == n) (reaches x.place at) (reaches place at)
    ∙ ap (λ (m : ℕ). (x.node == n && reaches x.place at) || (m == n && reaches place at)) of)
