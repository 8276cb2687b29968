-- What is noted stays as it is where one entry more is noted.
use Rattle.std.specs.Prelude.{◌≡◌, ℕ, zero, suc, ◌+◌, ◌<◌, ◌≤◌, if◌then◌else◌, Bool, true, false, List, [], ◌∷◌, ◌++◌, length, slice_get, Option, Some, None, refl}
use Rattle.std.proofs.Common.{sym, ap, ap₂, ◌∙◌, subst, arith, ⊎_elim, length-append}
use Rattle.std.proofs.Math.Path.{fun_ext}
use Rattle.std.proofs.lemmas.Bool.{cases_lt}
use Rattle.std.proofs.lemmas.Option.{slice_get_within}
use Rattle.raft_values.specs.declared.vote.Vote.{Vote}
use Rattle.raft_group_step.specs.Values.{Entry, vote_eq}
use Rattle.raft_laws.proofs.BallotAgreement.{same_some, slice_get-append, slice_get_end, some_at}
use Rattle.raft_laws.proofs.Shapes.{slice_after}
use Rattle.raft_list_laws.specs.Accounts.{Accounts}
use Rattle.raft_group_lists.specs.declared.notes.Noted.{Noted}
use Rattle.raft_group_lists.specs.declared.notes.Lead.{Lead}
use Rattle.raft_group_lists.specs.Notes.{AreJoined, AreWhole, AreWithin, IsJoined, IsWithin, Notes, accounts_of, before_in, count_in, count_to, entries_at, entry_in, front, has_reached, last_in, later_or, lead_in, list_to, reached_in}
use Rattle.raft_group_lists.proofs.WalkLemmas.{before_within, list_step}

pub count_low : (noted : List Noted) (joined : AreJoined noted) (at : Option ℕ) → IsWithin noted at → count_to noted at ≤ length noted
count_low noted joined None w = omega arith
count_low noted joined (Some k) w =
    let l = w k refl in
    let x = some_at noted k l in
    let low = (joined k x.0 x.1).low in
    let count = ap count_in x.1 in
    omega arith

-- what is noted under a vote is noted
pub last_within : (noted : List Noted) (xs : List Lead) → ((i : ℕ) (lead : Lead) → slice_get xs i ≡ Some lead → IsWithin noted lead.last) → (vote : Vote ℕ) → IsWithin noted (last_in (lead_in xs vote))
last_within noted [] w vote = λ k e. absurd (let no : None ≡ Some k = e in cc)
last_within noted (x ∷ xs) w vote = go (lead_in xs vote) (last_within noted xs (λ i lead e. w (suc i) lead e) vote) (vote_eq x.vote vote)
  where
    go : (o : Option Lead) → IsWithin noted (last_in o) → (b : Bool) → IsWithin noted (last_in (later_or o (if b then Some x else None)))
    go None v true = w 0 x refl
    go None v false = v
    go (Some y) v b = v

module _ (noted : List Noted) (x : Noted) (joined : AreJoined noted) where
  abbrev more : List Noted
  more = noted ++ x ∷ []

  kept : (k : ℕ) → k < length noted → slice_get more k ≡ slice_get noted k
  kept k l = slice_get-append noted (x ∷ []) k l

  count_kept : (at : Option ℕ) → IsWithin noted at → count_to more at ≡ count_to noted at
  count_kept None w = refl
  count_kept (Some k) w = ap count_in (kept k (w k refl))

  front_kept : (n : ℕ) (at : Option ℕ) → IsWithin noted at → front more n at ≡ front noted n at
  front_kept zero at w = refl
  front_kept (suc n) None w = refl
  front_kept (suc n) (Some k) w =
      let l = w k refl in
      let y = some_at noted k l in
      let before = subst (λ (o : Option Noted). IsWithin noted (before_in o)) (sym y.1) (before_within noted joined k y.0 y.1 l) in
      ap (λ o. front more n (before_in o) ++ entry_in o) (kept k l)
      ∙ ap (λ es. es ++ entry_in (slice_get noted k)) (front_kept n (before_in (slice_get noted k)) before)

  pub list_kept : (at : Option ℕ) → IsWithin noted at → list_to more at ≡ list_to noted at
  list_kept at w = ap (λ n. front more n at) (count_kept at w) ∙ front_kept (count_to noted at) at w

  pub entries_kept : (ks : List ℕ) → AreWithin noted ks → entries_at more ks ≡ entries_at noted ks
  entries_kept [] w = refl
  entries_kept (k ∷ ks) w = ap₂ (λ (o : Option Noted) (es : List Entry). entry_in o ++ es) (kept k (w 0 k refl)) (entries_kept ks (λ i j e. w (suc i) j e))

  pub within_more : (at : Option ℕ) → IsWithin noted at → IsWithin more at
  within_more at w k e = let l = w k e in let size = length-append noted (x ∷ []) in omega arith

  pub all_within_more : (ks : List ℕ) → AreWithin noted ks → AreWithin more ks
  all_within_more ks w i k e = let l = w i k e in let size = length-append noted (x ∷ []) in omega arith

  module _ (count : x.count ≡ suc (count_to noted x.before)) (within : IsWithin noted x.before) where
    new_joined : IsJoined more (length noted) x
    new_joined =
        let low = count_low noted joined x.before within in
        record {
          count = count ∙ ap suc (sym (count_kept x.before within));
          low = omega arith;
          before = within;
        }

    pub joined_more : AreJoined more
    joined_more k y e =
        ⊎_elim
        (λ l.
        let there = sym (kept k l) ∙ e in
        let j = joined k y there in
        record { count = j.count ∙ ap suc (sym (count_kept y.before (before_within noted joined k y there l))); low = j.low; before = j.before })
        (λ l.
        let inside = slice_get_within more k y e in
        let size = length-append noted (x ∷ []) in
        let here : length noted + 0 ≡ k = omega arith in
        let at : length noted ≡ k = omega arith in
        let is : x ≡ y = same_some (sym (slice_after noted (x ∷ []) 0) ∙ ap (slice_get more) here ∙ e) in
        subst (λ (z : Noted). IsJoined more k z) is (subst (λ (n : ℕ). IsJoined more n x) at new_joined))
        (cases_lt k (length noted))

    pub new_list : list_to more (Some (length noted)) ≡ list_to noted x.before ++ x.entry ∷ []
    new_list = list_step more joined_more (length noted) x (slice_get_end noted x) ∙ ap (λ es. es ++ x.entry ∷ []) (list_kept x.before within)

-- the notes with one entry more
abbrev pub with_noted : Notes → Noted → Notes
with_noted s x = record { voters = s.voters; noted = s.noted ++ x ∷ []; leads = s.leads; listed = s.listed }

pub accounts_kept : (s : Notes) (whole : AreWhole s) (x : Noted) → accounts_of s ≡ accounts_of (with_noted s x)
accounts_kept s whole x =
    ap₂
    (λ (latest : Vote ℕ → List Entry) (list : List Entry). accounts-with latest list)
    (fun_ext (λ (vote : Vote ℕ). sym (list_kept s.noted x whole.joined (last_in (lead_in s.leads vote)) (last_within s.noted s.leads whole.leads vote))))
    (sym (entries_kept s.noted x whole.joined s.listed whole.listed))
  where
    accounts-with : (Vote ℕ → List Entry) → List Entry → Accounts
    accounts-with latest list =
        record {
          voters = s.voters;
          latest = latest;
          reached = λ vote place node. has_reached (reached_in (lead_in s.leads vote)) place node;
          list = list;
        }

pub whole_more : (s : Notes) (whole : AreWhole s) (x : Noted) → x.count ≡ suc (count_to s.noted x.before) → IsWithin s.noted x.before → AreWhole (with_noted s x)
whole_more s whole x count within =
    record {
      joined = joined_more s.noted x whole.joined count within;
      leads = λ i lead e. within_more s.noted x whole.joined lead.last (whole.leads i lead e);
      listed = all_within_more s.noted x whole.joined s.listed whole.listed;
    }
