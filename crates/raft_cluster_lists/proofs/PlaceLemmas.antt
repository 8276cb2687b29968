-- What is kept of a group stands at its place, and goes on there.
use Rattle.std.specs.Prelude.{◌≡◌, ◌⊎◌, ◌==◌, ◌≤◌, ℕ, zero, suc, false, List, [], ◌∷◌, ◌++◌, drop, length, slice_get, take, Option, Some, None, refl}
use Rattle.std.proofs.Common.{inl, inr, sym, ap, ◌∙◌, arith, subst, ⊎_elim}
use Rattle.std.specs.Option.{option_or}
use Rattle.std.proofs.lemmas.List.Folds.{find-append}
use Rattle.std.proofs.lemmas.Bool.{cond-false, cond-true}
use Rattle.std.proofs.lemmas.Bool.Decides.{eqb_tells, nat_tests}
use Rattle.std.specs.BTreeMap.{BTreeMap, UpdatesBy, get, is_at}
use Rattle.std.specs.Ordering.{nat_cmp}
use Rattle.std.proofs.lemmas.List.{append-nil, drop_all, take_all}
use Rattle.std.proofs.lemmas.Option.{slice_get_cases, slice_get_past, slice_get_within}
use Rattle.raft_cluster_lists.specs.declared.kept.KeptGroup.{KeptGroup}
use Rattle.raft_cluster_lists.specs.Groups.{IsSameGroup, KeepsOn, kept_in}
use Rattle.raft_laws.proofs.BallotAgreement.{same_some, slice_get-append, slice_get_end}
use Rattle.raft_laws.proofs.BallotPut.{at_more}
use Rattle.raft_cluster_lists.specs.Places.{ArePlaces, EachGoesOn, IsKeptAt}

option_tells : {X : Type 0} (o : Option X) → (o ≡ None) ⊎ ((x : X) × (o ≡ Some x))
option_tells None = inl refl
option_tells (Some x) = inr (x, refl)

-- ---- groups that are found

pub found : (groups : List KeptGroup) (h : ℕ) (kept : KeptGroup) → kept_in groups h ≡ Some kept
    → (at : ℕ) × (slice_get groups at ≡ Some kept) × (kept.group ≡ h)
found [] h kept e = absurd (let no : None ≡ Some kept = e in cc)
found (x ∷ xs) h kept e =
    ⊎_elim
    (λ same.
    let here : Some x ≡ Some kept = sym (cond-true (x.group == h) (Some x) (kept_in xs h) same.0) ∙ e in
    let is : x ≡ kept = cc in
    (0, here, subst (λ (k : KeptGroup). k.group ≡ h) is same.1))
    (λ no. let r = found xs h kept (sym (cond-false (x.group == h) (Some x) (kept_in xs h) no.0) ∙ e) in (suc r.0, r.1, r.2))
    (eqb_tells x.group h)

none_found : (groups : List KeptGroup) (h at : ℕ) (kept : KeptGroup) → kept_in groups h ≡ None → slice_get groups at ≡ Some kept → kept.group ≡ h → ⊥
none_found [] h at kept none there same = let no : None ≡ Some kept = there in cc
none_found (x ∷ xs) h zero kept none there same =
    ⊎_elim
    (λ yes. let no : Some x ≡ None = sym (cond-true (x.group == h) (Some x) (kept_in xs h) yes.0) ∙ none in cc)
    (λ no. let here : Some x ≡ Some kept = there in let is : x ≡ kept = cc in no.1 (subst (λ (k : KeptGroup). k.group ≡ h) (sym is) same))
    (eqb_tells x.group h)
none_found (x ∷ xs) h (suc at) kept none there same =
    ⊎_elim
    (λ yes. let no : Some x ≡ None = sym (cond-true (x.group == h) (Some x) (kept_in xs h) yes.0) ∙ none in cc)
    (λ no. none_found xs h at kept (sym (cond-false (x.group == h) (Some x) (kept_in xs h) no.0) ∙ none) there same)
    (eqb_tells x.group h)

-- ---- places

module _ (places : ℕ → Option ℕ) (groups : List KeptGroup) (are : ArePlaces places groups) where
  pub kept_there : (at : ℕ) (kept : KeptGroup) → slice_get groups at ≡ Some kept → kept_in groups kept.group ≡ Some kept
  kept_there at kept there =
      ⊎_elim
      (λ none. absurd (none_found groups kept.group at kept none there refl))
      (λ some.
      let at_first = found groups kept.group some.0 some.1 in
      let one : places kept.group ≡ Some at = are.known kept.group at (record { kept = kept; there = there; of_group = refl }) in
      let other : places kept.group ≡ Some at_first.0 = are.known kept.group at_first.0 (record { kept = some.0; there = at_first.1; of_group = at_first.2 }) in
      let same : Some at_first.0 ≡ Some at = sym other ∙ one in
      let same_at : at_first.0 ≡ at = cc in
      some.1 ∙ sym at_first.1 ∙ ap (slice_get groups) same_at ∙ there)
      (option_tells (kept_in groups kept.group))

  pub kept_at : (h at : ℕ) → places h ≡ Some at → kept_in groups h ≡ slice_get groups at
  kept_at h at e =
      let k = are.there h at e in
      subst (λ (g : ℕ). kept_in groups g ≡ slice_get groups at) k.of_group (kept_there at k.kept k.there ∙ sym k.there)

  pub none_kept : (h : ℕ) → places h ≡ None → kept_in groups h ≡ None
  none_kept h e =
      ⊎_elim
      (λ none. none)
      (λ some.
      let at = found groups h some.0 some.1 in
      let here : places h ≡ Some at.0 = are.known h at.0 (record { kept = some.0; there = at.1; of_group = at.2 }) in
      absurd (let no : None ≡ Some at.0 = sym e ∙ here in cc))
      (option_tells (kept_in groups h))

  none_placed : (h : ℕ) → kept_in groups h ≡ None → places h ≡ None
  none_placed h none =
      ⊎_elim
      (λ e. e)
      (λ some.
      let k = are.there h some.0 some.1 in
      absurd (none_found groups h some.0 k.kept none k.there k.of_group))
      (option_tells (places h))

-- ---- each group goes on

pub old_at : (olds news : List KeptGroup) (goes : ℕ → KeptGroup → KeptGroup → Type 0) → EachGoesOn goes olds news
    → (at : ℕ) (new : KeptGroup) → slice_get news at ≡ Some new → (old : KeptGroup) × (slice_get olds at ≡ Some old)
old_at olds news goes on at new there =
    ⊎_elim
    (λ within. (within.0, within.2))
    (λ past.
    let far : length news ≤ at = omega (arith, past.0, on.size) in
    absurd (let no : Some new ≡ None = sym there ∙ slice_get_past news at far in cc))
    ((slice_get_cases olds at).1)

module _ (places : ℕ → Option ℕ) (olds news : List KeptGroup) (goes : ℕ → KeptGroup → KeptGroup → Type 0) (are : ArePlaces places olds) (on : EachGoesOn goes olds news) where
  pub places_stay : ArePlaces places news
  places_stay =
      record {
        there = λ h at e.
            let k = are.there h at e in
            let next = on.each at k.kept k.there in
            record { kept = next.new; there = next.there; of_group = next.of_group ∙ k.of_group };
        known = λ h at k.
            let old = old_at olds news goes on at k.kept k.there in
            let next = on.each at old.0 old.1 in
            let both : Some next.new ≡ Some k.kept = sym next.there ∙ k.there in
            let same : next.new ≡ k.kept = cc in
            are.known h at (record { kept = old.0; there = old.1; of_group = sym next.of_group ∙ ap (λ (x : KeptGroup). x.group) same ∙ k.of_group });
      }

  pub keeps_on : (h : ℕ) → KeepsOn (goes h) (kept_in olds h) (kept_in news h)
  keeps_on h =
      ⊎_elim
      (λ none.
      subst (λ (o : Option KeptGroup). KeepsOn (goes h) o (kept_in news h)) (sym none)
      (none_kept places news places_stay h (none_placed places olds are h none)))
      (λ some.
      let at = found olds h some.0 some.1 in
      let next = on.each at.0 some.0 at.1 in
      let of_group : next.new.group ≡ h = next.of_group ∙ at.2 in
      subst (λ (o : Option KeptGroup). KeepsOn (goes h) o (kept_in news h)) (sym some.1) (
        next.new,
        subst (λ (g : ℕ). kept_in news g ≡ Some next.new) of_group (kept_there places news places_stay at.0 next.new next.there),
        subst (λ (g : ℕ). goes g some.0 next.new) at.2 next.goes_on,
      ))
      (option_tells (kept_in olds h))

-- ---- a group more

-- a new group stands behind the others
module _ (places next : ℕ → Option ℕ) (groups : List KeptGroup) (new : KeptGroup) (are : ArePlaces places groups) (none : places new.group ≡ None) (here : next new.group ≡ Some (length groups))
    (others : (h : ℕ) → (h ≡ new.group → ⊥) → next h ≡ places h) where
  there_last : IsKeptAt (groups ++ new ∷ []) new.group (length groups)
  there_last = record { kept = new; there = slice_get_end groups new; of_group = refl }

  elsewhere : (h at : ℕ) → IsKeptAt groups h at → h ≡ new.group → ⊥
  elsewhere h at k same =
      let is : places h ≡ Some at = are.known h at k in
      let no : places h ≡ None = ap places same ∙ none in
      let f : None ≡ Some at = sym no ∙ is in cc

  pub places_after : ArePlaces next (groups ++ new ∷ [])
  places_after =
      record {
        there = λ h at e.
            ⊎_elim
            (λ same.
            let last : Some (length groups) ≡ Some at = sym here ∙ ap next (sym same.1) ∙ e in
            let is : length groups ≡ at = same_some last in
            subst (λ (i : ℕ). IsKeptAt (groups ++ new ∷ []) h i) is
            (subst (λ (g : ℕ). IsKeptAt (groups ++ new ∷ []) g (length groups)) (sym same.1) there_last))
            (λ other.
            let k = are.there h at (sym (others h other.1) ∙ e) in
            let within = slice_get_within groups at k.kept k.there in
            record { kept = k.kept; there = slice_get-append groups (new ∷ []) at within ∙ k.there; of_group = k.of_group })
            (eqb_tells h new.group);
        known = λ h at k.
            ⊎_elim
            (λ old.
            let was : IsKeptAt groups h at = record { kept = k.kept; there = old; of_group = k.of_group } in
            others h (elsewhere h at was) ∙ are.known h at was)
            (λ last.
            let same : h ≡ new.group = sym k.of_group ∙ ap (λ (x : KeptGroup). x.group) last.1 in
            ap next same ∙ here ∙ ap Some (sym last.0))
            (at_more groups new at k.kept k.there);
      }

pub places_same : (places next : ℕ → Option ℕ) (groups : List KeptGroup) → ((h : ℕ) → next h ≡ places h) → ArePlaces places groups → ArePlaces next groups
places_same places next groups same are =
    record {
      there = λ h at e. are.there h at (sym (same h) ∙ e);
      known = λ h at k. same h ∙ are.known h at k;
    }

apart : (h other : ℕ) → (other ≡ h → ⊥) → is_at (nat_cmp h) other ≡ false
apart h other differs = grind (arith, nat_tests)

-- so it is once it is put into the map of places
module _ (old new : BTreeMap ℕ ℕ) (groups : List KeptGroup) (h : ℕ) (kept : KeptGroup) (are : ArePlaces (get nat_cmp old) groups) (same : kept.group ≡ h)
    (none : get nat_cmp old h ≡ None) (put : UpdatesBy nat_cmp (nat_cmp h) old new (Some (length groups))) where
  none_of : get nat_cmp old kept.group ≡ None
  none_of = ap (get nat_cmp old) same ∙ none

  here_of : get nat_cmp new kept.group ≡ Some (length groups)
  here_of = ap (get nat_cmp new) same ∙ put.1

  others_of : (other : ℕ) → (other ≡ kept.group → ⊥) → get nat_cmp new other ≡ get nat_cmp old other
  others_of other differs = put.2 other (apart h other (λ is. differs (is ∙ sym same)))

  pub added_places : ArePlaces (get nat_cmp new) (groups ++ kept ∷ [])
  added_places = places_after (get nat_cmp old) (get nat_cmp new) groups kept are none_of here_of others_of

pub added_there : (groups : List KeptGroup) (h : ℕ) (kept : KeptGroup) → kept.group ≡ h → IsKeptAt (groups ++ kept ∷ []) h (length groups)
added_there groups h kept same = record { kept = kept; there = slice_get_end groups kept; of_group = same }

pub kept_on : (olds news : List KeptGroup) (goes : ℕ → KeptGroup → KeptGroup → Type 0) → EachGoesOn goes olds news → (h at : ℕ) → IsKeptAt olds h at → IsKeptAt news h at
kept_on olds news goes on h at k =
    let next = on.each at k.kept k.there in
    record { kept = next.new; there = next.there; of_group = next.of_group ∙ k.of_group }

pub keeps_itself : (o : Option KeptGroup) → KeepsOn IsSameGroup o o
keeps_itself None = refl
keeps_itself (Some kept) = (kept, refl, record { notes = record { accounts = refl; noted = refl }; stopped = λ node. refl })

pub keeps_same : (groups : List KeptGroup) (h : ℕ) → KeepsOn IsSameGroup (kept_in groups h) (kept_in groups h)
keeps_same groups h = keeps_itself (kept_in groups h)

-- a slice of all of a vector, put back
pub whole_slice : (old new : List KeptGroup) (n : ℕ) → n ≡ length old → length new ≡ length old → take n (new ++ drop (length new) old) ≡ new
whole_slice old new n all same =
    ap (λ (xs : List KeptGroup). take n (new ++ xs)) (drop_all (length new) old (omega (arith, same)))
    ∙ ap (take n) (append-nil new) ∙ take_all n new (omega (arith, all, same))

pub through_slice : (P : List KeptGroup → Type 0) (old new : List KeptGroup) (n : ℕ) → n ≡ length old → length new ≡ length old → P new → P (take n (new ++ drop (length new) old))
through_slice P old new n all same here = subst P (sym (whole_slice old new n all same)) here

pub added_here : (groups : List KeptGroup) (kept : KeptGroup) → kept_in groups kept.group ≡ None → kept_in (groups ++ kept ∷ []) kept.group ≡ Some kept
added_here groups kept none =
    find-append (λ (x : KeptGroup). x.group == kept.group) groups (kept ∷ [])
    ∙ ap (λ (o : Option KeptGroup). option_or o (kept_in (kept ∷ []) kept.group)) none
    ∙ ⊎_elim (λ same. cond-true (kept.group == kept.group) (Some kept) None same.0) (λ no. absurd (no.1 refl)) (eqb_tells kept.group kept.group)

or_none : (o : Option KeptGroup) → option_or o None ≡ o
or_none None = refl
or_none (Some x) = refl

pub added_elsewhere : (groups : List KeptGroup) (kept : KeptGroup) (h : ℕ) → (h ≡ kept.group → ⊥) → kept_in (groups ++ kept ∷ []) h ≡ kept_in groups h
added_elsewhere groups kept h differs =
    find-append (λ (x : KeptGroup). x.group == h) groups (kept ∷ [])
    ∙ ap (option_or (kept_in groups h)) (⊎_elim (λ same. absurd (differs (sym same.1))) (λ no. cond-false (kept.group == h) (Some kept) None no.0) (eqb_tells kept.group h))
    ∙ or_none (kept_in groups h)
