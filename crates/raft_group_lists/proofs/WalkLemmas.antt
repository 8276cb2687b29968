-- Walks along what is noted, and what is settled of a list with one entry more.
use Rattle.std.specs.Prelude.{◌≡◌, ℕ, zero, suc, ◌+◌, ◌-◌, ◌<◌, ◌≤◌, if◌then◌else◌, Bool, true, false, List, [], ◌∷◌, ◌++◌, length, take, drop, slice_get, slice_set, Option, Some, None, MatchOption, refl}
use Rattle.std.proofs.Common.{get_or, sym, ap, ◌∙◌, subst, arith, length-append, length-take-le, take_all, append_assoc}
use Rattle.std.proofs.lemmas.Bool.{cond-false, cond-true}
use Rattle.std.proofs.lemmas.List.{drop-set, take-append-le}
use Rattle.std.proofs.Math.Seq.{drop-append_seam}
use Rattle.std.proofs.lemmas.Option.{slice_get_read}
use Rattle.raft_values.specs.declared.log_id.LogId.{LogId}
use Rattle.raft_group_step.specs.Values.{Entry}
use Rattle.raft_laws.specs.Settled.{count_to_last}
use Rattle.raft_laws.proofs.BallotAgreement.{same_some, some_at}
use Rattle.raft_laws.proofs.Counts.{count_from}
use Rattle.raft_group_lists.specs.declared.notes.Noted.{Noted}
use Rattle.raft_group_lists.specs.Notes.{AreJoined, AreWithin, EndsWith, IsEnded, IsNotedAt, IsWithin, before_in, count_in, count_to, entries_at, entry_in, front, list_to, settled_by}

module _ (noted : List Noted) (joined : AreJoined noted) where
  pub list_step : (k : ℕ) (x : Noted) → slice_get noted k ≡ Some x → list_to noted (Some k) ≡ list_to noted x.before ++ x.entry ∷ []
  list_step k x e =
      ap (λ n. front noted n (Some k)) (ap count_in e ∙ (joined k x e).count)
      ∙ ap (λ o. front noted (count_to noted x.before) (before_in o) ++ entry_in o) e

  pub before_within : (k : ℕ) (x : Noted) → slice_get noted k ≡ Some x → k < length noted → IsWithin noted x.before
  before_within k x e l = λ j f. let less = (joined k x e).before j f in omega arith

  sized : (n : ℕ) (at : Option ℕ) → IsWithin noted at → count_to noted at ≤ n → length (list_to noted at) ≡ count_to noted at
  sized n None w le = refl
  sized zero (Some k) w le =
      let x = some_at noted k (w k refl) in
      let c : count_in (slice_get noted k) ≡ suc (count_to noted x.0.before) = ap count_in x.1 ∙ (joined k x.0 x.1).count in
      absurd (omega arith)
  sized (suc n) (Some k) w le =
      let x = some_at noted k (w k refl) in
      let c : count_in (slice_get noted k) ≡ suc (count_to noted x.0.before) = ap count_in x.1 ∙ (joined k x.0 x.1).count in
      let rest = sized n x.0.before (before_within k x.0 x.1 (w k refl)) (omega arith) in
      let size = ap length (list_step k x.0 x.1) ∙ length-append (list_to noted x.0.before) (x.0.entry ∷ []) in
      omega arith

  -- a list has as many entries as is noted
  pub list_size : (at : Option ℕ) → IsWithin noted at → length (list_to noted at) ≡ count_to noted at
  list_size at w = sized (count_to noted at) at w (omega arith)

-- the list that ends at an entry has its log id last
pub noted_ends : (noted : List Noted) (joined : AreJoined noted) (id : LogId ℕ) (k : ℕ) → IsNotedAt noted id k → EndsWith (list_to noted (Some k)) id
noted_ends noted joined id k n =
    record { before = list_to noted n.one.before; last = n.one.entry; is = list_step noted joined k n.one n.there; of_id = n.of_id }

pub some_ends : (noted : List Noted) (joined : AreJoined noted) (at : Option ℕ) → IsWithin noted at → MatchOption at (list_to noted at ≡ []) (λ k. IsEnded (list_to noted (Some k)))
some_ends noted joined None w = refl
some_ends noted joined (Some k) w =
    let x = some_at noted k (w k refl) in
    (x.0.entry.log_id, noted_ends noted joined x.0.entry.log_id k (record { one = x.0; there = x.1; of_id = refl }))

pub within_some : (noted : List Noted) (k : ℕ) → k < length noted → IsWithin noted (Some k)
within_some noted k l j e = let same = same_some e in omega arith

-- where a walk stands at an entry
pub record IsStep (noted : List Noted) (at : Option ℕ) (k : ℕ) (x : Noted) : Type 0 where
  pub within : k < length noted
  pub there : slice_get noted k ≡ Some x
  pub list : list_to noted at ≡ list_to noted x.before ++ x.entry ∷ []
  pub count : count_to noted at ≡ x.count
  pub less : count_to noted x.before < count_to noted at
  pub size : length (list_to noted at) ≡ x.count
  pub rest : IsWithin noted x.before

pub step_at : (noted : List Noted) (joined : AreJoined noted) (at : Option ℕ) (k : ℕ) (x : Noted) → IsWithin noted at → at ≡ Some k → x ≡ get_or noted k x → IsStep noted at k x
step_at noted joined at k x w is read =
    let l = w k is in
    let there = slice_get_read noted (length noted) k x refl l read in
    let count : count_to noted at ≡ x.count = ap (count_to noted) is ∙ ap count_in there in
    let one = (joined k x there).count in
    record {
      within = l;
      there = there;
      list = ap (list_to noted) is ∙ list_step noted joined k x there;
      count = count;
      less = omega arith;
      size = list_size noted joined at w ∙ count;
      rest = before_within noted joined k x there l;
    }

-- ---- entries at their places

within_cons : (noted : List Noted) (k : ℕ) (ks : List ℕ) → k < length noted → AreWithin noted ks → AreWithin noted (k ∷ ks)
within_cons noted k ks l w zero j e = let same = same_some e in omega arith
within_cons noted k ks l w (suc i) j e = w i j e

-- behind that entry all stand at their places
pub record IsFilled (noted : List Noted) (at : Option ℕ) (listed : List ℕ) (whole : List Entry) : Type 0 where
  pub list : whole ≡ list_to noted at ++ entries_at noted (drop (count_to noted at) listed)
  pub within : AreWithin noted (drop (count_to noted at) listed)

pub fill_more : (noted : List Noted) (joined : AreJoined noted) (at : Option ℕ) (k : ℕ) (x : Noted) (listed : List ℕ) (whole : List Entry) → IsStep noted at k x → IsFilled noted at listed whole → count_to noted at ≤ length listed → IsFilled noted x.before (slice_set listed (x.count - 1) k) whole
fill_more noted joined at k x listed whole s f l =
    let one = (joined k x s.there).count in
    let count = s.count in
    let place : x.count - 1 ≡ count_to noted x.before = omega arith in
    let next : count_to noted x.before + 1 ≡ count_to noted at = omega arith in
    let turned : drop (count_to noted x.before) (slice_set listed (x.count - 1) k) ≡ k ∷ drop (count_to noted at) listed =
    ap (λ n. drop (count_to noted x.before) (slice_set listed n k)) place
    ∙ drop-set listed (count_to noted x.before) k (omega arith)
    ∙ ap (λ n. k ∷ drop n listed) next
    in
    let here : entries_at noted (drop (count_to noted x.before) (slice_set listed (x.count - 1) k)) ≡ x.entry ∷ entries_at noted (drop (count_to noted at) listed) =
    ap (entries_at noted) turned ∙ ap (λ o. entry_in o ++ entries_at noted (drop (count_to noted at) listed)) s.there
    in
    record {
      list =
          f.list ∙ ap (λ xs. xs ++ entries_at noted (drop (count_to noted at) listed)) s.list
          ∙ append_assoc (list_to noted x.before) (x.entry ∷ []) (entries_at noted (drop (count_to noted at) listed))
          ∙ ap (λ ys. list_to noted x.before ++ ys) (sym here);
      within = subst (AreWithin noted) (sym turned) (within_cons noted k (drop (count_to noted at) listed) s.within f.within);
    }

-- what stands behind a front of so many entries
pub behind_front : (n : ℕ) (xs ys whole : List Entry) → whole ≡ xs ++ ys → length xs ≡ n → ys ≡ drop n whole
behind_front n xs ys whole e size = sym (ap (drop n) e ∙ ap (λ k. drop k (xs ++ ys)) (sym size) ∙ drop-append_seam xs ys)

-- ---- what is settled

count_end : (p : Entry → Bool) (found at : ℕ) (xs : List Entry) (e : Entry) → count_to_last p found at (xs ++ e ∷ []) ≡ (if p e then at + length xs + 1 else count_to_last p found at xs)
count_end p found at [] e = let z : at + 0 + 1 ≡ at + 1 = omega arith in ap (λ n. if p e then n else found) (sym z)
count_end p found at (x ∷ xs) e =
    let s : at + 1 + length xs + 1 ≡ at + suc (length xs) + 1 = omega arith in
    count_end p (if p x then at + 1 else found) (at + 1) xs e
    ∙ ap (λ n. if p e then n else count_to_last p (if p x then at + 1 else found) (at + 1) xs) s

settled_count : (p : Entry → Bool) (xs : List Entry) → count_to_last p 0 0 xs ≤ length xs
settled_count p xs = let c = count_from p 0 0 xs (omega arith) in omega (arith, c.within)

pub settled_past : (p : Entry → Bool) (xs : List Entry) (e : Entry) → p e ≡ false → settled_by p (xs ++ e ∷ []) ≡ settled_by p xs
settled_past p xs e fails =
    ap (λ n. take n (xs ++ e ∷ [])) (count_end p 0 0 xs e ∙ cond-false (p e) _ _ fails)
    ∙ take-append-le (count_to_last p 0 0 xs) xs (e ∷ []) (settled_count p xs)

pub settled_all : (p : Entry → Bool) (xs : List Entry) (e : Entry) → p e ≡ true → settled_by p (xs ++ e ∷ []) ≡ xs ++ e ∷ []
settled_all p xs e h =
    let size = length-append xs (e ∷ []) in
    ap (λ n. take n (xs ++ e ∷ [])) (count_end p 0 0 xs e ∙ cond-true (p e) _ _ h)
    ∙ take_all (0 + length xs + 1) (xs ++ e ∷ []) (omega arith)

pub settled_short : (p : Entry → Bool) (xs : List Entry) → length (settled_by p xs) ≤ length xs
settled_short p xs =
    let c = settled_count p xs in
    let size = length-take-le (count_to_last p 0 0 xs) xs c in
    omega arith
