-- The entries of an append that a node stores are those after the front that agrees with its list.
use Rattle.std.specs.Prelude.{◌≡◌, ℕ, zero, suc, ◌+◌, ◌-◌, ◌<◌, ◌≤◌, ◌^◌, ◌==◌, not, Bool, true, false, cond, List, [], ◌∷◌, length, drop, slice_get, Option, Some, None, refl}
use Rattle.std.proofs.Common.{sym, ap, ◌∙◌, arith, ⊎_elim, eqb-true, eq-eqb, leb-true, leb-false}
use Rattle.std.proofs.lemmas.Bool.{and_from, and_parts, cond-false, cases_Bool, cases_lt, eqb-false, false_from_ne_true}
use Rattle.std.proofs.lemmas.Option.{slice_get_past}
use Rattle.raft_values.specs.declared.log_id.LogId.{LogId}
use Rattle.raft_group_step.specs.Values.{Membership, Entry, log_id_eq, leader_eq}
use Rattle.raft_group_step.specs.StoredGroup.{StoredGroup, first_place, id_of, is_id, has_id_in_log}
use Rattle.raft_group_step.specs.StepResult.{is_within}
use Rattle.raft_group_step.specs.SnapshotRequest.{place_above}
use Rattle.raft_group_step.specs.AppendRequest.{above_committed, missing_entries}
use Rattle.raft_group_step.proofs.Votes.{leader_eq_same}
use Rattle.raft_laws.specs.BallotLogs.{BallotEntry, holds_before}
use Rattle.raft_laws.specs.BallotRanks.{rank_of, ballot_entry, ballot_log}
use Rattle.raft_laws.proofs.BallotAgreement.{some_at, same_some}
use Rattle.raft_laws.proofs.BallotAppends.{agreeing, drop_past}
use Rattle.raft_laws.proofs.VoteRanks.{leader_eq_from, rank_leader}
use Rattle.raft_laws.proofs.Shapes.{Good, Joined, good_drop, joined_at, joined_below}
use Rattle.raft_laws.proofs.Ids.{size_same, ballot_at}

-- a place is within what is committed just below the first one above it
pub within_is : (committed : Option ℕ) (i : ℕ) → is_within i committed ≡ true → i < place_above committed
within_is None i t = absurd (let e : false ≡ true = t in cc)
within_is (Some c) i t = let l = leb-true i c t in omega arith

pub without_is : (committed : Option ℕ) (i : ℕ) → is_within i committed ≡ false → place_above committed ≤ i
without_is None i t = omega arith
without_is (Some c) i t = let l = leb-false i c t in omega arith

drop_none : {A : Type 0} (k : ℕ) → drop k (let xs : List A = [] in xs) ≡ []
drop_none zero = refl
drop_none (suc k) = refl

drop_more : {A : Type 0} (j k : ℕ) (x : A) (xs : List A) → j ≡ suc k → drop j (x ∷ xs) ≡ drop k xs
drop_more j k x xs e = ap (λ n. drop n (x ∷ xs)) e

drop_zero : {A : Type 0} (j : ℕ) (xs : List A) → j ≡ 0 → drop j xs ≡ xs
drop_zero j xs e = ap (λ n. drop n xs) e

above_first : (m : Membership) (committed : Option ℕ) (start : ℕ) (e : Entry) (es : List Entry) → e.log_id.index ≡ start → above_committed committed es ≡ drop (place_above committed - (start + 1)) es → (b : Bool) → is_within e.log_id.index committed ≡ b → cond (not b) (e ∷ above_committed committed es) (above_committed committed es) ≡ drop (place_above committed - start) (e ∷ es)
above_first m committed start e es index h true q =
    let l = within_is committed e.log_id.index q in
    h ∙ sym (drop_more (place_above committed - start) (place_above committed - (start + 1)) e es (omega (arith, index)))
above_first m committed start e es index h false q =
    let l = without_is committed e.log_id.index q in
    ap (λ xs. e ∷ xs) (h ∙ drop_zero (place_above committed - (start + 1)) es (omega (arith, index)))
    ∙ sym (drop_zero (place_above committed - start) (e ∷ es) (omega (arith, index)))

pub above_is : (m : Membership) (committed : Option ℕ) (start : ℕ) (es : List Entry) → Good m start es → above_committed committed es ≡ drop (place_above committed - start) es
above_is m committed start [] g = sym (drop_none (place_above committed - start))
above_is m committed start (e ∷ es) g =
    above_first m committed start e es (let p = g.placed 0 e refl in omega arith)
    (above_is m committed (start + 1) es (good_drop 1 g))
    (is_within e.log_id.index committed) refl

-- equal log ids are equal ballots at one place
pub same_id : (x y : LogId ℕ) → x.leader_id.node_id < 2 ^ 64 → y.leader_id.node_id < 2 ^ 64 → x.index ≡ y.index → log_id_eq x y ≡ (rank_of x.leader_id == rank_of y.leader_id)
same_id x y h k e =
    ⊎_elim
    (λ t.
    let leader = rank_leader x.leader_id y.leader_id h k (eqb-true (rank_of x.leader_id) (rank_of y.leader_id) t) in
    and_from (leader_eq x.leader_id y.leader_id) (x.index == y.index) (leader_eq_from x.leader_id y.leader_id leader) (eq-eqb x.index y.index e) ∙ sym t)
    (λ t.
    false_from_ne_true (log_id_eq x y)
    (λ q.
    let leader = leader_eq_same x.leader_id y.leader_id (and_parts (leader_eq x.leader_id y.leader_id) (x.index == y.index) q).0 in
    eqb-false (rank_of x.leader_id) (rank_of y.leader_id) t (ap rank_of leader))
    ∙ sym t)
    (cases_Bool (rank_of x.leader_id == rank_of y.leader_id))

drop_at : {A : Type 0} (q : ℕ) (xs : List A) (x : A) → slice_get xs q ≡ Some x → drop q xs ≡ x ∷ drop (q + 1) xs
drop_at zero [] x h = absurd (let f : None ≡ Some x = h in cc)
drop_at zero (y ∷ xs) x h = ap (λ z. z ∷ xs) (same_some h)
drop_at (suc q) [] x h = absurd (let f : None ≡ Some x = h in cc)
drop_at (suc q) (y ∷ xs) x h = drop_at q xs x h ∙ (let e : suc (q + 1) ≡ suc q + 1 = omega arith in ap (λ k. x ∷ drop k (y ∷ xs)) e)

module _ (m : Membership) (st : StoredGroup) (xs : List Entry) (j : Joined st xs) (g : Good m 0 xs) where
  -- whether the log has a log id is whether the list has its ballot there
  pub has_id_is : (id : LogId ℕ) (y : Entry) → first_place st ≤ id.index → slice_get xs id.index ≡ Some y → id.leader_id.node_id < 2 ^ 64 → has_id_in_log st id ≡ (rank_of y.log_id.leader_id == rank_of id.leader_id)
  has_id_is id y l h b =
      ap (λ o. is_id id (id_of o)) (joined_at st xs j id.index l ∙ h)
      ∙ same_id y.log_id id (g.bounded id.index y h) b (let p = g.placed id.index y h in omega arith)

  pub no_id_past : (id : LogId ℕ) → first_place st ≤ id.index → length xs ≤ id.index → has_id_in_log st id ≡ false
  no_id_past id l k = ap (λ o. is_id id (id_of o)) (joined_at st xs j id.index l ∙ slice_get_past xs id.index k)

  -- an id in the log is in the list
  pub has_id_place : (id : LogId ℕ) → has_id_in_log st id ≡ true → id.leader_id.node_id < 2 ^ 64 → (y : Entry) × (slice_get xs id.index ≡ Some y) × (rank_of y.log_id.leader_id ≡ rank_of id.leader_id)
  has_id_place id t b =
      ⊎_elim
      (λ l. absurd (let e : true ≡ false = sym t ∙ ap (λ o. is_id id (id_of o)) (joined_below st xs j id.index l) in cc))
      (λ l.
      ⊎_elim
      (λ k.
      let at = some_at xs id.index k in
      (at.0, at.1, eqb-true (rank_of (at.0).log_id.leader_id) (rank_of id.leader_id) (sym (has_id_is id at.0 l at.1 b) ∙ t)))
      (λ k. absurd (let e : true ≡ false = sym t ∙ no_id_past id l k in cc))
      (cases_lt id.index (length xs)))
      (cases_lt id.index (first_place st))

  missing_first : (q : ℕ) (e : Entry) (es : List Entry) → first_place st ≤ q → e.log_id.index ≡ q → e.log_id.leader_id.node_id < 2 ^ 64 → missing_entries st es ≡ drop (agreeing (drop (q + 1) (ballot_log xs)) (ballot_log es)) es → missing_entries st (e ∷ es) ≡ drop (agreeing (drop q (ballot_log xs)) (ballot_log (e ∷ es))) (e ∷ es)
  missing_first q e es l index b h =
      ⊎_elim
      (λ k.
      let at = some_at xs q k in
      let here : slice_get xs e.log_id.index ≡ Some at.0 = ap (slice_get xs) index ∙ at.1 in
      let low : first_place st ≤ e.log_id.index = omega (arith, index) in
      let test = has_id_is e.log_id at.0 low here b in
      let step = drop_at q (ballot_log xs) (ballot_entry at.0) (ballot_at xs q at.0 at.1) in
      ap (λ t. cond t (missing_entries st es) (e ∷ es)) test
      ∙ both (rank_of (at.0).log_id.leader_id == rank_of e.log_id.leader_id)
      ∙ sym (ap (λ ys. drop (agreeing ys (ballot_log (e ∷ es))) (e ∷ es)) step))
      (λ k.
      let gone = drop_past q (ballot_log xs) (omega (arith, size_same xs)) in
      cond-false (has_id_in_log st e.log_id) _ _ (no_id_past e.log_id (omega (arith, index)) (omega (arith, index)))
      ∙ sym (ap (λ ys. drop (agreeing ys (ballot_log (e ∷ es))) (e ∷ es)) gone))
      (cases_lt q (length xs))
    where
      both : (t : Bool) → cond t (missing_entries st es) (e ∷ es) ≡ drop (cond t (suc (agreeing (drop (q + 1) (ballot_log xs)) (ballot_log es))) 0) (e ∷ es)
      both true = h
      both false = refl

  pub missing_is : (q : ℕ) (es : List Entry) → first_place st ≤ q → Good m q es → missing_entries st es ≡ drop (agreeing (drop q (ballot_log xs)) (ballot_log es)) es
  missing_is q [] l h = sym (drop_none (agreeing (drop q (ballot_log xs)) []))
  missing_is q (e ∷ es) l h =
      missing_first q e es l (let p = h.placed 0 e refl in omega arith) (h.bounded 0 e refl)
      (missing_is (q + 1) es (omega arith) (good_drop 1 h))

-- what it is to hold the entry before a place
pub holds_at : (xs : List BallotEntry) (i b : ℕ) (x : BallotEntry) → slice_get xs i ≡ Some x → holds_before xs (suc i) b ≡ (x.ballot == b)
holds_at [] i b x h = absurd (let f : None ≡ Some x = h in cc)
holds_at (y ∷ xs) zero b x h = ap (λ z. z.ballot == b) (same_some h)
holds_at (y ∷ xs) (suc i) b x h = holds_at xs i b x h
