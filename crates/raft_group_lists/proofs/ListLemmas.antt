-- Entries that are noted at places, and a list that goes on.
use Rattle.std.specs.Prelude.{◌≡◌, ℕ, zero, suc, ◌+◌, ◌-◌, ◌<◌, ◌≤◌, ◌==◌, ◌&&◌, ◌||◌, Bool, List, [], ◌∷◌, ◌++◌, length, take, drop, slice_get, Option, Some, None, refl}
use Rattle.std.proofs.Common.{sym, ap, ◌∙◌, arith, ⊎_elim, append-nil, append_assoc, take-append-drop, take_all}
use Rattle.std.proofs.Math.Path.{fun_ext}
use Rattle.std.proofs.lemmas.Bool.{cases_lt}
use Rattle.std.proofs.lemmas.List.{drop_all, take-append-le}
use Rattle.std.proofs.lemmas.Option.{slice_get_within}
use Rattle.raft_values.specs.declared.vote.LeaderId.{LeaderId}
use Rattle.raft_quorums.specs.Quorum.{is_quorum}
use Rattle.raft_group_step.specs.Values.{Entry, is_written_by}
use Rattle.raft_laws.specs.BallotLists.{AgreeBelow}
use Rattle.raft_laws.proofs.BallotAgreement.{agree_head, agree_tail, same_some, slice_get-append, some_at}
use Rattle.raft_laws.proofs.Shapes.{slice_after}
use Rattle.raft_list_laws.specs.Changes.{GoesOn}
use Rattle.raft_group_lists.specs.declared.notes.Noted.{Noted}
use Rattle.raft_group_lists.specs.declared.notes.Reached.{Reached}
use Rattle.raft_group_lists.specs.declared.notes.Lead.{Lead}
use Rattle.raft_group_lists.specs.Notes.{AreWithin, entries_at, entry_in, has_reached, is_now_reached, is_settled, passes, reaches, settled_by}

pub entries_append : (noted : List Noted) (xs ys : List ℕ) → entries_at noted (xs ++ ys) ≡ entries_at noted xs ++ entries_at noted ys
entries_append noted [] ys = refl
entries_append noted (k ∷ xs) ys =
    ap (λ es. entry_in (slice_get noted k) ++ es) (entries_append noted xs ys)
    ∙ sym (append_assoc (entry_in (slice_get noted k)) (entries_at noted xs) (entries_at noted ys))

pub entries_size : (noted : List Noted) (ks : List ℕ) → AreWithin noted ks → length (entries_at noted ks) ≡ length ks
entries_size noted [] w = refl
entries_size noted (k ∷ ks) w =
    let x = some_at noted k (w 0 k refl) in
    let rest = entries_size noted ks (λ i j e. w (suc i) j e) in
    let here : entries_at noted (k ∷ ks) ≡ x.0.entry ∷ entries_at noted ks = ap (λ o. entry_in o ++ entries_at noted ks) x.1 in
    let size = ap length here in
    omega arith

pub within_append : (noted : List Noted) (xs ys : List ℕ) → AreWithin noted xs → AreWithin noted ys → AreWithin noted (xs ++ ys)
within_append noted xs ys v w i k e =
    ⊎_elim
    (λ l. v i k (sym (slice_get-append xs ys i l) ∙ e))
    (λ l.
    let within = slice_get_within (xs ++ ys) i k e in
    w (i - length xs) k (sym (slice_after xs ys (i - length xs)) ∙ ap (slice_get (xs ++ ys)) (back (length xs) i l) ∙ e))
    (cases_lt i (length xs))
  where
    back : (n m : ℕ) → n ≤ m → n + (m - n) ≡ m
    back n m l = omega arith

-- what a slice that is a whole vector leaves of it
pub whole_slice : {A : Type 0} (n : ℕ) (new old : List A) → length new ≡ length old → n ≡ length old → take n (new ++ drop (length new) old) ≡ new
whole_slice n new old size all =
    ap (λ xs. take n (new ++ xs)) (drop_all (length new) old (omega arith))
    ∙ ap (take n) (append-nil new)
    ∙ take_all n new (omega arith)

-- a list that was made longer, and then filled behind its old end
pub kept_front : (n m : ℕ) (old new longer rest : List ℕ) → n ≡ length old → length old ≤ m → longer ≡ take m old ++ rest → take n new ≡ take n longer → new ≡ old ++ drop n new
kept_front n m old new longer rest size le is same =
    let front : take n longer ≡ old =
    ap (take n) (is ∙ ap (λ xs. xs ++ rest) (take_all m old le))
    ∙ take-append-le n old rest (omega arith) ∙ take_all n old (omega arith)
    in
    sym (take-append-drop n new) ∙ ap (λ xs. xs ++ drop n new) (same ∙ front)

-- ---- a list that goes on

front_is : (xs ys : List Entry) → AgreeBelow (length xs) xs ys → take (length xs) ys ≡ xs
front_is [] ys a = refl
front_is (x ∷ xs) [] a = absurd (omega (arith, a.right))
front_is (x ∷ xs) (y ∷ ys) a = let h = agree_head a in let t = front_is xs ys (agree_tail a) in cc

pub grows_on : (list settled next : List Entry) → length list < length settled → next ≡ list ++ drop (length list) settled → GoesOn list settled next
grows_on list settled next l e =
    record {
      stays = λ le. absurd (omega arith);
      grows = λ less a.
          e ∙ ap (λ xs. xs ++ drop (length list) settled) (sym (front_is list settled a)) ∙ take-append-drop (length list) settled;
    }

pub stays_on : (list settled next : List Entry) → length settled ≤ length list → next ≡ list → GoesOn list settled next
stays_on list settled next l e = record { stays = λ le. e; grows = λ less a. absurd (omega arith) }

-- ---- what is settled, once a node has accepted more

pub settled_then : (voters : List (List ℕ)) (reached : List Reached) (node : ℕ) (place : Option ℕ) (lead : Lead) → ((at n : ℕ) → has_reached lead.reached.items at n ≡ (has_reached reached at n || (node == n && reaches place at))) → (leader : LeaderId ℕ) → leader ≡ lead.vote.leader_id → (xs : List Entry) → settled_by (passes voters leader reached node place) xs ≡ settled_by (is_settled voters lead) xs
settled_then voters reached node place lead more leader same xs =
    ap (λ (p : Entry → Bool). settled_by p xs)
    (fun_ext (λ (e : Entry).
    ap (λ (by : LeaderId ℕ). is_written_by by e && is_quorum voters (is_now_reached reached node place e.log_id.index)) same
    ∙ ap (λ (set : ℕ → Bool). is_written_by lead.vote.leader_id e && is_quorum voters set) (fun_ext (λ n. sym (more e.log_id.index n)))))

-- ---- the entry at a place of the list

pub entry_there : (noted : List Noted) (ks : List ℕ) → AreWithin noted ks → (i k : ℕ) (x : Noted) → slice_get ks i ≡ Some k → slice_get noted k ≡ Some x → slice_get (entries_at noted ks) i ≡ Some x.entry
entry_there noted [] w i k x e there = absurd (let no : None ≡ Some k = e in cc)
entry_there noted (j ∷ ks) w zero k x e there =
    ap (λ o. slice_get (entry_in o ++ entries_at noted ks) 0) (ap (slice_get noted) (same_some e) ∙ there)
entry_there noted (j ∷ ks) w (suc i) k x e there =
    let y = some_at noted j (w 0 j refl) in
    ap (λ o. slice_get (entry_in o ++ entries_at noted ks) (suc i)) y.1
    ∙ entry_there noted ks (λ n m f. w (suc n) m f) i k x e there

pub entry_nowhere : (noted : List Noted) (ks : List ℕ) → AreWithin noted ks → (i : ℕ) → slice_get ks i ≡ None → slice_get (entries_at noted ks) i ≡ None
entry_nowhere noted [] w i e = refl
entry_nowhere noted (j ∷ ks) w zero e = absurd (let no : Some j ≡ None = e in cc)
entry_nowhere noted (j ∷ ks) w (suc i) e =
    let y = some_at noted j (w 0 j refl) in
    ap (λ o. slice_get (entry_in o ++ entries_at noted ks) (suc i)) y.1
    ∙ entry_nowhere noted ks (λ n m f. w (suc n) m f) i e
