-- Lists that end with an entry, fronts of noted lists, and entries that are noted.
use Rattle.std.specs.Prelude.{◌≡◌, ℕ, zero, suc, ◌+◌, ◌-◌, ◌==◌, true, List, [], ◌∷◌, ◌++◌, length, slice_get, Option, Some, None, Contains, refl}
use Rattle.std.proofs.Common.{inl, sym, ap, ap₂, eqb-true, eq-eqb, ◌∙◌, subst, arith, ⊎_elim, length-append}
use Rattle.std.proofs.lemmas.Bool.{and_from, and_parts, cases_lt, cases_Bool, cond-true, cond-false}
use Rattle.raft_values.specs.declared.vote.LeaderId.{LeaderId}
use Rattle.raft_values.specs.declared.log_id.LogId.{LogId}
use Rattle.raft_group_step.specs.Values.{Entry, Membership, is_written_by, leader_eq, log_id_eq}
use Rattle.raft_group_step.proofs.Votes.{leader_eq_same}
use Rattle.raft_laws.specs.BallotLists.{AgreeBelow}
use Rattle.raft_laws.specs.GroupWorld.{GroupWorld, Led}
use Rattle.raft_laws.proofs.BallotAgreement.{agree_cons, agree_head, agree_none, agree_tail, agree_trans, same_some, slice_get-append, slice_get_end}
use Rattle.raft_laws.proofs.Counts.{among_behind, among_contains, among_front, contains_among}
use Rattle.raft_laws.proofs.Shapes.{slice_after}
use Rattle.raft_laws.proofs.VoteRanks.{leader_eq_from}
use Rattle.raft_list_laws.specs.Changes.{with_note}
use Rattle.raft_group_lists.specs.declared.notes.Noted.{Noted}
use Rattle.raft_group_lists.specs.Notes.{EndsWith, IsNotedAt, before_in, entry_in, front}
use Rattle.raft_list_steps.specs.Lists.{IsKnown, IsLedFront, IsSetUpAlone, setup_entry}
use Rattle.raft_list_laws.specs.Bases.{before_own}
use Rattle.raft_list_steps.specs.Steps.{ListsAgree}

-- ---- log ids

pub same_log_id : (a b : LogId ℕ) → log_id_eq a b ≡ true → a ≡ b
same_log_id a b e =
    let p = and_parts (leader_eq a.leader_id b.leader_id) (a.index == b.index) e in
    ap₂ (λ (leader : LeaderId ℕ) (place : ℕ). let id : LogId ℕ = record { leader_id = leader; index = place } in id)
    (leader_eq_same a.leader_id b.leader_id p.0) (eqb-true a.index b.index p.1)

pub log_id_itself : (a b : LogId ℕ) → a ≡ b → log_id_eq a b ≡ true
log_id_itself a b e =
    and_from (leader_eq a.leader_id b.leader_id) (a.index == b.index)
    (leader_eq_from a.leader_id b.leader_id (ap (λ (id : LogId ℕ). id.leader_id) e)) (eq-eqb a.index b.index (ap (λ (id : LogId ℕ). id.index) e))

-- ---- the last entry

pub end_at : (list : List Entry) (id : LogId ℕ) (e : EndsWith list id) → slice_get list (length e.before) ≡ Some e.last
end_at list id e = ap (λ (xs : List Entry). slice_get xs (length e.before)) e.is ∙ slice_get_end e.before e.last

pub end_size : (list : List Entry) (id : LogId ℕ) (e : EndsWith list id) → length list ≡ suc (length e.before)
end_size list id e = let size = ap length e.is ∙ length-append e.before (e.last ∷ []) in omega arith

pub one_end : (list : List Entry) (id other : LogId ℕ) → EndsWith list id → EndsWith list other → id ≡ other
one_end list id other a b =
    let size = end_size list id a in
    let size' = end_size list other b in
    let same : length a.before ≡ length b.before = omega arith in
    let last : a.last ≡ b.last = same_some (sym (end_at list id a) ∙ ap (slice_get list) same ∙ end_at list other b) in
    sym a.of_id ∙ ap (λ (x : Entry). x.log_id) last ∙ b.of_id

pub none_ends : (list : List Entry) (id : LogId ℕ) → EndsWith list id → list ≡ [] → ⊥
none_ends list id e none = let size = end_size list id e in let empty = ap length none in omega arith

-- ---- fronts

same_front : (xs ys zs : List Entry) → AgreeBelow (length xs) xs zs → AgreeBelow (length ys) ys zs → length xs ≡ length ys → xs ≡ ys
same_front [] [] zs a b size = refl
same_front [] (y ∷ ys) zs a b size = absurd (omega arith)
same_front (x ∷ xs) [] zs a b size = absurd (omega arith)
same_front (x ∷ xs) (y ∷ ys) [] a b size = absurd (omega (arith, a.right))
same_front (x ∷ xs) (y ∷ ys) (z ∷ zs) a b size =
    let rest = same_front xs ys zs (agree_tail a) (agree_tail b) (omega arith) in
    let h = agree_head a in
    let h' = agree_head b in
    cc

-- two fronts of noted lists that end with one log id are one
pub one_front : (w : GroupWorld) → ListsAgree w.led → (one other : Led) → Contains w.led one → Contains w.led other → (xs ys : List Entry) (id : LogId ℕ) → AgreeBelow (length xs) xs one.list → AgreeBelow (length ys) ys other.list → EndsWith xs id → EndsWith ys id → xs ≡ ys
one_front w agree one other c d xs ys id a b e f =
    let size = end_size xs id e in
    let size' = end_size ys id f in
    let at = sym (a.same (length e.before) (omega arith)) ∙ end_at xs id e in
    let at' = sym (b.same (length f.before) (omega arith)) ∙ end_at ys id f in
    let same = agree one other c d (length e.before) (length f.before) e.last f.last at at' (e.of_id ∙ sym f.of_id) in
    let place : length xs ≡ length ys = omega (arith, same.0) in
    let here : AgreeBelow (length xs) one.list other.list = subst (λ (n : ℕ). AgreeBelow n one.list other.list) (sym size) same.1 in
    same_front xs ys other.list (agree_trans a here) b place

pub own_front : (leader : LeaderId ℕ) (xs : List Entry) → AgreeBelow (length (before_own leader xs)) (before_own leader xs) xs
own_front leader [] = agree_none []
own_front leader (e ∷ es) =
    ⊎_elim
    (λ yes. subst (λ (ys : List Entry). AgreeBelow (length ys) ys (e ∷ es)) (sym (cond-true (is_written_by leader e) [] (e ∷ before_own leader es) yes)) (agree_none (e ∷ es)))
    (λ no.
    subst (λ (ys : List Entry). AgreeBelow (length ys) ys (e ∷ es)) (sym (cond-false (is_written_by leader e) [] (e ∷ before_own leader es) no))
    (agree_cons refl (own_front leader es)))
    (cases_Bool (is_written_by leader e))

-- ---- notes

pub last_noted : (w : GroupWorld) (l : Led) → Contains (with_note w l).led l
last_noted w l = among_contains (w.led ++ l ∷ []) l (among_behind l w.led (l ∷ []) (inl refl))

pub still_noted : (w : GroupWorld) (l x : Led) → Contains w.led x → Contains (with_note w l).led x
still_noted w l x c = among_contains (w.led ++ l ∷ []) x (among_front x w.led (l ∷ []) (contains_among w.led x c))

-- a list of one entry, at the front of another
pub first_front : (e : Entry) (xs : List Entry) → slice_get xs 0 ≡ Some e → AgreeBelow 1 (e ∷ []) xs
first_front e [] at = absurd (let no : None ≡ Some e = at in cc)
first_front e (x ∷ xs) at = agree_cons (sym (same_some at)) (agree_none xs)

-- a known list is a front of one that is noted behind the note, whose first entry is the set-up's
pub known_front : (w : GroupWorld) (l : Led) → ((m : Membership) → w.setup ≡ Some m → slice_get l.list 0 ≡ Some (setup_entry m)) → (list : List Entry) → IsKnown w list → IsLedFront (with_note w l) list
known_front w l first list known =
    ⊎_elim
    (λ x. record { led = x.led; among = still_noted w l x.led x.among; front = x.front })
    (λ x.
    record {
      led = l;
      among = last_noted w l;
      front =
          subst (λ (xs : List Entry). AgreeBelow (length xs) xs l.list) (sym x.alone)
          (first_front (setup_entry x.membership) l.list (first x.membership x.set_up));
    })
    known

-- ---- entries that are noted

entry_of_one : (o : Option Noted) (j : ℕ) (x : Entry) → slice_get (entry_in o) j ≡ Some x → (y : Noted) × (o ≡ Some y) × (y.entry ≡ x)
entry_of_one None j x e = absurd (let no : None ≡ Some x = e in cc)
entry_of_one (Some y) zero x e = (y, refl, same_some e)
entry_of_one (Some y) (suc j) x e = absurd (let no : None ≡ Some x = e in cc)

-- an entry of a list that is noted is noted itself
pub entry_noted : (noted : List Noted) (n : ℕ) (at : Option ℕ) (i : ℕ) (x : Entry) → slice_get (front noted n at) i ≡ Some x → (k : ℕ) × IsNotedAt noted x.log_id k
entry_noted noted zero at i x e = absurd (let no : None ≡ Some x = e in cc)
entry_noted noted (suc n) None i x e = absurd (let no : None ≡ Some x = e in cc)
entry_noted noted (suc n) (Some k) i x e =
    let before = front noted n (before_in (slice_get noted k)) in
    let here = entry_in (slice_get noted k) in
    ⊎_elim
    (λ l. entry_noted noted n (before_in (slice_get noted k)) i x (sym (slice_get-append before here i l) ∙ e))
    (λ l.
    let back : length before + (i - length before) ≡ i = omega arith in
    let y = entry_of_one (slice_get noted k) (i - length before) x (sym (slice_after before here (i - length before)) ∙ ap (slice_get (before ++ here)) back ∙ e) in
    (k, record { one = y.0; there = y.1; of_id = ap (λ (z : Entry). z.log_id) y.2 }))
    (cases_lt i (length before))
