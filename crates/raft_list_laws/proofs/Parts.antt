-- Behind a change of one vote, the group's list is the longer of the one before and of what that vote has settled.
use Rattle.std.specs.Prelude.{◌≡◌, ℕ, ◌≤◌, ◌&&◌, nat_lt, Bool, true, false, List, [], ◌∷◌, length, take, map, Contains, refl}
use Rattle.std.proofs.Common.{inl, sym, ap, ap₂, ◌∙◌, subst, arith, ⊎_elim, le-ltb, length-take-le, lt-ltb}
use Rattle.std.proofs.Math.Path.{fun_ext}
use Rattle.std.proofs.lemmas.Bool.{and_from, and_parts, cases_Bool, cases_lt, cond-false, cond-true}
use Rattle.raft_values.specs.declared.vote.Vote.{Vote}
use Rattle.raft_quorums.specs.Quorum.{is_quorum}
use Rattle.raft_group_step.specs.Values.{Entry, is_written_by, vote_eq}
use Rattle.raft_laws.specs.BallotLists.{AgreeBelow}
use Rattle.raft_laws.specs.GroupWorld.{GroupWorld, Led}
use Rattle.raft_laws.specs.Settled.{count_to_last, group_list, is_accepted_by_quorum, longer, settled_part}
use Rattle.raft_laws.proofs.BallotAgreement.{agree_head, agree_less, agree_more, agree_none, agree_sym, agree_tail, agree_take, agree_trans}
use Rattle.raft_laws.proofs.BallotQuorums.{quorum_more}
use Rattle.raft_laws.proofs.Counts.{among_contains, among_map, contains_among, count_from, longest, map_among}
use Rattle.raft_laws.proofs.GroupList.{quorum_back}
use Rattle.raft_laws.proofs.TrackElections.{quorum_link}
use Rattle.raft_laws.proofs.VoteRanks.{vote_eq_same}
use Rattle.raft_list_laws.specs.Accounts.{Accounts, AreNoted, AreTrue, PartsAreFronts, is_reached, settled_of}
use Rattle.raft_list_laws.specs.Changes.{GoesOn}

-- ---- lists

pub agree_whole : {A : Type 0} (xs ys : List A) → AgreeBelow (length xs) xs ys → length xs ≡ length ys → xs ≡ ys
agree_whole [] [] a e = refl
agree_whole [] (y ∷ ys) a e = absurd (omega arith)
agree_whole (x ∷ xs) [] a e = absurd (omega arith)
agree_whole (x ∷ xs) (y ∷ ys) a e = let h = agree_head a in let t = agree_whole xs ys (agree_tail a) (omega arith) in cc

-- two fronts of one list that are as long are the same
same_fronts : (xs ys list : List Entry) → AgreeBelow (length xs) xs list → AgreeBelow (length ys) ys list → length xs ≡ length ys → xs ≡ ys
same_fronts xs ys list a b e = agree_whole xs ys (agree_trans a (agree_sym (agree_less (length xs) (omega arith) b))) e

abbrev counted : (Entry → Bool) → List Entry → ℕ
counted p xs = count_to_last p 0 0 xs

pub taken_size : (p : Entry → Bool) (xs : List Entry) → length (take (counted p xs) xs) ≡ counted p xs
taken_size p xs =
    let c = count_from p 0 0 xs (omega arith) in
    let inside : counted p xs ≤ length xs = omega (arith, c.within) in
    length-take-le (counted p xs) xs inside

-- of a longer list and a wider test the count is no less
pub count_more : (p q : Entry → Bool) (xs ys : List Entry) → AgreeBelow (length xs) xs ys → ((e : Entry) → p e ≡ true → q e ≡ true) → counted p xs ≤ counted q ys
count_more p q xs ys a wider =
    let few = count_from p 0 0 xs (omega arith) in
    let many = count_from q 0 0 ys (omega arith) in
    ⊎_elim
    (λ none. omega arith)
    (λ x.
    let inside = few.within in
    let at = sym (a.same x.0 (omega (arith, x.4))) ∙ x.2 in
    let past = many.all x.0 x.1 at (wider x.1 x.3) in
    omega (arith, x.4))
    few.last

pub take_fronts : (j k : ℕ) (xs : List Entry) → length (take j xs) ≤ length (take k xs) → AgreeBelow (length (take j xs)) (take j xs) (take k xs)
take_fronts j k xs le = agree_trans (agree_take j xs) (agree_sym (agree_less (length (take j xs)) le (agree_take k xs)))

pub quorum_wider : (groups : List (List ℕ)) (p q : ℕ → Bool) → ((n : ℕ) → p n ≡ true → q n ≡ true) → is_quorum groups p ≡ true → is_quorum groups q ≡ true
quorum_wider groups p q h t = quorum_back groups q (quorum_more groups p q h (quorum_link groups p t))

-- ---- accounts and their world

module _ (a : Accounts) (w : GroupWorld) (n : AreNoted a w) where
  pub reached_is : (vote : Vote ℕ) (e : Entry) → is_reached a vote e ≡ is_accepted_by_quorum w vote e
  reached_is vote e =
      ap (λ b. is_written_by vote.leader_id e && b)
      (ap₂ is_quorum n.voters (fun_ext (λ node. n.reached vote e.log_id.index node)))

  -- what a note that has the whole of it has settled
  pub settled_is : (vote : Vote ℕ) (l : Led) → l.vote ≡ vote → l.list ≡ a.latest vote → settled_of a vote ≡ settled_part w l
  settled_is vote l same list =
      ap (λ (p : Entry → Bool). take (counted p (a.latest vote)) (a.latest vote)) (fun_ext (λ e. reached_is vote e))
      ∙ ap (λ xs. take (counted (is_accepted_by_quorum w vote) xs) xs) (sym list)
      ∙ ap (λ (v : Vote ℕ). take (counted (is_accepted_by_quorum w v) l.list) l.list) (sym same)

-- ---- the change of one vote

-- what a change brings to one vote leaves the others as they were
pub record OneVoteGrows (a next : Accounts) (w w' : GroupWorld) (vote : Vote ℕ) : Type 0 where
  pub voters : next.voters ≡ a.voters
  pub grows : (other : Vote ℕ) (place node : ℕ) → a.reached other place node ≡ true → next.reached other place node ≡ true
  pub stay : (l : Led) → Contains w.led l → Contains w'.led l
  pub others : (l : Led) → Contains w'.led l → vote_eq l.vote vote ≡ false → Contains w.led l
  pub same : (other : Vote ℕ) (place node : ℕ) → vote_eq other vote ≡ false → next.reached other place node ≡ a.reached other place node

module _ (a next : Accounts) (w w' : GroupWorld) (vote : Vote ℕ) (list : List Entry) (t : AreTrue a w) (n : AreNoted next w') (fronts : PartsAreFronts list w') (g : OneVoteGrows a next w w' vote) where
  abbrev best : List Entry
  best = longer (group_list w) (settled_of next vote)

  wider : (other : Vote ℕ) (e : Entry) → is_accepted_by_quorum w other e ≡ true → is_accepted_by_quorum w' other e ≡ true
  wider other e h =
      let before = reached_is a w t.notes other e ∙ h in
      let p = and_parts (is_written_by other.leader_id e) (is_quorum a.voters (a.reached other e.log_id.index)) before in
      let now = quorum_wider a.voters (a.reached other e.log_id.index) (next.reached other e.log_id.index) (λ node q. g.grows other e.log_id.index node q) p.1 in
      sym (reached_is next w' n other e)
      ∙ and_from (is_written_by other.leader_id e) (is_quorum next.voters (next.reached other e.log_id.index)) p.0
      (ap (λ vs. is_quorum vs (next.reached other e.log_id.index)) g.voters ∙ now)

  part_size : (x : GroupWorld) (l : Led) → length (settled_part x l) ≡ counted (is_accepted_by_quorum x l.vote) l.list
  part_size x l = taken_size (is_accepted_by_quorum x l.vote) l.list

  within_all : (l : Led) → Contains w'.led l → length (settled_part w' l) ≤ length (group_list w')
  within_all l c =
      (longest [] (map (settled_part w') w'.led)).past (settled_part w' l) (map_among (settled_part w') w'.led l (contains_among w'.led l c))

  within_old : (l : Led) → Contains w.led l → length (settled_part w l) ≤ length (group_list w)
  within_old l c =
      (longest [] (map (settled_part w) w.led)).past (settled_part w l) (map_among (settled_part w) w.led l (contains_among w.led l c))

  -- a front of the list on which all parts stand, no longer than the group's list
  abbrev IsShortFront : List Entry → Type 0
  IsShortFront xs = AgreeBelow (length xs) xs list × (length xs ≤ length (group_list w'))

  none_short : (xs : List Entry) → xs ≡ [] → IsShortFront xs
  none_short xs e = subst IsShortFront (sym e) (agree_none list, omega arith)

  part_grows : (l : Led) → Contains w.led l → IsShortFront (settled_part w l)
  part_grows l c =
      let more : length (settled_part w l) ≤ length (settled_part w' l) =
      let le = count_more (is_accepted_by_quorum w l.vote) (is_accepted_by_quorum w' l.vote) l.list l.list (take_self l.list) (wider l.vote) in
      omega (arith, le, part_size w l, part_size w' l)
      in
      let all = within_all l (g.stay l c) in
      (agree_more (take_fronts _ _ l.list more) (fronts l (g.stay l c)), omega arith)
    where
      take_self : (xs : List Entry) → AgreeBelow (length xs) xs xs
      take_self xs = record { left = omega arith; right = omega arith; same = λ j l. refl }

  old_short : IsShortFront (group_list w)
  old_short =
      ⊎_elim
      (λ e. none_short (group_list w) e)
      (λ x.
      let p = among_map (settled_part w) w.led (group_list w) x in
      subst IsShortFront (sym p.2) (part_grows p.0 (among_contains w.led p.0 p.1)))
      (longest [] (map (settled_part w) w.led)).one

  new_short : IsShortFront (settled_of next vote)
  new_short =
      ⊎_elim
      (λ e. none_short (settled_of next vote) (ap (λ xs. take (counted (is_reached next vote) xs) xs) e))
      (λ x.
      subst IsShortFront (sym (settled_is next w' n vote x.0 x.2 x.3))
      (fronts x.0 x.1, within_all x.0 x.1))
      (n.noted vote)

  best_short : IsShortFront best
  best_short =
      ⊎_elim
      (λ e. subst IsShortFront (sym e) old_short)
      (λ x. ⊎_elim (λ e. subst IsShortFront (sym e) new_short) (λ none. absurd none) x)
      (longest (group_list w) (settled_of next vote ∷ [])).one

  whole_front : AgreeBelow (length (group_list w')) (group_list w') list
  whole_front =
      ⊎_elim
      (λ e. subst (λ xs. AgreeBelow (length xs) xs list) (sym e) (agree_none list))
      (λ x.
      let p = among_map (settled_part w') w'.led (group_list w') x in
      subst (λ xs. AgreeBelow (length xs) xs list) (sym p.2) (fronts p.0 (among_contains w'.led p.0 p.1)))
      (longest [] (map (settled_part w') w'.led)).one

  -- no part is longer
  past_best : (l : Led) → Contains w'.led l → length (settled_part w' l) ≤ length best
  past_best l c =
      let b = longest (group_list w) (settled_of next vote ∷ []) in
      ⊎_elim
      (λ yes.
      let same = vote_eq_same l.vote vote yes in
      let front = subst (λ (v : Vote ℕ). AgreeBelow (length l.list) l.list (next.latest v)) same (n.latest l c) in
      let le : counted (is_accepted_by_quorum w' l.vote) l.list ≤ counted (is_reached next vote) (next.latest vote) =
      count_more (is_accepted_by_quorum w' l.vote) (is_reached next vote) l.list (next.latest vote) front
      (λ e h. reached_is next w' n vote e ∙ ap (λ (v : Vote ℕ). is_accepted_by_quorum w' v e) (sym same) ∙ h)
      in
      let size = taken_size (is_reached next vote) (next.latest vote) in
      let past = b.past (settled_of next vote) (inl refl) in
      omega (arith, part_size w' l))
      (λ no.
      let before = g.others l c no in
      let test : (e : Entry) → is_accepted_by_quorum w' l.vote e ≡ is_accepted_by_quorum w l.vote e =
      λ e. sym (reached_is next w' n l.vote e)
      ∙ ap (λ b. is_written_by l.vote.leader_id e && b) (ap₂ is_quorum g.voters (fun_ext (λ node. g.same l.vote e.log_id.index node no)))
      ∙ reached_is a w t.notes l.vote e
      in
      let part : settled_part w' l ≡ settled_part w l = ap (λ (p : Entry → Bool). take (counted p l.list) l.list) (fun_ext (λ e. test e)) in
      let old = within_old l before in
      let size = ap length part in
      omega (arith, b.past_first))
      (cases_Bool (vote_eq l.vote vote))

  whole_short : length (group_list w') ≤ length best
  whole_short =
      ⊎_elim
      (λ e. let none = ap length e in omega arith)
      (λ x.
      let p = among_map (settled_part w') w'.led (group_list w') x in
      let size = ap length p.2 in
      let past = past_best p.0 (among_contains w'.led p.0 p.1) in
      omega arith)
      (longest [] (map (settled_part w') w'.led)).one

  -- so it is where the list goes on
  pub goes_on_longer : GoesOn a.list (settled_of next vote) next.list → next.list ≡ longer (group_list w) (settled_of next vote)
  goes_on_longer on =
      let p = cases_lt (length (group_list w)) (length (settled_of next vote)) in
      let size = ap length t.list in
      ⊎_elim
      (λ less.
      let agree = agree_trans old_short.0 (agree_sym (agree_less (length (group_list w)) (omega arith) new_short.0)) in
      on.grows (omega arith) (subst (λ xs. AgreeBelow (length xs) xs (settled_of next vote)) (sym t.list) agree)
      ∙ sym (cond-true (nat_lt (length (group_list w)) (length (settled_of next vote))) (settled_of next vote) (group_list w) (lt-ltb (length (group_list w)) (length (settled_of next vote)) less)))
      (λ more.
      on.stays (omega arith) ∙ t.list
      ∙ sym (cond-false (nat_lt (length (group_list w)) (length (settled_of next vote))) (settled_of next vote) (group_list w) (le-ltb (length (group_list w)) (length (settled_of next vote)) more)))
      p

  pub list_is_longer : group_list w' ≡ longer (group_list w) (settled_of next vote)
  list_is_longer =
      let short = best_short.1 in
      let long = whole_short in
      same_fronts (group_list w') best list whole_front best_short.0 (omega arith)
