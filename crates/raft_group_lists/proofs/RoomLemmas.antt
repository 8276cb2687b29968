-- What still fits, once a vote or a node has taken its place.
use Rattle.std.specs.Prelude.{◌≡◌, ℕ, zero, suc, ◌+◌, ◌<◌, ◌≤◌, if◌then◌else◌, Bool, true, false, List, [], ◌∷◌, ◌++◌, length, take, drop, slice_get, slice_set, Option, Some, None, Vec, vec_len, vec_capacity, refl}
use Rattle.std.proofs.Common.{sym, ap, ◌∙◌, subst, arith, ⊎_elim, length-append, length-set}
use Rattle.std.proofs.lemmas.Bool.{cases_lt}
use Rattle.raft_values.specs.declared.vote.Vote.{Vote}
use Rattle.raft_group_step.specs.Values.{vote_eq}
use Rattle.std.specs.declared.alloc.Global.{Global}
use Rattle.raft_laws.proofs.BallotAgreement.{same_some}
use Rattle.raft_laws.proofs.BallotPut.{at_more}
use Rattle.raft_group_lists.specs.declared.notes.Lead.{Lead}
use Rattle.raft_group_lists.specs.declared.notes.Noted.{Noted}
use Rattle.raft_group_lists.specs.declared.notes.Reached.{Reached}
use Rattle.raft_group_lists.specs.Notes.{AreWhole, IsWithin, has_reached, last_in, later_or, lead_in, notes_of, reached_in}
use Rattle.raft_group_lists.specs.Room.{AreWider, CanLearn, EachHolds, HasPlace, HasRoom, HasSpace, Kept}
use Rattle.raft_group_lists.proofs.LeadLemmas.{end_cases}
use Rattle.raft_group_lists.proofs.ListLemmas.{whole_slice}
use Rattle.raft_group_lists.proofs.SetLemmas.{set_cases}

-- a new vote, with a spare vector
pub place_of_new : (leads : List Lead) (capacity : ℕ) (spares : List (Vec Reached Global)) (n : ℕ) (y : Lead) (more : ℕ) (left : List (Vec Reached Global)) → CanLearn leads capacity spares (suc n) → y.reached.items ≡ []
    → suc n ≤ vec_capacity y.reached → capacity ≤ more → n ≤ length left → EachHolds left (suc n) → HasPlace (leads ++ y ∷ []) more left n
place_of_new leads capacity spares n y more left can empty size grown spare hold =
    let votes = can.votes in
    let all = length-append leads (y ∷ []) in
    record {
      votes = omega arith;
      nodes = λ i lead e.
          ⊎_elim (λ old. can.nodes i lead old) (λ is. subst (λ (l : Lead). HasSpace l.reached (suc n)) is new)
          (end_cases leads y i lead e);
      spares_left = spare;
      spare_nodes = λ i v e. let enough = hold i v e in omega arith;
    }
  where
    new : HasSpace y.reached (suc n)
    new =
        let count = ap length empty in
        omega (arith, size, y.reached.ok.0)

-- a node has taken its place under a vote
pub learned_once : (leads : List Lead) (capacity : ℕ) (spares : List (Vec Reached Global)) (n at : ℕ) (y : Lead) → HasPlace leads capacity spares n → HasSpace y.reached n → CanLearn (slice_set leads at y) capacity spares n
learned_once leads capacity spares n at y place space =
    let votes = place.votes in
    let size = length-set leads at y in
    record {
      votes = omega arith;
      nodes = λ i lead e.
          ⊎_elim
          (λ is. subst (λ (l : Lead). HasSpace l.reached n) (sym is) space)
          (λ old. let has = place.nodes i lead old in omega arith)
          (set_cases leads at y i lead e);
      spares_left = place.spares_left;
      spare_nodes = place.spare_nodes;
    }

-- ---- vectors for new votes

-- so it is of each, where it is of the one that is new there
pub each_set : (P : Vec Reached Global → Type 0) (spares : List (Vec Reached Global)) (at : ℕ) (y : Vec Reached Global) → ((i : ℕ) (v : Vec Reached Global) → slice_get spares i ≡ Some v → P v) → P y
    → (i : ℕ) (v : Vec Reached Global) → slice_get (slice_set spares at y) i ≡ Some v → P v
each_set P spares at y each new i v e = ⊎_elim (λ is. subst P (sym is) new) (λ old. each i v old) (set_cases spares at y i v e)

pub each_more : (P : Vec Reached Global → Type 0) (spares : List (Vec Reached Global)) (y : Vec Reached Global) → ((i : ℕ) (v : Vec Reached Global) → slice_get spares i ≡ Some v → P v) → P y
    → (i : ℕ) (v : Vec Reached Global) → slice_get (spares ++ y ∷ []) i ≡ Some v → P v
each_more P spares y each new i v e = ⊎_elim (λ old. each i v old) (λ last. subst P (sym last.1) new) (at_more spares y i v e)

set_there : {A : Type 0} (xs : List A) (at : ℕ) (x y : A) → slice_get xs at ≡ Some x → slice_get (slice_set xs at y) at ≡ Some y
set_there [] at x y e = absurd (let no : None ≡ Some x = e in cc)
set_there (z ∷ zs) zero x y e = refl
set_there (z ∷ zs) (suc at) x y e = set_there zs at x y e

-- those before that place hold so many nodes, and now that one does
pub front_set : (n at : ℕ) (spares : List (Vec Reached Global)) (x y : Vec Reached Global) → slice_get spares at ≡ Some x → n ≤ vec_capacity y
    → ((i : ℕ) (v : Vec Reached Global) → i < at → slice_get spares i ≡ Some v → n ≤ vec_capacity v)
    → (i : ℕ) (v : Vec Reached Global) → i < at + 1 → slice_get (slice_set spares at y) i ≡ Some v → n ≤ vec_capacity v
front_set n at spares x y there holds before i v l e =
    ⊎_elim
    (λ less. ⊎_elim (λ is. subst (λ (z : Vec Reached Global). n ≤ vec_capacity z) (sym is) holds) (λ old. before i v less old) (set_cases spares at y i v e))
    (λ past.
    let here : at ≡ i = omega arith in
    let is : y ≡ v = same_some (sym (set_there spares at x y there) ∙ ap (slice_get (slice_set spares at y)) here ∙ e) in
    subst (λ (z : Vec Reached Global). n ≤ vec_capacity z) is holds)
    (cases_lt i at)

-- ---- one vote with more room

-- what is asked of a vote's lead alone
same_set : {A : Type 0} (f : Option Lead → A) (xs : List Lead) (at : ℕ) (x y : Lead) → slice_get xs at ≡ Some x → y.vote ≡ x.vote → f (Some y) ≡ f (Some x) → (vote : Vote ℕ) → f (lead_in (slice_set xs at y) vote) ≡ f (lead_in xs vote)
same_set f [] at x y e v s vote = refl
same_set f (z ∷ zs) zero x y e v s vote =
    go (lead_in zs vote) (vote_eq y.vote vote) (vote_eq z.vote vote)
    (ap (λ (u : Vote ℕ). vote_eq u vote) v ∙ ap (λ (l : Lead). vote_eq l.vote vote) (sym (same_some e)))
  where
    is : f (Some y) ≡ f (Some z)
    is = s ∙ ap (λ (l : Lead). f (Some l)) (sym (same_some e))

    go : (o : Option Lead) (b c : Bool) → b ≡ c → f (later_or o (if b then Some y else None)) ≡ f (later_or o (if c then Some z else None))
    go (Some l) b c same = refl
    go None true c same = is ∙ ap (λ d. f (if d then Some z else None)) same
    go None false c same = ap (λ d. f (if d then Some z else None)) same
same_set f (z ∷ zs) (suc at) x y e v s vote =
    same_set (λ o. f (later_or o (if vote_eq z.vote vote then Some z else None))) zs at x y e v s vote

pub wider_none : (xs : List Lead) → AreWider xs xs
wider_none xs =
    record {
      same = record { last = λ vote. refl; reached = λ vote place node. refl };
      size = refl;
      lasts = λ noted w. w;
      space = λ n has. has;
    }

pub wider_set : (old xs : List Lead) (at : ℕ) (x y : Lead) → AreWider old xs → slice_get xs at ≡ Some x → y.vote ≡ x.vote → y.last ≡ x.last → y.reached.items ≡ x.reached.items → vec_len y.reached ≡ vec_len x.reached → vec_capacity x.reached ≤ vec_capacity y.reached → AreWider old (slice_set xs at y)
wider_set old xs at x y wide there vote last items len capacity =
    record {
      same =
          record {
            last = λ v. same_set last_in xs at x y there vote last v ∙ wide.same.last v;
            reached = λ v place node.
                same_set (λ (o : Option Lead). has_reached (reached_in o) place node) xs at x y there vote (ap (λ rs. has_reached rs place node) items) v
                ∙ wide.same.reached v place node;
          };
      size = length-set xs at y ∙ wide.size;
      lasts = λ noted w i lead e.
          ⊎_elim
          (λ is. subst (λ (l : Lead). IsWithin noted l.last) (sym is) (subst (λ (o : Option ℕ). IsWithin noted o) (sym last) (wide.lasts noted w at x there)))
          (λ before. wide.lasts noted w i lead before)
          (set_cases xs at y i lead e);
      space = λ n has i lead e.
          ⊎_elim
          (λ is. subst (λ (l : Lead). HasSpace l.reached n) (sym is) (let room = wide.space n has at x there in omega arith))
          (λ before. wide.space n has i lead before)
          (set_cases xs at y i lead e);
    }

-- the votes before that place have room, and now that one has
pub space_set : (xs : List Lead) (at n : ℕ) (x y : Lead) → slice_get xs at ≡ Some x → HasSpace y.reached n → ((i : ℕ) (lead : Lead) → i < at → slice_get xs i ≡ Some lead → HasSpace lead.reached n) → (i : ℕ) (lead : Lead) → i < at + 1 → slice_get (slice_set xs at y) i ≡ Some lead → HasSpace lead.reached n
space_set xs at n x y there space before i lead l e =
    ⊎_elim
    (λ less.
    ⊎_elim (λ is. subst (λ (l : Lead). HasSpace l.reached n) (sym is) space) (λ old. before i lead less old) (set_cases xs at y i lead e))
    (λ past.
    let here : at ≡ i = omega arith in
    let is : y ≡ lead = same_some (sym (set_there xs at x y there) ∙ ap (slice_get (slice_set xs at y)) here ∙ e) in
    subst (λ (l : Lead). HasSpace l.reached n) is space)
    (cases_lt i at)

-- ---- the whole of it

-- a slice of all votes was lent, and has more room now
pub wider_through : (n : ℕ) (old reserved lent new : List Lead) → reserved ≡ old → lent ≡ reserved → n ≡ length reserved → AreWider lent new → AreWider old (take n (new ++ drop (length new) reserved))
wider_through n old reserved lent new same is size wide =
    subst (λ (xs : List Lead). AreWider xs (take n (new ++ drop (length new) reserved))) (is ∙ same)
    (subst (AreWider lent) (sym (whole_slice n new reserved (wide.size ∙ ap length is) size)) wide)

pub whole_wider : (voters : List (List ℕ)) (noted noted' : List Noted) (leads leads' : List Lead) (listed listed' : List ℕ) → AreWhole (notes_of voters noted leads listed) → noted' ≡ noted → listed' ≡ listed → AreWider leads leads' → AreWhole (notes_of voters noted' leads' listed')
whole_wider voters noted noted' leads leads' listed listed' w is listed_is wide =
    subst (λ (ns : List Noted). AreWhole (notes_of voters ns leads' listed')) (sym is)
    (subst (λ (ks : List ℕ). AreWhole (notes_of voters noted leads' ks)) (sym listed_is)
    (record { joined = w.joined; leads = wide.lasts noted w.leads; listed = w.listed }))

-- no room is lost
pub room_kept : (old new : Kept) → new.notes.noted ≡ old.notes.noted → AreWider old.notes.leads new.notes.leads → old.fits.noted ≤ new.fits.noted → old.fits.listed ≤ new.fits.listed → old.fits.leads ≤ new.fits.leads
    → length old.fits.spares ≤ length new.fits.spares → ((n : ℕ) → n ≤ length old.fits.spares → EachHolds old.fits.spares n → EachHolds new.fits.spares n)
    → (writes learns : ℕ) → HasRoom old writes learns → HasRoom new writes learns
room_kept old new same wide noted listed leads spares holds writes learns h =
    let count = ap length same in
    let size = wide.size in
    let entries = h.noted in
    let places = h.listed in
    let votes = h.learned.votes in
    let left = h.learned.spares_left in
    record {
      noted = omega arith;
      listed = omega arith;
      learned =
          record {
            votes = omega arith;
            nodes = wide.space learns h.learned.nodes;
            spares_left = omega arith;
            spare_nodes = holds learns h.learned.spares_left h.learned.spare_nodes;
          };
    }
