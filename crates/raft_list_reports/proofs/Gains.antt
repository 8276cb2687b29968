-- Behind a leader's last list its node has one entry more at most, and one that the node's event asked for.
use Rattle.std.specs.Prelude.{◌≡◌, ◌⊎◌, ℕ, ◌<◌, ◌≤◌, List, [], ◌∷◌, ◌++◌, length, slice_get, Some}
use Rattle.std.proofs.Common.{inl, inr, sym, ap, ◌∙◌, subst, arith, ⊎_elim}
use Rattle.raft_values.specs.declared.vote.LeaderId.{LeaderId}
use Rattle.raft_values.specs.declared.vote.Vote.{Vote}
use Rattle.raft_values.specs.declared.log_id.LogId.{LogId}
use Rattle.raft_state.specs.declared.entry.EntryPayload.TheVariants.{Blank}
use Rattle.raft_group_step.specs.Values.{Entry}
use Rattle.raft_laws.specs.BallotLists.{AgreeBelow}
use Rattle.raft_laws.specs.GroupWorld.{GroupWorld, Led}
use Rattle.raft_laws.proofs.BallotAgreement.{agree_none}
use Rattle.raft_laws.proofs.BallotSafe.{Among, among_at}
use Rattle.raft_laws.proofs.Counts.{among_contains, contains_among}
use Rattle.raft_list_laws.specs.Accounts.{Accounts, AreTrue}
use Rattle.raft_list_laws.specs.NewEntries.{GoesOnByOne}
use Rattle.raft_list_laws.proofs.NewEntries.{as_behind, one_past}
use Rattle.raft_list_laws.proofs.OwnNotes.{Known, OwnNew}
use Rattle.raft_list_laws.proofs.Parts.{agree_whole}

-- ---- what accounts keep under a vote

-- accounts of more notes have a front of the others' list under the vote
same_front : (a b : Accounts) (v u : GroupWorld) → AreTrue a v → AreTrue b u → (vote : Vote ℕ) → ((x : Led) → Among x v.led → x.vote ≡ vote → Among x u.led) → AgreeBelow (length (a.latest vote)) (a.latest vote) (b.latest vote)
same_front a b v u t t' vote within =
    ⊎_elim
    (λ none. subst (λ (xs : List Entry). AgreeBelow (length xs) xs (b.latest vote)) (sym none) (agree_none (b.latest vote)))
    (λ x.
    let there = among_contains u.led x.0 (within x.0 (contains_among v.led x.0 x.1) x.2) in
    let front = subst (λ (y : Vote ℕ). AgreeBelow (length x.0.list) x.0.list (b.latest y)) x.2 (t'.notes.latest x.0 there) in
    subst (λ (xs : List Entry). AgreeBelow (length xs) xs (b.latest vote)) x.3 front)
    (t.notes.noted vote)

-- accounts of the same notes under a vote have one list there
pub same_latest : (a b : Accounts) (v u : GroupWorld) → AreTrue a v → AreTrue b u → (vote : Vote ℕ) → ((x : Led) → Among x v.led → x.vote ≡ vote → Among x u.led) → ((x : Led) → Among x u.led → x.vote ≡ vote → Among x v.led) → a.latest vote ≡ b.latest vote
same_latest a b v u t t' vote there back =
    let one = same_front a b v u t t' vote there in
    let other = same_front b a u v t' t vote back in
    let short = one.right in
    let long = other.right in
    agree_whole (a.latest vote) (b.latest vote) one (omega arith)

pub one_latest : (a b : Accounts) (v u : GroupWorld) → AreTrue a v → AreTrue b u → v.led ≡ u.led → (vote : Vote ℕ) → a.latest vote ≡ b.latest vote
one_latest a b v u t t' same vote =
    same_latest a b v u t t' vote (λ x among is. subst (Among x) same among) (λ x among is. subst (Among x) (sym same) among)

-- ---- what is new

-- a list of the vote's leader that goes on from the last one that was noted
pub record Continues (led : List Led) (vote : Vote ℕ) (latest xs : List Entry) : Type 0 where
  pub goes_on : AgreeBelow (length latest) latest xs
  pub own : (i : ℕ) (e : Entry) → length latest ≤ i → slice_get xs i ≡ Some e → e.log_id.leader_id ≡ vote.leader_id
  pub placed : (i : ℕ) (e : Entry) → slice_get xs i ≡ Some e → e.log_id.index ≡ i
  pub term : 0 < vote.leader_id.term
  pub last : Led
  pub among : Among last led
  pub of_vote : last.vote ≡ vote
  pub longest : (x : Led) → Among x led → x.vote.leader_id ≡ vote.leader_id → length x.list ≤ length latest

module _ (led : List Led) (vote : Vote ℕ) (latest xs : List Entry) (c : Continues led vote latest xs) where
  -- what is past it wasn't noted
  pub past_unknown : (i : ℕ) (e : Entry) → length latest ≤ i → slice_get xs i ≡ Some e → Known led e → ⊥
  past_unknown i e le at known =
      let own = c.own i e le at in
      ⊎_elim
      (λ first.
      let zero = ap (λ (id : LogId ℕ). id.leader_id.term) first in
      let its = ap (λ (x : LeaderId ℕ). x.term) own in
      let term = c.term in
      absurd (omega arith))
      (λ o.
      let short = c.longest o.note (among_at led o.number o.note o.there) (o.own ∙ own) in
      let reach = o.reaches in
      let place = c.placed i e at in
      absurd (omega arith))
      known

  -- what is new stands right behind it, and isn't blank
  past_new : (node place i : ℕ) (e : Entry) → length latest ≤ i → slice_get xs i ≡ Some e → OwnNew led place node vote e → (i ≡ length latest) × (e.payload ≡ Blank → ⊥)
  past_new node place i e le at new =
      let index = new.1.0 in
      let here = c.placed i e at in
      ⊎_elim
      (λ whole.
      let sized = whole.0.sized in
      let short = c.longest whole.0.note whole.0.among (ap (λ (v : Vote ℕ). v.leader_id) whole.0.of_vote) in
      (omega arith, whole.1))
      (λ first. absurd (first.0 c.last c.among (ap (λ (v : Vote ℕ). v.leader_id) c.of_vote)))
      new.1.1

  module _ (node place : ℕ) (P : Entry → Type 0) (known_or_new : (e : Entry) → Among e xs → Known led e ⊎ OwnNew led place node vote e) (asked : (e : Entry) → Among e xs → e.log_id.leader_id ≡ vote.leader_id → (Known led e → ⊥) → (e.payload ≡ Blank → ⊥) → P e) where
    each_new : (i : ℕ) (e : Entry) → length latest ≤ i → slice_get xs i ≡ Some e → (i ≡ length latest) × P e
    each_new i e le at =
        let among = among_at xs i e at in
        ⊎_elim
        (λ known. absurd (past_unknown i e le at known))
        (λ new.
        let is = past_new node place i e le at new in
        (is.0, asked e among (c.own i e le at) (λ known. past_unknown i e le at known) is.1))
        (known_or_new e among)

    pub gained : GoesOnByOne vote latest P xs
    gained =
        ⊎_elim
        (λ same. inl same)
        (λ x.
        let own = c.own (length latest) x.0 (omega arith) x.3 in
        let is = as_behind vote latest x.0 own (c.placed (length latest) x.0 x.3) in
        inr (x.0.payload, x.1 ∙ ap (λ (e : Entry). latest ++ e ∷ []) is, subst P is x.2))
        (one_past xs latest P c.goes_on each_new)
