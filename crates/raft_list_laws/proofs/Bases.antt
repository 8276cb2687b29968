-- What a new leader took over was noted before.
use Rattle.std.proofs.Common.{inl, inr, sym, ap, ◌∙◌, subst, arith, ⊎_elim}
use Rattle.std.proofs.lemmas.Option.{none-some, slice_get_within}
use Rattle.raft_values.specs.declared.vote.LeaderId.{LeaderId}
use Rattle.raft_values.specs.declared.vote.Vote.{Vote}
use Rattle.raft_group_step.specs.Values.{Entry, is_written_by}
use Rattle.raft_laws.specs.BallotLists.{AgreeBelow}
use Rattle.raft_laws.specs.BallotRanks.{ballot_log, rank_of}
use Rattle.raft_laws.specs.GroupWorld.{GroupWorld, Led, Recorded}
use Rattle.raft_laws.specs.OneList.{IsGroupHistory}
use Rattle.raft_laws.proofs.BallotAgreement.{agree_less, agree_sym, agree_trans, some_at}
use Rattle.raft_laws.proofs.BallotSafe.{among_at}
use Rattle.raft_laws.proofs.SettledFits.{same_lists}
use Rattle.raft_laws.proofs.StepEntries.{each_at}
use Rattle.raft_laws.proofs.WorldStart.{Founded, founded}
use Rattle.raft_list_laws.specs.Bases.{BasesWereNoted, WasNotedBefore, base_of, before_own}
use Rattle.raft_list_laws.proofs.Matching.{agrees_with_ballot, ballots}
use Rattle.std.specs.Prelude.{◌≡◌, ◌⊎◌, ℕ, zero, suc, ◌<◌, ◌≤◌, cond, Bool, true, false, List, [], ◌∷◌, length, slice_get, Some, refl}
use Rattle.raft_laws.proofs.VoteRanks.{leader_eq_from}
use Rattle.raft_list_laws.proofs.OwnNotes.{KnownBelow, OwnNoted}
use Rattle.raft_list_laws.proofs.NotedWorlds.{all_known}
use Rattle.raft_values.specs.declared.log_id.LogId.{LogId}

-- ---- what a leader took over

module _ (leader : LeaderId ℕ) where
  abbrev pub IsTaken : List Entry → List Entry → Type 0
  IsTaken taken xs = (i : ℕ) (e : Entry) → slice_get taken i ≡ Some e → (slice_get xs i ≡ Some e) × (is_written_by leader e ≡ false)

  one_more_taken : (x : Entry) (taken xs : List Entry) → is_written_by leader x ≡ false → IsTaken taken xs → IsTaken (x ∷ taken) (x ∷ xs)
  one_more_taken x taken xs is rest zero e here = let same : x ≡ e = cc in (here, subst (λ (y : Entry). is_written_by leader y ≡ false) same is)
  one_more_taken x taken xs is rest (suc i) e past = rest i e past

  taken_if : (x : Entry) (taken xs : List Entry) (b : Bool) → is_written_by leader x ≡ b → IsTaken taken xs → IsTaken (cond b [] (x ∷ taken)) (x ∷ xs)
  taken_if x taken xs true is rest = λ i e none. absurd (none-some _ none)
  taken_if x taken xs false is rest = one_more_taken x taken xs is rest

  pub before_front : (xs : List Entry) → IsTaken (before_own leader xs) xs
  before_front [] = λ i e none. absurd (none-some _ none)
  before_front (x ∷ xs) = taken_if x (before_own leader xs) xs (is_written_by leader x) refl (before_front xs)

  pub before_agrees : (xs : List Entry) → AgreeBelow (length (before_own leader xs)) (before_own leader xs) xs
  before_agrees xs =
      record {
        left = omega arith;
        right = short (length (before_own leader xs)) refl;
        same = λ j l. let x = some_at (before_own leader xs) j l in x.1 ∙ sym (before_front xs j x.0 x.1).0;
      }
    where
      short : (size : ℕ) → length (before_own leader xs) ≡ size → length (before_own leader xs) ≤ length xs
      short zero is = omega arith
      short (suc size) is =
          let x = some_at (before_own leader xs) size (omega arith) in
          let within = slice_get_within xs size x.0 (before_front xs size x.0 x.1).0 in
          omega arith

module _ (ids : List ℕ) (rs : List Recorded) (end : GroupWorld) (h : IsGroupHistory ids rs end) (note : ℕ) (l : Led) (at : slice_get end.led note ≡ Some l) where
  f : Founded end
  f = founded ids h.node_ids rs end h.replays

  -- the last entry that the leader took over was noted by its own leader
  last_noted : (size : ℕ) → length (base_of l) ≡ suc size → (e : Entry) → slice_get (base_of l) size ≡ Some e → OwnNoted end.led note e → WasNotedBefore end note l.vote (base_of l)
  last_noted size is e there o =
      let among = among_at end.led note l at in
      let other = among_at end.led o.number o.note o.there in
      let in_list = before_front l.vote.leader_id l.list size e there in
      let place = (f.is.matches.fits.led l among).good.placed size e in_list.0 in
      let first = agrees_with_ballot end f l among size e in_list.0 in
      let within : size < length o.note.list = let r = o.reaches in omega arith in
      let front = (f.is.matches.fits.led o.note other).front in
      record {
        number = o.number;
        earlier = o.earlier;
        other = o.note;
        there = o.there;
        of_other = λ same.
            let own : e.log_id.leader_id ≡ l.vote.leader_id = sym o.own ∙ ap (λ (v : Vote ℕ). v.leader_id) same in
            let no : false ≡ true = sym in_list.1 ∙ leader_eq_from e.log_id.leader_id l.vote.leader_id own in
            cc;
        front =
            let list = (ballots end f).lead in
            let second : AgreeBelow (suc size) (ballot_log o.note.list) (list (rank_of e.log_id.leader_id)) =
            agree_less (suc size) within (subst (λ (x : LeaderId ℕ). AgreeBelow (length o.note.list) (ballot_log o.note.list) (list (rank_of x))) o.own front)
            in
            let same = same_lists (suc size) (f.is.matches.fits.led l among).good (f.is.matches.fits.led o.note other).good (agree_trans first (agree_sym second)) in
            agree_trans (before_agrees l.vote.leader_id l.list) (subst (λ n. AgreeBelow n l.list o.note.list) (sym is) same);
      }

  noted_before : (size : ℕ) → length (base_of l) ≡ size → (length (base_of l) ≤ 1) ⊎ WasNotedBefore end note l.vote (base_of l)
  noted_before zero is = inl (omega arith)
  noted_before (suc zero) is = inl (omega arith)
  noted_before (suc (suc size)) is =
      let x = some_at (base_of l) (suc size) (omega arith) in
      let e : Entry = x.0 in
      let in_list = before_front l.vote.leader_id l.list (suc size) e x.1 in
      let place = (f.is.matches.fits.led l (among_at end.led note l at)).good.placed (suc size) e in_list.0 in
      ⊎_elim
      (λ own. absurd (let no : false ≡ true = sym in_list.1 ∙ leader_eq_from e.log_id.leader_id l.vote.leader_id own in cc))
      (λ known. ⊎_elim (λ first. absurd (let index = ap (λ (id : LogId ℕ). id.index) first in omega arith)) (λ o. inr (last_noted (suc size) is e x.1 o)) known)
      (each_at (λ (y : Entry). (y.log_id.leader_id ≡ l.vote.leader_id) ⊎ KnownBelow end.led note y) l.list (suc size) e
      ((all_known ids h.node_ids rs end h.replays).bases note l at) in_list.0)

pub bases_were_noted : BasesWereNoted
bases_were_noted ids rs end h note l at = noted_before ids rs end h note l at (length (base_of l)) refl
