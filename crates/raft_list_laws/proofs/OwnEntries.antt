-- The ballots of a leader's list rise up to its own, so its own entries stand at the end.
use Rattle.std.specs.Prelude.{◌≡◌, ℕ, ◌≤◌, nat_le, true, false, List, [], ◌∷◌, ◌++◌, length, slice_get, Some, refl}
use Rattle.std.specs.List.{list_any}
use Rattle.std.proofs.Common.{inl, sym, ap, ◌∙◌, subst, arith, ⊎_elim, le-leb, leb-true, length-append}
use Rattle.std.proofs.lemmas.Bool.{and_from, and_parts, cases_Bool}
use Rattle.std.proofs.lemmas.Option.{slice_get_within}
use Rattle.raft_group_step.specs.Values.{Entry, leader_eq}
use Rattle.raft_group_step.proofs.Votes.{leader_eq_same}
use Rattle.raft_laws.specs.BallotRanks.{ballot_entry, rank_of}
use Rattle.raft_laws.specs.GroupWorld.{GroupWorld, Led}
use Rattle.raft_laws.specs.Settled.{is_at_or_after}
use Rattle.raft_laws.proofs.BallotAgreement.{slice_get_end}
use Rattle.raft_laws.proofs.BallotSafe.{Among}
use Rattle.raft_laws.proofs.Counts.{among_any, among_behind, any_among, contains_among}
use Rattle.raft_laws.proofs.HeldLists.{events}
use Rattle.raft_laws.proofs.Ids.{ballot_at}
use Rattle.raft_laws.proofs.Tracking.{index_of}
use Rattle.raft_laws.proofs.VoteRanks.{leader_eq_from, rank_leader}
use Rattle.raft_laws.proofs.WorldFits.{LedFits, after_safe}
use Rattle.raft_laws.proofs.WorldStart.{Founded, founded}
use Rattle.raft_laws.proofs.StepFits.{world_after}
use Rattle.raft_list_laws.specs.Changes.{OwnEntriesComeLast}

module _ (w : GroupWorld) (f : Founded w) (l : Led) (among : Among l w.led) where
  fits : LedFits f.membership (world_after f.membership (events f.membership f.some w f.is)) l
  fits = f.is.matches.fits.led l among

  -- behind an own entry there are own entries alone
  pub own_behind : (i j : ℕ) (x y : Entry) → i ≤ j → slice_get l.list i ≡ Some x → slice_get l.list j ≡ Some y → x.log_id.leader_id ≡ l.vote.leader_id → y.log_id.leader_id ≡ l.vote.leader_id
  own_behind i j x y le at_i at_j own =
      let log = (after_safe f.membership f.some (events f.membership f.some w f.is)).leads (rank_of l.vote.leader_id) in
      let here = sym (fits.front.same i (slice_get_within l.list i x at_i)) ∙ ballot_at l.list i x at_i in
      let there = sym (fits.front.same j (slice_get_within l.list j y at_j)) ∙ ballot_at l.list j y at_j in
      let rises = log.rising i j (ballot_entry x) (ballot_entry y) le here there in
      let capped = log.capped j (ballot_entry y) there in
      let first = ap rank_of own in
      let same : rank_of y.log_id.leader_id ≡ rank_of l.vote.leader_id = omega arith in
      rank_leader y.log_id.leader_id l.vote.leader_id (fits.good.bounded j y at_j) fits.bound same

  module _ (front : List Entry) (last : Entry) (is : l.list ≡ front ++ last ∷ []) (place : ℕ) where
    ends : slice_get l.list (length front) ≡ Some last
    ends = ap (λ xs. slice_get xs (length front)) is ∙ slice_get_end front last

    last_among : Among last l.list
    last_among = subst (Among last) (sym is) (among_behind last front (last ∷ []) (inl refl))

    -- one that passes has the last one behind it
    last_passes : list_any (λ (e : Entry). is_at_or_after l.vote.leader_id place e.log_id) l.list ≡ true → is_at_or_after l.vote.leader_id place last.log_id ≡ true
    last_passes h =
        let x = any_among (λ (e : Entry). is_at_or_after l.vote.leader_id place e.log_id) l.list h in
        let e : Entry = x.0 in
        let at = index_of e l.list x.1 in
        let p = and_parts (leader_eq e.log_id.leader_id l.vote.leader_id) (nat_le place e.log_id.index) x.2 in
        let past = leb-true place e.log_id.index p.1 in
        let size = ap length is ∙ length-append front (last ∷ []) in
        let within = slice_get_within l.list at.0 e at.1 in
        let le : at.0 ≤ length front = omega arith in
        let own = own_behind at.0 (length front) e last le at.1 ends (leader_eq_same e.log_id.leader_id l.vote.leader_id p.0) in
        let here = fits.good.placed at.0 e at.1 in
        let there = fits.good.placed (length front) last ends in
        and_from (leader_eq last.log_id.leader_id l.vote.leader_id) (nat_le place last.log_id.index)
        (leader_eq_from last.log_id.leader_id l.vote.leader_id own)
        (le-leb place last.log_id.index (omega arith))

    same_answer : list_any (λ (e : Entry). is_at_or_after l.vote.leader_id place e.log_id) l.list ≡ is_at_or_after l.vote.leader_id place last.log_id
    same_answer =
        ⊎_elim
        (λ yes. yes ∙ sym (last_passes yes))
        (λ none.
        ⊎_elim
        (λ passes. absurd (let e : true ≡ false = sym (among_any (λ (e : Entry). is_at_or_after l.vote.leader_id place e.log_id) l.list last last_among passes) ∙ none in cc))
        (λ fails. none ∙ sym fails)
        (cases_Bool (is_at_or_after l.vote.leader_id place last.log_id)))
        (cases_Bool (list_any (λ (e : Entry). is_at_or_after l.vote.leader_id place e.log_id) l.list))

pub own_entries_come_last : OwnEntriesComeLast
own_entries_come_last ids rs end h l c front last is place =
    same_answer end (founded ids h.node_ids rs end h.replays) l (contains_among end.led l c) front last is place
