-- Noted lists are fronts of the ballots' lists, which are the same up to an entry of one ballot.
use Rattle.std.specs.Prelude.{◌≡◌, ℕ, suc, slice_get, Some}
use Rattle.std.proofs.Common.{sym, ap, ◌∙◌, subst, arith}
use Rattle.std.proofs.lemmas.Option.{slice_get_within}
use Rattle.raft_group_step.specs.Values.{Entry}
use Rattle.raft_laws.specs.BallotLists.{AgreeBelow}
use Rattle.raft_laws.specs.BallotRanks.{ballot_entry, ballot_log, rank_of}
use Rattle.raft_laws.specs.BallotWorld.{BallotWorld}
use Rattle.raft_laws.specs.GroupWorld.{GroupWorld, Led}
use Rattle.raft_laws.proofs.BallotAgreement.{agree_less, agree_sym, agree_trans}
use Rattle.raft_laws.proofs.BallotSafe.{Among}
use Rattle.raft_laws.proofs.Counts.{contains_among}
use Rattle.raft_laws.proofs.HeldLists.{events}
use Rattle.raft_laws.proofs.Ids.{ballot_at}
use Rattle.raft_laws.proofs.SettledFits.{same_lists}
use Rattle.raft_laws.proofs.WorldFits.{LedFits, after_safe}
use Rattle.raft_laws.proofs.WorldStart.{Founded, founded}
use Rattle.raft_laws.proofs.StepFits.{world_after}
use Rattle.raft_list_laws.specs.Changes.{NotedListsAgree}

module _ (w : GroupWorld) (f : Founded w) where
  abbrev pub ballots : BallotWorld
  ballots = world_after f.membership (events f.membership f.some w f.is)

  -- up to an entry a noted list is that of the entry's ballot
  pub agrees_with_ballot : (l : Led) → Among l w.led → (i : ℕ) (x : Entry) → slice_get l.list i ≡ Some x → AgreeBelow (suc i) (ballot_log l.list) (ballots.lead (rank_of x.log_id.leader_id))
  agrees_with_ballot l among i x at =
      let fits : LedFits f.membership ballots l = f.is.matches.fits.led l among in
      let within = slice_get_within l.list i x at in
      let log = (after_safe f.membership f.some (events f.membership f.some w f.is)).leads (rank_of l.vote.leader_id) in
      let here = sym (fits.front.same i within) ∙ ballot_at l.list i x at in
      agree_trans (agree_less (suc i) within fits.front) (log.matches i (ballot_entry x) here)

  pub same_up_to : (one other : Led) → Among one w.led → Among other w.led → (i j : ℕ) (x y : Entry) → slice_get one.list i ≡ Some x → slice_get other.list j ≡ Some y → x.log_id ≡ y.log_id → (i ≡ j) × AgreeBelow (suc i) one.list other.list
  same_up_to one other a b i j x y p q same =
      let fits : LedFits f.membership ballots one = f.is.matches.fits.led one a in
      let fits' : LedFits f.membership ballots other = f.is.matches.fits.led other b in
      let index = ap (λ id. id.index) same in
      let placed = fits.good.placed i x p in
      let placed' = fits'.good.placed j y q in
      let place : i ≡ j = omega arith in
      let first = agrees_with_ballot one a i x p in
      let second = subst (λ n. AgreeBelow (suc n) (ballot_log other.list) (ballots.lead (rank_of y.log_id.leader_id))) (sym place) (agrees_with_ballot other b j y q) in
      let third = subst (λ id. AgreeBelow (suc i) (ballot_log other.list) (ballots.lead (rank_of id.leader_id))) (sym same) second in
      (place, same_lists (suc i) fits.good fits'.good (agree_trans first (agree_sym third)))

pub noted_lists_agree : NotedListsAgree
noted_lists_agree ids rs end h one other a b =
    same_up_to end (founded ids h.node_ids rs end h.replays) one other (contains_among end.led one a) (contains_among end.led other b)
