-- What nodes hold, as the ballot machine's logs: leaders hold what is settled, and a log id is of one entry.
use Rattle.std.specs.Prelude.{◌≡◌, ℕ, suc, ◌<◌, ◌≤◌, ◌^◌, true, false, List, [], ◌++◌, length, take, slice_get, Some, None}
use Rattle.std.proofs.Common.{sym, ap, ◌∙◌, subst, arith, ⊎_elim, append-nil, eq-eqb, lt-ltb, length-take-le}
use Rattle.std.proofs.lemmas.Bool.{and_from}
use Rattle.std.proofs.lemmas.Option.{slice_get_within}
use Rattle.raft_values.specs.declared.vote.Vote.{Vote}
use Rattle.raft_group_step.specs.Values.{Membership, Entry, vote_lt}
use Rattle.raft_group_step.specs.StoredGroup.{StoredGroup, Holds, held}
use Rattle.raft_group_step.specs.GroupState.{GroupState, Role, Follower, Candidate, Leader, is_leader}
use Rattle.raft_laws.specs.BallotLists.{AgreeBelow}
use Rattle.raft_laws.specs.BallotLogs.{BallotEntry}
use Rattle.raft_laws.specs.BallotWorld.{BallotWorld, BallotEvent, is_ballot_leader}
use Rattle.raft_laws.specs.BallotSettled.{ballot_list}
use Rattle.raft_laws.specs.BallotRanks.{rank_of, owner_of, ballot_entry, ballot_log, ballot_group}
use Rattle.raft_laws.specs.GroupWorld.{GroupWorld, NodeState, Absent, Up, Down, Led}
use Rattle.raft_laws.specs.Settled.{count_to_last, group_list, is_accepted_by_quorum, settled_part}
use Rattle.raft_laws.specs.VotesRise.{stored_of}
use Rattle.raft_laws.proofs.BallotAgreement.{agree_less, agree_sym, agree_trans, same_some}
use Rattle.raft_laws.proofs.BallotSafe.{Among}
use Rattle.raft_laws.proofs.BallotSettling.{leaders_have, one_entry}
use Rattle.raft_laws.proofs.VoteOrders.{VoteOrder, lower, earlier, level, later, higher, vote_order, differ_flags}
use Rattle.raft_laws.proofs.VoteRanks.{rank_below, rank_same}
use Rattle.raft_laws.proofs.Shapes.{Good, joined_held}
use Rattle.raft_laws.proofs.Ids.{ballot_at}
use Rattle.raft_laws.proofs.Standing.{RoleFits, StoredFits}
use Rattle.raft_laws.proofs.StepFits.{NodeFits, world_after}
use Rattle.raft_laws.proofs.WorldFits.{NodeStateFits, WorldFits, owned, positive}
use Rattle.raft_laws.proofs.WorldStart.{IsFounded}
use Rattle.raft_laws.proofs.Counts.{count_from}
use Rattle.raft_laws.proofs.SettledFits.{same_lists, settled_fits}
use Rattle.raft_laws.proofs.GroupList.{list_front, part_of, part_short}
use Rattle.raft_laws.proofs.StepOpening.{stale_held}

-- a vote that isn't below another is of no lesser ballot
pub rank_not_below : (a b : Vote ℕ) → b.leader_id.node_id < 2 ^ 64 → vote_lt a b ≡ false → rank_of b.leader_id ≤ rank_of a.leader_id
rank_not_below a b small t = go (vote_order a b)
  where
    go : VoteOrder a b → rank_of b.leader_id ≤ rank_of a.leader_id
    go (lower l o) = differ_flags (vote_lt a b) o t
    go (earlier e f p q o) = differ_flags (vote_lt a b) o t
    go (level e f p o) = let s = rank_same a.leader_id b.leader_id e f in omega arith
    go (later e f p q o) = let s = rank_same a.leader_id b.leader_id e f in omega arith
    go (higher l o) = let s = rank_below b.leader_id a.leader_id small l in omega arith

-- the list that a node holds is the machine's log
pub record HoldsLog (m : Membership) (log : List BallotEntry) (st : StoredGroup) : Type 0 where
  pub good : Good m 0 (held st)
  pub is : log ≡ ballot_log (held st)

holds_as : (m : Membership) (b : BallotWorld) (n : ℕ) (st : StoredGroup) (xs : List Entry) → held st ≡ xs → StoredFits m (b.node n) st xs → HoldsLog m (b.node n).log st
holds_as m b n st xs is f = record { good = subst (Good m 0) (sym is) f.good; is = f.log ∙ ap ballot_log (sym is) }

pub node_holds : (m : Membership) (b : BallotWorld) (n : ℕ) (x : NodeState) (st : StoredGroup) → NodeStateFits m b n x → stored_of x ≡ Some st → HoldsLog m (b.node n).log st
node_holds m b n Absent st f e = absurd (let no : None ≡ Some st = e in cc)
node_holds m b n (Up s) st f e =
    let u = f.1.up in
    subst (HoldsLog m (b.node n).log) (same_some e)
    (holds_as m b n s.stored u.list (joined_held s.stored u.list u.joined) u.fits)
node_holds m b n (Down stored) st f e =
    let d = f.1.down in
    subst (HoldsLog m (b.node n).log) (same_some e)
    (holds_as m b n stored d.list
    (⊎_elim (λ j. joined_held stored d.list j) (λ s. stale_held stored d.list s) d.shape)
    d.fits)

-- the same of a node in a world that fits
pub at_node : (m : Membership) (b : BallotWorld) (w : GroupWorld) → WorldFits m b w → (n : ℕ) (x : NodeState) → w.nodes n ≡ x → NodeStateFits m b n x
at_node m b w f n x e = subst (NodeStateFits m b n) e (f.nodes n)

module _ (m : Membership) (some : 0 < length m.configs) (w : GroupWorld) (f : IsFounded m some w) where
  abbrev pub events : List BallotEvent
  events = f.matches.before

  abbrev pub machine : BallotWorld
  machine = world_after m events

  -- what a node holds up to each place where it agrees with the machine's list is the group's list
  pub holds_list : (n : ℕ) (st : StoredGroup) (k : ℕ) → HoldsLog m (machine.node n).log st → AgreeBelow k (machine.node n).log (ballot_list (ballot_group m) machine) → k ≤ length (group_list w) → AgreeBelow k (held st) (group_list w)
  holds_list n st k h a le =
      let front = list_front m some w f in
      same_lists k h.good front.good
      (agree_trans (subst (λ l. AgreeBelow k l (ballot_list (ballot_group m) machine)) h.is a) (agree_sym (agree_less k le front.front)))

  pub as_holds : (st : StoredGroup) (place : ℕ) → AgreeBelow (suc place) (held st) (group_list w) → Holds st (group_list w) place
  as_holds st place a =
      record { reaches = a.left; is_listed = a.right; same = λ i l. a.same i (omega arith) }

  -- ---- leaders

  leading : (n : ℕ) (s : GroupState) → NodeFits m machine n s → (role : Role) → RoleFits n machine s.stored.vote (held s.stored) role → is_leader role ≡ true → is_ballot_leader (ballot_group m) n (machine.node n) ≡ true
  leading n s fits Follower h t = absurd (let e : false ≡ true = t in cc)
  leading n s fits (Candidate granters) h t = absurd (let e : false ≡ true = t in cc)
  leading n s fits (Leader lead) h t =
      let same : (machine.node n).ballot ≡ rank_of s.stored.vote.leader_id = fits.up.fits.ballot in
      let pos : 0 < (machine.node n).ballot = omega (arith, positive m some events n s fits.up h.0 h.1) in
      and_from ((machine.node n).committed) _ (fits.up.fits.committed ∙ h.0.flag)
      (and_from _ _ (lt-ltb 0 (machine.node n).ballot pos)
      (eq-eqb (owner_of (machine.node n).ballot) n (ap owner_of same ∙ owned m some events n s fits.up h.0 h.1)))

  module _ (setup : w.setup ≡ Some m) (l : Led) (among : Among l w.led) (i : ℕ) (e : Entry) (there : slice_get (settled_part w l) i ≡ Some e) (n : ℕ) (s : GroupState) (fits : NodeFits m machine n s) (leads : is_leader s.role ≡ true) (above : vote_lt s.stored.vote l.vote ≡ false) where
    note_holds : AgreeBelow (suc i) (machine.node n).log (ballot_list (ballot_group m) machine)
    note_holds =
        let counts = count_from (is_accepted_by_quorum w l.vote) 0 0 l.list (omega arith) in
        let c = count_to_last (is_accepted_by_quorum w l.vote) 0 0 l.list in
        let within = slice_get_within (settled_part w l) i e there in
        let inside : c ≤ length l.list = omega (arith, counts.within) in
        let size : length (take c l.list) ≡ c = length-take-le c l.list inside in
        let up = f.matches.fits.led l among in
        let same : (machine.node n).ballot ≡ rank_of s.stored.vote.leader_id = fits.up.fits.ballot in
        let le = rank_not_below s.stored.vote l.vote up.bound above in
        ⊎_elim
        (λ none. absurd (omega arith))
        (λ x.
        let settled = settled_fits m machine w f.matches.fits setup l among x.0 x.1 x.2 x.3 in
        let rank = rank_of l.vote.leader_id in
        let lead = leading n s fits s.role fits.role leads in
        let nil : events ++ [] ≡ events = append-nil events in
        let all : AgreeBelow (suc x.0) (machine.node n).log (ballot_list (ballot_group m) machine) =
        subst (λ es. is_ballot_leader (ballot_group m) n ((world_after m es).node n) ≡ true → rank ≤ ((world_after m es).node n).ballot → AgreeBelow (suc x.0) ((world_after m es).node n).log (ballot_list (ballot_group m) machine)) nil
        (leaders_have (ballot_group m) some events [] rank x.0 n settled) lead (omega arith)
        in
        agree_less (suc i) (omega (arith, x.4)) all)
        counts.last

    pub leader_holds : Holds s.stored (group_list w) e.log_id.index
    leader_holds =
        let within = slice_get_within (settled_part w l) i e there in
        let place = (part_of m some w f l among).good.placed i e there in
        let same : i ≡ e.log_id.index = omega arith in
        let long = part_short m some w f l among in
        let u = fits.up in
        subst (Holds s.stored (group_list w)) same
        (as_holds s.stored i
        (holds_list n s.stored (suc i) (holds_as m machine n s.stored u.list (joined_held s.stored u.list u.joined) u.fits) note_holds (omega arith)))

  -- ---- a log id is of one entry

  module _ (one other : ℕ) (a b : StoredGroup) (holds : HoldsLog m (machine.node one).log a) (also : HoldsLog m (machine.node other).log b) where
    pub one_id : (i j : ℕ) (x y : Entry) → slice_get (held a) i ≡ Some x → slice_get (held b) j ≡ Some y → x.log_id ≡ y.log_id → (x ≡ y) × AgreeBelow (suc i) (held a) (held b)
    one_id i j x y e h same =
        let p = holds.good.placed i x e in
        let q = also.good.placed j y h in
        let index = ap (λ id. id.index) same in
        let place : j ≡ i = omega arith in
        let h' : slice_get (held b) i ≡ Some y = ap (slice_get (held b)) (sym place) ∙ h in
        let agree = one_entry (ballot_group m) some events one other i (ballot_entry x) (ballot_entry y)
        (ap (λ l. slice_get l i) holds.is ∙ ballot_at (held a) i x e)
        (ap (λ l. slice_get l i) also.is ∙ ballot_at (held b) i y h')
        (ap (λ id. rank_of id.leader_id) same)
        in
        let lists = same_lists (suc i) holds.good also.good (subst (λ l. AgreeBelow (suc i) l (ballot_log (held b))) holds.is (subst (AgreeBelow (suc i) (machine.node one).log) also.is agree)) in
        (same_some (sym e ∙ lists.same i (omega arith) ∙ h'), lists)
