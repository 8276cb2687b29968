-- A leader only appends: its notes are fronts of one another, and of what it has stored.
use Rattle.std.specs.Prelude.{◌≡◌, ℕ, ◌+◌, ◌<◌, ◌≤◌, ◌^◌, true, List, [], ◌∷◌, ◌++◌, length, slice_get, Some, None, refl}
use Rattle.std.proofs.Common.{sym, ap, ◌∙◌, subst, arith, ⊎_elim, length-append}
use Rattle.std.proofs.lemmas.Bool.{cases_lt}
use Rattle.std.proofs.lemmas.Option.{slice_get_within}
use Rattle.raft_values.specs.declared.vote.Vote.{Vote}
use Rattle.raft_group_step.specs.Values.{Membership}
use Rattle.raft_group_step.specs.StoredGroup.{StoredGroup, held}
use Rattle.raft_group_step.specs.GroupState.{GroupState, Lead, Leader}
use Rattle.raft_laws.specs.BallotLists.{AgreeBelow}
use Rattle.raft_laws.specs.BallotWorld.{BallotEvent, BallotWorld}
use Rattle.raft_laws.specs.BallotRanks.{rank_of, owner_of, ballot_log}
use Rattle.raft_laws.specs.GroupWorld.{GroupWorld, NodeState, Absent, Up, Down, Led, Recorded, new_world}
use Rattle.raft_laws.specs.GroupRun.{Replays, happens}
use Rattle.raft_laws.specs.VotesRise.{stored_of}
use Rattle.raft_laws.specs.OneList.{AreNodeIds}
use Rattle.raft_laws.proofs.BallotAgreement.{same_some, slice_get-append}
use Rattle.raft_laws.proofs.BallotSafe.{Among, among_at}
use Rattle.raft_laws.proofs.VoteRanks.{owner_is}
use Rattle.raft_laws.proofs.Shapes.{slice_after}
use Rattle.raft_laws.proofs.Standing.{OwnVote, RoleFits}
use Rattle.raft_laws.proofs.StepFits.{NodeFits, world_after}
use Rattle.raft_laws.proofs.WorldFits.{LedFits, NodeStateFits, WorldFits, after_safe, lead_list}
use Rattle.raft_laws.proofs.WorldRuns.{among_either}
use Rattle.raft_laws.proofs.WorldStart.{Founded, founded}
use Rattle.raft_laws.proofs.Counts.{contains_at}
use Rattle.raft_laws.proofs.SettledFits.{same_lists}
use Rattle.raft_laws.proofs.HeldLists.{HoldsLog, at_node, events, machine, node_holds}
use Rattle.raft_history_laws.specs.LeaderLists.{LeaderListsGrow, LedListsAreStored}
use Rattle.raft_history_laws.proofs.Along.{along, one_more}
use Rattle.raft_history_laws.proofs.Notes.{NewNote, event_notes, note_of}

-- what stands behind a note and what stands at its place
last_is : {A : Type 0} (xs : List A) (y x : A) (i : ℕ) → length xs ≤ i → slice_get (xs ++ y ∷ []) i ≡ Some x → x ≡ y
last_is xs y x i le e =
    let within = slice_get_within (xs ++ y ∷ []) i x e in
    let size = length-append xs (y ∷ []) in
    let here : length xs + 0 ≡ i = omega arith in
    same_some (sym e ∙ ap (slice_get (xs ++ y ∷ [])) (sym here) ∙ slice_after xs (y ∷ []) 0)

module _ (ids : List ℕ) (small : AreNodeIds ids) (rs : List Recorded) (w : GroupWorld) (run : Replays (new_world ids) rs w) where
  f : Founded w
  f = founded ids small rs w run

  abbrev b : BallotWorld
  b = machine f.membership f.some w f.is

  module _ (n : ℕ) (s : GroupState) (lead : Lead) (up : w.nodes n ≡ Up s) (leads : s.role ≡ Leader lead) where
    fits : NodeFits f.membership b n s
    fits = (at_node f.membership b w f.is.matches.fits n (Up s) up).1

    role : RoleFits n b s.stored.vote (held s.stored) (Leader lead)
    role = subst (RoleFits n b s.stored.vote (held s.stored)) leads fits.role

    -- a node that leads does so under its own vote
    pub leader_vote : OwnVote n s.stored.vote true
    leader_vote = role.0

    -- each note under its vote is a front of what it holds
    pub leader_front : (l : Led) → Among l w.led → l.vote ≡ s.stored.vote → AgreeBelow (length l.list) l.list (held s.stored)
    leader_front l a same =
        let g : LedFits f.membership b l = f.is.matches.fits.led l a in
        let holds : HoldsLog f.membership (b.node n).log s.stored = node_holds f.membership b n (Up s) s.stored (at_node f.membership b w f.is.matches.fits n (Up s) up) refl in
        let whole = lead_list f.membership f.some (events f.membership f.some w f.is) n s fits.up role.0 role.1 in
        same_lists (length l.list) g.good holds.good
        (subst (AgreeBelow (length l.list) (ballot_log l.list)) (ap (λ (v : Vote ℕ). b.lead (rank_of v.leader_id)) same ∙ whole) g.front)

-- ---- the earlier is a front of the later

abbrev Grows : GroupWorld → Type 0
Grows w =
    (i j : ℕ) (early late : Led) → i ≤ j → slice_get w.led i ≡ Some early → slice_get w.led j ≡ Some late
    → early.vote ≡ late.vote → AgreeBelow (length early.list) early.list late.list

module _ (ids : List ℕ) (small : AreNodeIds ids) where
  grows_next : (w w' : GroupWorld) (rs : List Recorded) → Replays (new_world ids) rs w' → Grows w → NewNote w w' → Grows w'
  grows_next w w' rs run g x i j early late le p q same =
      let first : slice_get (w.led ++ note_of x.node x.state ∷ []) i ≡ Some early = ap (λ ls. slice_get ls i) (sym x.led) ∙ p in
      let second : slice_get (w.led ++ note_of x.node x.state ∷ []) j ≡ Some late = ap (λ ls. slice_get ls j) (sym x.led) ∙ q in
      ⊎_elim
      (λ l. g i j early late le (sym (slice_get-append w.led (note_of x.node x.state ∷ []) i (omega arith)) ∙ first) (sym (slice_get-append w.led (note_of x.node x.state ∷ []) j l) ∙ second) same)
      (λ l.
      let is : late ≡ note_of x.node x.state = last_is w.led (note_of x.node x.state) late j l second in
      subst (λ (y : Led). AgreeBelow (length early.list) early.list y.list) (sym is)
      (leader_front ids small rs w' run x.node x.state x.lead x.is_up x.leads early (among_at w'.led i early p) (same ∙ ap (λ (y : Led). y.vote) is)))
      (cases_lt j (length w.led))

  none_grows : Grows (new_world ids)
  none_grows i j early late le p q same = absurd (let no : None ≡ Some early = p in cc)

pub lists_grow : LeaderListsGrow
lists_grow ids rs end h =
    along ids Grows
    (λ early w run r k is g.
    ⊎_elim
    (λ e. subst (λ ls. (i j : ℕ) (a c : Led) → i ≤ j → slice_get ls i ≡ Some a → slice_get ls j ≡ Some c → a.vote ≡ c.vote → AgreeBelow (length a.list) a.list c.list) (sym e) g)
    (λ x. grows_next ids h.node_ids w (happens w r.event r.outcome k) (early ++ r ∷ []) (one_more early (new_world ids) w run r k is) g x)
    (event_notes w r.event r.outcome k))
    (none_grows ids h.node_ids) rs end h.replays

-- ---- a note's list is stored as long as its vote is

abbrev AreOwn : GroupWorld → Type 0
AreOwn w = (l : Led) → Among l w.led → OwnVote l.node l.vote true

own_next : (ids : List ℕ) (small : AreNodeIds ids) (w w' : GroupWorld) (rs : List Recorded) → Replays (new_world ids) rs w' → AreOwn w → NewNote w w' → AreOwn w'
own_next ids small w w' rs run own x l a =
    ⊎_elim
    (λ old. own l old)
    (λ new.
    ⊎_elim
    (λ is. subst (λ (y : Led). OwnVote y.node y.vote true) (sym is) (leader_vote ids small rs w' run x.node x.state x.lead x.is_up x.leads))
    (λ none. absurd none)
    new)
    (among_either l w.led (note_of x.node x.state ∷ []) (subst (Among l) x.led a))

-- a leader's notes are of votes of its own
pub notes_are_own : (ids : List ℕ) → AreNodeIds ids → (rs : List Recorded) (end : GroupWorld) → Replays (new_world ids) rs end → (l : Led) → Among l end.led → OwnVote l.node l.vote true
notes_are_own ids small rs end run =
    along ids AreOwn
    (λ early w past r k is own.
    ⊎_elim
    (λ e. λ l a. own l (subst (Among l) e a))
    (λ x. own_next ids small w (happens w r.event r.outcome k) (early ++ r ∷ []) (one_more early (new_world ids) w past r k is) own x)
    (event_notes w r.event r.outcome k))
    (λ l a. absurd a) rs end run

-- a stored vote as the ballot machine's node has it
pub record VoteFits (b : BallotWorld) (n : ℕ) (st : StoredGroup) : Type 0 where
  pub ballot : (b.node n).ballot ≡ rank_of st.vote.leader_id
  pub committed : (b.node n).committed ≡ st.vote.committed
  pub bound : st.vote.leader_id.node_id < 2 ^ 64

pub vote_fits : (m : Membership) (b : BallotWorld) (n : ℕ) (x : NodeState) (st : StoredGroup) → NodeStateFits m b n x → stored_of x ≡ Some st → VoteFits b n st
vote_fits m b n Absent st h e = absurd (let no : None ≡ Some st = e in cc)
vote_fits m b n (Up s) st h e =
    let g = h.1.up.fits in
    subst (VoteFits b n) (same_some e) (record { ballot = g.ballot; committed = g.committed; bound = g.bound })
vote_fits m b n (Down stored) st h e =
    let g = h.1.down.fits in
    subst (VoteFits b n) (same_some e) (record { ballot = g.ballot; committed = g.committed; bound = g.bound })

module _ (m : Membership) (some : 0 < length m.configs) (before : List BallotEvent) (w : GroupWorld) (fits : WorldFits m (world_after m before) w) (n : ℕ) (st : StoredGroup) (has : stored_of (w.nodes n) ≡ Some st) (mine : OwnVote n st.vote true) where
  -- what is stored under a committed vote of the node's own is all that the vote's leader had
  pub stored_lead : (world_after m before).lead (rank_of st.vote.leader_id) ≡ ballot_log (held st)
  stored_lead =
      let world = world_after m before in
      let v = vote_fits m world n (w.nodes n) st (fits.nodes n) has in
      let holds = node_holds m world n (w.nodes n) st (fits.nodes n) has in
      let owned : owner_of (rank_of st.vote.leader_id) ≡ n = owner_is st.vote.leader_id mine.term v.bound ∙ mine.node in
      let safe = after_safe m some before in
      let term = mine.term in
      let positive : 0 < (world.node n).ballot = omega (arith, term, v.ballot) in
      let leads = (safe.node n).leads (v.committed ∙ mine.flag) positive (ap owner_of v.ballot ∙ owned) in
      ap world.lead (sym v.ballot) ∙ sym leads.0 ∙ holds.is

pub lists_are_stored : LedListsAreStored
lists_are_stored ids rs end h l within st has same =
    let fs = founded ids h.node_ids rs end h.replays in
    let before = events fs.membership fs.some end fs.is in
    let world = world_after fs.membership before in
    let k = contains_at end.led l within in
    let a = among_at end.led k.0 l k.1 in
    let mine : OwnVote l.node st.vote true = subst (λ v. OwnVote l.node v true) (sym same) (notes_are_own ids h.node_ids rs end h.replays l a) in
    let whole = stored_lead fs.membership fs.some before end fs.is.matches.fits l.node st has mine in
    let g : LedFits fs.membership world l = fs.is.matches.fits.led l a in
    let holds : HoldsLog fs.membership (world.node l.node).log st = node_holds fs.membership world l.node (end.nodes l.node) st (fs.is.matches.fits.nodes l.node) has in
    same_lists (length l.list) g.good holds.good
    (subst (AgreeBelow (length l.list) (ballot_log l.list)) (ap (λ (v : Vote ℕ). world.lead (rank_of v.leader_id)) (sym same) ∙ whole) g.front)
