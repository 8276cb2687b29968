-- A node that takes a command or a change has all that was ever written under its vote's leader.
use Rattle.std.specs.Prelude.{◌≡◌, ℕ, ◌+◌, ◌<◌, true, false, List, drop, length, slice_get, Some, None}
use Rattle.std.proofs.Common.{sym, ap, ◌∙◌, subst, arith}
use Rattle.std.proofs.lemmas.Option.{slice_get_within}
use Rattle.raft_values.specs.LogId.{next_place}
use Rattle.raft_group_step.specs.Values.{Entry, Membership}
use Rattle.raft_group_step.specs.StoredGroup.{StoredGroup, end_place, held}
use Rattle.raft_group_step.specs.Message.{MessageBody, VoteRequest, VoteReply, AppendRequest, AppendReply, SnapshotRequest, SnapshotReply}
use Rattle.raft_group_step.specs.GroupState.{GroupState, Lead, Leader, is_leader}
use Rattle.raft_group_step.specs.declared.group_call.GroupCall.TheVariants.{Initialize, Elect, Propose, ChangeMembership, Heartbeat, Lost, TriggerSnapshot, TriggerPurge}
use Rattle.raft_group_step.specs.GroupEvent.{GroupCall, Call}
use Rattle.raft_group_step.specs.StepResult.{NotLeader}
use Rattle.raft_group_step.specs.Refusal.{known_leader, reasons_of, refusal_of}
use Rattle.raft_group_step.proofs.Words.{leads_if}
use Rattle.raft_group_step.proofs.Refusals.{unless_none}
use Rattle.raft_laws.specs.BallotLists.{AgreeBelow}
use Rattle.raft_laws.specs.BallotWorld.{BallotEvent, BallotWorld}
use Rattle.raft_laws.specs.BallotRanks.{rank_of, ballot_entry, ballot_log, ballot_group}
use Rattle.raft_laws.specs.GroupWorld.{GroupWorld, Led, Up}
use Rattle.raft_laws.specs.VotesRise.{stored_of}
use Rattle.raft_laws.proofs.BallotSafe.{Among, AppendOk, Safe, among_at}
use Rattle.raft_laws.proofs.BallotStep.{Later}
use Rattle.raft_laws.proofs.Shapes.{Good, joined_end, joined_held, slice_drop}
use Rattle.raft_laws.proofs.Standing.{BodyFits, RoleFits, append-of}
use Rattle.raft_laws.proofs.Ids.{ballot_at, size_same}
use Rattle.raft_laws.proofs.StepCalls.{no_reason}
use Rattle.raft_laws.proofs.StepFits.{NodeFits, world_after}
use Rattle.raft_laws.proofs.WorldFits.{LedFits, WorldFits, after_safe, lead_list}
use Rattle.raft_laws.proofs.Counts.{contains_at}
use Rattle.raft_laws.proofs.HeldLists.{at_node, node_holds}
use Rattle.raft_history_laws.specs.NotedIds.{IsHeld, IsSent, IsSomewhere, NotedIsAbove, NotedIsNew, WasLed, entries_in, is_noted}
use Rattle.raft_history_laws.proofs.Later.{BothMatch, both_match}

-- ---- each entry is on the list of its ballot's leader

-- the ballot's leader had so many entries that this one is among them
abbrev pub InLead : BallotWorld → Entry → Type 0
InLead b e = e.log_id.index < length (b.lead (rank_of e.log_id.leader_id))

pub in_lead_on : {b b' : BallotWorld} (e : Entry) → Later b b' → InLead b e → InLead b' e
in_lead_on e later h = let l = (later.lead (rank_of e.log_id.leader_id)).right in omega arith

module _ (m : Membership) (some : 0 < length m.configs) (before : List BallotEvent) where
  abbrev b : BallotWorld
  b = world_after m before

  safe : Safe (ballot_group m) b
  safe = after_safe m some before

  -- what a leader has at a place is of an earlier leader, which had it there
  lead_at : (rank i : ℕ) (e : Entry) → e.log_id.index ≡ i → slice_get (b.lead rank) i ≡ Some (ballot_entry e) → InLead b e
  lead_at rank i e place h =
      let a = (safe.leads rank).matches i (ballot_entry e) h in
      let r = a.right in
      omega arith

  -- entries that agree with a leader's from a place on
  part_in : (rank start : ℕ) (es : List Entry) → Good m start es → AgreeBelow (length (ballot_log es)) (ballot_log es) (drop start (b.lead rank)) → (i : ℕ) (e : Entry) → slice_get es i ≡ Some e → InLead b e
  part_in rank start es good front i e h =
      let within = slice_get_within es i e h in
      let there : slice_get (b.lead rank) (start + i) ≡ Some (ballot_entry e) =
      sym (slice_drop start (b.lead rank) i) ∙ sym (front.same i (omega (arith, size_same es))) ∙ ballot_at es i e h
      in
      lead_at rank (start + i) e (good.placed i e h) there

  sent_in_lead : (rank start previous commit : ℕ) (es : List Entry) → Good m start es → Among (append-of rank start previous (ballot_log es) commit) b.appends → (i : ℕ) (e : Entry) → slice_get es i ≡ Some e → InLead b e
  sent_in_lead rank start previous commit es good sent i e h =
      let ok : AppendOk (ballot_group m) b (append-of rank start previous (ballot_log es) commit) = safe.appends (append-of rank start previous (ballot_log es) commit) sent in
      part_in rank start es good ok.entries i e h

  body_in_lead : (sender : ℕ) (body : MessageBody) → BodyFits m b sender body → (i : ℕ) (e : Entry) → slice_get (entries_in body) i ≡ Some e → InLead b e
  body_in_lead sender (VoteRequest vote last) fits i e h = absurd (let no : None ≡ Some e = h in cc)
  body_in_lead sender (VoteReply vote granted last) fits i e h = absurd (let no : None ≡ Some e = h in cc)
  body_in_lead sender (AppendRequest a) fits i e h = sent_in_lead _ (next_place a.previous) _ _ a.entries fits.good fits.sent i e h
  body_in_lead sender (AppendReply r) fits i e h = absurd (let no : None ≡ Some e = h in cc)
  body_in_lead sender (SnapshotRequest vote id x) fits i e h = sent_in_lead _ 0 _ _ x.«prefix» fits.good fits.sent i e h
  body_in_lead sender (SnapshotReply r) fits i e h = absurd (let no : None ≡ Some e = h in cc)

  pub leads_all_at : (n : ℕ) (s : GroupState) (lead : Lead) → NodeFits m b n s → s.role ≡ Leader lead → length (b.lead (rank_of s.stored.vote.leader_id)) ≡ end_place s.stored
  leads_all_at n s lead at leads =
      let role : RoleFits n b s.stored.vote (held s.stored) (Leader lead) = subst (RoleFits n b s.stored.vote (held s.stored)) leads at.role in
      ap length (lead_list m some before n s at.up role.0 role.1)
      ∙ size_same (held s.stored)
      ∙ ap length (joined_held s.stored at.up.list at.up.joined)
      ∙ sym (joined_end s.stored at.up.list at.up.joined)

  module _ (w : GroupWorld) (fits : WorldFits m b w) where
    held_in_lead : (n : ℕ) (st : StoredGroup) → stored_of (w.nodes n) ≡ Some st → (i : ℕ) (e : Entry) → slice_get (held st) i ≡ Some e → InLead b e
    held_in_lead n st has i e h =
        let holds = node_holds m b n (w.nodes n) st (fits.nodes n) has in
        let there : slice_get (b.node n).log i ≡ Some (ballot_entry e) = ap (λ l. slice_get l i) holds.is ∙ ballot_at (held st) i e h in
        let a = (safe.node n).log.matches i (ballot_entry e) there in
        let place = holds.good.placed i e h in
        let r = a.right in
        omega arith

    led_in_lead : (l : Led) → LedFits m b l → (i : ℕ) (e : Entry) → slice_get l.list i ≡ Some e → InLead b e
    led_in_lead l f i e h =
        let within = slice_get_within l.list i e h in
        let there : slice_get (b.lead (rank_of l.vote.leader_id)) i ≡ Some (ballot_entry e) = sym (f.front.same i within) ∙ ballot_at l.list i e h in
        let place : e.log_id.index ≡ i = let p = f.good.placed i e h in omega arith in
        lead_at (rank_of l.vote.leader_id) i e place there

    pub somewhere_in_lead : (e : Entry) → IsSomewhere w e → InLead b e
    somewhere_in_lead e (IsHeld n st has within) = let k = contains_at (held st) e within in held_in_lead n st has k.0 e k.1
    somewhere_in_lead e (IsSent x sent within) =
        let a = contains_at w.messages x sent in
        let k = contains_at (entries_in x.body) e within in
        body_in_lead x.sender x.body (fits.messages x (among_at w.messages a.0 x a.1)) k.0 e k.1
    somewhere_in_lead e (WasLed l led within) =
        let a = contains_at w.led l led in
        let k = contains_at l.list e within in
        led_in_lead l (fits.led l (among_at w.led a.0 l a.1)) k.0 e k.1

    -- a leader has all that was written under its vote
    pub leads_all : (n : ℕ) (s : GroupState) (lead : Lead) → w.nodes n ≡ Up s → s.role ≡ Leader lead → length (b.lead (rank_of s.stored.vote.leader_id)) ≡ end_place s.stored
    leads_all n s lead up leads = leads_all_at n s lead (at_node m b w fits n (Up s) up).1 leads

-- ---- a node that takes a command or a change leads

pub taken_leads : (n : ℕ) (s : GroupState) (call : GroupCall) (now : ℕ) → is_noted call ≡ true → refusal_of n s (Call call now) ≡ None → (lead : Lead) × (s.role ≡ Leader lead)
taken_leads n s (Initialize first) now t e = absurd (let no : false ≡ true = t in cc)
taken_leads n s Elect now t e = absurd (let no : false ≡ true = t in cc)
taken_leads n s (Propose command token) now t e =
    let passed = (no_reason (reasons_of n s (Call (Propose command token) now)) e).1 in
    leads_if s.role (unless_none (is_leader s.role) (NotLeader (known_leader s.stored.vote)) passed.1.1.0)
taken_leads n s (ChangeMembership change token) now t e =
    let passed = (no_reason (reasons_of n s (Call (ChangeMembership change token) now)) e).1 in
    leads_if s.role (unless_none (is_leader s.role) (NotLeader (known_leader s.stored.vote)) passed.1.0)
taken_leads n s Heartbeat now t e = absurd (let no : false ≡ true = t in cc)
taken_leads n s (Lost peer) now t e = absurd (let no : false ≡ true = t in cc)
taken_leads n s TriggerSnapshot now t e = absurd (let no : false ≡ true = t in cc)
taken_leads n s (TriggerPurge place) now t e = absurd (let no : false ≡ true = t in cc)

pub noted_above : NotedIsAbove
noted_above ids rs more middle end h on n s call now up noted taken e somewhere same =
    let both : BothMatch middle end = both_match ids h.node_ids rs more middle end h.replays on in
    let m = both.membership in
    let was = somewhere_in_lead m both.some both.first.before middle both.first.fits e somewhere in
    let is = in_lead_on e both.second.later was in
    let lead = taken_leads n s call now noted taken in
    let all = leads_all m both.some both.second.before end both.second.fits n s lead.0 up lead.1 in
    let rank = ap rank_of same in
    subst (λ k. e.log_id.index < k) all
    (subst (λ r. e.log_id.index < length ((world_after m both.second.before).lead r)) rank is)

pub noted_new : NotedIsNew
noted_new ids rs more middle end h on n s call now up noted taken e somewhere same =
    let l = noted_above ids rs more middle end h on n s call now up noted taken e somewhere (ap (λ x. x.leader_id) same) in
    let i : e.log_id.index ≡ end_place s.stored = ap (λ x. x.index) same in
    omega arith
