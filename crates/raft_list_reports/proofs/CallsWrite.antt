-- What a call writes at a leader, by the list that the leader was noted with last.
use Rattle.std.specs.Prelude.{◌≡◌, ℕ, ◌<◌, ◌≤◌, ◌&&◌, true, false, List, length, Option, Some, None, option_map, refl}
use Rattle.std.proofs.Common.{sym, ap, ◌∙◌, subst, arith, ⊎_elim}
use Rattle.std.proofs.lemmas.Bool.{and_parts}
use Rattle.raft_values.specs.declared.vote.LeaderId.{LeaderId}
use Rattle.raft_values.specs.declared.vote.Vote.{Vote}
use Rattle.raft_group_step.specs.Values.{ChangeMembers, Entry, EntryPayload, LoggedMembership, Membership, after_change, is_valid, is_within_limits, last_membership}
use Rattle.raft_group_step.specs.StoredGroup.{StoredGroup, end_place, held, last_id, membership_in_force}
use Rattle.raft_group_step.specs.GroupState.{GroupState, Lead, Leader}
use Rattle.raft_group_step.specs.StepResult.{MembershipRefused}
use Rattle.raft_group_step.specs.declared.group_call.GroupCall.TheVariants.{Initialize, Elect, Propose, ChangeMembership, Heartbeat, Lost, TriggerSnapshot, TriggerPurge}
use Rattle.raft_group_step.specs.GroupEvent.{GroupCall, Call}
use Rattle.raft_group_step.specs.Refusal.{reasons_of, reasons_of_change, refusal_of}
use Rattle.raft_group_step.proofs.Refusals.{unless_none}
use Rattle.raft_laws.specs.BallotLists.{AgreeBelow}
use Rattle.raft_laws.specs.GroupWorld.{GroupWorld, Up, Recorded, new_world}
use Rattle.raft_laws.specs.GroupRun.{Replays}
use Rattle.raft_laws.specs.OneList.{AreNodeIds}
use Rattle.raft_laws.specs.Origins.{changed_entry, entry_of_call}
use Rattle.raft_laws.proofs.BallotAgreement.{agree_none, same_some}
use Rattle.raft_laws.proofs.BallotSafe.{Among}
use Rattle.raft_laws.proofs.Counts.{among_contains, contains_among}
use Rattle.raft_laws.proofs.HeldLists.{at_node}
use Rattle.raft_laws.proofs.Memberships.{in_force}
use Rattle.raft_laws.proofs.Shapes.{joined_end, joined_held}
use Rattle.raft_laws.proofs.Standing.{OwnVote}
use Rattle.raft_laws.proofs.StepCalls.{NoReason, no_reason}
use Rattle.raft_laws.proofs.StepFits.{NodeFits, world_after}
use Rattle.raft_laws.proofs.WorldStart.{Founded, founded}
use Rattle.raft_history_laws.specs.NotedIds.{is_noted}
use Rattle.raft_history_laws.proofs.LeaderLists.{leader_front, leader_vote}
use Rattle.raft_history_laws.proofs.NotedIds.{taken_leads}
use Rattle.raft_list_facts.specs.Leads.{base_of, leading_in}
use Rattle.raft_list_facts.specs.declared.leading.Leading.{Leading}
use Rattle.raft_list_laws.specs.Accounts.{Accounts, AreTrue}
use Rattle.raft_list_laws.proofs.BasesStay.{same_votes}
use Rattle.raft_list_laws.proofs.NotedWorlds.{all_known}
use Rattle.raft_list_laws.proofs.OwnNotes.{NodeKnown, Whole}
use Rattle.raft_list_laws.proofs.Parts.{agree_whole}
use Rattle.raft_group_lists.specs.Notes.{membership_in}
use Rattle.raft_list_reports.specs.Calls.{IsInvalid, changed_of, payload_of}
use Rattle.raft_list_reports.proofs.AskedEntries.{IsAskedBy}
use Rattle.raft_list_reports.proofs.Happening.{leader_tells}

-- the membership in force, without its log id
abbrev force : Option LoggedMembership → Option Membership
force o = option_map (λ (m : LoggedMembership). m.membership) o

-- ---- of a stored part

-- a call that writes an entry of a leader is a command or a change
record IsOwnEntry (st : StoredGroup) (call : GroupCall) (x : Entry) : Type 0 where
  noted : is_noted call ≡ true
  written : x.log_id.leader_id ≡ st.vote.leader_id
  payload : payload_of (force (membership_in_force st)) call ≡ Some x.payload

own_entry : (st : StoredGroup) (call : GroupCall) (x : Entry) → entry_of_call st call ≡ Some x → 0 < x.log_id.leader_id.term → IsOwnEntry st call x
own_entry st (Initialize m) x is term =
    let zero = ap (λ (y : Entry). y.log_id.leader_id.term) (same_some is) in absurd (omega arith)
own_entry st Elect x is term = absurd (let no : None ≡ Some x = is in cc)
own_entry st (Propose command token) x is term =
    let same = same_some is in
    record {
      noted = refl;
      written = sym (ap (λ (y : Entry). y.log_id.leader_id) same);
      payload = ap (λ (y : Entry). Some y.payload) same;
    }
own_entry st (ChangeMembership change token) x is term = let b = by_change (membership_in_force st) is in record { noted = refl; written = b.0; payload = b.1 }
  where
    by_change : (o : Option LoggedMembership) → changed_entry st o change ≡ Some x → (x.log_id.leader_id ≡ st.vote.leader_id) × (changed_of (force o) change ≡ Some x.payload)
    by_change None e = absurd (let no : None ≡ Some x = e in cc)
    by_change (Some m) e = let same = same_some e in (sym (ap (λ (y : Entry). y.log_id.leader_id) same), ap (λ (y : Entry). Some y.payload) same)
own_entry st Heartbeat x is term = absurd (let no : None ≡ Some x = is in cc)
own_entry st (Lost peer) x is term = absurd (let no : None ≡ Some x = is in cc)
own_entry st TriggerSnapshot x is term = absurd (let no : None ≡ Some x = is in cc)
own_entry st (TriggerPurge place) x is term = absurd (let no : None ≡ Some x = is in cc)

-- a call that isn't refused makes no invalid membership
valid_change : (o : Option LoggedMembership) (change : ChangeMembers) → NoReason (reasons_of_change o change) → (m : Membership) → force o ≡ Some m → is_valid (after_change m change) ≡ false → ⊥
valid_change None change none m is invalid = absurd (let no : None ≡ Some m = is in cc)
valid_change (Some x) change none m is invalid =
    let new = after_change x.membership change in
    let both = unless_none (is_valid new && is_within_limits new) MembershipRefused none.0 in
    let valid = (and_parts (is_valid new) (is_within_limits new) both).0 in
    let same : is_valid (after_change m change) ≡ is_valid new = ap (λ (y : Membership). is_valid (after_change y change)) (sym (same_some is)) in
    let no : true ≡ false = sym valid ∙ sym same ∙ invalid in
    cc

taken_valid : (n : ℕ) (s : GroupState) (call : GroupCall) (now : ℕ) → refusal_of n s (Call call now) ≡ None → IsInvalid (force (membership_in_force s.stored)) call → ⊥
taken_valid n s (Initialize m) now taken invalid = invalid
taken_valid n s Elect now taken invalid = invalid
taken_valid n s (Propose command token) now taken invalid = invalid
taken_valid n s (ChangeMembership change token) now taken invalid =
    let passed = (no_reason (reasons_of n s (Call (ChangeMembership change token) now)) taken).1 in
    valid_change (membership_in_force s.stored) change passed.1.1.1 invalid.0 invalid.1 invalid.2
taken_valid n s Heartbeat now taken invalid = invalid
taken_valid n s (Lost peer) now taken invalid = invalid
taken_valid n s TriggerSnapshot now taken invalid = invalid
taken_valid n s (TriggerPurge place) now taken invalid = invalid

-- ---- at a leader

-- the call wrote this at a node that led under the vote, behind this list
pub record IsWritten (n : ℕ) (s : GroupState) (call : GroupCall) (now : ℕ) (vote : Vote ℕ) (list : List Entry) (payload : EntryPayload) : Type 0 where
  pub taken : refusal_of n s (Call call now) ≡ None
  pub before : Leading
  pub led : leading_in (Up s) ≡ Some before
  pub under : before.vote ≡ vote
  pub asked : payload_of (membership_in list) call ≡ Some payload
  pub valid : IsInvalid (membership_in list) call → ⊥

module _ (ids : List ℕ) (small : AreNodeIds ids) (rs : List Recorded) (w : GroupWorld) (run : Replays (new_world ids) rs w) (n : ℕ) (s : GroupState) (up : w.nodes n ≡ Up s) (a : Accounts) (v : GroupWorld) (t : AreTrue a v) (same : v.led ≡ w.led) (vote : Vote ℕ) (flag : vote.committed ≡ true) (term : 0 < vote.leader_id.term) where
  f : Founded w
  f = founded ids small rs w run

  fits : NodeFits f.membership (world_after f.membership f.is.matches.before) n s
  fits = (at_node f.membership (world_after f.membership f.is.matches.before) w f.is.matches.fits n (Up s) up).1

  abbrev xs : List Entry
  xs = fits.up.list

  held_is : held s.stored ≡ xs
  held_is = joined_held s.stored xs fits.up.joined

  -- a leader was noted with all that it holds
  module _ (lead : Lead) (leads : s.role ≡ Leader lead) (under : s.stored.vote ≡ vote) where
    whole : Whole w.led s.stored.vote (end_place s.stored)
    whole =
        let known = subst (NodeKnown w.led n) up ((all_known ids small rs w run).nodes n) in
        (known.1 lead leads).1

    latest_front : AgreeBelow (length (a.latest vote)) (a.latest vote) (held s.stored)
    latest_front =
        ⊎_elim
        (λ none. subst (λ (ys : List Entry). AgreeBelow (length ys) ys (held s.stored)) (sym none) (agree_none (held s.stored)))
        (λ x.
        subst (λ (ys : List Entry). AgreeBelow (length ys) ys (held s.stored)) x.3
        (leader_front ids small rs w run n s lead up leads x.0 (subst (Among x.0) same (contains_among v.led x.0 x.1)) (x.2 ∙ sym under)))
        (t.notes.noted vote)

    latest_held : a.latest vote ≡ held s.stored
    latest_held =
        let note = whole.note in
        let there = among_contains v.led note (subst (Among note) (sym same) whole.among) in
        let front = subst (λ (u : Vote ℕ). length note.list ≤ length (a.latest u)) (whole.of_vote ∙ under) (t.notes.latest note there).right in
        let sized = whole.sized in
        let size : length (held s.stored) ≡ end_place s.stored = ap length held_is ∙ sym (joined_end s.stored xs fits.up.joined) in
        let within = latest_front.right in
        agree_whole (a.latest vote) (held s.stored) latest_front (omega arith)

    in_list : membership_in (a.latest vote) ≡ force (membership_in_force s.stored)
    in_list =
        ap (λ (ys : List Entry). force (last_membership None ys)) (latest_held ∙ held_is)
        ∙ sym (ap force (in_force s.stored xs fits.up.joined (λ x e. (fits.up.fits.snapshot x e).membership)))

  module _ (call : GroupCall) (now : ℕ) (x : Entry) (asked : IsAskedBy n s (Call call now) x) (own : x.log_id.leader_id ≡ vote.leader_id) where
    is_own : IsOwnEntry s.stored call x
    is_own = own_entry s.stored call x asked.1 (let its = ap (λ (l : LeaderId ℕ). l.term) own in omega arith)

    led_so : (lead : Lead) × (s.role ≡ Leader lead)
    led_so = taken_leads n s call now is_own.noted asked.0

    under_vote : s.stored.vote ≡ vote
    under_vote =
        let mine : OwnVote n s.stored.vote true = leader_vote ids small rs w run n s led_so.0 up led_so.1 in
        same_votes s.stored.vote vote (sym is_own.written ∙ own) (mine.flag ∙ sym flag)

    pub call_writes : IsWritten n s call now vote (a.latest vote) x.payload
    call_writes =
        let old = in_list led_so.0 led_so.1 under_vote in
        record {
          taken = asked.0;
          before = record { vote = s.stored.vote; last = last_id s.stored; base = base_of s.stored };
          led = leader_tells s led_so.0 led_so.1;
          under = under_vote;
          asked = ap (λ (o : Option Membership). payload_of o call) old ∙ is_own.payload;
          valid = λ invalid. taken_valid n s call now asked.0 (subst (λ (o : Option Membership). IsInvalid o call) old invalid);
        }
