-- What the facts of a group say of it.
use Rattle.std.proofs.Common.{◌≡◌, ℕ, ◌+◌, ◌&&◌, ◌||◌, not, Bool, true, List, [], ◌∷◌, Option, Some, None, option_map, refl, ap, sym, ◌∙◌, IfNone}
use Rattle.raft_quorums.specs.QuorumLaws.{and_left, and_right}
use Rattle.raft_conditions.specs.declared.facts.GroupFacts.{GroupFacts}
use Rattle.raft_conditions.specs.declared.refusal.Refusal.{Refusal}
use Rattle.raft_conditions.specs.Facts.{IsFactsOf, IsRefusalOf}
use Rattle.raft_messages.specs.Memberships.{logged_or_none}
use Rattle.raft_conditions.specs.Reason.{reason_of}
use Rattle.raft_conditions.specs.ByFacts.{AreLow, HasRoom, call_reason_by, call_reasons_by, has_room, is_settled_by, next_term_by, lead_reason_by, range_reason_by}
use Rattle.raft_conditions.proofs.RangeLemmas.{in_range-append, low_number, low_numbers}
use Rattle.raft_group_step.specs.Values.{is_voter, LoggedMembership}
use Rattle.raft_group_step.specs.GroupEvent.{GroupCall, Call}
use Rattle.raft_group_step.specs.GroupState.{GroupState, is_leader}
use Rattle.raft_group_step.specs.StoredGroup.{membership_in_force}
use Rattle.raft_group_step.specs.declared.group_call.GroupCall.TheVariants.{Initialize, Elect, Propose, ChangeMembership, Heartbeat, Lost, TriggerSnapshot, TriggerPurge}
use Rattle.raft_group_step.specs.StepResult.{NotLeader, UnknownGroup, NotAllowed, NotVoter, InProgress, NumberAtEnd}
use Rattle.raft_group_step.specs.Limits.{is_low}
use Rattle.raft_group_step.specs.Refusal.{are_in_range, first_of_reasons, is_settled_membership, is_voter_in, known_leader, lead_reason, next_ids, next_term, range_reason, reasons_of_call, reasons_of_change, refusal_of, unless}

-- ---- messages

-- the room is there
pub room_told : (f : GroupFacts) → has_room f ≡ true → HasRoom f
room_told f h =
    let blank : (not f.is_candidate || is_low f.end) ≡ true = and_left (not f.is_candidate || is_low f.end) (is_low f.greatest_next_id) h
    in (
      λ stands. low_number f.end (sym (ap (λ b. not b || is_low f.end) stands) ∙ blank),
      low_number f.greatest_next_id (and_right (not f.is_candidate || is_low f.end) (is_low f.greatest_next_id) h),
    )

if_none : {X : Type 0} (r : Option X) {P Q : Type 0} → (P → Q) → IfNone r P → IfNone r Q
if_none None f p = f p
if_none (Some x) f p = tt

-- what is taken has its numbers in range
pub numbers_told : {X : Type 0} (r : Option X) (b room : Bool) (ns : List ℕ) → b ≡ (are_in_range ns && room)
    → IfNone r (b ≡ true) → IfNone r (AreLow ns)
numbers_told r b room ns e taken = if_none r (λ (t : b ≡ true). low_numbers ns (and_left (are_in_range ns) room (sym e ∙ t))) taken

-- what is taken has room
pub room_of_taken : {X : Type 0} (r : Option X) (b : Bool) (f : GroupFacts) (ns : List ℕ) → b ≡ (are_in_range ns && has_room f)
    → IfNone r (b ≡ true) → IfNone r (HasRoom f)
room_of_taken r b f ns e taken =
    if_none r (λ (t : b ≡ true). room_told f (and_right (are_in_range ns) (has_room f) (sym e ∙ t))) taken

-- ---- calls

module _ {A : Type 0} where
  cons_same : {x y : A} {xs ys : List A} → x ≡ y → xs ≡ ys → x ∷ xs ≡ y ∷ ys
  cons_same {x} {y} {xs} {ys} e es = ap (λ z. z ∷ xs) e ∙ ap (λ zs. y ∷ zs) es

settled_same : (m : Option LoggedMembership) (s : GroupState) → is_settled_by m s.committed ≡ is_settled_membership s m
settled_same None s = refl
settled_same (Some m) s = refl

module _ {own : ℕ} {f : GroupFacts} {s : GroupState} (h : IsFactsOf own f s) where
  range_same : (ms : List ℕ) {ns : List ℕ} → ms ≡ ns → range_reason_by f ms ≡ range_reason s ns
  range_same ms {ns} e =
      ap (λ ks. unless (are_in_range ks && is_low f.greatest_next_id) NumberAtEnd) e
      ∙ ap (λ b. unless (are_in_range ns && b) NumberAtEnd) (sym h.next_requests)
      ∙ ap (λ b. unless b NumberAtEnd) (sym (in_range-append ns (next_ids s.role)))

  lead_same : lead_reason_by f ≡ lead_reason s
  lead_same =
      ap (λ b. unless b (NotLeader (known_leader f.vote))) h.leads
      ∙ ap (λ v. unless (is_leader s.role) (NotLeader (known_leader v))) h.stored_vote

  term_same : next_term_by f ≡ next_term s
  term_same = ap (λ v. v.leader_id.term + 1) h.stored_vote

  voter_same : unless (is_voter_in (logged_or_none f.membership) f.own) NotVoter ≡ unless (is_voter_in (membership_in_force s.stored) own) NotVoter
  voter_same =
      ap (λ m. unless (is_voter_in m f.own) NotVoter) h.in_force
      ∙ ap (λ o. unless (is_voter_in (membership_in_force s.stored) o) NotVoter) h.own_id

  settled_reason_same : unless (is_settled_by (logged_or_none f.membership) f.committed) InProgress ≡ unless (is_settled_membership s (membership_in_force s.stored)) InProgress
  settled_reason_same =
      ap (λ m. unless (is_settled_by m f.committed) InProgress) h.in_force
      ∙ ap (λ c. unless (is_settled_by (membership_in_force s.stored) c) InProgress) h.last_committed
      ∙ ap (λ b. unless b InProgress) (settled_same (membership_in_force s.stored) s)

  moment_same : (now : ℕ) → range_reason_by f (now ∷ []) ∷ [] ≡ range_reason s (now ∷ []) ∷ []
  moment_same now = ap (λ r. r ∷ []) (range_same (now ∷ []) refl)

  moment_and_lead_same : (now : ℕ) → range_reason_by f (now ∷ []) ∷ lead_reason_by f ∷ [] ≡ range_reason s (now ∷ []) ∷ lead_reason s ∷ []
  moment_and_lead_same now = cons_same (range_same (now ∷ []) refl) (ap (λ r. r ∷ []) lead_same)

  -- the facts tell the reasons of a call
  pub call_same : (now : ℕ) (call : GroupCall) → call_reasons_by f now call ≡ reasons_of_call own s now call
  call_same now (Initialize m) =
      cons_same refl (cons_same (range_same (now ∷ next_term_by f ∷ []) (ap (λ t. now ∷ t ∷ []) term_same))
      (cons_same (ap (λ o. unless (is_voter m o) NotVoter) h.own_id)
      (ap (λ b. unless b NotAllowed ∷ []) h.newness)))
  call_same now Elect =
      cons_same (range_same (now ∷ next_term_by f ∷ f.end ∷ [])
      (ap (λ t. now ∷ t ∷ f.end ∷ []) term_same ∙ ap (λ n. now ∷ next_term s ∷ n ∷ []) h.log_end))
      (ap (λ r. r ∷ []) voter_same)
  call_same now (Propose command token) =
      cons_same refl (cons_same (range_same (now ∷ f.end ∷ []) (ap (λ n. now ∷ n ∷ []) h.log_end)) (ap (λ r. r ∷ []) lead_same))
  call_same now (ChangeMembership change token) =
      cons_same (range_same (now ∷ f.end ∷ []) (ap (λ n. now ∷ n ∷ []) h.log_end)) (cons_same lead_same (cons_same settled_reason_same
      (ap (λ m. reasons_of_change m change) h.in_force)))
  call_same now Heartbeat = moment_and_lead_same now
  call_same now (Lost peer) = moment_and_lead_same now
  call_same now TriggerSnapshot = moment_same now
  call_same now (TriggerPurge place) = moment_same now

  -- a call is refused where the group isn't there, and else by its reasons
  pub call_refused : (now : ℕ) (call : GroupCall)
      → first_of_reasons (unless f.present UnknownGroup ∷ call_reasons_by f now call) ≡ refusal_of own s (Call call now)
  call_refused now call =
      ap first_of_reasons (cons_same (ap (λ b. unless b UnknownGroup) h.presence) (call_same now call))

-- in a group that is there, a call is refused by its reasons
pub call_judged : (f : GroupFacts) (now : ℕ) (call : GroupCall) (r : Option (Refusal ℕ)) → f.present ≡ true
    → option_map reason_of r ≡ call_reason_by f now call → IsRefusalOf f (Call call now) r
call_judged f now call r present e =
    λ own s h. e ∙ ap (λ b. first_of_reasons (unless b UnknownGroup ∷ call_reasons_by f now call)) (sym present)
    ∙ call_refused h now call
