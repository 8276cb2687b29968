-- A lead that begins has room for the end of the event.
use Rattle.std.specs.Prelude.{◌≡◌, ℕ, ◌≤◌, ◌<◌, ◌^◌, ◌&&◌, Bool, true, false, if◌then◌else◌, List, [], ◌∷◌, ◌++◌, Some, None, refl}
use Rattle.std.specs.List.{list_any}
use Rattle.std.proofs.Common.{sym, subst, arith, length-append}
use Rattle.raft_values.specs.declared.vote.Vote.{Vote}
use Rattle.raft_values.specs.declared.log_id.LogId.{LogId}
use Rattle.raft_values.specs.LogId.{next_place}
use Rattle.raft_state.specs.declared.entry.EntryPayload.TheVariants.{Blank}
use Rattle.raft_quorums.specs.Quorum.{is_quorum}
use Rattle.raft_group_step.specs.Values.{entry_of, has_id, is_written_by, vote_eq, vote_lt}
use Rattle.raft_group_step.specs.StoredGroup.{StoredGroup, end_place, snapshot_last}
use Rattle.raft_group_step.specs.GroupState.{GroupState, Role, Follower, Candidate, Leader, Lead}
use Rattle.raft_group_step.specs.StepResult.{StepResult, append, in_role, step_down, store_vote}
use Rattle.raft_group_step.specs.Lead.{append_blank, committed_vote, configs_in_force, lead_if, with_grant}
use Rattle.raft_group_step.specs.Elect.{elect_step, stand}
use Rattle.raft_group_step.specs.VoteReply.{counted, vote_reply_step}
use Rattle.raft_known_state.proofs.KnownStateLemmas.{log_whole}
use Rattle.raft_engine.specs.Events.{CanFinish, HasLeadRoom, IsReady}
use Rattle.raft_engine.proofs.ElectionLemmas.{stood_state}

-- ---- a blank entry

abbrev pub with_blank : StoredGroup → LogId ℕ → StoredGroup
with_blank s id = record s { log = s.log ++ entry_of id Blank ∷ [] }

-- ---- a lead that begins

-- places are low, and what is wished to be purged the snapshot has
pub record MayLead (own : ℕ) (s : GroupState) : Type 0 where
  pub places : end_place s.stored ≤ 2 ^ 62
  pub wish : (place : ℕ) → s.wish ≡ Some place → place < next_place (snapshot_last s.stored)

-- so may a group that is ready, at each moment
pub ready_leads : (own now : ℕ) (s : GroupState) → IsReady own s → MayLead own (record s { now = now })
ready_leads own now s ready = record { places = ready.places; wish = ready.wish }

-- a lead without peers
abbrev lead_from : ℕ → Lead
lead_from began = record { began = began; peers = [] }

module _ (own began : ℕ) where
  -- of no peer anything is known yet
  pub room_at_start : (s : GroupState) → MayLead own s → HasLeadRoom own s (lead_from began)
  room_at_start s may =
      let places = may.places in
      record { places = omega arith; numbers = λ n. omega arith; wish = may.wish }

  -- and so behind a blank entry
  room_with_blank : (s : GroupState) (id : LogId ℕ) → MayLead own s → HasLeadRoom own (record s { stored = with_blank s.stored id }) (lead_from began)
  room_with_blank s id may =
      let places = may.places in
      let longer = length-append s.stored.log (entry_of id Blank ∷ []) in
      record {
        places = omega (arith, longer, places);
        numbers = λ n. omega arith;
        wish = may.wish;
      }

  -- a leader that writes a blank entry, unless it has written one
  blank_finishes : (r : StepResult) → MayLead own r.state → let led = append_blank (in_role (Leader (lead_from began)) r) in CanFinish own led.state led.state.role
  blank_finishes r may =
      let led = in_role (Leader (lead_from began)) r in
      let s = r.state.stored in
      let id : LogId ℕ = record { leader_id = s.vote.leader_id; index = end_place s } in
      let may_led : MayLead own led.state = record { places = may.places; wish = may.wish } in
      elim (list_any (is_written_by s.vote.leader_id) s.log) as (λ b. CanFinish own (if b then led else append Blank led).state (if b then led else append Blank led).state.role) [
        | true ↦ room_at_start led.state may_led
        | false ↦
            subst (λ log. HasLeadRoom own (record led.state { stored = record s { log = log ++ entry_of id Blank ∷ [] } }) (lead_from began)) (sym (log_whole s))
            (room_with_blank led.state id may_led)
      ]

-- a candidate that a quorum has granted its vote
pub lead_finishes : (own : ℕ) (granters : List ℕ) (r : StepResult) (granted : Bool) → MayLead own r.state
    → let led = lead_if granted (in_role (Candidate granters) r) in CanFinish own led.state led.state.role
lead_finishes own granters r false may = tt
lead_finishes own granters r true may =
    let s = r.state.stored in
    blank_finishes own (end_place s) (store_vote (committed_vote s.vote) (in_role (Candidate granters) r))
    (record { places = may.places; wish = may.wish })

-- a candidate that one more voter grants its vote, or a node that doesn't stand and goes on
pub grant_finishes : (own n : ℕ) (role : Role) (r : StepResult) → r.state.role ≡ role → MayLead own r.state → CanFinish own r.state role
    → let after = with_grant n role r in CanFinish own after.state after.state.role
grant_finishes own n Follower r e may can = subst (CanFinish own r.state) (sym e) can
grant_finishes own n (Candidate granters) r e may can =
    let now_granted = if has_id granters n then granters else granters ++ n ∷ [] in
    lead_finishes own now_granted r (is_quorum (configs_in_force r.state.stored) (has_id now_granted)) may
grant_finishes own n (Leader lead) r e may can = subst (CanFinish own r.state) (sym e) can

-- a node that stands for election, and leads where its own grant is a quorum
pub elect_finishes : (own : ℕ) (r : StepResult) → end_place r.state.stored ≤ 2 ^ 62
    → let after = elect_step own r in CanFinish own after.state after.state.role
elect_finishes own r places =
    let stood = stand own r in
    let may : MayLead own stood.state =
    subst (MayLead own) (sym (stood_state own r))
    (record { places = places; wish = λ place e. absurd (let no : None ≡ Some place = e in cc) }) in
    grant_finishes own own stood.state.role stood refl may (subst (λ (s : GroupState). CanFinish own s s.role) (sym (stood_state own r)) tt)

-- an answer to a candidate, or to a node that goes on
pub reply_finishes : (own peer : ℕ) (vote : Vote ℕ) (granted : Bool) (r : StepResult) → MayLead own r.state → CanFinish own r.state r.state.role
    → let after = vote_reply_step peer vote granted r in CanFinish own after.state after.state.role
reply_finishes own peer vote granted r may can =
    elim (granted && vote_eq vote r.state.stored.vote) as (λ b. CanFinish own (counted peer b vote r).state (counted peer b vote r).state.role) [
      | true ↦ grant_finishes own peer r.state.role r refl may can
      | false ↦
          elim (vote_lt r.state.stored.vote vote) as (λ b. let after = if b then store_vote vote (step_down r) else r in CanFinish own after.state after.state.role) [
            | true ↦ tt
            | false ↦ can
          ]
    ]
