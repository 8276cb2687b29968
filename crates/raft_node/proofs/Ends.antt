-- What a group answered is how its event ended at the node.
use Rattle.std.proofs.Common.{◌≡◌, ◌+◌, ◌++◌, ℕ, List, [], ◌∷◌, Option, Some, None, Result, Ok, Err, refl, sym, ap, subst, ◌∙◌}
use Rattle.std.specs.List.{AllZip}
use Rattle.raft_conditions.specs.Reason.{reason_of}
use Rattle.raft_conditions.specs.declared.refusal.Refusal.{Refusal}
use Rattle.raft_conditions.specs.declared.refusal.Refusal.TheVariants as refusal
use Rattle.raft_group_step.specs.GroupEvent.{GroupEvent}
use Rattle.raft_group_step.specs.GroupState.{GroupState}
use Rattle.raft_group_step.specs.GroupStep.{group_step}
use Rattle.raft_group_step.specs.Refusal.{refusal_of}
use Rattle.raft_group_step.specs.StoredGroup.{Snapshot}
use Rattle.raft_group_storage.specs.Keeping.{FailsAnyhow, ShowsMore}
use Rattle.raft_messages.specs.declared.memberships.SnapshotBytes.{SnapshotBytes}
use Rattle.raft_messages.specs.declared.message.Message.{Message as Sent}
use Rattle.raft_executor.proofs.StoringLemmas.{fails_still}
use Rattle.raft_executor.specs.Said.{SaysAll}
use Rattle.raft_executor.specs.Stored.{FailsAt}
use Rattle.raft_laws.specs.GroupWorld.{Up}
use Rattle.raft_laws.specs.Stop.{stopped_after}
use Rattle.raft_step_laws.specs.Tokens.{brought}
use Rattle.raft_member.specs.Member.{HasEnded as EndsAtMember}
use Rattle.raft_member.specs.declared.member.Broken.{Broken}
use Rattle.raft_member.specs.declared.member.Broken.TheVariants as broken
use Rattle.raft_member.specs.declared.member.Ended.{Ended}
use Rattle.raft_member.specs.declared.member.Ended.TheVariants as ended
use Rattle.raft_groups.specs.Standing.{HasMember}
use Rattle.raft_groups.specs.declared.fault.GroupsFault.TheVariants as groups_fault
use Rattle.raft_applier.specs.Following.{IsStep, with_brought}
use Rattle.raft_framed_groups.specs.Answers.{IsOutcomeOf, Stands}
use Rattle.raft_framed_groups.specs.Frames.{AnyNotFramed, IsFramed}
use Rattle.raft_framed_groups.specs.declared.answering.AnswerError.{AnswerError}
use Rattle.raft_framed_groups.specs.declared.answering.AnswerError.TheVariants as error
use Rattle.raft_framed_groups.specs.declared.answering.Outcome.{Outcome as Framed}
use Rattle.raft_framed_groups.specs.declared.answering.Outcome.TheVariants as framed
use Rattle.raft_framed_groups.specs.declared.frames.GroupFrame.{GroupFrame}
use Rattle.raft_machines.specs.Machine.{MachineRules}
use Rattle.raft_wire.specs.declared.error.FrameError.{FrameError}
use Rattle.raft_wire.specs.declared.error.FrameError.TheVariants as frame_error
use Rattle.raft_node_faults.specs.Fault.{cause_of, fault_of_refusal}
use Rattle.raft_node_faults.specs.declared.fault.Cause.{Cause}
use Rattle.raft_node_faults.specs.declared.fault.Cause.TheVariants as cause
use Rattle.raft_node_faults.specs.declared.fault.Fault.{Fault}
use Rattle.raft_node_faults.specs.declared.fault.Fault.TheVariants as fault
use Rattle.raft_machines.specs.declared.telling.UnknownTokens.{UnknownTokens}
use Rattle.raft_node.specs.Ending.{AreFramed, HasEnded, HasStopped, IsBroken, IsCausedBy, IsRefused}
use Rattle.raft_node.specs.Running.{Running, RunsAt}
use Rattle.raft_node.specs.Settling.{FollowsTo, IsAnswered, IsBehind, IsStoppedBy, IsTold, cause_of_unsent}
use Rattle.raft_node.specs.Standing.{IsAt, NodeValue}
use Rattle.raft_node.specs.Waiting.{named_of, waiting_of}
use Rattle.raft_node.specs.declared.outcome.Outcome.{Outcome}
use Rattle.raft_node.proofs.Faults.{left_behind, stop_ends}

-- who waits at a machine that has run all that is applied there
pub waits : (rules : MachineRules) (r : Option Running) (s : GroupState) → RunsAt rules r s → waiting_of r ≡ s.untold
waits rules None s runs = absurd runs
waits rules (Some r) s runs = runs.waiting

module _ (stands : SnapshotBytes → Snapshot → Type 0) where
  -- the event was done, and these messages are its step's
  pub record IsSaid (n : NodeValue) (group : ℕ) (s : GroupState) (e : GroupEvent) (messages : List (Sent SnapshotBytes)) : Type 0 where
    pub taken : refusal_of n.groups.own s e ≡ None
    pub say : SaysAll stands messages (group_step n.groups.own s e).messages
    pub up : Stands n.groups group (Up (group_step n.groups.own s e).state)

  module _ (n : NodeValue) (group : ℕ) (s : GroupState) (e : GroupEvent) where
    abbrev pub EndedAs : Ended SnapshotBytes → Type 0
    EndedAs end = HasMember n.groups.own n.groups.members group (λ member. EndsAtMember stands n.groups.is_well (n.groups.shows group) n.groups.own s e None member end)

    pub said_by : (messages : _) → EndedAs (ended.Done messages) → IsSaid n group s e messages.items
    said_by messages h = record {
      taken = h.holds.1;
      say = h.holds.2;
      up = record { member = h.member; has = h.has; owned = h.owned; holds = h.holds.3 };
    }

    module _ (F : Type 0) where
      -- frames are sent of an event that was done
      pub sent_of : (frames : _) (end : Ended SnapshotBytes) → EndedAs end → IsOutcomeOf {F = F} group end (Ok (framed.Sent frames))
          → (messages : List (Sent SnapshotBytes)) × IsSaid n group s e messages × AllZip (IsFramed group) messages frames.items
      sent_of frames (ended.Done messages) h is = (messages.items, said_by messages h, is)
      sent_of frames (ended.Refused why) h is = absurd (let no : Ok (framed.Sent frames) ≡ Ok (framed.Refused why) = is in cc)
      sent_of frames ended.Stopped h is = absurd (let no : Ok (framed.Sent frames) ≡ Ok framed.Down = is in cc)
      sent_of frames ended.Skipped h is = absurd (let no : Ok (framed.Sent frames) ≡ Ok framed.Down = is in cc)

      -- what isn't sent was to be sent of an event that was done
      pub unsent_of : (why : FrameError) (end : Ended SnapshotBytes) → EndedAs end → IsOutcomeOf {F = F} group end (Err (error.Unsent why))
          → (messages : List (Sent SnapshotBytes)) × IsSaid n group s e messages × AnyNotFramed group messages why
      unsent_of why (ended.Done messages) h is = (messages.items, said_by messages h, is)
      unsent_of why (ended.Refused other) h is = absurd (let no : Err (error.Unsent why) ≡ Ok (framed.Refused other) = is in cc)
      unsent_of why ended.Stopped h is = absurd (let no : Err (error.Unsent why) ≡ Ok framed.Down = is in cc)
      unsent_of why ended.Skipped h is = absurd (let no : Err (error.Unsent why) ≡ Ok framed.Down = is in cc)

      -- an event is refused for this
      pub refusal_in : (why : Refusal ℕ) (end : Ended SnapshotBytes) → EndedAs end → IsOutcomeOf {F = F} group end (Ok (framed.Refused why)) → EndedAs (ended.Refused why)
      refusal_in why (ended.Done messages) h is = absurd is
      refusal_in why (ended.Refused other) h is =
          let same : other ≡ why = let same : Ok (framed.Refused why) ≡ Ok (framed.Refused other) = is in cc in
          subst (λ w. EndedAs (ended.Refused w)) same h
      refusal_in why ended.Stopped h is = absurd (let no : Ok (framed.Refused why) ≡ Ok framed.Down = is in cc)
      refusal_in why ended.Skipped h is = absurd (let no : Ok (framed.Refused why) ≡ Ok framed.Down = is in cc)

      -- a member that was up isn't down behind its event
      pub never_down : (end : Ended SnapshotBytes) → EndedAs end → IsOutcomeOf {F = F} group end (Ok framed.Down) → ⊥
      never_down (ended.Done messages) h is = is
      never_down (ended.Refused why) h is = let no : Ok framed.Down ≡ Ok (framed.Refused why) = is in cc
      never_down ended.Stopped h is = let no : None ≡ Some h.holds.1.0 = h.holds.1.1 in cc
      never_down ended.Skipped h is = h.holds

      pub never_waits : (end : Ended SnapshotBytes) → EndedAs end → IsOutcomeOf {F = F} group end (Ok framed.Waits) → ⊥
      never_waits (ended.Done messages) h is = is
      never_waits (ended.Refused why) h is = let no : Ok framed.Waits ≡ Ok (framed.Refused why) = is in cc
      never_waits ended.Stopped h is = let no : Ok framed.Waits ≡ Ok framed.Down = is in cc
      never_waits ended.Skipped h is = h.holds

-- ---- each end

module _ (F : Type 0) (rules : MachineRules) (stands : SnapshotBytes → Snapshot → Type 0) where
  -- a refusal is told by its fault
  refused_as : (n : NodeValue) (group : ℕ) (s : GroupState) (e : GroupEvent) (why : Refusal ℕ) → IsRefused {F = F} rules n group s e (fault_of_refusal why) → HasEnded {F = F} rules stands n group s e (Err (fault_of_refusal why))
  refused_as n group s e (refusal.NotLeader known) h = h
  refused_as n group s e refusal.UnknownGroup h = h
  refused_as n group s e refusal.GroupExists h = h
  refused_as n group s e refusal.NotAllowed h = h
  refused_as n group s e refusal.NotVoter h = h
  refused_as n group s e refusal.MembershipRefused h = h
  refused_as n group s e refusal.VoterChange h = h
  refused_as n group s e refusal.InProgress h = h
  refused_as n group s e refusal.CommandTooLong h = h
  refused_as n group s e refusal.NumberAtEnd h = h
  refused_as n group s e refusal.WrongParty h = h
  refused_as n group s e refusal.BreaksCondition h = h

  pub refused_ends : (n : NodeValue) (group : ℕ) (s : GroupState) (e : GroupEvent) (why : Refusal ℕ) → refusal_of n.groups.own s e ≡ Some (reason_of why) → IsAt rules n group s
      → HasEnded {F = F} rules stands n group s e (Err (fault_of_refusal why))
  refused_ends n group s e why reason at = refused_as n group s e why (record { refusal = why; reason = reason; named = refl; at = at })

  module _ (old new : NodeValue) (group : ℕ) (s : GroupState) (e : GroupEvent) (own : new.groups.own ≡ old.groups.own) (more : ShowsMore new.groups.shows)
      (fine : new.groups.is_well → FailsAnyhow new.groups.fails) where
    taken_on : refusal_of old.groups.own s e ≡ None → refusal_of new.groups.own s e ≡ None
    taken_on taken = ap (λ n. refusal_of n s e) own ∙ taken

    -- the event was done, and what is stored of its group stays
    broken_behind : (why : Cause F) (unknown : List UnknownTokens) → refusal_of old.groups.own s e ≡ None → Stands old.groups group (Up (group_step old.groups.own s e).state)
        → ((parts : _) → old.groups.shows group parts → new.groups.shows group parts) → FailsAnyhow new.groups.fails → named_of unknown group ≡ s.untold ++ brought s e
        → IsCausedBy stands group (group_step old.groups.own s e).messages why → IsBroken stands new group s e why unknown
    broken_behind why unknown taken up keeps anyhow named caused = record {
      taken = taken_on taken;
      left = left_behind new group s e more anyhow (subst (λ n. new.groups.shows group ((group_step n s e).state.stored ∷ [])) (sym own) (keeps _ up.holds.stored));
      named = named;
      caused = subst (λ n. IsCausedBy stands group (group_step n s e).messages why) (sym own) caused;
    }

    -- the machine has followed, or the storage failed behind the step
    pub followed_ends : (frames : List GroupFrame) → refusal_of old.groups.own s e ≡ None → IsBehind rules old group s e → AreFramed stands group (group_step old.groups.own s e).messages frames
        → (result : Result Outcome (Fault F)) → FollowsTo rules old new group s e frames result → HasEnded rules stands new group s e result
    followed_ends frames taken behind framed (Ok o) h = record {
      of_group = h.of_group;
      taken = taken_on taken;
      at = h.at;
      frames = subst (AreFramed stands group (group_step new.groups.own s e).messages) (sym h.sent) (subst (λ n. AreFramed stands group (group_step n s e).messages frames) (sym own) framed);
      gone = h.gone;
    }
    followed_ends frames taken behind framed (Err (fault.Stopped (cause.Storage met) unknown)) h =
        (h.0, broken_behind (cause.Storage met) unknown.items taken behind.up (h.1 group) h.2 (h.3 group ∙ waits rules (old.running group) (with_brought s e) behind.runs) tt)
    followed_ends frames taken behind framed (Err other) h = absurd h

    -- what the event sends has no frame
    pub unsent_ends : (same : Type 0) (why : FrameError) (messages : List (Sent SnapshotBytes)) (result : Fault F) → IsSaid stands old group s e messages → AnyNotFramed group messages why
        → RunsAt rules (old.running group) (with_brought s e) → IsTold same old new result → IsStoppedBy (cause_of_unsent why) result → HasEnded rules stands new group s e (Err result)
    unsent_ends same why messages result said missing runs told by =
        stop_ends rules stands same old new group s e result (cause_of_unsent why) told by
        (λ unknown named. broken_by why missing unknown (named ∙ waits rules (old.running group) (with_brought s e) runs))
      where
        broken_by : (why : FrameError) → AnyNotFramed group messages why → (unknown : List UnknownTokens) → named_of unknown group ≡ s.untold ++ brought s e → HasStopped {F = F} stands new group s e unknown (cause_of_unsent why)
        broken_by (frame_error.Fault f) missing unknown named = broken_behind (cause.Frame (frame_error.Fault f)) unknown said.taken said.up (told.kept group) (fine (told.well said.up.holds.well)) named (messages, said.say, missing)
        broken_by frame_error.StreamFailed missing unknown named = broken_behind (cause.Frame frame_error.StreamFailed) unknown said.taken said.up (told.kept group) (fine (told.well said.up.holds.well)) named (messages, said.say, missing)
        broken_by frame_error.Memory missing unknown named = broken_behind cause.Memory unknown said.taken said.up (told.kept group) (fine (told.well said.up.holds.well)) named tt

    -- the groups met a fault in the event
    pub met_ends : (same : Type 0) (met : Broken F) (result : Fault F) → IsAnswered rules stands old group s e (Err (error.Groups (groups_fault.Stopped met)))
        → IsTold same old new result → IsStoppedBy (cause_of met) result → HasEnded rules stands new group s e (Err result)
    met_ends same (broken.Unjudged met) result answered told by =
        stop_ends rules stands same old new group s e result cause.Unjudged told by
        (λ unknown named. record { stored = told.kept group _ answered.taken.holds.stored; named = named ∙ waits rules (old.running group) s answered.runs })
    met_ends same (broken.Begun met) result answered told by =
        let halted = answered.taken.holds in
        stop_ends rules stands same old new group s e result (cause.Storage met) told by
        (λ unknown named. record {
          taken = taken_on halted.taken;
          left = record {
            shown = (
              halted.number,
              subst (λ n. new.groups.shows group (stopped_after halted.number s.stored (group_step n s e) ∷ stopped_after (halted.number + 1) s.stored (group_step n s e) ∷ [])) (sym own)
                  (told.kept group _ halted.stored),
            );
            failed = subst (λ n. FailsAt new.groups.fails halted.number (group_step n s e).commands s.stored) (sym own) (fails_still old.groups.fails new.groups.fails _ _ told.failed halted.failed);
          };
          named = named ∙ waits rules (old.running group) (with_brought s e) answered.runs;
          caused = tt;
        })

    -- the group's answer is settled
    pub sent_settled : (frames : _) (answered : Result Framed (AnswerError F)) (result : Result Outcome (Fault F)) → answered ≡ Ok (framed.Sent frames) → (refusal_of old.groups.own s e ≡ None → IsStep old.groups.own s e)
        → IsAnswered rules stands old group s e answered → (IsStep old.groups.own s e → IsBehind rules old group s e → FollowsTo rules old new group s e frames.items result) → HasEnded rules stands new group s e result
    sent_settled frames answered result is step at follows =
        let here = subst (IsAnswered rules stands old group s e) is at in
        let x = sent_of stands old group s e F frames here.taken.0 here.taken.1 here.taken.2 in
        let behind : IsBehind rules old group s e = record { up = x.1.up; runs = here.runs } in
        followed_ends frames.items x.1.taken behind (record { messages = x.0; say = x.1.say; framed = x.2 }) result (follows (step x.1.taken) behind)
