-- A member over any storage, at one that has what it stores in memory.
use Rattle.std.specs.Prelude.{◌≡◌, ◌+◌, ℕ, true, take, [], ◌∷◌, Option, Some, None, option_map, refl}
use Rattle.std.proofs.Common.{inl, inr, sym, ap, subst, ◌∙◌}
use Rattle.raft_values.specs.declared.log_id.LogId.{LogId}
use Rattle.raft_values.specs.LogId.{place_of}
use Rattle.raft_group_step.specs.StoredGroup.{Snapshot, StoredGroup, entry_at, id_of}
use Rattle.raft_group_step.specs.SnapshotTrigger.{snapshot_at}
use Rattle.raft_group_step.specs.GroupState.{GroupState}
use Rattle.raft_group_step.specs.GroupEvent.{GroupEvent}
use Rattle.raft_group_step.specs.GroupStep.{group_step}
use Rattle.raft_engine.specs.Building.{IsSnapshotOfApplied}
use Rattle.raft_engine.specs.Standing.{IsStateOf}
use Rattle.raft_group_storage.specs.Keeping.{Fails, KeepsAll}
use Rattle.raft_group_storage.specs.Plain.{IsOnly}
use Rattle.raft_group_storage.specs.declared.only_group.TheConstants.{ONLY_GROUP}
use Rattle.raft_executor.specs.Said.{Says, SaysBody}
use Rattle.raft_executor.proofs.PlainLemmas.{Same, said_all}
use Rattle.raft_messages.specs.Messages.{body_of, message_of}
use Rattle.raft_messages.specs.declared.message.MessageBody.{MessageBody as Body}
use Rattle.raft_messages.specs.declared.message.MessageBody.TheVariants.{VoteRequest as AsksForVote, VoteReply as AnswersVote, AppendRequest as SendsEntries}
use Rattle.raft_messages.specs.declared.message.MessageBody.TheVariants.{AppendReply as AnswersEntries, SnapshotRequest as SendsSnapshot, SnapshotReply as AnswersSnapshot}
use Rattle.raft_messages.specs.declared.message.Message.{Message as Sent}
use Rattle.raft_laws.specs.Stop.{stopped_after}
use Rattle.raft_laws.proofs.GroupsStay.{groups_stay}
use Rattle.raft_member.specs.Member as over
use Rattle.raft_member.specs.Member.{Engine, IsBuilt, IsIdle}
use Rattle.raft_member.specs.declared.member.Member.{Member as Replica}
use Rattle.raft_member.specs.declared.member.Ended.TheVariants as ended
use Rattle.raft_member.specs.declared.member.Broken.TheVariants as broken
use Rattle.raft_world.specs.Member.{Broken, Ended, HasBrokenOff, HasEnded, HasStopped, IsDown, IsUp}
use Rattle.raft_world.specs.declared.member.Member.{Member}

module _ (own : ℕ) (s : GroupState) (e : GroupEvent) (m : Member) where
  -- the event ended so
  pub ended_plain : (stop : Option ℕ) (end : Ended) → over.HasEnded Same (Unit {0}) (IsOnly m.stored ONLY_GROUP) own s e stop m.replica end → HasEnded own s e stop m end
  ended_plain stop (ended.Done sent) h = (h.0, h.1, said_all sent.items (group_step own s e).messages h.2, h.3)
  ended_plain stop (ended.Refused why) h = h
  ended_plain stop ended.Stopped h = h
  ended_plain stop ended.Skipped h = absurd h

  -- it stopped after so many storing commands, or one more
  pub stopped_plain : (fails : Fails) → s.stored.present ≡ true → over.HasStopped (IsOnly m.stored ONLY_GROUP) fails own s e m.replica → HasStopped own s e m
  stopped_plain fails present h = elim h.stored.1 [ inl is ↦ after h.number is | inr more ↦ elim more [ inl is ↦ after (h.number + 1) is | inr miss ↦ absurd miss ] ]
    where
      after : (k : ℕ) → m.stored ≡ stopped_after k s.stored (group_step own s e) → HasStopped own s e m
      after k is = record {
        taken = h.taken;
        number = k;
        down = record {
          no_engine = h.no_engine;
          well = tt;
          stored = (refl, inl is);
          present = groups_stay (take k (group_step own s e).commands) s.stored present;
        };
      }

  -- or it met want of memory
  pub broken_plain : (fails : Fails) → s.stored.present ≡ true → (met : Broken) → over.HasBrokenOff (Unit {0}) (IsOnly m.stored ONLY_GROUP) fails own s e m.replica met → HasBrokenOff own s e m met
  broken_plain fails present (broken.Unjudged met) h = h
  broken_plain fails present (broken.Begun met) h = stopped_plain fails present h

-- ---- a member to which nothing happened

module _ (old new : Member) (same : new.replica ≡ old.replica) (keeps : KeepsAll (IsOnly old.stored) (IsOnly new.stored)) where
  pub down_stays : (kept : StoredGroup) → IsDown old kept → IsDown new kept
  down_stays kept down = record {
    no_engine = ap (λ (m : Replica). m.engine) same ∙ down.no_engine;
    well = tt;
    stored = keeps ONLY_GROUP (kept ∷ []) down.stored;
    present = down.present;
  }

  pub up_stays : (s : GroupState) → IsUp old s → IsUp new s
  up_stays s up = record {
    engine = up.engine;
    has_engine = ap (λ (m : Replica). m.engine) same ∙ up.has_engine;
    idle = subst (λ (id : ℕ). IsIdle id up.engine s) (sym (ap (λ (m : Replica). m.id) same)) up.idle;
    well = tt;
    stored = keeps ONLY_GROUP (s.stored ∷ []) up.stored;
    present = up.present;
    moment = ap (λ (m : Replica). m.moment) same ∙ up.moment;
  }

-- ---- the snapshot of what is applied

module _ (own : ℕ) (e : Engine) (s : GroupState) (h : IsStateOf own e s) where
  applied_at : (committed : Option (LogId ℕ)) → e.state.state.committed ≡ committed → s.applied ≡ place_of committed
  applied_at committed is = h.order.applied ∙ sym h.order.committed ∙ ap place_of (sym h.committed ∙ is)

  -- where nothing is committed there is none
  pub none_built : e.state.state.committed ≡ None → IsBuilt Same None s
  none_built is = λ x covers. absurd (let no : None ≡ Some x.last.index = sym (applied_at None is) ∙ covers.applied in cc)

  built_at : (applied : LogId ℕ) → e.state.state.committed ≡ Some applied → (x : Snapshot) → IsSnapshotOfApplied s x
      → option_map (snapshot_at s.stored) (id_of (entry_at s.stored applied.index)) ≡ Some x
  built_at applied is x covers =
      let both : Some applied.index ≡ Some x.last.index = sym (applied_at (Some applied) is) ∙ covers.applied in
      let same : applied.index ≡ x.last.index = cc in
      ap (λ place. option_map (snapshot_at s.stored) (id_of (entry_at s.stored place))) same
      ∙ (ap (option_map (snapshot_at s.stored)) covers.entry ∙ ap Some (sym covers.covers))

  -- and else it is the one at the last committed place
  pub is_built : (applied : LogId ℕ) → e.state.state.committed ≡ Some applied → (built : Option Snapshot)
      → built ≡ option_map (snapshot_at s.stored) (id_of (entry_at s.stored applied.index)) → IsBuilt Same built s
  is_built applied is None found = λ x covers. absurd (let no : None ≡ Some x = found ∙ built_at applied is x covers in cc)
  is_built applied is (Some built) found = λ x covers. let same : Some built ≡ Some x = found ∙ built_at applied is x covers in cc

-- ---- a message whose snapshot has its entries

itself : (body : Body Snapshot) → SaysBody Same body (body_of body)
itself (AsksForVote asked) = refl
itself (AnswersVote answer) = refl
itself (SendsEntries m) = refl
itself (AnswersEntries m) = refl
itself (SendsSnapshot vote id x) = (x, refl, refl)
itself (AnswersSnapshot m) = refl

pub says_itself : (m : Sent Snapshot) → Says Same m (message_of m)
says_itself m = (refl, refl, itself m.body)
