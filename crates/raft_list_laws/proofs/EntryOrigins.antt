-- Each entry that a leader was noted with is blank, or an event of the run asked for it.
use Rattle.std.specs.Prelude.{◌≡◌, ℕ, ◌<◌, Bool, true, false, List, [], ◌∷◌, ◌++◌, length, Some, None, refl}
use Rattle.std.proofs.Common.{inl, inr, sym, ap, ◌∙◌, subst, arith, append_assoc, append-nil}
use Rattle.raft_values.specs.declared.log_id.LogId.{LogId}
use Rattle.raft_state.specs.declared.entry.EntryPayload.TheVariants.{Blank}
use Rattle.raft_group_step.specs.Values.{Entry, entry_of, has_id}
use Rattle.raft_group_step.specs.StoredGroup.{StoredGroup}
use Rattle.raft_group_step.specs.GroupState.{no_group, state_of}
use Rattle.raft_group_step.specs.declared.group_call.GroupCall.TheVariants.{Initialize, Elect, Propose, ChangeMembership, Heartbeat, Lost, TriggerSnapshot, TriggerPurge}
use Rattle.raft_group_step.specs.GroupEvent.{GroupCall}
use Rattle.raft_laws.specs.GroupWorld.{GroupWorld, Absent, Up, new_world, state_or}
use Rattle.raft_laws.specs.GroupRun.{group_run}
use Rattle.raft_laws.specs.Origins.{Events, IsAskedAt, entry_of_call}
use Rattle.raft_laws.proofs.BallotAgreement.{same_some}
use Rattle.raft_laws.proofs.WorldEntries.{EntriesFit, NodeEach, ran_each}
use Rattle.raft_laws.proofs.WorldOrigins.{HasOrigin, asked_at, run_more}
use Rattle.raft_history_laws.specs.NotedIds.{is_noted}

module _ (es : Events) (w : GroupWorld) where
  pub none_asked : (id : LogId ℕ) → HasOrigin es w (entry_of id Blank)
  none_asked id = inl refl

  asked_along : (early rest : Events) → es ≡ early ++ rest → EntriesFit (HasOrigin es w) none_asked (group_run early w) → EntriesFit (HasOrigin es w) none_asked (group_run es w)
  asked_along early [] split h = subst (λ (xs : Events). EntriesFit (HasOrigin es w) none_asked (group_run xs w)) (sym (split ∙ append-nil early)) h
  asked_along early (x ∷ rest) split h =
      asked_along (early ++ x ∷ []) rest (split ∙ sym (append_assoc early (x ∷ []) rest))
      (subst (EntriesFit (HasOrigin es w) none_asked) (sym (run_more early x w))
      (ran_each (HasOrigin es w) none_asked (group_run early w) x.0 x.1 h
      (λ n call now s ask up same taken goes e writes.
      inr (length early, call, asked_at es early rest x.0 x.1 w split n call now s ask up same taken goes e writes))))

  start_each : (b : Bool) → NodeEach (HasOrigin es w) none_asked (state_or b (Up (state_of no_group)) Absent)
  start_each true = (tt, tt)
  start_each false = tt

pub origins_of_run : (ids : List ℕ) (es : Events) → EntriesFit (HasOrigin es (new_world ids)) (none_asked es (new_world ids)) (group_run es (new_world ids))
origins_of_run ids es =
    asked_along es (new_world ids) [] es refl
    (record {
      nodes = λ n. start_each es (new_world ids) (has_id ids n);
      messages = tt;
      led = tt;
    })

-- ---- a call that writes an entry of a leader is a command or a change

changes_noted : (st : StoredGroup) (call : GroupCall) (e : Entry) → entry_of_call st call ≡ Some e → 0 < e.log_id.leader_id.term → is_noted call ≡ true
changes_noted st (Initialize m) e is term =
    let zero = ap (λ (x : Entry). x.log_id.leader_id.term) (same_some is) in absurd (omega arith)
changes_noted st Elect e is term = absurd (let no : None ≡ Some e = is in cc)
changes_noted st (Propose command token) e is term = refl
changes_noted st (ChangeMembership change token) e is term = refl
changes_noted st Heartbeat e is term = absurd (let no : None ≡ Some e = is in cc)
changes_noted st (Lost peer) e is term = absurd (let no : None ≡ Some e = is in cc)
changes_noted st TriggerSnapshot e is term = absurd (let no : None ≡ Some e = is in cc)
changes_noted st (TriggerPurge place) e is term = absurd (let no : None ≡ Some e = is in cc)

pub asked_noted : {es : Events} {w : GroupWorld} {number : ℕ} {call : GroupCall} {e : Entry} → IsAskedAt es w number call e → 0 < e.log_id.leader_id.term → is_noted call ≡ true
asked_noted {call = call} {e = e} a term = changes_noted a.state.stored call e a.writes term
