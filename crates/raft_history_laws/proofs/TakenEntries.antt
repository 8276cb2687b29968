-- The entry of a command or change that is taken stays at its node, wherever the event stops behind its first command.
use Rattle.std.specs.Prelude.{◌≡◌, ◌⊎◌, ℕ, zero, suc, ◌+◌, ◌-◌, ◌<◌, ◌^◌, true, false, List, [], ◌∷◌, ◌++◌, length, take, Option, Some, None, refl}
use Rattle.std.proofs.Common.{inl, inr, sym, ap, ◌∙◌, subst, arith, ⊎_elim, length-append, length-take-le}
use Rattle.std.proofs.lemmas.List.{take_all}
use Rattle.raft_values.specs.declared.log_id.LogId.{LogId}
use Rattle.raft_group_step.specs.Values.{ChangeMembers, Entry, LoggedMembership, Membership}
use Rattle.raft_group_step.specs.StoredGroup.{StoredGroup, StoringCommand, PutEntries, RemoveUpTo, after_storing, after_storing_all, end_place, entry_at, first_place, held, id_of, membership_in_force}
use Rattle.raft_group_step.specs.Peer.{is_kept_for_peers}
use Rattle.raft_group_step.specs.GroupState.{GroupState, Role, Follower, Candidate, Leader}
use Rattle.raft_group_step.specs.declared.group_call.GroupCall.TheVariants.{Initialize, Elect, Propose, ChangeMembership, Heartbeat, Lost, TriggerSnapshot, TriggerPurge}
use Rattle.raft_group_step.specs.GroupEvent.{GroupCall, Call}
use Rattle.raft_group_step.specs.StepResult.{StepResult}
use Rattle.raft_group_step.specs.Lead.{commit_as_leader, purge_as_wished, purge_up_to, remove_up_to, with_wish}
use Rattle.raft_group_step.specs.MembershipStep.{append_changed}
use Rattle.raft_group_step.specs.Refusal.{refusal_of}
use Rattle.raft_group_step.specs.GroupStep.{begun, call_step, event_step, finished, group_step, step_unless}
use Rattle.raft_group_step.proofs.Words.{either}
use Rattle.raft_laws.specs.BallotWorld.{BallotEvent}
use Rattle.raft_laws.specs.Origins.{changed_entry, entry_of_call}
use Rattle.raft_laws.proofs.BallotAgreement.{same_some}
use Rattle.raft_laws.proofs.Shapes.{joined_end, joined_held}
use Rattle.raft_laws.proofs.StepFits.{EventFits, NodeFits, world_after}
use Rattle.raft_laws.proofs.StepCommits.{frames_same}
use Rattle.raft_laws.proofs.StepDispatch.{event_ends}
use Rattle.raft_laws.proofs.StepOrder.{step-keeps}
use Rattle.raft_laws.proofs.StepWishes.{Wished}
use Rattle.raft_laws.proofs.TrackElections.{Ends}
use Rattle.raft_history_laws.specs.NotedIds.{is_noted}
use Rattle.raft_history_laws.proofs.StepEnds.{commit_same, finished_held, finished_vote}

-- what a call that writes an entry puts first
abbrev pub put_first : StoredGroup → Entry → StoringCommand
put_first st e = PutEntries (end_place st) (e ∷ [])

-- the call's own step: its entry is put, and nothing else
record Puts (s : GroupState) (e : Entry) (r : StepResult) : Type 0 where
  commands : r.commands ≡ put_first s.stored e ∷ []
  stored : r.state.stored ≡ after_storing (put_first s.stored e) s.stored

changed_puts : (s : GroupState) (now : ℕ) (o : Option LoggedMembership) (change : ChangeMembers) (token : ℕ) (e : Entry) → changed_entry s.stored o change ≡ Some e → Puts s e (append_changed o change token (begun now s))
changed_puts s now None change token e is = absurd (let no : None ≡ Some e = is in cc)
changed_puts s now (Some x) change token e is =
    subst (λ y. Puts s y (append_changed (Some x) change token (begun now s))) (same_some is) (record { commands = refl; stored = refl })

call_puts : (n : ℕ) (s : GroupState) (now : ℕ) (call : GroupCall) (e : Entry) → is_noted call ≡ true → entry_of_call s.stored call ≡ Some e → Puts s e (call_step n call (begun now s))
call_puts n s now (Initialize first) e t is = absurd (let no : false ≡ true = t in cc)
call_puts n s now Elect e t is = absurd (let no : false ≡ true = t in cc)
call_puts n s now (Propose command token) e t is =
    subst (λ y. Puts s y (call_step n (Propose command token) (begun now s))) (same_some is) (record { commands = refl; stored = refl })
call_puts n s now (ChangeMembership change token) e t is = changed_puts s now (membership_in_force s.stored) change token e is
call_puts n s now Heartbeat e t is = absurd (let no : false ≡ true = t in cc)
call_puts n s now (Lost peer) e t is = absurd (let no : false ≡ true = t in cc)
call_puts n s now TriggerSnapshot e t is = absurd (let no : false ≡ true = t in cc)
call_puts n s now (TriggerPurge place) e t is = absurd (let no : false ≡ true = t in cc)

-- ---- at most one more command comes at the end of an event

abbrev OneMore : StepResult → StepResult → Type 0
OneMore r q = (q.commands ≡ r.commands) ⊎ ((c : StoringCommand) × (q.commands ≡ r.commands ++ c ∷ []))

removed_more : (o : Option (LogId ℕ)) (r : StepResult) → OneMore r (remove_up_to o r)
removed_more None r = inl refl
removed_more (Some id) r = inr (RemoveUpTo id, refl)

wished_more : (role : Role) (wish : Option ℕ) (r : StepResult) → OneMore r (purge_as_wished role wish r)
wished_more Follower wish r = inl refl
wished_more (Candidate granters) wish r = inl refl
wished_more (Leader lead) None r = inl refl
wished_more (Leader lead) (Some place) r =
    either (OneMore r) (is_kept_for_peers place lead.peers) r (purge_up_to place (with_wish None r)) (inl refl)
    (removed_more (id_of (entry_at r.state.stored place)) (with_wish None r))

-- one command, and maybe one more: after the first of them, or after all
taken_both : (k : ℕ) (c d : StoringCommand) → (take (suc k) (c ∷ d ∷ []) ≡ c ∷ []) ⊎ (take (suc k) (c ∷ d ∷ []) ≡ c ∷ d ∷ [])
taken_both zero c d = inl refl
taken_both (suc zero) c d = inr refl
taken_both (suc (suc k)) c d = inr refl

-- ---- what is held behind it

pub put_end : (st : StoredGroup) (e : Entry) → end_place (after_storing (put_first st e) st) ≡ end_place st + 1
put_end st e =
    let size = length-append (take (end_place st - first_place st) st.log) (e ∷ []) in
    let all = length-take-le (end_place st - first_place st) st.log (omega arith) in
    omega arith

-- the node has the vote still, and holds one entry more
pub record HoldsMore (s : GroupState) (st : StoredGroup) : Type 0 where
  pub vote : st.vote ≡ s.stored.vote
  pub longer : end_place s.stored < length (held st)

module _ (m : Membership) (some : 0 < length m.configs) (own : ℕ) (small : own < 2 ^ 64) (before : List BallotEvent) (s : GroupState) (call : GroupCall) (now : ℕ) (fits : NodeFits m (world_after m before) own s) (event_fits : EventFits m (world_after m before) (Call call now)) (noted : is_noted call ≡ true) (taken : refusal_of own s (Call call now) ≡ None) (e : Entry) (writes : entry_of_call s.stored call ≡ Some e) where
  abbrev r0 : StepResult
  r0 = event_step own s (Call call now)

  abbrev r1 : StepResult
  r1 = commit_as_leader own r0.state.role r0

  abbrev r2 : StepResult
  r2 = purge_as_wished r1.state.role r1.state.wish r1

  abbrev end : StepResult
  end = group_step own s (Call call now)

  puts : Puts s e r0
  puts = call_puts own s now call e noted writes

  ends : Ends m some own before s.stored (world_after m before) r0 × Wished r0
  ends = event_ends m some own before small s (Call call now) fits event_fits taken

  -- the entry is behind all that was held
  held_first : end_place s.stored + 1 ≡ length (held r0.state.stored)
  held_first =
      let u = ends.0.tracks.up in
      let place = put_end s.stored e in
      let same = ap end_place puts.stored in
      let whole = joined_end r0.state.stored u.list u.joined in
      let size = ap length (joined_held r0.state.stored u.list u.joined) in
      omega arith

  is_finished : end ≡ finished own s.committed r0
  is_finished = ap (λ o. step_unless o own s (Call call now)) taken

  held_whole : held end.state.stored ≡ held r0.state.stored
  held_whole = ap (λ (r : StepResult). held r.state.stored) is_finished ∙ finished_held s.committed r0 ends.0 ends.1

  vote_whole : end.state.stored.vote ≡ s.stored.vote
  vote_whole =
      ap (λ (r : StepResult). r.state.stored.vote) is_finished
      ∙ finished_vote s.committed r0 ends.0 ends.1
      ∙ ap (λ (st : StoredGroup). st.vote) puts.stored

  end_more : OneMore r0 end
  end_more =
      let first = (commit_same own r0.state.role r0).0 in
      let last : end.commands ≡ r2.commands = ap (λ (r : StepResult). r.commands) is_finished ∙ (frames_same own s.committed r2).4 in
      ⊎_elim
      (λ x. inl (last ∙ x ∙ first))
      (λ x. inr (x.0, last ∙ x.1 ∙ ap (λ cs. cs ++ x.0 ∷ []) first))
      (wished_more r1.state.role r1.state.wish r1)

  pub whole_holds : HoldsMore s end.state.stored
  whole_holds = record { vote = vote_whole; longer = let size = ap length held_whole in omega (arith, held_first) }

  first_holds : HoldsMore s (after_storing_all (put_first s.stored e ∷ []) s.stored)
  first_holds = record { vote = refl; longer = let size = ap (λ st. length (held st)) puts.stored in omega (arith, held_first) }

  pub stopped_holds : (k : ℕ) → 0 < k → HoldsMore s (after_storing_all (take k end.commands) s.stored)
  stopped_holds zero l = absurd (omega arith)
  stopped_holds (suc k) l =
      ⊎_elim
      (λ x.
      subst (λ cs. HoldsMore s (after_storing_all cs s.stored)) (sym (ap (take (suc k)) (x ∙ puts.commands) ∙ take_all (suc k) (put_first s.stored e ∷ []) (omega arith)))
      first_holds)
      (λ x.
      let is : end.commands ≡ put_first s.stored e ∷ x.0 ∷ [] = x.1 ∙ ap (λ cs. cs ++ x.0 ∷ []) puts.commands in
      ⊎_elim
      (λ y. subst (λ cs. HoldsMore s (after_storing_all cs s.stored)) (sym (ap (take (suc k)) is ∙ y)) first_holds)
      (λ y.
      let all : take (suc k) end.commands ≡ end.commands = ap (take (suc k)) is ∙ y ∙ sym is in
      subst (HoldsMore s) ((step-keeps own s (Call call now)).stored ∙ ap (λ cs. after_storing_all cs s.stored) (sym all)) whole_holds)
      (taken_both k (put_first s.stored e) x.0))
      end_more
