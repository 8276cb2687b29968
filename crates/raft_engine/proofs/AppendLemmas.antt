-- What a leader appends, and what it leaves in order.
use Rattle.std.specs.Prelude.{◌≡◌, ℕ, ◌+◌, ◌-◌, ◌<◌, ◌≤◌, ◌==◌, nat_lt, nat_eq, true, false, if◌then◌else◌, List, [], ◌∷◌, ◌++◌, length, Option, Some, None, option_and_then, refl}
use Rattle.std.specs.List.{flat_map}
use Rattle.std.proofs.Common.{sym, ap, ◌∙◌, subst, arith, append_assoc, add_assoc, length-append}
use Rattle.std.proofs.lemmas.List.{map-append}
use Rattle.std.proofs.lemmas.Bool.Decides.{nat_tests}
use Rattle.raft_values.specs.declared.vote.Vote.{Vote}
use Rattle.raft_values.specs.declared.log_id.LogId.{LogId}
use Rattle.raft_values.specs.LogId.{next_place, place_of}
use Rattle.raft_values.specs.declared.utime.UTime.{UTime}
use Rattle.raft_log_ids.specs.LogIdList.{last_id}
use Rattle.raft_state.specs.declared.entry.EntryPayload.TheVariants.{Blank, Normal, Membership as Members}
use Rattle.raft_state.specs.Payload.{membership_of}
use Rattle.raft_progress.specs.Parts.{has_value}
use Rattle.raft_group_step.specs.Values.{ChangeMembers, Entry, EntryPayload, Membership, LoggedMembership, after_change, entry_of, has_id, membership_after}
use Rattle.raft_group_step.specs.StoredGroup.{StoredGroup, Snapshot, PutEntries, after_storing, end_place, first_place, id_at, id_of, log_below, membership_in_force, snapshot_last}
use Rattle.raft_group_step.specs.StoredGroup.{last_id as last_stored_id}
use Rattle.raft_group_step.specs.GroupState.{GroupState, Lead, Leader, Untold}
use Rattle.raft_group_step.specs.StepResult.{StepResult, append}
use Rattle.raft_group_step.specs.MembershipStep.{append_changed, membership_step}
use Rattle.raft_group_step.specs.Lead.{ids_of}
use Rattle.raft_group_step.specs.Frames.{committed_id}
use Rattle.raft_group_step.proofs.LastMembership.{last_membership-append}
use Rattle.raft_known_state.specs.KnownState.{ArePlaced, IsPlaced, KeepsRest, Knows, entry_ids, purged_ids}
use Rattle.raft_known_state.proofs.KnownStateLemmas.{behind, end-known, last-known, log_whole}
use Rattle.raft_known_state.proofs.PlacedIds.{by_order, last_of}
use Rattle.raft_commands.specs.declared.command.Command.TheVariants.{AppendInputEntries}
use Rattle.raft_leaders.specs.Candidate.{CandidateValue}
use Rattle.raft_leaders.specs.Leader.{LeaderValue, id_of_leader, peer_at}
use Rattle.raft_leaders.specs.Accepted.{WroteNoneBelow}
use Rattle.raft_commands.specs.Output.{Output}
use Rattle.raft_engine.specs.Commands.{put_all, storing_of, sending_of}
use Rattle.raft_engine.specs.Standing.{EffectiveMembership, Engine, Given, IsInOrder, IsStepOf, Leads, PlaysRole, peer_state}
use Rattle.raft_engine.specs.Leading.{KnowsMembers}
use Rattle.raft_engine.proofs.CommandLemmas.{at_once_more, numbers_kept, sends_same, stores_more}
use Rattle.raft_engine.proofs.CommittingLemmas.{moves_kept}
use Rattle.raft_engine.proofs.StandingLemmas.{order_kept}
use Rattle.raft_engine.proofs.PlacedEntries.{get_of_joined}
use Rattle.raft_engine.proofs.WrittenLemmas.{wrote_more}
use Rattle.raft_engine.specs.Standing.{basis_before}
use Rattle.raft_engine.proofs.OrderingLemmas.{rests_stored}
use Rattle.raft_engine.proofs.TurnLemmas.{turns_kept}
use Rattle.raft_group_step.specs.GroupState.{is_leader}

-- a leader knows the members of an entry that has a membership
pub knows_new : (l : LeaderValue ℕ EffectiveMembership) (before : Option LoggedMembership) (id : LogId ℕ) (payload : EntryPayload) (m : Membership) → Some m ≡ membership_of payload
    → ((n : ℕ) → has_id (ids_of (Some (record { log_id = id; membership = m }))) n ≡ true → has_value nat_eq l.progress n ≡ true) → KnowsMembers l (membership_after before id payload)
knows_new l before id Blank m e knows = cc e
knows_new l before id (Normal command) m e knows = cc e
knows_new l before id (Members other) m e knows =
    let same : m ≡ other = cc e in subst (λ y. KnowsMembers l (Some (record { log_id = id; membership = y }))) same knows

-- ---- the log with entries behind it

module _ (s : StoredGroup) (es : List Entry) where
  abbrev pub with_more : StoredGroup
  with_more = record s { log = s.log ++ es }

  -- a log id below the log's end stays
  pub id_kept : (i : ℕ) → i < end_place s → id_at with_more i ≡ id_at s i
  id_kept i l =
      by_order i (first_place s)
      (λ m. let below : nat_lt i (first_place s) ≡ true = grind (arith, nat_tests, m) in rw below refl)
      (λ m. let above : nat_lt i (first_place s) ≡ false = grind (arith, nat_tests, m) in
      rw above (ap (λ found. if i + 1 == first_place s then s.purged else id_of found) (get_of_joined s.log es (i - first_place s) (omega arith))))

-- the log grown by an entry at the next place
abbrev pub grown_by : StoredGroup → List Entry → StoredGroup
grown_by s es = record s { log = log_below s (end_place s) ++ es }

pub grown_is : (s : StoredGroup) (es : List Entry) → grown_by s es ≡ with_more s es
grown_is s es = ap (λ log. record s { log = log ++ es }) (log_whole s)

pub next_of_place : (found : Option (LogId ℕ)) (i : ℕ) → place_of found ≡ Some i → next_place found ≡ i + 1
next_of_place None i e = cc e
next_of_place (Some id) i e = let same : id.index ≡ i = cc e in ap (λ n. n + 1) same

-- what is committed stays where the log ids below the log's end stay
pub committed_kept : (s s' : StoredGroup) (place : Option ℕ) → place_of (option_and_then (id_at s) place) ≡ place → next_place (option_and_then (id_at s) place) ≤ end_place s
    → ((i : ℕ) → i < end_place s → id_at s' i ≡ id_at s i) → option_and_then (id_at s') place ≡ option_and_then (id_at s) place
committed_kept s s' None e l kept = refl
committed_kept s s' (Some i) e l kept = let next : next_place (id_at s i) ≡ i + 1 = next_of_place (id_at s i) i e in kept i (omega arith)

-- what is committed stays under entries at the log's end
pub committed_grown : (s : GroupState) (es : List Entry) → IsInOrder s → committed_id (record s { stored = grown_by s.stored es }) ≡ committed_id s
committed_grown s es o =
    committed_kept s.stored (grown_by s.stored es) s.committed o.committed o.within
    (λ i l. ap (λ (y : StoredGroup). id_at y i) (grown_is s.stored es) ∙ id_kept s.stored es i l)

-- the last log id is that of the last entry
last_grown : (s : StoredGroup) (e : Entry) → IsPlaced (with_more s (e ∷ [])) → last_stored_id (with_more s (e ∷ [])) ≡ Some e.log_id
last_grown s e p =
    sym (last-known (with_more s (e ∷ [])) p)
    ∙ ap (λ ids. last_id (purged_ids s.purged ++ ids)) (map-append (λ (y : Entry). y.log_id) s.log (e ∷ []))
    ∙ ap last_id (sym (append_assoc (purged_ids s.purged) (entry_ids s.log) (e.log_id ∷ [])))
    ∙ last_of (purged_ids s.purged ++ entry_ids s.log) e.log_id

-- entries at the log's end leave all in order
pub order_more : (s : GroupState) (es : List Entry) → ArePlaced (end_place s.stored) es → IsInOrder s → IsInOrder (record s { stored = grown_by s.stored es })
order_more s es p o =
    let kept : committed_id (record s { stored = grown_by s.stored es }) ≡ committed_id s = committed_grown s es o in
    let longer : end_place (grown_by s.stored es) ≡ end_place s.stored + length es =
    ap (λ (y : StoredGroup). end_place y) (grown_is s.stored es) ∙ ap (λ n. first_place s.stored + n) (length-append s.stored.log es) ∙ sym (add_assoc (first_place s.stored) (length s.stored.log) (length es)) in
    record {
      placed = subst IsPlaced (sym (grown_is s.stored es)) (behind s.stored.log es (first_place s.stored) o.placed p);
      purged = o.purged;
      snapshot = subst (λ found. next_place (snapshot_last s.stored) ≤ next_place found) (sym kept) o.snapshot;
      committed = ap place_of kept ∙ o.committed;
      applied = o.applied;
      within = let same = ap next_place kept in let before = o.within in omega (arith, same, before, longer);
    }

-- ---- a leader goes on

leading : (own : ℕ) (l : LeaderValue ℕ EffectiveMembership) (c : Option (CandidateValue ℕ EffectiveMembership)) (s : StoredGroup) (lead : Lead) → PlaysRole own (Some l) c s (Leader lead) → Leads own l s lead
leading own l None s lead h = h
leading own l (Some c) s lead h = absurd h

leads_on : (own : ℕ) (l l' : LeaderValue ℕ EffectiveMembership) (c : Option (CandidateValue ℕ EffectiveMembership)) (s s' : StoredGroup) (lead : Lead)
    → PlaysRole own (Some l) c s (Leader lead) → Leads own l' s' lead → PlaysRole own (Some l') c s' (Leader lead)
leads_on own l l' None s s' lead h k = k
leads_on own l l' (Some c) s s' lead h k = absurd h

module _ {C R : Type 0} (x : Given) (own : ℕ) (e : Engine C R) (r : StepResult) (step : IsStepOf x own e r) (lead : Lead) (leads : r.state.role ≡ Leader lead)
    (l : LeaderValue ℕ EffectiveMembership) (led : e.leader ≡ Some l) where
  plays : PlaysRole own (Some l) e.candidate r.state.stored (Leader lead)
  plays =
      subst (λ role. PlaysRole own (Some l) e.candidate r.state.stored role) leads
      (subst (λ o. PlaysRole own o e.candidate r.state.stored r.state.role) led step.state.role)

  pub leads_now : Leads own l r.state.stored lead
  leads_now = leading own l e.candidate r.state.stored lead plays

  -- the leader's last log id is the log's
  pub lasts_agree : l.last_log_id ≡ last_id e.state.state.log_ids
  lasts_agree = leads_now.last ∙ sym (last-known r.state.stored step.state.order.placed) ∙ ap last_id (sym step.state.knows.ids)

  next_is_end : next_place l.last_log_id ≡ end_place r.state.stored
  next_is_end = ap next_place (leads_now.last ∙ sym (last-known r.state.stored step.state.order.placed)) ∙ end-known r.state.stored step.state.order.placed

  module _ (payload : EntryPayload) where
    abbrev next_id : LogId ℕ
    next_id = record { leader_id = r.state.stored.vote.leader_id; index = end_place r.state.stored }

    abbrev put : List Entry
    put = entry_of next_id payload ∷ []

    given_next : id_of_leader l.vote.leader_id (next_place l.last_log_id) ≡ next_id
    given_next = ap (λ (v : Vote ℕ). id_of_leader v.leader_id (next_place l.last_log_id)) leads_now.vote ∙ ap (id_of_leader r.state.stored.vote.leader_id) next_is_end

    placed_put : ArePlaced (end_place r.state.stored) put
    placed_put = (refl, tt)

  module _ (payload : EntryPayload) (l' : LeaderValue ℕ EffectiveMembership) (id : LogId ℕ) (id_next : id ≡ next_id payload) where
    leads_more : l'.vote ≡ l.vote → l'.noop_log_id ≡ l.noop_log_id → l'.last_log_id ≡ Some id → l'.began ≡ l.began → ((n : ℕ) → peer_at nat_eq l' n ≡ peer_at nat_eq l n)
        → ((before : Option LoggedMembership) → KnowsMembers l before → KnowsMembers l' (membership_after before id payload)) → Leads own l' (with_more r.state.stored (put payload)) lead
    leads_more voted noop last began peers members =
        let s = r.state.stored in
        let placed : IsPlaced (with_more s (put payload)) = behind s.log (put payload) (first_place s) step.state.order.placed (placed_put payload) in
        record {
          vote = voted ∙ leads_now.vote;
          is_own = leads_now.is_own;
          committed = leads_now.committed;
          last = last ∙ ap Some id_next ∙ sym (last_grown s (entry_of (next_id payload) payload) placed);
          began = began ∙ leads_now.began;
          first =
              let before = leads_now.first in
              let same = ap (λ (y : LogId ℕ). y.index) noop in
              let longer = length-append s.log (put payload) in omega (arith, same, before, longer);
          wrote =
              subst (λ (v : Vote ℕ). WroteNoneBelow v.leader_id l'.noop_log_id.index (entry_ids (s.log ++ put payload))) (sym voted)
              (subst (λ (y : LogId ℕ). WroteNoneBelow l.vote.leader_id y.index (entry_ids (s.log ++ put payload))) (sym noop)
              (wrote_more l.vote.leader_id l.noop_log_id.index s (entry_of (next_id payload) payload) leads_now.first leads_now.wrote));
          peers = λ n. leads_now.peers n ∙ ap (peer_state n) (sym (peers n));
          rising = leads_now.rising;
          members = subst (KnowsMembers l')
              (ap (λ (y : LogId ℕ). membership_after (membership_in_force s) y payload) id_next ∙ sym (last_membership-append (option_and_then (λ (y : Snapshot). y.membership) s.snapshot) s.log (put payload)))
              (members (membership_in_force s) leads_now.members);
        }

  module _ (e' : Engine C R) (payload : EntryPayload) (l' : LeaderValue ℕ EffectiveMembership) (vote : Vote ℕ) (entries : List Entry) (id : LogId ℕ) where
    pub appended : e'.config ≡ e.config → e'.seen_greater_log ≡ e.seen_greater_log → e'.leader ≡ Some l' → e'.candidate ≡ e.candidate → id ≡ id_of_leader l.vote.leader_id (next_place l.last_log_id) → entries ≡ entry_of id payload ∷ [] → vote ≡ l.vote
        → ((s : StoredGroup) → Knows e.state s → IsPlaced s → ArePlaced (end_place s) entries → Knows e'.state (after_storing (PutEntries (end_place s) entries) s))
        → KeepsRest e.state e'.state → l'.vote ≡ l.vote → l'.noop_log_id ≡ l.noop_log_id → l'.last_log_id ≡ Some id → l'.began ≡ l.began → ((n : ℕ) → peer_at nat_eq l' n ≡ peer_at nat_eq l n)
        → ((before : Option LoggedMembership) → KnowsMembers l before → KnowsMembers l' (membership_after before id payload))
        → e'.output ≡ record e.output { queue = e.output.queue ++ AppendInputEntries vote entries ∷ [] } → IsStepOf x own e' (append payload r)
    appended config seen leader candidate id_is entries_are under known rest voted noop last began peers members output =
        let old = step.state in
        let queue = ap (λ (o : Output C (List ℕ) R ℕ (List ℕ)). o.queue) output in
        let s = r.state.stored in
        let id_next : id ≡ next_id payload = id_is ∙ given_next payload in
        let puts : entries ≡ put payload = entries_are ∙ ap (λ (y : LogId ℕ). entry_of y payload ∷ []) id_next in
        record {
          state = record {
            config = config ∙ old.config;
            knows = subst (λ es. Knows e'.state (after_storing (PutEntries (end_place s) es) s)) puts
                (known s old.knows old.order.placed (subst (ArePlaced (end_place s)) (sym puts) (placed_put payload)));
            renewed = ap (λ (v : UTime (Vote ℕ) ℕ). v.utime) rest.vote ∙ old.renewed;
            committed = rest.committed ∙ old.committed ∙ sym (committed_grown r.state (put payload) old.order);
            wish = ap place_of rest.wish ∙ old.wish;
            role =
                subst (λ o. PlaysRole own o e'.candidate (grown_by s (put payload)) r.state.role) (sym leader)
                (subst (λ c. PlaysRole own (Some l') c (grown_by s (put payload)) r.state.role) (sym candidate)
                (subst (λ role. PlaysRole own (Some l') e.candidate (grown_by s (put payload)) role) (sym leads)
                (leads_on own l l' e.candidate s (grown_by s (put payload)) lead plays
                (subst (λ y. Leads own l' y lead) (sym (grown_is s (put payload))) (leads_more payload l' id id_next voted noop last began peers members)))));
            order = order_more r.state (put payload) (placed_put payload) old.order;
          };
          stores = ap (λ q. flat_map (storing_of x.snapshot) q) queue ∙ stores_more e.output.queue (AppendInputEntries vote entries) x.snapshot r.commands (PutEntries (end_place s) (put payload) ∷ []) step.stores (ap put_all puts);
          sends = λ t upto. ap (λ q. flat_map (sending_of own t upto) q) queue ∙ sends_same e.output.queue (AppendInputEntries vote entries) own t upto r.messages (step.sends t upto) refl;
          seen = seen ∙ step.seen;
          numbers = numbers_kept x.last_sm_seq e.output e'.output (AppendInputEntries vote entries) step.numbers output refl;
          moves = moves_kept x.committed_before e.state.state.committed e'.state.state.committed e.output.queue e'.output.queue step.moves (AppendInputEntries vote entries) queue refl rest.committed;
          at_once = at_once_more e.output.queue (AppendInputEntries vote entries) e'.output.queue queue step.at_once tt;
          rests = rests_stored own x.snapshot (basis_before x) e.output.queue e'.output.queue r.state.stored e.state.state.committed step.rests (AppendInputEntries vote entries) (sym (under ∙ leads_now.vote), subst (ArePlaced (end_place s)) (sym puts) (placed_put payload), subst (λ (es : List Entry). 0 < length es) (sym puts) (omega arith)) queue e'.state.state.committed (PutEntries (end_place s) (put payload)) (ap put_all puts) refl rest.committed;
          turns = turns_kept x.turn_before e.output.queue e'.output.queue (is_leader r.state.role) step.turns (AppendInputEntries vote entries) queue refl;
        }

-- ---- tokens

-- tokens that are to be told are none of the engine's
pub whatever_tokens : {C R : Type 0} (x : Given) (own : ℕ) (e : Engine C R) (r : StepResult) (untold : List Untold) → IsStepOf x own e r → IsStepOf x own e (record r { state = record r.state { untold = untold } })
whatever_tokens x own e r untold step =
    let old = step.state in
    record {
      state = record {
        config = old.config;
        knows = old.knows;
        renewed = old.renewed;
        committed = old.committed;
        wish = old.wish;
        role = old.role;
        order = order_kept r.state r.state.stored.vote r.state.now r.state.role r.state.renewed r.state.wish untold old.order;
      };
      stores = step.stores;
      sends = step.sends;
      seen = step.seen;
      numbers = step.numbers;
      moves = step.moves;
      at_once = step.at_once;
      rests = step.rests;
      turns = step.turns;
    }

-- what a proposal's token waits for
abbrev pub with_token : ℕ → StepResult → StepResult
with_token token r = record r { state = record r.state { untold = r.state.untold ++ record { token = token; place = end_place r.state.stored } ∷ [] } }

-- a change of the membership in force
pub change_appended : (r : StepResult) (m : LoggedMembership) (change : ChangeMembers) (token : ℕ) (asked : Membership) → membership_in_force r.state.stored ≡ Some m → asked ≡ after_change m.membership change
    → append (Members asked) (with_token token r) ≡ membership_step change token r
change_appended r m change token asked in_force is =
    ap (λ (y : Membership). append (Members y) (with_token token r)) is ∙ sym (ap (λ found. append_changed found change token r) in_force)
