-- What is purged leaves the rest in order, and the node plays on.
use Rattle.std.specs.Prelude.{◌≡◌, ℕ, ◌+◌, ◌-◌, ◌<◌, ◌≤◌, ◌==◌, nat_lt, Bool, true, false, if◌then◌else◌, List, [], ◌∷◌, ◌++◌, drop, Option, Some, None, min, option_and_then, option_map, refl}
use Rattle.std.specs.List.{slice_get, flat_map}
use Rattle.std.specs.Option.{is_some}
use Rattle.std.proofs.Common.{sym, ap, ◌∙◌, subst, arith, length-drop}
use Rattle.std.proofs.lemmas.Bool.Decides.{nat_tests}
use Rattle.raft_values.specs.declared.vote.Vote.{Vote}
use Rattle.raft_values.specs.declared.vote.LeaderId.{LeaderId}
use Rattle.raft_values.specs.declared.utime.UTime.{UTime}
use Rattle.raft_values.specs.declared.log_id.LogId.{LogId}
use Rattle.raft_values.specs.LogId.{next_place, place_of}
use Rattle.raft_group_step.specs.Values.{Entry}
use Rattle.raft_group_step.specs.StoredGroup.{StoredGroup, Snapshot, RemoveUpTo, after_storing, end_place, entry_at, first_place, id_at, id_of, last_id, membership_in_force, snapshot_last}
use Rattle.raft_group_step.specs.GroupState.{GroupState, Role, Follower, Candidate, Leader, Lead}
use Rattle.raft_group_step.specs.StepResult.{StepResult, later_place, store, with_stored}
use Rattle.raft_group_step.specs.Lead.{purge_as_wished, purge_up_to, remove_up_to, with_wish}
use Rattle.raft_group_step.specs.PurgeTrigger.{purge_as, purge_trigger_step, purge_within}
use Rattle.raft_group_step.specs.Peer.{is_kept_for_peers}
use Rattle.raft_group_step.specs.Frames.{committed_id}
use Rattle.raft_group_step.proofs.EntryPlaces.{entry_within}
use Rattle.raft_known_state.specs.KnownState.{ArePlaced, IsEntryOrPast, IsPlaced, KeepsRest, Knows, SnapshotMeta, entry_ids, meta_of, with_goal}
use Rattle.raft_known_state.proofs.PlacedIds.{by_order}
use Rattle.raft_commands.specs.declared.command.Command.TheVariants.{PurgeLog}
use Rattle.raft_leaders.specs.Candidate.{CandidateValue}
use Rattle.raft_leaders.specs.Leader.{LeaderValue}
use Rattle.raft_leaders.specs.Accepted.{WroteNoneBelow}
use Rattle.raft_commands.specs.Output.{Output}
use Rattle.raft_engine.specs.Commands.{storing_of, sending_of}
use Rattle.raft_engine.specs.Leading.{CountsBy, CountsOn}
use Rattle.raft_engine.specs.Standing.{EffectiveMembership, Engine, Given, IsInOrder, IsStepOf, Leads, PlaysRole, Stands, peer_state}
use Rattle.raft_engine.proofs.AppendLemmas.{next_of_place}
use Rattle.raft_engine.proofs.CommandLemmas.{at_once_more, numbers_kept, sends_same, stores_more}
use Rattle.raft_engine.proofs.CommittingLemmas.{moves_kept}
use Rattle.raft_engine.proofs.StandingLemmas.{order_kept}
use Rattle.raft_engine.proofs.PlacedEntries.{HasEntry, dropped, has_entry, get_of_dropped}
use Rattle.raft_engine.proofs.WrittenLemmas.{wrote_left}
use Rattle.raft_engine.specs.Standing.{basis_before}
use Rattle.raft_engine.proofs.OrderingLemmas.{rests_stored}
use Rattle.raft_engine.proofs.TurnLemmas.{turns_kept}
use Rattle.raft_group_step.specs.GroupState.{is_leader}

-- ---- the part that a node plays

-- the vote and the end of the log stay, and whatever a leader wrote stands no lower
pub record KeepsStanding (s s' : StoredGroup) : Type 0 where
  pub vote : s'.vote ≡ s.vote
  pub last : last_id s' ≡ last_id s
  pub ends : end_place s' ≡ end_place s
  pub wrote : (leader : LeaderId ℕ) (place : ℕ) → WroteNoneBelow leader place (entry_ids s.log) → WroteNoneBelow leader place (entry_ids s'.log)

pub all_stays : (s : StoredGroup) → KeepsStanding s s
all_stays s = record { vote = refl; last = refl; ends = refl; wrote = λ leader place h. h }

abbrev LeaderOf : Type 0
LeaderOf = LeaderValue ℕ EffectiveMembership

stands_on : (own : ℕ) (c : CandidateValue ℕ EffectiveMembership) (s s' : StoredGroup) (granters : List ℕ) → KeepsStanding s s' → Stands own c s granters → Stands own c s' granters
stands_on own c s s' granters k h =
    record {
      vote = h.vote ∙ sym k.vote;
      is_own = ap (λ (v : Vote ℕ). v.leader_id.node_id) k.vote ∙ h.is_own;
      uncommitted = ap (λ (v : Vote ℕ). v.committed) k.vote ∙ h.uncommitted;
      granted = h.granted;
    }

leads_on : (own : ℕ) (l l' : LeaderOf) (s s' : StoredGroup) (lead : Lead) → KeepsStanding s s' → CountsBy (membership_in_force s') l l' → Leads own l s lead → Leads own l' s' lead
leads_on own l l' s s' lead k counts h =
    record {
      vote = ap (λ (y : LeaderOf). y.vote) counts.rest ∙ h.vote ∙ sym k.vote;
      is_own = ap (λ (v : Vote ℕ). v.leader_id.node_id) k.vote ∙ h.is_own;
      committed = ap (λ (v : Vote ℕ). v.committed) k.vote ∙ h.committed;
      last = ap (λ (y : LeaderOf). y.last_log_id) counts.rest ∙ h.last ∙ sym k.last;
      began = ap (λ (y : LeaderOf). y.began) counts.rest ∙ h.began;
      first =
          subst (λ n. l'.noop_log_id.index ≤ n) (sym k.ends) (subst (λ (y : LeaderOf). y.noop_log_id.index ≤ end_place s) (sym counts.rest) h.first);
      wrote =
          k.wrote l'.vote.leader_id l'.noop_log_id.index
          (subst (λ (y : LeaderOf). WroteNoneBelow y.vote.leader_id y.noop_log_id.index (entry_ids s.log)) (sym counts.rest) h.wrote);
      peers = λ n. h.peers n ∙ ap (peer_state n) (sym (counts.peers n));
      rising = h.rising;
      members = counts.members;
    }

-- a node plays on where these stay, whatever membership is in force then
pub plays_on : (own : ℕ) (l l' : Option LeaderOf) (c : Option (CandidateValue ℕ EffectiveMembership)) (s s' : StoredGroup) (role : Role)
    → KeepsStanding s s' → CountsOn (membership_in_force s') l l' → PlaysRole own l c s role → PlaysRole own l' c s' role
plays_on own None None None s s' Follower k o h = tt
plays_on own None None (Some c) s s' Follower k o h = absurd h
plays_on own None None None s s' (Candidate granters) k o h = absurd h
plays_on own None None (Some c) s s' (Candidate granters) k o h = stands_on own c s s' granters k h
plays_on own None None c s s' (Leader lead) k o h = absurd h
plays_on own None (Some l') c s s' role k o h = absurd o
plays_on own (Some l) None c s s' role k o h = absurd o
plays_on own (Some l) (Some l') c s s' Follower k o h = absurd h
plays_on own (Some l) (Some l') c s s' (Candidate granters) k o h = absurd h
plays_on own (Some l) (Some l') None s s' (Leader lead) k o h = leads_on own l l' s s' lead k o h
plays_on own (Some l) (Some l') (Some c) s s' (Leader lead) k o h = absurd h

-- ---- the log without its first entries

module _ (s : StoredGroup) (id : LogId ℕ) (placed : IsPlaced s) (above : first_place s ≤ id.index) (within : id.index < end_place s) (found : id_at s id.index ≡ Some id) where
  abbrev pub purged : StoredGroup
  purged = after_storing (RemoveUpTo id) s

  -- log ids from the purged one on stay
  pub id_stays : (i : ℕ) → id.index ≤ i → id_at purged i ≡ id_at s i
  id_stays i l =
      by_order id.index i
      (λ m. let not_purged : (i + 1 == id.index + 1) ≡ false = grind (arith, nat_tests, m) in
      let in_log : nat_lt i (id.index + 1) ≡ false = grind (arith, nat_tests, m) in
      let not_before : (i + 1 == first_place s) ≡ false = grind (arith, nat_tests, m, above) in
      let in_log_before : nat_lt i (first_place s) ≡ false = grind (arith, nat_tests, m, above) in
      let at : (id.index + 1 - first_place s) + (i - (id.index + 1)) ≡ i - first_place s = omega arith in
      rw (not_purged, in_log, not_before, in_log_before) (ap id_of (get_of_dropped s.log (id.index + 1 - first_place s) (i - (id.index + 1)) ∙ ap (slice_get s.log) at)))
      (λ m. let here : id.index ≡ i = omega arith in
      let is_purged : (i + 1 == id.index + 1) ≡ true = grind (arith, nat_tests, here) in
      rw is_purged (sym found ∙ ap (id_at s) here))

  pub end_stays : end_place purged ≡ end_place s
  end_stays = let left = length-drop (id.index + 1 - first_place s) s.log in omega (arith, left)

  pub last_stays : last_id purged ≡ last_id s
  last_stays =
      let some : (end_place s == 0) ≡ false = grind (arith, nat_tests, within) in
      let some_left : (end_place purged == 0) ≡ false = ap (λ n. n == 0) end_stays ∙ some in
      rw (some_left, some) (ap (λ n. id_at purged (n - 1)) end_stays ∙ id_stays (end_place s - 1) (omega arith))

  pub placed_left : IsPlaced purged
  placed_left =
      let at : first_place s + (id.index + 1 - first_place s) ≡ id.index + 1 = omega arith in
      subst (λ n. ArePlaced n (drop (id.index + 1 - first_place s) s.log)) at (dropped s.log (first_place s) (id.index + 1 - first_place s) placed)

committed_stays : (s s' : StoredGroup) (low : ℕ) (place : Option ℕ) → place_of (option_and_then (id_at s) place) ≡ place → low < next_place (option_and_then (id_at s) place)
    → ((i : ℕ) → low ≤ i → id_at s' i ≡ id_at s i) → option_and_then (id_at s') place ≡ option_and_then (id_at s) place
committed_stays s s' low None e l stays = refl
committed_stays s s' low (Some i) e l stays = let next : next_place (id_at s i) ≡ i + 1 = next_of_place (id_at s i) i e in stays i (omega arith)

module _ (s : GroupState) (o : IsInOrder s) (id : LogId ℕ) (above : first_place s.stored ≤ id.index) (within : id.index < end_place s.stored) (found : id_at s.stored id.index ≡ Some id)
    (covered : id.index < next_place (snapshot_last s.stored)) where
  pub committed_left : committed_id (with_stored s (after_storing (RemoveUpTo id) s.stored)) ≡ committed_id s
  committed_left =
      let snap = o.snapshot in
      committed_stays s.stored (after_storing (RemoveUpTo id) s.stored) id.index s.committed o.committed (omega arith) (λ i l. id_stays s.stored id o.placed above within found i l)

  pub order_left : IsInOrder (with_stored s (after_storing (RemoveUpTo id) s.stored))
  order_left =
      record {
        placed = placed_left s.stored id o.placed above within found;
        purged = omega arith;
        snapshot = subst (λ c. next_place (snapshot_last s.stored) ≤ next_place c) (sym committed_left) o.snapshot;
        committed = ap place_of committed_left ∙ o.committed;
        applied = o.applied;
        within =
            let ends = end_stays s.stored id o.placed above within found in
            let same = ap next_place committed_left in
            let before = o.within in omega (arith, ends, same, before);
      }

-- ---- what is purged

entry_there : (s : StoredGroup) (place : ℕ) → IsPlaced s → is_some (entry_at s place) ≡ true → HasEntry s place
entry_there s place p h = found (entry_at s place) refl h
  where
    found : (e : Option Entry) → entry_at s place ≡ e → is_some e ≡ true → HasEntry s place
    found None f g = cc g
    found (Some e) f g = let w = entry_within s place e f in has_entry s place p w.0 w.1

-- a log id that is that of an entry of the log
pub record IsOfEntry (s : StoredGroup) (place : ℕ) (id : LogId ℕ) : Type 0 where
  pub index : id.index ≡ place
  pub above : first_place s ≤ id.index
  pub within : id.index < end_place s
  pub found : id_at s id.index ≡ Some id
  pub there : id_of (entry_at s place) ≡ Some id
  pub is_entrys : IsEntryOrPast s id

pub is_of_entry : (s : StoredGroup) (place : ℕ) (id : LogId ℕ) → IsPlaced s → is_some (entry_at s place) ≡ true → Some id ≡ id_at s place → IsOfEntry s place id
is_of_entry s place id p h e =
    let has = entry_there s place p h in
    let mine : id ≡ has.entry.log_id = let both : Some id ≡ Some has.entry.log_id = e ∙ has.id in cc both in
    let at : id.index ≡ place = ap (λ (y : LogId ℕ). y.index) mine ∙ has.index in
    let w = entry_within s place has.entry has.there in
    record {
      index = at;
      above = subst (λ n. first_place s ≤ n) (sym at) w.0;
      within = subst (λ n. n < end_place s) (sym at) w.1;
      found = ap (id_at s) at ∙ sym e;
      there = ap id_of has.there ∙ ap Some (sym mine);
      is_entrys = λ other f.
          let same : Some other ≡ Some has.entry = sym f ∙ ap (entry_at s) at ∙ has.there in
          let one : other ≡ has.entry = cc same in
          ap (λ (y : Entry). y.log_id) one ∙ sym mine;
    }

-- a purge up to it leaves what a node's part rests on
purge_stands : (s : StoredGroup) (place : ℕ) (id : LogId ℕ) → IsPlaced s → IsOfEntry s place id → KeepsStanding s (after_storing (RemoveUpTo id) s)
purge_stands s place id p entrys =
    record {
      vote = refl;
      last = last_stays s id p entrys.above entrys.within entrys.found;
      ends = end_stays s id p entrys.above entrys.within entrys.found;
      wrote = λ leader at h. wrote_left leader at s id h;
    }

module _ {C R : Type 0} (x : Given) (own : ℕ) (e e' : Engine C R) (r : StepResult) (step : IsStepOf x own e r) (place : ℕ) (upto : LogId ℕ) (entrys : IsOfEntry r.state.stored place upto) where
  pub purged_to : place < next_place (snapshot_last r.state.stored) → e'.config ≡ e.config → e'.seen_greater_log ≡ e.seen_greater_log
      → CountsOn (membership_in_force (after_storing (RemoveUpTo upto) r.state.stored)) e.leader e'.leader → e'.candidate ≡ e.candidate
      → Knows e'.state (after_storing (RemoveUpTo upto) r.state.stored) → KeepsRest e.state e'.state → e'.output ≡ record e.output { queue = e.output.queue ++ PurgeLog upto ∷ [] }
      → IsStepOf x own e' (purge_up_to place r)
  purged_to may config seen leader candidate knows rest output =
      let old = step.state in
      let queue = ap (λ (o : Output C (List ℕ) R ℕ (List ℕ)). o.queue) output in
      let s = r.state.stored in
      let covered : upto.index < next_place (snapshot_last s) = subst (λ n. n < next_place (snapshot_last s)) (sym entrys.index) may in
      let standing = purge_stands s place upto old.order.placed entrys in
      let purges : IsStepOf x own e' (store (RemoveUpTo upto) r) =
      record {
        state = record {
          config = config ∙ old.config;
          knows = knows;
          renewed = ap (λ (v : UTime (Vote ℕ) ℕ). v.utime) rest.vote ∙ old.renewed;
          committed = rest.committed ∙ old.committed ∙ sym (committed_left r.state old.order upto entrys.above entrys.within entrys.found covered);
          wish = ap place_of rest.wish ∙ old.wish;
          role =
              plays_on own e.leader e'.leader e'.candidate s (after_storing (RemoveUpTo upto) s) r.state.role standing leader
              (subst (λ c. PlaysRole own e.leader c s r.state.role) (sym candidate) old.role);
          order = order_left r.state old.order upto entrys.above entrys.within entrys.found covered;
        };
        stores = ap (λ q. flat_map (storing_of x.snapshot) q) queue ∙ stores_more e.output.queue (PurgeLog upto) x.snapshot r.commands (RemoveUpTo upto ∷ []) step.stores refl;
        sends = λ t places. ap (λ q. flat_map (sending_of own t places) q) queue ∙ sends_same e.output.queue (PurgeLog upto) own t places r.messages (step.sends t places) refl;
        seen = seen ∙ step.seen;
        numbers = numbers_kept x.last_sm_seq e.output e'.output (PurgeLog upto) step.numbers output refl;
        moves = moves_kept x.committed_before e.state.state.committed e'.state.state.committed e.output.queue e'.output.queue step.moves (PurgeLog upto) queue refl rest.committed;
        at_once = at_once_more e.output.queue (PurgeLog upto) e'.output.queue queue step.at_once tt;
        rests = rests_stored own x.snapshot (basis_before x) e.output.queue e'.output.queue r.state.stored e.state.state.committed step.rests (PurgeLog upto) covered queue e'.state.state.committed (RemoveUpTo upto) refl refl rest.committed;
        turns = turns_kept x.turn_before e.output.queue e'.output.queue (is_leader r.state.role) step.turns (PurgeLog upto) queue refl;
      } in
      subst (IsStepOf x own e') (ap (λ found. remove_up_to found r) (sym entrys.there)) purges

-- an entry has a log id
pub has_its_id : {G : Type 0} (s : StoredGroup) (place : ℕ) → IsPlaced s → is_some (entry_at s place) ≡ true → None ≡ id_at s place → G
has_its_id s place p h e = let has = entry_there s place p h in let both : None ≡ Some has.entry.log_id = e ∙ has.id in cc both

-- no entry, nothing to purge
pub none_to_purge : (place : ℕ) (r : StepResult) → is_some (entry_at r.state.stored place) ≡ false → purge_up_to place r ≡ r
none_to_purge place r h = ap (λ found. remove_up_to found r) (none (entry_at r.state.stored place) h)
  where
    none : (e : Option Entry) → is_some e ≡ false → id_of e ≡ None
    none None g = refl
    none (Some e) g = cc g

-- what a node's part rests on stays when the log is purged
module _ (place : ℕ) (r : StepResult) (placed : IsPlaced r.state.stored) where
  keeps_if : (e : Option Entry) → entry_at r.state.stored place ≡ e → KeepsStanding r.state.stored (remove_up_to (id_of e) r).state.stored
  keeps_if None f = all_stays r.state.stored
  keeps_if (Some e) f =
      let s = r.state.stored in
      let some = ap is_some f in
      let has = entry_there s place placed some in
      let entrys = is_of_entry s place has.entry.log_id placed some (sym has.id) in
      let same : Some has.entry ≡ Some e = sym has.there ∙ f in
      let mine : has.entry ≡ e = cc same in
      subst (λ (y : Entry). KeepsStanding s (after_storing (RemoveUpTo y.log_id) s)) mine
      (purge_stands s place has.entry.log_id placed entrys)

  pub purge_keeps : KeepsStanding r.state.stored (purge_up_to place r).state.stored
  purge_keeps = keeps_if (entry_at r.state.stored place) refl

-- ---- what a leader is still to purge

-- another wish
pub wished : {C R : Type 0} (x : Given) (own : ℕ) (e e' : Engine C R) (r : StepResult) → IsStepOf x own e r → (wish : Option ℕ) (wished_id upto : Option (LogId ℕ))
    → e' ≡ record e { state = with_goal e.state wished_id upto } → Knows (with_goal e.state wished_id upto) r.state.stored → place_of wished_id ≡ wish → IsStepOf x own e' (with_wish wish r)
wished x own e e' r step wish wished_id upto same knows is =
    let old = step.state in
    let other : IsStepOf x own (record e { state = with_goal e.state wished_id upto }) (with_wish wish r) =
    record {
      state = record {
        config = old.config;
        knows = knows;
        renewed = old.renewed;
        committed = old.committed;
        wish = is;
        role = old.role;
        order = order_kept r.state r.state.stored.vote r.state.now r.state.role r.state.renewed wish r.state.untold old.order;
      };
      stores = step.stores;
      sends = step.sends;
      seen = step.seen;
      numbers = step.numbers;
      moves = step.moves;
      at_once = step.at_once;
      rests = step.rests;
      turns = step.turns;
    } in
    subst (λ y. IsStepOf x own y (with_wish wish r)) (sym same) other

-- the snapshot's last log id, as it is known
pub snapshot_known : (s : StoredGroup) (meta : SnapshotMeta) → meta ≡ meta_of s.snapshot → meta.last_log_id ≡ snapshot_last s
snapshot_known s meta e = ap (λ (m : SnapshotMeta). m.last_log_id) e ∙ of_meta s.snapshot
  where
    of_meta : (y : Option Snapshot) → (meta_of y).last_log_id ≡ option_map (λ (z : Snapshot). z.last) y
    of_meta None = refl
    of_meta (Some z) = refl

-- a place that the snapshot covers is below the log's end
pub covered_within : (s : GroupState) (place : ℕ) → IsInOrder s → place < next_place (snapshot_last s.stored) → place < end_place s.stored
covered_within s place o l = let a = o.snapshot in let b = o.within in omega arith

-- the place of the log id at a place that the snapshot covers
pub wish_found : (s : GroupState) (place : ℕ) (upto : Option (LogId ℕ)) → IsInOrder s → first_place s.stored ≤ place → place < next_place (snapshot_last s.stored) → upto ≡ id_at s.stored place → place_of upto ≡ Some place
wish_found s place upto o above covered e =
    let has = has_entry s.stored place o.placed above (covered_within s place o covered) in ap place_of (e ∙ has.id) ∙ ap Some has.index

-- ---- who purges at once

-- who has a leader's knowledge leads
pub led : (own : ℕ) (l : Option (LeaderValue ℕ EffectiveMembership)) (c : Option (CandidateValue ℕ EffectiveMembership)) (s : StoredGroup) (role : Role)
    → is_some l ≡ true → PlaysRole own l c s role → (lead : Lead) × (role ≡ Leader lead)
led own None c s role e h = cc e
led own (Some l) c s Follower e h = absurd h
led own (Some l) c s (Candidate granters) e h = absurd h
led own (Some l) c s (Leader lead) e h = (lead, refl)

not_led : (own : ℕ) (l : Option (LeaderValue ℕ EffectiveMembership)) (c : Option (CandidateValue ℕ EffectiveMembership)) (s : StoredGroup) (role : Role) (place : ℕ) (r : StepResult)
    → is_some l ≡ false → PlaysRole own l c s role → purge_as place role r ≡ purge_up_to place r
not_led own (Some l) c s role place r e h = cc e
not_led own None c s Follower place r e h = refl
not_led own None c s (Candidate granters) place r e h = refl
not_led own None c s (Leader lead) place r e h = absurd h

module _ {C R : Type 0} (x : Given) (own : ℕ) (e : Engine C R) (r : StepResult) (step : IsStepOf x own e r) (place : ℕ) (last : LogId ℕ) (covers : e.state.state.snapshot_meta.last_log_id ≡ Some last) where
  pub covers_last : snapshot_last r.state.stored ≡ Some last
  covers_last = sym (snapshot_known r.state.stored e.state.state.snapshot_meta step.state.knows.snapshot) ∙ covers

  -- a leader wishes
  pub leader_wishes : is_some e.leader ≡ true
      → purge_trigger_step place r
      ≡ (if nat_lt (min place last.index) (first_place r.state.stored) then r else with_wish (later_place r.state.wish (Some (min place last.index))) r)
  leader_wishes some =
      ap (λ found. purge_within place found r) covers_last
      ∙ ap (λ role. purge_as (min place last.index) role r) (led own e.leader e.candidate r.state.stored r.state.role some step.state.role).1

  -- others purge at once
  pub others_purge : is_some e.leader ≡ false → purge_trigger_step place r ≡ purge_up_to (min place last.index) r
  others_purge none =
      ap (λ found. purge_within place found r) covers_last
      ∙ not_led own e.leader e.candidate r.state.stored r.state.role (min place last.index) r none step.state.role

-- without a snapshot nothing is purged
pub none_covered : {C R : Type 0} (x : Given) (own : ℕ) (e : Engine C R) (r : StepResult) (place : ℕ) → IsStepOf x own e r → e.state.state.snapshot_meta.last_log_id ≡ None → purge_trigger_step place r ≡ r
none_covered x own e r place step none =
    ap (λ found. purge_within place found r) (sym (snapshot_known r.state.stored e.state.state.snapshot_meta step.state.knows.snapshot) ∙ none)

-- ---- what is purged as wished

module _ (wish : Option ℕ) (r : StepResult) where
  no_wish : (role : Role) → wish ≡ None → purge_as_wished role wish r ≡ r
  no_wish Follower e = refl
  no_wish (Candidate granters) e = refl
  no_wish (Leader lead) e = ap (λ w. purge_as_wished (Leader lead) w r) e

  not_led_waits : (own : ℕ) (l : Option (LeaderValue ℕ EffectiveMembership)) (c : Option (CandidateValue ℕ EffectiveMembership)) (s : StoredGroup) (role : Role)
      → is_some l ≡ false → PlaysRole own l c s role → purge_as_wished role wish r ≡ r
  not_led_waits own (Some l) c s role e h = cc e
  not_led_waits own None c s Follower e h = refl
  not_led_waits own None c s (Candidate granters) e h = refl
  not_led_waits own None c s (Leader lead) e h = absurd h

module _ {C R : Type 0} (x : Given) (own : ℕ) (e : Engine C R) (r : StepResult) (step : IsStepOf x own e r) where
  -- nothing is wished for
  pub nothing_wished : e.state.wish ≡ None → purge_as_wished r.state.role r.state.wish r ≡ r
  nothing_wished none = no_wish r.state.wish r r.state.role (sym step.state.wish ∙ ap place_of none)

  -- others than leaders purge nothing
  pub others_wait : is_some e.leader ≡ false → purge_as_wished r.state.role r.state.wish r ≡ r
  others_wait none = not_led_waits r.state.wish r own e.leader e.candidate r.state.stored r.state.role none step.state.role

  module _ (upto : LogId ℕ) (wishes : e.state.wish ≡ Some upto) (some : is_some e.leader ≡ true) where
    pub wish_is : r.state.wish ≡ Some upto.index
    wish_is = sym step.state.wish ∙ ap place_of wishes

    -- the lead of a leader
    pub lead_now : (lead : Lead) × (r.state.role ≡ Leader lead)
    lead_now = led own e.leader e.candidate r.state.stored r.state.role some step.state.role

    pub as_wished : (kept : Bool) → is_kept_for_peers upto.index lead_now.0.peers ≡ kept
        → purge_as_wished r.state.role r.state.wish r ≡ (if kept then r else purge_up_to upto.index (with_wish None r))
    as_wished kept e' =
        ap (λ role. purge_as_wished role r.state.wish r) lead_now.1 ∙ ap (λ w. purge_as_wished (Leader lead_now.0) w r) wish_is
        ∙ ap (λ b. if b then r else purge_up_to upto.index (with_wish None r)) e'
