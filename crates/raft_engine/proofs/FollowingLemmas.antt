-- What a follower's step leaves as its log is shortened, grows, and is committed.
use Rattle.std.specs.Prelude.{◌≡◌, ℕ, ◌+◌, ◌-◌, ◌<◌, ◌≤◌, max, nat_le, Bool, true, false, if◌then◌else◌, List, [], ◌∷◌, ◌++◌, Option, Some, None, option_and_then, is_some, refl}
use Rattle.std.specs.List.{slice_get, flat_map}
use Rattle.std.proofs.Common.{sym, ap, ◌∙◌, subst, arith, length-append}
use Rattle.std.proofs.lemmas.Bool.Decides.{nat_tests}
use Rattle.raft_values.specs.declared.log_id.LogId.{LogId}
use Rattle.raft_values.specs.LogId.{next_place, place_of}
use Rattle.raft_log_ids.specs.LogIdList.{last_id}
use Rattle.raft_group_step.specs.Values.{Entry}
use Rattle.raft_group_step.specs.StoredGroup.{StoredGroup, StoringCommand, PutEntries, after_storing, first_place, end_place, entry_at, id_at, log_below, snapshot_last}
use Rattle.raft_group_step.specs.GroupState.{GroupState, Follower}
use Rattle.raft_group_step.specs.StepResult.{StepResult, store, with_stored, later_place, is_within, apply_up_to}
use Rattle.raft_group_step.specs.AppendRequest.{cut_from, put_entries}
use Rattle.raft_group_step.specs.Frames.{committed_id}
use Rattle.raft_known_state.specs.KnownState.{KnownState, Knows, KeepsRest, ArePlaced, IsPlaced, stored_ids, with_committed}
use Rattle.raft_known_state.proofs.PlacedIds.{by_order}
use Rattle.raft_known_state.proofs.KnownStateLemmas.{behind, end-known, log_whole}
use Rattle.raft_commands.specs.Output.{Output, following_seq}
use Rattle.raft_engine.specs.Numbering.{number_in}
use Rattle.raft_engine.specs.Commands.{Command, put_all, storing_of, sending_of}
use Rattle.raft_engine.specs.Standing.{Engine, Given, IsInOrder, IsStateOf, IsStepOf, PlaysRole}
use Rattle.raft_messages.specs.Entries.{all_go_on}
use Rattle.raft_engine.proofs.CommandLemmas.{at_once_more, numbers_gained, numbers_kept, sends_same, stores_more, stores_same}
use Rattle.raft_engine.proofs.CommittingLemmas.{moves_gained, moves_kept, unmoved}
use Rattle.raft_engine.specs.Committing.{Applies, moves_of}
use Rattle.raft_engine.specs.Answering.{NeedsNoOther}
use Rattle.raft_engine.proofs.StandingLemmas.{still_follows}
use Rattle.raft_engine.proofs.PlacedEntries.{HasEntry, has_entry, id_of_place, none_behind, with_log, id_below_cut, id_before_more, end_of_cut, end_of_any_cut, taken, placed_go_on}
use Rattle.raft_engine.specs.Standing.{basis_before, basis_of}
use Rattle.raft_engine.specs.Ordering.{RestsOn, committed_by}
use Rattle.raft_engine.specs.Turns.{turns_of}
use Rattle.raft_engine.proofs.OrderingLemmas.{rests_pushed, rests_stored}
use Rattle.raft_engine.proofs.TurnLemmas.{turns_kept}
use Rattle.raft_group_step.specs.GroupState.{is_leader}
use Rattle.raft_group_step.specs.StoredGroup.{after_storing_all}

-- ---- places

-- what isn't within what is committed is past it
pub past_committed : (c : Option (LogId ℕ)) (o : Option ℕ) (place : ℕ) → place_of c ≡ o → is_within place o ≡ false → next_place c ≤ place
past_committed None o place e f = omega arith
past_committed (Some id) o place e f =
    let g : nat_le place id.index ≡ false = ap (is_within place) e ∙ f in grind (arith, nat_tests, g)

-- and so are places past it
pub past_within : (c : Option (LogId ℕ)) (o : Option ℕ) (place : ℕ) → place_of c ≡ o → next_place c ≤ place → is_within place o ≡ false
past_within None o place e f = ap (is_within place) (sym e)
past_within (Some id) o place e f = ap (is_within place) (sym e) ∙ (let g : id.index + 1 ≤ place = f in grind (arith, nat_tests, g))

-- what is within is before the next place
pub before_next : (c : Option (LogId ℕ)) (o : Option ℕ) (place : ℕ) → place_of c ≡ o → is_within place o ≡ true → place < next_place c
before_next None o place e f = let g : false ≡ true = ap (is_within place) e ∙ f in cc
before_next (Some id) o place e f = let g : nat_le place id.index ≡ true = ap (is_within place) e ∙ f in grind (arith, nat_tests, g)

module _ (s : GroupState) (o : IsInOrder s) where
  -- a place past what is committed is above the purge point
  pub above_first : (place : ℕ) → is_within place s.committed ≡ false → first_place s.stored ≤ place
  above_first place f =
      let a = o.purged in let b = o.snapshot in
      let c : next_place (committed_id s) ≤ place = past_committed (committed_id s) s.committed place o.committed f in omega arith

  pub within_log : (place : ℕ) → is_within place s.committed ≡ true → place < end_place s.stored
  within_log place f =
      let a = o.within in
      let c : place < next_place (committed_id s) = before_next (committed_id s) s.committed place o.committed f in omega arith

  -- the log's end is past what is committed
  pub end_past : is_within (end_place s.stored) s.committed ≡ false
  end_past = past_within (committed_id s) s.committed (end_place s.stored) o.committed o.within

  next_of_committed : (i : ℕ) → s.committed ≡ Some i → next_place (committed_id s) ≡ i + 1
  next_of_committed i e = by_id (committed_id s) (o.committed ∙ e)
    where
      by_id : (c : Option (LogId ℕ)) → place_of c ≡ Some i → next_place c ≡ i + 1
      by_id None f = cc
      by_id (Some id) f = let same : id.index ≡ i = cc in omega arith

  same_id : (log : List Entry) → ((i : ℕ) → s.committed ≡ Some i → id_at (with_log s.stored log) i ≡ id_at s.stored i) → option_and_then (id_at (with_log s.stored log)) s.committed ≡ committed_id s
  same_id log h = by_place s.committed h
    where
      by_place : (c : Option ℕ) → ((i : ℕ) → c ≡ Some i → id_at (with_log s.stored log) i ≡ id_at s.stored i) → option_and_then (id_at (with_log s.stored log)) c ≡ option_and_then (id_at s.stored) c
      by_place None k = refl
      by_place (Some i) k = k i refl

  -- another log that has what is committed leaves the places in order
  order_of_log : (log : List Entry) → ArePlaced (first_place s.stored) log → option_and_then (id_at (with_log s.stored log)) s.committed ≡ committed_id s → next_place (committed_id s) ≤ end_place (with_log s.stored log)
      → IsInOrder (with_stored s (with_log s.stored log))
  order_of_log log p same w =
      record {
        placed = p;
        purged = o.purged;
        snapshot = subst (λ c. next_place (snapshot_last s.stored) ≤ next_place c) (sym same) o.snapshot;
        committed = ap place_of same ∙ o.committed;
        applied = o.applied;
        within = subst (λ c. next_place c ≤ end_place (with_log s.stored log)) (sym same) w;
      }

  module _ (at : ℕ) (past : is_within at s.committed ≡ false) where
    pub cut_keeps_id : option_and_then (id_at (with_log s.stored (log_below s.stored at))) s.committed ≡ committed_id s
    cut_keeps_id =
        same_id (log_below s.stored at)
        (λ i e. let n : next_place (committed_id s) ≡ i + 1 = next_of_committed i e in
        let m : next_place (committed_id s) ≤ at = past_committed (committed_id s) s.committed at o.committed past in
        id_below_cut s.stored at i (omega arith))

    pub order_of_cut : IsInOrder (with_stored s (with_log s.stored (log_below s.stored at)))
    order_of_cut =
        order_of_log (log_below s.stored at) (taken s.stored.log (first_place s.stored) (at - first_place s.stored) o.placed) cut_keeps_id
        (end_of_any_cut s.stored at (next_place (committed_id s)) (above_first at past) (past_committed (committed_id s) s.committed at o.committed past) o.within)

  module _ (more : List Entry) (placed : ArePlaced (end_place s.stored) more) where
    more_keeps_id : option_and_then (id_at (with_log s.stored (s.stored.log ++ more))) s.committed ≡ committed_id s
    more_keeps_id =
        same_id (s.stored.log ++ more)
        (λ i e. let n : next_place (committed_id s) ≡ i + 1 = next_of_committed i e in
        let m = o.within in
        id_before_more s.stored more i (omega arith))

    order_of_more : IsInOrder (with_stored s (with_log s.stored (s.stored.log ++ more)))
    order_of_more =
        order_of_log (s.stored.log ++ more) (behind s.stored.log more (first_place s.stored) o.placed placed) more_keeps_id
        (let m = o.within in let n = length-append s.stored.log more in omega (arith, n))

    -- put where the log ends, they stand behind it
    whole : (at : ℕ) → end_place s.stored ≡ at → with_log s.stored (s.stored.log ++ more) ≡ after_storing (PutEntries at more) s.stored
    whole at e = ap (λ log. with_log s.stored (log ++ more)) (sym (log_whole s.stored) ∙ ap (log_below s.stored) e)

    pub order_of_put : (at : ℕ) → end_place s.stored ≡ at → IsInOrder (with_stored s (after_storing (PutEntries at more) s.stored))
    order_of_put at e = subst (λ y. IsInOrder (with_stored s y)) (whole at e) order_of_more

    pub put_keeps_id : (at : ℕ) → end_place s.stored ≡ at → committed_id (with_stored s (after_storing (PutEntries at more) s.stored)) ≡ committed_id s
    put_keeps_id at e = subst (λ y. committed_id (with_stored s y) ≡ committed_id s) (whole at e) more_keeps_id

-- what an engine knows to be committed is what is
pub committed_place : {C R : Type 0} (own : ℕ) (e : Engine C R) (s : GroupState) → IsStateOf own e s → place_of e.state.state.committed ≡ s.committed
committed_place own e s state = ap place_of state.committed ∙ state.order.committed

-- ---- a later place that is committed

pub later_same : (c place : Option ℕ) → ((p : ℕ) → place ≡ Some p → is_within p c ≡ true) → later_place c place ≡ c
later_same None None h = refl
later_same (Some a) None h = refl
later_same None (Some p) h = let g : false ≡ true = h p refl in cc
later_same (Some a) (Some p) h =
    let g : nat_le p a ≡ true = h p refl in let m : max a p ≡ a = grind (arith, nat_tests, g) in ap (λ n. Some n) m

pub later_more : (c : Option ℕ) (p : ℕ) → is_within p c ≡ false → later_place c (Some p) ≡ Some p
later_more None p h = refl
later_more (Some a) p h = let m : max a p ≡ p = grind (arith, nat_tests, h) in ap (λ n. Some n) m

-- ---- the words on a follower's log

-- a test on which the log is shortened leaves the role and what is committed
either_way : (b : Bool) (c : StoringCommand) (r : StepResult) → ((if b then store c r else r).state.role ≡ r.state.role) × ((if b then store c r else r).state.committed ≡ r.state.committed)
either_way true c r = (refl, refl)
either_way false c r = (refl, refl)

-- past what is committed and up to its end, the log ends where it is cut
pub cut_ends : (r : StepResult) (place : ℕ) → IsInOrder r.state → is_within place r.state.committed ≡ false → place ≤ end_place r.state.stored → end_place (cut_from place r).state.stored ≡ place
cut_ends r place o past l =
    by_order place (end_place r.state.stored)
    (λ m. let first : first_place r.state.stored ≤ place = above_first r.state o place past in
    let e : HasEntry r.state.stored place = has_entry r.state.stored place o.placed first m in
    let some : is_some (entry_at r.state.stored place) ≡ true = ap is_some e.there in
    rw some (end_of_cut r.state.stored place first l))
    (λ m. let none : is_some (entry_at r.state.stored place) ≡ false = none_behind r.state.stored place m in
    rw none (omega arith))

-- entries to be put are those at the place of the first one
pub put_as : (es : List Entry) (e : Entry) → slice_get es 0 ≡ Some e → (r : StepResult) → put_entries es r ≡ store (PutEntries e.log_id.index es) (cut_from e.log_id.index r)
put_as [] e f r = cc
put_as (y ∷ es) e f r =
    let same : y ≡ e = cc in ap (λ (z : Entry). store (PutEntries z.log_id.index (y ∷ es)) (cut_from z.log_id.index r)) same

pub put_none : (es : List Entry) → slice_get es 0 ≡ None → (r : StepResult) → put_entries es r ≡ r
put_none [] f r = refl
put_none (y ∷ es) f r = cc

pub put_all_as : (es : List Entry) (e : Entry) → slice_get es 0 ≡ Some e → put_all es ≡ PutEntries e.log_id.index es ∷ []
put_all_as [] e f = cc
put_all_as (y ∷ es) e f = let same : y ≡ e = cc in ap (λ (z : Entry). PutEntries z.log_id.index (y ∷ es) ∷ []) same

-- once the log ends at the place, entries from there on go on
pub known_go_on : (s : StoredGroup) (ids : List (LogId ℕ)) (es : List Entry) (place : ℕ) → IsPlaced s → ids ≡ stored_ids s → end_place s ≡ place → ArePlaced place es → all_go_on (last_id ids) es ≡ true
known_go_on s ids es place p same e q =
    placed_go_on es place (last_id ids) q
    (let n : next_place (last_id ids) ≡ end_place s = ap (λ i. next_place (last_id i)) same ∙ end-known s p in omega arith)

module _ {C R : Type 0} (x : Given) (own : ℕ) (e e' : Engine C R) (r : StepResult) (step : IsStepOf x own e r)
    (config : e'.config ≡ e.config) (seen : e'.seen_greater_log ≡ e.seen_greater_log) (leader : e'.leader ≡ e.leader) (candidate : e'.candidate ≡ e.candidate) where
  role_kept : (s : StoredGroup) → r.state.role ≡ Follower → PlaysRole own e'.leader e'.candidate s r.state.role
  role_kept s follows =
      still_follows own e'.leader e'.candidate r.state.stored s r.state.role follows
      (subst (λ l. PlaysRole own l e'.candidate r.state.stored r.state.role) (sym leader) (subst (λ c. PlaysRole own e.leader c r.state.stored r.state.role) (sym candidate) step.state.role))

  -- a follower's log changes behind what is committed
  pub log_stored : (c : StoringCommand) (d : Command C R) → r.state.role ≡ Follower → Knows e'.state (after_storing c r.state.stored) → KeepsRest e.state e'.state
      → IsInOrder (with_stored r.state (after_storing c r.state.stored)) → committed_id (with_stored r.state (after_storing c r.state.stored)) ≡ committed_id r.state
      → e'.output ≡ record e.output { queue = e.output.queue ++ d ∷ [] } → storing_of x.snapshot d ≡ c ∷ [] → number_in d ≡ [] → NeedsNoOther d → RestsOn own x.snapshot (basis_of e r.state) d → turns_of d ≡ []
      → ((s : StoredGroup) (upto : Option (LogId ℕ)) → sending_of own s upto d ≡ []) → IsStepOf x own e' (store c r)
  log_stored c d follows knows keeps order same output stores silent needs on turnless sends =
      let old = step.state in
      let queue = ap (λ (o : Output C (List ℕ) R ℕ (List ℕ)). o.queue) output in
      record {
        state = record {
          config = config ∙ old.config;
          knows = knows;
          renewed = ap (λ v. v.utime) keeps.vote ∙ old.renewed;
          committed = keeps.committed ∙ old.committed ∙ sym same;
          wish = ap place_of keeps.wish ∙ old.wish;
          role = role_kept (after_storing c r.state.stored) follows;
          order = order;
        };
        stores = ap (λ q. flat_map (storing_of x.snapshot) q) queue ∙ stores_more e.output.queue d x.snapshot r.commands (c ∷ []) step.stores stores;
        sends = λ s upto. ap (λ q. flat_map (sending_of own s upto) q) queue ∙ sends_same e.output.queue d own s upto r.messages (step.sends s upto) (sends s upto);
        seen = seen ∙ step.seen;
        numbers = numbers_kept x.last_sm_seq e.output e'.output d step.numbers output silent;
        moves = moves_kept x.committed_before e.state.state.committed e'.state.state.committed e.output.queue e'.output.queue step.moves d queue (unmoved d silent) keeps.committed;
        at_once = at_once_more e.output.queue d e'.output.queue queue step.at_once needs;
        rests = rests_stored own x.snapshot (basis_before x) e.output.queue e'.output.queue r.state.stored e.state.state.committed step.rests d on queue e'.state.state.committed c stores silent keeps.committed;
        turns = turns_kept x.turn_before e.output.queue e'.output.queue (is_leader r.state.role) step.turns d queue turnless;
      }

-- nothing is committed that wasn't
pub none_committed : {C R : Type 0} (x : Given) (own : ℕ) (e : Engine C R) (r : StepResult) (place : Option ℕ) → IsStepOf x own e r → later_place r.state.committed place ≡ r.state.committed → IsStepOf x own e (apply_up_to place r)
none_committed x own e r place step same =
    let old = step.state in
    let id : option_and_then (id_at r.state.stored) (later_place r.state.committed place) ≡ committed_id r.state = ap (option_and_then (id_at r.state.stored)) same in
    record {
      state = record {
        config = old.config;
        knows = old.knows;
        renewed = old.renewed;
        committed = old.committed ∙ sym id;
        wish = old.wish;
        role = old.role;
        order = record {
          placed = old.order.placed;
          purged = old.order.purged;
          snapshot = subst (λ c. next_place (snapshot_last r.state.stored) ≤ next_place c) (sym id) old.order.snapshot;
          committed = ap place_of id ∙ old.order.committed ∙ sym same;
          applied = refl;
          within = subst (λ c. next_place c ≤ end_place r.state.stored) (sym id) old.order.within;
        };
      };
      stores = step.stores;
      sends = step.sends;
      seen = step.seen;
      numbers = step.numbers;
      moves = step.moves;
      at_once = step.at_once;
      rests = step.rests;
      turns = step.turns;
    }

module _ {C R : Type 0} (x : Given) (own : ℕ) (e e' : Engine C R) (r : StepResult) (step : IsStepOf x own e r) where
  -- an entry above what is committed is committed
  pub more_committed : (place : ℕ) (id : LogId ℕ) (d : Command C R) → e'.config ≡ e.config → e'.seen_greater_log ≡ e.seen_greater_log → e'.leader ≡ e.leader → e'.candidate ≡ e.candidate
      → Knows e'.state r.state.stored → e'.state ≡ with_committed e.state (Some id) e'.state.state.membership_state
      → is_within place r.state.committed ≡ false → place < end_place r.state.stored → Some id ≡ id_at r.state.stored place
      → e'.output ≡ record { queue = e.output.queue ++ d ∷ []; last_sm_seq = following_seq e.output.last_sm_seq } → storing_of x.snapshot d ≡ [] → number_in d ≡ following_seq e.output.last_sm_seq ∷ [] → moves_of d ≡ Applies e.state.state.committed id ∷ [] → NeedsNoOther d → RestsOn own x.snapshot (basis_of e r.state) d → committed_by d e.state.state.committed ≡ Some id → turns_of d ≡ []
      → ((s : StoredGroup) (upto : Option (LogId ℕ)) → sending_of own s upto d ≡ [])
      → IsStepOf x own e' (apply_up_to (Some place) r)
  more_committed place id d config seen leader candidate knows state past within found output stores next_number moves needs on commits turnless sends =
      let old = step.state in
      let queue = ap (λ (o : Output C (List ℕ) R ℕ (List ℕ)). o.queue) output in
      let later : later_place r.state.committed (Some place) ≡ Some place = later_more r.state.committed place past in
      let now_id : option_and_then (id_at r.state.stored) (later_place r.state.committed (Some place)) ≡ Some id = ap (option_and_then (id_at r.state.stored)) later ∙ sym found in
      let at : id.index ≡ place = id_of_place r.state.stored place id old.order.placed (above_first r.state old.order place past) found in
      let next : next_place (Some id) ≡ place + 1 = ap (λ n. n + 1) at in
      let before : next_place (committed_id r.state) ≤ place = past_committed (committed_id r.state) r.state.committed place old.order.committed past in
      let snap = old.order.snapshot in
      record {
        state = record {
          config = config ∙ old.config;
          knows = knows;
          renewed = ap (λ (y : KnownState). y.state.vote.utime) state ∙ old.renewed;
          committed = ap (λ (y : KnownState). y.state.committed) state ∙ sym now_id;
          wish = ap (λ (y : KnownState). place_of y.wish) state ∙ old.wish;
          role = subst (λ l. PlaysRole own l e'.candidate r.state.stored r.state.role) (sym leader) (subst (λ c. PlaysRole own e.leader c r.state.stored r.state.role) (sym candidate) old.role);
          order = record {
            placed = old.order.placed;
            purged = old.order.purged;
            snapshot = subst (λ c. next_place (snapshot_last r.state.stored) ≤ next_place c) (sym now_id) (omega arith);
            committed = ap place_of now_id ∙ ap (λ n. Some n) at ∙ sym later;
            applied = refl;
            within = subst (λ c. next_place c ≤ end_place r.state.stored) (sym now_id) (omega arith);
          };
        };
        stores = ap (λ q. flat_map (storing_of x.snapshot) q) queue ∙ stores_same e.output.queue d x.snapshot r.commands step.stores stores;
        sends = λ s upto. ap (λ q. flat_map (sending_of own s upto) q) queue ∙ sends_same e.output.queue d own s upto r.messages (step.sends s upto) (sends s upto);
        seen = seen ∙ step.seen;
        numbers = numbers_gained x.last_sm_seq e.output e'.output d step.numbers output next_number;
        moves =
            let goes_on : next_place e.state.state.committed ≤ id.index = subst (λ c. next_place c ≤ id.index) (sym old.committed) (omega arith) in
            moves_gained x.committed_before e.state.state.committed e'.state.state.committed e.output.queue e'.output.queue step.moves d queue (Applies e.state.state.committed id) moves
            (refl, goes_on, ap (λ (y : KnownState). y.state.committed) state);
        at_once = at_once_more e.output.queue d e'.output.queue queue step.at_once needs;
        rests = rests_pushed own x.snapshot (basis_before x) e.output.queue e'.output.queue r.state.stored e.state.state.committed step.rests d on queue r.state.stored e'.state.state.committed (sym (ap (λ cs. after_storing_all cs r.state.stored) stores)) (ap (λ (y : KnownState). y.state.committed) state ∙ sym commits);
        turns = turns_kept x.turn_before e.output.queue e'.output.queue (is_leader r.state.role) step.turns d queue turnless;
      }
