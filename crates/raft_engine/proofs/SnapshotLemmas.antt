-- A snapshot that goes past what is committed is stored, and all that it covers is committed and purged.
use Rattle.std.specs.Prelude.{◌≡◌, ℕ, ◌+◌, ◌-◌, ◌<◌, ◌≤◌, ◌==◌, Bool, true, false, if◌then◌else◌, List, [], ◌∷◌, ◌++◌, drop, Option, Some, None, is_some, option_and_then, refl}
use Rattle.std.specs.List.{flat_map}
use Rattle.std.proofs.Common.{sym, ap, ap₂, ◌∙◌, subst, arith, eq-eqb, eqb-true}
use Rattle.std.proofs.lemmas.Bool.{and_parts}
use Rattle.std.proofs.lemmas.Bool.Decides.{nat_tests}
use Rattle.raft_values.specs.declared.vote.LeaderId.{LeaderId}
use Rattle.raft_values.specs.declared.vote.Vote.{Vote}
use Rattle.raft_values.specs.declared.log_id.LogId.{LogId}
use Rattle.raft_values.specs.LogId.{next_place, place_of}
use Rattle.raft_group_step.specs.Values.{leader_eq, log_id_eq, vote_lt}
use Rattle.raft_group_step.specs.StoredGroup.{StoredGroup, Snapshot, StoringCommand, CutFrom, RemoveUpTo, SetSnapshot, after_storing, end_place, entry_at, first_place, has_id_in_log, id_at, id_of, is_id}
use Rattle.raft_group_step.specs.Message.{HigherVote, Success}
use Rattle.raft_group_step.specs.AppendRequest.{cut_from}
use Rattle.raft_group_step.specs.SnapshotRequest.{cut_other, install_unless, place_above}
use Rattle.raft_group_step.specs.Frames.{committed_id}
use Rattle.raft_group_step.specs.GroupState.{Follower}
use Rattle.raft_group_step.specs.StepResult.{StepResult, apply_up_to, is_within, later_place, store}
use Rattle.raft_group_step.proofs.Refusals.{past_above}
use Rattle.raft_group_step.proofs.Votes.{leader_eq_same}
use Rattle.raft_group_step.proofs.EntryPlaces.{entry_within}
use Rattle.raft_known_state.specs.KnownState.{ArePlaced, IsEntryOrPast, KeepsRest, KnownState, Knows, with_committed}
use Rattle.raft_commands.specs.Output.{Output, following_seq}
use Rattle.raft_engine.specs.Numbering.{number_in}
use Rattle.raft_engine.specs.Commands.{Command, sending_of, snapshot_result, storing_of}
use Rattle.raft_engine.specs.Standing.{Engine, Given, IsInOrder, IsStepOf, PlaysRole}
use Rattle.raft_engine.proofs.CommandLemmas.{at_once_more, numbers_gained, numbers_kept, sends_same, stores_more}
use Rattle.raft_engine.proofs.CommittingLemmas.{moves_gained, moves_kept, unmoved}
use Rattle.raft_engine.specs.Committing.{Installs, moves_of}
use Rattle.raft_engine.specs.Answering.{NeedsNoOther}
use Rattle.raft_engine.proofs.StandingLemmas.{still_follows}
use Rattle.raft_engine.proofs.PlacedEntries.{dropped}
use Rattle.raft_engine.proofs.FollowingLemmas.{above_first, cut_ends, later_more, past_committed}
use Rattle.raft_engine.specs.Standing.{basis_before, basis_of}
use Rattle.raft_engine.specs.Ordering.{RestsOn, committed_by}
use Rattle.raft_engine.specs.Turns.{turns_of}
use Rattle.raft_engine.proofs.OrderingLemmas.{rests_pushed, rests_stored}
use Rattle.raft_engine.proofs.TurnLemmas.{turns_kept}
use Rattle.raft_group_step.specs.GroupState.{is_leader}
use Rattle.raft_group_step.specs.StoredGroup.{after_storing_all}

-- ---- another entry at the snapshot's place

id_same : (a b : LogId ℕ) → log_id_eq a b ≡ true → a ≡ b
id_same a b h =
    let p = and_parts (leader_eq a.leader_id b.leader_id) (a.index == b.index) h in
    let made : LeaderId ℕ → ℕ → LogId ℕ = λ l i. record { leader_id = l; index = i } in
    ap₂ made (leader_eq_same a.leader_id b.leader_id p.0) (eqb-true a.index b.index p.1)

-- the place above all that is committed is that after it
pub above_is_next : (c : Option (LogId ℕ)) (o : Option ℕ) → place_of c ≡ o → place_above o ≡ next_place c
above_is_next None o e = ap place_above (sym e)
above_is_next (Some id) o e = ap place_above (sym e)

cut_either_way : (a b c : Bool) (d : StoringCommand) (r : StepResult)
    → ((if a then r else if b then if c then store d r else r else r).state.role ≡ r.state.role) × ((if a then r else if b then if c then store d r else r else r).state.committed ≡ r.state.committed)
cut_either_way true b c d r = (refl, refl)
cut_either_way false true true d r = (refl, refl)
cut_either_way false true false d r = (refl, refl)
cut_either_way false false c d r = (refl, refl)

pub cut_other_keeps : (last : LogId ℕ) (r : StepResult) → ((cut_other last r).state.role ≡ r.state.role) × ((cut_other last r).state.committed ≡ r.state.committed)
cut_other_keeps last r =
    cut_either_way (has_id_in_log r.state.stored last) (is_some (entry_at r.state.stored last.index)) (is_some (entry_at r.state.stored (place_above r.state.committed))) (CutFrom (place_above r.state.committed)) r

-- after it the log has the snapshot's last entry at its place, or none
pub is_entry_or_past : (r : StepResult) (last : LogId ℕ) → IsInOrder r.state → is_within last.index r.state.committed ≡ false → IsEntryOrPast (cut_other last r).state.stored last
is_entry_or_past r last o past = by_tests (has_id_in_log r.state.stored last) (is_some (entry_at r.state.stored last.index)) refl refl
  where
    by_tests : (a b : Bool) → has_id_in_log r.state.stored last ≡ a → is_some (entry_at r.state.stored last.index) ≡ b
        → IsEntryOrPast (if a then r else if b then cut_from (place_above r.state.committed) r else r).state.stored last
    by_tests true b f h = λ e there. id_same e.log_id last (ap (λ found. is_id last (id_of found)) (sym there) ∙ f)
    by_tests false false f h = λ e there. let no : true ≡ false = ap is_some (sym there) ∙ h in absurd (let z : true ≡ false = no in cc)
    by_tests false true f h = λ e there.
        let next : place_above r.state.committed ≡ next_place (committed_id r.state) = above_is_next (committed_id r.state) r.state.committed o.committed in
        let low : next_place (committed_id r.state) ≤ last.index = past_committed (committed_id r.state) r.state.committed last.index o.committed past in
        let end : end_place (cut_from (place_above r.state.committed) r).state.stored ≡ place_above r.state.committed =
        cut_ends r (place_above r.state.committed) o (past_above r.state.committed) (let w = o.within in omega arith) in
        let within : last.index < end_place (cut_from (place_above r.state.committed) r).state.stored = (entry_within (cut_from (place_above r.state.committed) r).state.stored last.index e there).1 in
        absurd (omega arith)

-- ---- the vote stays

cut_vote : (a b c : Bool) (at : ℕ) (r : StepResult) → (if a then r else if b then if c then store (CutFrom at) r else r else r).state.stored.vote ≡ r.state.stored.vote
cut_vote true b c at r = refl
cut_vote false true true at r = refl
cut_vote false true false at r = refl
cut_vote false false c at r = refl

-- what a snapshot covers is committed once it is installed, and where it isn't all of it was
pub install_reaches : (b : Bool) (x : Snapshot) (r : StepResult) → is_within x.last.index r.state.committed ≡ b → is_within x.last.index (install_unless b x r).state.committed ≡ true
install_reaches true x r h = h
install_reaches false x r h = reaches (cut_other x.last r).state.committed
  where
    reaches : (c : Option ℕ) → is_within x.last.index (later_place c (Some x.last.index)) ≡ true
    reaches None = grind (arith, nat_tests)
    reaches (Some a) = grind (arith, nat_tests)

pub install_keeps_vote : (b : Bool) (x : Snapshot) (r : StepResult) → (install_unless b x r).state.stored.vote ≡ r.state.stored.vote
install_keeps_vote true x r = refl
install_keeps_vote false x r =
    cut_vote (has_id_in_log r.state.stored x.last) (is_some (entry_at r.state.stored x.last.index)) (is_some (entry_at r.state.stored (place_above r.state.committed))) (place_above r.state.committed) r

-- what the answer to a snapshot says
pub says_higher : (asked vote : Vote ℕ) → vote_lt asked vote ≡ true → snapshot_result asked (record { vote = vote }) ≡ HigherVote vote
says_higher asked vote h = rw h refl

pub says_success : (asked vote : Vote ℕ) → vote_lt asked vote ≡ false → snapshot_result asked (record { vote = vote }) ≡ Success
says_success asked vote h = rw h refl

-- ---- the snapshot is stored

-- what two changes keep in turn
pub both_keep : (a b c : KnownState) → KeepsRest a b → KeepsRest b c → KeepsRest a c
both_keep a b c k l = record { vote = l.vote ∙ k.vote; committed = l.committed ∙ k.committed; wish = l.wish ∙ k.wish }

-- what is stored with the snapshot, without what it covers
abbrev pub after_snapshot : Snapshot → LogId ℕ → StoredGroup → StoredGroup
after_snapshot x last s = after_storing (RemoveUpTo last) (after_storing (SetSnapshot x) s)

module _ {C R : Type 0} (g : Given) (own : ℕ) (e e' : Engine C R) (r : StepResult) (step : IsStepOf g own e r)
    (config : e'.config ≡ e.config) (seen : e'.seen_greater_log ≡ e.seen_greater_log) (leader : e'.leader ≡ e.leader) (candidate : e'.candidate ≡ e.candidate) (follows : r.state.role ≡ Follower)
    (last : LogId ℕ) (is_last : last ≡ g.snapshot.last) (past : is_within last.index r.state.committed ≡ false) where
  later : later_place r.state.committed (Some last.index) ≡ Some last.index
  later = later_more r.state.committed last.index past

  now_id : option_and_then (id_at (after_snapshot g.snapshot last r.state.stored)) (later_place r.state.committed (Some last.index)) ≡ Some last
  now_id =
      ap (option_and_then (id_at (after_snapshot g.snapshot last r.state.stored))) later
      ∙ (let t : (last.index + 1 == last.index + 1) ≡ true = eq-eqb (last.index + 1) (last.index + 1) refl in rw t refl)

  placed_after : ArePlaced (last.index + 1) (drop (last.index + 1 - first_place r.state.stored) r.state.stored.log)
  placed_after =
      let first : first_place r.state.stored ≤ last.index = above_first r.state step.state.order last.index past in
      let at : first_place r.state.stored + (last.index + 1 - first_place r.state.stored) ≡ last.index + 1 = omega arith in
      subst (λ n. ArePlaced n (drop (last.index + 1 - first_place r.state.stored) r.state.stored.log)) at
      (dropped r.state.stored.log (first_place r.state.stored) (last.index + 1 - first_place r.state.stored) step.state.order.placed)

  pub installed : (k : KnownState) (c d : Command C R) → Knows e'.state (after_snapshot g.snapshot last r.state.stored) → KeepsRest e.state k → e'.state ≡ with_committed k (Some last) e'.state.state.membership_state
      → e'.output ≡ record { queue = (e.output.queue ++ c ∷ []) ++ d ∷ []; last_sm_seq = following_seq e.output.last_sm_seq } → storing_of g.snapshot c ≡ SetSnapshot g.snapshot ∷ [] → storing_of g.snapshot d ≡ RemoveUpTo last ∷ [] → number_in c ≡ following_seq e.output.last_sm_seq ∷ [] → number_in d ≡ [] → moves_of c ≡ Installs (Some last) ∷ [] → NeedsNoOther c → NeedsNoOther d → RestsOn own g.snapshot (basis_of e r.state) c → committed_by c e.state.state.committed ≡ Some last → RestsOn own g.snapshot (record { stored = after_storing (SetSnapshot g.snapshot) r.state.stored; committed = Some last }) d → turns_of c ≡ [] → turns_of d ≡ []
      → ((s : StoredGroup) (upto : Option (LogId ℕ)) → sending_of own s upto c ≡ []) → ((s : StoredGroup) (upto : Option (LogId ℕ)) → sending_of own s upto d ≡ [])
      → IsStepOf g own e' (apply_up_to (Some last.index) (store (RemoveUpTo last) (store (SetSnapshot g.snapshot) r)))
  installed k c d knows keeps state output stores-c stores-d number-c number-d moves-c needs-c needs-d on-c commits-c on-d turnless-c turnless-d sends-c sends-d =
      let old = step.state in
      let queue = ap (λ (o : Output C (List ℕ) R ℕ (List ℕ)). o.queue) output in
      let middle : Output C (List ℕ) R ℕ (List ℕ) = record { queue = e.output.queue ++ c ∷ []; last_sm_seq = following_seq e.output.last_sm_seq } in
      let next : last.index + 1 ≤ g.snapshot.last.index + 1 = subst (λ (id : LogId ℕ). last.index + 1 ≤ id.index + 1) is_last (omega arith) in
      let back : g.snapshot.last.index + 1 ≤ last.index + 1 = subst (λ (id : LogId ℕ). id.index + 1 ≤ last.index + 1) is_last (omega arith) in
      record {
        state = record {
          config = config ∙ old.config;
          knows = knows;
          renewed = ap (λ (y : KnownState). y.state.vote.utime) state ∙ ap (λ v. v.utime) keeps.vote ∙ old.renewed;
          committed = ap (λ (y : KnownState). y.state.committed) state ∙ sym now_id;
          wish = ap (λ (y : KnownState). place_of y.wish) state ∙ ap place_of keeps.wish ∙ old.wish;
          role =
              still_follows own e'.leader e'.candidate r.state.stored (after_snapshot g.snapshot last r.state.stored) r.state.role follows
              (subst (λ l. PlaysRole own l e'.candidate r.state.stored r.state.role) (sym leader) (subst (λ y. PlaysRole own e.leader y r.state.stored r.state.role) (sym candidate) old.role));
          order = record {
            placed = placed_after;
            purged = next;
            snapshot = subst (λ y. g.snapshot.last.index + 1 ≤ next_place y) (sym now_id) back;
            committed = ap place_of now_id ∙ sym later;
            applied = refl;
            within = subst (λ y. next_place y ≤ end_place (after_snapshot g.snapshot last r.state.stored)) (sym now_id) (omega arith);
          };
        };
        stores =
            ap (λ q. flat_map (storing_of g.snapshot) q) queue
            ∙ stores_more (e.output.queue ++ c ∷ []) d g.snapshot (r.commands ++ SetSnapshot g.snapshot ∷ []) (RemoveUpTo last ∷ [])
            (stores_more e.output.queue c g.snapshot r.commands (SetSnapshot g.snapshot ∷ []) step.stores stores-c) stores-d;
        sends = λ s upto.
            ap (λ q. flat_map (sending_of own s upto) q) queue
            ∙ sends_same (e.output.queue ++ c ∷ []) d own s upto r.messages
            (sends_same e.output.queue c own s upto r.messages (step.sends s upto) (sends-c s upto)) (sends-d s upto);
        seen = seen ∙ step.seen;
        numbers = numbers_kept g.last_sm_seq middle e'.output d (numbers_gained g.last_sm_seq e.output middle c step.numbers refl number-c) output number-d;
        moves =
            let before : next_place (committed_id r.state) ≤ last.index = past_committed (committed_id r.state) r.state.committed last.index old.order.committed past in
            let goes_on : next_place e.state.state.committed < last.index + 1 = subst (λ y. next_place y < last.index + 1) (sym old.committed) (omega arith) in
            moves_kept g.committed_before (Some last) e'.state.state.committed middle.queue e'.output.queue
            (moves_gained g.committed_before e.state.state.committed (Some last) e.output.queue middle.queue step.moves c refl (Installs (Some last)) moves-c (goes_on, refl))
            d queue (unmoved d number-d) (ap (λ (y : KnownState). y.state.committed) state);
        at_once = at_once_more middle.queue d e'.output.queue queue (at_once_more e.output.queue c middle.queue refl step.at_once needs-c) needs-d;
        rests =
            rests_stored own g.snapshot (basis_before g) middle.queue e'.output.queue (after_storing (SetSnapshot g.snapshot) r.state.stored) (Some last)
            (rests_pushed own g.snapshot (basis_before g) e.output.queue middle.queue r.state.stored e.state.state.committed step.rests c on-c refl (after_storing (SetSnapshot g.snapshot) r.state.stored) (Some last)
            (sym (ap (λ cs. after_storing_all cs r.state.stored) stores-c)) (sym commits-c))
            d on-d queue e'.state.state.committed (RemoveUpTo last) stores-d number-d (ap (λ (y : KnownState). y.state.committed) state);
        turns =
            turns_kept g.turn_before middle.queue e'.output.queue (is_leader r.state.role)
            (turns_kept g.turn_before e.output.queue middle.queue (is_leader r.state.role) step.turns c refl turnless-c) d queue turnless-d;
      }
