-- A report that has what is known of an event says what happened.
use Rattle.std.specs.Prelude.{◌≡◌, ◌⊎◌, ℕ, ◌<◌, ◌≤◌, Bool, true, false, List, [], ◌∷◌, ◌++◌, length, slice_get, Option, Some, None, Contains, unwrap_or, refl}
use Rattle.std.proofs.Common.{inl, inr, sym, ap, ap₂, ◌∙◌, subst, ⊎_elim}
use Rattle.std.proofs.lemmas.Option.{none-some, slice_get_within}
use Rattle.raft_values.specs.LogId.{log_id_of}
use Rattle.raft_values.specs.declared.log_id.LogId.{LogId}
use Rattle.raft_state.specs.declared.entry.EntryPayload.TheVariants.{Blank}
use Rattle.raft_group_step.specs.Values.{Entry, EntryPayload, Membership, entry_of}
use Rattle.raft_group_step.specs.Message.{Message}
use Rattle.raft_group_step.specs.GroupState.{GroupState, Untold, state_of}
use Rattle.raft_group_step.specs.GroupEvent.{GroupEvent, Call, Open}
use Rattle.raft_group_step.specs.StepResult.{RefusalReason, StepResult}
use Rattle.raft_group_step.specs.GroupStep.{group_step}
use Rattle.raft_laws.specs.declared.world_event.WorldEvent.{WorldEvent}
use Rattle.raft_laws.specs.GroupWorld.{GroupWorld, Led, NodeState, Absent, Up, Down, Outcome, Done, Stopped, Recorded, is_stop}
use Rattle.raft_laws.specs.NodeEvent.{NodeEvent, Comes, Crashes, Halts, Restarts, outcome_at, outcome_of_end, outcome_of_step, outcome_of_stop}
use Rattle.raft_laws.specs.Stop.{unknown_at_stop}
use Rattle.raft_laws.specs.GroupRun.{led_after, sent_in, setup_after}
use Rattle.raft_laws.specs.OneList.{IsGroupHistory}
use Rattle.raft_laws.proofs.BallotAgreement.{slice_get-append, slice_get_end}
use Rattle.raft_laws.proofs.BallotSafe.{Among}
use Rattle.raft_laws.proofs.Counts.{among_contains, at_contains, contains_among}
use Rattle.raft_laws.proofs.SentVotes.{step_sends_own}
use Rattle.raft_laws.proofs.StepMoments.{refusals_told}
use Rattle.raft_list_facts.specs.Leads.{leading_in}
use Rattle.raft_list_facts.specs.declared.leading.Leading.{Leading}
use Rattle.raft_list_laws.specs.Accounts.{Accounts, AreTrue}
use Rattle.raft_list_laws.specs.Bases.{WasNotedBefore, base_of}
use Rattle.raft_list_laws.specs.NewEntries.{behind}
use Rattle.raft_list_laws.proofs.Bases.{bases_were_noted}
use Rattle.raft_list_laws.proofs.FirstEntries.{set_ups_come_first}
use Rattle.raft_list_laws.proofs.SetUps.{nobody_led_before}
use Rattle.raft_group_lists.specs.Notes.{EndsWith, IsNotedAt, Notes, accounts_of, count_to, list_to}
use Rattle.raft_list_steps.specs.Lists.{HasFirst, IsKnown, IsLedFront, IsListOf, setup_entry}
use Rattle.raft_list_steps.specs.Reports.{HasLast, IsBehind, IsGained, IsLeadOf, SaysLead, SaysSetUp, first_setup, new_payload, start_of}
use Rattle.raft_list_steps.specs.declared.report.GroupReport.{GroupReport}
use Rattle.raft_list_steps.specs.declared.report.SetUp.{SetUp}
use Rattle.raft_list_steps.proofs.ListFacts.{entry_noted, one_end}
use Rattle.raft_list_reports.specs.Calls.{IsFirstSetUp}
use Rattle.raft_list_reports.specs.Laws.{LeavesNote, ReportsAheadAreTrue, ReportsAreTrue}
use Rattle.raft_list_reports.specs.Told.{AreStops, HappensAt, IsTold, leading_after}
use Rattle.raft_list_reports.proofs.Gains.{one_latest}
use Rattle.raft_list_reports.proofs.Happening.{history_behind, notes_or_none, where_it_happens}
use Rattle.raft_list_reports.proofs.NewNotes.{IsNew, new_in_note}
use Rattle.raft_list_reports.proofs.Stops.{NotedSo, noted_so, told_payload}
use Rattle.raft_list_reports.proofs.TellingLists.{bases_are_told, first_is_blank, led_grown, noted_end, notes_are_told}

-- ---- what is sent is the node's own

module _ (n : ℕ) where
  end_sends : (s : GroupState) (e : GroupEvent) (why : Option RefusalReason) (m : Message) → Among m (sent_in (outcome_of_end (group_step n s e) why)) → m.sender ≡ n
  end_sends s e None m a = step_sends_own n s e m a
  end_sends s e (Some why) m a = absurd a

  stop_sends : (s : GroupState) (e : GroupEvent) (why : Option RefusalReason) (m : Message) → Among m (sent_in (outcome_of_stop s e (group_step n s e) why)) → m.sender ≡ n
  stop_sends s e None m a = absurd a
  stop_sends s e (Some why) m a = absurd a

  step_sends : (b : Bool) (s : GroupState) (e : GroupEvent) (m : Message) → Among m (sent_in (outcome_of_step b s e (group_step n s e))) → m.sender ≡ n
  step_sends true s e m a = stop_sends s e (group_step n s e).refused m a
  step_sends false s e m a = end_sends s e (group_step n s e).refused m a

  event_sends : (at : NodeEvent) (b : Bool) (x : NodeState) (m : Message) → Among m (sent_in (outcome_at n at b x)) → m.sender ≡ n
  event_sends at b Absent m a = absurd a
  event_sends (Comes e) b (Up s) m a = step_sends b s e m a
  event_sends Crashes b (Up s) m a = absurd a
  event_sends Halts b (Up s) m a = absurd a
  event_sends Restarts b (Up s) m a = absurd a
  event_sends (Comes e) b (Down st) m a = absurd a
  event_sends Crashes b (Down st) m a = absurd a
  event_sends Halts b (Down st) m a = absurd a
  event_sends Restarts b (Down st) m a = step_sends b (state_of st) Open m a

senders : (ids : List ℕ) (w : GroupWorld) (r : Recorded) (w' : GroupWorld) (node : ℕ) → IsBehind ids w r w' → HappensAt w r node → (m : Message) → Contains (sent_in r.outcome) m → m.sender ≡ node
senders ids w r w' node bh at m c =
    let among = contains_among (sent_in r.outcome) m c in
    ⊎_elim
    (λ no. absurd (subst (λ (o : Outcome). Among m (sent_in o)) no.outcome among))
    (λ there. event_sends node there.at (is_stop r.outcome) (w.nodes node) m (subst (λ (o : Outcome). Among m (sent_in o)) there.outcome among))
    (where_it_happens ids w r w' node bh at)

-- ---- the set-up

-- where an entry is noted the group is set up
noted_set_up : (ids : List ℕ) (rs : List Recorded) (w : GroupWorld) (history : IsGroupHistory ids rs w) (s : Notes) → IsListOf s w → (at : ℕ) → at < length s.noted → w.setup ≡ None → ⊥
noted_set_up ids rs w history s h at within none = none_set_up (nobody_led_before ids rs w history none) (h.known at within)
  where
    none_set_up : w.led ≡ [] → IsKnown w (list_to s.noted (Some at)) → ⊥
    none_set_up unled known =
        ⊎_elim
        (λ front. let among = subst (λ (ls : List Led). Among front.led ls) unled (contains_among w.led front.led front.among) in absurd among)
        (λ alone. none-some _ (sym none ∙ alone.set_up))
        known

-- the set-up's entry is noted
noted_first : (s : Notes) (m : Membership) → HasFirst s m → (at : ℕ) × IsNotedAt s.noted (log_id_of 0 0 0) at
noted_first s m first =
    entry_noted s.noted (count_to s.noted (Some first.at)) (Some first.at) 0 (setup_entry m) (ap (λ (xs : List Entry). slice_get xs 0) first.list)

-- a set-up that is told is the group's first one
module _ (ids : List ℕ) (w : GroupWorld) (bh : (rs : List Recorded) × IsGroupHistory ids rs w) (s : Notes) (h : IsListOf s w) (e : WorldEvent) (o : Outcome) where
  not_yet : (at : ℕ) → IsNotedAt s.noted (log_id_of 0 0 0) at → w.setup ≡ None → ⊥
  not_yet at noted none = noted_set_up ids bh.0 w bh.1 s h at (slice_get_within s.noted at noted.one noted.there) none

  first_of : (said : Option SetUp) → IsFirstSetUp s (setup_after None e o) said → (before : Option Membership) → w.setup ≡ before → SaysSetUp said (first_setup before e o)
  first_of None told None is =
      ⊎_elim (λ none. none) (λ noted. absurd (not_yet noted.0 noted.1 is)) told
  first_of None told (Some m) is = refl
  first_of (Some x) told None is = (told.0, told.1)
  first_of (Some x) told (Some m) is =
      let first = noted_first s m (h.first m is) in absurd (told.2 first.0 first.1)

-- ---- the note

-- a call that isn't refused, and whose event leaves a note, is done
record IsDone (o : Outcome) : Type 0 where
  sent : List Message
  told : List Untold
  unknown : List ℕ
  is : o ≡ Done sent told unknown

done_so : (o : Outcome) (b : Bool) (s : GroupState) (e : GroupEvent) (res : StepResult) → o ≡ outcome_of_step b s e res → res.refused ≡ None → ((unknown : List ℕ) → o ≡ Stopped unknown → ⊥) → IsDone o
done_so o true s e res is taken no_stop = absurd (no_stop (unknown_at_stop s e res) (is ∙ ap (outcome_of_stop s e res) taken))
done_so o false s e res is taken no_stop =
    record { sent = res.messages; told = res.told; unknown = res.unknown; is = is ∙ ap (outcome_of_end res) taken }

-- the new entry has the last log id
new_last : (start : List Entry) (e : Entry) (list : List Entry) (last : LogId ℕ) → list ≡ start ++ e ∷ [] → EndsWith list last → e.log_id ≡ last
new_last start e list last is ends =
    one_end list e.log_id last (record { before = start; last = e; is = is; of_id = refl }) ends

with_last : (start list : List Entry) (e : Entry) (last : LogId ℕ) (payload : EntryPayload) → list ≡ start ++ e ∷ [] → EndsWith list last → e.payload ≡ payload → list ≡ start ++ entry_of last payload ∷ []
with_last start list e last payload is ends same =
    is ∙ ap₂ (λ (id : LogId ℕ) (p : EntryPayload). start ++ entry_of id p ∷ []) (new_last start e list last is ends) same

-- what the report says of notes
module _ (ids : List ℕ) (w : GroupWorld) (r : Recorded) (w' : GroupWorld) (bh : IsBehind ids w r w') (s : Notes) (noted : NotedSo (accounts_of s) w) (stopped : ℕ → Option EntryPayload) (stops : AreStops stopped w) (report : GroupReport) (told : IsTold s stopped w r w' report) where
  abbrev node : ℕ
  node = report.node

  module _ (l : Led) (note : led_after r.outcome node (w'.nodes node) ≡ l ∷ []) where
    leaves : LeavesNote ids w r w' node l
    leaves = record { behind = bh; there = told.node; note = note }

    no_stop : (unknown : List ℕ) → r.outcome ≡ Stopped unknown → ⊥
    no_stop unknown e = let no : [] ≡ l ∷ [] = sym (ap (λ (o : Outcome). led_after o node (w'.nodes node)) e) ∙ note in cc

    module _ (a : Accounts) (v : GroupWorld) (t : AreTrue a v) (same : v.led ≡ w.led) where
      one : a.latest l.vote ≡ (accounts_of s).latest l.vote
      one = one_latest a (accounts_of s) v noted.world t noted.truth (same ∙ sym noted.same) l.vote

      -- the payload of a new entry is told
      written : (x : Entry) → IsNew stopped w r node l.vote (a.latest l.vote) x → report.written ≡ Some x.payload
      written x new =
          ⊎_elim
          (λ c.
          let done = done_so r.outcome (is_stop r.outcome) c.state (Call c.call c.now) (group_step node c.state (Call c.call c.now)) c.outcome (refusals_told node c.state (Call c.call c.now) ∙ c.is.taken) no_stop in
          told_payload s a l.vote one node c.state c.call c.now x.payload c.is report.written
          (told.asked c.call c.now done.sent done.told done.unknown c.event done.is c.is.before (ap leading_in c.up ∙ c.is.led)))
          (λ o. told.opened o.0 ∙ o.1)
          new

      gains : (last : LogId ℕ) → EndsWith l.list last → (latest : List Entry) → a.latest l.vote ≡ latest → IsGained (start_of latest (base_of l)) (entry_of last (new_payload latest report.written)) l.list
      gains last ends [] is =
          ⊎_elim
          (λ e. inl e)
          (λ x. inr (with_last (base_of l) l.list (behind l.vote (base_of l) x.0) last Blank x.1 ends x.2))
          (first_is_blank ids w r w' node l leaves a v t same is)
      gains last ends (y ∷ ys) is =
          let some : a.latest l.vote ≡ [] → ⊥ = λ none. let no : [] ≡ y ∷ ys = sym none ∙ is in cc in
          ⊎_elim
          (λ e. inl (e ∙ is))
          (λ x.
          let new = behind l.vote (a.latest l.vote) x.0 in
          let payload : new.payload ≡ unwrap_or report.written Blank = sym (ap (λ (o : Option EntryPayload). unwrap_or o Blank) (written new x.2)) in
          inr
          (subst (λ (xs : List Entry). l.list ≡ xs ++ entry_of last (unwrap_or report.written Blank) ∷ []) is
          (with_last (a.latest l.vote) l.list new last (unwrap_or report.written Blank) x.1 ends payload)))
          (new_in_note ids w r w' node l leaves stopped stops a v t same some)

    taken_before : (length (base_of l) ≤ 1) ⊎ IsLedFront w (base_of l)
    taken_before =
        ⊎_elim
        (λ short. inl short)
        (λ x. inr (was x))
        (bases_were_noted ids (bh.history ++ r ∷ []) w' (history_behind ids w r w' bh) (length w.led) l
        (ap (λ (ls : List Led). slice_get ls (length w.led)) grown ∙ slice_get_end w.led l))
      where
        grown : w'.led ≡ w.led ++ l ∷ []
        grown = led_grown ids w r w' node l leaves

        was : WasNotedBefore w' (length w.led) l.vote (base_of l) → IsLedFront w (base_of l)
        was x =
            let there = sym (slice_get-append w.led (l ∷ []) x.number x.earlier) ∙ ap (λ (ls : List Led). slice_get ls x.number) (sym grown) ∙ x.there in
            record { led = x.other; among = at_contains w.led x.other x.number there; front = x.front }

    first_entry : (m : Membership) → w'.setup ≡ Some m → slice_get l.list 0 ≡ Some (setup_entry m)
    first_entry m is =
        set_ups_come_first ids (bh.history ++ r ∷ []) w' (history_behind ids w r w' bh) m is l
        (among_contains w'.led l (noted_end ids w r w' node l leaves))

    lead_so : (leading : Leading) → leading_after r.outcome (w'.nodes node) ≡ Some leading → l.vote ≡ leading.vote → HasLast l.list leading.last → IsLeadOf leading report.written w w' l
    lead_so leading tells vote last =
        record {
          vote = vote;
          last = last;
          base = λ a v t same none. bases_are_told ids w r w' node l leaves leading tells a v t same none;
          gains = λ a v t same id is. gains a v t same id (subst (HasLast l.list) is last) (a.latest l.vote) refl;
          taken = taken_before;
          first = first_entry;
        }

    says_it : SaysLead report.leading report.written w w' (led_after r.outcome node (w'.nodes node))
    says_it =
        let x = notes_are_told ids w r w' node l leaves in
        subst (λ (o : Option Leading). SaysLead o report.written w w' (led_after r.outcome node (w'.nodes node))) (sym (told.leading ∙ x.1))
        (l, note, lead_so x.0 x.1 x.2 x.3)

  says : SaysLead report.leading report.written w w' (led_after r.outcome node (w'.nodes node))
  says =
      ⊎_elim
      (λ none. subst (λ (o : Option Leading). SaysLead o report.written w w' (led_after r.outcome node (w'.nodes node))) (sym (told.leading ∙ none.1)) none.0)
      (λ x. says_it x.0 x.1)
      (notes_or_none node r.outcome (w'.nodes node))

-- ---- reports

pub reports_are_true : ReportsAreTrue
reports_are_true ids w r w' bh s h stopped stops report told =
    record {
      node = told.node;
      set_up = first_of ids w (bh.history, bh.before) s h r.event r.outcome report.set_up told.set_up w.setup refl;
      leads = says ids w r w' bh s (record { world = w; truth = h.truth; same = refl }) stopped stops report told;
      senders = senders ids w r w' report.node bh told.node;
      accepted = told.accepted;
    }

-- none is told where it is noted already
none_told : (s : Notes) (m : Membership) → HasFirst s m → (asked : Option Membership) (said : Option SetUp) → IsFirstSetUp s asked said → said ≡ None
none_told s m first asked None told = refl
none_told s m first asked (Some x) told = let noted = noted_first s m first in absurd (told.2 noted.0 noted.1)

same_ahead : (before : Option Membership) (e : WorldEvent) (o : Outcome) (m : Membership) → ((x : Membership) → setup_after None e o ≡ Some x → x ≡ m) → (first : Membership) → first_setup before e o ≡ Some first → first ≡ m
same_ahead None e o m same first is = same first is
same_ahead (Some x) e o m same first is = absurd (none-some _ is)

pub reports_ahead_are_true : ReportsAheadAreTrue
reports_ahead_are_true ids w r w' bh s ahead stopped stops same report told =
    record {
      node = told.node;
      set_up = none_told s ahead.membership (ahead.list.first ahead.membership refl) (setup_after None r.event r.outcome) report.set_up told.set_up;
      same = same_ahead w.setup r.event r.outcome ahead.membership same;
      leads = says ids w r w' bh s (noted_so s w (inr ahead)) stopped stops report told;
      senders = senders ids w r w' report.node bh told.node;
      accepted = told.accepted;
    }
