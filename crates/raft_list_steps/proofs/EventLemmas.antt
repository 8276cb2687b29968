-- An event of a history: what it changes of the world, and what of the laws holds of its note.
use Rattle.std.specs.Prelude.{◌≡◌, ◌⊎◌, ℕ, Bool, List, [], ◌∷◌, ◌++◌, length, Option, Some, None, Contains, refl}
use Rattle.std.proofs.Common.{inl, inr, sym, ap, ap₂, ◌∙◌, subst, ⊎_elim, append-nil, eq-eqb}
use Rattle.raft_group_step.specs.Values.{Entry, EntryPayload, Membership}
use Rattle.raft_group_step.specs.Message.{Message}
use Rattle.raft_group_step.specs.GroupState.{GroupState, Role, Follower, Candidate, Leader}
use Rattle.raft_laws.specs.BallotLists.{AgreeBelow}
use Rattle.raft_laws.specs.declared.world_event.WorldEvent.{WorldEvent}
use Rattle.raft_laws.specs.GroupWorld.{GroupWorld, Led, NodeState, Absent, Up, Down, Outcome, Done, Refused, Stopped, Skipped, Recorded, is_stop, new_world, state_or, with_node_state}
use Rattle.raft_laws.specs.GroupRun.{Scene, Nowhere, At, after_scene, happens, led_after, led_as, led_by, outcome_in, scene_of, sent_in, setup_after, stop_at}
use Rattle.raft_laws.specs.NodeEvent.{NodeEvent, state_after}
use Rattle.raft_laws.specs.OneList.{IsGroupHistory}
use Rattle.raft_laws.specs.Settled.{group_list}
use Rattle.raft_laws.proofs.GroupList.{goes_on, list_grows}
use Rattle.raft_laws.proofs.Counts.{contains_among}
use Rattle.raft_laws.proofs.Histories.{histories-join}
use Rattle.raft_laws.proofs.WorldStart.{founded}
use Rattle.raft_list_laws.specs.Accounts.{PartsAreFronts}
use Rattle.raft_list_laws.specs.Changes.{with_note, with_setup}
use Rattle.raft_list_laws.proofs.Fronts.{parts_of_histories}
use Rattle.raft_list_laws.proofs.Matching.{noted_lists_agree}
use Rattle.raft_list_laws.proofs.OwnEntries.{own_entries_come_last}
use Rattle.raft_list_laws.proofs.SetUps.{nobody_led_before}
use Rattle.raft_group_lists.specs.Notes.{Notes, accounts_of, list_to}
use Rattle.raft_list_steps.specs.declared.report.GroupReport.{GroupReport}
use Rattle.raft_list_facts.specs.declared.leading.Leading.{Leading}
use Rattle.raft_list_steps.specs.declared.report.SetUp.{SetUp}
use Rattle.raft_list_steps.specs.Lists.{HasListBy, IsKnown, IsListOf, IsSetUpAhead}
use Rattle.raft_list_steps.specs.Reports.{Hears, HearsAhead, HearsSetUp, IsBehind, IsHeard, IsLeadOf, IsReportAhead, IsReportOf, SaysLead, SaysSetUp, accepted_by, first_setup, listed}
use Rattle.raft_list_steps.specs.Steps.{Accepts, AreNext, IsNext, IsUnled, ListsAgree, MayLead, SetsUp, with_first, with_messages, with_notes}
use Rattle.raft_list_steps.proofs.ListFacts.{last_noted}
use Rattle.raft_list_steps.proofs.MessageLemmas.{fronts_before_all, with_messages_led, with_messages_sent, with_messages_setup}

-- ---- what an event changes

pub record IsChanged (w : GroupWorld) (e : WorldEvent) (o : Outcome) (n : ℕ) (w' : GroupWorld) : Type 0 where
  pub messages : w'.messages ≡ w.messages ++ sent_in o
  pub setup : w'.setup ≡ setup_after w.setup e o
  pub led : w'.led ≡ w.led ++ led_after o n (w'.nodes n)

skipped_setup : (s : Option Membership) (e : WorldEvent) → setup_after s e Skipped ≡ s
skipped_setup None e = refl
skipped_setup (Some m) e = refl

its_state : (n : ℕ) (state : NodeState) (nodes : ℕ → NodeState) → with_node_state n state nodes n ≡ state
its_state n state nodes = ap (λ b. state_or b state (nodes n)) (eq-eqb n n refl)

changed_in : (w : GroupWorld) (e : WorldEvent) (o : Outcome) (b : Bool) (stop : Option ℕ) (n : ℕ) (scene : Scene) → o ≡ outcome_in w b scene → ((m : ℕ) (at : NodeEvent) → scene ≡ At m at → m ≡ n) → IsChanged w e o n (after_scene w e o stop scene)
changed_in w e o b stop n Nowhere is node =
    record {
      messages = sym (ap (λ (p : Outcome). w.messages ++ sent_in p) is ∙ append-nil w.messages);
      setup = sym (ap (λ (p : Outcome). setup_after w.setup e p) is ∙ skipped_setup w.setup e);
      led = sym (ap (λ (p : Outcome). w.led ++ led_after p n (w.nodes n)) is ∙ append-nil w.led);
    }
changed_in w e o b stop n (At m at) is node =
    let state = state_after m at stop (w.nodes m) in
    let same : m ≡ n = node m at refl in
    record {
      messages = refl;
      setup = refl;
      led =
          ap (λ (x : NodeState). w.led ++ led_after o m x) (sym (its_state m state w.nodes))
          ∙ ap (λ (k : ℕ). w.led ++ led_after o k (with_node_state m state w.nodes k)) same;
    }

pub changed_by : (ids : List ℕ) (w : GroupWorld) (r : Recorded) (w' : GroupWorld) (n : ℕ) → IsBehind ids w r w' → ((m : ℕ) (at : NodeEvent) → scene_of w r.event ≡ At m at → m ≡ n) → IsChanged w r.event r.outcome n w'
changed_by ids w r w' n behind node =
    let number = behind.event.1.0 in
    let there : w' ≡ happens w r.event r.outcome number = behind.event.1.1 in
    subst (IsChanged w r.event r.outcome n) (sym there)
    (changed_in w r.event r.outcome (is_stop r.outcome) (stop_at (is_stop r.outcome) number) n (scene_of w r.event) behind.event.0 node)

-- ---- the set-up

-- the set-up stays, or it is the first one
abbrev FirstOrSame : Option Membership → Option Membership → Option Membership → Type 0
FirstOrSame before first after =
    ((first ≡ None) × (after ≡ before)) ⊎ ((m : Membership) × (before ≡ None) × (first ≡ Some m) × (after ≡ Some m))

new_cases : (after : Option Membership) → FirstOrSame None after after
new_cases None = inl (refl, refl)
new_cases (Some m) = inr (m, refl, refl, refl)

first_cases : (before : Option Membership) (e : WorldEvent) (o : Outcome) → FirstOrSame before (first_setup before e o) (setup_after before e o)
first_cases (Some m) e o = inl (refl, refl)
first_cases None e o = new_cases (setup_after None e o)

first_led : (w : GroupWorld) (first : Option Membership) → (with_first w first).led ≡ w.led
first_led w None = refl
first_led w (Some m) = refl

first_messages : (w : GroupWorld) (first : Option Membership) → (with_first w first).messages ≡ w.messages
first_messages w None = refl
first_messages w (Some m) = refl

first_set_up : (w : GroupWorld) (e : WorldEvent) (o : Outcome) → (with_first w (first_setup w.setup e o)).setup ≡ setup_after w.setup e o
first_set_up w e o =
    ⊎_elim
    (λ same. ap (λ (f : Option Membership). (with_first w f).setup) same.0 ∙ sym same.1)
    (λ new. ap (λ (f : Option Membership). (with_first w f).setup) new.2 ∙ sym new.3)
    (first_cases w.setup e o)

-- ---- worlds with the same messages, set-up and notes

notes_led : (w : GroupWorld) (ls : List Led) → (with_notes w ls).led ≡ w.led ++ ls
notes_led w [] = sym (append-nil w.led)
notes_led w (l ∷ ls) = notes_led (with_note w l) ls ∙ append_more w.led l ls
  where
    append_more : (xs : List Led) (x : Led) (ys : List Led) → (xs ++ x ∷ []) ++ ys ≡ xs ++ x ∷ ys
    append_more [] x ys = refl
    append_more (z ∷ xs) x ys = ap (λ zs. z ∷ zs) (append_more xs x ys)

notes_setup : (w : GroupWorld) (ls : List Led) → (with_notes w ls).setup ≡ w.setup
notes_setup w [] = refl
notes_setup w (l ∷ ls) = notes_setup (with_note w l) ls

notes_messages : (w : GroupWorld) (ls : List Led) → (with_notes w ls).messages ≡ w.messages
notes_messages w [] = refl
notes_messages w (l ∷ ls) = notes_messages (with_note w l) ls

abbrev pub at_nodes : (ℕ → NodeState) → GroupWorld → GroupWorld
at_nodes nodes w = record w { nodes = nodes }

-- what is noted of a world says nothing of its nodes
pub list_at_nodes : (s : Notes) (w : GroupWorld) (nodes : ℕ → NodeState) → IsListOf s w → IsListOf s (at_nodes nodes w)
list_at_nodes s w nodes h =
    let n = h.truth.notes in
    record {
      truth = record { notes = record { voters = n.voters; noted = n.noted; latest = n.latest; reached = n.reached }; list = h.truth.list };
      known = λ k less. still (list_to s.noted (Some k)) (h.known k less);
      first = h.first;
    }
  where
    still : (list : List Entry) → IsKnown w list → IsKnown (at_nodes nodes w) list
    still list known =
        ⊎_elim
        (λ k. inl (record { led = k.led; among = k.among; front = k.front }))
        (λ k. inr (record { membership = k.membership; set_up = k.set_up; alone = k.alone }))
        known

pub same_but_nodes : (x y : GroupWorld) → x.messages ≡ y.messages → x.setup ≡ y.setup → x.led ≡ y.led → y ≡ at_nodes y.nodes x
same_but_nodes x y messages setup led =
    let world : List Message → Option Membership → List Led → GroupWorld = λ ms s ls. record { nodes = y.nodes; messages = ms; setup = s; led = ls } in
    sym (ap (λ (ms : List Message). world ms x.setup x.led) messages ∙ ap₂ (λ (s : Option Membership) (ls : List Led). world y.messages s ls) setup led)

-- ---- the note

-- a note is of the node
abbrev node_of : ℕ → List Led → ℕ
node_of n [] = n
node_of n (x ∷ xs) = x.node

by_role : (n : ℕ) (s : GroupState) (role : Role) (l : Led) → led_as n s role ≡ l ∷ [] → l.node ≡ n
by_role n s Follower l is = absurd (let no : [] ≡ l ∷ [] = is in cc)
by_role n s (Candidate granters) l is = absurd (let no : [] ≡ l ∷ [] = is in cc)
by_role n s (Leader lead) l is = sym (ap (node_of n) is)

by_state : (n : ℕ) (state : NodeState) (l : Led) → led_by n state ≡ l ∷ [] → l.node ≡ n
by_state n Absent l is = absurd (let no : [] ≡ l ∷ [] = is in cc)
by_state n (Up s) l is = by_role n s s.role l is
by_state n (Down stored) l is = absurd (let no : [] ≡ l ∷ [] = is in cc)

its_node : (o : Outcome) (n : ℕ) (state : NodeState) (l : Led) → led_after o n state ≡ l ∷ [] → l.node ≡ n
its_node (Done sent told unknown) n state l is = by_state n state l is
its_node (Refused why) n state l is = by_state n state l is
its_node (Stopped unknown) n state l is = absurd (let no : [] ≡ l ∷ [] = is in cc)
its_node Skipped n state l is = absurd (let no : [] ≡ l ∷ [] = is in cc)

module _ (ids : List ℕ) (rs : List Recorded) (w w₁ w' : GroupWorld) (h : IsGroupHistory ids rs w') (led : w₁.led ≡ w.led) (setup : w₁.setup ≡ w'.setup) (l : Led) (noted : w'.led ≡ w₁.led ++ l ∷ []) where
  among_end : Contains w'.led l
  among_end = subst (λ (ls : List Led). Contains ls l) (sym noted) (last_noted w₁ l)

  is_set_up : (m : Membership) × (w₁.setup ≡ Some m)
  is_set_up = go w'.setup refl
    where
      none_noted : (ls : List Led) → ls ++ l ∷ [] ≡ [] → ⊥
      none_noted [] e = cc
      none_noted (x ∷ xs) e = cc

      go : (o : Option Membership) → w'.setup ≡ o → (m : Membership) × (w₁.setup ≡ Some m)
      go None is = absurd (none_noted w₁.led (sym noted ∙ nobody_led_before ids rs w' h is))
      go (Some m) is = (m, setup ∙ is)

  told_there : (leading : Leading) (written : Option EntryPayload) → IsLeadOf leading written w w' l → IsLeadOf leading written w₁ w₁ l
  told_there leading written told =
      record {
        vote = told.vote;
        last = told.last;
        base = λ a v t same. told.base a v t (same ∙ led);
        gains = λ a v t same last is. told.gains a v t (same ∙ led) last is;
        taken =
            ⊎_elim (λ short. inl short)
            (λ k. inr (record { led = k.led; among = subst (λ (ls : List Led). Contains ls k.led) (sym led) k.among; front = k.front })) told.taken;
        first = λ m up. told.first m (sym setup ∙ up);
      }

  pub is_next : (leading : Leading) (written : Option EntryPayload) → IsLeadOf leading written w w' l → IsNext leading written w₁ l
  is_next leading written told =
      record {
        told = told_there leading written told;
        agree = subst ListsAgree noted (noted_lists_agree ids rs w' h);
        own = λ before last is. own_entries_come_last ids rs w' h l among_end before last is;
        membership = is_set_up.0;
        set_up = is_set_up.1;
      }

-- ---- the note and the messages, behind the set-up

-- a history leads to the world, and its next event to the other one, by this report; between them stands a world with the set-up
record IsPassed (ids : List ℕ) (w : GroupWorld) (r : Recorded) (report : GroupReport) (w' w₁ : GroupWorld) : Type 0 where
  behind : IsBehind ids w r w'
  changed : IsChanged w r.event r.outcome report.node w'
  leads : SaysLead report.leading report.written w w' (led_after r.outcome report.node (w'.nodes report.node))
  senders : (m : Message) → Contains (sent_in r.outcome) m → m.sender ≡ report.node
  accepted : accepted_by (sent_in r.outcome) ≡ listed report.accepted
  led : w₁.led ≡ w.led
  messages : w₁.messages ≡ w.messages
  setup : w₁.setup ≡ w'.setup

later : (ids : List ℕ) (w : GroupWorld) (r : Recorded) (w' : GroupWorld) (behind : IsBehind ids w r w') → IsGroupHistory ids (behind.history ++ r ∷ []) w'
later ids w r w' behind =
    record {
      node_ids = behind.before.node_ids;
      replays = histories-join behind.history (r ∷ []) (new_world ids) w w' behind.before.replays behind.event;
    }

module _ (s₁ s₂ s₃ : Notes) (report : GroupReport) (lead : MayLead s₁ report.node report.leading report.written s₂) (accept : Accepts s₂ report.node report.accepted s₃) where
  module _ (ids : List ℕ) (w : GroupWorld) (r : Recorded) (w' w₁ : GroupWorld) (is : IsPassed ids w r report w' w₁) (h : IsListOf s₁ w₁) where
    abbrev notes : List Led
    notes = led_after r.outcome report.node (w'.nodes report.node)

    abbrev w₂ : GroupWorld
    w₂ = with_notes w₁ notes

    abbrev w₃ : GroupWorld
    w₃ = with_messages w₂ (sent_in r.outcome)

    noted_same : w'.led ≡ w₁.led ++ notes
    noted_same = is.changed.led ∙ ap (λ (ls : List Led). ls ++ notes) (sym is.led)

    same : w' ≡ at_nodes w'.nodes w₃
    same =
        same_but_nodes w₃ w'
        (with_messages_sent w₂ (sent_in r.outcome)
        ∙ ap (λ (ms : List Message). ms ++ sent_in r.outcome) (notes_messages w₁ notes ∙ is.messages) ∙ sym is.changed.messages)
        (with_messages_setup w₂ (sent_in r.outcome) ∙ notes_setup w₁ notes ∙ is.setup)
        (with_messages_led w₂ (sent_in r.outcome) ∙ notes_led w₁ notes ∙ sym noted_same)

    fronts : PartsAreFronts (group_list w') w₃
    fronts = let there = subst (PartsAreFronts (group_list w')) same (parts_of_histories ids (is.behind.history ++ r ∷ []) w' (later ids w r w' is.behind)) in λ l c. there l c

    are_next : AreNext report.leading report.written report.node w₁ notes
    are_next = go report.leading is.leads
      where
        go : (o : Option Leading) → SaysLead o report.written w w' notes → AreNext o report.written report.node w₁ notes
        go None none = none
        go (Some x) l = (
          l.0,
          l.1,
          is_next ids (is.behind.history ++ r ∷ []) w w₁ w' (later ids w r w' is.behind) is.led is.setup l.0 (noted_same ∙ ap (λ (ls : List Led). w₁.led ++ ls) l.1) x report.written l.2,
          its_node r.outcome report.node (w'.nodes report.node) l.0 l.1,
        )

    passed : IsListOf s₃ w'
    passed =
        let there =
        accept w₂ (sent_in r.outcome) (group_list w') fronts is.senders is.accepted
        (lead w₁ notes (group_list w') are_next (fronts_before_all (group_list w') w₂ (sent_in r.outcome) fronts) h)
        in
        subst (IsListOf s₃) (sym same) (list_at_nodes s₃ w₃ w'.nodes there)

-- ---- all of it

module _ (s s₁ s₂ s₃ : Notes) (report : GroupReport) (up : SetsUp s report.set_up s₁) (lead : MayLead s₁ report.node report.leading report.written s₂) (accept : Accepts s₂ report.node report.accepted s₃) where
  module _ (ids : List ℕ) (w : GroupWorld) (r : Recorded) (w' : GroupWorld) (behind : IsBehind ids w r w') (is : IsReportOf report w r w') (h : IsListOf s w) where
    abbrev first : Option Membership
    first = first_setup w.setup r.event r.outcome

    changed : IsChanged w r.event r.outcome report.node w'
    changed = changed_by ids w r w' report.node behind is.node

    unled : IsUnled w first
    unled m new =
        ⊎_elim
        (λ old. absurd (let no : None ≡ Some m = sym old.0 ∙ new in cc))
        (λ x. (x.1, nobody_led_before ids behind.history w behind.before x.1))
        (first_cases w.setup r.event r.outcome)

    there : IsListOf s₃ w'
    there =
        passed s₁ s₂ s₃ report lead accept ids w r w' (with_first w first)
        (record {
          behind = behind;
          changed = changed;
          leads = is.leads;
          senders = is.senders;
          accepted = is.accepted;
          led = first_led w first;
          messages = first_messages w first;
          setup = first_set_up w r.event r.outcome ∙ sym changed.setup;
        })
        (up w first is.set_up unled h)

    grown : AgreeBelow (length (group_list w)) (group_list w) (group_list w')
    grown =
        list_grows w w' (goes_on (r ∷ []) w w' behind.event) (founded ids behind.before.node_ids behind.history w behind.before.replays)
        (founded ids behind.before.node_ids (behind.history ++ r ∷ []) w' (later ids w r w' behind).replays)

    is_heard : IsHeard s w' s₃
    is_heard =
        record {
          truth = there;
          grows = subst (λ (xs : List Entry). AgreeBelow (length xs) xs (accounts_of s₃).list) (sym h.truth.list) (subst (AgreeBelow (length (group_list w)) (group_list w)) (sym there.truth.list) grown);
        }

  pub hears : Hears s report s₃
  hears = λ ids w r w' behind is h. is_heard ids w r w' behind is h

  -- ---- where a set-up was heard that wasn't taken

  module _ (ids : List ℕ) (w : GroupWorld) (r : Recorded) (w' : GroupWorld) (behind : IsBehind ids w r w') (ahead : IsSetUpAhead s w) (is : IsReportAhead report w r w' ahead.membership) where
    abbrev m : Membership
    m = ahead.membership

    abbrev u₁ : GroupWorld
    u₁ = with_setup w m

    changed_ahead : IsChanged w r.event r.outcome report.node w'
    changed_ahead = changed_by ids w r w' report.node behind is.node

    listed_there : IsListOf s₁ u₁
    listed_there =
        up u₁ None (subst (λ (o : Option SetUp). SaysSetUp o None) (sym is.set_up) refl) (λ x no. absurd (let e : None ≡ Some x = no in cc)) ahead.list

    -- it is taken now
    taken : (x : Membership) → w'.setup ≡ Some x → IsListOf s₃ w'
    taken x up_now =
        let first : first_setup w.setup r.event r.outcome ≡ Some x =
        ap (λ (o : Option Membership). first_setup o r.event r.outcome) ahead.none
        ∙ ap (λ (o : Option Membership). setup_after o r.event r.outcome) (sym ahead.none) ∙ sym changed_ahead.setup ∙ up_now
        in
        passed s₁ s₂ s₃ report lead accept ids w r w' u₁
        (record {
          behind = behind;
          changed = changed_ahead;
          leads = is.leads;
          senders = is.senders;
          accepted = is.accepted;
          led = refl;
          messages = refl;
          setup = ap (λ (y : Membership). Some y) (sym (is.same x first)) ∙ sym up_now;
        })
        listed_there

    -- it isn't: nobody leads
    not_taken : w'.setup ≡ None → IsSetUpAhead s₃ w'
    not_taken none =
        let unled : w'.led ≡ [] = nobody_led_before ids (behind.history ++ r ∷ []) w' (later ids w r w' behind) none in
        let nothing : led_after r.outcome report.node (w'.nodes report.node) ≡ [] =
        sym (ap (λ (ls : List Led). ls ++ led_after r.outcome report.node (w'.nodes report.node)) ahead.unled) ∙ sym changed_ahead.led ∙ unled
        in
        let quiet : AreNext report.leading report.written report.node u₁ [] = leads_not report.leading (subst (SaysLead report.leading report.written w w') nothing is.leads) in
        let no_fronts : PartsAreFronts [] u₁ = λ l c. absurd (contains_among [] l (subst (λ (ls : List Led). Contains ls l) ahead.unled c)) in
        let u₃ : GroupWorld = with_messages u₁ (sent_in r.outcome) in
        let fronts_there : PartsAreFronts [] u₃ = λ l c. absurd (contains_among [] l (subst (λ (ls : List Led). Contains ls l) (with_messages_led u₁ (sent_in r.outcome) ∙ ahead.unled) c)) in
        let there : IsListOf s₃ u₃ = accept u₁ (sent_in r.outcome) [] fronts_there is.senders is.accepted (lead u₁ [] [] quiet no_fronts listed_there) in
        let same : with_setup w' m ≡ at_nodes w'.nodes u₃ =
        same_but_nodes u₃ (with_setup w' m)
        (with_messages_sent u₁ (sent_in r.outcome) ∙ sym changed_ahead.messages)
        (with_messages_setup u₁ (sent_in r.outcome))
        (with_messages_led u₁ (sent_in r.outcome) ∙ ahead.unled ∙ sym unled)
        in
        record {
          none = none;
          unled = unled;
          membership = m;
          list = subst (IsListOf s₃) (sym same) (list_at_nodes s₃ u₃ w'.nodes there);
        }
      where
        leads_not : (o : Option Leading) → SaysLead o report.written w w' [] → AreNext o report.written report.node u₁ []
        leads_not None none = refl
        leads_not (Some x) l = absurd (let no : [] ≡ l.0 ∷ [] = l.1 in cc)

    has_behind : HasListBy m s₃ w'
    unfolding not_taken
    has_behind = go w'.setup refl
      where
        go : (o : Option Membership) → w'.setup ≡ o → HasListBy m s₃ w'
        go None none = inr (not_taken none, refl)
        go (Some x) up_now = inl (taken x up_now)

  pub hears_ahead : HearsAhead s report s₃
  hears_ahead = λ ids w r w' behind ahead is. has_behind ids w r w' behind ahead is

  -- ---- a set-up alone

  pub hears_set_up : HearsSetUp s report s₃
  hears_set_up w m said leads_not accepts_not none unled h =
      let u : GroupWorld = with_setup w m in
      let set_up : IsListOf s₁ u = up w (Some m) said (λ x taken. (none, unled)) h in
      let quiet : AreNext report.leading report.written report.node u [] = subst (λ (o : Option Leading). AreNext o report.written report.node u []) (sym leads_not) refl in
      let fronts : PartsAreFronts [] u = λ l c. absurd (contains_among [] l (subst (λ (ls : List Led). Contains ls l) unled c)) in
      let silent : accepted_by [] ≡ listed report.accepted = ap listed (sym accepts_not) in
      accept u [] [] fronts (λ x c. absurd (contains_among [] x c)) silent (lead u [] [] quiet fronts set_up)
