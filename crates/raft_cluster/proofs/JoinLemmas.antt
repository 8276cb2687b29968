-- One event more: whatever comes to a node that keeps the law, the plain history goes on and leads to what is there.
use Rattle.std.proofs.Common.{◌≡◌, ℕ, eqb, Bool, true, false, cond, List, [], ◌∷◌, ◌++◌, Some, IfSome, Ok, Err, inl, inr, refl, sym, ap, ◌∙◌, subst, append-nil, eqb-true}
use Rattle.std.specs.List.{AllZip}
use Rattle.raft_group_step.specs.Message.{Message}
use Rattle.raft_laws.specs.BallotLists.{with_value}
use Rattle.raft_laws.specs.GroupWorld.{NodeState}
use Rattle.raft_machines.specs.Machine.{MachineRules}
use Rattle.raft_sent_frames.specs.declared.frame.SentFrame.{SentFrame}
use Rattle.raft_headline.specs.ClusterEvent.{ClusterEvent as PlainEvent, ClusterOutcome as PlainOutcome, Recorded as PlainRecord}
use Rattle.raft_headline.specs.ClusterEvent.{Done, Stopped, TurnedAway, Unknown, is_stopped}
use Rattle.raft_headline.specs.Told.{said_by, said_if}
use Rattle.raft_cluster_laws.specs.Acts.{EventLeads}
use Rattle.raft_cluster_laws.specs.Along.{sent_by}
use Rattle.raft_cluster_laws.proofs.EventKept.{candidates_stand, kept_by_all}
use Rattle.raft_cluster_events.specs.declared.event.ClusterEvent.{ClusterEvent}
use Rattle.raft_cluster_events.specs.declared.node.NodeOutcome.{NodeOutcome}
use Rattle.raft_cluster_events.specs.declared.outcome.EventOutcome.{EventOutcome}
use Rattle.raft_cluster_events.specs.declared.outcome.EventOutcome.TheVariants as outcome
use Rattle.raft_cluster_events.specs.declared.outcome.GroupOutcome.{GroupOutcome}
use Rattle.raft_cluster_events.specs.declared.outcome.NodeError.{NodeError}
use Rattle.raft_cluster_events.specs.declared.outcome.NodeError.TheVariants as error
use Rattle.raft_cluster_events.specs.declared.outcome.Recorded.{Recorded}
use Rattle.raft_cluster_events.specs.declared.outcome.Stop.{Stop}
use Rattle.raft_cluster_conditions.specs.declared.reasons.ClusterRefusal.{ClusterRefusal}
use Rattle.raft_cluster_events.specs.Node.{NodeActs}
use Rattle.raft_cluster_events.specs.States.{NodeStates}
use Rattle.raft_node_laws.specs.Answered.{Answered, stop_behind}
use Rattle.raft_node_laws.specs.Law.{IsTaken, Leads, StandsBehind}
use Rattle.raft_node_laws.specs.Reporting.{DoneAs, IsDoneAs, IsRecordedAs, IsSentAs, OutcomeAs, node_behind, plain_event}
use Rattle.raft_node_laws.specs.Saying.{IsToldAs, SaysCall, SaysError, names_of}
use Rattle.raft_cluster.specs.Cluster.{with_node}
use Rattle.raft_cluster.specs.Facts.{Sent, node_in}
use Rattle.raft_cluster.specs.Happening.{FailsBehind, Did, Settles, StopsFor, over}
use Rattle.raft_cluster.specs.Joined.{IsToldOf, ids_of}
use Rattle.raft_cluster.specs.Sending.{part_of, sent_after_one}
use Rattle.raft_cluster.proofs.ListLemmas.{found_new, found_other, ids_kept}
use Rattle.raft_cluster.proofs.PlainLemmas.{IsFreeSetUp, IsQuiet, SetUpsAgree, agree_on, passive, quiet_by, report_more, sent_more}
use Rattle.raft_cluster.proofs.SpellingLemmas.{one_says, part_says, same_length}

-- an event that isn't done is told so, and says nothing
pub record IsToldSilently (plain : List PlainRecord) (e : ClusterEvent) (o : EventOutcome) (p : PlainOutcome) : Type 0 where
  pub told : OutcomeAs plain e o p
  pub quiet : IsQuiet p

quiet_stop : (p : PlainOutcome) (names : List Unknown) → p ≡ Stopped names → IsQuiet p
quiet_stop p names is = subst IsQuiet (sym is) tt

pub stopped_as : (plain : List PlainRecord) (e : ClusterEvent) (stop : Stop) (o : EventOutcome) (p : PlainOutcome) → o ≡ outcome.Stopped stop → p ≡ Stopped (names_of stop) → IsToldSilently plain e o p
stopped_as plain e stop o p is says = record {
  told = subst (λ q. OutcomeAs plain e q p) (sym is) says;
  quiet = quiet_stop p (names_of stop) says;
}

pub error_as : (plain : List PlainRecord) (e : ClusterEvent) (why : NodeError) (o : EventOutcome) (p : PlainOutcome) → o ≡ over why → SaysError why p → IsToldSilently plain e o p
error_as plain e (error.Refused why) o p is says = record {
  told = subst (λ q. OutcomeAs plain e q p) (sym is) says;
  quiet = (passive why p says).quiet;
}
error_as plain e (error.Stopped stop) o p is says = stopped_as plain e stop o p is says

same_value : {A : Type 0} (f : ℕ → A) (n m : ℕ) → with_value f n (f n) m ≡ f m
same_value f n m = go (eqb m n) refl
  where
    go : (b : Bool) → eqb m n ≡ b → cond b (f n) (f m) ≡ f m
    go true is = ap f (sym (eqb-true m n is))
    go false is = refl

-- what ends without a stop is told as itself
pub itself : (happened : PlainEvent) (n : ℕ) (o : PlainOutcome) (told : PlainEvent) → IsToldAs happened n o told → is_stopped o ≡ false → told ≡ happened
itself happened n o told (inl is) ends = is
itself happened n o told (inr halts) ends = let no : true ≡ false = sym halts.1 ∙ ends in absurd (cc)

-- so far, with the first set-ups
pub record IsToldSoFar {N : Type 0} (rules : MachineRules) (acts : NodeActs N) (states : NodeStates N) (ids downs : List ℕ) (nodes : List N) (sent : Sent) (history : List Recorded) : Type 0 where
  pub told : IsToldOf rules acts states ids downs nodes sent history
  pub set_ups : SetUpsAgree history told.plain

-- a record more of a node, with the states in which it may be behind it
pub record IsOneMore {N : Type 0} (rules : MachineRules) (acts : NodeActs N) (states : NodeStates N) (ids downs : List ℕ) (nodes : List N) (sent : Sent) (history : List Recorded) (t : IsToldSoFar rules acts states ids downs nodes sent history) (real : Recorded) (nodes' : List N) (later : Sent) : Type 0 where
  pub next : IsToldSoFar rules acts states ids downs nodes' later (history ++ real ∷ [])
  pub one : PlainRecord
  pub plain : next.told.plain ≡ t.told.plain ++ one ∷ []
  pub recorded : IsRecordedAs t.told.plain real one
  pub news : ℕ → List NodeState
  pub leads : (h : ℕ) → EventLeads rules h one.node one t.told.plain (t.told.stand.candidates h one.node) (news h)
  pub candidates : (h : ℕ) → next.told.stand.candidates h ≡ with_value (t.told.stand.candidates h) one.node (news h)
  pub free : IsFreeSetUp history real

module _ {N : Type 0} (rules : MachineRules) (acts : NodeActs N) (states : NodeStates N) (ids downs : List ℕ) where
  module _ (nodes : List N) (sent : Sent) (history : List Recorded) (t : IsToldSoFar rules acts states ids downs nodes sent history) where
    abbrev olds : ℕ → ℕ → List NodeState
    olds n h = t.told.stand.candidates h n

    -- a record more, with a node's new candidates
    joined : (real : Recorded) (r : PlainRecord) (news : ℕ → List NodeState) (nodes' : List N) (later : Sent)
        → ((h : ℕ) → EventLeads rules h r.node r t.told.plain (olds r.node h) (news h))
        → IsRecordedAs t.told.plain real r
        → ((m : ℕ) (node : N) → node_in acts nodes' m ≡ Some node → (h : ℕ) → states.may_be node h (with_value (t.told.stand.candidates h) r.node (news h) m))
        → ((h : ℕ) → AllZip (IsSentAs states.spells h) (later h) (sent_by h t.told.plain ++ (said_by h r.event r.outcome).sent))
        → ids_of acts nodes' ≡ ids_of acts nodes → IsFreeSetUp history real
        → IsOneMore rules acts states ids downs nodes sent history t real nodes' later
    joined real r news nodes' later leads recorded may frames same free = record {
      next = record {
        told = record {
          plain = t.told.plain ++ r ∷ [];
          report = report_more downs history t.told.plain real r t.told.report recorded;
          stand = record {
            candidates = λ h. with_value (t.told.stand.candidates h) r.node (news h);
            kept = kept_by_all rules ids t.told.stand.candidates t.told.plain t.told.stand.kept r r.node news leads;
            may_be = may;
            frames = λ h. subst (λ ms. AllZip (IsSentAs states.spells h) (later h) ms) (sym (sent_more h t.told.plain r)) (frames h);
          };
          same_ids = same ∙ t.told.same_ids;
        };
        set_ups = agree_on history t.told.plain real r t.set_ups recorded free;
      };
      one = r;
      plain = refl;
      recorded = recorded;
      news = news;
      leads = leads;
      candidates = λ h. refl;
      free = free;
    }

    pub with_nothing : (h : ℕ) (later : Sent) (ms : List Message) → ms ≡ [] → later h ≡ sent h → AllZip (IsSentAs states.spells h) (later h) (sent_by h t.told.plain ++ ms)
    with_nothing h later ms none same =
        let P : List SentFrame → Type 0 = λ fs. AllZip (IsSentAs states.spells h) fs (sent_by h t.told.plain ++ ms) in
        let Q : List Message → Type 0 = λ l. AllZip (IsSentAs states.spells h) (sent h) l in
        subst P (sym same) (subst Q (sym (ap (λ l. sent_by h t.told.plain ++ l) none ∙ append-nil (sent_by h t.told.plain))) (t.told.stand.frames h))

    -- it was turned away: nothing changes but the histories
    pub turned : (e : ClusterEvent) (why : ClusterRefusal) (o : EventOutcome) (nodes' : List N) (later : Sent) → o ≡ outcome.TurnedAway why → nodes' ≡ nodes → later ≡ sent
        → (n : ℕ) → IfSome (node_behind t.told.plain e) (λ m. n ≡ m) → IsFreeSetUp history (record { event = e; outcome = o })
        → IsOneMore rules acts states ids downs nodes sent history t (record { event = e; outcome = o }) nodes' later
    turned e why o nodes' later is same kept n at free =
        let r : PlainRecord = record { event = plain_event e; node = n; outcome = TurnedAway } in
        joined (record { event = e; outcome = o }) r (olds n) nodes' later
        (λ h. let kept_h = t.told.stand.kept.groups h in record { one = kept_h.one n; some = kept_h.among n; came = λ s has. (s, has, refl) })
        (record {
          event = inl refl;
          node = at;
          outcome = subst (λ q. OutcomeAs t.told.plain e q TurnedAway) (sym is) refl;
        })
        (λ m node there h.
        subst (λ l. states.may_be node h l) (sym (same_value (t.told.stand.candidates h) n m))
        (t.told.stand.may_be m node (sym (ap (λ ns. node_in acts ns m) same) ∙ there) h))
        (λ h. with_nothing h later _ (ap (λ s. s.sent) (quiet_by (plain_event e) h TurnedAway tt)) (ap (λ (s : Sent). s h) kept))
        (ap (ids_of acts) same) free

    -- ---- an event that comes to its node

    module _ (before : N) (found : node_in acts nodes (acts.id before) ≡ Some before) where
      pub stands : StandsBehind rules acts states ids t.told.plain before (olds (acts.id before))
      stands = record {
        node_ids = t.told.stand.kept.node_ids;
        may_be = λ h. t.told.stand.may_be (acts.id before) before found h;
        stands = λ h s has. candidates_stand rules ids t.told.stand.kept.node_ids h (t.told.stand.candidates h) t.told.plain (t.told.stand.kept.groups h) (acts.id before) s has;
      }

      module _ (e : ClusterEvent) (happened : PlainEvent) (is_plain : happened ≡ plain_event e) (at : IfSome (node_behind t.told.plain e) (λ n. acts.id before ≡ n)) (o : EventOutcome) (free : IsFreeSetUp history (record { event = e; outcome = o })) (new : N) (later : Sent) (same_id : acts.id new ≡ acts.id before) where
        abbrev Goal : Type 0
        Goal = IsOneMore rules acts states ids downs nodes sent history t (record { event = e; outcome = o }) (with_node acts (acts.id before) new nodes) later

        -- what it leads to is there
        pub led : (Says : PlainOutcome → Type 0) (l : Leads rules acts states t.told.plain happened (olds (acts.id before)) before new Says) → OutcomeAs t.told.plain e o l.outcome
            → ((h : ℕ) → AllZip (IsSentAs states.spells h) (later h) (sent_by h t.told.plain ++ (said_by h l.told l.outcome).sent)) → Goal
        led Says l told frames =
            let n = acts.id before in
            let r : PlainRecord = record { event = l.told; node = n; outcome = l.outcome } in
            joined (record { event = e; outcome = o }) r l.news (with_node acts n new nodes) later l.leads
            (record { event = subst (λ x. IsToldAs x n l.outcome l.told) is_plain l.as_itself; node = at; outcome = told })
            (λ m node there h. may n m node there h (eqb m n) refl)
            frames
            (ids_kept acts nodes n new same_id) free
          where
            may : (n m : ℕ) (node : N) → node_in acts (with_node acts (acts.id before) new nodes) m ≡ Some node → (h : ℕ) (b : Bool) → eqb m (acts.id before) ≡ b → states.may_be node h (cond b (l.news h) (t.told.stand.candidates h m))
            may n m node there h true is =
                let first : node_in acts (with_node acts (acts.id before) new nodes) m ≡ Some new =
                ap (λ i. node_in acts (with_node acts (acts.id before) new nodes) i) (eqb-true m (acts.id before) is) ∙ found_new acts nodes (acts.id before) new before same_id found in
                let same : new ≡ node = cc in
                subst (λ x. states.may_be x h (l.news h)) same (l.may_be h)
            may n m node there h false is = t.told.stand.may_be m node (sym (found_other acts nodes (acts.id before) m new same_id is) ∙ there) h

        -- it isn't done: nothing is sent
        pub led_silently : (Says : PlainOutcome → Type 0) (l : Leads rules acts states t.told.plain happened (olds (acts.id before)) before new Says) → IsToldSilently t.told.plain e o l.outcome
            → ((h : ℕ) → later h ≡ sent h) → Goal
        led_silently Says l told kept =
            led Says l told.told (λ h. with_nothing h later _ (ap (λ s. s.sent) (quiet_by l.told h l.outcome told.quiet)) (kept h))

      -- ---- an event of one group

      module _ (e : ClusterEvent) (happened : PlainEvent) (is_plain : happened ≡ plain_event e) (at : IfSome (node_behind t.told.plain e) (λ n. acts.id before ≡ n)) (o : EventOutcome) (free : IsFreeSetUp history (record { event = e; outcome = o })) (mid new : N) (later : Sent) (id_mid : acts.id mid ≡ acts.id before) (id_new : acts.id new ≡ acts.id before) (group : ℕ) where
        module _ (done_as : (parts : List GroupOutcome) (p : PlainOutcome) → IsDoneAs t.told.plain group parts p → DoneAs t.told.plain e parts p)
            (stops_as : (outcomes : List NodeOutcome) (stop : Stop) → StopsFor acts e mid outcomes stop new → FailsBehind acts mid outcomes stop new)
            (says_if : (h : ℕ) (p : PlainOutcome) → said_by h happened p ≡ said_if (eqb group h) p)
            (Kind : List PlainRecord → Type 0) (kind : Kind t.told.plain) where
          abbrev GoalAt : N → Type 0
          GoalAt x = IsOneMore rules acts states ids downs nodes sent history t (record { event = e; outcome = o }) (with_node acts (acts.id before) x nodes) later

          pub group_event : (answered : Answered) → IsTaken rules acts states Kind happened group before answered mid → Settles acts sent e mid (Did answered) o later new → GoalAt new
          group_event (Err why) taken over_it =
              let l = taken.ends ids t.told.plain (olds (acts.id before)) kind stands in
              subst GoalAt (sym over_it.node)
              (led_silently e happened is_plain at o free mid later id_mid (SaysCall states.spells (acts.id before) group (Err why)) l
              (error_as t.told.plain e why o l.outcome over_it.outcome l.says) over_it.sends)
          group_event (Ok []) taken settles = absurd (taken.ends ids t.told.plain (olds (acts.id before)) kind stands).says
          group_event (Ok (x ∷ y ∷ zs)) taken settles = absurd (taken.ends ids t.told.plain (olds (acts.id before)) kind stands).says
          group_event (Ok (x ∷ [])) taken (inr lacks) =
              let f = stops_as (x ∷ []) lacks.stop lacks.node in
              let l = taken.stops f.outcome f.named new (ap Ok f.one) f.fails ids t.told.plain (olds (acts.id before)) kind stands in
              led_silently e happened is_plain at o free new later id_new (λ p. p ≡ Stopped (names_of (stop_behind f.outcome f.named))) l
              (stopped_as t.told.plain e lacks.stop o l.outcome lacks.outcome (l.says ∙ ap (λ s. Stopped (names_of s)) (sym f.same))) lacks.sends
          group_event (Ok (x ∷ [])) taken (inl done) =
              let l = taken.ends ids t.told.plain (olds (acts.id before)) kind stands in
              let (of_group, said, says, is) = l.says in
              let spells = states.spells in
              let long = same_length spells x.group (sent x.group) (sent_by x.group t.told.plain) (t.told.stand.frames x.group) in
              let done_so : IsDoneAs t.told.plain group done.parts l.outcome = record {
                part = part_of sent x;
                said = said;
                one = done.sends.numbered;
                of_group = of_group;
                same = part_says spells (acts.id before) (acts.id mid) id_mid t.told.plain sent x said says long;
                done = is;
              } in
              let as_itself = itself happened (acts.id before) l.outcome l.told l.as_itself (ap is_stopped is) in
              let said_there : (h : ℕ) → said_by h l.told l.outcome ≡ said_if (eqb x.group h) (Done said) =
              λ h. ap (λ q. said_by h q l.outcome) as_itself ∙ ap (said_by h happened) is ∙ says_if h (Done said) ∙ ap (λ g. said_if (eqb g h) (Done said)) (sym of_group) in
              subst GoalAt (sym done.node)
              (led e happened is_plain at o free mid later id_mid (SaysCall spells (acts.id before) group (Ok (x ∷ []))) l
              (subst (λ q. OutcomeAs t.told.plain e q l.outcome) (sym done.outcome) (done_as done.parts l.outcome done_so))
              (λ h.
              let P : List SentFrame → Type 0 = λ fs. AllZip (IsSentAs spells h) fs (sent_by h t.told.plain ++ (said_by h l.told l.outcome).sent) in
              let Q : List Message → Type 0 = λ ms. AllZip (IsSentAs spells h) (sent_after_one sent (acts.id mid) x h) (sent_by h t.told.plain ++ ms) in
              subst P (sym (done.sends.sends h))
              (subst Q (ap (λ s. s.sent) (sym (said_there h)))
              (one_says spells (acts.id before) (acts.id mid) id_mid h sent (sent_by h t.told.plain) x said says (t.told.stand.frames h)))))
