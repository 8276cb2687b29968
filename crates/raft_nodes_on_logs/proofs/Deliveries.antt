-- A frame that was sent to the node, and comes in pieces, is taken by a node on files.
use Rattle.std.specs.Prelude.{◌≡◌, ◌⊎◌, ◌<◌, ℕ, Bool, true, false, List, [], ◌∷◌, length, Option, Some, None, Result, Ok, Err, refl}
use Rattle.std.proofs.Common.{inl, inr, sym, ap, ◌∙◌, subst, ⊎_elim, arith}
use Rattle.raft_cluster_conditions.specs.Cuts.{are_cuts}
use Rattle.raft_cluster_events.specs.declared.node.NodeOutcome.{NodeOutcome}
use Rattle.raft_cluster_events.specs.declared.outcome.NodeError.{NodeError}
use Rattle.raft_cluster_laws.specs.Keeping.{StandsInWorld}
use Rattle.raft_executor.specs.Said.{Says}
use Rattle.raft_messages.specs.declared.memberships.SnapshotBytes.{SnapshotBytes}
use Rattle.raft_messages.specs.declared.message.Message.{Message as Sent}
use Rattle.raft_framed_groups.specs.Frames.{frame_with}
use Rattle.raft_group_step.specs.GroupEvent.{Receive}
use Rattle.raft_group_step.specs.Message.{Message}
use Rattle.raft_headline.specs.ClusterEvent.{Deliver, Recorded, Stopped}
use Rattle.raft_headline.specs.Machines.{KeepsItsLaw}
use Rattle.raft_headline.specs.Naming.{names_in}
use Rattle.raft_laws.specs.GroupWorld.{NodeState}
use Rattle.raft_machines.specs.Machine.{MachineRules}
use Rattle.raft_node.specs.Feeding.{IsFrame, StaysBut, fed_as}
use Rattle.raft_node.specs.Settling.{IsTold}
use Rattle.raft_node.specs.Standing.{NodeValue}
use Rattle.raft_node.specs.declared.outcome.Outcome.{Outcome}
use Rattle.raft_node_faults.specs.declared.fault.Cause.TheVariants as cause
use Rattle.raft_node_faults.specs.declared.fault.Fault.{Fault}
use Rattle.raft_node_faults.specs.declared.fault.Fault.TheVariants as fault
use Rattle.raft_node_joint.specs.Leading.{LeadsOn, StandsBefore, WasDone, led_by}
use Rattle.raft_node_joint.specs.Coming.{ComesTo}
use Rattle.raft_node_joint.specs.Saying.{outcome_of_fault, stops_unjudged}
use Rattle.raft_node_joint.specs.Standing.{KeepMachinesLaw}
use Rattle.raft_node_joint.proofs.EventsCome.{messages_come}
use Rattle.raft_node_joint.proofs.Failures.{failed_nodes_pass, failures_lead}
use Rattle.raft_node_joint.proofs.FramesLeadOn.{frames_lead}
use Rattle.raft_node_joint.proofs.Others.{same_or_other}
use Rattle.raft_node_joint.proofs.StatesStay.{but_stays, same_stays, stays_so}
use Rattle.raft_node_joint.proofs.WereDone.{frames_done}
use Rattle.raft_node_laws.specs.Answered.{Answered, one_of, some_of}
use Rattle.raft_node_laws.specs.Delivery.{Comes, GoesOn, piece, pieces_from}
use Rattle.raft_node_laws.specs.Law.{IsTaken, WasSent}
use Rattle.raft_store.specs.Reading.{StandsFor}
use Rattle.raft_wire.specs.Frames.{FitsFrame, spelled_frame}
use Rattle.raft_wire.specs.Stream.{fresh}
use Rattle.raft_wire.specs.declared.frame.Frame.{Frame}
use Rattle.raft_node.proofs.Feeds.{stays_but}
use Rattle.raft_nodes_on_logs.specs.Acts.{FeedsTo, IsFedOn, IsUpAs, WhenUp, log_node_acts, log_node_states, refused, some_outcome}
use Rattle.raft_nodes_on_logs.specs.Answering.{error_of}
use Rattle.raft_nodes_on_logs.specs.Kept.{KeepingFault}
use Rattle.raft_nodes_on_logs.specs.Kinds.{NodeKind}
use Rattle.raft_nodes_on_logs.specs.Standing.{NodeOf, UpNode, value}
use Rattle.raft_nodes_on_logs.proofs.Pieces.{CameWhole, LackedRoom, pieces_come}
use Rattle.raft_nodes_on_logs.proofs.Standing.{are_of_machine, is_up_in, machines_law, stands_before}
use Rattle.raft_nodes_on_logs.proofs.Taken.{Answer, Behind, IsOneGroup, IsStopAs, is_stop, one_group_taken, stops, unjudged_stops}

abbrev done_as : {F : Type 0} → Outcome → Answer F
done_as o = Ok o

-- the same answer, said of one outcome
same_said : (one : Result NodeOutcome NodeError) → some_of (some_outcome one) ≡ one_of one
same_said (Ok outcome) = refl
same_said (Err why) = refl

module _ (k : NodeKind) (begins : KeepsItsLaw k.rules k.rules.first) (restores : (m : k.Machine) → KeepsItsLaw k.rules (k.state m)) where
  abbrev of : UpNode k → NodeValue
  of n = value k n

  abbrev Takes : (Kind : List Recorded → Type 0) → ℕ → ℕ → ℕ → NodeOf k → Answered → NodeOf k → Type 0
  Takes Kind group number now old answered new = IsTaken k.rules (log_node_acts k) (log_node_states k) Kind (Deliver group number now) group old answered new

  module _ (old : NodeOf k) (n : UpNode k) (up : old.up ≡ Some n) (group number now : ℕ) (m : Message) (to : m.addressee ≡ old.id)
      (x : Sent SnapshotBytes) (says : Says (StandsFor k.rules) x m) (fits : FitsFrame (frame_with group x)) where
    abbrev frame : Frame
    frame = frame_with group x

    abbrev bytes : List ℕ
    bytes = spelled_frame frame

    abbrev Kind : List Recorded → Type 0
    Kind = WasSent group number m

    abbrev One : NodeValue → UpNode k → Answer (KeepingFault k) → Type 0
    One plain mid result = IsOneGroup k old plain mid group (Receive m.sender m now) (λ i. Deliver group number now) Kind result

    start_own : (ids : List ℕ) (history : List Recorded) (olds : ℕ → List NodeState) → Behind k ids history old olds → (of n).groups.own ≡ old.id
    start_own ids history olds behind = (is_up_in k begins restores old n up group (olds group) (behind.may_be group)).own

    comes_so : (own : ℕ) → own ≡ old.id → (history : List Recorded) → Kind history → ComesTo own group history (Deliver group number now) (Receive m.sender m now)
    comes_so own is history kind = messages_come own group number now m history kind (to ∙ sym is)

    -- a plain node stands where the node does, but for streams
    before_so : (z : NodeValue) → StaysBut (of n) z m.sender → KeepMachinesLaw k.rules z
        → (ids : List ℕ) (history : List Recorded) (olds : ℕ → List NodeState) → Behind k ids history old olds → StandsBefore k.rules (StandsFor k.rules) ids history z olds
    before_so z same law ids history olds behind =
        let before = stands_before k begins restores old n up ids history olds behind in
        record {
          of_machine = before.of_machine;
          law = law;
          may_be = λ h. stays_so k.rules (of n) z m.sender same h (olds h) (before.may_be h);
          in_world = λ h s among. subst (λ i. StandsInWorld k.rules ids h history i s) (sym same.own) (before.in_world h s among);
        }

    taken_as : (answered : Result (Option NodeOutcome) NodeError) (one : Result NodeOutcome NodeError) (new : NodeOf k) → answered ≡ some_outcome one
        → Takes Kind group number now old (one_of one) new → Takes Kind group number now old (some_of answered) new
    taken_as answered one new is taken = subst (λ a. Takes Kind group number now old a new) (sym (ap some_of is ∙ same_said one)) taken

    -- ---- the frame came whole

    came_taken : (of n).groups.has_failed ≡ false → (answered : Result (Option NodeOutcome) NodeError) (new : NodeOf k)
        → CameWhole k frame fits m.sender now n old answered new → Takes Kind group number now old (some_of answered) new
    came_taken going answered new c =
        taken_as answered c.one new c.answer (one_group_taken k old new plain c.y group (Receive m.sender m now) (λ i. Deliver group number now) Kind c.result one c.one c.passed)
      where
        plain : NodeValue
        plain = fed_as (of c.x) (of c.y)

        same : StaysBut (of n) plain m.sender
        same = record {
          own = c.along.stays.own;
          has_failed = c.along.stays.has_failed;
          members = c.along.stays.members;
          well = c.along.stays.well;
          running = c.along.stays.running;
          kept = c.along.stays.kept;
        }

        law : KeepMachinesLaw k.rules plain
        law = let l = machines_law k begins restores c.x in record { new = l.new; running = l.running }

        framed : IsFrame k.rules (StandsFor k.rules) (StaysBut (of c.x) (of c.y) m.sender) plain (of c.y) m.sender frame now c.result
        framed = c.came.1

        going_there : plain.groups.has_failed ≡ false
        going_there = c.along.stays.has_failed ∙ going

        one : One plain c.y c.result
        one = record {
          own = λ ids history olds behind. c.along.stays.own ∙ start_own ids history olds behind;
          before = before_so plain same law;
          same = framed.elsewhere.own;
          streams = λ ids history olds behind still peer.
              ⊎_elim
              (λ is. subst (λ p. (of c.y).streams p ≡ fresh) (sym is) c.came.0.0)
              (λ other. c.came.0.1 peer other ∙ c.along.others peer other
              ∙ (is_up_in k begins restores old n up group (olds group) (behind.may_be group)).streams going peer)
              (same_or_other peer m.sender);
          comes = λ history own kind. comes_so plain.groups.own own history kind;
          halted = stops_unjudged c.result;
          stopped = unjudged_stops c.result;
          leads = λ ids history olds kind own before.
              frames_lead k.rules (StandsFor k.rules) (StaysBut (of c.x) (of c.y) m.sender) plain (of c.y) frame now c.result ids history olds number m kind (to ∙ sym own) says going_there before
              (but_stays k.rules (of c.x) (of c.y) m.sender) framed;
          done = λ o is. frames_done (KeepingFault k) k.rules (StandsFor k.rules) (StaysBut (of c.x) (of c.y) m.sender) plain (of c.y) o frame now m (are_of_machine k.rules) says going_there
              (subst (λ r. IsFrame k.rules (StandsFor k.rules) (StaysBut (of c.x) (of c.y) m.sender) plain (of c.y) m.sender frame now r) is framed);
        }

    -- ---- memory was lacking for a piece: the node halts

    lacked_taken : (of n).groups.has_failed ≡ false → (answered : Result (Option NodeOutcome) NodeError) (new : NodeOf k)
        → LackedRoom k frame fits m.sender now n old answered new → Takes Kind group number now old (some_of answered) new
    lacked_taken going answered new l =
        taken_as answered (Err (error_of k.cause l.why)) new l.answer
        (one_group_taken k old new (of l.x) l.y group (Receive m.sender m now) (λ i. Deliver group number now) Kind (Err l.why) one (Err (error_of k.cause l.why)) (refl, l.up))
      where
        s : IsStopAs l.why
        s = is_stop cause.Memory l.why l.stopped

        told : IsTold ⊥ (of l.x) (of l.y) (fault.Stopped s.cause s.unknown)
        told = subst (IsTold ⊥ (of l.x) (of l.y)) s.is l.told

        one : One (of l.x) l.y (Err l.why)
        one = record {
          own = λ ids history olds behind. l.along.stays.own ∙ start_own ids history olds behind;
          before = before_so (of l.x) l.along.stays (machines_law k begins restores l.x);
          same = told.own;
          streams = λ ids history olds behind still peer. absurd (let no : true ≡ false = sym told.fails ∙ still in cc);
          comes = λ history own kind. comes_so (of l.x).groups.own own history kind;
          halted = true;
          stopped = λ is. ap (λ why. stops (Err why)) s.is;
          leads = λ ids history olds kind own before. record {
            outcome = Stopped (names_in s.unknown.items);
            says = subst (λ why. outcome_of_fault why ≡ Some (Stopped (names_in s.unknown.items))) (sym s.is) refl;
            leads = failures_lead k.rules (of l.x) (of l.y) (fault.Stopped s.cause s.unknown) history olds (l.along.stays.has_failed ∙ going) before.may_be told;
          };
          done = λ o is. absurd (let no : Err l.why ≡ done_as o = is in cc);
        }

    -- ---- a node that had failed passes it over

    failed_taken : (of n).groups.has_failed ≡ true → (p : List ℕ) (ps : List (List ℕ)) (answered : Result (Option NodeOutcome) NodeError) (new : NodeOf k)
        → Comes (log_node_acts k) m.sender now old (p ∷ ps) answered new → Takes Kind group number now old (some_of answered) new
    failed_taken failed p ps answered new (first, next, feeds, goes) =
        taken_as answered (Err (error_of k.cause fault.Failed)) new ended.0
        (one_group_taken k old new (of n) n group (Receive m.sender m now) (λ i. Deliver group number now) Kind (Err fault.Failed) one (Err (error_of k.cause fault.Failed)) (refl, ended.1))
      where
        f : FeedsTo k n m.sender p now old first next
        f = subst (λ u. WhenUp k old next u (first ≡ refused) (λ q. FeedsTo k q m.sender p now old first next)) up feeds

        met : (f.outcomes ≡ []) × (f.met ≡ Some fault.Failed) × (f.mid ≡ n)
        met = f.fed.failed failed

        fed : IsFedOn k old n [] (Some fault.Failed) first next
        fed = subst (λ y. IsFedOn k old y [] (Some fault.Failed) first next) met.2
            (subst (λ w. IsFedOn k old f.mid [] w first next) met.1
            (subst (λ os. IsFedOn k old f.mid os f.met first next) met.0 f.passed))

        ended : (answered ≡ Err (error_of k.cause fault.Failed)) × IsUpAs k old new n
        ended =
            let over = subst (λ r. GoesOn (log_node_acts k) r next answered new (Comes (log_node_acts k) m.sender now next ps answered new)) fed.0 goes in
            (over.0, subst (λ z. IsUpAs k old z n) (sym over.1) fed.1)

        one : One (of n) n (Err fault.Failed)
        one = record {
          own = start_own;
          before = λ ids history olds behind. stands_before k begins restores old n up ids history olds behind;
          same = refl;
          streams = λ ids history olds behind still peer. absurd (let no : true ≡ false = sym failed ∙ still in cc);
          comes = λ history own kind. comes_so (of n).groups.own own history kind;
          halted = false;
          stopped = λ no. absurd (let never : false ≡ true = no in cc);
          leads = λ ids history olds kind own before.
              failed_nodes_pass (KeepingFault k) k.rules (StandsFor k.rules) (of n) (of n) group (Receive m.sender m now) ids history (Deliver group number now) olds
              (comes_so (of n).groups.own own history kind) before failed (same_stays k.rules (value k) n n refl);
          done = λ o is. absurd (let no : Err fault.Failed ≡ done_as o = is in cc);
        }

    -- ---- whatever comes

    module _ (cuts : List ℕ) (cut_so : are_cuts 0 (length bytes) cuts ≡ true) (some : 0 < length bytes) (answered : Result (Option NodeOutcome) NodeError) (new : NodeOf k)
        (comes : Comes (log_node_acts k) m.sender now old (pieces_from bytes 0 cuts) answered new) where
      failed_so : (cs : List ℕ) → (of n).groups.has_failed ≡ true → Comes (log_node_acts k) m.sender now old (pieces_from bytes 0 cs) answered new
          → Takes Kind group number now old (some_of answered) new
      failed_so [] failed c = failed_taken failed (piece bytes 0 (length bytes)) [] answered new c
      failed_so (cut ∷ cs) failed c = failed_taken failed (piece bytes 0 cut) (pieces_from bytes cut cs) answered new c

      by_failed : (b : Bool) → (of n).groups.has_failed ≡ b → ((of n).groups.has_failed ≡ false → (peer : ℕ) → (of n).streams peer ≡ fresh) → Takes Kind group number now old (some_of answered) new
      by_failed true failed streams = failed_so cuts failed comes
      by_failed false going streams =
          ⊎_elim (came_taken going answered new) (lacked_taken going answered new)
          (pieces_come k frame fits m.sender now n going old cuts old n 0
          (record {
            id = refl;
            up = up;
            along = record { stays = stays_but (of n) m.sender; holds = streams going m.sender; others = λ other far. refl };
            inside = some;
          }) cut_so answered new comes)

      taken_at : (ids : List ℕ) (history : List Recorded) (olds : ℕ → List NodeState) → Behind k ids history old olds → Takes Kind group number now old (some_of answered) new
      taken_at ids history olds behind =
          by_failed (of n).groups.has_failed refl (is_up_in k begins restores old n up group (olds group) (behind.may_be group)).streams

      pub frame_taken : Takes Kind group number now old (some_of answered) new
      frame_taken = record {
        ends = λ ids history olds kind behind. (taken_at ids history olds behind).ends ids history olds kind behind;
        stops = λ outcome stop last is fails ids history olds kind behind. (taken_at ids history olds behind).stops outcome stop last is fails ids history olds kind behind;
      }
