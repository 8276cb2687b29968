-- Why a call that stops a node over a log does so.
use Rattle.std.specs.Prelude.{◌≡◌, ℕ, Bool, true, false, List, [], ◌∷◌, length, Option, Some, Result, Ok, Err, Vec, refl}
use Rattle.std.specs.Global.{Global}
use Rattle.std.proofs.Common.{inl, inr, sym, ap, ◌∙◌, subst, ⊎_elim}
use Rattle.raft_cluster_conditions.specs.Cuts.{are_cuts}
use Rattle.raft_cluster_events.specs.declared.node.NodeOutcome.{NodeOutcome}
use Rattle.raft_cluster_events.specs.declared.outcome.NodeError.{NodeError}
use Rattle.raft_cluster_events.specs.declared.outcome.NodeError.TheVariants.{Stopped}
use Rattle.raft_cluster_events.specs.declared.outcome.NodeError.TheVariants as error
use Rattle.raft_cluster_events.specs.declared.outcome.NodeRefusal.TheVariants as refusal
use Rattle.raft_cluster_events.specs.declared.outcome.Stop.{Stop}
use Rattle.raft_cluster_events.specs.declared.outcome.StopCause.{StopCause}
use Rattle.raft_cluster_events.specs.declared.outcome.StopCause.TheVariants as stop_cause
use Rattle.raft_cluster_laws.specs.Along.{scene_behind, sent_by}
use Rattle.raft_framed_groups.specs.Answers.{is_right_party}
use Rattle.raft_framed_groups.specs.Frames.{frame_with}
use Rattle.raft_group_step.specs.GroupEvent.{Call, GroupCall, Receive}
use Rattle.raft_group_step.specs.Message.{Message}
use Rattle.raft_group_step.specs.declared.group_call.GroupCall.TheVariants.{Initialize}
use Rattle.raft_headline.specs.ClusterEvent.{Ask, Deliver}
use Rattle.raft_headline.specs.Machines.{KeepsItsLaw}
use Rattle.raft_laws.specs.declared.world_event.WorldEvent.TheVariants as event
use Rattle.raft_laws.specs.GroupRun.{At}
use Rattle.raft_laws.specs.NodeEvent.{Comes as ComesTo}
use Rattle.raft_machines.specs.declared.telling.UnknownTokens.{UnknownTokens}
use Rattle.raft_node.specs.Asking.{without_its_why}
use Rattle.raft_node.specs.Ending.{IsEvent, Leads}
use Rattle.raft_node.specs.Feeding.{IsFrame, StaysBut, fed_as}
use Rattle.raft_node.specs.Settling.{IsStoppedBy}
use Rattle.raft_node.specs.Standing.{NodeValue}
use Rattle.raft_node.specs.declared.outcome.Outcome.{Outcome}
use Rattle.raft_node.proofs.Feeds.{stays_but}
use Rattle.raft_node_faults.specs.Fault.{fault_met_by_node}
use Rattle.raft_node_faults.specs.declared.fault.Cause.{Cause}
use Rattle.raft_node_faults.specs.declared.fault.Cause.TheVariants as cause
use Rattle.raft_node_faults.specs.declared.fault.Fault.{Fault}
use Rattle.raft_node_faults.specs.declared.fault.Fault.TheVariants as fault
use Rattle.raft_node_joint.specs.Leading.{IsAdding, StandsBefore}
use Rattle.raft_node_joint.specs.Saying.{Spells}
use Rattle.raft_node_joint.specs.Standing.{KeepMachinesLaw}
use Rattle.raft_node_joint.proofs.EventsCome.{calls_come, messages_come}
use Rattle.raft_node_joint.proofs.StatesStay.{stays_so}
use Rattle.raft_node_laws.specs.Answered.{stop_behind}
use Rattle.raft_node_laws.specs.Delivery.{Comes, GoesOn, piece, pieces_from}
use Rattle.raft_node_laws.specs.Law.{Anything, IsAskedAt, WasSent}
use Rattle.raft_cluster_laws.specs.Keeping.{StandsInWorld}
use Rattle.raft_store.specs.Reading.{StandsFor}
use Rattle.raft_store.specs.declared.fault.StoreFault.{StoreFault}
use Rattle.raft_store_laws.specs.Storable.{HasShortSnapshots}
use Rattle.raft_wire.specs.Frames.{spelled_frame}
use Rattle.raft_wire.specs.Stream.{fresh}
use Rattle.raft_wire.specs.declared.frame.Frame.{Frame}
use Rattle.raft_nodes_on_logs.specs.Acts.{AddsTo, AsksTo, FeedsTo, IsFedOn, IsPassed, Meets, WhenUp, log_node_acts, refused, some_outcome}
use Rattle.raft_nodes_on_logs.specs.Answering.{cause_of, error_of, node_outcome, stop_in}
use Rattle.raft_nodes_on_logs.specs.Kept.{KeepingFault}
use Rattle.raft_nodes_on_logs.specs.Kinds.{NodeKind}
use Rattle.raft_nodes_on_logs.specs.Standing.{NodeOf, UpNode, value}
use Rattle.raft_nodes_on_logs.proofs.Keeping.{spelled_some}
use Rattle.raft_nodes_on_logs.proofs.Pieces.{CameWhole, LackedRoom, pieces_come}
use Rattle.raft_nodes_on_logs.proofs.Standing.{is_up_in, machines_law, stands_before}
use Rattle.raft_nodes_on_logs.proofs.Taken.{Answer}
use Rattle.raft_nodes_on_files.proofs.CauseLemmas.{err_is, same_some, stopped_is}
use Rattle.raft_stop_causes.specs.Causes.{IsLedTo, IsOwnCause, StopsAtPiece}
use Rattle.raft_stop_causes.proofs.Events.{adding_cause, adding_stopped, event_cause, event_stopped, shown_parts, used_well, was_sent}

-- ---- an answer that is a stop

-- the fault that it tells
pub record IsMetStop {F : Type 0} (log_cause : F → StopCause) (why : Fault (StoreFault F)) (stop : Stop) : Type 0 where
  pub cause : Cause (StoreFault F)
  pub unknown : Vec UnknownTokens Global
  pub is : why ≡ fault.Stopped cause unknown
  pub named : stop.cause ≡ cause_of log_cause cause

pub stop_met : {F : Type 0} (log_cause : F → StopCause) (why : Fault (StoreFault F)) (stop : Stop) → error_of log_cause why ≡ Stopped stop → IsMetStop log_cause why stop
stop_met log_cause (fault.Stopped c unknown) stop is = record { cause = c; unknown = unknown; is = refl; named = ap (λ (s : Stop). s.cause) (sym (stopped_is _ stop is)) }
stop_met log_cause (fault.NotLeader leader) stop is = absurd cc
stop_met log_cause fault.UnknownGroup stop is = absurd cc
stop_met log_cause fault.GroupExists stop is = absurd cc
stop_met log_cause fault.NotAllowed stop is = absurd cc
stop_met log_cause fault.NotVoter stop is = absurd cc
stop_met log_cause (fault.Membership why) stop is = absurd cc
stop_met log_cause fault.VoterChange stop is = absurd cc
stop_met log_cause fault.InProgress stop is = absurd cc
stop_met log_cause fault.CommandTooLong stop is = absurd cc
stop_met log_cause fault.NumberAtEnd stop is = absurd cc
stop_met log_cause fault.Failed stop is = absurd cc
stop_met log_cause fault.WrongParty stop is = absurd cc
stop_met log_cause fault.TooMuchForBatch stop is = absurd cc
stop_met log_cause fault.BreaksCondition stop is = absurd cc
stop_met log_cause (fault.Frame why) stop is = absurd cc

-- a stop for want of memory
memory_in : {F : Type 0} (log_cause : F → StopCause) (why : Fault (StoreFault F)) → IsStoppedBy cause.Memory why → (stop_in log_cause why).cause ≡ stop_cause.Memory
memory_in log_cause (fault.Stopped c unknown) is = ap (cause_of log_cause) is
memory_in log_cause other is = absurd is

memory_stop : {F : Type 0} (log_cause : F → StopCause) (why : Fault (StoreFault F)) (stop : Stop) → IsStoppedBy cause.Memory why → error_of log_cause why ≡ Stopped stop → stop.cause ≡ stop_cause.Memory
memory_stop log_cause (fault.Stopped c unknown) stop by is = ap (λ (s : Stop). s.cause) (sym (stopped_is _ stop is)) ∙ ap (cause_of log_cause) by
memory_stop log_cause other stop by is = absurd by

ok_no_stop : {T : Type 0} (x : T) (e : NodeError) → Ok x ≡ Err e → ⊥
ok_no_stop x e wrong = absurd cc

stopped_alike : {F : Type 0} (call : GroupCall) (c : Cause F) (unknown : Vec UnknownTokens Global) → without_its_why {T = Outcome} {F = F} call (Err (fault.Stopped c unknown)) ≡ Err (fault.Stopped c unknown)
stopped_alike (Initialize m) c unknown = refl
stopped_alike call c unknown = refl

one_stopped : (one : Result NodeOutcome NodeError) (e : NodeError) → some_outcome one ≡ Err e → one ≡ Err e
one_stopped (Ok o) e is = absurd (ok_no_stop _ _ is)
one_stopped (Err why) e is = ap (λ (f : NodeError). Err f) (err_is (some_outcome (Err why)) why e refl is)

stop_is_right : {F : Type 0} (c : Cause F) (unknown : Vec UnknownTokens Global) → fault.Stopped c unknown ≡ fault.WrongParty → ⊥
stop_is_right c unknown is = absurd cc

not_refused : (stop : Stop) → error.Refused refusal.Failed ≡ Stopped stop → ⊥
not_refused stop is = absurd cc

module _ (k : NodeKind) (short : HasShortSnapshots k.rules) (begins : KeepsItsLaw k.rules k.rules.first) (restores : (m : k.Machine) → KeepsItsLaw k.rules (k.state m)) where
  abbrev of : UpNode k → NodeValue
  of n = value k n

  -- it is passed on, or memory ran out behind what was done
  passed_cause : (old new : NodeOf k) (n mid m : UpNode k) (result : Answer (KeepingFault k)) (answered : Result NodeOutcome NodeError) (stop : Stop) → new.up ≡ Some m → answered ≡ Err (Stopped stop)
      → IsPassed k old mid result answered new
      → ((c : Cause (KeepingFault k)) (unknown : Vec UnknownTokens Global) → result ≡ Err (fault.Stopped c unknown) → IsOwnCause k n mid (cause_of k.cause c)) → IsOwnCause k n m stop.cause
  passed_cause old new n mid m (Ok o) answered stop up err (inl (is, at)) when = absurd (ok_no_stop _ _ (sym is ∙ err))
  passed_cause old new n mid m (Ok o) answered stop up err (inr b) when =
      let is : stop_behind (node_outcome o) (stop_in k.cause b.why) ≡ stop = stopped_is _ stop (err_is answered _ _ b.answer err) in
      inl (ap (λ (s : Stop). s.cause) (sym is) ∙ memory_in k.cause b.why b.fails.0)
  passed_cause old new n mid m (Err why) answered stop up err (is, at) when =
      let s = stop_met k.cause why stop (err_is answered _ _ is err) in
      subst (λ (x : UpNode k). IsOwnCause k n x stop.cause) (same_some mid m (sym at.1 ∙ up))
      (subst (IsOwnCause k n mid) (sym s.named) (when s.cause s.unknown (ap (λ (w : Fault (KeepingFault k)). Err w) s.is)))

  -- ---- a call of a group, and a new group

  module _ (old new : NodeOf k) (n m : UpNode k) (group : ℕ) (answered : Result NodeOutcome NodeError) (stop : Stop) (up : old.up ≡ Some n) (then_up : new.up ≡ Some m) (err : answered ≡ Err (Stopped stop)) where
    pub asked_cause : (now : ℕ) (call : GroupCall) → IsLedTo k (IsAskedAt old.id group call now) old → AsksTo k n group call now old answered new → IsOwnCause k n m stop.cause
    asked_cause now call here a = passed_cause old new n a.mid m a.result answered stop then_up err a.passed when
      where
        before : StandsBefore k.rules (StandsFor k.rules) here.ids here.history (of n) here.olds
        before = stands_before k begins restores old n up here.ids here.history here.olds here.behind

        own : (of n).groups.own ≡ old.id
        own = (is_up_in k begins restores old n up group (here.olds group) (here.behind.may_be group)).own

        when : (c : Cause (KeepingFault k)) (unknown : Vec UnknownTokens Global) → a.result ≡ Err (fault.Stopped c unknown) → IsOwnCause k n a.mid (cause_of k.cause c)
        when c unknown is =
            let e : IsEvent k.rules (StandsFor k.rules) (a.mid ≡ n) (of n) (of a.mid) group (Call call now) (Err (fault.Stopped c unknown)) =
            subst (IsEvent k.rules (StandsFor k.rules) (a.mid ≡ n) (of n) (of a.mid) group (Call call now)) (ap (without_its_why call) is ∙ stopped_alike call c unknown) a.event in
            let comes = calls_come (of n).groups.own group now call here.history
            (subst (λ i. scene_behind group here.history (event.Ask i call now) ≡ At i (ComesTo (Call call now))) (sym own) here.kind) in
            let t = event_stopped k.rules (StandsFor k.rules) (a.mid ≡ n) (of n) (of a.mid) group c unknown here.ids here.history here.olds before
            (Call call now) (Ask (of n).groups.own group call now) comes e in
            event_cause k short n a.mid (of n) group here.ids here.history e.elsewhere.own (used_well k short n (shown_parts k.rules (of n) here.olds t.going before.may_be)) (Call call now) c unknown.items
            (subst (λ r. Meets k n a.mid (fault_met_by_node r)) is a.met) tt t

    pub added_cause : IsLedTo k Anything old → AddsTo k n group old answered new → IsOwnCause k n m stop.cause
    added_cause here a = passed_cause old new n a.mid m a.result answered stop then_up err a.passed when
      where
        before : StandsBefore k.rules (StandsFor k.rules) here.ids here.history (of n) here.olds
        before = stands_before k begins restores old n up here.ids here.history here.olds here.behind

        when : (c : Cause (KeepingFault k)) (unknown : Vec UnknownTokens Global) → a.result ≡ Err (fault.Stopped c unknown) → IsOwnCause k n a.mid (cause_of k.cause c)
        when c unknown is =
            let adding : IsAdding k.rules (StandsFor k.rules) (a.mid ≡ n) (of n) (of a.mid) group (Err (fault.Stopped c unknown)) =
            subst (IsAdding k.rules (StandsFor k.rules) (a.mid ≡ n) (of n) (of a.mid) group) is a.adding in
            let t = adding_stopped k.rules (StandsFor k.rules) (a.mid ≡ n) (of n) (of a.mid) group c unknown here.ids here.history here.olds before adding in
            adding_cause k short n a.mid (of n) group here.ids here.history adding.elsewhere.own (used_well k short n (shown_parts k.rules (of n) here.olds t.going before.may_be)) c
            (subst (λ r. Meets k n a.mid (fault_met_by_node r)) is a.met) t

  -- ---- a frame that comes in pieces

  module _ (old new : NodeOf k) (n z : UpNode k) (group number now : ℕ) (m : Message) (answered : Result (Option NodeOutcome) NodeError) (stop : Stop)
      (up : old.up ≡ Some n) (then_up : new.up ≡ Some z) (err : answered ≡ Err (Stopped stop)) (to : m.addressee ≡ old.id)
      (bytes : List ℕ) (sent : Spells (StandsFor k.rules) group m bytes) (here : IsLedTo k (WasSent group number m) old) where
    abbrev frame : Frame
    frame = frame_with group sent.sent

    before_all : StandsBefore k.rules (StandsFor k.rules) here.ids here.history (of n) here.olds
    before_all = stands_before k begins restores old n up here.ids here.history here.olds here.behind

    own_is : (of n).groups.own ≡ old.id
    own_is = (is_up_in k begins restores old n up group (here.olds group) (here.behind.may_be group)).own

    -- a plain node stands where the node did, but for streams
    before_last : (plain : NodeValue) → StaysBut (of n) plain m.sender → KeepMachinesLaw k.rules plain → StandsBefore k.rules (StandsFor k.rules) here.ids here.history plain here.olds
    before_last plain same law = record {
      of_machine = before_all.of_machine;
      law = law;
      may_be = λ h. stays_so k.rules (of n) plain m.sender same h (here.olds h) (before_all.may_be h);
      in_world = λ h s among. subst (λ i. StandsInWorld k.rules here.ids h here.history i s) (sym same.own) (before_all.in_world h s among);
    }

    -- it came whole
    whole_cause : (of n).groups.has_failed ≡ false → CameWhole k frame sent.fits m.sender now n old answered new → StopsAtPiece k m.sender n z stop.cause
    whole_cause alive came = (came.x, came.along.stays, passed_cause old new came.x came.y z came.result came.one stop then_up (one_stopped came.one _ (sym came.answer ∙ err)) came.passed when)
      where
        plain : NodeValue
        plain = fed_as (of came.x) (of came.y)

        same : StaysBut (of n) plain m.sender
        same = record {
          own = came.along.stays.own;
          has_failed = came.along.stays.has_failed;
          members = came.along.stays.members;
          well = came.along.stays.well;
          running = came.along.stays.running;
          kept = came.along.stays.kept;
        }

        before : StandsBefore k.rules (StandsFor k.rules) here.ids here.history plain here.olds
        before = before_last plain same (let l = machines_law k begins restores came.x in record { new = l.new; running = l.running })

        going : plain.groups.has_failed ≡ false
        going = came.along.stays.has_failed ∙ alive

        Same : Type 0
        Same = StaysBut (of came.x) (of came.y) m.sender

        when : (c : Cause (KeepingFault k)) (unknown : Vec UnknownTokens Global) → came.result ≡ Err (fault.Stopped c unknown) → IsOwnCause k came.x came.y (cause_of k.cause c)
        when c unknown is = by_party (is_right_party plain.groups.own m.sender frame) refl
          where
            f : IsFrame k.rules (StandsFor k.rules) Same plain (of came.y) m.sender frame now (Err (fault.Stopped c unknown))
            f = subst (IsFrame k.rules (StandsFor k.rules) Same plain (of came.y) m.sender frame now) is came.came.1

            by_party : (b : Bool) → is_right_party plain.groups.own m.sender frame ≡ b → IsOwnCause k came.x came.y (cause_of k.cause c)
            by_party true right =
                let e : IsEvent k.rules (StandsFor k.rules) Same plain (of came.y) group (Receive m.sender m now) (Err (fault.Stopped c unknown)) = record {
                  leads = subst (λ i. Leads k.rules (StandsFor k.rules) plain (of came.y) group (Receive i m now) (Err (fault.Stopped c unknown))) (sym sent.says.0) (f.leads right m sent.says);
                  elsewhere = f.elsewhere;
                  failed = λ failed. absurd (let no : true ≡ false = sym failed ∙ going in cc);
                  unknown = f.unknown right;
                } in
                let comes = messages_come plain.groups.own group number now m here.history here.kind (to ∙ sym (same.own ∙ own_is)) in
                let t = event_stopped k.rules (StandsFor k.rules) Same plain (of came.y) group c unknown here.ids here.history here.olds before
                (Receive m.sender m now) (Deliver group number now) comes e in
                event_cause k short came.x came.y plain group here.ids here.history f.elsewhere.own (used_well k short came.x (shown_parts k.rules plain here.olds t.going before.may_be)) (Receive m.sender m now) c unknown.items
                (subst (λ r. Meets k came.x came.y (fault_met_by_node r)) is came.met) (was_sent (sent_by group here.history) number m here.kind) t
            by_party false wrong = absurd (stop_is_right c unknown (err_is (Err (fault.Stopped c unknown)) _ _ refl (f.wrong wrong).0))

    -- memory was lacking for a piece
    room_cause : (l : LackedRoom k frame sent.fits m.sender now n old answered new) → StopsAtPiece k m.sender n z stop.cause
    room_cause l = (l.x, l.along.stays, inl (memory_stop k.cause l.why stop l.stopped (err_is answered _ _ l.answer err)))

    -- a node that had failed refuses it
    failed_refuses : (of n).groups.has_failed ≡ true → (p : List ℕ) (ps : List (List ℕ)) → Comes (log_node_acts k) m.sender now old (p ∷ ps) answered new → ⊥
    failed_refuses failed p ps (first, next, feeds, goes) = not_refused stop (err_is answered _ _ answer err)
      where
        f : FeedsTo k n m.sender p now old first next
        f = subst (λ u. WhenUp k old next u (first ≡ refused) (λ q. FeedsTo k q m.sender p now old first next)) up feeds

        met : (f.outcomes ≡ []) × (f.met ≡ Some fault.Failed) × (f.mid ≡ n)
        met = f.fed.failed failed

        fed : IsFedOn k old n [] (Some fault.Failed) first next
        fed = subst (λ y. IsFedOn k old y [] (Some fault.Failed) first next) met.2
            (subst (λ w. IsFedOn k old f.mid [] w first next) met.1
            (subst (λ os. IsFedOn k old f.mid os f.met first next) met.0 f.passed))

        answer : answered ≡ Err (error_of k.cause fault.Failed)
        answer = (subst (λ r. GoesOn (log_node_acts k) r next answered new (Comes (log_node_acts k) m.sender now next ps answered new)) fed.0 goes).0

    pub delivered_cause : (cuts : List ℕ) → are_cuts 0 (length (spelled_frame frame)) cuts ≡ true → Comes (log_node_acts k) m.sender now old (pieces_from (spelled_frame frame) 0 cuts) answered new
        → StopsAtPiece k m.sender n z stop.cause
    delivered_cause cuts cut_so comes = by_failed (of n).groups.has_failed refl (is_up_in k begins restores old n up group (here.olds group) (here.behind.may_be group)).streams
      where
        failed_so : (cs : List ℕ) → (of n).groups.has_failed ≡ true → Comes (log_node_acts k) m.sender now old (pieces_from (spelled_frame frame) 0 cs) answered new → ⊥
        failed_so [] failed c = failed_refuses failed (piece (spelled_frame frame) 0 (length (spelled_frame frame))) [] c
        failed_so (cut ∷ cs) failed c = failed_refuses failed (piece (spelled_frame frame) 0 cut) (pieces_from (spelled_frame frame) cut cs) c

        by_failed : (b : Bool) → (of n).groups.has_failed ≡ b → ((of n).groups.has_failed ≡ false → (peer : ℕ) → (of n).streams peer ≡ fresh) → StopsAtPiece k m.sender n z stop.cause
        by_failed true failed streams = absurd (failed_so cuts failed comes)
        by_failed false going streams =
            ⊎_elim (whole_cause going) room_cause
            (pieces_come k frame sent.fits m.sender now n going old cuts old n 0
            (record {
              id = refl;
              up = up;
              along = record { stays = stays_but (of n) m.sender; holds = streams going m.sender; others = λ other far. refl };
              inside = spelled_some frame;
            }) cut_so answered new comes)
