-- A step as it goes on, and the events of the ballot machine that follow it: wherever it stops, what is stored stands
-- for the machine's node after some of them.
use Rattle.std.specs.Prelude.{◌≡◌, ◌⊎◌, ℕ, zero, suc, ◌<◌, List, [], ◌∷◌, ◌++◌, length, take, slice_get, Some, refl}
use Rattle.std.proofs.Common.{inl, inr, sym, ap, ◌∙◌, subst, ⊎_elim}
use Rattle.raft_group_step.specs.Values.{Membership}
use Rattle.raft_group_step.specs.StoredGroup.{StoredGroup, StoringCommand, after_storing, after_storing_all}
use Rattle.raft_group_step.specs.Message.{Message, MessageBody}
use Rattle.raft_group_step.specs.GroupState.{GroupState}
use Rattle.raft_group_step.specs.StepResult.{StepResult, store, send, with_stored}
use Rattle.raft_laws.specs.BallotWorld.{BallotNode, BallotWorld, BallotEvent, ballot_start, ballot_step, ballot_run}
use Rattle.raft_laws.specs.BallotOrigin.{actor}
use Rattle.raft_laws.specs.BallotRanks.{ballot_group}
use Rattle.raft_laws.proofs.BallotSafe.{Among, Safe}
use Rattle.raft_laws.proofs.BallotRuns.{run_next, start_safe}
use Rattle.raft_laws.proofs.BallotSettling.{run_append}
use Rattle.raft_laws.proofs.BallotOthers.{Extends, happens_extends, AllBy}
use Rattle.raft_laws.proofs.Standing.{StoredFits, DownFits, UpFits, LeadKept, MessageFits, up_down, message_on}
use Rattle.raft_laws.proofs.StepWords.{all-append}
use Rattle.raft_laws.proofs.Shapes.{Joined}
use Rattle.raft_group_step.specs.SnapshotRequest.{place_above}

pub among_last : {A : Type 0} (x y : A) (xs : List A) → Among x (xs ++ y ∷ []) → Among x xs ⊎ (x ≡ y)
among_last x y [] h = ⊎_elim (λ e. inr e) (λ a. absurd a) h
among_last x y (z ∷ xs) h = ⊎_elim (λ e. inl (inl e)) (λ a. ⊎_elim (λ b. inl (inr b)) (λ e. inr e) (among_last x y xs a)) h

pub index_of : {A : Type 0} (x : A) (xs : List A) → Among x xs → (k : ℕ) × (slice_get xs k ≡ Some x)
index_of x [] h = absurd h
index_of x (y ∷ ys) h = ⊎_elim (λ e. (0, ap Some (sym e))) (λ t. let r = index_of x ys t in (suc r.0, r.1)) h

take_last : {A : Type 0} (k : ℕ) (xs : List A) (y : A) → (take k (xs ++ y ∷ []) ≡ take k xs) ⊎ (take k (xs ++ y ∷ []) ≡ xs ++ y ∷ [])
take_last zero xs y = inl refl
take_last (suc zero) [] y = inr refl
take_last (suc (suc k)) [] y = inr refl
take_last (suc k) (x ∷ xs) y = ⊎_elim (λ e. inl (ap (λ l. x ∷ l) e)) (λ e. inr (ap (λ l. x ∷ l) e)) (take_last k xs y)

all_by : (n : ℕ) (es : List BallotEvent) (e : BallotEvent) → AllBy n es → actor e ≡ n → AllBy n (es ++ e ∷ [])
all_by n [] e h k = (k, tt)
all_by n (f ∷ es) e h k = (h.0, all_by n es e h.1 k)

-- the same stored part and places
pub up_same : {m : Membership} {x : BallotNode} (s s' : GroupState) → s'.stored ≡ s.stored → s'.committed ≡ s.committed → s'.applied ≡ s.applied → UpFits m x s → UpFits m x s'
up_same {m} {x} s s' e f g u =
    record {
      list = u.list;
      fits = subst (λ st. StoredFits m x st u.list) (sym e) u.fits;
      joined = subst (λ st. Joined st u.list) (sym e) u.joined;
      commit = u.commit ∙ ap place_above (sym f);
      applied = g ∙ u.applied ∙ sym f;
    }

pub step_extends : (m : Membership) (own : ℕ) (w : BallotWorld) (e : BallotEvent) → actor e ≡ own → (w' : BallotWorld) → ballot_step (ballot_group m) w e ≡ w' → Extends own w w'
step_extends m own w e by w' is =
    subst (Extends own w) is
    (subst (λ n. Extends n w (ballot_step (ballot_group m) w e)) by (happens_extends (ballot_group m) w e))

pub stored_next : (base : StoredGroup) (r : StepResult) (c : StoringCommand) → r.state.stored ≡ after_storing_all r.commands base → after_storing c r.state.stored ≡ after_storing_all (r.commands ++ c ∷ []) base
stored_next base r c stored = ap (after_storing c) stored ∙ sym (all-append r.commands c base)

module _ (m : Membership) (some : 0 < length m.configs) (own : ℕ) (before : List BallotEvent) (base : StoredGroup) where
  -- the ballot machine may be so, after events of this node
  pub record Reached (w : BallotWorld) : Type 0 where
    pub events : List BallotEvent
    pub by : AllBy own events
    pub is : ballot_run (ballot_group m) events (ballot_run (ballot_group m) before (ballot_start (ballot_group m))) ≡ w

  -- a stop with this stored
  pub record MayStop (st : StoredGroup) : Type 0 where
    pub world : BallotWorld
    pub reached : Reached world
    pub fits : DownFits m (world.node own) st
    pub lead : LeadKept own st

  pub record Tracks (w : BallotWorld) (r : StepResult) : Type 0 where
    pub reached : Reached w
    pub stops : (k : ℕ) → MayStop (after_storing_all (take k r.commands) base)
    pub stored : r.state.stored ≡ after_storing_all r.commands base
    pub up : UpFits m (w.node own) r.state
    pub lead : LeadKept own r.state.stored
    pub messages : (x : Message) → Among x r.messages → MessageFits m w x

module _ {m : Membership} {some : 0 < length m.configs} {own : ℕ} {before : List BallotEvent} {base : StoredGroup} where
  pub whole_run : {w : BallotWorld} (r : Reached m some own before base w) → w ≡ ballot_run (ballot_group m) (before ++ r.events) (ballot_start (ballot_group m))
  whole_run r = sym r.is ∙ sym (run_append (ballot_group m) some before r.events (ballot_start (ballot_group m)))

  pub reached_safe : {w : BallotWorld} → Reached m some own before base w → Safe (ballot_group m) w
  reached_safe r =
      subst (Safe (ballot_group m)) (sym (whole_run r))
      (run_next (ballot_group m) some (ballot_start (ballot_group m)) (before ++ r.events) (start_safe (ballot_group m))).safe

  pub reached_next : {w : BallotWorld} (e : BallotEvent) → actor e ≡ own → (w' : BallotWorld) → ballot_step (ballot_group m) w e ≡ w' → Reached m some own before base w → Reached m some own before base w'
  reached_next {w} e by w' is r =
      record {
        events = r.events ++ e ∷ [];
        by = all_by own r.events e r.by by;
        is =
            run_append (ballot_group m) some r.events (e ∷ []) (ballot_run (ballot_group m) before (ballot_start (ballot_group m)))
            ∙ ap (λ v. ballot_step (ballot_group m) v e) r.is
            ∙ is;
      }

  -- one more command, at which the node may stop
  pub stops_store : (r : StepResult) (c : StoringCommand) → r.state.stored ≡ after_storing_all r.commands base → ((k : ℕ) → MayStop m some own before base (after_storing_all (take k r.commands) base)) → MayStop m some own before base (after_storing c r.state.stored) → (k : ℕ) → MayStop m some own before base (after_storing_all (take k (r.commands ++ c ∷ [])) base)
  stops_store r c stored stops last k =
      ⊎_elim
      (λ e. subst (λ cs. MayStop m some own before base (after_storing_all cs base)) (sym e) (stops k))
      (λ e.
      subst (MayStop m some own before base)
      (ap (after_storing c) stored ∙ sym (all-append r.commands c base) ∙ ap (λ cs. after_storing_all cs base) (sym e))
      last)
      (take_last k r.commands c)

  -- nothing is stored; the machine may have gone on
  pub track_on : {w w' : BallotWorld} {r : StepResult} (r' : StepResult) → Tracks m some own before base w r → r'.commands ≡ r.commands → r'.state.stored ≡ r.state.stored → Reached m some own before base w' → UpFits m (w'.node own) r'.state → ((x : Message) → Among x r'.messages → MessageFits m w' x) → Tracks m some own before base w' r'
  track_on r' t e f reached up messages =
      record {
        reached = reached;
        stops = λ k. subst (λ cs. MayStop m some own before base (after_storing_all (take k cs) base)) (sym e) (t.stops k);
        stored = f ∙ t.stored ∙ ap (λ cs. after_storing_all cs base) (sym e);
        up = up;
        lead = subst (LeadKept own) (sym f) t.lead;
        messages = messages;
      }

  -- neither stored nor sent
  pub track_same : {w : BallotWorld} {r : StepResult} (r' : StepResult) → Tracks m some own before base w r → r'.commands ≡ r.commands → r'.messages ≡ r.messages → r'.state.stored ≡ r.state.stored → r'.state.committed ≡ r.state.committed → r'.state.applied ≡ r.state.applied → Tracks m some own before base w r'
  track_same {w} {r} r' t e f g h i =
      track_on r' t e g t.reached (up_same r.state r'.state g h i t.up)
      (λ x a. t.messages x (subst (Among x) f a))

  -- a command is stored, and the machine goes on
  pub track_store : {w w' : BallotWorld} {r : StepResult} (c : StoringCommand) → Tracks m some own before base w r → Reached m some own before base w' → UpFits m (w'.node own) (with_stored r.state (after_storing c r.state.stored)) → ((x : Message) → Among x r.messages → MessageFits m w' x) → LeadKept own (after_storing c r.state.stored) → Tracks m some own before base w' (store c r)
  track_store {w} {w'} {r} c t reached up messages lead =
      record {
        reached = reached;
        stops = stops_store r c t.stored t.stops (record { world = w'; reached = reached; fits = up_down up; lead = lead });
        stored = stored_next base r c t.stored;
        up = up;
        lead = lead;
        messages = messages;
      }

  -- the same by one event
  pub track_event : {w : BallotWorld} {r : StepResult} (c : StoringCommand) → Tracks m some own before base w r → (e : BallotEvent) → actor e ≡ own → (w' : BallotWorld) → ballot_step (ballot_group m) w e ≡ w' → UpFits m (w'.node own) (with_stored r.state (after_storing c r.state.stored)) → LeadKept own (after_storing c r.state.stored) → Tracks m some own before base w' (store c r)
  track_event {w} {r} c t e by w' is up lead =
      track_store c t (reached_next e by w' is t.reached) up
      (λ x a. message_on (step_extends m own w e by w' is) m x (t.messages x a))
      lead

  -- a message is sent that fits
  pub track_send : {w : BallotWorld} {r : StepResult} (peer : ℕ) (body : MessageBody) → Tracks m some own before base w r → MessageFits m w (record { sender = own; addressee = peer; body = body }) → Tracks m some own before base w (send own peer body r)
  track_send {w} {r} peer body t fits =
      track_on (send own peer body r) t refl refl t.reached (up_same r.state (send own peer body r).state refl refl refl t.up)
      (λ x a. ⊎_elim (λ b. t.messages x b) (λ e. subst (MessageFits m w) (sym e) fits) (among_last x _ r.messages a))
