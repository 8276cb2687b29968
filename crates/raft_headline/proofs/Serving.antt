-- A leader's peers are served in its events.
use Rattle.std.specs.Prelude.{◌≡◌, ℕ, Bool, true, false, List, Option, refl}
use Rattle.std.proofs.Common.{sym, subst, inl, inr, ⊎_elim}
use Rattle.raft_group_step.specs.Message.{Message}
use Rattle.raft_group_step.specs.GroupState.{Untold}
use Rattle.raft_laws.specs.GroupWorld.{Outcome, Skipped}
use Rattle.raft_laws.specs.GroupWorld.{Done as Ended, Refused as Declined, Stopped as Broken}
use Rattle.raft_laws.specs.OneList.{AreNodeIds}
use Rattle.raft_step_laws.specs.Serving.{IsSent}
use Rattle.raft_history_laws.proofs.ServedNodes.{lacking_are_sent}
use Rattle.raft_machines.specs.Machine.{MachineRules}
use Rattle.raft_headline.specs.ClusterEvent.{ClusterOutcome, Done, Opened, Refused, Stopped, Fused, PassedOver, TurnedAway, Recorded}
use Rattle.raft_headline.specs.Machines.{Replicas}
use Rattle.raft_headline.specs.Replaying.{Says, is_opening}
use Rattle.raft_headline.specs.Serves.{PeersAreSent, is_ended}
use Rattle.raft_headline.specs.Told.{said_in}
use Rattle.raft_headline.proofs.Happening.{own_record, own_run, own_step, past, past_is, what}

-- an outcome that ran to its end says what the group's event sent
record EndsWith (h : ℕ) (o : ClusterOutcome) (what : Outcome) : Type 0 where
  sent : List Message
  told : List Untold
  unknown : List ℕ
  is : what ≡ Ended sent told unknown
  said : (said_in h o).sent ≡ sent

ends_with : (h : ℕ) (opening : Bool) (answers : ℕ → Option (List ℕ)) (o : ClusterOutcome) → is_ended o ≡ true → (what : Outcome) → Says h opening answers o what → EndsWith h o what
ends_with h false answers (Done said) ends (Ended sent told unknown) s = record { sent = sent; told = told; unknown = unknown; is = refl; said = s.sent }
ends_with h true answers (Opened parts) ends (Ended sent told unknown) s = record { sent = sent; told = told; unknown = unknown; is = refl; said = s.sent }
ends_with h true answers (Done said) ends (Ended sent told unknown) s = absurd s
ends_with h false answers (Opened parts) ends (Ended sent told unknown) s = absurd s
ends_with h opening answers (Done said) ends (Declined why) s = absurd (let f : Done said ≡ Refused why = s in cc)
ends_with h opening answers (Done said) ends (Broken unknown) s = absurd s
ends_with h opening answers (Done said) ends Skipped s = absurd (let f : Done said ≡ PassedOver = s in cc)
ends_with h opening answers (Opened parts) ends (Declined why) s = absurd (let f : Opened parts ≡ Refused why = s in cc)
ends_with h opening answers (Opened parts) ends (Broken unknown) s = absurd s
ends_with h opening answers (Opened parts) ends Skipped s = absurd (let f : Opened parts ≡ PassedOver = s in cc)
ends_with h opening answers (Refused why) ends what s = absurd (let f : false ≡ true = ends in cc)
ends_with h opening answers (Stopped unknown) ends what s = absurd (let f : false ≡ true = ends in cc)
ends_with h opening answers Fused ends what s = absurd (let f : false ≡ true = ends in cc)
ends_with h opening answers PassedOver ends what s = absurd (let f : false ≡ true = ends in cc)
ends_with h opening answers TurnedAway ends what s = absurd (let f : false ≡ true = ends in cc)

pub peers_are_sent : (rules : MachineRules) (ids : List ℕ) → AreNodeIds ids → (h : ℕ) (history : List Recorded) (end : Replicas) → PeersAreSent rules ids h history end
peers_are_sent rules ids fit h history end r old new it event n e seen here ends s up peer lacks =
    let step = own_step rules ids fit h history end r old new it event seen in
    let o : EndsWith h r.outcome (what rules ids fit h history end r old new it event seen) = ends_with h (is_opening event) step.answers r.outcome ends (what rules ids fit h history end r old new it event seen) step.says in
    let law =
    lacking_are_sent ids (past rules ids fit h history end r old new it) (own_record rules ids fit h history end r old new it event seen) old.world new.world
    (past_is rules ids fit h history end r old new it) (own_run rules ids fit h history end r old new it event seen)
    n e here o.sent o.told o.unknown o.is s up peer lacks
    in
    record {
      request = law.0;
      outstanding = law.1;
      since = ⊎_elim (λ before. inl before) (λ now. inr (subst (λ ms. IsSent ms peer (law.0).id) (sym o.said) now)) law.2;
    }
