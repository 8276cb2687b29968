-- What is told of an event holds of the member that it left.
use Rattle.std.specs.Prelude.{◌≡◌, ℕ, IfErr, IfOk, List, Option, Some, Result, Ok, Err}
use Rattle.std.proofs.Common.{refl, sym, subst}
use Rattle.raft_group_step.specs.StoredGroup.{Snapshot, StoredGroup}
use Rattle.raft_group_step.specs.GroupState.{GroupState}
use Rattle.raft_group_step.specs.GroupEvent.{GroupEvent}
use Rattle.raft_group_step.specs.StepResult.{StepResult}
use Rattle.raft_messages.specs.declared.message.Message.{Message}
use Rattle.raft_member.specs.Hearing.{HasHeard}
use Rattle.raft_member.specs.Member.{Engine, HasEnded}
use Rattle.raft_member.specs.Running.{EndsTo, HasRun, RunsTo, left_at}
use Rattle.raft_member.specs.declared.member.Ended.{Ended}
use Rattle.raft_member.specs.declared.member.Member.{Member}
use Rattle.raft_member.proofs.HearingLemmas.{LeaderOf, left_id, put_back_heard}

module _ {X F : Type 0} (e : Engine) (before after : Member) where
  pub told_id : (r : Result (Ended X) F) → (left_at r e before).id ≡ before.id
  told_id (Ok end) = left_id end e before
  told_id (Err met) = refl

  pub told_fault : (P : Member → F → Type 0) (r : Result (Ended X) F) → after ≡ left_at r e before → IfErr r (P before) → IfErr r (P after)
  told_fault P (Ok end) left h = tt
  told_fault P (Err met) left h = subst (λ (m : Member). P m met) (sym left) h

  pub told_heard : (m : Message X) (sent : Option ℕ) (old : Option LeaderOf) (e' : Engine) (r : Result (Ended X) F) → after ≡ left_at r e before → after.engine ≡ Some e'
      → IfOk r (HasHeard m sent old e.leader) → IfOk r (HasHeard m sent old e'.leader)
  told_heard m sent old e' (Ok end) left is h = put_back_heard m sent old e e' end before after left is h
  told_heard m sent old e' (Err met) left is h = tt

  module _ (stands : X → Snapshot → Type 0) (is_well : Type 0) (shown : List StoredGroup → Type 0) where
    pub told_end : (own : ℕ) (s : GroupState) (event : GroupEvent) (stop : Option ℕ) (r : Result (Ended X) F) → after ≡ left_at r e before
        → EndsTo stands is_well shown own s event stop e before r → IfOk r (HasEnded stands is_well shown own s event stop after)
    told_end own s event stop (Ok end) left h = subst (λ (m : Member). HasEnded stands is_well shown own s event stop m end) (sym left) h
    told_end own s event stop (Err met) left h = tt

    pub told_run : (kept : StoredGroup) (step : StepResult) (stop : Option ℕ) (r : Result (Ended X) F) → after ≡ left_at r e before
        → RunsTo stands is_well shown kept step stop e before r → IfOk r (HasRun stands is_well shown kept step stop after)
    told_run kept step stop (Ok end) left h = subst (λ (m : Member). HasRun stands is_well shown kept step stop m end) (sym left) h
    told_run kept step stop (Err met) left h = tt
