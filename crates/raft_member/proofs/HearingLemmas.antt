-- What a leader hears by a message, at the end of its event.
use Rattle.std.specs.Prelude.{◌≡◌, ℕ, IfOk, Option, Some, Result, Ok, Err}
use Rattle.std.proofs.Common.{ap, refl, sym, subst, ◌∙◌}
use Rattle.raft_leaders.specs.Leader.{LeaderValue}
use Rattle.raft_engine.specs.Standing.{EffectiveMembership}
use Rattle.raft_messages.specs.declared.message.Message.{Message}
use Rattle.raft_member.specs.Hearing.{HasHeard, HearsBy, IsOver}
use Rattle.raft_member.specs.Member.{Engine}
use Rattle.raft_member.specs.Running.{left_by}
use Rattle.raft_member.specs.declared.member.Ended.{Ended}
use Rattle.raft_member.specs.declared.member.Ended.TheVariants as ended
use Rattle.raft_member.specs.declared.member.Member.{Member}

abbrev pub LeaderOf : Type 0
LeaderOf = LeaderValue ℕ EffectiveMembership

-- an engine that goes back leaves the member's id
pub left_id : {X : Type 0} (end : Ended X) (engine : Engine) (before : Member) → (left_by end engine before).id ≡ before.id
left_id (ended.Done messages) engine before = refl
left_id (ended.Refused why) engine before = refl
left_id ended.Stopped engine before = refl
left_id ended.Skipped engine before = refl

module _ {X : Type 0} (m : Message X) (sent : Option ℕ) where
  -- an event that is over has heard
  over_heard : (old new : Option LeaderOf) (end : Ended X) → IsOver end → HearsBy m sent old new → HasHeard m sent old new end
  over_heard old new (ended.Done messages) over h = h
  over_heard old new (ended.Refused why) over h = absurd over
  over_heard old new ended.Stopped over h = tt
  over_heard old new ended.Skipped over h = tt

  pub all_heard : {F : Type 0} (old new : Option LeaderOf) (r : Result (Ended X) F) → IfOk r IsOver → HearsBy m sent old new → IfOk r (HasHeard m sent old new)
  all_heard old new (Ok end) over h = over_heard old new end over h
  all_heard old new (Err met) over h = tt

  same_engine : (a b : Engine) → Some a ≡ Some b → a ≡ b
  same_engine a b e = cc

  -- the engine that heard is put back
  pub put_back_heard : (old : Option LeaderOf) (engine e' : Engine) (end : Ended X) (before after : Member) → after ≡ left_by end engine before → after.engine ≡ Some e'
      → HasHeard m sent old engine.leader end → HasHeard m sent old e'.leader end
  put_back_heard old engine e' (ended.Done messages) before after left is h =
      let same = same_engine engine e' (sym (ap (λ (x : Member). x.engine) left) ∙ is) in
      subst (λ (y : Engine). HearsBy m sent old y.leader) same h
  put_back_heard old engine e' (ended.Refused why) before after left is h =
      let same = same_engine engine e' (sym (ap (λ (x : Member). x.engine) left) ∙ is) in
      subst (λ (y : Engine). y.leader ≡ old) same h
  put_back_heard old engine e' ended.Stopped before after left is h = tt
  put_back_heard old engine e' ended.Skipped before after left is h = tt
