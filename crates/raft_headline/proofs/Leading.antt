-- Leaders under greater votes hold what was told.
use Rattle.std.specs.Prelude.{◌≡◌, ℕ, List, refl}
use Rattle.std.proofs.Common.{sym, subst}
use Rattle.raft_group_step.specs.StoredGroup.{Holds}
use Rattle.raft_laws.specs.OneList.{AreNodeIds, IsLeading}
use Rattle.raft_laws.specs.Settled.{group_list}
use Rattle.raft_history_laws.specs.ToldAnswers.{IsToldUnder}
use Rattle.raft_history_laws.proofs.ToldAnswers.{leaders_hold_told}
use Rattle.raft_machines.specs.Machine.{MachineRules}
use Rattle.raft_headline.specs.ClusterEvent.{Recorded}
use Rattle.raft_headline.specs.Machines.{Replicas}
use Rattle.raft_headline.specs.Replaying.{IsThere, OwnStep}
use Rattle.raft_headline.specs.Leaders.{LeadersHoldAnswers}
use Rattle.raft_headline.proofs.Happening.{future, future_run, number, own_record, own_run, own_step, past, past_is, what}
use Rattle.raft_headline.proofs.Tells.{ToldBy, ToldOf, event_told}

pub leaders_hold_answers : (rules : MachineRules) (ids : List ℕ) → AreNodeIds ids → (h : ℕ) (history : List Recorded) (end : Replicas) → LeadersHoldAnswers rules ids h history end
leaders_hold_answers rules ids fit h history end r old new it t has =
    let by : ToldBy h r t = event_told h t r r.event r.outcome refl refl has in
    let e = by.event in
    let step : OwnStep rules h e r (number rules ids fit h history end r old new it e by.seen) old new = own_step rules ids fit h history end r old new it e by.seen in
    let o : ToldOf step.answers (what rules ids fit h history end r old new it e by.seen) t = by.told step.answers (what rules ids fit h history end r old new it e by.seen) step.says in
    let law =
    leaders_hold_told ids (past rules ids fit h history end r old new it) (future rules ids fit h history end r old new it e by.seen) (own_record rules ids fit h history end r old new it e by.seen) old.world new.world end.world
    (past_is rules ids fit h history end r old new it) (own_run rules ids fit h history end r old new it e by.seen) (future_run rules ids fit h history end r old new it e by.seen)
    o.sent o.tells o.lost o.is o.token o.has
    in
    let under : IsToldUnder old.world e new.world o.token = law.0 in
    let there : under.node ≡ r.node = subst (λ s. IsThere s r.node) under.here step.there in
    let place : (o.token).place ≡ t.place = sym (o.told_as).place in
    record {
      teller = under.state;
      leading = subst (λ n. IsLeading new.world n under.state) there under.leading;
      held = λ n s leading above. subst (Holds s.stored (group_list end.world)) place (law.1 n s leading above);
    }
