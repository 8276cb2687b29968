-- What an event left at its member, as what became of it at its node.
use Rattle.std.specs.Prelude.{◌≡◌, ℕ, Bool, true, false, [], ◌∷◌, Option, Some, None, is_some, unwrap_or, Result, Ok, Err, IfOk, IfErr, OnErr, refl}
use Rattle.std.proofs.Common.{sym, ap, ◌∙◌, subst}
use Rattle.raft_conditions.specs.Reason.{reason_of}
use Rattle.raft_group_step.specs.StoredGroup.{StoredGroup, held}
use Rattle.raft_group_step.specs.GroupState.{GroupState, Role, Follower, Candidate, Leader, is_leader, state_of}
use Rattle.raft_group_step.specs.GroupEvent.{GroupEvent, Open}
use Rattle.raft_group_step.specs.GroupStep.{group_step}
use Rattle.raft_group_step.specs.Refusal.{refusal_of}
use Rattle.raft_group_step.proofs.Refusals.{refused_keeps}
use Rattle.raft_group_step.specs.StepResult.{RefusalReason}
use Rattle.raft_laws.specs.GroupWorld.{NodeState, Absent, Up, Down, Led, Outcome, Done, Refused, Stopped, is_stop}
use Rattle.raft_laws.specs.GroupRun.{led_as, led_by, stop_at}
use Rattle.raft_laws.specs.NodeEvent.{Comes, Restarts, after_step, outcome_at, outcome_of_end, outcome_of_step, outcome_of_stop}
use Rattle.raft_laws.specs.Stop.{stopped_after, unknown_at_stop}
use Rattle.raft_laws.proofs.StepMoments.{refusals_told}
use Rattle.std.specs.declared.alloc.AllocError.{AllocError}
use Rattle.raft_world.specs.Ending.{BreaksAt, ComesTo, IsEndOf, down_of}
use Rattle.raft_member.specs.Member.{IsLawful}
use Rattle.raft_executor.proofs.PlainLemmas.{is_shown}
use Rattle.raft_world.specs.Member.{Broken, Ended, HasBrokenOff, HasEnded, HasStopped, IsAt, IsDown, IsUp}
use Rattle.raft_member.specs.Opening.{IsOpenable}
use Rattle.raft_world.specs.declared.member.Member.{Member}
use Rattle.raft_member.specs.declared.member.Ended.TheVariants as end_of
use Rattle.raft_member.specs.declared.member.Broken.TheVariants as broken

-- what a step says of its end
pub told_as : (own : ℕ) (s : GroupState) (e : GroupEvent) (why : Option RefusalReason) → refusal_of own s e ≡ why
    → outcome_of_end (group_step own s e) (group_step own s e).refused ≡ outcome_of_end (group_step own s e) why
told_as own s e why h = ap (outcome_of_end (group_step own s e)) (refusals_told own s e ∙ h)

-- and of its stop
pub stopped_as : (own : ℕ) (s : GroupState) (e : GroupEvent) (why : Option RefusalReason) → refusal_of own s e ≡ why
    → outcome_of_step true s e (group_step own s e) ≡ outcome_of_stop s e (group_step own s e) why
stopped_as own s e why h = ap (outcome_of_stop s e (group_step own s e)) (refusals_told own s e ∙ h)

-- ---- an event that was taken

some_none : {P : Type 0} (k : ℕ) → Some k ≡ None → P
some_none k e = absurd (let no : Some k ≡ None = e in cc)

module _ (own : ℕ) (s : GroupState) (e : GroupEvent) (m : Member) where
  abbrev EndsAsStep : Option ℕ → Ended → Type 0
  EndsAsStep stop end =
      IsEndOf end (outcome_of_step (is_some stop) s e (group_step own s e))
      × IsAt m (after_step (stop_at (is_stop (outcome_of_step (is_some stop) s e (group_step own s e))) (unwrap_or stop 0)) s (group_step own s e))

  ends_as_step : (stop : Option ℕ) (end : Ended) → HasEnded own s e stop m end → EndsAsStep stop end
  ends_as_step None (end_of.Done sent) h =
      let r = group_step own s e in
      let told : outcome_of_end r r.refused ≡ Done r.messages r.told r.unknown = told_as own s e None h.1 in (
        (r.told, r.unknown, told ∙ ap (λ l. Done l r.told r.unknown) (sym h.2)),
        subst (λ (o : Outcome). IsAt m (after_step (stop_at (is_stop o) 0) s r)) (sym told) h.3,
      )
  ends_as_step (Some k) (end_of.Done sent) h = some_none k h.0
  ends_as_step None (end_of.Refused why) h =
      let r = group_step own s e in
      let told : outcome_of_end r r.refused ≡ Refused (reason_of why) = told_as own s e (Some (reason_of why)) h.0 in (
        told,
        subst (λ (o : Outcome). IsAt m (after_step (stop_at (is_stop o) 0) s r)) (sym told)
            (subst (IsUp m) (sym (refused_keeps own s e (reason_of why) h.0)) h.1),
      )
  ends_as_step (Some k) (end_of.Refused why) h =
      let r = group_step own s e in
      let told : outcome_of_step true s e r ≡ Refused (reason_of why) = stopped_as own s e (Some (reason_of why)) h.0 in (
        told,
        subst (λ (o : Outcome). IsAt m (after_step (stop_at (is_stop o) k) s r)) (sym told)
            (subst (IsUp m) (sym (refused_keeps own s e (reason_of why) h.0)) h.1),
      )
  ends_as_step None end_of.Stopped h = some_none h.1.0 (sym h.1.1)
  ends_as_step (Some k) end_of.Stopped h =
      let r = group_step own s e in
      let told : outcome_of_step true s e r ≡ Stopped (unknown_at_stop s e r) = stopped_as own s e None h.0 in
      let same : h.1.0 ≡ k = (let e : Some k ≡ Some h.1.0 = h.1.1 in cc) in (
        (unknown_at_stop s e r, told),
        subst (λ (o : Outcome). IsAt m (after_step (stop_at (is_stop o) k) s r)) (sym told)
            (subst (λ j. IsDown m (stopped_after j s.stored r)) same h.1.2),
      )
  ends_as_step stop end_of.Skipped h = absurd h

-- a call or a message came to the member, which was in this state
pub comes : {E : Type 0} (n : ℕ) (e : GroupEvent) (stop : Option ℕ) (state : NodeState) (m new : Member) (r : Result Ended E) → m.replica.id ≡ n → IsAt m state → ((s : GroupState) → state ≡ Up s → IsLawful n s)
    → ((s : GroupState) → IsUp m s → IsLawful m.replica.id s → IfOk r (HasEnded m.replica.id s e stop new))
    → ((s : GroupState) → IsUp m s → IsLawful m.replica.id s → OnErr r (HasStopped m.replica.id s e new))
    → ((st : StoredGroup) → IsDown m st → (r ≡ Ok end_of.Skipped) × IsDown new st) → ComesTo n (Comes e) stop state new r
comes n e stop Absent m new r same at lawful ok err down = absurd at
comes n e stop (Up s) m new (Ok end) same at lawful ok err down =
    let has : HasEnded n s e stop new end =
    subst (λ i. HasEnded i s e stop new end) same (ok s at (subst (λ i. IsLawful i s) (sym same) (lawful s refl)))
    in
    let step = ends_as_step n s e new stop end has in
    record { outcome = step.0; after = step.1 }
comes n e stop (Up s) m new (Err met) same at lawful ok err down =
    let has : HasStopped n s e new =
    subst (λ i. HasStopped i s e new) same (err s at (subst (λ i. IsLawful i s) (sym same) (lawful s refl)))
    in
    record { number = has.number; unknown = unknown_at_stop s e (group_step n s e); outcome = stopped_as n s e None has.taken; after = has.down }
comes n e stop (Down st) m new (Ok end) same at lawful ok err down =
    let is : end_of.Skipped ≡ end = (let e : Ok end ≡ Ok end_of.Skipped = (down st at).0 in cc) in
    record { outcome = subst (λ (x : Ended). IsEndOf x (outcome_at n (Comes e) (is_some stop) (Down st))) is refl; after = (down st at).1 }
comes n e stop (Down st) m new (Err met) same at lawful ok err down = absurd (let no : Err met ≡ Ok end_of.Skipped = (down st at).0 in cc)

-- ---- a call that met want of memory

pub ended_as : {E : Type 0} (a b : Ended) → ◌≡◌ {A = Result Ended E} (Ok a) (Ok b) → a ≡ b
ended_as {E} a b e = let f : ◌≡◌ {A = Result Ended E} (Ok a) (Ok b) = e in cc

-- before it was judged: the member is down as it was
pub unjudged : (n : ℕ) (e : GroupEvent) (state : NodeState) (m new : Member) (met : AllocError) → m.replica.id ≡ n → IsAt m state → ((s : GroupState) → state ≡ Up s → IsLawful n s)
    → ((s : GroupState) → IsUp m s → IsLawful m.replica.id s → (let r : Result Ended Broken = Err (broken.Unjudged met) in IfErr r (HasBrokenOff m.replica.id s e new)))
    → ((st : StoredGroup) → IsDown m st → (◌≡◌ {A = Result Ended Broken} (Err (broken.Unjudged met)) (Ok end_of.Skipped)) × IsDown new st) → IsAt new (down_of state)
unjudged n e Absent m new met same at lawful err down = absurd at
unjudged n e (Up s) m new met same at lawful err down = err s at (subst (λ i. IsLawful i s) (sym same) (lawful s refl))
unjudged n e (Down st) m new met same at lawful err down = (down st at).1

-- once it was begun
pub begun : (n : ℕ) (e : GroupEvent) (stop : Option ℕ) (state : NodeState) (m new : Member) (met : AllocError) → m.replica.id ≡ n → IsAt m state → ((s : GroupState) → state ≡ Up s → IsLawful n s)
    → ((s : GroupState) → IsUp m s → IsLawful m.replica.id s → (let r : Result Ended Broken = Err (broken.Begun met) in IfErr r (HasBrokenOff m.replica.id s e new)))
    → ((st : StoredGroup) → IsDown m st → (◌≡◌ {A = Result Ended Broken} (Err (broken.Begun met)) (Ok end_of.Skipped)) × IsDown new st) → BreaksAt n (Comes e) state new
begun n e stop state m new met same at lawful err down =
    comes n e stop state m new (Err met) same at lawful (λ s up law. tt) err
    (λ st is. absurd (let no : ◌≡◌ {A = Result Ended Broken} (Err (broken.Begun met)) (Ok end_of.Skipped) = (down st is).0 in cc))

-- the member was opened
pub opens : {E : Type 0} (n : ℕ) (stop : Option ℕ) (state : NodeState) (m new : Member) (r : Result Ended E) → m.replica.id ≡ n → IsAt m state → ((st : StoredGroup) → state ≡ Down st → IsOpenable n st)
    → ((st : StoredGroup) → IsDown m st → IsOpenable m.replica.id st → IfOk r (HasEnded m.replica.id (state_of st) Open stop new))
    → ((st : StoredGroup) → IsDown m st → IsOpenable m.replica.id st → OnErr r (HasStopped m.replica.id (state_of st) Open new))
    → ((s : GroupState) → IsUp m s → (r ≡ Ok end_of.Skipped) × IsUp new s) → ComesTo n Restarts stop state new r
opens n stop Absent m new r same at openable ok err up = absurd at
opens n stop (Down st) m new (Ok end) same at openable ok err up =
    let has : HasEnded n (state_of st) Open stop new end =
    subst (λ i. HasEnded i (state_of st) Open stop new end) same (ok st at (subst (λ i. IsOpenable i st) (sym same) (openable st refl)))
    in
    let step = ends_as_step n (state_of st) Open new stop end has in
    record { outcome = step.0; after = step.1 }
opens n stop (Down st) m new (Err met) same at openable ok err up =
    let has : HasStopped n (state_of st) Open new =
    subst (λ i. HasStopped i (state_of st) Open new) same (err st at (subst (λ i. IsOpenable i st) (sym same) (openable st refl)))
    in
    record { number = has.number; unknown = unknown_at_stop (state_of st) Open (group_step n (state_of st) Open); outcome = stopped_as n (state_of st) Open None has.taken; after = has.down }
opens n stop (Up s) m new (Ok end) same at openable ok err up =
    let is : end_of.Skipped ≡ end = (let e : Ok end ≡ Ok end_of.Skipped = (up s at).0 in cc) in
    record { outcome = subst (λ (x : Ended). IsEndOf x (outcome_at n Restarts (is_some stop) (Up s))) is refl; after = (up s at).1 }
opens n stop (Up s) m new (Err met) same at openable ok err up = absurd (let no : Err met ≡ Ok end_of.Skipped = (up s at).0 in cc)

-- ---- a member that goes down

pub crashes : (m new : Member) (state : NodeState) → IsAt m state → ((s : GroupState) → IsUp m s → IsDown new s.stored) → ((st : StoredGroup) → IsDown m st → IsDown new st) → IsAt new (down_of state)
crashes m new Absent at up down = absurd at
crashes m new (Up s) at up down = up s at
crashes m new (Down st) at up down = down st at

-- ---- a member that leads

leads_as : (n : ℕ) (s : GroupState) (role : Role) → is_leader role ≡ false → led_as n s role ≡ []
leads_as n s Follower h = refl
leads_as n s (Candidate granters) h = refl
leads_as n s (Leader lead) h = absurd (let no : true ≡ false = h in cc)

leads_so : (n : ℕ) (s : GroupState) (role : Role) → is_leader role ≡ true → led_as n s role ≡ record { node = n; vote = s.stored.vote; list = held s.stored } ∷ []
leads_so n s Follower h = absurd (let no : false ≡ true = h in cc)
leads_so n s (Candidate granters) h = absurd (let no : false ≡ true = h in cc)
leads_so n s (Leader lead) h = refl

pub no_lead : (n : ℕ) (m : Member) (state : NodeState) (b : Bool) → IsAt m state → ((s : GroupState) → IsUp m s → b ≡ is_leader s.role) → b ≡ false → led_by n state ≡ []
no_lead n m Absent b at up is = refl
no_lead n m (Up s) b at up is = leads_as n s s.role (sym (up s at) ∙ is)
no_lead n m (Down st) b at up is = refl

abbrev note_of : ℕ → StoredGroup → Led
note_of n st = record { node = n; vote = st.vote; list = held st }

pub lead_noted : (n : ℕ) (m : Member) (state : NodeState) (b : Bool) → IsAt m state → m.replica.id ≡ n → ((s : GroupState) → IsUp m s → b ≡ is_leader s.role) → ((st : StoredGroup) → IsDown m st → b ≡ false) → b ≡ true
    → record { node = m.replica.id; vote = m.stored.vote; list = held m.stored } ∷ [] ≡ led_by n state
lead_noted n m Absent b at same up down is = absurd at
lead_noted n m (Up s) b at same up down is =
    ap (λ (st : StoredGroup). note_of m.replica.id st ∷ []) (is_shown m.stored s.stored at.stored)
    ∙ ap (λ i. note_of i s.stored ∷ []) same
    ∙ sym (leads_so n s s.role (sym (up s at) ∙ is))
lead_noted n m (Down st) b at same up down is = absurd (let no : false ≡ true = sym (down st at) ∙ is in cc)
