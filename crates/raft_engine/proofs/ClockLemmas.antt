-- A leader's clock decides nothing of the state that an engine stands for.
use Rattle.std.specs.Prelude.{◌≡◌, ℕ, Bool, true, false, ◌&&◌, nat_eq, if◌then◌else◌, List, Option, Some, None, IfOk, Result, Ok, Err, unwrap_or, refl}
use Rattle.std.specs.Option.{option_cmp}
use Rattle.std.specs.Ordering.{nat_cmp}
use Rattle.std.proofs.Common.{ap, inl, inr, sym, subst, ◌∙◌}
use Rattle.std.proofs.Math.Bool.{true≢false}
use Rattle.std.proofs.lemmas.Bool.{eqb-true}
use Rattle.raft_values.specs.LogId.{place_of}
use Rattle.raft_progress.specs.Parts.{Parts, value_of}
use Rattle.raft_progress.specs.Values.{rises_above}
use Rattle.raft_group_step.specs.StoredGroup.{StoredGroup}
use Rattle.raft_group_step.specs.GroupState.{GroupState, Role, Follower, Candidate, Leader, Lead}
use Rattle.raft_known_state.specs.KnownState.{Knows}
use Rattle.raft_leaders.specs.Candidate.{CandidateValue}
use Rattle.raft_leaders.specs.Leader.{LeaderValue}
use Rattle.raft_leaders.proofs.PeerLemmas.{somebody_has}
use Rattle.raft_engine.specs.Clock.{HasHeardOfNobody, HearsAfter, HearsOf, IsHeardOf, KeepsHeard, KeepsHeardOrBegins, heard_after, heard_at, is_later_than_heard}
use Rattle.raft_engine.proofs.MemberLemmas.{all_alike, all_with}
use Rattle.raft_group_step.specs.StoredGroup.{Snapshot}
use Rattle.raft_group_step.specs.GroupEvent.{GroupEvent}
use Rattle.raft_group_step.specs.GroupStep.{begun}
use Rattle.raft_engine.specs.Events.{MayTake}
use Rattle.raft_engine.specs.Standing.{EffectiveMembership, Engine, IsStateOf, IsStepOf, Leads, PlaysRole, given}

-- a leader with another clock leads as before
leads_with : (own : ℕ) (l : LeaderValue ℕ EffectiveMembership) (clock : Parts ℕ (Option ℕ) (Option ℕ) EffectiveMembership) (s : StoredGroup) (lead : Lead) → Leads own l s lead
    → Leads own (record l { clock_progress = clock }) s lead
leads_with own l clock s lead h =
    record {
      vote = h.vote;
      is_own = h.is_own;
      committed = h.committed;
      last = h.last;
      began = h.began;
      first = h.first;
      wrote = h.wrote;
      peers = h.peers;
      rising = h.rising;
      members = h.members;
    }

plays_hearing : (own n time : ℕ) (l l' : Option (LeaderValue ℕ EffectiveMembership)) (c : Option (CandidateValue ℕ EffectiveMembership)) (s : StoredGroup) (role : Role)
    → IsHeardOf n time l l' → PlaysRole own l c s role → PlaysRole own l' c s role
plays_hearing own n time None None c s role h plays = plays
plays_hearing own n time None (Some l') c s role h plays = absurd h
plays_hearing own n time (Some l) None c s role h plays = absurd h
plays_hearing own n time (Some l) (Some l') c s Follower h plays = absurd (none c plays)
  where
    none : (c : Option (CandidateValue ℕ EffectiveMembership)) → PlaysRole own (Some l) c s Follower → ⊥
    none None p = p
    none (Some c) p = p
plays_hearing own n time (Some l) (Some l') c s (Candidate granters) h plays = absurd plays
plays_hearing own n time (Some l) (Some l') None s (Leader lead) h plays =
    subst (λ y. Leads own y s lead) (sym h.rest) (leads_with own l l'.clock_progress s lead plays)
plays_hearing own n time (Some l) (Some l') (Some c) s (Leader lead) h plays = absurd plays

pub stands_hearing : {C R : Type 0} (own n time : ℕ) (e e' : Engine C R) (s : GroupState) → IsHeardOf n time e.leader e'.leader → e' ≡ record e { leader = e'.leader } → IsStateOf own e s → IsStateOf own e' s
stands_hearing {C} {R} own n time e e' s heard rest old =
    let state = ap (λ (y : Engine C R). y.state) rest in
    record {
      config = ap (λ (y : Engine C R). y.config) rest ∙ old.config;
      knows = subst (λ k. Knows k s.stored) (sym state) old.knows;
      renewed = ap (λ (y : Engine C R). y.state.state.vote.utime) rest ∙ old.renewed;
      committed = ap (λ (y : Engine C R). y.state.state.committed) rest ∙ old.committed;
      wish = ap (λ (y : Engine C R). place_of y.state.wish) rest ∙ old.wish;
      role = subst (λ c. PlaysRole own e'.leader c s.stored s.role) (sym (ap (λ (y : Engine C R). y.candidate) rest))
          (plays_hearing own n time e.leader e'.leader e.candidate s.stored s.role heard old.role);
      order = old.order;
    }

-- ---- what is heard through an event

abbrev pub LeaderOf : Type 0
LeaderOf = LeaderValue ℕ EffectiveMembership

pub keeps_same : (o : Option LeaderOf) → KeepsHeard o o
keeps_same None = tt
keeps_same (Some l) = λ n. refl

-- a leader that isn't touched
pub keeps_untouched : (o o' : Option LeaderOf) → o' ≡ o → KeepsHeard o o'
keeps_untouched o o' e = subst (KeepsHeard o) (sym e) (keeps_same o)

pub keeps_then : (a b c : Option LeaderOf) → KeepsHeard a b → KeepsHeard b c → KeepsHeard a c
keeps_then a b None h k = tt
keeps_then a None (Some z) h k = absurd k
keeps_then None (Some y) (Some z) h k = absurd h
keeps_then (Some x) (Some y) (Some z) h k = λ n. k n ∙ h n

-- whoever has heard of nobody, and leads on as before, still has
pub nobody_then : (b c : Option LeaderOf) → HasHeardOfNobody b → KeepsHeard b c → HasHeardOfNobody c
nobody_then b None h k = tt
nobody_then None (Some z) h k = absurd k
nobody_then (Some y) (Some z) h k = λ n. k n ∙ h n

pub begins_then : (a b c : Option LeaderOf) → KeepsHeardOrBegins a b → KeepsHeard b c → KeepsHeardOrBegins a c
begins_then a b c (inl h) k = inl (keeps_then a b c h k)
begins_then a b c (inr h) k = inr (nobody_then b c h k)

-- where nobody led, whoever leads has heard of nobody
keeps_unled : (b : Option LeaderOf) → KeepsHeard None b → HasHeardOfNobody b
keeps_unled None h = tt
keeps_unled (Some l) h = absurd h

begins_unled : (b : Option LeaderOf) → KeepsHeardOrBegins None b → HasHeardOfNobody b
begins_unled b (inl h) = keeps_unled b h
begins_unled b (inr h) = h

pub begins_where_none : (a b : Option LeaderOf) → a ≡ None → KeepsHeardOrBegins a b → HasHeardOfNobody b
begins_where_none a b none h = begins_unled b (subst (λ o. KeepsHeardOrBegins o b) none h)

-- a leader that was made with no moment for anybody
pub made_unheard : {E : Type 0} (made : Result LeaderOf E) (voters learners : List ℕ) → IfOk made (λ l. l.clock_progress.voters ≡ all_with None voters) → IfOk made (λ l. l.clock_progress.learners ≡ all_with None learners)
    → IfOk made (λ l. HasHeardOfNobody (Some l))
made_unheard (Ok l) voters learners v w = λ n. all_alike None l.clock_progress voters learners v w n
made_unheard (Err e) voters learners v w = tt

pub hears_then : (peer : ℕ) (time : Option ℕ) (a b c : Option LeaderOf) → HearsAfter peer time a b → KeepsHeard b c → HearsAfter peer time a c
hears_then peer time a b None h k = tt
hears_then peer time a None (Some z) h k = absurd k
hears_then peer time None (Some y) (Some z) h k = absurd h
hears_then peer time (Some x) (Some y) (Some z) h k = λ n. k n ∙ h n

-- nothing was heard
pub hears_nothing : (peer : ℕ) (o : Option LeaderOf) → HearsAfter peer None o o
hears_nothing peer None = tt
hears_nothing peer (Some l) = λ n. refl

-- a leader that notes something else
pub keeps_noting : (l l' : LeaderOf) → l'.clock_progress ≡ l.clock_progress → KeepsHeard (Some l) (Some l')
keeps_noting l l' e = λ n. ap (λ p. unwrap_or (value_of nat_eq p n) None) e

both_hold : (a b : Bool) (x y : Option ℕ) → a ≡ true → b ≡ true → (if a && b then x else y) ≡ x
both_hold true true x y h k = refl
both_hold true false x y h k = absurd (true≢false (sym k))
both_hold false b x y h k = absurd (true≢false (sym h))

first_fails : (a b : Bool) (x y : Option ℕ) → a ≡ false → (if a && b then x else y) ≡ y
first_fails true b x y h = absurd (true≢false h)
first_fails false b x y h = refl

second_fails : (a b : Bool) (x y : Option ℕ) → b ≡ false → (if a && b then x else y) ≡ y
second_fails true true x y h = absurd (true≢false h)
second_fails true false x y h = refl
second_fails false b x y h = refl

-- who has risen was there
was_there : (v : Option (Option ℕ)) (time : ℕ) → rises_above (option_cmp nat_cmp) (λ t. t) v (Some time) ≡ true → (h : Option ℕ) × (v ≡ Some h)
was_there None time e = absurd (true≢false (sym e))
was_there (Some h) time e = (h, refl)

module _ (peer time : ℕ) (l l' : LeaderOf) (heard : HearsOf peer time l l') (n : ℕ) where
  heard_later : is_later_than_heard l peer time ≡ true → heard_at l' n ≡ heard_after l peer (Some time) n
  heard_later later =
      let sets = heard.rises later in
      let later_than = is_later_than_heard l peer time in
      elim (nat_eq peer n) as (λ b. nat_eq peer n ≡ b → heard_at l' n ≡ heard_after l peer (Some time) n) [
        | true ↦ λ e.
            let there = was_there (value_of nat_eq l.clock_progress peer) time later in
            let at = sets.at_id (somebody_has nat_eq l.clock_progress peer there.0 there.1) in
            ap (λ k. unwrap_or (value_of nat_eq l'.clock_progress k) None) (sym (eqb-true peer n e)) ∙ ap (λ v. unwrap_or v None) at
            ∙ sym (both_hold (nat_eq peer n) later_than (Some time) (heard_at l n) e later)
        | false ↦ λ e.
            ap (λ v. unwrap_or v None) (sets.others n e) ∙ sym (first_fails (nat_eq peer n) later_than (Some time) (heard_at l n) e)
      ] refl

  heard_either : (b : Bool) → is_later_than_heard l peer time ≡ b → heard_at l' n ≡ heard_after l peer (Some time) n
  heard_either true e = heard_later e
  heard_either false e =
      ap (λ x. heard_at x n) (heard.unless_it_rises e) ∙ sym (second_fails (nat_eq peer n) (is_later_than_heard l peer time) (Some time) (heard_at l n) e)

-- a peer was heard of
pub hears_of : (peer time : ℕ) (o o' : Option LeaderOf) → IsHeardOf peer time o o' → HearsAfter peer (Some time) o o'
hears_of peer time None None h = tt
hears_of peer time None (Some l') h = absurd h
hears_of peer time (Some l) None h = tt
hears_of peer time (Some l) (Some l') h = λ n. heard_either peer time l l' h n (is_later_than_heard l peer time) refl

module _ {C R : Type 0} (own : ℕ) (e heard : Engine C R) (s : GroupState) (event : GroupEvent) (rest : heard ≡ record e { leader = heard.leader }) where
  -- an engine that has heard of a peer may take the event as before
  pub may_hearing : IsStateOf own heard s → MayTake own e s event → MayTake own heard s event
  may_hearing stands may =
      record {
        stands = stands;
        empty = ap (λ (y : Engine C R). y.output.queue) rest ∙ may.empty;
        ready = may.ready;
        accepted = may.accepted;
      }

-- and begins it with what was known before
pub begins_hearing : {C R : Type 0} (x : Snapshot) (own : ℕ) (e heard : Engine C R) (s : GroupState) (at : ℕ) → heard ≡ record e { leader = heard.leader }
    → IsStepOf (given x heard s) own heard (begun at s) → IsStepOf (given x e s) own heard (begun at s)
begins_hearing {C} {R} x own e heard s at rest h = subst (λ g. IsStepOf g own heard (begun at s)) (ap (λ (y : Engine C R). given x y s) rest) h
