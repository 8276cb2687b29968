-- Leads that begin and end, as the queue grows.
use Rattle.std.specs.Prelude.{◌≡◌, ◌≢◌, ℕ, Bool, true, false, List, [], ◌∷◌, ◌++◌, Option, Some, None, refl}
use Rattle.std.proofs.Common.{ap, sym, subst, ◌∙◌, append-nil}
use Rattle.raft_commands.specs.declared.command.Command.TheVariants.{QuitLeader}
use Rattle.raft_group_step.specs.StoredGroup.{StoredGroup}
use Rattle.raft_group_step.specs.GroupState.{Role, Follower, Candidate, Leader, is_leader}
use Rattle.raft_leaders.specs.Candidate.{CandidateValue}
use Rattle.raft_leaders.specs.Leader.{LeaderValue}
use Rattle.raft_engine.specs.Commands.{Command}
use Rattle.raft_engine.specs.Standing.{EffectiveMembership, PlaysRole}
use Rattle.raft_engine.specs.Turns.{FitsTurn, Leads, MayLead, Turn, TurnStep, Turns, Waits, BeginsLead, EndsLead, StoresVote, turn_of, turns_in, turns_of}
use Rattle.raft_engine.proofs.CommandLemmas.{one_more}

-- one more step, from each turn that the steps may end at
pub turns_on : (turn : Turn) (steps : List TurnStep) (leads leads' : Bool) (step : TurnStep) → Turns turn steps leads → ((t : Turn) → FitsTurn t leads → Turns t (step ∷ []) leads') → Turns turn (steps ++ step ∷ []) leads'
turns_on turn [] leads leads' step h more = more turn h
turns_on turn (BeginsLead ∷ steps) leads leads' step h more = (h.0, turns_on Leads steps leads leads' step h.1 more)
turns_on turn (EndsLead ∷ steps) leads leads' step h more = (h.0, turns_on Waits steps leads leads' step h.1 more)
turns_on turn (StoresVote ∷ steps) leads leads' step h more = (h.0, turns_on MayLead steps leads leads' step h.1 more)

-- where a lead is told of, it may end; where none is, a vote may be stored
pub may_end : (t : Turn) → FitsTurn t true → t ≡ Leads
may_end Leads h = refl
may_end MayLead h = cc h
may_end Waits h = cc h

pub may_store : (t : Turn) → FitsTurn t false → t ≢ Leads
may_store Leads h = λ e. cc h
may_store MayLead h = λ e. cc e
may_store Waits h = λ e. cc e

-- as an event begins
pub fits_now : (leads : Bool) → Turns (turn_of leads) [] leads
fits_now true = refl
fits_now false = refl

module _ {C R : Type 0} (turn : Turn) (old new : List (Command C R)) (leads : Bool) (turns : Turns turn (turns_in old) leads) where
  -- the same queue, with as much of a lead
  pub turns_same : (leads' : Bool) → new ≡ old → leads' ≡ leads → Turns turn (turns_in new) leads'
  turns_same leads' queue same = subst (λ b. Turns turn (turns_in new) b) (sym same) (subst (λ q. Turns turn (turns_in q) leads) (sym queue) turns)

  module _ (c : Command C R) (queue : new ≡ old ++ c ∷ []) where
    -- a command that has nothing to do with leads is pushed
    pub turns_kept : turns_of c ≡ [] → Turns turn (turns_in new) leads
    turns_kept none =
        let all : turns_in new ≡ turns_in old = ap turns_in queue ∙ one_more turns_of old c ∙ ap (λ ts. turns_in old ++ ts) none ∙ append-nil (turns_in old) in
        subst (λ ts. Turns turn ts leads) (sym all) turns

    -- one that has is pushed
    pub turns_gained : (leads' : Bool) (step : TurnStep) → turns_of c ≡ step ∷ [] → ((t : Turn) → FitsTurn t leads → Turns t (step ∷ []) leads') → Turns turn (turns_in new) leads'
    turns_gained leads' step one more =
        let all : turns_in new ≡ turns_in old ++ step ∷ [] = ap turns_in queue ∙ one_more turns_of old c ∙ ap (λ ts. turns_in old ++ ts) one in
        subst (λ ts. Turns turn ts leads') (sym all) (turns_on turn (turns_in old) leads leads' step turns more)

-- a vote is stored by a node that doesn't lead
pub voted_turns : {C R : Type 0} (turn : Turn) (old new : List (Command C R)) (leads : Bool) → Turns turn (turns_in old) leads → (c : Command C R) → new ≡ old ++ c ∷ [] → turns_of c ≡ StoresVote ∷ [] → leads ≡ false
    → Turns turn (turns_in new) leads
voted_turns turn old new leads turns c queue one none =
    subst (λ b. Turns turn (turns_in new) b) (sym none)
    (turns_gained turn old new false (subst (λ b. Turns turn (turns_in old) b) none turns) c queue false StoresVote one
    (λ t fits. (may_store t fits, refl)))

-- a vote is stored, and the lead under it begins
pub begun_turns : {C R : Type 0} (turn : Turn) (old middle new : List (Command C R)) (leads : Bool) → Turns turn (turns_in old) leads → (c d : Command C R) → middle ≡ old ++ c ∷ [] → new ≡ middle ++ d ∷ []
    → turns_of c ≡ StoresVote ∷ [] → turns_of d ≡ BeginsLead ∷ [] → leads ≡ false → Turns turn (turns_in new) true
begun_turns {C} {R} turn old middle new leads turns c d first second one two none =
    let all : turns_in new ≡ (turns_in old ++ StoresVote ∷ []) ++ BeginsLead ∷ [] =
    ap turns_in second ∙ one_more turns_of middle d ∙ ap (λ ts. turns_in middle ++ ts) two
    ∙ ap (λ ts. ts ++ BeginsLead ∷ []) (ap turns_in first ∙ one_more turns_of old c ∙ ap (λ ts. turns_in old ++ ts) one) in
    subst (λ ts. Turns turn ts true) (sym all) (both turn (turns_in old) (subst (λ b. Turns turn (turns_in old) b) none turns))
  where
    both : (t : Turn) (steps : List TurnStep) → Turns t steps false → Turns t ((steps ++ StoresVote ∷ []) ++ BeginsLead ∷ []) true
    both t [] h = (may_store t h, (refl, refl))
    both t (BeginsLead ∷ steps) h = (h.0, both Leads steps h.1)
    both t (EndsLead ∷ steps) h = (h.0, both Waits steps h.1)
    both t (StoresVote ∷ steps) h = (h.0, both MayLead steps h.1)

-- a lead ends
pub ended_turns : {C R : Type 0} (turn : Turn) (old new : List (Command C R)) (leads : Bool) → Turns turn (turns_in old) leads → new ≡ old ++ QuitLeader ∷ [] → leads ≡ true → Turns turn (turns_in new) false
ended_turns turn old new leads turns queue some =
    turns_gained turn old new true (subst (λ b. Turns turn (turns_in old) b) some turns) QuitLeader queue false EndsLead refl
    (λ t fits. (may_end t fits, refl))

-- ---- who leads

-- a node without a leader's knowledge doesn't lead, and one with it does
pub unled_role : (own : ℕ) (c : Option (CandidateValue ℕ EffectiveMembership)) (s : StoredGroup) (role : Role) → PlaysRole own None c s role → is_leader role ≡ false
unled_role own c s Follower h = refl
unled_role own c s (Candidate granters) h = refl
unled_role own None s (Leader lead) h = absurd h
unled_role own (Some c) s (Leader lead) h = absurd h

pub led_role : (own : ℕ) (l : LeaderValue ℕ EffectiveMembership) (c : Option (CandidateValue ℕ EffectiveMembership)) (s : StoredGroup) (role : Role) → PlaysRole own (Some l) c s role → is_leader role ≡ true
led_role own l None s Follower h = absurd h
led_role own l (Some c) s Follower h = absurd h
led_role own l c s (Candidate granters) h = absurd h
led_role own l c s (Leader lead) h = refl
