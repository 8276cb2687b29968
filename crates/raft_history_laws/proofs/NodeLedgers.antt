-- How an event ends the tokens of its node.
use Rattle.std.specs.Prelude.{◌≡◌, ◌⊎◌, ℕ, ◌<◌, ◌^◌, not, Bool, true, false, List, [], ◌++◌, filter, length, Option, Some, None, is_some, refl}
use Rattle.std.proofs.Common.{inl, inr, sym, ap, ap₂, ◌∙◌, subst, ⊎_elim, append-nil}
use Rattle.std.proofs.lemmas.Bool.{and_from}
use Rattle.std.proofs.lemmas.List.{map-append}
use Rattle.raft_group_step.specs.Values.{Membership, vote_eq}
use Rattle.raft_group_step.specs.StoredGroup.{StoredGroup, end_place, held}
use Rattle.raft_group_step.specs.GroupState.{GroupState, Role, Follower, Candidate, Leader, Untold, is_leader, state_of}
use Rattle.raft_group_step.specs.declared.group_call.GroupCall.TheVariants.{Initialize, Elect, Propose, ChangeMembership, Heartbeat, Lost, TriggerSnapshot, TriggerPurge}
use Rattle.raft_group_step.specs.GroupEvent.{GroupEvent, AddGroup, Call, Receive, Open}
use Rattle.raft_group_step.specs.StepResult.{RefusalReason, StepResult, is_within, refused_step, tokens_of}
use Rattle.raft_group_step.specs.Refusal.{refusal_of}
use Rattle.raft_group_step.specs.GroupStep.{group_step, step_unless}
use Rattle.raft_laws.specs.BallotWorld.{BallotEvent, BallotWorld}
use Rattle.raft_laws.specs.GroupWorld.{NodeState, Absent, Up, Down, Outcome, Done, Refused, Stopped, Skipped, is_stop}
use Rattle.raft_laws.specs.NodeEvent.{NodeEvent, Comes, Crashes, Halts, Restarts, after_step, outcome_at, outcome_of_end, outcome_of_step, outcome_of_stop, state_after}
use Rattle.raft_laws.specs.GroupRun.{stop_at}
use Rattle.raft_laws.specs.Stop.{token_of, token_of_call}
use Rattle.raft_laws.proofs.Standing.{RoleFits}
use Rattle.raft_laws.proofs.StepFits.{EventFits, NodeFits, world_after}
use Rattle.raft_laws.proofs.StepMoments.{step_goes}
use Rattle.raft_laws.proofs.WorldFits.{NodeStateFits}
use Rattle.raft_laws.proofs.WorldLimits.{vote_itself}
use Rattle.raft_laws.proofs.WorldSteps.{MayHappen}
use Rattle.raft_step_laws.proofs.TokenLists.{opens_none, tokens_at_place}
use Rattle.raft_step_laws.specs.Tokens.{HasItsOwnVote, TokensGo, brought, leads_on, seeks_or_leads}
use Rattle.raft_step_laws.proofs.Telling.{tokens_go}
use Rattle.raft_history_laws.specs.TokenEnds.{Names, NamesUnlessCrash, Numbered, brings, brought_unless, has_place, numbered, that_ended, that_wait, told_in, unknown_in, untold_in, untolds}
use Rattle.raft_history_laws.proofs.LedgerLists.{all_ended, all_wait, due_ended, kept_wait, none_ended, none_wait, untolds_append, untolds_numbered}
use Rattle.raft_history_laws.proofs.StepCommitted.{leads_by}
use Rattle.raft_history_laws.proofs.StepLeads.{Without as Without_there}
use Rattle.raft_history_laws.proofs.StepWaits.{WaitsOn, brings_none, brought as brought_there, step_waits}
use Rattle.raft_history_laws.proofs.WaitingTokens.{NodeWaits, TokensWait, which_role}

-- the tokens ws of a node behind an event with this outcome, which leaves the node in this state
pub record NodeLedger (e : NodeEvent) (o : Outcome) (state : NodeState) (ws : List Numbered) : Type 0 where
  pub waits : untolds (that_wait state ws) ≡ untold_in state
  pub named : NamesUnlessCrash e o (that_ended state ws)

-- ---- nothing ends, or all

named_by : (e : NodeEvent) (o : Outcome) (ended : List Numbered) → Names o ended → (e ≡ Crashes → ⊥) → NamesUnlessCrash e o ended
named_by Crashes o ended h other = absurd (other refl)
named_by e o ended h other = h

names_none : (e : NodeEvent) (o : Outcome) (ended : List Numbered) → ended ≡ [] → told_in o ≡ [] → unknown_in o ≡ [] → NamesUnlessCrash e o ended
names_none Crashes o ended none told unknown = (told, unknown)
names_none e o ended none told unknown = inl (told ∙ sym (ap untolds none), unknown)

all_stay : (e : NodeEvent) (o : Outcome) (state : NodeState) (ws : List Numbered) → untolds ws ≡ untold_in state → told_in o ≡ [] → unknown_in o ≡ [] → NodeLedger e o state ws
all_stay e o state ws is told unknown =
    record {
      waits = ap untolds (all_wait ws (untold_in state) is) ∙ is;
      named = names_none e o (that_ended state ws) (none_ended ws (untold_in state) is) told unknown;
    }

-- none waits any more
none_left : (state : NodeState) (ws : List Numbered) → untold_in state ≡ [] → (untolds (that_wait state ws) ≡ untold_in state) × (that_ended state ws ≡ ws)
none_left state ws e = (
  ap (λ now. untolds (filter (λ (w : Numbered). has_place now w.untold.place) ws)) e ∙ ap untolds (none_wait ws) ∙ sym e,
  ap (λ now. filter (λ (w : Numbered). not (has_place now w.untold.place)) ws) e ∙ all_ended ws,
)

all_unknown : (e : NodeEvent) (o : Outcome) (state : NodeState) (ws : List Numbered) → (e ≡ Crashes → ⊥) → untold_in state ≡ [] → told_in o ≡ [] → unknown_in o ≡ tokens_of (untolds ws) → NodeLedger e o state ws
all_unknown e o state ws other none told unknown =
    let left = none_left state ws none in
    record {
      waits = left.0;
      named = named_by e o (that_ended state ws) (inr (told, unknown ∙ ap (λ vs. tokens_of (untolds vs)) (sym left.1))) other;
    }

all_lost : (ws : List Numbered) (stored : StoredGroup) → NodeLedger Crashes (Done [] [] []) (Down stored) ws
all_lost ws stored = record { waits = (none_left (Down stored) ws refl).0; named = (refl, refl) }

-- ---- what an event brings

tokens_brought : (s : GroupState) (e : GroupEvent) → tokens_of (brought s e) ≡ token_of e None
tokens_brought s AddGroup = refl
tokens_brought s (Call call now) = tokens_at_place (end_place s.stored) (token_of_call call)
tokens_brought s (Receive peer x now) = refl
tokens_brought s Open = refl

-- the two words for what an event brings
same_brought : (s : GroupState) (e : GroupEvent) → brought s e ≡ brought_there s.stored e
same_brought s AddGroup = refl
same_brought s (Call (Initialize first) now) = refl
same_brought s (Call Elect now) = refl
same_brought s (Call (Propose command token) now) = refl
same_brought s (Call (ChangeMembership change token) now) = refl
same_brought s (Call Heartbeat now) = refl
same_brought s (Call (Lost peer) now) = refl
same_brought s (Call TriggerSnapshot now) = refl
same_brought s (Call (TriggerPurge place) now) = refl
same_brought s (Receive peer x now) = refl
same_brought s Open = refl

pub own_vote : (n : ℕ) (b : BallotWorld) (s : GroupState) (role : Role) → RoleFits n b s.stored.vote (held s.stored) role → seeks_or_leads role ≡ true → s.stored.vote.leader_id.node_id ≡ n
own_vote n b s Follower h t = absurd (let f : false ≡ true = t in cc)
own_vote n b s (Candidate granters) h t = h.0.node
own_vote n b s (Leader lead) h t = h.0.node

comes_no_crash : (e : GroupEvent) → Comes e ≡ Crashes → ⊥
comes_no_crash e is = cc

-- ---- a call or message at a node that is up

-- where it is refused, nothing ends
refused_ledger : (s : GroupState) (e : GroupEvent) (number : ℕ) (l : List Numbered) → untolds l ≡ s.untold → (stopped : Bool) (k : ℕ) (why : RefusalReason) → is_stop (outcome_of_step stopped s e (refused_step s why)) ≡ stopped → NodeLedger (Comes e) (outcome_of_step stopped s e (refused_step s why)) (after_step (stop_at stopped k) s (refused_step s why)) (l ++ brought_unless (Some why) number s e)
refused_ledger s e number l ledger false k why same =
    all_stay (Comes e) (Refused why) (Up s) (l ++ []) (ap untolds (append-nil l) ∙ ledger) refl refl
refused_ledger s e number l ledger true k why same = absurd (let f : false ≡ true = same in cc)

module _ (m : Membership) (some : 0 < length m.configs) (n : ℕ) (small : n < 2 ^ 64) (before : List BallotEvent) (s : GroupState) (e : GroupEvent) (fits : NodeFits m (world_after m before) n s) (event_fits : EventFits m (world_after m before) e) (other : e ≡ Open → ⊥) (h : TokensWait s) (number : ℕ) (l : List Numbered) (ledger : untolds l ≡ s.untold) where
  module _ (passed : refusal_of n s e ≡ None) where
    abbrev r : StepResult
    r = step_unless None n s e

    abbrev ws : List Numbered
    ws = l ++ brought_unless None number s e

    goes : TokensGo s e r
    goes =
        subst (λ o. TokensGo s e (step_unless o n s e)) passed
        (tokens_go n s e (own_vote n (world_after m before) s s.role fits.role) h.others (opens_none s e other) passed)

    not_refused : r.refused ≡ None
    not_refused = (step_goes n s e).taken

    all_tokens : untolds ws ≡ s.untold ++ brought s e
    all_tokens = untolds_append l (numbered number (brought s e)) ∙ ap₂ (λ xs ys. xs ++ ys) ledger (untolds_numbered number (brought s e))

    waits_or_not : (Without_there (step_unless None n s e) × (brought_there s.stored e ≡ [])) ⊎ WaitsOn s (brought_there s.stored e) r
    waits_or_not = subst (λ o. (Without_there (step_unless o n s e) × (brought_there s.stored e ≡ [])) ⊎ WaitsOn s (brought_there s.stored e) (step_unless o n s e)) passed (step_waits m some n small before s e fits event_fits h.others passed)

    -- a lead that ends takes no more tokens
    brings_no_more : leads_on s r.state ≡ false → brought s e ≡ []
    brings_no_more ends =
        same_brought s e
        ∙ ⊎_elim
        (λ x. x.1)
        (λ w.
        ⊎_elim
        (λ none. brings_none m some n small before s e passed none)
        (λ x.
        let leads : is_leader s.role ≡ true = ap is_leader x.1 in
        let leads' : is_leader r.state.role ≡ true = leads_by r.state.role ∙ ap is_some w.began ∙ sym (leads_by s.role) ∙ leads in
        let votes : vote_eq s.stored.vote r.state.stored.vote ≡ true = ap (vote_eq s.stored.vote) w.vote ∙ vote_itself s.stored.vote in
        let on : leads_on s r.state ≡ true = and_from (is_leader s.role) _ leads (and_from (is_leader r.state.role) (vote_eq s.stored.vote r.state.stored.vote) leads' votes) in
        absurd (let f : true ≡ false = sym on ∙ ends in cc))
        (which_role s.role))
        waits_or_not

    outcome_is : outcome_of_end r r.refused ≡ Done r.messages r.told r.unknown
    outcome_is = ap (outcome_of_end r) not_refused

    ends_well : NodeLedger (Comes e) (Done r.messages r.told r.unknown) (Up r.state) ws
    ends_well = go (leads_on s r.state) refl
      where
        go : (b : Bool) → leads_on s r.state ≡ b → NodeLedger (Comes e) (Done r.messages r.told r.unknown) (Up r.state) ws
        go true on =
            let is = goes.waits on ∙ ap (filter (λ (x : Untold). not (is_within x.place r.state.committed))) (sym all_tokens) in
            record {
              waits = kept_wait r.state.committed ws r.state.untold is;
              named =
                  inl (
                    goes.told on
                        ∙ ap (filter (λ (x : Untold). is_within x.place r.state.committed)) (sym all_tokens)
                        ∙ sym (due_ended r.state.committed ws r.state.untold is),
                    goes.none_unknown on,
                  );
            }
        go false ends =
            let tokens : untolds ws ≡ s.untold = all_tokens ∙ ap (λ xs. s.untold ++ xs) (brings_no_more ends) ∙ append-nil s.untold in
            all_unknown (Comes e) (Done r.messages r.told r.unknown) (Up r.state) ws (comes_no_crash e) (goes.none_waits ends) (goes.none_told ends) (goes.unknown ends ∙ ap tokens_of (sym tokens))

    -- a stop names all, also the event's own
    stops_well : (k : ℕ) → NodeLedger (Comes e) (Stopped (tokens_of s.untold ++ token_of e None)) (after_step (Some k) s r) ws
    stops_well k =
        all_unknown (Comes e) (Stopped (tokens_of s.untold ++ token_of e None)) (after_step (Some k) s r) ws (comes_no_crash e) refl refl
        (sym (ap tokens_of all_tokens ∙ map-append (λ (x : Untold). x.token) s.untold (brought s e) ∙ ap (λ xs. tokens_of s.untold ++ xs) (tokens_brought s e)))

    taken_ledger : (stopped : Bool) (k : ℕ) → NodeLedger (Comes e) (outcome_of_step stopped s e r) (after_step (stop_at stopped k) s r) ws
    taken_ledger false k = subst (λ o. NodeLedger (Comes e) o (Up r.state) ws) (sym outcome_is) ends_well
    taken_ledger true k =
        subst (λ o. NodeLedger (Comes e) o (after_step (Some k) s r) ws)
        (sym (ap (outcome_of_stop s e r) not_refused ∙ ap (λ why. Stopped (tokens_of s.untold ++ token_of e why)) not_refused))
        (stops_well k)

  come_ledger : (stopped : Bool) (k : ℕ) (o : Option RefusalReason) → refusal_of n s e ≡ o → is_stop (outcome_of_step stopped s e (step_unless o n s e)) ≡ stopped → NodeLedger (Comes e) (outcome_of_step stopped s e (step_unless o n s e)) (after_step (stop_at stopped k) s (step_unless o n s e)) (l ++ brought_unless o number s e)
  come_ledger stopped k None passed same = taken_ledger passed stopped k
  come_ledger stopped k (Some why) refused same = refused_ledger s e number l ledger stopped k why same

-- ---- each event at a node

-- no node that is up is opened
abbrev pub IsNoOpening : NodeEvent → Type 0
IsNoOpening e = e ≡ Comes Open → ⊥

comes_other : (e : GroupEvent) → IsNoOpening (Comes e) → e ≡ Open → ⊥
comes_other e other is = other (ap Comes is)

halts_no_crash : Halts ≡ Crashes → ⊥
halts_no_crash e = cc

restarts_no_crash : Restarts ≡ Crashes → ⊥
restarts_no_crash e = cc

nothing : (e : NodeEvent) (o : Outcome) (state : NodeState) (l : List Numbered) → untolds l ≡ untold_in state → told_in o ≡ [] → unknown_in o ≡ [] → NodeLedger e o state (l ++ [])
nothing e o state l is told unknown = all_stay e o state (l ++ []) (ap untolds (append-nil l) ∙ is) told unknown

-- a node that is opened has no tokens
opened_ledger : (n : ℕ) (stored : StoredGroup) (stopped : Bool) (k : ℕ) (l : List Numbered) → untolds l ≡ [] → is_stop (outcome_of_step stopped (state_of stored) Open (group_step n (state_of stored) Open)) ≡ stopped → NodeLedger Restarts (outcome_of_step stopped (state_of stored) Open (group_step n (state_of stored) Open)) (after_step (stop_at stopped k) (state_of stored) (group_step n (state_of stored) Open)) (l ++ [])
opened_ledger n stored false k l is same =
    let s = state_of stored in
    let r = group_step n s Open in
    let mine : HasItsOwnVote n s = λ t. absurd (let f : false ≡ true = t in cc) in
    let goes : TokensGo s Open r = tokens_go n s Open mine (λ t. refl) refl refl in
    let refused : r.refused ≡ None = (step_goes n s Open).taken in
    subst (λ o. NodeLedger Restarts o (Up r.state) (l ++ [])) (sym (ap (outcome_of_end r) refused))
    (nothing Restarts (Done r.messages r.told r.unknown) (Up r.state) l (is ∙ sym (goes.none_waits refl)) (goes.none_told refl) (goes.unknown refl))
opened_ledger n stored true k l is same =
    let s = state_of stored in
    let r = group_step n s Open in
    let refused : r.refused ≡ None = (step_goes n s Open).taken in
    subst (λ o. NodeLedger Restarts o (after_step (Some k) s r) (l ++ [])) (sym (ap (outcome_of_stop s Open r) refused))
    (nothing Restarts (Stopped []) (after_step (Some k) s r) l is refl refl)

pub node_ledger : (m : Membership) (some : 0 < length m.configs) (before : List BallotEvent) (n : ℕ) (e : NodeEvent) (stopped : Bool) (k : ℕ) (x : NodeState) → NodeStateFits m (world_after m before) n x → MayHappen m (world_after m before) n e x → NodeWaits n x → IsNoOpening e → is_stop (outcome_at n e stopped x) ≡ stopped → (number : ℕ) (l : List Numbered) → untolds l ≡ untold_in x → NodeLedger e (outcome_at n e stopped x) (state_after n e (stop_at stopped k) x) (l ++ brings n number e x)
node_ledger m some before n (Comes e) stopped k Absent fits may h other same number l is = nothing (Comes e) Skipped Absent l is refl refl
node_ledger m some before n Crashes stopped k Absent fits may h other same number l is = nothing Crashes Skipped Absent l is refl refl
node_ledger m some before n Halts stopped k Absent fits may h other same number l is = nothing Halts Skipped Absent l is refl refl
node_ledger m some before n Restarts stopped k Absent fits may h other same number l is = nothing Restarts Skipped Absent l is refl refl
node_ledger m some before n (Comes e) stopped k (Up s) fits may h other same number l is =
    ⊎_elim
    (λ event_fits. come_ledger m some n fits.0 before s e fits.1 event_fits (comes_other e other) h number l is stopped k (refusal_of n s e) refl same)
    (λ no.
    subst (λ o. NodeLedger (Comes e) (outcome_of_step stopped s e (step_unless o n s e)) (after_step (stop_at stopped k) s (step_unless o n s e)) (l ++ brought_unless o number s e)) (sym no.1)
    (refused_ledger s e number l is stopped k no.0 (ap (λ o. is_stop (outcome_of_step stopped s e (step_unless o n s e))) (sym no.1) ∙ same)))
    may
node_ledger m some before n Crashes stopped k (Up s) fits may h other same number l is = all_lost (l ++ []) s.stored
node_ledger m some before n Halts stopped k (Up s) fits may h other same number l is =
    all_unknown Halts (Stopped (tokens_of s.untold)) (Down s.stored) (l ++ []) halts_no_crash refl refl
    (ap tokens_of (sym (ap untolds (append-nil l) ∙ is)))
node_ledger m some before n Restarts stopped k (Up s) fits may h other same number l is = nothing Restarts Skipped (Up s) l is refl refl
node_ledger m some before n (Comes e) stopped k (Down stored) fits may h other same number l is = nothing (Comes e) Skipped (Down stored) l is refl refl
node_ledger m some before n Crashes stopped k (Down stored) fits may h other same number l is = nothing Crashes Skipped (Down stored) l is refl refl
node_ledger m some before n Halts stopped k (Down stored) fits may h other same number l is = nothing Halts Skipped (Down stored) l is refl refl
node_ledger m some before n Restarts stopped k (Down stored) fits may h other same number l is = opened_ledger n stored stopped k l is same
