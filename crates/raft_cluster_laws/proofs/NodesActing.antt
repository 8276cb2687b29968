-- What a node does with an event, group by group, is what the cluster's type asks.
use Rattle.std.specs.Prelude.{◌≡◌, ℕ, Bool, true, false, List, [], ◌∷◌, ◌++◌, Some, None, Contains, refl}
use Rattle.std.proofs.lemmas.List.{map-append}
use Rattle.std.proofs.Common.{inl, sym, ap, ◌∙◌, subst, ⊎_elim}
use Rattle.raft_group_step.specs.GroupState.{GroupState, Untold, state_of}
use Rattle.raft_group_step.specs.StoredGroup.{end_place}
use Rattle.raft_group_step.specs.GroupEvent.{GroupEvent, AddGroup, Call, Receive, Open}
use Rattle.raft_group_step.specs.StepResult.{RefusalReason, StepResult, tokens_of}
use Rattle.raft_group_step.specs.Refusal.{refusal_of}
use Rattle.raft_group_step.specs.GroupStep.{group_step}
use Rattle.raft_group_step.proofs.Refusals.{refused_keeps}
use Rattle.raft_laws.specs.declared.world_event.WorldEvent.{WorldEvent}
use Rattle.raft_laws.specs.GroupWorld.{NodeState, Up, Down, Outcome, Skipped, is_stop}
use Rattle.raft_laws.specs.GroupWorld.{Done as Ended, Refused as Declined, Stopped as Broken}
use Rattle.raft_laws.specs.NodeEvent.{Comes, NodeEvent, Restarts, outcome_at, outcome_of_end, outcome_of_step, outcome_of_stop, state_after}
use Rattle.raft_laws.specs.GroupRun.{stop_at}
use Rattle.raft_laws.specs.Stop.{stopped_after, token_of, token_of_call, unknown_at_stop}
use Rattle.raft_laws.proofs.Counts.{among_contains, contains_among}
use Rattle.raft_laws.proofs.StepMoments.{refusals_told}
use Rattle.raft_step_laws.specs.Tokens.{brought}
use Rattle.raft_step_laws.proofs.TokenLists.{tokens_at_place}
use Rattle.raft_machines.specs.Machine.{MachineRules}
use Rattle.raft_headline.specs.ClusterEvent.{ClusterOutcome, Done, Opened, Recorded, Said, is_stopped, said_of}
use Rattle.raft_headline.specs.ClusterEvent.{Fused, Stopped}
use Rattle.raft_headline.specs.Replaying.{IsSaid, Says, SaysCrash, SaysEnd, SaysStop, is_opening}
use Rattle.raft_headline.specs.Seen.{seen_by}
use Rattle.raft_cluster_laws.specs.Acting.{NodesAct, NodesActAsAsked, OthersAct, OthersActAsAsked, StopsNameWhoWaits}
use Rattle.raft_cluster_laws.specs.Acts.{ActsAt, KeepsLawAt, MayBecome, answers_at}

pub has_first : {A : Type 0} (x : A) → Contains (x ∷ []) x
has_first x = among_contains (x ∷ []) x (inl refl)

-- a stop is said by an outcome that is one
stop_is : (h : ℕ) (o : ClusterOutcome) (lost : List ℕ) → SaysStop h o lost → is_stopped o ≡ true
stop_is h (Stopped names) lost s = refl
stop_is h Fused lost s = refl
stop_is h o lost s = absurd s

module _ (rules : MachineRules) (h n : ℕ) (r : Recorded) (e : WorldEvent) where
  -- what became of it, and what is said of that
  acts : (at : NodeEvent) (s t : NodeState) (what : Outcome) (k : ℕ) → outcome_at n at (is_stopped r.outcome) s ≡ what → t ≡ state_after n at (stop_at (is_stop what) k) s → Says h (is_opening e) (answers_at rules t) r.outcome what → KeepsLawAt rules s
      → ActsAt rules h n r e at s t
  acts at s t what k is left says law = record {
    number = k;
    left = left ∙ ap (λ o. state_after n at (stop_at (is_stop o) k) s) (sym is);
    says = subst (λ o. Says h (is_opening e) (answers_at rules t) r.outcome o) (sym is) says;
    lawful = law;
  }

  module _ (s : GroupState) (ge : GroupEvent) where
    abbrev q : StepResult
    q = group_step n s ge

    ends : (b : Bool) → b ≡ false → refusal_of n s ge ≡ None → outcome_of_step b s ge q ≡ Ended q.messages q.told q.unknown
    ends b is taken = ap (λ c. outcome_of_step c s ge q) is ∙ ap (outcome_of_end q) (refusals_told n s ge ∙ taken)

    breaks : (b : Bool) → b ≡ true → refusal_of n s ge ≡ None → outcome_of_step b s ge q ≡ Broken (unknown_at_stop s ge q)
    breaks b is taken = ap (λ c. outcome_of_step c s ge q) is ∙ ap (outcome_of_stop s ge q) (refusals_told n s ge ∙ taken)

    declines : (b : Bool) (why : RefusalReason) → refusal_of n s ge ≡ Some why → outcome_of_step b s ge q ≡ Declined why
    declines true why refused = ap (outcome_of_stop s ge q) (refusals_told n s ge ∙ refused)
    declines false why refused = ap (outcome_of_end q) (refusals_told n s ge ∙ refused)

  says_done : (said : Said) (t : NodeState) (u : StepResult) → is_opening e ≡ false → r.outcome ≡ Done said → IsSaid (answers_at rules t) said u.messages u.told u.unknown → Says h (is_opening e) (answers_at rules t) r.outcome (Ended u.messages u.told u.unknown)
  says_done said t u closed is said_is =
      subst (λ o. SaysEnd h (is_opening e) (answers_at rules t) o u.messages u.told u.unknown) (sym is)
      (subst (λ b. SaysEnd h b (answers_at rules t) (Done said) u.messages u.told u.unknown) (sym closed) said_is)

  says_opened : (parts : List (ℕ × Said)) (t : NodeState) (u : StepResult) → is_opening e ≡ true → r.outcome ≡ Opened parts → IsSaid (answers_at rules t) (said_of h parts) u.messages u.told u.unknown → Says h (is_opening e) (answers_at rules t) r.outcome (Ended u.messages u.told u.unknown)
  says_opened parts t u open_one is said_is =
      subst (λ o. SaysEnd h (is_opening e) (answers_at rules t) o u.messages u.told u.unknown) (sym is)
      (subst (λ b. SaysEnd h b (answers_at rules t) (Opened parts) u.messages u.told u.unknown) (sym open_one) said_is)

  pub nodes_act : NodesAct rules h n r e
  nodes_act = record {
    done = λ ge s said closed law taken is said_is.
        let q = group_step n s ge in
        acts (Comes ge) (Up s) (Up q.state) (Ended q.messages q.told q.unknown) 0
        (ends s ge (is_stopped r.outcome) (ap is_stopped is) taken) refl
        (says_done said (Up q.state) q closed is said_is) law;
    refused = λ ge s why law refused is.
        acts (Comes ge) (Up s) (Up s) (Declined why) 0 (declines s ge (is_stopped r.outcome) why refused)
        (ap Up (sym (refused_keeps n s ge why refused))) is law;
    stopped = λ ge s law taken says k.
        let q = group_step n s ge in
        acts (Comes ge) (Up s) (Down (stopped_after k s.stored q)) (Broken (unknown_at_stop s ge q)) k
        (breaks s ge (is_stopped r.outcome) (stop_is h r.outcome _ says) taken) refl says law;
    passed = λ ge st is. acts (Comes ge) (Down st) (Down st) Skipped 0 refl refl is tt;
    opened = λ st parts open_one is said_is.
        let q = group_step n (state_of st) Open in
        acts Restarts (Down st) (Up q.state) (Ended q.messages q.told q.unknown) 0
        (ends (state_of st) Open (is_stopped r.outcome) (ap is_stopped is) refl) refl
        (says_opened parts (Up q.state) q open_one is said_is) tt;
    opening_stops = λ st says k.
        let q = group_step n (state_of st) Open in
        acts Restarts (Down st) (Down (stopped_after k st q)) (Broken (unknown_at_stop (state_of st) Open q)) k
        (breaks (state_of st) Open (is_stopped r.outcome) (stop_is h r.outcome _ says) refl) refl says tt;
    opening_passes = λ s law is. acts Restarts (Up s) (Up s) Skipped 0 refl refl is law;
  }

module _ (rules : MachineRules) (h n : ℕ) (r : Recorded) where
  pub others_act : OthersAct rules h n r
  others_act = record {
    halts = λ s says. record { left = refl; says = says };
    crashes = λ s is. record { left = refl; says = subst (λ o. SaysCrash o (Ended [] [] [])) (sym is) refl };
    stays_down = λ st how. record {
      left = refl;
      says = ⊎_elim (λ is. subst (λ o. SaysCrash o Skipped) (sym is) refl) (λ is. subst (λ o. SaysCrash o Skipped) (sym is) refl) how;
    };
    to_one = λ history s t may. record {
      one = t;
      some = has_first t;
      came = λ x has.
          ⊎_elim
          (λ same. (s, has_first s, subst (MayBecome rules h n r history (seen_by h r) s) (sym same) may))
          (λ none. absurd none)
          (contains_among (t ∷ []) x has);
    };
    to_two = λ history s t u may also. record {
      one = t;
      some = among_contains (t ∷ u ∷ []) t (inl refl);
      came = λ x has.
          ⊎_elim
          (λ same. (s, has_first s, subst (MayBecome rules h n r history (seen_by h r) s) (sym same) may))
          (λ rest.
          ⊎_elim
          (λ same. (s, has_first s, subst (MayBecome rules h n r history (seen_by h r) s) (sym same) also))
          (λ none. absurd none) rest)
          (contains_among (t ∷ u ∷ []) x has);
    };
  }

pub as_asked : NodesActAsAsked
as_asked rules h n r e = nodes_act rules h n r e

pub others_as_asked : OthersActAsAsked
others_as_asked rules h n r = others_act rules h n r

-- ---- tokens

its_own : (s : GroupState) (ge : GroupEvent) → token_of ge None ≡ tokens_of (brought s ge)
its_own s AddGroup = refl
its_own s (Call call now) = sym (tokens_at_place (end_place s.stored) (token_of_call call))
its_own s (Receive peer m now) = refl
its_own s Open = refl

pub names_who_waits : StopsNameWhoWaits
names_who_waits n s ge taken =
    ap (λ o. tokens_of s.untold ++ token_of ge o) (refusals_told n s ge ∙ taken)
    ∙ ap (λ xs. tokens_of s.untold ++ xs) (its_own s ge)
    ∙ sym (map-append (λ (x : Untold). x.token) s.untold (brought s ge))
