-- Each token that an event of a run tells stands for the entry that its own event wrote.
use Rattle.std.specs.Prelude.{◌≡◌, ℕ, ◌<◌, Bool, true, false, List, [], ◌∷◌, ◌++◌, length, slice_get, Option, Some, None, is_some, refl}
use Rattle.std.proofs.Common.{inl, inr, sym, ap, ◌∙◌, subst, arith, leb-true, append_assoc, append-nil}
use Rattle.raft_group_step.specs.Values.{Entry, has_id, Membership}
use Rattle.raft_group_step.specs.GroupState.{GroupState, Untold, no_group, state_of}
use Rattle.raft_group_step.specs.GroupEvent.{GroupCall}
use Rattle.raft_laws.specs.declared.world_event.WorldEvent.{WorldEvent}
use Rattle.raft_laws.specs.GroupWorld.{GroupWorld, Absent, Up, new_world, state_or}
use Rattle.raft_laws.specs.GroupRun.{group_run, history_of, outcome_of, ran}
use Rattle.raft_laws.specs.Stop.{token_of_call}
use Rattle.raft_laws.specs.OneList.{AreNodeIds, IsGroupHistory}
use Rattle.raft_laws.specs.Origins.{Events, IsAskedAt, ToldTokensStand}
use Rattle.raft_laws.proofs.BallotAgreement.{same_some}
use Rattle.raft_laws.proofs.Counts.{contains_at}
use Rattle.raft_group_step.specs.StoredGroup.{held}
use Rattle.raft_group_step.specs.StepResult.{is_within}
use Rattle.raft_laws.specs.Settled.{group_list}
use Rattle.raft_laws.proofs.Committed.{committed_holds}
use Rattle.raft_laws.proofs.Runs.{run-replays}
use Rattle.raft_laws.proofs.StepEntries.{each_at}
use Rattle.raft_laws.proofs.WorldOrigins.{asked_at, run_more}
use Rattle.raft_laws.proofs.WorldRuns.{SetUpWith, setup_stays}
use Rattle.raft_laws.proofs.WorldStart.{history_matches}
use Rattle.raft_laws.proofs.WorldTokens.{CallsToken, NodeTokens, Teller, TokensAfter, TokensWorld, ran_tokens}

pub run_both : (pre post : Events) (w : GroupWorld) → group_run (pre ++ post) w ≡ group_run post (group_run pre w)
run_both [] post w = refl
run_both (x ∷ pre) post w = run_both pre post (ran w x.0 x.1)

-- ---- a group that a world is of

abbrev any_group : Membership
any_group = record { configs = (0 ∷ []) ∷ []; nodes = [] }

record GroupOf (w : GroupWorld) : Type 0 where
  membership : Membership
  some : 0 < length membership.configs
  known : SetUpWith membership w

group_of : (w : GroupWorld) → GroupOf w
group_of w = go w.setup refl
  where
    of : (m : Membership) (configs : List (List ℕ)) → m.configs ≡ configs → w.setup ≡ Some m → GroupOf w
    of m [] none is =
        record {
          membership = any_group;
          some = omega arith;
          known = λ x e. inr (ap (λ (y : Membership). y.configs) (same_some (sym e ∙ is)) ∙ none);
        }
    of m (group ∷ groups) voters is =
        record {
          membership = m;
          some = let n = ap (λ (cs : List (List ℕ)). length cs) voters in omega arith;
          known = λ x e. inl (same_some (sym e ∙ is));
        }

    go : (o : Option Membership) → w.setup ≡ o → GroupOf w
    go None is =
        record {
          membership = any_group;
          some = omega arith;
          known = λ x e. absurd (let f : None ≡ Some x = sym is ∙ e in cc);
        }
    go (Some m) is = of m m.configs refl is

-- the token was brought by an event that wrote the entry
abbrev pub Brought : Events → GroupWorld → Untold → Entry → Type 0
Brought es w x e = (number : ℕ) × (call : GroupCall) × IsAskedAt es w number call e × (token_of_call call ≡ x.token ∷ [])

start_tokens : (Q : Untold → Entry → Type 0) (b : Bool) → NodeTokens Q (state_or b (Up (state_of no_group)) Absent)
start_tokens Q true = record { untold = tt; leads = λ n. refl }
start_tokens Q false = tt

module _ (ids : List ℕ) (small : AreNodeIds ids) (es : Events) where
  abbrev first : GroupWorld
  first = new_world ids

  abbrev Q : Untold → Entry → Type 0
  Q = Brought es first

  -- what a call's token stands for
  brought : (pre post : Events) (event : WorldEvent) (stop : Option ℕ) → es ≡ pre ++ (event, stop) ∷ post → CallsToken Q (group_run pre first) event (is_some stop)
  brought pre post event stop split = λ n call now s ask up same taken going e token writes is. (
    length pre,
    call,
    asked_at es pre post event stop first split n call now s ask up same taken
        (λ t. absurd (let f : true ≡ false = sym t ∙ going in cc)) e writes,
    is,
  )

  module _ (m : Membership) (some : 0 < length m.configs) (known : SetUpWith m (group_run es first)) where
    known_at : (pre post : Events) → es ≡ pre ++ post → SetUpWith m (group_run pre first)
    known_at pre post split x e =
        let middle = group_run pre first in
        let end : group_run es first ≡ group_run post middle = ap (λ (xs : Events). group_run xs first) split ∙ run_both pre post first in
        known x (ap (λ (w : GroupWorld). w.setup) end ∙ setup_stays (history_of post middle) middle (group_run post middle) (run-replays post middle) x e)

    next_tokens : (pre post : Events) (x : WorldEvent × Option ℕ) → es ≡ pre ++ x ∷ post → TokensWorld Q (group_run pre first) → TokensAfter Q (outcome_of (group_run pre first) x.0 (is_some x.1)) (ran (group_run pre first) x.0 x.1)
    next_tokens pre post x split h =
        let w = group_run pre first in
        let here = known_at pre (x ∷ post) split in
        let on = history_matches m some ids small (history_of pre first) w (run-replays pre first) here in
        let next : SetUpWith m (ran w x.0 x.1) =
        subst (SetUpWith m) (run_more pre x first) (known_at (pre ++ x ∷ []) post (split ∙ sym (append_assoc pre (x ∷ []) post)))
        in
        ran_tokens Q m some w on.before on.fits here x.0 x.1 next h (brought pre post x.0 x.1 split)

    tokens_from : (pre more post : Events) → es ≡ pre ++ (more ++ post) → TokensWorld Q (group_run pre first) → TokensWorld Q (group_run (pre ++ more) first)
    tokens_from pre [] post split h = subst (λ (xs : Events). TokensWorld Q (group_run xs first)) (sym (append-nil pre)) h
    tokens_from pre (x ∷ more) post split h =
        let one = next_tokens pre (more ++ post) x split h in
        subst (λ (xs : Events). TokensWorld Q (group_run xs first)) (append_assoc pre (x ∷ []) more)
        (tokens_from (pre ++ x ∷ []) more post (split ∙ sym (append_assoc pre (x ∷ []) (more ++ post)))
        (subst (TokensWorld Q) (sym (run_more pre x first)) one.tokens))

-- what a node knows to be committed is on the list
listed : (ids : List ℕ) → AreNodeIds ids → (es : Events) (n : ℕ) (s : GroupState) → (group_run es (new_world ids)).nodes n ≡ Up s → (o : Option ℕ) → s.committed ≡ o → (place : ℕ) → is_within place o ≡ true → slice_get (held s.stored) place ≡ slice_get (group_list (group_run es (new_world ids))) place
listed ids small es n s up None is place within = absurd (let f : false ≡ true = within in cc)
listed ids small es n s up (Some c) is place within =
    let history : IsGroupHistory ids (history_of es (new_world ids)) (group_run es (new_world ids)) =
    record { node_ids = small; replays = run-replays es (new_world ids) }
    in
    let holds = committed_holds ids (history_of es (new_world ids)) (group_run es (new_world ids)) history n s up c is in
    holds.same place (leb-true place c within)

pub told_tokens_stand : ToldTokensStand
told_tokens_stand ids small es last sent told unknown is x among =
    let all = es ++ last ∷ [] in
    let w = new_world ids in
    let g = group_of (group_run all w) in
    let start : TokensWorld (Brought all w) w = λ n. start_tokens (Brought all w) (has_id ids n) in
    let before = tokens_from ids small all g.membership g.some g.known [] es (last ∷ []) refl start in
    let after = next_tokens ids small all g.membership g.some g.known es [] last refl before in
    let at = contains_at told x among in
    let teller = each_at (Teller (Brought all w) (ran (group_run es w) last.0 last.1)) told at.0 x (after.tells sent told unknown is) at.1 in
    let f = teller.fits in
    let up = ap (λ (v : GroupWorld). v.nodes teller.node) (run_more es last w) ∙ teller.is_up in
    let same = listed ids small all teller.node teller.state up teller.state.committed refl x.place f.1 in
    record {
      number = f.0.2.0;
      call = f.0.2.1;
      entry = f.0.0;
      asked = f.0.2.2;
      token = f.0.2.3;
      node = teller.node;
      state = teller.state;
      is_up = up;
      place = f.0.1;
      committed = f.1;
      on_list = sym same ∙ f.0.1;
    }
