-- The small histories of the rows replay.
use Rattle.std.specs.Prelude.{◌≡◌, ℕ, Bool, true, false, List, [], ◌∷◌, ◌++◌, Option, Some, None, Contains, refl}
use Rattle.std.proofs.Common.{sym, ap, ◌∙◌, subst, arith}
use Rattle.std.proofs.lemmas.List.{append-nil}
use Rattle.raft_group_step.specs.StoredGroup.{Snapshot}
use Rattle.raft_group_step.specs.StepResult.{NotLeader}
use Rattle.raft_group_step.specs.GroupStep.{group_step}
use Rattle.raft_group_step.specs.declared.group_call.GroupCall.TheVariants.{Propose}
use Rattle.raft_laws.specs.declared.world_event.WorldEvent.{WorldEvent}
use Rattle.raft_laws.specs.declared.world_event.WorldEvent.TheVariants as event
use Rattle.raft_laws.specs.GroupWorld.{is_stop}
use Rattle.raft_laws.specs.GroupRun.{Scene, Nowhere, At, happens, outcome_of, scene_of}
use Rattle.raft_laws.specs.OneList.{applied_list}
use Rattle.raft_laws.specs.Example.{add}
use Rattle.raft_laws.specs.OneVoter.{one}
use Rattle.raft_laws.specs.NodeEvent.{Crashes}
use Rattle.raft_headline.specs.ClusterEvent.{AddGroup, Done, Opened, PassedOver, Recorded, Refused, Reopen, Stopped, is_stopped, silent}
use Rattle.raft_headline.specs.Machines.{GivesRightly, MachinesMove, MachinesMoveIn, Replicas, StandsAt, Turn, asked_by, brought_by, given_of, machines_after, new_replicas, turn_of}
use Rattle.raft_machines.specs.Telling.{answer_on, run_on}
use Rattle.raft_headline.specs.Happened.{Happened}
use Rattle.raft_headline.specs.Replaying.{CrashStep, IsThere, OwnStep, ReplaysWith, Says, is_opening}
use Rattle.raft_headline.specs.Rows.{LeadsTo, asks_seven, at_one, at_the_end, before_told, behind_told, collecting, history, noted_again, proposes, set_up, tells, told_at, told_event, unknown_of, until_stopped}
use Rattle.raft_headline.proofs.AsGroup.{crash_turn}

-- ---- what an event leaves where no snapshot is restored, brought or asked for

abbrev pub turn_in : Replicas → Scene → Option Turn
turn_in old Nowhere = None
turn_in old (At n e) = turn_of collecting n (old.machines n) e (old.world.nodes n)

abbrev pub node_in : Scene → ℕ
node_in Nowhere = 0
node_in (At n e) = n

abbrev pub machines_by : Replicas → ℕ → Bool → Option Turn → ℕ → List ℕ
machines_by old n stops None = old.machines
machines_by old n stops (Some turn) =
    machines_after stops n (run_on collecting turn.before (applied_list (group_step n turn.state turn.event).state)) old.machines

abbrev pub answers_by : ℕ → Option Turn → ℕ → Option (List ℕ)
answers_by n None = λ place. None
answers_by n (Some turn) = answer_on collecting turn.before (applied_list (group_step n turn.state turn.event).state)

abbrev pub behind : Replicas → WorldEvent → Bool → ℕ → Replicas
behind old e stopped k =
    record {
      world = happens old.world e (outcome_of old.world e stopped) k;
      machines = machines_by old (node_in (scene_of old.world e)) (is_stop (outcome_of old.world e stopped)) (turn_in old (scene_of old.world e));
      built = old.built;
    }

pub record NoSnapshot (n : ℕ) (turn : Turn) : Type 0 where
  pub restores : turn.restores ≡ None
  pub brings : brought_by turn.event (group_step n turn.state turn.event).commands ≡ []
  pub asks : asked_by turn.event (group_step n turn.state turn.event).commands ≡ []

abbrev pub NoSnapshots : ℕ → Option Turn → Type 0
NoSnapshots n None = Unit {0}
NoSnapshots n (Some turn) = NoSnapshot n turn

no_item : {P : Type 0} (x : Snapshot) → Contains [] x → P
no_item x has = let l = has.1 in absurd (omega arith)

turns : (old new : Replicas) (n : ℕ) (stops : Bool) (o : Option Turn) → new.built ≡ old.built → new.machines ≡ machines_by old n stops o → NoSnapshots n o → MachinesMove collecting n o stops old new (answers_by n o)
turns old new n stops None built machines plain = record { machines = machines; built = built }
turns old new n stops (Some turn) built machines plain = record {
  at = turn.before;
  stands = subst (λ o. StandsAt collecting old.built turn.before o turn.before) (sym plain.restores) refl;
  machines = machines;
  answered = refl;
  brought = λ x has. no_item x (subst (λ l. Contains l x) plain.brings has);
  rightly = subst (GivesRightly collecting turn.before.state) (sym plain.asks) tt;
  given = built ∙ sym (append-nil old.built) ∙ sym (ap (λ l. old.built ++ given_of collecting turn.before.state l) plain.asks);
}

moves : (old new : Replicas) (stops : Bool) (scene : Scene) → new.built ≡ old.built → new.machines ≡ machines_by old (node_in scene) stops (turn_in old scene) → NoSnapshots (node_in scene) (turn_in old scene)
    → MachinesMoveIn collecting scene stops old new (answers_by (node_in scene) (turn_in old scene))
moves old new stops Nowhere built machines plain = record { machines = machines; built = built }
moves old new stops (At n e) built machines plain = turns old new n stops (turn_of collecting n (old.machines n) e (old.world.nodes n)) built machines plain

abbrev pub answers_in : Replicas → WorldEvent → ℕ → Option (List ℕ)
answers_in old e = answers_by (node_in (scene_of old.world e)) (turn_in old (scene_of old.world e))

own : (old : Replicas) (e : WorldEvent) (r : Recorded) (k : ℕ) → IsThere (scene_of old.world e) r.node → NoSnapshots (node_in (scene_of old.world e)) (turn_in old (scene_of old.world e))
    → Says 7 (is_opening e) (answers_in old e) r.outcome (outcome_of old.world e (is_stopped r.outcome)) → OwnStep collecting 7 e r k old (behind old e (is_stopped r.outcome) k)
own old e r k there plain says = record {
  answers = answers_in old e;
  there = there;
  world = refl;
  machines = moves old (behind old e (is_stopped r.outcome) k) (is_stop (outcome_of old.world e (is_stopped r.outcome))) (scene_of old.world e) refl refl plain;
  says = says;
}

-- a crash leaves the machines
machines_stay : (old : Replicas) (stops : Bool) (o : Option Turn) → o ≡ None → machines_by old 1 stops o ≡ old.machines
machines_stay old stops o none = ap (machines_by old 1 stops) none

crash : (old : Replicas) → CrashStep collecting 7 1 (Done silent) old (behind old (event.Crash 1) false 0)
crash old = record {
  world = refl;
  machines = record {
    machines = machines_stay old (is_stop (outcome_of old.world (event.Crash 1) false)) (turn_of collecting 1 (old.machines 1) Crashes (old.world.nodes 1)) (crash_turn collecting 1 (old.world.nodes 1) (old.machines 1));
    built = refl;
  };
  says = refl;
}

-- ---- where the histories come

abbrev pub start : Replicas
start = new_replicas collecting one

abbrev pub added : Replicas
added = behind start (event.Add 1) false 0

abbrev pub has_refused : Replicas
has_refused = behind added (event.Ask 1 (Propose (add 8) 4) 0) false 0

abbrev pub is_set_up : Replicas
is_set_up = behind has_refused (event.Ask 1 set_up 0) false 0

abbrev pub after_told : Replicas
after_told = behind is_set_up (event.Ask 1 (Propose (add 5) 1) 0) false 0

abbrev pub halted : Replicas
halted = behind after_told (event.Halt 1) true 0

abbrev pub passed_over : Replicas
passed_over = behind halted (event.Ask 1 (Propose (add 7) 3) 0) false 0

abbrev pub reopened : Replicas
reopened = behind passed_over (event.Restart 1) false 0

-- the command's storing command counts or not
abbrev pub stopped : ℕ → Replicas
stopped k = behind reopened (event.Ask 1 (Propose (add 7) 5) 0) true k

abbrev pub crashed : ℕ → Replicas
crashed k = behind (stopped k) (event.Crash 1) false 0

abbrev pub opened_again : Replicas
opened_again = behind (stopped 0) (event.Restart 1) false 0

abbrev pub told_again : Replicas
told_again = behind opened_again (event.Ask 1 (Propose (add 7) 6) 0) false 0

-- ---- step by step

pub before_told_runs : (numbers : List ℕ) (rest : List Recorded) (end : Replicas) → ReplaysWith collecting 7 is_set_up rest numbers end → ReplaysWith collecting 7 start (before_told ++ rest) numbers end
before_told_runs numbers rest end run = (
  record { number = 0; others = numbers; numbered = refl; new = added; step = own start (event.Add 1) (at_one (AddGroup 1 7) (Done silent)) 0 refl (record { restores = refl; brings = refl; asks = refl }) (record { sent = refl; told = tt; unknown = refl }) },
  (
    record { number = 0; others = numbers; numbered = refl; new = has_refused; step = own added (event.Ask 1 (Propose (add 8) 4) 0) (at_one (proposes 8 4) (Refused (NotLeader None))) 0 refl (record { restores = refl; brings = refl; asks = refl }) refl },
    (
      record { number = 0; others = numbers; numbered = refl; new = is_set_up; step = own has_refused (event.Ask 1 set_up 0) (at_one (asks_seven set_up) (Done silent)) 0 refl (record { restores = refl; brings = refl; asks = refl }) (record { sent = refl; told = tt; unknown = refl }) },
      (
        record { number = 0; others = numbers; numbered = refl; new = is_set_up; step = refl },
        run,
      ),
    ),
  ),
)

pub told_runs : (numbers : List ℕ) (rest : List Recorded) (end : Replicas) → ReplaysWith collecting 7 after_told rest numbers end → ReplaysWith collecting 7 is_set_up (told_event ∷ rest) numbers end
told_runs numbers rest end run = (
  record { number = 0; others = numbers; numbered = refl; new = after_told; step = own is_set_up (event.Ask 1 (Propose (add 5) 1) 0) told_event 0 refl (record { restores = refl; brings = refl; asks = refl }) (record { sent = refl; told = (record { token = refl; place = refl; answer = refl }, tt); unknown = refl }) },
  run,
)

pub behind_told_runs : (k : ℕ) (rest : List Recorded) (end : Replicas) → ReplaysWith collecting 7 (stopped k) rest [] end → ReplaysWith collecting 7 after_told (behind_told ++ rest) (k ∷ []) end
behind_told_runs k rest end run = (
  record { number = 0; others = k ∷ []; numbered = refl; new = halted; step = record { world = refl; machines = record { machines = refl; built = refl }; says = tt } },
  (
    record { number = 0; others = k ∷ []; numbered = refl; new = passed_over; step = own halted (event.Ask 1 (Propose (add 7) 3) 0) (at_one (proposes 7 3) PassedOver) 0 refl tt refl },
    (
      record { number = 0; others = k ∷ []; numbered = refl; new = reopened; step = own passed_over (event.Restart 1) (at_one (Reopen 1) (Opened ((7, silent) ∷ (9, silent) ∷ []))) 0 refl (record { restores = refl; brings = refl; asks = refl }) (record { sent = refl; told = tt; unknown = refl }) },
      (
        record { number = k; others = []; numbered = refl; new = stopped k; step = own reopened (event.Ask 1 (Propose (add 7) 5) 0) (at_one (proposes 7 5) (Stopped (unknown_of 7 5 ∷ []))) k refl (record { restores = refl; brings = refl; asks = refl }) refl },
        run,
      ),
    ),
  ),
)

until_stopped_runs : (k : ℕ) (rest : List Recorded) (end : Replicas) → ReplaysWith collecting 7 (stopped k) rest [] end → LeadsTo (until_stopped ++ rest) (k ∷ []) end
until_stopped_runs k rest end run =
    before_told_runs (k ∷ []) (told_event ∷ behind_told ++ rest) end
    (told_runs (k ∷ []) (behind_told ++ rest) end (behind_told_runs k rest end run))

pub at_end_runs : (k : ℕ) → ReplaysWith collecting 7 (stopped k) at_the_end [] (crashed k)
at_end_runs k = (
  record { number = 0; others = []; numbered = refl; new = crashed k; step = crash (stopped k) },
  (record { number = 0; others = []; numbered = refl; new = crashed k; step = refl }, (refl, refl)),
)

pub history_runs : (k : ℕ) → LeadsTo history (k ∷ []) (crashed k)
history_runs k = until_stopped_runs k at_the_end (crashed k) (at_end_runs k)

-- the told event happened
pub told_happened : Happened collecting one 7 history (crashed 0) told_event is_set_up after_told
told_happened = record {
  before = before_told;
  after = behind_told ++ at_the_end;
  cut = refl;
  reached = ([], before_told_runs [] [] is_set_up (refl, refl));
  step = ([], told_runs [] [] after_told (refl, refl));
  rest = (0 ∷ [], behind_told_runs 0 at_the_end (crashed 0) (at_end_runs 0));
}

pub noted_again_runs : LeadsTo noted_again (0 ∷ []) told_again
noted_again_runs =
    until_stopped_runs 0
    (at_one (Reopen 1) (Opened ((7, silent) ∷ (9, silent) ∷ [])) ∷ at_one (proposes 7 6) (Done (tells (told_at 6 3 (3 ∷ add 5 ++ add 7)))) ∷ []) told_again (
      record { number = 0; others = []; numbered = refl; new = opened_again; step = own (stopped 0) (event.Restart 1) (at_one (Reopen 1) (Opened ((7, silent) ∷ (9, silent) ∷ []))) 0 refl (record { restores = refl; brings = refl; asks = refl }) (record { sent = refl; told = tt; unknown = refl }) },
      (record { number = 0; others = []; numbered = refl; new = told_again; step = own opened_again (event.Ask 1 (Propose (add 7) 6) 0) (at_one (proposes 7 6) (Done (tells (told_at 6 3 (3 ∷ add 5 ++ add 7))))) 0 refl (record { restores = refl; brings = refl; asks = refl }) (record { sent = refl; told = (record { token = refl; place = refl; answer = refl }, tt); unknown = refl }) }, (refl, refl)),
    )
