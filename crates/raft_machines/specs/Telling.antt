-- A machine that runs on, and what it answers to the tokens that wait.
use Rattle.std.specs.Prelude.{◌≡◌, ◌==◌, ℕ, ◌+◌, ◌≤◌, nat_lt, if◌then◌else◌, List, [], ◌∷◌, map, take, drop, slice_get, Option, Some, None, option_map}
use Rattle.raft_group_step.specs.Values.{Entry}
use Rattle.raft_group_step.specs.GroupState.{Untold}
use Rattle.raft_machines.specs.declared.telling.Told.{Told}
use Rattle.raft_machines.specs.declared.telling.Untold.{Untold as AnUntold}
use Rattle.raft_machines.specs.Machine.{MachineRules}
use Rattle.raft_machines.specs.Fold.{answer_to_payload, state_from}

-- the state of a machine that has run so many entries of the list
pub record Standing : Type 0 where
  pub state : List ℕ
  pub count : ℕ

-- the state once it has run the rest of this list, too
abbrev pub run_on : MachineRules → Standing → List Entry → List ℕ
run_on rules at es = state_from rules at.state at.count (drop at.count es)

-- its answer as it runs the entry at a place. There is none where it has run that before, or doesn't come so far
abbrev pub answer_on : MachineRules → Standing → List Entry → ℕ → Option (List ℕ)
answer_on rules at es place =
    if nat_lt place at.count then None
    else option_map (λ (e : Entry). answer_to_payload rules (run_on rules at (take place es)) place e.payload) (slice_get es place)

-- the token is told at its place, with the machine's answer as it runs the entry there
pub record IsToldAs (answers : ℕ → Option (List ℕ)) (t : Told) (x : Untold) : Type 0 where
  pub token : t.token ≡ x.token
  pub place : t.place ≡ x.place
  pub answer : answers x.place ≡ Some t.answer

abbrev pub AreToldAs : (ℕ → Option (List ℕ)) → List Told → List Untold → Type 0
AreToldAs answers [] [] = Unit {0}
AreToldAs answers [] (x ∷ xs) = ⊥
AreToldAs answers (t ∷ ts) [] = ⊥
AreToldAs answers (t ∷ ts) (x ∷ xs) = IsToldAs answers t x × AreToldAs answers ts xs

-- the tokens that wait, in the group step's words
abbrev pub untold_of : List AnUntold → List Untold
untold_of waiting = map (λ (x : AnUntold). record { token = x.token; place = x.place }) waiting

-- they wait for rising places, from this one on and below that one
abbrev pub WaitFrom : ℕ → ℕ → List Untold → Type 0
WaitFrom from end [] = Unit {0}
WaitFrom from end (x ∷ xs) = (from ≤ x.place) × (x.place + 1 ≤ end) × WaitFrom (x.place + 1) end xs

-- what is told of an answer at a place: the next token that waits, if it waits for that place
abbrev pub told_at : Option AnUntold → ℕ → List ℕ → List Told
told_at None place answer = []
told_at (Some x) place answer =
    if x.place == place then record { token = x.token; place = place; answer = answer } ∷ [] else []
