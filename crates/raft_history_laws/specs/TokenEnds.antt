-- Which event brought each token, and how it ends: it is told, or named as unknown, or lost in a crash, and once.
use Rattle.std.specs.Prelude.{◌≡◌, ◌⊎◌, ℕ, suc, ◌==◌, not, Bool, List, [], ◌∷◌, ◌++◌, filter, map, slice_get, take, Option, Some, None, is_some, Contains}
use Rattle.std.specs.List.{list_any}
use Rattle.raft_group_step.specs.StoredGroup.{end_place}
use Rattle.raft_group_step.specs.GroupState.{GroupState, Untold}
use Rattle.raft_group_step.specs.GroupEvent.{GroupCall, GroupEvent, Call}
use Rattle.raft_group_step.specs.StepResult.{RefusalReason, tokens_of}
use Rattle.raft_group_step.specs.Refusal.{refusal_of}
use Rattle.raft_laws.specs.BallotLists.{with_value}
use Rattle.raft_laws.specs.declared.world_event.WorldEvent.{WorldEvent}
use Rattle.raft_laws.specs.declared.world_event.WorldEvent.TheVariants.{Ask}
use Rattle.raft_laws.specs.GroupWorld.{GroupWorld, NodeState, Absent, Up, Down, Outcome, Done, Refused, Stopped, Skipped, new_world}
use Rattle.raft_laws.specs.NodeEvent.{NodeEvent, Comes, Crashes}
use Rattle.raft_laws.specs.GroupRun.{Scene, Nowhere, At, group_run, outcome_of, ran, scene_of}
use Rattle.raft_laws.specs.Stop.{token_of_call}
use Rattle.raft_laws.specs.OneList.{AreNodeIds}
use Rattle.raft_laws.specs.Origins.{Events, world_before}
use Rattle.raft_step_laws.specs.Tokens.{brought}

-- ---- the waiting tokens of each node, with the numbers of the events that brought them

pub record Numbered : Type 0 where
  pub number : ℕ
  pub untold : Untold

abbrev pub untolds : List Numbered → List Untold
untolds ws = map (λ (w : Numbered). w.untold) ws

abbrev pub numbered : ℕ → List Untold → List Numbered
numbered number xs = map (λ (x : Untold). record { number = number; untold = x }) xs

-- an event with this number brings a node its token, unless it is refused
abbrev pub brought_unless : Option RefusalReason → ℕ → GroupState → GroupEvent → List Numbered
brought_unless None number s e = numbered number (brought s e)
brought_unless (Some why) number s e = []

abbrev pub brings : ℕ → ℕ → NodeEvent → NodeState → List Numbered
brings n number (Comes e) (Up s) = brought_unless (refusal_of n s e) number s e
brings n number other state = []

abbrev pub untold_in : NodeState → List Untold
untold_in Absent = []
untold_in (Up s) = s.untold
untold_in (Down stored) = []

abbrev pub has_place : List Untold → ℕ → Bool
has_place xs place = list_any (λ (x : Untold). x.place == place) xs

-- those for whose place a token waits in this state of their node
abbrev pub that_wait : NodeState → List Numbered → List Numbered
that_wait state ws = filter (λ (w : Numbered). has_place (untold_in state) w.untold.place) ws

-- the others have ended
abbrev pub that_ended : NodeState → List Numbered → List Numbered
that_ended state ws = filter (λ (w : Numbered). not (has_place (untold_in state) w.untold.place)) ws

abbrev pub Ledger : Type 0
Ledger = ℕ → List Numbered

-- the ledger behind an event that happens here, in the world next
abbrev pub ledger_behind : ℕ → GroupWorld → GroupWorld → Scene → Ledger → Ledger
ledger_behind number w next Nowhere ledger = ledger
ledger_behind number w next (At n e) ledger =
    with_value ledger n (that_wait (next.nodes n) (ledger n ++ brings n number e (w.nodes n)))

-- the ledger behind a run whose first event has this number
abbrev pub ledger_from : ℕ → Events → GroupWorld → Ledger → Ledger
ledger_from number [] w ledger = ledger
ledger_from number (e ∷ es) w ledger =
    ledger_from (suc number) es (ran w e.0 e.1) (ledger_behind number w (ran w e.0 e.1) (scene_of w e.0) ledger)

-- the ledger of a run from a world where no token waits
abbrev pub ledger_of : Events → GroupWorld → Ledger
ledger_of es w = ledger_from 0 es w (λ n. [])

-- ---- it has just the tokens that wait, each from its event

abbrev pub LedgersHaveTheUntold : Type 0
LedgersHaveTheUntold =
    (ids : List ℕ) → AreNodeIds ids → (es : Events) (n : ℕ)
    → untolds (ledger_of es (new_world ids) n) ≡ untold_in ((group_run es (new_world ids)).nodes n)

-- the event with this number asked the node for a command or a change with this token, which wasn't refused, where the token's
-- place was the node's next one
pub record IsBrought (es : Events) (w : GroupWorld) (number n : ℕ) (x : Untold) : Type 0 where
  pub call : GroupCall
  pub now : ℕ
  pub stop : Option ℕ
  pub state : GroupState
  pub event : slice_get es number ≡ Some (Ask n call now, stop)
  pub is_up : (world_before es number w).nodes n ≡ Up state
  pub taken : refusal_of n state (Call call now) ≡ None
  pub token : token_of_call call ≡ x.token ∷ []
  pub place : x.place ≡ end_place state.stored

abbrev pub WaitingWereBrought : Type 0
WaitingWereBrought =
    (ids : List ℕ) → AreNodeIds ids → (es : Events) (n : ℕ) (w : Numbered)
    → Contains (ledger_of es (new_world ids) n) w → IsBrought es (new_world ids) w.number n w.untold

-- ---- how they end

abbrev pub told_in : Outcome → List Untold
told_in (Done sent told unknown) = told
told_in (Refused why) = []
told_in (Stopped unknown) = []
told_in Skipped = []

abbrev pub unknown_in : Outcome → List ℕ
unknown_in (Done sent told unknown) = unknown
unknown_in (Refused why) = []
unknown_in (Stopped unknown) = unknown
unknown_in Skipped = []

-- the outcome names just those that end, in their order: it tells them all, or has them all as unknown
abbrev pub Names : Outcome → List Numbered → Type 0
Names o ended =
    ((told_in o ≡ untolds ended) × (unknown_in o ≡ []))
    ⊎ ((told_in o ≡ []) × (unknown_in o ≡ tokens_of (untolds ended)))

-- only a crash names nothing
abbrev pub NamesUnlessCrash : NodeEvent → Outcome → List Numbered → Type 0
NamesUnlessCrash Crashes o ended = (told_in o ≡ []) × (unknown_in o ≡ [])
NamesUnlessCrash other o ended = Names o ended

-- the tokens of a node that wait before an event, with the one that it brings
abbrev pub at_stake : Events → GroupWorld → ℕ → ℕ → NodeEvent → List Numbered
at_stake es w number n e = ledger_of (take number es) w n ++ brings n number e ((world_before es number w).nodes n)

-- the token ends in the event with this number, whose outcome names it or is a crash
pub record EndsAt (es : Events) (w : GroupWorld) (n : ℕ) (x : Numbered) (number : ℕ) : Type 0 where
  pub event : WorldEvent
  pub stop : Option ℕ
  pub happened : slice_get es number ≡ Some (event, stop)
  pub at_node : NodeEvent
  pub here : scene_of (world_before es number w) event ≡ At n at_node
  pub ended : Contains (that_ended ((world_before es (suc number) w).nodes n) (at_stake es w number n at_node)) x

-- an event's outcome names the tokens that end in it
abbrev pub EndsAreNamed : Type 0
EndsAreNamed =
    (ids : List ℕ) → AreNodeIds ids → (es : Events) (number n : ℕ) (event : WorldEvent) (stop : Option ℕ) (e : NodeEvent)
    → slice_get es number ≡ Some (event, stop)
    → let w = new_world ids in let before = world_before es number w
    in scene_of before event ≡ At n e
    → NamesUnlessCrash e (outcome_of before event (is_some stop))
    (that_ended ((world_before es (suc number) w).nodes n) (at_stake es w number n e))

-- each token that an event brought waits at the end of the run, or has ended in one event, and in no other
abbrev pub TokensEndOnce : Type 0
TokensEndOnce =
    (ids : List ℕ) → AreNodeIds ids → (es : Events) (number n : ℕ) (x : Untold) → IsBrought es (new_world ids) number n x
    → let w = new_world ids in let token : Numbered = record { number = number; untold = x }
    in (Contains (ledger_of es w n) token × ((at : ℕ) → EndsAt es w n token at → ⊥))
    ⊎ ((at : ℕ) × EndsAt es w n token at × ((other : ℕ) → EndsAt es w n token other → other ≡ at))
