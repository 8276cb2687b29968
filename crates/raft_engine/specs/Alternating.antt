-- How the runtime is told of leads over many events.
use Rattle.std.specs.Prelude.{◌≡◌, Bool, true, false, not, List, [], ◌∷◌}
use Rattle.std.specs.List.{flat_map}
use Rattle.raft_engine.specs.Turns.{FitsTurn, Turn, TurnStep, BeginsLead, EndsLead, StoresVote, Turns}

-- what the runtime is told: that a lead begins, or that it ends
abbrev pub words_of : TurnStep → List Bool
words_of BeginsLead = true ∷ []
words_of EndsLead = false ∷ []
words_of StoresVote = []

-- what the queues of many events tell, in their order
abbrev pub words_in : List (List TurnStep) → List Bool
words_in events = flat_map (λ steps. flat_map words_of steps) events

-- each word differs from the one before, from whether a lead is told of before them to whether one is told of after them
abbrev pub Alternate : Bool → List Bool → Bool → Type 0
Alternate leads [] last = last ≡ leads
Alternate leads (word ∷ words) last = (word ≡ not leads) × Alternate word words last

-- an event or a start, from whether the node leads before it to whether it leads after it
pub record EventTurns (leads : Bool) (steps : List TurnStep) (after : Bool) : Type 0 where
  pub turn : Turn
  pub fits : FitsTurn turn leads
  pub turns : Turns turn steps after

-- events that follow one another: each begins with the lead that the one before left
abbrev pub EventsTurn : Bool → List (List TurnStep) → Bool → Type 0
EventsTurn leads [] last = last ≡ leads
EventsTurn leads (steps ∷ events) last = (after : Bool) × EventTurns leads steps after × EventsTurn after events last

-- over all of them leads begin and end in turn
abbrev pub LeadsAlternate : Type 0
LeadsAlternate = (leads last : Bool) (events : List (List TurnStep)) → EventsTurn leads events last → Alternate leads (words_in events) last
