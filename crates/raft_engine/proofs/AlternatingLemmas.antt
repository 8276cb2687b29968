-- Leads begin and end in turn.
use Rattle.std.specs.Prelude.{◌≡◌, ◌≢◌, Bool, true, false, not, List, [], ◌∷◌, ◌++◌, refl}
use Rattle.std.specs.List.{flat_map}
use Rattle.std.proofs.Common.{ap, sym, subst}
use Rattle.raft_engine.specs.Turns.{Turn, Leads, MayLead, Waits, TurnStep, BeginsLead, EndsLead, StoresVote, FitsTurn, Turns}
use Rattle.raft_engine.specs.Alternating.{Alternate, LeadsAlternate, words_in, words_of}

-- whether a lead is told of
abbrev is_told : Turn → Bool
is_told Leads = true
is_told MayLead = false
is_told Waits = false

fits : (turn : Turn) (leads : Bool) → FitsTurn turn leads → leads ≡ is_told turn
fits Leads leads h = h
fits MayLead leads h = h
fits Waits leads h = h

untold : (turn : Turn) → turn ≢ Leads → is_told turn ≡ false
untold Leads h = absurd (h refl)
untold MayLead h = refl
untold Waits h = refl

-- one event's words
of_event : (turn : Turn) (steps : List TurnStep) (leads : Bool) → Turns turn steps leads → Alternate (is_told turn) (flat_map words_of steps) leads
of_event turn [] leads h = fits turn leads h
of_event turn (BeginsLead ∷ steps) leads h = (sym (ap (λ t. not (is_told t)) h.0), of_event Leads steps leads h.1)
of_event turn (EndsLead ∷ steps) leads h = (sym (ap (λ t. not (is_told t)) h.0), of_event Waits steps leads h.1)
of_event turn (StoresVote ∷ steps) leads h =
    subst (λ b. Alternate b (flat_map words_of steps) leads) (sym (untold turn h.0)) (of_event MayLead steps leads h.1)

-- words behind others
joined : (leads middle last : Bool) (words more : List Bool) → Alternate leads words middle → Alternate middle more last → Alternate leads (words ++ more) last
joined leads middle last [] more h k = subst (λ b. Alternate b more last) h k
joined leads middle last (word ∷ words) more h k = (h.0, joined word middle last words more h.1 k)

pub leads_in_turn : LeadsAlternate
leads_in_turn leads last [] h = h
leads_in_turn leads last (steps ∷ events) h =
    let first = h.1 in
    joined leads h.0 last (flat_map words_of steps) (words_in events)
    (subst (λ b. Alternate b (flat_map words_of steps) h.0) (sym (fits first.turn leads first.fits)) (of_event first.turn steps h.0 first.turns))
    (leads_in_turn h.0 last events h.2)
