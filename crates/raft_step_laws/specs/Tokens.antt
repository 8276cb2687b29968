-- What becomes of tokens in a step.
use Rattle.std.specs.Prelude.{◌≡◌, ℕ, ◌+◌, ◌<◌, ◌≤◌, Bool, true, false, ◌&&◌, not, List, [], ◌∷◌, ◌++◌, filter, None, All}
use Rattle.raft_group_step.specs.Values.{vote_eq}
use Rattle.raft_group_step.specs.StoredGroup.{end_place}
use Rattle.raft_group_step.specs.GroupState.{GroupState, Role, Follower, Candidate, Leader, Untold, is_leader}
use Rattle.raft_group_step.specs.GroupEvent.{GroupEvent, AddGroup, Call, Receive, Open}
use Rattle.raft_group_step.specs.StepResult.{StepResult, is_within, tokens_of}
use Rattle.raft_group_step.specs.Refusal.{refusal_of}
use Rattle.raft_group_step.specs.GroupStep.{group_step}
use Rattle.raft_laws.specs.Stop.{token_of_call}

-- the node led as the event began, and leads on under the same vote
abbrev pub leads_on : GroupState → GroupState → Bool
leads_on s t = is_leader s.role && (is_leader t.role && vote_eq s.stored.vote t.stored.vote)

-- tokens that are to be told once this place is applied
abbrev pub tokens_at : ℕ → List ℕ → List Untold
tokens_at place [] = []
tokens_at place (t ∷ ts) = record { token = t; place = place } ∷ tokens_at place ts

-- the token that an event brings, with its place
abbrev pub brought : GroupState → GroupEvent → List Untold
brought s AddGroup = []
brought s (Call call now) = tokens_at (end_place s.stored) (token_of_call call)
brought s (Receive peer m now) = []
brought s Open = []

-- the place is committed
abbrev pub is_due : GroupState → Untold → Bool
is_due s x = is_within x.place s.committed

-- where the node leads on, the tokens whose place is committed are told, and the others wait; else all stay unknown
pub record TokensGo (s : GroupState) (e : GroupEvent) (r : StepResult) : Type 0 where
  pub told : leads_on s r.state ≡ true → r.told ≡ filter (is_due r.state) (s.untold ++ brought s e)
  pub waits : leads_on s r.state ≡ true → r.state.untold ≡ filter (λ x. not (is_due r.state x)) (s.untold ++ brought s e)
  pub none_unknown : leads_on s r.state ≡ true → r.unknown ≡ []
  pub unknown : leads_on s r.state ≡ false → r.unknown ≡ tokens_of s.untold
  pub none_told : leads_on s r.state ≡ false → r.told ≡ []
  pub none_waits : leads_on s r.state ≡ false → r.state.untold ≡ []

-- the node is a candidate or leads
abbrev pub seeks_or_leads : Role → Bool
seeks_or_leads Follower = false
seeks_or_leads (Candidate granters) = true
seeks_or_leads (Leader lead) = true

-- a candidate's and a leader's vote is its own
abbrev pub HasItsOwnVote : ℕ → GroupState → Type 0
HasItsOwnVote own s = seeks_or_leads s.role ≡ true → s.stored.vote.leader_id.node_id ≡ own

-- tokens wait at a leader alone
abbrev pub WaitsLeading : GroupState → Type 0
WaitsLeading s = is_leader s.role ≡ false → s.untold ≡ []

-- none waits as a node is opened
abbrev pub OpensWithNone : GroupState → GroupEvent → Type 0
OpensWithNone s AddGroup = Unit {0}
OpensWithNone s (Call call now) = Unit {0}
OpensWithNone s (Receive peer m now) = Unit {0}
OpensWithNone s Open = s.untold ≡ []

-- so it is in each step that isn't refused
abbrev pub TokensOfSteps : Type 0
TokensOfSteps =
    (own : ℕ) (s : GroupState) (e : GroupEvent) → HasItsOwnVote own s → WaitsLeading s → OpensWithNone s e
    → refusal_of own s e ≡ None → TokensGo s e (group_step own s e)

-- what the law asks of a state, each step keeps
abbrev pub VotesStayOwn : Type 0
VotesStayOwn =
    (own : ℕ) (s : GroupState) (e : GroupEvent) → HasItsOwnVote own s → HasItsOwnVote own (group_step own s e).state

abbrev pub TokensWaitLeading : Type 0
TokensWaitLeading =
    (own : ℕ) (s : GroupState) (e : GroupEvent) → HasItsOwnVote own s → WaitsLeading s → OpensWithNone s e
    → WaitsLeading (group_step own s e).state

-- what waits stands above all that is committed
abbrev pub WaitsAbove : GroupState → Type 0
WaitsAbove s = All (λ x. is_due s x ≡ false) s.untold

abbrev pub UntoldIsAbove : Type 0
UntoldIsAbove =
    (own : ℕ) (s : GroupState) (e : GroupEvent) → HasItsOwnVote own s → WaitsLeading s → OpensWithNone s e
    → WaitsAbove s → WaitsAbove (group_step own s e).state

-- the places rise, from this one on
abbrev pub RiseFrom : ℕ → List Untold → Type 0
RiseFrom start [] = Unit {0}
RiseFrom start (x ∷ xs) = (start ≤ x.place) × RiseFrom (x.place + 1) xs

-- tokens wait by rising place, each below the log's end
pub record WaitsInOrder (s : GroupState) : Type 0 where
  pub rising : RiseFrom 0 s.untold
  pub below : All (λ (x : Untold). x.place < end_place s.stored) s.untold

-- then they are told by rising place, and the others wait so
abbrev pub TokensGoInOrder : Type 0
TokensGoInOrder =
    (own : ℕ) (s : GroupState) (e : GroupEvent) → HasItsOwnVote own s → WaitsLeading s → OpensWithNone s e
    → WaitsInOrder s → refusal_of own s e ≡ None
    → RiseFrom 0 (group_step own s e).told × RiseFrom 0 (group_step own s e).state.untold
