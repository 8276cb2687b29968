-- When a leader's peers were last heard of.
use Rattle.std.specs.Prelude.{◌≡◌, ◌⊎◌, ℕ, Bool, true, false, ◌&&◌, nat_eq, if◌then◌else◌, Option, Some, None, unwrap_or}
use Rattle.std.specs.Option.{option_cmp}
use Rattle.std.specs.Ordering.{nat_cmp}
use Rattle.raft_progress.specs.Granted.{IsGranted}
use Rattle.raft_progress.specs.Parts.{SetsValue, value_of}
use Rattle.raft_progress.specs.Values.{rises_above}
use Rattle.raft_quorums.specs.Quorum.{is_quorum}
use Rattle.raft_group_step.specs.Values.{vote_eq}
use Rattle.raft_group_step.specs.Message.{ReplyFields, ReplyResult, Success, PartialSuccess, Conflict, HigherVote}
use Rattle.raft_group_step.specs.Peer.{is_answer_to}
use Rattle.raft_leaders.specs.Leader.{LeaderValue, peer_at}
use Rattle.raft_engine.specs.Standing.{EffectiveMembership, outstanding_of}

-- the moment is later than the one at which the peer was last heard of, or the first one
abbrev pub is_later_than_heard : LeaderValue ℕ EffectiveMembership → ℕ → ℕ → Bool
is_later_than_heard l n time = rises_above (option_cmp nat_cmp) (λ t. t) (value_of nat_eq l.clock_progress n) (Some time)

-- the leader has heard of the peer at this moment, if that is later than before, and nothing else changes
pub record HearsOf (n time : ℕ) (l l' : LeaderValue ℕ EffectiveMembership) : Type 0 where
  pub rises : is_later_than_heard l n time ≡ true → SetsValue nat_eq l.clock_progress l'.clock_progress n (Some time)
  pub unless_it_rises : is_later_than_heard l n time ≡ false → l' ≡ l
  pub rest : l' ≡ record l { clock_progress = l'.clock_progress }

-- so has the one that leads, if there is one
abbrev pub IsHeardOf : ℕ → ℕ → Option (LeaderValue ℕ EffectiveMembership) → Option (LeaderValue ℕ EffectiveMembership) → Type 0
IsHeardOf n time None None = Unit {0}
IsHeardOf n time None (Some l) = ⊥
IsHeardOf n time (Some l) None = ⊥
IsHeardOf n time (Some l) (Some l') = HearsOf n time l l'

-- this is the latest moment at or after which a quorum was heard of
abbrev pub IsQuorumHeardAt : Option ℕ → LeaderValue ℕ EffectiveMembership → Type 0
IsQuorumHeardAt moment l =
    IsGranted nat_eq (option_cmp nat_cmp) (λ t. t) (is_quorum l.clock_progress.quorum_set.membership.configs) None moment l.clock_progress.voters

-- a peer that says so has taken the vote of the request for the one in force
abbrev pub is_taken : ReplyResult → Bool
is_taken Success = true
is_taken (PartialSuccess last) = true
is_taken Conflict = true
is_taken (HigherVote vote) = false

-- the reply answers the request that is on its way to the peer, under this leader's vote, and the peer has taken that for the one in force
abbrev pub shows_following : ℕ → ReplyFields → Option (LeaderValue ℕ EffectiveMembership) → Bool
shows_following peer reply None = false
shows_following peer reply (Some l) =
    vote_eq reply.vote l.vote && (is_answer_to reply (outstanding_of (peer_at nat_eq l peer).inflight) && is_taken reply.outcome)

-- the moment at which the reply shows that the peer has followed, or later: the one at which the request left, if that is known
abbrev pub moment_shown : ℕ → ReplyFields → Option ℕ → Option (LeaderValue ℕ EffectiveMembership) → Option ℕ
moment_shown peer reply sent leader = if shows_following peer reply leader then sent else None

-- when the leader last heard of the node, if it did
abbrev pub heard_at : LeaderValue ℕ EffectiveMembership → ℕ → Option ℕ
heard_at l n = unwrap_or (value_of nat_eq l.clock_progress n) None

-- when a node was last heard of, once the peer was heard of at this moment, if at any: clocks don't go back
abbrev pub heard_after : LeaderValue ℕ EffectiveMembership → ℕ → Option ℕ → ℕ → Option ℕ
heard_after l peer None n = heard_at l n
heard_after l peer (Some time) n = if nat_eq peer n && is_later_than_heard l peer time then Some time else heard_at l n

-- whoever leads on has heard of each node when it had before, and of the peer at this moment, if at any; no lead begins
abbrev pub HearsAfter : ℕ → Option ℕ → Option (LeaderValue ℕ EffectiveMembership) → Option (LeaderValue ℕ EffectiveMembership) → Type 0
HearsAfter peer time old None = Unit {0}
HearsAfter peer time None (Some l) = ⊥
HearsAfter peer time (Some l) (Some l') = (n : ℕ) → heard_at l' n ≡ heard_after l peer time n

-- whoever leads on has heard of each node when it had before; no lead begins
abbrev pub KeepsHeard : Option (LeaderValue ℕ EffectiveMembership) → Option (LeaderValue ℕ EffectiveMembership) → Type 0
KeepsHeard old None = Unit {0}
KeepsHeard None (Some l) = ⊥
KeepsHeard (Some l) (Some l') = (n : ℕ) → heard_at l' n ≡ heard_at l n

-- whoever leads has heard of nobody
abbrev pub HasHeardOfNobody : Option (LeaderValue ℕ EffectiveMembership) → Type 0
HasHeardOfNobody None = Unit {0}
HasHeardOfNobody (Some l) = (n : ℕ) → heard_at l n ≡ None

-- whoever leads on has heard of each node when it had before, and a lead that begins has heard of nobody
abbrev pub KeepsHeardOrBegins : Option (LeaderValue ℕ EffectiveMembership) → Option (LeaderValue ℕ EffectiveMembership) → Type 0
KeepsHeardOrBegins old new = KeepsHeard old new ⊎ HasHeardOfNobody new
