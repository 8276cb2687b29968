-- What was heard of a group's other members.
use Rattle.std.specs.Prelude.{ℕ, Bool, not, ◌&&◌, ◌==◌, if◌then◌else◌, List, map, find, Option, Some, None, unwrap_or}
use Rattle.std.specs.List.{list_any}
use Rattle.std.specs.Option.{option_eq}
use Rattle.raft_values.specs.declared.log_id.LogId.{LogId}
use Rattle.raft_group_step.specs.Values.{log_id_eq}
use Rattle.raft_node_clock.specs.declared.heard.Heard.{Heard}

abbrev pub new_heard : ℕ → Heard
new_heard peer = record { peer = peer; at = None; matched = None }

-- a frame of the peer was taken, which is known to have this now
abbrev pub noted : ℕ → Option (LogId ℕ) → ℕ → Heard → Heard
noted peer matched now h = if h.peer == peer then record { peer = peer; at = Some now; matched = matched } else h

abbrev pub all_noted : ℕ → Option (LogId ℕ) → ℕ → List Heard → List Heard
all_noted peer matched now heards = map (noted peer matched now) heards

-- the peer is known to have another log id than was noted
abbrev pub has_moved : ℕ → Option (LogId ℕ) → List Heard → Bool
has_moved peer matched heards = list_any (λ h. h.peer == peer && not (option_eq log_id_eq h.matched matched)) heards

abbrev pub kept_heard : List Heard → ℕ → Heard
kept_heard heards peer = unwrap_or (find (λ h. h.peer == peer) heards) (new_heard peer)

-- of these peers, as far as they are known
abbrev pub heard_of : List Heard → List ℕ → List Heard
heard_of heards peers = map (kept_heard heards) peers

-- when a node was heard of last: of itself it hears now
abbrev pub heard_at : ℕ → ℕ → List Heard → ℕ → Option ℕ
heard_at own now heards id = if id == own then Some now else (kept_heard heards id).at
