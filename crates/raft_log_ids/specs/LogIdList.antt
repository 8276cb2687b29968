-- A log's ids as a full list, and the keys from which it is made.
use Rattle.std.specs.Prelude.{◌≡◌, ℕ, zero, suc, ◌+◌, ◌-◌, ◌<◌, ◌≤◌, ◌==◌, Bool, true, false, not, if◌then◌else◌, nat_lt, nat_le, List}
use Rattle.std.specs.Prelude.{[], ◌∷◌, ◌++◌, map, length, take, slice_set, Option, Some, None}
use Rattle.std.specs.List.{range_with_len, slice_get, filter, find, fold, list_all}
use Rattle.std.specs.declared.cmp.Ordering.{Ordering}
use Rattle.std.specs.Ordering.{is_eq}
use Rattle.raft_values.specs.declared.vote.LeaderId.{LeaderId}
use Rattle.raft_values.specs.declared.log_id.LogId.{LogId}
use Rattle.raft_values.specs.Vote.{leader_cmp}

module _ {K : Type 0} where
  -- a leader's log ids at the places from one up to, not with, another
  abbrev pub leader_ids : LeaderId K → ℕ → ℕ → List (LogId K)
  leader_ids leader from to =
      map (λ index. record { leader_id = leader; index = index }) (range_with_len from (to - from))

  -- where the leader of a key ends: at the next key, or right behind the last one
  abbrev pub end_of_key : LogId K → List (LogId K) → ℕ
  end_of_key key [] = key.index + 1
  end_of_key key (next ∷ keys) = next.index

  -- the full list: the places between two keys have the leader of the key before them
  abbrev pub ids_of : List (LogId K) → List (LogId K)
  ids_of [] = []
  ids_of (key ∷ keys) = leader_ids key.leader_id key.index (end_of_key key keys) ++ ids_of keys

  -- the last of the log ids
  abbrev pub last_id : List (LogId K) → Option (LogId K)
  last_id ids = slice_get ids (length ids - 1)

  -- the log id at a place
  abbrev pub id_at : List (LogId K) → ℕ → Option (LogId K)
  id_at ids index = find (λ id. id.index == index) ids

  -- the log id before a place
  abbrev pub id_before : List (LogId K) → ℕ → Option (LogId K)
  id_before ids zero = None
  id_before ids (suc index) = id_at ids index

  -- the log ids between the last one and a place: they have the last one's leader
  abbrev pub ids_between : Option (LogId K) → ℕ → List (LogId K)
  ids_between None index = []
  ids_between (Some last) index = leader_ids last.leader_id (last.index + 1) index

  -- the log id behind the others, and the places between filled
  abbrev pub appended : List (LogId K) → LogId K → List (LogId K)
  appended ids id = ids ++ ids_between (last_id ids) id.index ++ id ∷ []

  -- the log ids behind the others, one after the other
  abbrev pub extended : List (LogId K) → List (LogId K) → List (LogId K)
  extended ids more = fold appended ids more

  -- the log ids below a place
  abbrev pub truncated : List (LogId K) → ℕ → List (LogId K)
  truncated ids at = filter (λ id. nat_lt id.index at) ids

  -- the log ids from a place on
  abbrev pub from_place : ℕ → List (LogId K) → List (LogId K)
  from_place index ids = filter (λ id. nat_le index id.index) ids

  -- the log ids, or where there are none this one alone
  abbrev pub or_alone : List (LogId K) → LogId K → List (LogId K)
  or_alone [] upto = upto ∷ []
  or_alone (id ∷ ids) upto = id ∷ ids

  -- the log ids from the place of `upto` on; past the last one `upto` alone
  abbrev pub purged : List (LogId K) → LogId K → List (LogId K)
  purged ids upto = or_alone (from_place upto.index ids) upto

  -- the place isn't past the last one, where there is one
  abbrev pub Reaches : Option (LogId K) → ℕ → Type 0
  Reaches None index = ⊥
  Reaches (Some last) index = index ≤ last.index

  -- the key stands below the next one
  abbrev pub IsBelowNext : LogId K → List (LogId K) → Type 0
  IsBelowNext key [] = Unit {0}
  IsBelowNext key (next ∷ keys) = key.index < next.index

  -- so many of the log ids, of which the last one is this
  abbrev pub with_end : List (LogId K) → ℕ → Option (LogId K) → List (LogId K)
  with_end ids n None = take n ids
  with_end ids n (Some last) = slice_set (take n ids) (n - 1) last

  -- the others begin as these do, but for the last one of these
  abbrev pub KeepsFront : List (LogId K) → List (LogId K) → Type 0
  KeepsFront ids others =
      (length ids ≤ length others) × (take (length ids - 1) others ≡ take (length ids - 1) ids)

  -- the places rise
  abbrev pub PlacesRise : List (LogId K) → Type 0
  PlacesRise [] = Unit {0}
  PlacesRise (key ∷ keys) = IsBelowNext key keys × PlacesRise keys

  -- the log id may come behind the last one: at a later place, whatever its leader
  abbrev pub GoesOn : Option (LogId K) → LogId K → Type 0
  GoesOn None id = Unit {0}
  GoesOn (Some last) id = last.index < id.index

  -- each goes on from the one before it
  abbrev pub AllGoOn : Option (LogId K) → List (LogId K) → Type 0
  AllGoOn last [] = Unit {0}
  AllGoOn last (id ∷ ids) = GoesOn last id × AllGoOn (Some id) ids

module _ {K : Type 0} (cmp : K → K → Ordering) where
  -- the last two have one leader
  abbrev pub ends_in_pair : List (LogId K) → Bool
  ends_in_pair [] = false
  ends_in_pair (id ∷ []) = false
  ends_in_pair (id ∷ next ∷ []) = is_eq (leader_cmp cmp id.leader_id next.leader_id)
  ends_in_pair (id ∷ next ∷ later ∷ ids) = ends_in_pair (next ∷ later ∷ ids)

  -- the next key has another leader; the last one may have the same
  abbrev pub ChangesLeader : LogId K → List (LogId K) → Type 0
  ChangesLeader key [] = Unit {0}
  ChangesLeader key (next ∷ []) = Unit {0}
  ChangesLeader key (next ∷ later ∷ keys) = is_eq (leader_cmp cmp key.leader_id next.leader_id) ≡ false

  -- neighbours have different leaders, where only the last two may have one
  abbrev pub LeadersChange : List (LogId K) → Type 0
  LeadersChange [] = Unit {0}
  LeadersChange (key ∷ keys) = ChangesLeader key keys × LeadersChange keys

  -- the log ids are keys: the first one of each run of one leader, and at the end the last one
  abbrev pub AreKeys : List (LogId K) → Type 0
  AreKeys keys = PlacesRise keys × LeadersChange keys

  -- the log id begins a run of one leader: the one before it, if any, has another
  abbrev pub begins_leader : Option (LeaderId K) → LogId K → Bool
  begins_leader None id = true
  begins_leader (Some before) id = not (is_eq (leader_cmp cmp before id.leader_id))

  -- the keys among the log ids behind a leader: those that begin a run, and the last one
  abbrev pub keys_behind : Option (LeaderId K) → List (LogId K) → List (LogId K)
  keys_behind before [] = []
  keys_behind before (id ∷ []) = id ∷ []
  keys_behind before (id ∷ next ∷ ids) =
      if begins_leader before id then id ∷ keys_behind (Some id.leader_id) (next ∷ ids)
      else keys_behind (Some id.leader_id) (next ∷ ids)

  -- the keys among log ids: the first one of each run of one leader, and the last one of all
  abbrev pub keys_of : List (LogId K) → List (LogId K)
  keys_of ids = keys_behind None ids

  -- these log ids are told by fewer keys than the others
  abbrev pub HasFewerKeys : List (LogId K) → List (LogId K) → Type 0
  HasFewerKeys ids others = length (keys_of ids) < length (keys_of others)

  -- the log id has this leader
  abbrev pub has_leader : LeaderId K → LogId K → Bool
  has_leader leader id = is_eq (leader_cmp cmp leader id.leader_id)

  -- the last run of one leader: the longest end of the log ids that has but one
  abbrev pub last_run : List (LogId K) → List (LogId K)
  last_run [] = []
  last_run (id ∷ ids) = if list_all (has_leader id.leader_id) ids then id ∷ ids else last_run ids

module _ {K : Type 0} where
  -- all have this leader
  abbrev pub AreOfLeader : LeaderId K → List (LogId K) → Type 0
  AreOfLeader leader [] = Unit {0}
  AreOfLeader leader (id ∷ ids) = (id.leader_id ≡ leader) × AreOfLeader leader ids

  -- all have one leader
  abbrev pub HaveOneLeader : List (LogId K) → Type 0
  HaveOneLeader [] = Unit {0}
  HaveOneLeader (id ∷ ids) = AreOfLeader id.leader_id ids
