-- The nodes of one group, what they sent, and what may happen next.
use Rattle.std.specs.Prelude.{ℕ, suc, ◌+◌, ◌-◌, ◌==◌, ◌&&◌, ◌||◌, not, nat_lt, nat_le, if◌then◌else◌, Bool, true, false, List, []}
use Rattle.std.specs.Prelude.{◌∷◌, ◌++◌, length, slice_get, Option, Some, None, take, drop, min, max}
use Rattle.std.specs.List.{list_any}
use Rattle.raft_laws.specs.BallotLists.{with_value}
use Rattle.raft_laws.specs.BallotLogs.{Payload, BallotEntry, LogEnd, ballot_before, log_end, is_at_least, holds_before, put_from, cut_from}
use Rattle.raft_laws.specs.BallotQuorum.{is_quorum}

-- the voter groups, which node each ballot belongs to, and what each set-up stores first.
-- Ballots are numbered in the order of votes; 0 is no node's
pub record BallotGroup : Type 0 where
  pub voters : List (List ℕ)
  pub owner : ℕ → ℕ
  pub first : Payload

-- a node: its stored vote and log, and how many of the entries it knows to be committed
pub record BallotNode : Type 0 where
  pub ballot : ℕ
  pub committed : Bool
  pub log : List BallotEntry
  pub commit : ℕ

pub record BallotRequest : Type 0 where
  pub ballot : ℕ
  pub last : LogEnd

pub record BallotGrant : Type 0 where
  pub ballot : ℕ
  pub node : ℕ

-- entries of a leader's log from a place on, the ballot of the entry before, and how many are committed.
-- A snapshot is such a message from place 0 on, all of whose entries are committed
pub record BallotAppend : Type 0 where
  pub ballot : ℕ
  pub start : ℕ
  pub previous : ℕ
  pub entries : List BallotEntry
  pub commit : ℕ

-- the node accepted so many entries under the ballot
pub record BallotReply : Type 0 where
  pub ballot : ℕ
  pub node : ℕ
  pub upto : ℕ

pub record BallotWorld : Type 0 where
  pub node : ℕ → BallotNode
  -- each ballot's candidate stood with this log
  pub stood : ℕ → List BallotEntry
  -- whether the ballot was won, and the longest log that its leader had
  pub led : ℕ → Bool
  pub lead : ℕ → List BallotEntry
  -- all that was ever sent
  pub requests : List BallotRequest
  pub grants : List BallotGrant
  pub appends : List BallotAppend
  pub replies : List BallotReply

-- what may happen. An event of the code that stops part of the way is one of the lesser ones
pub data BallotEvent : Type 0 where
  -- the first set-up is stored
  FoundGroup : (node : ℕ) → BallotEvent
  StandForElection : (node ballot : ℕ) → BallotEvent
  TakeRequest : (which node : ℕ) → BallotEvent
  -- a greater vote is taken over, from any message
  RaiseVote : (node ballot : ℕ) (committed : Bool) → BallotEvent
  WinElection : (node : ℕ) → BallotEvent
  WriteEntry : (node : ℕ) (payload : Payload) → BallotEvent
  CommitPlace : (node place : ℕ) → BallotEvent
  SendEntries : (node start count commit : ℕ) → BallotEvent
  TakeEntries : (which node : ℕ) → BallotEvent
  -- the node stopped when the log was cut, before the entries were put
  CutForEntries : (which node : ℕ) → BallotEvent
  -- a snapshot with another last entry cuts the log down to what is known to be committed
  CutForSnapshot : (which node : ℕ) → BallotEvent
  -- an append whose entry before isn't the log's cuts the log before that entry
  CutForConflict : (which node : ℕ) → BallotEvent
  -- a reopening knows less to be committed
  ForgetCommitted : (node commit : ℕ) → BallotEvent

abbrev pub first_entry : BallotGroup → BallotEntry
first_entry g = record { ballot = 0; payload = g.first }

abbrev pub ballot_start : BallotGroup → BallotWorld
ballot_start g =
    record {
      node = λ n. record { ballot = 0; committed = false; log = []; commit = 0 };
      stood = λ b. [];
      led = λ b. false;
      lead = with_value (λ b. []) 0 (first_entry g ∷ []);
      requests = [];
      grants = [];
      appends = [];
      replies = [];
    }

abbrev pub has_granted : List BallotGrant → ℕ → ℕ → Bool
has_granted grants b n = list_any (λ q. (q.ballot == b) && (q.node == n)) grants

-- whether the node accepted the place i under the ballot
abbrev pub ballot_accepted : List BallotReply → ℕ → ℕ → ℕ → Bool
ballot_accepted replies b i n = list_any (λ r. (r.ballot == b) && ((r.node == n) && nat_lt i r.upto)) replies

abbrev pub is_ballot_leader : BallotGroup → ℕ → BallotNode → Bool
is_ballot_leader g n s = s.committed && (nat_lt 0 s.ballot && (g.owner s.ballot == n))

abbrev pub is_ballot_candidate : BallotGroup → ℕ → BallotNode → Bool
is_ballot_candidate g n s = not s.committed && (g.owner s.ballot == n)

abbrev pub moved : BallotWorld → ℕ → BallotNode → BallotWorld
moved w n s = record w { node = with_value w.node n s }

abbrev pub founded : BallotGroup → BallotWorld → ℕ → BallotWorld
founded g w n = moved w n (record (w.node n) { log = first_entry g ∷ [] })

abbrev pub is_empty : List BallotEntry → Bool
is_empty [] = true
is_empty (x ∷ xs) = false

abbrev pub elected : BallotWorld → ℕ → ℕ → BallotWorld
elected w n b =
    record w {
      node = with_value w.node n (record (w.node n) { ballot = b; committed = false });
      stood = with_value w.stood b (w.node n).log;
      requests = record { ballot = b; last = log_end (w.node n).log } ∷ w.requests;
      grants = record { ballot = b; node = n } ∷ w.grants;
    }

abbrev pub can_grant : BallotGroup → ℕ → BallotNode → BallotRequest → Bool
can_grant g n s r =
    not (g.owner r.ballot == n)
    && ((nat_lt s.ballot r.ballot || ((s.ballot == r.ballot) && not s.committed))
    && is_at_least r.last (log_end s.log))

abbrev pub granted : BallotWorld → ℕ → BallotRequest → BallotWorld
granted w n r =
    record w {
      node = with_value w.node n (record (w.node n) { ballot = r.ballot; committed = false });
      grants = record { ballot = r.ballot; node = n } ∷ w.grants;
    }

abbrev pub request_comes : BallotGroup → BallotWorld → Option BallotRequest → ℕ → BallotWorld
request_comes g w None n = w
request_comes g w (Some r) n = if can_grant g n (w.node n) r then granted w n r else w

abbrev pub raised : BallotWorld → ℕ → ℕ → Bool → BallotWorld
raised w n b committed = moved w n (record (w.node n) { ballot = b; committed = committed })

abbrev pub can_raise : BallotGroup → ℕ → BallotNode → ℕ → Bool
can_raise g n s b = not (g.owner b == n) && nat_le s.ballot b

abbrev pub won : BallotWorld → ℕ → BallotWorld
won w n =
    record w {
      node = with_value w.node n (record (w.node n) { committed = true });
      led = with_value w.led (w.node n).ballot true;
      lead = with_value w.lead (w.node n).ballot (w.node n).log;
    }

abbrev pub written : BallotWorld → ℕ → Payload → BallotWorld
written w n payload =
    let b = (w.node n).ballot in
    let log = (w.node n).log ++ record { ballot = b; payload = payload } ∷ [] in
    record w {
      node = with_value w.node n (record (w.node n) { log = log });
      lead = with_value w.lead b log;
      replies = record { ballot = b; node = n; upto = suc (length (w.node n).log) } ∷ w.replies;
    }

-- there is an entry, of this ballot
abbrev pub is_of : Option BallotEntry → ℕ → Bool
is_of None b = false
is_of (Some x) b = x.ballot == b

-- the entry at this place of the ballot's leader is of that ballot, and a quorum accepted it
abbrev pub is_ballot_settled : BallotGroup → BallotWorld → ℕ → ℕ → Bool
is_ballot_settled g w b i = is_of (slice_get (w.lead b) i) b && is_quorum g.voters (ballot_accepted w.replies b i)

abbrev pub committed_to : BallotWorld → ℕ → ℕ → BallotWorld
committed_to w n place = moved w n (record (w.node n) { commit = max (w.node n).commit (suc place) })

abbrev pub sent : BallotWorld → ℕ → ℕ → ℕ → ℕ → BallotWorld
sent w n start count commit =
    record w {
      appends =
          record {
            ballot = (w.node n).ballot;
            start = start;
            previous = ballot_before (w.node n).log start;
            entries = take count (drop start (w.node n).log);
            commit = commit;
          } ∷ w.appends;
    }

-- the append is taken: the log has its entries
abbrev pub taken : BallotWorld → ℕ → BallotAppend → BallotWorld
taken w n a =
    record w {
      node =
          with_value w.node n
          (record {
            ballot = a.ballot;
            committed = true;
            log = put_from (w.node n).log a.start a.entries;
            commit = max (w.node n).commit (min a.commit (a.start + length a.entries));
          });
      replies = record { ballot = a.ballot; node = n; upto = a.start + length a.entries } ∷ w.replies;
    }

abbrev pub append_comes : BallotGroup → BallotWorld → Option BallotAppend → ℕ → BallotWorld
append_comes g w None n = w
append_comes g w (Some a) n =
    if can_raise g n (w.node n) a.ballot
    then (if holds_before (w.node n).log a.start a.previous then taken w n a else raised w n a.ballot true)
    else w

abbrev pub cut : BallotWorld → ℕ → BallotAppend → BallotWorld
cut w n a =
    moved w n
    (record (w.node n) { ballot = a.ballot; committed = true; log = cut_from (w.node n).log a.start a.entries })

abbrev pub cut_comes : BallotGroup → BallotWorld → Option BallotAppend → ℕ → BallotWorld
cut_comes g w None n = w
cut_comes g w (Some a) n =
    if can_raise g n (w.node n) a.ballot && holds_before (w.node n).log a.start a.previous then cut w n a else w

-- a snapshot whose last entry isn't in the log
abbrev pub drops : List BallotEntry → BallotAppend → Bool
drops log a =
    (a.start == 0)
    && (nat_le (length a.entries) a.commit
    && not (holds_before log (length a.entries) (ballot_before a.entries (length a.entries))))

abbrev pub dropped : BallotWorld → ℕ → BallotAppend → BallotWorld
dropped w n a =
    moved w n
    (record (w.node n) { ballot = a.ballot; committed = true; log = take (w.node n).commit (w.node n).log })

abbrev pub drop_comes : BallotGroup → BallotWorld → Option BallotAppend → ℕ → BallotWorld
drop_comes g w None n = w
drop_comes g w (Some a) n =
    if can_raise g n (w.node n) a.ballot && drops (w.node n).log a then dropped w n a else w

-- the log has another entry before the append's place, above what is known to be committed
abbrev pub conflicts : BallotNode → BallotAppend → Bool
conflicts s a =
    nat_lt s.commit a.start && (nat_le a.start (length s.log) && not (holds_before s.log a.start a.previous))

abbrev pub cut_before : BallotWorld → ℕ → BallotAppend → BallotWorld
cut_before w n a =
    moved w n
    (record (w.node n) { ballot = a.ballot; committed = true; log = take (a.start - 1) (w.node n).log })

abbrev pub conflict_comes : BallotGroup → BallotWorld → Option BallotAppend → ℕ → BallotWorld
conflict_comes g w None n = w
conflict_comes g w (Some a) n =
    if can_raise g n (w.node n) a.ballot && conflicts (w.node n) a then cut_before w n a else w

abbrev pub forgotten : BallotWorld → ℕ → ℕ → BallotWorld
forgotten w n commit = moved w n (record (w.node n) { commit = min commit (w.node n).commit })

abbrev pub ballot_step : BallotGroup → BallotWorld → BallotEvent → BallotWorld
ballot_step g w (FoundGroup n) = if ((w.node n).ballot == 0) && is_empty (w.node n).log then founded g w n else w
ballot_step g w (StandForElection n b) = if (g.owner b == n) && nat_lt (w.node n).ballot b then elected w n b else w
ballot_step g w (TakeRequest k n) = request_comes g w (slice_get w.requests k) n
ballot_step g w (RaiseVote n b committed) = if can_raise g n (w.node n) b then raised w n b committed else w
ballot_step g w (WinElection n) =
    if is_ballot_candidate g n (w.node n) && is_quorum g.voters (has_granted w.grants (w.node n).ballot) then won w n else w
ballot_step g w (WriteEntry n payload) = if is_ballot_leader g n (w.node n) then written w n payload else w
ballot_step g w (CommitPlace n place) =
    if is_ballot_leader g n (w.node n) && is_ballot_settled g w (w.node n).ballot place then committed_to w n place else w
ballot_step g w (SendEntries n start count commit) =
    if is_ballot_leader g n (w.node n) && (nat_le start (length (w.node n).log) && nat_le commit (w.node n).commit)
    then sent w n start count commit
    else w
ballot_step g w (TakeEntries k n) = append_comes g w (slice_get w.appends k) n
ballot_step g w (CutForEntries k n) = cut_comes g w (slice_get w.appends k) n
ballot_step g w (CutForSnapshot k n) = drop_comes g w (slice_get w.appends k) n
ballot_step g w (CutForConflict k n) = conflict_comes g w (slice_get w.appends k) n
ballot_step g w (ForgetCommitted n commit) = forgotten w n commit

-- a whole schedule
abbrev pub ballot_run : BallotGroup → List BallotEvent → BallotWorld → BallotWorld
ballot_run g [] w = w
ballot_run g (e ∷ es) w = ballot_run g es (ballot_step g w e)
