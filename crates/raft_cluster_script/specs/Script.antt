-- What a line of a script does, and is answered.
use Rattle.std.specs.Prelude.{◌≡◌, Bool, true, false, ℕ, List, [], ◌++◌, Option, Some, None, Result, Ok, Err, codes}
use Rattle.std.specs.List.{range_with_len}
use Rattle.raft_script_answers.specs.declared.shown.AppliedTotal.{AppliedTotal}
use Rattle.raft_script_answers.specs.Answer.{newline, total_text}
use Rattle.raft_script_lines.specs.declared.no_event.NoEvent.{NoEvent}
use Rattle.raft_script_lines.specs.declared.script_line.ScriptLine.{ScriptLine}
use Rattle.raft_script_lines.specs.declared.script_line.ScriptLine.TheVariants as lines
use Rattle.raft_script_lines.specs.Reading.{line_of}
use Rattle.raft_script_machines.specs.Speech.{Speech}
use Rattle.raft_script_session.specs.declared.end.ScriptEnd.{ScriptEnd}
use Rattle.raft_script_session.specs.Run.{Answers}
use Rattle.raft_cluster_events.specs.declared.event.ClusterEvent.{ClusterEvent}
use Rattle.raft_cluster_events.specs.declared.event.CrashChoice.TheVariants as choices
use Rattle.raft_cluster_events.specs.Node.{NodeActs}
use Rattle.raft_cluster.specs.Cluster.{ClusterValue, Steps}
use Rattle.raft_cluster.specs.Facts.{node_in, node_of}
use Rattle.raft_cluster.specs.Fused.{StepsFused, outcome_of}
use Rattle.raft_cluster.specs.Joined.{ids_of}
use Rattle.raft_sent_frames.specs.Frames.{frames_of}
use Rattle.raft_cluster_script.specs.Calls.{event_of, tokens_after}
use Rattle.raft_cluster_script.specs.Answers.{fused_text, outcome_text}

pub record ScriptValue (N : Type 0) : Type 0 where
  -- from the line `nodes` or `kv` on
  pub cluster : Option (ClusterValue N)
  -- the tokens so far, the last of which is this one
  pub tokens : ℕ
  -- the moment
  pub tick : ℕ

abbrev pub ok_text : List ℕ
ok_text = codes "ok" ++ newline

-- a total with the last place that is in it
abbrev pub with_place : Option ℕ → Option ℕ → Option AppliedTotal
with_place place None = None
with_place place (Some total) = Some (record { total = total; place = place })

-- the total that a machine in this state has added up, with the last place that it has run
abbrev pub total_in : (List ℕ → Option ℕ) → Option ℕ → Option (List ℕ) → Option AppliedTotal
total_in totals place None = None
total_in totals place (Some state) = with_place place (totals state)

-- it is no event here
abbrev pub IsNone : {A : Type 0} → Option A → Type 0
IsNone text = text ≡ None

module _ {N : Type 0} (acts : NodeActs N) (speech : Speech) where
  -- the event happens, and this is the text of its outcome
  pub record StepsSo (old : ClusterValue N) (event : ClusterEvent) (shown : List ℕ) (new : ClusterValue N) : Type 0 where
    pub steps : Steps acts old event new
    pub text : shown ≡ outcome_text speech.shows steps.outcome

  -- the same behind a fuse of its node's files, if it is for one: where it was cut off the machine leaves what was synced
  pub record FusedSo (first : ℕ) (old : ClusterValue N) (event : ClusterEvent) (shown : List ℕ) (new : ClusterValue N) : Type 0 where
    pub cut : Bool
    pub steps : StepsFused acts (node_of (frames_of old.sent) event) first choices.Least old event cut new
    pub text : shown ≡ fused_text speech.shows (outcome_of acts (node_of (frames_of old.sent) event) first choices.Least old event cut new steps)

  -- so it is answered
  pub record HappensFused (old : ScriptValue N) (cluster : ClusterValue N) (event : ClusterEvent) (first tokens : ℕ) (shown : Option (List ℕ)) (next : ScriptValue N) : Type 0 where
    pub later : ClusterValue N
    pub text : List ℕ
    pub steps : FusedSo first cluster event text later
    pub answer : shown ≡ Some text
    pub new : next ≡ record { cluster = Some later; tokens = tokens; tick = old.tick }

  abbrev pub TakesFused : ScriptValue N → Option (ClusterValue N) → Option ClusterEvent → ℕ → ℕ → Option (List ℕ) → ScriptValue N → Type 0
  TakesFused old None event first tokens text new = IsNone text
  TakesFused old (Some cluster) None first tokens text new = IsNone text
  TakesFused old (Some cluster) (Some event) first tokens text new = HappensFused old cluster event first tokens text new

  -- so it is answered
  pub record HappensSo (old : ScriptValue N) (cluster : ClusterValue N) (event : ClusterEvent) (tokens : ℕ) (shown : Option (List ℕ)) (next : ScriptValue N) : Type 0 where
    pub later : ClusterValue N
    pub text : List ℕ
    pub steps : StepsSo cluster event text later
    pub answer : shown ≡ Some text
    pub new : next ≡ record { cluster = Some later; tokens = tokens; tick = old.tick }

  abbrev pub Takes : ScriptValue N → Option (ClusterValue N) → Option ClusterEvent → ℕ → Option (List ℕ) → ScriptValue N → Type 0
  Takes old None event tokens text new = IsNone text
  Takes old (Some cluster) None tokens text new = IsNone text
  Takes old (Some cluster) (Some event) tokens text new = HappensSo old cluster event tokens text new

  -- a cluster of the nodes from 1 to this number begins, to which nothing has happened
  pub record Begins (old : ScriptValue N) (count : ℕ) (shown : Option (List ℕ)) (next : ScriptValue N) : Type 0 where
    pub cluster : ClusterValue N
    pub ids : ids_of acts cluster.nodes ≡ range_with_len 1 count
    pub fresh : cluster.history ≡ []
    pub text : shown ≡ Some ok_text
    pub new : next ≡ record old { cluster = Some cluster }

  -- a cluster begins once
  abbrev pub BeginsOnce : ScriptValue N → Option (ClusterValue N) → ℕ → Option (List ℕ) → ScriptValue N → Type 0
  BeginsOnce old None count text new = Begins old count text new
  BeginsOnce old (Some cluster) count text new = IsNone text

  abbrev pub SetsNow : ScriptValue N → Option (ClusterValue N) → ℕ → Option (List ℕ) → ScriptValue N → Type 0
  SetsNow old None tick text new = IsNone text
  SetsNow old (Some cluster) tick text new = (text ≡ Some ok_text) × (new ≡ record old { tick = tick })

  -- what the node's machine has added up in the group; nothing where there is no such node, or it lends no machine
  abbrev pub total_at : Option N → ℕ → Option AppliedTotal
  total_at None group = None
  total_at (Some node) group = total_in speech.totals (acts.applied_of node group) (acts.machine_of node group)

  -- that is asked for
  abbrev pub AsksTotal : ScriptValue N → Option (ClusterValue N) → ℕ → ℕ → Option (List ℕ) → ScriptValue N → Type 0
  AsksTotal old None node group text new = IsNone text
  AsksTotal old (Some cluster) node group text new =
      (text ≡ Some (total_text (total_at (node_in acts cluster.nodes node) group))) × (new ≡ old)

  abbrev pub TakesLine : ScriptValue N → ScriptLine → Option (List ℕ) → ScriptValue N → Type 0
  TakesLine old lines.Skipped text new = (text ≡ Some []) × (new ≡ old)
  TakesLine old (lines.Nodes count) text new = BeginsOnce old old.cluster count text new
  TakesLine old (lines.Kv count) text new = BeginsOnce old old.cluster count text new
  TakesLine old (lines.Now tick) text new = SetsNow old old.cluster tick text new
  TakesLine old (lines.Total node group) text new = AsksTotal old old.cluster node group text new
  TakesLine old (lines.Happens event) text new =
      Takes old old.cluster (event_of speech.proposes old.tick (tokens_after old.tokens event) event) (tokens_after old.tokens event) text new
  TakesLine old (lines.Fuse first event) text new =
      TakesFused old old.cluster (event_of speech.proposes old.tick (tokens_after old.tokens event) event) first (tokens_after old.tokens event) text new

  -- a line that the machine's scripts don't have is no event
  abbrev pub TakesSpoken : Bool → ScriptValue N → ScriptLine → Option (List ℕ) → ScriptValue N → Type 0
  TakesSpoken true old line text new = TakesLine old line text new
  TakesSpoken false old line text new = IsNone text

  abbrev pub TakesRead : ScriptValue N → Result ScriptLine NoEvent → Option (List ℕ) → ScriptValue N → Type 0
  TakesRead old (Ok line) text new = TakesSpoken (speech.speaks line) old line text new
  TakesRead old (Err why) text new = IsNone text

  -- the bytes of a line take the script from the one state to the other, and are answered so; by none where they are no event
  abbrev pub RunsLine : ScriptValue N → List ℕ → Option (List ℕ) → ScriptValue N → Type 0
  RunsLine old line text new = TakesRead old (line_of line) text new

  -- before its first line there is no cluster
  abbrev pub start : ScriptValue N
  start = record { cluster = None; tokens = 0; tick = 0 }

  -- what is written for an input, where the script ends so: the answers of its lines
  abbrev pub RunsScript : List ℕ → Option (List ℕ) → Option (List ℕ) → ScriptEnd → Type 0
  RunsScript input before after end = (last : ScriptValue N) × Answers RunsLine start input before after last end
