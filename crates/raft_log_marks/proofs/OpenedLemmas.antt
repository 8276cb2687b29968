-- Queues that are opened can be cleaned.
use Rattle.std.proofs.Common.{◌≡◌, ℕ, Bool, true, false, cond, List, [], ◌∷◌, Option, Some, None, refl}
use Rattle.raft_log_memtables.specs.Content.{GroupContent, Content, after_batch}
use Rattle.raft_log_memtables.specs.Replay.{content_of}
use Rattle.raft_log_covers.specs.Cells.{after_batches}
use Rattle.raft_log_covers.specs.Cells.Cell.{index, key}
use Rattle.raft_log_covers.specs.Queues.{Filed, batches_of}
use Rattle.raft_log_covers.specs.Account.{Account, account_after, account_after_all}
use Rattle.raft_log_covers.specs.Marks.{Names}
use Rattle.raft_log_covers.specs.Trace.{Trace, file_of, IsBounded, Bounds, Knows, TellsFiles}
use Rattle.raft_log_covers.proofs.KeptLemmas.{bounded_by_none, replays_keep}
use Rattle.raft_log_marks.specs.MarkLaws.{NamesBehind}
use Rattle.raft_log_marks.specs.Opened.{ReplaysAreCleanable, SettledGroupsKeepNoFile, trace_settled}
use Rattle.raft_log_marks.proofs.CleaningLemmas.{items_behind}

all_behind : {E : Type 0} (bs : List (Filed E)) (content : Content E) (account : Account) → ((group : ℕ) → NamesBehind (content group) (account group))
    → (group : ℕ) → NamesBehind (after_batches (batches_of bs) content group) (account_after_all bs account group)
all_behind [] content account h = h
all_behind (b ∷ bs) content account h = all_behind bs (after_batch b.items content) (account_after b.file b.items account) (items_behind b.file b.items content account h)

pub replays_are_cleanable : {E : Type 0} → ReplaysAreCleanable E
replays_are_cleanable opened records bs first rise has = record {
  kept = replays_keep opened records bs first rise has;
  behind = all_behind bs _ _ (λ group i j l s n. absurd cc);
}

settled_knows : {E : Type 0} (t : Trace) (older g : GroupContent E) (names : Names) → Knows t older g names → Knows (trace_settled t) older g names
settled_knows t older g names k = record {
  below = k.below;
  above = k.above;
  ends = k.ends;
  empty_top = k.empty_top;
  past = k.past;
  gone = k.gone;
  all_gone = k.all_gone;
  entries_since = k.entries_since;
  keys_since = k.keys_since;
}

pub settled_groups_keep_no_file : {E : Type 0} → SettledGroupsKeepNoFile E
settled_groups_keep_no_file {E} traces account records content bs settled k none = record {
  kept = record {
    accounted = k.kept.accounted;
    bounds = λ group. bounds_at group (settled group) refl;
    knows = λ group. knows_at group (settled group);
    files = λ group. files_at group (settled group) refl;
  };
  behind = k.behind;
}
  where
    bounds_at : (group : ℕ) (b : Bool) → settled group ≡ b → Bounds (cond b (trace_settled (traces group)) (traces group)) (content group) (account group)
    bounds_at group true e = λ c. bounded_by_none (account group c) (file_of (trace_settled (traces group)) (content group) c) (none group e c)
    bounds_at group false e = k.kept.bounds group

    knows_at : (group : ℕ) (b : Bool) → Knows (cond b (trace_settled (traces group)) (traces group)) (content_of records group) (content group) (account group)
    knows_at group true = settled_knows (traces group) (content_of records group) (content group) (account group) (k.kept.knows group)
    knows_at group false = k.kept.knows group

    files_at : (group : ℕ) (b : Bool) → settled group ≡ b → TellsFiles (cond b (trace_settled (traces group)) (traces group)) (content group) (account group)
    files_at group true e = record { entries_named = λ i s. none group e (index i); keys_named = λ q s. none group e (key q) }
    files_at group false e = k.kept.files group
