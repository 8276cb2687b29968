-- What traces tell of the entries of a log that can be cleaned.
use Rattle.std.proofs.Common.{◌≡◌, ◌⊎◌, inl, inr, ℕ, ◌+◌, ◌-◌, ◌<◌, ◌≤◌, ◌^◌, Bool, true, false, List, length, Option, Some, None, refl, sym, ap, subst, ◌∙◌, arith}
use Rattle.std.specs.Prelude.{IsSome, nat_le}
use Rattle.std.specs.Option.{option_map}
use Rattle.std.proofs.lemmas.Bool.{cases_lt, lt-leb}
use Rattle.raft_log_records.specs.declared.item.EntryIndex.{EntryIndex}
use Rattle.raft_log_disk.specs.Disk.{Disk}
use Rattle.raft_log_pipe.specs.Pipe.{Numbered, first_of}
use Rattle.raft_log_pipes.specs.declared.pipes.DualPipes.{DualPipes}
use Rattle.raft_log_memtables.specs.Content.{Content, GroupContent}
use Rattle.raft_log_memtables.specs.ContentLaws.{content_map}
use Rattle.raft_log_memtables.specs.MemTables.{content_in}
use Rattle.raft_log_covers.specs.Kept.{Traces}
use Rattle.raft_log_covers.specs.Trace.{Trace}
use Rattle.raft_log_blocks.specs.Held.{IsTabled}
use Rattle.raft_log_marks.specs.Opened.{TellPlaces, file_at}
use Rattle.raft_log_marks.specs.Standing.{CanBeCleaned}
use Rattle.raft_log_traced.specs.declared.traced.TracedTables.{TracedTables}
use Rattle.raft_log_traced.specs.Traced.{lies_in}
use Rattle.raft_log_traces.specs.Before.{StandsFrom}
use Rattle.raft_log_traces.specs.GroupTraces.{traces_in}
use Rattle.raft_log_cleaner.specs.Cleaning.{CanClean, filed, records_of}
use Rattle.raft_log_cleaner.specs.Facts.{AreSoMany, TellEntries, count_passing, is_rewritten, lies_up_to, passes}
use Rattle.raft_log_cleaner.proofs.Standing.{reads_as}

-- ---- of a log

none_of : {A B : Type 0} (f : A → B) (o : Option A) → option_map f o ≡ None → o ≡ None
none_of f None h = refl
none_of f (Some x) h = absurd cc

-- by its batches
pub tells_so : (p : DualPipes) (log : TracedTables) (rewrites appends : Numbered) (content : Content (List ℕ)) → IsTabled p rewrites appends log.tables
    → CanBeCleaned (first_of p.append) (traces_in log.traces) (records_of rewrites) content (filed appends) → TellPlaces lies_in (traces_in log.traces) (content_in log.tables)
    → TellEntries (traces_in log.traces) (content_in log.tables)
tells_so p log rewrites appends content tabled cleanable placed = record { placed = placed; past = past }
  where
    past : (group i : ℕ) → (traces_in log.traces group).next ≤ i → (content_in log.tables group).entry i ≡ None
    past group i behind =
        let knows = cleanable.cleanable.kept.knows group in
        let lens : option_map (λ (y : EntryIndex). y.entry_len) ((content_in log.tables group).entry i) ≡ option_map length ((content group).entry i) =
        (λ j. ((tabled.lengths ∙ ap (content_map length) (reads_as (first_of p.append) (traces_in log.traces) rewrites appends content cleanable)) j group).entry i) in
        none_of (λ (y : EntryIndex). y.entry_len) ((content_in log.tables group).entry i) (lens ∙ ap (option_map length) (gone knows.below knows.above (cases_lt i (traces_in log.traces group).low)))
      where
        gone : ((j : ℕ) → j < (traces_in log.traces group).low → (content group).entry j ≡ None) → ((j : ℕ) → (traces_in log.traces group).low ≤ j → (traces_in log.traces group).next ≤ j → (content group).entry j ≡ None)
            → (i < (traces_in log.traces group).low) ⊎ ((traces_in log.traces group).low ≤ i) → (content group).entry i ≡ None
        gone below above (inl low) = below i low
        gone below above (inr high) = above i high behind

pub tells : (d : Disk) (p : DualPipes) (log : TracedTables) (content : Content (List ℕ)) → CanClean d p log content → TellEntries (traces_in log.traces) (content_in log.tables)
tells d p log content can = tells_so p log can.rewrites can.appends content can.tabled can.cleanable can.placed

-- a group is there in the tables just where it is in the content
pub there_seen : (d : Disk) (p : DualPipes) (log : TracedTables) (content : Content (List ℕ)) → CanClean d p log content → (group : ℕ) → (content_in log.tables group).there ≡ (content group).there
there_seen d p log content can group j =
    ((can.tabled.lengths ∙ ap (content_map length) (reads_as (first_of p.append) (traces_in log.traces) can.rewrites can.appends content can.cleanable)) j group).there

-- ---- entries behind those that are counted

module _ (t : Trace) (entry : ℕ → Option EntryIndex) (mark end limit : ℕ) (placed : (i : ℕ) → IsSome (entry i) → file_at lies_in (entry i) ≡ t.entry_file i) (past : (i : ℕ) → t.next ≤ i → entry i ≡ None)
    (behind : (i : ℕ) → end ≤ i → i < t.next → StandsFrom (mark + 1) (t.entry_file i)) (same : limit < 2 ^ 64 - 1 → limit ≡ end) where
  abbrev PassesNone : ℕ → Type 0
  PassesNone i = (passes is_rewritten (entry i) ≡ false) × (passes (lies_up_to mark) (entry i) ≡ false)

  lies_behind : (o file : Option ℕ) → o ≡ file → StandsFrom (mark + 1) file → (is_rewritten o ≡ false) × (lies_up_to mark o ≡ false)
  lies_behind None None is stands = absurd stands
  lies_behind None (Some f) is stands = absurd cc
  lies_behind (Some f) None is stands = absurd stands
  lies_behind (Some f) (Some g) is stands = let same : f ≡ g = cc in (refl, lt-leb f mark (omega (arith, stands, same)))

  by_entry : (o : Option EntryIndex) (i : ℕ) → entry i ≡ o → end ≤ i → i < t.next → (passes is_rewritten o ≡ false) × (passes (lies_up_to mark) o ≡ false)
  by_entry None i is from before = (refl, refl)
  by_entry (Some e) i is from before =
      lies_behind (lies_in e) (t.entry_file i) (ap (file_at lies_in) (sym is) ∙ placed i (subst (λ (o : Option EntryIndex). IsSome o) (sym is) refl)) (behind i from before)

  pub none_passes : (i : ℕ) → limit ≤ i → i < 2 ^ 64 - 1 → PassesNone i
  none_passes i from low = by_place (cases_lt i t.next)
    where
      by_place : (i < t.next) ⊎ (t.next ≤ i) → PassesNone i
      by_place (inl before) = let is : limit ≡ end = same (omega (arith, from, low)) in by_entry (entry i) i refl (omega (arith, from, is)) before
      by_place (inr at_end) =
          (ap (passes is_rewritten) (past i at_end), ap (passes (lies_up_to mark)) (past i at_end))

  pub so_many_rewritten : (n : ℕ) → n ≡ count_passing is_rewritten entry limit → AreSoMany is_rewritten entry n
  so_many_rewritten n is = record { limit = limit; is = is; no_more = λ i from low. (none_passes i from low).0 }

  pub so_many_up_to : (n : ℕ) → n ≡ count_passing (lies_up_to mark) entry limit → AreSoMany (lies_up_to mark) entry n
  so_many_up_to n is = record { limit = limit; is = is; no_more = λ i from low. (none_passes i from low).1 }

-- a group without a trace has no entry
pub none_at_all : (test : Option ℕ → Bool) (entry : ℕ → Option EntryIndex) → ((i : ℕ) → entry i ≡ None) → AreSoMany test entry 0
none_at_all test entry none = record { limit = 0; is = refl; no_more = λ i from low. ap (passes test) (none i) }
