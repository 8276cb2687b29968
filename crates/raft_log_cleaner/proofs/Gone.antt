-- Files of the append queue that went, and a file that was begun.
use Rattle.std.proofs.Common.{◌≡◌, ◌⊎◌, inl, inr, ⊎_elim, ℕ, ◌+◌, ◌-◌, ◌<◌, ◌≤◌, Bool, true, false, cond, List, [], ◌∷◌, ◌++◌, length, Option, Some, None, refl, sym, ap, subst, ◌∙◌, arith, drop, ltb-true, ltb-false}
use Rattle.std.specs.Prelude.{Result, Ok, Err, IfOk, IfSome, IsSome, nat_lt, ◌==◌}
use Rattle.std.specs.Option.{option_map}
use Rattle.std.proofs.lemmas.Bool.{le-ltb}
use Rattle.std.proofs.lemmas.Bool.Decides.{eqb_tells}
use Rattle.std.specs.List.{AllByRecursion}
use Rattle.std.proofs.lemmas.List.{append-nil}
use Rattle.raft_log_records.specs.declared.item.EntryIndex.{EntryIndex}
use Rattle.raft_log_records.specs.declared.file_id.LogQueue.{LogQueue}
use Rattle.raft_log_disk.specs.Disk.{Disk, IsIn}
use Rattle.raft_log_file.specs.Laws.{Batch, file_text}
use Rattle.raft_log_files.specs.declared.error.Error.{Error}
use Rattle.raft_log_pipe.specs.declared.pipe.SinglePipe.{SinglePipe}
use Rattle.raft_log_pipe.specs.declared.file.File.{File}
use Rattle.raft_log_pipe.specs.Blocks.{files_of, of_file}
use Rattle.raft_log_pipe.specs.Pipe.{Holds, IsPipe, Leaves, Numbered, first_of, id_of}
use Rattle.raft_log_pipe.specs.Purging.{AreLastOf, HoldsRest, from_file}
use Rattle.raft_log_pipe.proofs.BlockLemmas.{in_last, is_last, is_older, more_files}
use Rattle.raft_log_pipe.proofs.FirstLemmas.{begun_first}
use Rattle.raft_log_pipe.proofs.PurgeLemmas.{in_last_files}
use Rattle.raft_log_pipes.specs.Calls.{IsPurgeOf}
use Rattle.raft_log_pipes.specs.declared.pipes.DualPipes.{DualPipes}
use Rattle.raft_log_pipes.specs.Pipes.{ArePipes, IsAsBefore}
use Rattle.raft_log_memtables.specs.Content.{Content}
use Rattle.raft_log_memtables.specs.ContentLaws.{content_map}
use Rattle.raft_log_memtables.specs.MemTables.{content_in}
use Rattle.raft_log_covers.specs.Account.{IsFrom}
use Rattle.raft_log_covers.proofs.FileLemmas.{not_there}
use Rattle.raft_log_covers.specs.Kept.{Traces}
use Rattle.raft_log_covers.specs.Queues.{Filed, FilesRise}
use Rattle.raft_log_traces.specs.Files.{KeepsFrom}
use Rattle.raft_log_traces.specs.GroupTraces.{traces_in}
use Rattle.raft_log_marks.specs.Standing.{CanBeCleaned}
use Rattle.raft_log_marks.proofs.StandingLemmas.{files_that_go_leave_cleanable}
use Rattle.raft_log_purge.specs.Going.{MayGoBefore}
use Rattle.raft_log_purge.proofs.GoingLemmas.{kept_from_less}
use Rattle.raft_log_blocks.specs.Held.{LiesIn, ReadsEntries, content_of_batches}
use Rattle.raft_log_blocks.specs.Placed.{bytes_on}
use Rattle.raft_log_blocks.proofs.EntryReads.{disk_reads}
use Rattle.raft_log_blocks.proofs.HeldLemmas.{either_lies, same_lies}
use Rattle.raft_log_traced.specs.declared.traced.TracedTables.{TracedTables}
use Rattle.raft_log_marks.specs.Opened.{file_at}
use Rattle.raft_log_traced.specs.Traced.{file_by, file_on, lies_in}
use Rattle.raft_log_cleaner.specs.Cleaning.{CanClean, LeavesContent, filed, records_of}
use Rattle.raft_log_cleaner.proofs.Standing.{fronts_synced, pipe_leaves, reads_as}

-- ---- files before a number

all_stay : (next : ℕ) (bs : Numbered) → FilesRise next (filed bs) → from_file next bs ≡ bs
all_stay next [] rise = refl
all_stay next (b ∷ bs) rise = by_test (nat_lt b.0 next) refl (all_stay next bs (rises_from next b.0 bs rise.0 rise.1))
  where
    by_test : (t : Bool) → nat_lt b.0 next ≡ t → from_file next bs ≡ bs → cond t (from_file next bs) (b ∷ from_file next bs) ≡ b ∷ bs
    by_test true e rest = let low = ltb-true b.0 next e in absurd (omega (arith, low, rise.0))
    by_test false e rest = ap (λ (l : Numbered). b ∷ l) rest

    rises_from : (least file : ℕ) (bs : Numbered) → least ≤ file → FilesRise file (filed bs) → FilesRise least (filed bs)
    rises_from least file [] l rise = tt
    rises_from least file (b ∷ bs) l rise = (omega (arith, l, rise.0), rise.1)

-- the batches of files that went, and of those that are left
pub record IsSplit (next : ℕ) (bs : Numbered) : Type 0 where
  pub gone : List (Filed (List ℕ))
  pub both : filed bs ≡ gone ++ filed (from_file next bs)
  pub before : AllByRecursion (λ b. b.file < next) gone
  pub rise : FilesRise next (filed (from_file next bs))

pub split_at : (next first : ℕ) (bs : Numbered) → FilesRise first (filed bs) → IsSplit next bs
split_at next first [] rise = record { gone = []; both = refl; before = tt; rise = tt }
split_at next first (b ∷ bs) rise = by_test (nat_lt b.0 next) refl (split_at next b.0 bs rise.1)
  where
    by_test : (t : Bool) → nat_lt b.0 next ≡ t → IsSplit next bs → IsSplit next (b ∷ bs)
    by_test true e rest =
        let left : from_file next (b ∷ bs) ≡ from_file next bs = ap (λ (t : Bool). cond t (from_file next bs) (b ∷ from_file next bs)) e in
        record {
          gone = record { file = b.0; items = b.1 } ∷ rest.gone;
          both = ap (λ (l : List (Filed (List ℕ))). record { file = b.0; items = b.1 } ∷ l) rest.both ∙ ap (λ (l : Numbered). (record { file = b.0; items = b.1 } ∷ rest.gone) ++ filed l) (sym left);
          before = (ltb-true b.0 next e, rest.before);
          rise = subst (λ (l : Numbered). FilesRise next (filed l)) (sym left) rest.rise;
        }
    by_test false e rest =
        let low : next ≤ b.0 = ltb-false b.0 next e in
        let whole : from_file next (b ∷ bs) ≡ b ∷ bs = all_stay next (b ∷ bs) (low, rise.1) in
        record {
          gone = [];
          both = ap filed (sym whole);
          before = tt;
          rise = subst (λ (l : Numbered). FilesRise next (filed l)) (sym whole) (low, rise.1);
        }

-- by the traces no file before the number is kept, or none went
pub may_clean_rest : (first next : ℕ) (traces : Traces) (rewrites appends : Numbered) (content : Content (List ℕ)) → CanBeCleaned first traces (records_of rewrites) content (filed appends)
    → ((group : ℕ) → KeepsFrom next (traces group)) → CanBeCleaned next traces (records_of rewrites) content (filed (from_file next appends))
may_clean_rest first next traces rewrites appends content can kept =
    let split = split_at next first appends can.rise in
    files_that_go_leave_cleanable first next traces (records_of rewrites) content split.gone (filed (from_file next appends))
    (subst (λ (l : List (Filed (List ℕ))). CanBeCleaned first traces (records_of rewrites) content l) split.both can) kept split.before split.rise

module _ (d e : Disk) (p q : DualPipes) (log : TracedTables) (content : Content (List ℕ)) (can : CanClean d p log content) (seq : ℕ) (result : Result ℕ Error) (barrier : Option ℕ)
    (may : first_of p.append < seq → MayGoBefore (traces_in log.traces) barrier seq) (call : IsPurgeOf p.append d q.append e seq result) where
  abbrev next : ℕ
  next = first_of q.append

  -- nothing went, or what went may go
  went : (next ≡ first_of p.append) ⊎ ((first_of p.append < seq) × (next ≤ seq))
  went = by_test (nat_lt (first_of p.append) seq) refl (nat_lt seq (first_of p.append)) refl
    where
      by_test : (t : Bool) → nat_lt (first_of p.append) seq ≡ t → (u : Bool) → nat_lt seq (first_of p.append) ≡ u → (next ≡ first_of p.append) ⊎ ((first_of p.append < seq) × (next ≤ seq))
      by_test true e u f = let late = ltb-true (first_of p.append) seq e in inr (late, call.bound.1 (omega (arith, late)))
      by_test false e true f = inl (ap first_of (call.out (inl (ltb-true seq (first_of p.append) f))).1)
      by_test false e false f =
          let low = ltb-false (first_of p.append) seq e in
          let high = ltb-false seq (first_of p.append) f in
          let most = call.bound.1 high in
          inl (omega (arith, low, high, most, call.bound.0))

  none_kept : (group : ℕ) → KeepsFrom next (traces_in log.traces group)
  none_kept group = by_went went
    where
      by_went : (next ≡ first_of p.append) ⊎ ((first_of p.append < seq) × (next ≤ seq)) → KeepsFrom next (traces_in log.traces group)
      by_went (inl same) = subst (λ (n : ℕ). KeepsFrom n (traces_in log.traces group)) (sym same) (can.cleanable.kept group)
      by_went (inr late) = kept_from_less next (Some seq) (traces_in log.traces group) late.1 ((may late.0).groups group)

  -- the files that are left may be cleaned on
  pub rest_may_be_cleaned : CanBeCleaned next (traces_in log.traces) (records_of can.rewrites) content (filed (from_file next can.appends))
  rest_may_be_cleaned = may_clean_rest (first_of p.append) next (traces_in log.traces) can.rewrites can.appends content can.cleanable none_kept

  -- so may those of a number before them
  earlier_may_be_cleaned : (first : ℕ) → first ≤ next → CanBeCleaned first (traces_in log.traces) (records_of can.rewrites) content (filed (from_file first can.appends))
  earlier_may_be_cleaned first low =
      may_clean_rest (first_of p.append) first (traces_in log.traces) can.rewrites can.appends content can.cleanable (λ group. kept_from_less first (Some next) (traces_in log.traces group) low (none_kept group))

  -- whatever a crash leaves reads as before, also where more files stand
  pub standing_leaves : (s : DualPipes) → first_of s.append ≤ next → HoldsRest p.append d s.append e → IsAsBefore p.rewrite d s.rewrite e → LeavesContent e s content
  standing_leaves s low holds other =
      let first : ℕ = first_of s.append in
      record {
        rewrites = can.rewrites;
        fresh = [];
        appends = from_file first can.appends;
        rewrite = pipe_leaves s.rewrite e can.rewrites [] (other.holds can.rewrites [] can.rewrite);
        append = pipe_leaves s.append e (from_file first can.appends) [] (holds can.appends [] can.append);
        fronts = fronts_synced content can.rewrites (from_file first can.appends) (reads_as first (traces_in log.traces) can.rewrites (from_file first can.appends) content (earlier_may_be_cleaned first low));
      }

  pub rest_leaves : IsAsBefore p.rewrite d q.rewrite e → LeavesContent e q content
  rest_leaves other = standing_leaves q (omega arith) call.holds other

  -- no file from the barrier on went
  pub none_from : IfSome barrier (λ file. (next ≡ first_of p.append) ⊎ (next ≤ file))
  none_from = by_barrier barrier (λ late. (may late).barrier) went
    where
      by_barrier : (o : Option ℕ) → (first_of p.append < seq → IfSome o (λ file. seq ≤ file)) → (next ≡ first_of p.append) ⊎ ((first_of p.append < seq) × (next ≤ seq)) → IfSome o (λ file. (next ≡ first_of p.append) ⊎ (next ≤ file))
      by_barrier None h w = tt
      by_barrier (Some file) h (inl same) = inl same
      by_barrier (Some file) h (inr late) = let l = h late.0 in inr (omega (arith, l, late.1))

-- ---- entries of files that are left

pub behind_both : (next : ℕ) (a b : Numbered) → from_file next (a ++ b) ≡ from_file next a ++ from_file next b
behind_both next [] b = refl
behind_both next (x ∷ a) b = by_test (nat_lt x.0 next) (behind_both next a b)
  where
    by_test : (t : Bool) → from_file next (a ++ b) ≡ from_file next a ++ from_file next b → cond t (from_file next (a ++ b)) (x ∷ from_file next (a ++ b)) ≡ cond t (from_file next a) (x ∷ from_file next a) ++ from_file next b
    by_test true rest = rest
    by_test false rest = ap (λ (l : Numbered). x ∷ l) rest

same_file : (next seq : ℕ) (bs : Numbered) → next ≤ seq → of_file seq (from_file next bs) ≡ of_file seq bs
same_file next seq [] late = refl
same_file next seq (b ∷ bs) late = by_test (nat_lt b.0 next) refl (same_file next seq bs late)
  where
    by_test : (t : Bool) → nat_lt b.0 next ≡ t → of_file seq (from_file next bs) ≡ of_file seq bs → of_file seq (cond t (from_file next bs) (b ∷ from_file next bs)) ≡ of_file seq (b ∷ bs)
    by_test true e rest =
        let low = ltb-true b.0 next e in
        let apart : (b.0 == seq) ≡ false = ⊎_elim (λ h. absurd (omega (arith, low, late, h.1))) (λ h. h.0) (eqb_tells b.0 seq) in
        rest ∙ sym (ap (λ (t : Bool). cond t (b.1 ∷ of_file seq bs) (of_file seq bs)) apart)
    by_test false e rest = λ j. cond (b.0 == seq) (b.1 ∷ rest j) (rest j)

module _ (p q : SinglePipe) (d : Disk) (appends : Numbered) (pipe : IsPipe p d) (active : q.active ≡ p.active) (queue : q.queue ≡ p.queue) (rest : AreLastOf p.older.items q.older.items) where
  -- a file from the first number on is still there
  file_left : (f : File) → IsIn f (files_of p) → first_of q ≤ f.seq → IsIn f (files_of q)
  file_left f there late = by_place (in_last p.older.items f p.active there)
    where
      by_place : IsIn f p.older.items ⊎ (f ≡ p.active) → IsIn f (files_of q)
      by_place (inl older) =
          let many : length q.older.items ≡ length (drop rest.0 p.older.items) = ap length rest.1 in
          let last : q.active.seq ≡ p.active.seq = ap (λ (x : File). x.seq) active in
          is_older q.older.items f q.active
          (subst (λ (l : List File). IsIn f l) (sym rest.1) (in_last_files p.older.items p.active.seq rest.0 f pipe.numbers older (omega (arith, late, many, last))))
      by_place (inr is) = subst (λ (x : File). IsIn x (files_of q)) (active ∙ sym is) (is_last q.older.items q.active)

  pub lies_left : (e : EntryIndex) (bytes : List ℕ) → (lies : LiesIn p appends e bytes) → first_of q ≤ lies.file.seq → LiesIn q (from_file (first_of q) appends) e bytes
  lies_left e bytes lies late =
      let kept : nat_lt lies.file.seq (first_of q) ≡ false = le-ltb lies.file.seq (first_of q) late in
      record {
        handle = lies.handle;
        file = lies.file;
        before = from_file (first_of q) lies.before;
        items = lies.items;
        after = from_file (first_of q) lies.after;
        place = lies.place;
        queue = lies.queue ∙ sym queue;
        among = file_left lies.file lies.among late;
        split =
            ap (from_file (first_of q)) lies.split
            ∙ behind_both (first_of q) lies.before ((lies.file.seq, lies.items) ∷ lies.after)
            ∙ ap (λ (t : Bool). from_file (first_of q) lies.before ++ cond t (from_file (first_of q) lies.after) ((lies.file.seq, lies.items) ∷ from_file (first_of q) lies.after)) kept;
        block = record {
          seq = lies.block.seq;
          offset =
              lies.block.offset
              ∙ ap (λ (ks : List Batch). length (file_text (id_of p.queue lies.file.seq) lies.file.format ks) + 8) (sym (same_file (first_of q) lies.file.seq lies.before late))
              ∙ ap (λ (x : LogQueue). length (file_text (id_of x lies.file.seq) lies.file.format (of_file lies.file.seq (from_file (first_of q) lies.before))) + 8) (sym queue);
          within = lies.block.within;
        };
        stands = lies.stands;
        bytes_are = lies.bytes_are;
      }

-- the file of an entry has gone
abbrev has_gone : ℕ → Option ℕ → Bool
has_gone next None = false
has_gone next (Some file) = nat_lt file next

kept_here : (next : ℕ) (o : Option ℕ) → IsFrom next o → has_gone next o ≡ false
kept_here next None from = refl
kept_here next (Some file) from = le-ltb file next from

pub same_cell : (one other : EntryIndex → List ℕ) (o : Option EntryIndex) → ((e : EntryIndex) → o ≡ Some e → one e ≡ other e) → option_map one o ≡ option_map other o
same_cell one other None same = refl
same_cell one other (Some e) same = ap (λ (b : List ℕ). Some b) (same e refl)

module _ (d e : Disk) (p q : DualPipes) (log : TracedTables) (content : Content (List ℕ)) (can : CanClean d p log content) (seq : ℕ) (result : Result ℕ Error) (barrier : Option ℕ)
    (may : first_of p.append < seq → MayGoBefore (traces_in log.traces) barrier seq) (call : IsPurgeOf p.append d q.append e seq result) (other : IsAsBefore p.rewrite d q.rewrite e) where
  abbrev first : ℕ
  first = first_of q.append

  abbrev left : Numbered
  left = from_file (first_of q.append) can.appends

  -- entries of files that went are read where they lay
  abbrev read_both : (EntryIndex → List ℕ) → EntryIndex → List ℕ
  read_both read x = cond (has_gone first (file_at lies_in (Some x))) (bytes_on d p x) (read x)

  both_read : (read : EntryIndex → List ℕ) → ReadsEntries q can.rewrites left read → ReadsEntries p can.rewrites can.appends (read_both read)
  both_read read reads x bytes (inl lies) =
      let none : file_at lies_in (Some x) ≡ None = ap file_by lies.place ∙ ap (λ (y : LogQueue). file_on y lies.handle.id.seq) (lies.queue ∙ p.rewrites) in
      ap (λ (o : Option ℕ). cond (has_gone first o) (bytes_on d p x) (read x)) none ∙ reads x bytes (inl (subst (λ (y : SinglePipe). LiesIn y can.rewrites x bytes) (sym other.same) lies))
  both_read read reads x bytes (inr lies) = by_test (nat_lt lies.file.seq first) refl
    where
      at_file : file_at lies_in (Some x) ≡ Some lies.file.seq
      at_file = ap file_by lies.place ∙ ap (λ (y : LogQueue). file_on y lies.handle.id.seq) (lies.queue ∙ p.appends) ∙ ap (λ (n : ℕ). Some n) lies.block.seq

      by_test : (t : Bool) → nat_lt lies.file.seq first ≡ t → read_both read x ≡ bytes
      by_test true e =
          ap (λ (o : Option ℕ). cond (has_gone first o) (bytes_on d p x) (read x)) at_file
          ∙ ap (λ (t : Bool). cond t (bytes_on d p x) (read x)) e
          ∙ subst (λ (l : Numbered). ReadsEntries p can.rewrites l (bytes_on d p)) (append-nil can.appends) (disk_reads p d can.rewrites can.appends [] can.pipes can.rewrite can.append) x bytes (inr lies)
      by_test false e =
          ap (λ (o : Option ℕ). cond (has_gone first o) (bytes_on d p x) (read x)) at_file
          ∙ ap (λ (t : Bool). cond t (bytes_on d p x) (read x)) e
          ∙ reads x bytes (inr (lies_left p.append q.append d can.appends can.pipes.append call.same (q.appends ∙ sym p.appends) call.rest x bytes lies (ltb-false lies.file.seq first e)))

  -- no entry of the tables lies in a file that went
  seen_left : (group i : ℕ) (x : EntryIndex) → (content_in log.tables group).entry i ≡ Some x → has_gone first (file_at lies_in (Some x)) ≡ false
  seen_left group i x there =
      let told : file_at lies_in (Some x) ≡ (traces_in log.traces group).entry_file i = ap (file_at lies_in) (sym there) ∙ can.placed group i (subst (λ (o : Option EntryIndex). IsSome o) (sym there) refl) in
      let lens : option_map (λ (y : EntryIndex). y.entry_len) ((content_in log.tables group).entry i) ≡ option_map length ((content group).entry i) =
      (λ j. ((can.tabled.lengths ∙ ap (content_map length) (reads_as (first_of p.append) (traces_in log.traces) can.rewrites can.appends content can.cleanable)) j group).entry i) in
      let some : IsSome ((content group).entry i) = some_there ((content group).entry i) x (sym lens ∙ ap (option_map (λ (y : EntryIndex). y.entry_len)) there) in
      let knows = can.cleanable.cleanable.kept.knows group in
      let low : (traces_in log.traces group).low ≤ i = omega (arith, λ (l : i < (traces_in log.traces group).low). not_there {P = ⊥} ((content group).entry i) (knows.below i l) some) in
      let high : i < (traces_in log.traces group).next = omega (arith, λ (l : (traces_in log.traces group).next ≤ i). not_there {P = ⊥} ((content group).entry i) (knows.above i low l) some) in
      ap (has_gone first) told ∙ kept_here first ((traces_in log.traces group).entry_file i) ((none_kept d e p q log content can seq result barrier may call group).entries i low high)
    where
      some_there : (o : Option (List ℕ)) (x : EntryIndex) → option_map length o ≡ Some x.entry_len → IsSome o
      some_there None x h = absurd cc
      some_there (Some y) x h = refl

  read_left : (read : EntryIndex → List ℕ) → content_map (read_both read) (content_in log.tables) ≡ content_map read (content_in log.tables)
  read_left read = λ j. λ group. record {
    there = (content_in log.tables group).there;
    entry = λ i. same_cell (read_both read) read ((content_in log.tables group).entry i) (λ x there. ap (λ (t : Bool). cond t (bytes_on d p x) (read x)) (seen_left group i x there)) j;
    value = (content_in log.tables group).value;
  }

  -- the log can be cleaned again
  pub files_gone : CanClean e q log content
  files_gone =
      let rest : CanBeCleaned first (traces_in log.traces) (records_of can.rewrites) content (filed left) = rest_may_be_cleaned d e p q log content can seq result barrier may call in
      let same : content_of_batches (can.rewrites ++ can.appends) ≡ content_of_batches (can.rewrites ++ left) =
      reads_as (first_of p.append) (traces_in log.traces) can.rewrites can.appends content can.cleanable ∙ sym (reads_as first (traces_in log.traces) can.rewrites left content rest) in
      record {
        rewrites = can.rewrites;
        appends = left;
        pipes = record { append = call.pipe; rewrite = other.usable can.pipes.rewrite };
        rewrite = other.holds can.rewrites [] can.rewrite;
        append = call.holds can.appends [] can.append;
        tabled = record {
          content = λ read reads. sym (read_left read) ∙ can.tabled.content (read_both read) (both_read read reads) ∙ same;
          lengths = can.tabled.lengths ∙ ap (content_map length) same;
        };
        placed = can.placed;
        cleanable = rest;
        together = can.together;
      }

-- ---- a new file was begun

module _ (d e : Disk) (p q : DualPipes) (log : TracedTables) (content : Content (List ℕ)) (can : CanClean d p log content) (pipes : ArePipes q e) where
  -- of the append queue
  pub append_begun : IsAsBefore p.rewrite d q.rewrite e → (q.append.active.seq ≡ p.append.active.seq + 1) × (q.append.older.items ≡ p.append.older.items ++ p.append.active ∷ []) → Holds q.append e (can.appends ++ []) []
      → CanClean e q log content
  append_begun other next holds =
      let first : first_of p.append ≡ first_of q.append = sym (begun_first p.append q.append next) in
      record {
        rewrites = can.rewrites;
        appends = can.appends;
        pipes = pipes;
        rewrite = other.holds can.rewrites [] can.rewrite;
        append = subst (λ (l : Numbered). Holds q.append e l []) (append-nil can.appends) holds;
        tabled = record {
          content = λ read reads. can.tabled.content read (either_lies p q can.rewrites can.appends can.appends other.same (same_lies p.append q.append can.appends (more_files p.append q.append next.1) (q.appends ∙ sym p.appends)) read reads);
          lengths = can.tabled.lengths;
        };
        placed = can.placed;
        cleanable = subst (λ (n : ℕ). CanBeCleaned n (traces_in log.traces) (records_of can.rewrites) content (filed can.appends)) first can.cleanable;
        together = can.together;
      }

-- a file that wasn't begun
pub not_begun : (d e : Disk) (p q : DualPipes) (log : TracedTables) (content : Content (List ℕ)) → (can : CanClean d p log content) → IsAsBefore p.rewrite d q.rewrite e → Leaves q.append e can.appends [] → LeavesContent e q content
not_begun d e p q log content can other left = record {
  rewrites = can.rewrites;
  fresh = [];
  appends = can.appends;
  rewrite = pipe_leaves q.rewrite e can.rewrites [] (other.holds can.rewrites [] can.rewrite);
  append = left;
  fronts = fronts_synced content can.rewrites can.appends (reads_as (first_of p.append) (traces_in log.traces) can.rewrites can.appends content can.cleanable);
}

-- how many went
pub counted : (result : Result ℕ Error) (seq : ℕ) (p q : SinglePipe) → IfOk result (λ n. (first_of q ≡ seq) × (first_of p + n ≡ seq)) → IfOk result (λ n. first_of p + n ≡ first_of q)
counted (Ok n) seq p q is = is.1 ∙ sym is.0
counted (Err x) seq p q is = tt
