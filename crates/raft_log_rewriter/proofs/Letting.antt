-- Old files of the rewrite queue go.
use Rattle.std.proofs.Common.{◌≡◌, inl, inr, ℕ, ◌≤◌, Bool, true, false, cond, List, [], ◌++◌, length, Option, Some, None, refl, sym, ap, subst, ◌∙◌, arith, append-nil, ltb-false}
use Rattle.std.specs.Prelude.{IsSome, nat_lt}
use Rattle.std.proofs.lemmas.Bool.{le-ltb}
use Rattle.std.proofs.lemmas.List.{map-append}
use Rattle.raft_log_records.specs.declared.file_id.FileBlockHandle.{FileBlockHandle}
use Rattle.raft_log_records.specs.declared.file_id.LogQueue.{LogQueue}
use Rattle.raft_log_records.specs.declared.file_id.LogQueue.TheVariants.{Append, Rewrite}
use Rattle.raft_log_records.specs.declared.item.EntryIndex.{EntryIndex}
use Rattle.raft_log_disk.specs.Disk.{Disk, IsNamed}
use Rattle.raft_log_file.specs.Laws.{Batch}
use Rattle.raft_log_pipe.specs.declared.pipe.SinglePipe.{SinglePipe}
use Rattle.raft_log_pipe.specs.Kept.{KeepsSettings}
use Rattle.raft_log_pipe.specs.Pipe.{Holds, IsPipe, Numbered, first_of}
use Rattle.raft_log_pipe.specs.Purging.{AreLastOf, HoldsRest, KeepsFrom, StandsFrom, from_file}
use Rattle.raft_log_pipes.specs.declared.pipes.DualPipes.{DualPipes}
use Rattle.raft_log_pipes.specs.Pipes.{IsAsBefore}
use Rattle.raft_log_memtables.specs.Content.{Content}
use Rattle.raft_log_memtables.specs.ContentLaws.{content_map}
use Rattle.raft_log_memtables.specs.MemTables.{content_in}
use Rattle.raft_log_covers.specs.Cells.Cell.{index}
use Rattle.raft_log_covers.specs.Cells.Held.{an_entry}
use Rattle.raft_log_covers.specs.Written.{all_records}
use Rattle.raft_log_covers.proofs.FileLemmas.{not_there}
use Rattle.raft_log_traces.specs.GroupTraces.{traces_in}
use Rattle.raft_log_marks.specs.MarkLaws.{IsThere}
use Rattle.raft_log_marks.specs.Opened.{file_at}
use Rattle.raft_log_marks.specs.Standing.{CanBeCleaned}
use Rattle.raft_log_purge.specs.Anew.{StandTogether}
use Rattle.raft_log_purge.proofs.AnewLemmas.{anew_written}
use Rattle.raft_log_purge.proofs.RewrittenAnew.{new_rewrites_are_cleanable, old_rewrites_leave_cleanable, together_stays}
use Rattle.raft_log_blocks.specs.Held.{IsTabled, LiesIn, ReadsEntries, content_of_batches}
use Rattle.raft_log_blocks.specs.Placed.{bytes_on}
use Rattle.raft_log_blocks.proofs.EntryReads.{disk_reads}
use Rattle.raft_log_traced.specs.declared.traced.TracedTables.{TracedTables}
use Rattle.raft_log_traced.specs.Traced.{file_by, file_on, lies_in}
use Rattle.raft_log_cleaner.specs.Cleaning.{LeavesContent, LeavesStanding, filed, records_of}
use Rattle.raft_log_cleaner.proofs.Chunks.{are_there}
use Rattle.raft_log_cleaner.proofs.Gone.{behind_both, lies_left, same_cell}
use Rattle.raft_log_cleaner.proofs.Keeping.{pipe_as_before, pipe_left}
use Rattle.raft_log_cleaner.proofs.Stood.{left_stands, went_stands}
use Rattle.raft_log_cleaner.proofs.Standing.{content_has, fronts_synced, pipe_leaves, reads_as}
use Rattle.raft_log_rewriter.specs.Standing.{CanRewrite, HasRewritten, LiesFrom}
use Rattle.raft_log_rewriter.proofs.Numbers.{AreFrom, all_go, all_stay, front_goes}
use Rattle.raft_log_rewriter.proofs.Recording.{as_cleaning, can_stand}

-- ---- entries in old files

abbrev gone_in : LogQueue → ℕ → ℕ → Bool
gone_in Append next seq = false
gone_in Rewrite next seq = nat_lt seq next

abbrev has_gone : ℕ → Option FileBlockHandle → Bool
has_gone next None = false
has_gone next (Some h) = gone_in h.id.queue next h.id.seq

from_stays : (queue : LogQueue) (next seq : ℕ) → next ≤ seq → gone_in queue next seq ≡ false
from_stays Append next seq l = refl
from_stays Rewrite next seq l = le-ltb seq next l

append_stays : (next : ℕ) (o : Option FileBlockHandle) (file : ℕ) → file_by o ≡ Some file → has_gone next o ≡ false
append_stays next None file is = refl
append_stays next (Some h) file is = by_queue h.id.queue is
  where
    by_queue : (queue : LogQueue) → file_on queue h.id.seq ≡ Some file → gone_in queue next h.id.seq ≡ false
    by_queue Append e = refl
    by_queue Rewrite e = absurd cc

module _ (d e : Disk) (p q : DualPipes) (log : TracedTables) (next : ℕ) (content : Content (List ℕ)) (h : HasRewritten d p log next content) (other : IsAsBefore p.append d q.append e) where
  abbrev rewrites : Numbered
  rewrites = h.stands.old ++ h.stands.new

  abbrev appends : Numbered
  appends = h.stands.appends

  pub holds_all : Holds p.rewrite d rewrites []
  holds_all = subst (λ (l : Numbered). Holds p.rewrite d rewrites l) h.none h.stands.rewrite

  all_new : records_of h.stands.new ≡ all_records h.ws
  all_new = ap records_of (sym (append-nil h.stands.new) ∙ ap (λ (l : Numbered). h.stands.new ++ l) (sym h.none)) ∙ h.stands.records

  new_from : AreFrom next h.stands.new
  new_from = subst (λ (l : Numbered). AreFrom next l) (ap (λ (l : Numbered). h.stands.new ++ l) h.none ∙ append-nil h.stands.new) h.stands.high

  can : CanBeCleaned (first_of p.append) (traces_in log.traces) (records_of h.stands.old ++ all_records h.ws) content (filed appends)
  can = can_stand d p log next h.ws content h.stands

  -- ---- files that went, however many

  -- however many of the old files went, what is left reads as the content
  left_reads : (f : ℕ) → f ≤ next → content_of_batches (from_file f rewrites ++ appends) ≡ content
  left_reads f l =
      let front = front_goes f 0 h.stands.old h.stands.rise in
      reads_as (first_of p.append) (traces_in log.traces) (from_file f rewrites) appends content
      (subst (λ (l : List Batch). CanBeCleaned (first_of p.append) (traces_in log.traces) l content (filed appends))
      ((λ j. sym front.1 j ++ sym all_new j)
      ∙ sym (map-append (λ b. b.1) (from_file f h.stands.old) h.stands.new)
      ∙ ap records_of (ap (λ (l : Numbered). from_file f h.stands.old ++ l) (sym (all_stay f next h.stands.new l new_from)) ∙ sym (behind_both f h.stands.old h.stands.new)))
      (old_rewrites_leave_cleanable (first_of p.append) (traces_in log.traces) (records_of h.stands.old) h.ws content (filed appends) can h.stands.together h.stands.anew h.each front.0))

  -- a pipe of the rewrite queue that has the files from a number on
  pub rest_leaves : (r : DualPipes) → r.append ≡ q.append → first_of r.rewrite ≤ next → Holds r.rewrite e (from_file (first_of r.rewrite) rewrites) [] → LeavesContent e r content
  rest_leaves r same l holds = record {
    rewrites = from_file (first_of r.rewrite) rewrites;
    fresh = [];
    appends = appends;
    rewrite = pipe_leaves r.rewrite e (from_file (first_of r.rewrite) rewrites) [] holds;
    append = pipe_leaves r.append e appends [] (subst (λ (x : SinglePipe). Holds x e appends []) (sym same) (other.holds appends [] h.stands.append));
    fronts = fronts_synced content (from_file (first_of r.rewrite) rewrites) appends (left_reads (first_of r.rewrite) l);
  }

  -- ---- all old files went

  only_new : from_file next rewrites ≡ h.stands.new
  only_new =
      behind_both next h.stands.old h.stands.new
      ∙ (λ j. all_go next h.stands.old h.stands.low j ++ all_stay next next h.stands.new (omega arith) new_from j)

  abbrev read_both : (EntryIndex → List ℕ) → EntryIndex → List ℕ
  read_both read x = cond (has_gone next x.entries) (bytes_on d p x) (read x)

  module _ (pipe : IsPipe q.rewrite e) (active : q.rewrite.active ≡ p.rewrite.active) (rest : AreLastOf p.rewrite.older.items q.rewrite.older.items) (first : first_of q.rewrite ≡ next) (left : HoldsRest p.rewrite d q.rewrite e) where
    both_read : (read : EntryIndex → List ℕ) → ReadsEntries q h.stands.new appends read → ReadsEntries p rewrites appends (read_both read)
    both_read read reads x bytes (inl lies) = by_test (nat_lt lies.file.seq next) refl
      where
        test : has_gone next x.entries ≡ nat_lt lies.file.seq next
        test =
            ap (has_gone next) lies.place
            ∙ ap (λ (y : LogQueue). gone_in y next lies.handle.id.seq) (lies.queue ∙ p.rewrites)
            ∙ ap (λ (n : ℕ). nat_lt n next) lies.block.seq

        by_test : (t : Bool) → nat_lt lies.file.seq next ≡ t → read_both read x ≡ bytes
        by_test true is =
            ap (λ (t : Bool). cond t (bytes_on d p x) (read x)) (test ∙ is)
            ∙ subst (λ (l : Numbered). ReadsEntries p rewrites l (bytes_on d p)) (append-nil appends) (disk_reads p d rewrites appends [] h.stands.pipes holds_all h.stands.append) x bytes (inl lies)
        by_test false is =
            ap (λ (t : Bool). cond t (bytes_on d p x) (read x)) (test ∙ is)
            ∙ reads x bytes (inl (subst (λ (l : Numbered). LiesIn q.rewrite l x bytes) (ap (λ (n : ℕ). from_file n rewrites) first ∙ only_new)
            (lies_left p.rewrite q.rewrite d rewrites h.stands.pipes.rewrite active (q.rewrites ∙ sym p.rewrites) rest x bytes lies (subst (λ (n : ℕ). n ≤ lies.file.seq) (sym first) (ltb-false lies.file.seq next is)))))
    both_read read reads x bytes (inr lies) =
        ap (λ (t : Bool). cond t (bytes_on d p x) (read x)) (ap (has_gone next) lies.place ∙ ap (λ (y : LogQueue). gone_in y next lies.handle.id.seq) (lies.queue ∙ p.appends))
        ∙ reads x bytes (inr (subst (λ (y : SinglePipe). LiesIn y appends x bytes) (sym other.same) lies))

    -- no entry of the tables lies in a file that went
    seen_left : (group i : ℕ) (x : EntryIndex) → (content_in log.tables group).entry i ≡ Some x → has_gone next x.entries ≡ false
    seen_left group i x there = by_file ((traces_in log.traces group).entry_file i) refl
      where
        some : IsSome ((content_in log.tables group).entry i)
        some = subst (λ (o : Option EntryIndex). IsSome o) (sym there) refl

        some_content : IsSome ((content group).entry i)
        some_content = content_has d p log [] content (as_cleaning d p log next h.ws content h.stands) group i some

        is_there : (b : Bool) → IsThere b (content group) → (content group).there ≡ true
        is_there true is = is
        is_there false none = not_there ((content group).entry i) (none_held (none (index i))) some_content
          where
            none_held : an_entry ((content group).entry i) ≡ an_entry None → (content group).entry i ≡ None
            none_held held_so = cc

        from_new : LiesFrom next x → has_gone next x.entries ≡ false
        from_new (handle, is, l) = ap (has_gone next) is ∙ from_stays handle.id.queue next handle.id.seq l

        by_file : (o : Option ℕ) → (traces_in log.traces group).entry_file i ≡ o → has_gone next x.entries ≡ false
        by_file (Some file) is = append_stays next x.entries file (ap (file_at lies_in) (sym there) ∙ h.stands.placed group i some ∙ is)
        by_file None is =
            from_new (h.stands.moved group i x
            (h.entries group i (is_there (content_in log.tables group).there (are_there d p log [] content (as_cleaning d p log next h.ws content h.stands) group)) some_content is) there)

    read_left : (read : EntryIndex → List ℕ) → content_map (read_both read) (content_in log.tables) ≡ content_map read (content_in log.tables)
    read_left read = λ j. λ group. record {
      there = (content_in log.tables group).there;
      entry = λ i. same_cell (read_both read) read ((content_in log.tables group).entry i) (λ x there. ap (λ (t : Bool). cond t (bytes_on d p x) (read x)) (seen_left group i x there)) j;
      value = (content_in log.tables group).value;
    }

    tabled_all : IsTabled p rewrites appends log.tables
    tabled_all = subst (λ (l : Numbered). IsTabled p l appends log.tables) (ap (λ (l : Numbered). rewrites ++ l) h.none ∙ append-nil rewrites) h.stands.tabled

    can_new : CanBeCleaned (first_of p.append) (traces_in log.traces) (records_of h.stands.new) content (filed appends)
    can_new = subst (λ (l : List Batch). CanBeCleaned (first_of p.append) (traces_in log.traces) l content (filed appends)) (sym all_new)
        (new_rewrites_are_cleanable (first_of p.append) (traces_in log.traces) (records_of h.stands.old) h.ws content (filed appends) can h.stands.together h.stands.anew h.each)

    old_reads : content_of_batches (rewrites ++ appends) ≡ content
    old_reads = reads_as (first_of p.append) (traces_in log.traces) rewrites appends content
        (subst (λ (l : List Batch). CanBeCleaned (first_of p.append) (traces_in log.traces) l content (filed appends))
        (ap (λ (l : List Batch). records_of h.stands.old ++ l) (sym all_new) ∙ sym (map-append (λ b. b.1) h.stands.old h.stands.new)) can)

    same_content : content_of_batches (rewrites ++ appends) ≡ content_of_batches (h.stands.new ++ appends)
    same_content = old_reads ∙ sym (reads_as (first_of p.append) (traces_in log.traces) h.stands.new appends content can_new)

    new_together : StandTogether (records_of h.stands.new)
    new_together = subst (λ (l : List Batch). StandTogether l) (sym all_new) ((together_stays [] tt).more h.ws (anew_written content (traces_in log.traces) h.ws h.stands.anew))

    pub files_gone : CanRewrite e q log content
    files_gone = record {
      can = record {
        rewrites = h.stands.new;
        appends = appends;
        pipes = record { append = other.usable h.stands.pipes.append; rewrite = pipe };
        rewrite = subst (λ (l : Numbered). Holds q.rewrite e l []) (ap (λ (n : ℕ). from_file n rewrites) first ∙ only_new) (left rewrites [] holds_all);
        append = other.holds appends [] h.stands.append;
        tabled = record {
          content = λ read reads. sym (read_left read) ∙ tabled_all.content (read_both read) (both_read read reads) ∙ same_content;
          lengths = tabled_all.lengths ∙ ap (content_map length) same_content;
        };
        placed = h.stands.placed;
        cleanable = subst (λ (x : SinglePipe). CanBeCleaned (first_of x) (traces_in log.traces) (records_of h.stands.new) content (filed appends)) (sym other.same) can_new;
        together = λ is. new_together;
      };
      together = new_together;
    }

  -- ---- it was refused

  module _ (named : IsNamed d) (named_then : IsNamed e) (pipe : IsPipe q.rewrite e) (active : q.rewrite.active ≡ p.rewrite.active) (rest : AreLastOf p.rewrite.older.items q.rewrite.older.items)
      (keeps : KeepsFrom p.rewrite.queue (first_of q.rewrite) d e) (settings : KeepsSettings p.rewrite q.rewrite) (paths : q.rewrite.paths ≡ p.rewrite.paths) (bound : first_of q.rewrite ≤ next) (st : StandsFrom p.rewrite d q.rewrite e) where
    abbrev standing : DualPipes
    standing = record { append = q.append; rewrite = st.pipe; appends = q.appends; rewrites = st.queue ∙ p.rewrites }

    pub go_refused : LeavesStanding d p e q content
    go_refused = record {
      pipes = standing;
      leaves = rest_leaves standing refl (omega (arith, bound, st.first.1)) (st.holds rewrites [] holds_all);
      append = left_stands p.append q.append d e (pipe_left p.append q.append d e appends [] (other.holds appends [] h.stands.append) (pipe_as_before p.append q.append d e other));
      rewrite = went_stands p.rewrite q.rewrite d e rewrites [] named named_then h.stands.pipes.rewrite pipe active (q.rewrites ∙ sym p.rewrites) paths settings rest keeps holds_all st;
    }
