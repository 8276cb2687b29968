-- Steps of writing the rewrite queue anew, one after the other.
use Rattle.std.proofs.Common.{◌≡◌, ℕ, List, [], ◌∷◌, ◌++◌, Option, Some, None, refl, sym, ap, subst, ◌∙◌, append_assoc, append-nil}
use Rattle.std.specs.Prelude.{Result, Ok, Err, OnOk}
use Rattle.std.specs.Result.{IsErrAnd}
use Rattle.raft_log_disk.specs.Disk.{Disk}
use Rattle.raft_log_file.specs.Laws.{Batch}
use Rattle.raft_log_pipes.specs.declared.pipes.DualPipes.{DualPipes}
use Rattle.raft_log_pipes.specs.Pipes.{IsAsBefore}
use Rattle.raft_log_memtables.specs.Content.{Content}
use Rattle.raft_log_memtables.specs.Laws.{all_of}
use Rattle.raft_log_memtables.specs.Replay.{mark_of}
use Rattle.raft_log_covers.specs.Kept.{Traces}
use Rattle.raft_log_covers.specs.Written.{Written, all_records}
use Rattle.raft_log_records.specs.Item.Change.{mark}
use Rattle.raft_log_records.specs.declared.item.AtomicGroupStatus.TheVariants.{Begin, End, Middle}
use Rattle.raft_log_purge.specs.Anew.{AreAnew}
use Rattle.raft_log_traces.specs.GroupTraces.{traces_in}
use Rattle.raft_log_blocks.proofs.HeldLemmas.{then_as_before}
use Rattle.raft_log_traced.specs.declared.traced.TracedTables.{TracedTables}
use Rattle.raft_log_cleaner.specs.Pipes.{KeepsPipes}
use Rattle.raft_log_cleaner.proofs.Going.{done, failed, none_ok, still_as_before, when_err}
use Rattle.raft_log_cleaner.proofs.Keeping.{err_then, ok_then, pipes_then, pipes_then_left, same_pipes}
use Rattle.raft_log_rewriter.specs.declared.writer.Writer.{Writer}
use Rattle.raft_log_rewriter.specs.Parts.{AreAmong, AreStored, HasId, HasParts, IsMarkedPart, IsPart, Open, Stage, unended_of}
use Rattle.raft_log_rewriter.specs.Parts.Open.{begun, closed}
use Rattle.raft_log_rewriter.specs.Parts.Stage.{between}
use Rattle.raft_log_rewriter.specs.Rewriting.{GoesOn, IsRewriting, Progress, at}
use Rattle.raft_log_rewriter.specs.Standing.{Stands, SyncsRecords, WritesRecord}
use Rattle.raft_log_rewriter.proofs.Items.{among_more, marked, none_stored, stored-append}
use Rattle.raft_log_rewriter.proofs.Marked.{Follows, among_written, ends, whole}
use Rattle.raft_log_rewriter.proofs.Stages.{parts_more}
use Rattle.raft_log_rewriter.proofs.Recording.{stands_leave, stands_left}

-- it has come so far, with the same content, and the append queue is as it was
pub record HasCome (d : Disk) (p : DualPipes) (log : TracedTables) (w : Writer) (from : List ℕ → Progress) (e : Disk) (q : DualPipes) (new : TracedTables) (v : Writer) (to : List ℕ → Progress) : Type 0 where
  pub on : (next : ℕ) (groups : List ℕ) (content : Content (List ℕ)) → IsRewriting d p log w next (from groups) content → IsRewriting e q new v next (to groups) content
  pub append : IsAsBefore p.append d q.append e
  pub kept : KeepsPipes d p e q

pub not_yet : (d : Disk) (p : DualPipes) (log : TracedTables) (w : Writer) (from : List ℕ → Progress) → HasCome d p log w from d p log w from
not_yet d p log w from = record { on = λ next groups content s. s; append = still_as_before p.append d; kept = same_pipes d p }

-- it has come to its end
pub come_done : {X E : Type 0} {d e : Disk} {p q : DualPipes} {log new : TracedTables} {w v : Writer} {from to : List ℕ → Progress} (x : X) → HasCome d p log w from e q new v to
    → GoesOn d p log w from e q new v to (done {X = X} {E = E} x)
come_done x come = record { ok = come.on; err = λ next groups content s. tt; append = come.append; kept = come.kept; left = λ next groups content s. tt }

-- a step that changed no file is refused
pub stopped_by : {X E : Type 0} (Q : E → Type 0) (d : Disk) (p : DualPipes) (log new : TracedTables) (w v : Writer) (from to : List ℕ → Progress) (result : Result X E) → IsErrAnd result Q
    → GoesOn d p log w from d p new v to result
stopped_by Q d p log new w v from to result is = record {
  ok = λ next groups content s. none_ok _ _ result is;
  err = λ next groups content s. when_err result (stands_leave d p log next _ content s.stands);
  append = still_as_before p.append d;
  kept = none_ok _ _ result is;
  left = λ next groups content s. when_err result (stands_left d d p p log next _ content s.stands (same_pipes d p));
}

pub stopped : {X E : Type 0} (d : Disk) (p : DualPipes) (log new : TracedTables) (w v : Writer) (from to : List ℕ → Progress) (x : E) → GoesOn d p log w from d p new v to (failed {X = X} {E = E} x)
stopped d p log new w v from to x = record {
  ok = λ next groups content s. tt;
  err = λ next groups content s. stands_leave d p log next _ content s.stands;
  append = still_as_before p.append d;
  kept = tt;
  left = λ next groups content s. stands_left d d p p log next _ content s.stands (same_pipes d p);
}

-- a step that only adds to the batch
pub added : {X E : Type 0} (d : Disk) (p : DualPipes) (log : TracedTables) (w v : Writer) (from to : List ℕ → Progress) (x : X)
    → ((next : ℕ) (groups : List ℕ) (content : Content (List ℕ)) → IsRewriting d p log w next (from groups) content → IsRewriting d p log v next (to groups) content)
    → GoesOn d p log w from d p log v to (done {X = X} {E = E} x)
added d p log w v from to x on = come_done x (record { on = on; append = still_as_before p.append d; kept = same_pipes d p })

module _ {d e f : Disk} {p q r : DualPipes} {log mid new : TracedTables} {w u v : Writer} {from middle to : List ℕ → Progress} where
  -- a step more, which is the last one
  pub come_then : {X E : Type 0} (result : Result X E) → HasCome d p log w from e q mid u middle → GoesOn e q mid u middle f r new v to result → GoesOn d p log w from f r new v to result
  come_then result come step = record {
    ok = λ next groups content s. step.ok next groups content (come.on next groups content s);
    err = λ next groups content s. step.err next groups content (come.on next groups content s);
    append = then_as_before p.append q.append r.append d e f come.append step.append;
    kept = ok_then result d e f p q r come.kept step.kept;
    left = λ next groups content s. err_then result d e f p q r come.kept (step.left next groups content (come.on next groups content s));
  }

  -- a step more
  pub come_more : {X E : Type 0} (x : X) → HasCome d p log w from e q mid u middle → GoesOn e q mid u middle f r new v to (done {X = X} {E = E} x) → HasCome d p log w from f r new v to
  come_more x come step = record {
    on = λ next groups content s. step.ok next groups content (come.on next groups content s);
    append = then_as_before p.append q.append r.append d e f come.append step.append;
    kept = pipes_then d e f p q r come.kept step.kept;
  }

  -- it is refused there, wherever it was to come to
  pub come_refused : {X Y E : Type 0} {other : List ℕ → Progress} {last : Writer} (result : Result X E) (x : E) → IsErrAnd result (λ e. e ≡ x) → HasCome d p log w from e q mid u middle
      → GoesOn e q mid u middle f r new v to (failed {X = Y} {E = E} x) → GoesOn d p log w from f r new last other result
  come_refused {X} {Y} {E} result x is come step = record {
    ok = λ next groups content s. none_ok _ _ result is;
    err = λ next groups content s. when_err result (step.err next groups content (come.on next groups content s));
    append = then_as_before p.append q.append r.append d e f come.append step.append;
    kept = none_ok _ _ result is;
    left = λ next groups content s. when_err result (pipes_then_left d e f p q r come.kept (step.left next groups content (come.on next groups content s)));
  }

-- ---- items more in the batch

pub more_items : (d : Disk) (p : DualPipes) (log : TracedTables) (w v : Writer) (next : ℕ) (from to : Stage) (groups : List ℕ) (content : Content (List ℕ)) (xs : Batch) → (s : IsRewriting d p log w next (at from groups) content)
    → mark_of xs ≡ None → AreStored content (traces_in log.traces) xs → IsPart content to (s.part ++ xs) → v.batch.items ≡ w.batch.items ++ xs → v.group ≡ w.group → IsRewriting d p log v next (at to groups) content
more_items d p log w v next from to groups content xs s unmarked stored part items group = record {
  ws = s.ws;
  open_group = s.open_group;
  part = s.part ++ xs;
  stands = s.stands;
  id = subst (λ (o : Option ℕ). HasId s.open_group o) (sym group) s.id;
  parts = subst (λ (l : Batch). HasParts content (traces_in log.traces) s.ws s.open_group l (s.part ++ xs)) (sym items) (parts_more content (traces_in log.traces) s.ws s.open_group w.batch.items s.part xs unmarked s.parts);
  stored = subst (λ (l : Batch). AreStored content (traces_in log.traces) l) (sym items) (stored-append content (traces_in log.traces) w.batch.items xs s.stored stored);
  is_part = part;
  among =
      subst (λ (l : Batch). AreAmong content (traces_in log.traces) l groups)
      (append_assoc (all_of (all_records (s.ws ++ unended_of s.open_group))) w.batch.items xs ∙ ap (λ (l : Batch). all_of (all_records (s.ws ++ unended_of s.open_group)) ++ l) (sym items))
      (among_more content (traces_in log.traces) (all_of (all_records (s.ws ++ unended_of s.open_group)) ++ w.batch.items) xs groups s.among);
}

-- another stage, and the same items
pub same_items : (d : Disk) (p : DualPipes) (log : TracedTables) (w : Writer) (next : ℕ) (from to : Stage) (groups : List ℕ) (content : Content (List ℕ)) → (s : IsRewriting d p log w next (at from groups) content)
    → IsPart content to s.part → IsRewriting d p log w next (at to groups) content
same_items d p log w next from to groups content s part = record {
  ws = s.ws;
  open_group = s.open_group;
  part = s.part;
  stands = s.stands;
  id = s.id;
  parts = s.parts;
  stored = s.stored;
  is_part = part;
  among = s.among;
}

-- ---- a record

-- the batch was written with some items more, as they may be
pub wrote : {X E : Type 0} (stage : Stage) (d e : Disk) (p q : DualPipes) (log new : TracedTables) (w v : Writer) (items behind : Batch) (result : Result X E)
    → ((next : ℕ) (groups : List ℕ) (content : Content (List ℕ)) → (s : IsRewriting d p log w next (at stage groups) content) → Follows content (traces_in log.traces) s.ws s.open_group s.part items v.group)
    → items ≡ w.batch.items ++ behind → WritesRecord d p log items e q new result → OnOk result (v.batch.items ≡ []) → new.traces ≡ log.traces → GoesOn d p log w (at stage) e q new v (at stage) result
wrote {X} {E} stage d e p q log new w v items behind result follows is call emptied same = record {
  ok = λ next groups content s.
      let f = follows next groups content s in
      by_result result emptied next groups content s (call.ok next (s.ws ++ unended_of s.open_group) (f.more ++ unended_of f.next) content s.stands f.may);
  err = λ next groups content s. let f = follows next groups content s in call.err next (s.ws ++ unended_of s.open_group) (f.more ++ unended_of f.next) content s.stands f.may;
  append = call.append;
  kept = call.kept;
  left = λ next groups content s. let f = follows next groups content s in call.left next (s.ws ++ unended_of s.open_group) (f.more ++ unended_of f.next) content s.stands f.may;
}
  where
    by_result : (r : Result X E) → OnOk r (v.batch.items ≡ []) → (next : ℕ) (groups : List ℕ) (content : Content (List ℕ)) → (s : IsRewriting d p log w next (at stage groups) content)
        → OnOk r (Stands e q new next ((follows next groups content s).more ++ unended_of (follows next groups content s).next) content) → OnOk r (IsRewriting e q new v next (at stage groups) content)
    by_result (Err x) none next groups content s stands = tt
    by_result (Ok x) none next groups content s stands =
        let f = follows next groups content s in
        record {
          ws = f.more;
          open_group = f.next;
          part = s.part;
          stands = stands;
          id = f.id;
          parts = subst (λ t. HasParts content (traces_in t) f.more f.next v.batch.items s.part) (sym same) (subst (λ (l : Batch). HasParts content (traces_in log.traces) f.more f.next l s.part) (sym none) f.parts);
          stored = subst (λ (l : Batch). AreStored content (traces_in new.traces) l) (sym none) (none_stored content (traces_in new.traces) [] (λ group i. refl));
          is_part = s.is_part;
          among =
              subst (λ t. AreAmong content (traces_in t) (all_of (all_records (f.more ++ unended_of f.next)) ++ v.batch.items) groups) (sym same)
              (subst (λ (l : Batch). AreAmong content (traces_in log.traces) (all_of (all_records (f.more ++ unended_of f.next)) ++ l) groups) (sym none)
              (among_written content (traces_in log.traces) (s.ws ++ unended_of s.open_group) (f.more ++ unended_of f.next) w.batch.items behind groups
              (ap (λ (l : Batch). all_records (s.ws ++ unended_of s.open_group) ++ l ∷ []) (sym is) ∙ f.may.records) s.among));
        }

-- a record that is refused before it is written
pub record_failed : {X E : Type 0} (d : Disk) (p : DualPipes) (log new : TracedTables) (items : Batch) (x : E) → WritesRecord d p log items d p new (failed {X = X} {E = E} x)
record_failed d p log new items x = record {
  ok = λ next ws more content s m. tt;
  err = λ next ws more content s m. stands_leave d p log next ws content s;
  append = still_as_before p.append d;
  kept = tt;
  left = λ next ws more content s m. stands_left d d p p log next ws content s (same_pipes d p);
}

-- so it is refused, as what wrote it was
pub record_refused : {X Y E : Type 0} (Q : E → Type 0) (d e : Disk) (p q : DualPipes) (log new : TracedTables) (items : Batch) (result : Result Y E) (x : E) → IsErrAnd result Q → WritesRecord d p log items e q new (failed {X = X} {E = E} x)
    → WritesRecord d p log items e q new result
record_refused Q d e p q log new items result x is call = record {
  ok = λ next ws more content s m. none_ok _ _ result is;
  err = λ next ws more content s m. when_err result (call.err next ws more content s m);
  append = call.append;
  kept = none_ok _ _ result is;
  left = λ next ws more content s m. when_err result (call.left next ws more content s m);
}

-- a record, and a sync behind it
pub record_synced : {X Y E : Type 0} (d e f : Disk) (p q r : DualPipes) (log new : TracedTables) (items : Batch) (x : X) (result : Result Y E) → WritesRecord d p log items e q new (done {X = X} {E = E} x) → SyncsRecords e q new f r result
    → WritesRecord d p log items f r new result
record_synced {X} {Y} {E} d e f p q r log new items x result one two = record {
  ok = λ next ws more content s m. by_result result next more content (two.ok next more content (one.ok next ws more content s m));
  err = λ next ws more content s m. two.err next more content (one.ok next ws more content s m);
  append = then_as_before p.append q.append r.append d e f one.append two.append;
  kept = ok_then result d e f p q r one.kept two.kept;
  left = λ next ws more content s m. err_then result d e f p q r one.kept (two.left next more content (one.ok next ws more content s m));
}
  where
    by_result : (y : Result Y E) (next : ℕ) (more : List (Written (List ℕ))) (content : Content (List ℕ)) → OnOk y ((t : Stands f r new next more content) × (t.fresh ≡ [])) → OnOk y (Stands f r new next more content)
    by_result (Ok z) next more content h = h.0
    by_result (Err z) next more content h = tt

-- the items, and a mark behind them
pub marked_behind : (group other : Option ℕ) (items more : Batch) → IsMarkedPart group items other more → (behind : Batch) × (more ≡ items ++ behind)
marked_behind None None items more is = absurd is
marked_behind None (Some id) items more is = (record { group = 0; change = mark id Begin } ∷ [], is)
marked_behind (Some id) None items more is = absurd is
marked_behind (Some id) (Some other) items more is = (record { group = 0; change = mark id Middle } ∷ [], is.1)

-- ---- the ends of groups

pub ended_follows : (content : Content (List ℕ)) (traces : Traces) (ws : List (Written (List ℕ))) (o : Open) (items part more : Batch) (id : ℕ) → AreStored content traces items → AreAnew content traces (ws ++ unended_of o) → HasId o (Some id)
    → part ≡ [] → more ≡ marked items id End → HasParts content traces ws o items part → Follows content traces ws o part more None
ended_follows content traces ws closed items part more id stored anew has none is p = absurd has
ended_follows content traces ws (begun was first middles) items part more id stored anew has none is p =
    subst (λ (l : Batch). Follows content traces ws (begun was first middles) l more None) (sym none)
    (subst (λ (l : Batch). Follows content traces ws (begun was first middles) [] l None) (sym (is ∙ ap (λ (n : ℕ). marked items n End) (sym has)))
    (ends content traces ws items stored was first middles anew (subst (λ (l : Batch). HasParts content traces ws (begun was first middles) items l) none p)))

pub whole_follows : (content : Content (List ℕ)) (traces : Traces) (ws : List (Written (List ℕ))) (o : Open) (items part : Batch) → AreStored content traces items → AreAnew content traces (ws ++ unended_of o) → HasId o None
    → part ≡ [] → HasParts content traces ws o items part → Follows content traces ws o part items None
whole_follows content traces ws closed items part stored anew has none p =
    subst (λ (l : Batch). Follows content traces ws closed l items None) (sym none)
    (whole content traces ws items stored anew (subst (λ (l : Batch). HasParts content traces ws closed items l) none p))
whole_follows content traces ws (begun was first middles) items part stored anew has none p = absurd has

-- ---- groups one after the other

-- behind groups that were written
pub come_shifted : {X E : Type 0} {d e : Disk} {p q : DualPipes} {log new : TracedTables} {w v : Writer} {to : List ℕ → Progress} {result : Result X E} (before : List ℕ) → GoesOn d p log w (at between) e q new v to result
    → GoesOn d p log w (λ groups. at between (groups ++ before)) e q new v (λ groups. to (groups ++ before)) result
come_shifted before step = record {
  ok = λ next groups content s. step.ok next (groups ++ before) content s;
  err = λ next groups content s. step.err next (groups ++ before) content s;
  append = step.append;
  kept = step.kept;
  left = λ next groups content s. step.left next (groups ++ before) content s;
}

-- none was yet
pub come_begun : (d : Disk) (p : DualPipes) (log : TracedTables) (w : Writer) → HasCome d p log w (at between) d p log w (λ groups. at between (groups ++ []))
come_begun d p log w = record {
  on = λ next groups content s. subst (λ (l : List ℕ). IsRewriting d p log w next (at between l) content) (sym (append-nil groups)) s;
  append = still_as_before p.append d;
  kept = same_pipes d p;
}

-- one more was
pub come_next : {d e f : Disk} {p q r : DualPipes} {log mid new : TracedTables} {w u v : Writer} {E : Type 0} (before after : List ℕ) (group : ℕ) → after ≡ before ++ group ∷ [] → HasCome d p log w (at between) e q mid u (λ groups. at between (groups ++ before))
    → GoesOn e q mid u (at between) f r new v (λ groups. at between (groups ++ group ∷ [])) (done {X = Unit {0}} {E = E} tt) → HasCome d p log w (at between) f r new v (λ groups. at between (groups ++ after))
come_next {d} {e} {f} {p} {q} {r} {log} {mid} {new} {w} {u} {v} before after group is come step = record {
  on = λ next groups content s.
      subst (λ (l : List ℕ). IsRewriting f r new v next (at between l) content) (append_assoc groups before (group ∷ []) ∙ ap (λ (l : List ℕ). groups ++ l) (sym is))
      (step.ok next (groups ++ before) content (come.on next groups content s));
  append = then_as_before p.append q.append r.append d e f come.append step.append;
  kept = pipes_then d e f p q r come.kept step.kept;
}

-- what stands is seen as another stage
pub come_seen : {d e : Disk} {p q : DualPipes} {log new : TracedTables} {w v : Writer} {from middle to : List ℕ → Progress} → HasCome d p log w from e q new v middle
    → ((next : ℕ) (groups : List ℕ) (content : Content (List ℕ)) → IsRewriting d p log w next (from groups) content → IsRewriting e q new v next (middle groups) content → IsRewriting e q new v next (to groups) content)
    → HasCome d p log w from e q new v to
come_seen come turn = record { on = λ next groups content s. turn next groups content s (come.on next groups content s); append = come.append; kept = come.kept }

-- nothing but the batch changed
pub come_added : (d : Disk) (p : DualPipes) (log : TracedTables) (w v : Writer) (from to : List ℕ → Progress)
    → ((next : ℕ) (groups : List ℕ) (content : Content (List ℕ)) → IsRewriting d p log w next (from groups) content → IsRewriting d p log v next (to groups) content) → HasCome d p log w from d p log v to
come_added d p log w v from to on = record { on = on; append = still_as_before p.append d; kept = same_pipes d p }
