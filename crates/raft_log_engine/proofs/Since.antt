-- Batches that were written one behind the other, and what an opening finds of them.
use Rattle.std.proofs.Common.{◌≡◌, ℕ, zero, suc, ◌+◌, Bool, false, List, [], ◌∷◌, ◌++◌, length, take, drop, refl, sym, ap, subst, ◌∙◌, append_assoc}
use Rattle.std.specs.List.{AllByRecursion, list_any}
use Rattle.std.proofs.lemmas.List.{append-nil, map-append, take-append-drop}
use Rattle.std.proofs.Math.Seq.{take-append-add}
use Rattle.raft_log_records.specs.Spelling.{holds_mark}
use Rattle.raft_log_disk.specs.Disk.{Disk, IsNamed}
use Rattle.raft_log_disk.specs.Text.{Text}
use Rattle.raft_log_file.specs.Laws.{Batch}
use Rattle.raft_log_pipes.specs.declared.pipes.DualPipes.{DualPipes}
use Rattle.raft_log_pipes.specs.Pipes.{IsAsBefore}
use Rattle.raft_log_pipe.specs.Appending.{LeavesAppended}
use Rattle.raft_log_pipe.specs.Alone.{IsAlone, IsNearlyAlone}
use Rattle.raft_log_pipe.specs.Pipe.{Holds, Leaves, Numbered}
use Rattle.raft_log_pipe.proofs.AloneLemmas.{nearly}
use Rattle.raft_log_pipe.proofs.PipeLemmas.{holds_leaves}
use Rattle.raft_log_memtables.specs.Content.{Content, after_batch}
use Rattle.raft_log_blocks.specs.Held.{HoldsMore, content_of_batches}
use Rattle.raft_log_engine.specs.Parts.{Parts}
use Rattle.raft_log_engine.specs.Reopened.{OpensAsFront, StandsAlone, directories_of_engine, directories_of_pipes}
use Rattle.raft_log_engine.specs.Since.{HasWritten, after_batches, unnumbered, written_batch}
use Rattle.raft_log_engine.proofs.Batches.{one_more_batch}
use Rattle.raft_log_engine.proofs.Reopened.{IsClosed, KeepsRewrites, RewritesStand, both_content, rewrites_on, rewrites_stand, same_directories}

abbrev Seen : Type 0
Seen = Content (List ℕ)

-- no batch is marked
abbrev ArePlain : List Batch → Type 0
ArePlain bs = AllByRecursion (λ b. list_any holds_mark b ≡ false) bs

-- ---- contents after batches

after_append : (bs cs : List Batch) (c : Seen) → after_batches (bs ++ cs) c ≡ after_batches cs (after_batches bs c)
after_append [] cs c = refl
after_append (b ∷ bs) cs c = after_append bs cs (after_batch b c)

after_more : (s u : Numbered) → ArePlain (unnumbered u) → content_of_batches (s ++ u) ≡ after_batches (unnumbered u) (content_of_batches s)
after_more s [] plain = ap content_of_batches (append-nil s)
after_more s (b ∷ u) plain =
    ap content_of_batches (sym (append_assoc s (b ∷ []) u))
    ∙ after_more (s ++ b ∷ []) u plain.1
    ∙ ap (after_batches (unnumbered u)) (one_more_batch s b.0 b.1 plain.0)

-- behind others
after_all : (r s u : Numbered) → ArePlain (unnumbered u) → content_of_batches (r ++ (s ++ u)) ≡ after_batches (unnumbered u) (content_of_batches (r ++ s))
after_all r s u plain = ap content_of_batches (sym (append_assoc r s u)) ∙ after_more (r ++ s) u plain

plain_take : (k : ℕ) (u : Numbered) → ArePlain (unnumbered u) → ArePlain (unnumbered (take k u))
plain_take zero u plain = tt
plain_take (suc k) [] plain = tt
plain_take (suc k) (b ∷ u) plain = (plain.0, plain_take k u plain.1)

plain_drop : (k : ℕ) (u : Numbered) → ArePlain (unnumbered u) → ArePlain (unnumbered (drop k u))
plain_drop zero u plain = plain
plain_drop (suc k) [] plain = tt
plain_drop (suc k) (b ∷ u) plain = plain_drop k u plain.1

plain_push : (u : Numbered) (b : ℕ × Batch) → ArePlain (unnumbered u) → list_any holds_mark b.1 ≡ false → ArePlain (unnumbered (u ++ b ∷ []))
plain_push [] b plain last = (last, tt)
plain_push (a ∷ u) b plain last = (plain.0, plain_push u b plain.1 last)

take_unnumbered : (k : ℕ) (u : Numbered) → unnumbered (take k u) ≡ take k (unnumbered u)
take_unnumbered zero u = refl
take_unnumbered (suc k) [] = refl
take_unnumbered (suc k) (b ∷ u) = λ i. b.1 ∷ take_unnumbered k u i

-- ---- what was written

module _ {F : Type 0} (disk : F → Disk) where
  -- with synced batches alone nothing was written since
  pub nothing_since : (e : Parts F) (r bs : Numbered) → Holds e.pipes.rewrite (disk e.files) r [] → Holds e.pipes.append (disk e.files) bs [] → (content : Seen) → content ≡ content_of_batches (r ++ bs) → HasWritten disk e content []
  nothing_since e r bs rewrite append content is = record {
    rewrites = r;
    synced = bs;
    unsynced = [];
    rewrite = rewrite;
    append = append;
    first = [];
    split = refl;
    on_disk = sym is;
    plain = tt;
  }

  -- one more batch
  pub more_written : (old new : Parts F) (sync : Bool) (before : Seen) (batches : List Batch) (seq : ℕ) (items : Batch) → IsAsBefore old.pipes.rewrite (disk old.files) new.pipes.rewrite (disk new.files)
      → ((s u : Numbered) → Holds old.pipes.append (disk old.files) s u → HoldsMore new.pipes.append (disk new.files) sync s (u ++ (seq, items) ∷ [])) → list_any holds_mark items ≡ false
      → HasWritten disk old before batches → HasWritten disk new before (batches ++ items ∷ [])
  more_written old new sync before batches seq items other puts plain w =
      let l : Numbered = w.unsynced ++ (seq, items) ∷ [] in
      let m = puts w.synced w.unsynced w.append in
      let all_plain : ArePlain (unnumbered l) = plain_push w.unsynced (seq, items) w.plain plain in
      let all : unnumbered l ≡ unnumbered w.unsynced ++ items ∷ [] = map-append (λ (b : ℕ × Batch). b.1) w.unsynced ((seq, items) ∷ []) in
      let parts : unnumbered l ≡ unnumbered (take m.count l) ++ unnumbered (drop m.count l) =
      ap unnumbered (sym (take-append-drop m.count l)) ∙ map-append (λ (b : ℕ × Batch). b.1) (take m.count l) (drop m.count l) in
      record {
        rewrites = w.rewrites;
        synced = w.synced ++ take m.count l;
        unsynced = drop m.count l;
        rewrite = other.holds w.rewrites [] w.rewrite;
        append = m.holds;
        first = w.first ++ unnumbered (take m.count l);
        split =
            ap (λ (x : List Batch). x ++ items ∷ []) w.split
            ∙ append_assoc w.first (unnumbered w.unsynced) (items ∷ [])
            ∙ ap (λ (x : List Batch). w.first ++ x) (sym all ∙ parts)
            ∙ sym (append_assoc w.first (unnumbered (take m.count l)) (unnumbered (drop m.count l)));
        on_disk =
            after_all w.rewrites w.synced (take m.count l) (plain_take m.count l all_plain)
            ∙ ap (after_batches (unnumbered (take m.count l))) w.on_disk
            ∙ sym (after_append w.first (unnumbered (take m.count l)) before);
        plain = plain_drop m.count l all_plain;
      }

  -- a sync brings all of it onto the disk
  pub synced_written : (old new : Parts F) (before : Seen) (batches : List Batch) → IsAsBefore old.pipes.rewrite (disk old.files) new.pipes.rewrite (disk new.files)
      → ((s u : Numbered) → Holds old.pipes.append (disk old.files) s u → Holds new.pipes.append (disk new.files) (s ++ u) [])
      → HasWritten disk old before batches → HasWritten disk new before batches
  synced_written old new before batches other syncs w = record {
    rewrites = w.rewrites;
    synced = w.synced ++ w.unsynced;
    unsynced = [];
    rewrite = other.holds w.rewrites [] w.rewrite;
    append = syncs w.synced w.unsynced w.append;
    first = batches;
    split = sym (append-nil batches);
    on_disk =
        after_all w.rewrites w.synced w.unsynced w.plain
        ∙ ap (after_batches (unnumbered w.unsynced)) w.on_disk
        ∙ sym (after_append w.first (unnumbered w.unsynced) before)
        ∙ ap (λ (x : List Batch). after_batches x before) (sym w.split);
    plain = tt;
  }

  -- a refused one leaves it
  pub unsynced_written : (old new : Parts F) (before : Seen) (batches : List Batch) → IsAsBefore old.pipes.rewrite (disk old.files) new.pipes.rewrite (disk new.files)
      → ((s u : Numbered) → Holds old.pipes.append (disk old.files) s u → Holds new.pipes.append (disk new.files) s u)
      → HasWritten disk old before batches → HasWritten disk new before batches
  unsynced_written old new before batches other keeps w = record {
    rewrites = w.rewrites;
    synced = w.synced;
    unsynced = w.unsynced;
    rewrite = other.holds w.rewrites [] w.rewrite;
    append = keeps w.synced w.unsynced w.append;
    first = w.first;
    split = w.split;
    on_disk = w.on_disk;
    plain = w.plain;
  }

-- ---- what an opening finds

-- a front of these batches behind others is a front of all
front_is : (k : ℕ) (first : List Batch) (r s u : Numbered) (before : Seen) → content_of_batches (r ++ s) ≡ after_batches first before → ArePlain (unnumbered u)
    → content_of_batches (r ++ (s ++ take k u)) ≡ after_batches (take (length first + k) (first ++ unnumbered u)) before
front_is k first r s u before on_disk plain =
    after_all r s (take k u) (plain_take k u plain)
    ∙ ap (after_batches (unnumbered (take k u))) on_disk
    ∙ ap (λ (x : List Batch). after_batches x (after_batches first before)) (take_unnumbered k u)
    ∙ sym (after_append first (take k (unnumbered u)) before)
    ∙ ap (λ (x : List Batch). after_batches x before) (sym (take-append-add first (unnumbered u) k))

pub front_opens : (d : Disk) (p : DualPipes) (first : List Batch) (r s u : Numbered) (before : Seen) (batches : List Batch) → IsNamed d → RewritesStand p d r → IsNearlyAlone p.append d → Leaves p.append d s u
    → content_of_batches (r ++ s) ≡ after_batches first before → ArePlain (unnumbered u) → batches ≡ first ++ unnumbered u → OpensAsFront (directories_of_pipes p) d before batches
front_opens d p first r s u before batches named stand alone leaves on_disk plain split image e mode found crashed f =
    let c = both_content d p r s u named stand alone leaves image e mode found crashed f in
    (length first + c.0, c.1 ∙ front_is c.0 first r s u before on_disk plain ∙ ap (λ (x : List Batch). after_batches (take (length first + c.0) x) before) (sym split))

-- after a close
pub closed_front : (p q : DualPipes) (e : Disk) (first : List Batch) (r s u : Numbered) (before : Seen) (batches : List Batch) → IsNamed e → IsClosed p q e r s u → content_of_batches (r ++ s) ≡ after_batches first before
    → ArePlain (unnumbered u) → batches ≡ first ++ unnumbered u → OpensAsFront (directories_of_pipes p) e before batches
closed_front p q e first r s u before batches named closed on_disk plain split =
    subst (λ (l : List Text). OpensAsFront l e before batches) (same_directories p.append q.append closed.paths)
    (front_opens e q first r s u before batches named closed.stand closed.near closed.leaves on_disk plain split)

front_more : (k : ℕ) (xs ys : List Batch) → (j : ℕ) × (take j (xs ++ ys) ≡ take k xs)
front_more zero xs ys = (0, refl)
front_more (suc k) [] ys = (0, refl)
front_more (suc k) (x ∷ xs) ys = let r = front_more k xs ys in (suc r.0, λ i. x ∷ r.1 i)

-- with more batches behind them
pub more_opens : (directories : List Text) (d : Disk) (before : Seen) (batches others : List Batch) → OpensAsFront directories d before batches → OpensAsFront directories d before (batches ++ others)
more_opens directories d before batches others opens image e mode found crashed f =
    let r = opens image e mode found crashed f in
    let front = front_more r.0 batches others in
    (front.0, r.1 ∙ ap (λ (x : List Batch). after_batches x before) (sym front.1))

module _ {F : Type 0} (disk : F → Disk) where
  pub written_opens : (e : Parts F) (before : Seen) (batches : List Batch) → IsNamed (disk e.files) → StandsAlone disk e → HasWritten disk e before batches → OpensAsFront (directories_of_engine e) (disk e.files) before batches
  written_opens e before batches named alone w =
      front_opens (disk e.files) e.pipes w.first w.rewrites w.synced w.unsynced before batches named (rewrites_stand e.pipes (disk e.files) w.rewrites alone w.rewrite) (nearly e.pipes.append (disk e.files) alone.append)
      (holds_leaves e.pipes.append.queue e.pipes.append.older.items e.pipes.append.active e.pipes.append.writer.offset (disk e.files) w.synced w.unsynced w.append) w.on_disk w.plain w.split

  pub refused_front : (e : Parts F) (before : Seen) (batches others : List Batch) → IsNamed (disk e.files) → StandsAlone disk e → HasWritten disk e before batches → OpensAsFront (directories_of_engine e) (disk e.files) before (batches ++ others)
  refused_front e before batches others named alone w = more_opens (directories_of_engine e) (disk e.files) before batches others (written_opens e before batches named alone w)

  -- the append or what follows it failed
  pub failed_front : (old : Parts F) (files : F) (p : DualPipes) (items : Batch) (before : Seen) (batches : List Batch) → IsNamed (disk files) → KeepsRewrites old.pipes (disk old.files) p (disk files)
      → (IsAlone old.pipes.append (disk old.files) → IsNearlyAlone p.append (disk files))
      → list_any holds_mark items ≡ false → ((s u : Numbered) → Holds old.pipes.append (disk old.files) s u → LeavesAppended p.append (disk files) s u items)
      → StandsAlone disk old → HasWritten disk old before batches → OpensAsFront (directories_of_pipes p) (disk files) before (batches ++ items ∷ [])
  failed_front old files p items before batches named keeps near plain leaves alone w =
      let left = leaves w.synced w.unsynced w.append in
      front_opens (disk files) p w.first w.rewrites w.synced (w.unsynced ++ (left.0, items) ∷ []) before (batches ++ items ∷ []) named
      (rewrites_on old.pipes p (disk old.files) (disk files) w.rewrites keeps alone w.rewrite) (near alone.append) left.1 w.on_disk
      (plain_push w.unsynced (left.0, items) w.plain plain)
      (ap (λ (x : List Batch). x ++ items ∷ []) w.split
      ∙ append_assoc w.first (unnumbered w.unsynced) (items ∷ [])
      ∙ ap (λ (x : List Batch). w.first ++ x) (sym (map-append (λ (b : ℕ × Batch). b.1) w.unsynced ((left.0, items) ∷ []))))

-- ---- the batch of a write

pub one_batch : (items : Batch) → (items ≡ [] → ⊥) → written_batch items ≡ items ∷ []
one_batch [] some = absurd (some refl)
one_batch (item ∷ items) some = refl

pub no_batch : (items : Batch) (batches : List Batch) → items ≡ [] → batches ++ written_batch items ≡ batches
no_batch items batches none = ap (λ (x : Batch). batches ++ written_batch x) none ∙ append-nil batches
