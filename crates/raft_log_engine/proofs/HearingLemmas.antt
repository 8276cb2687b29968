-- What listeners heard of a write, and of all files.
use Rattle.std.specs.Prelude.{◌≡◌, ℕ, List, [], ◌∷◌, ◌++◌, Result, Ok, Err, IfErr, OnErr}
use Rattle.std.proofs.Common.{ap, subst, sym, ◌∙◌, append_assoc}
use Rattle.raft_log_records.specs.declared.file_id.FileBlockHandle.{FileBlockHandle}
use Rattle.raft_log_records.specs.declared.file_id.FileId.{FileId}
use Rattle.raft_log_records.specs.declared.file_id.LogQueue.{LogQueue}
use Rattle.raft_log_records.specs.declared.file_id.LogQueue.TheVariants.{Append}
use Rattle.raft_log_disk.specs.Disk.{Disk}
use Rattle.raft_log_file.specs.Laws.{Batch}
use Rattle.raft_log_pipe.specs.declared.pipe.SinglePipe.{SinglePipe}
use Rattle.raft_log_pipe.specs.Appending.{Stands}
use Rattle.raft_log_pipe.specs.Pipe.{Holds, Numbered, first_of, id_of}
use Rattle.raft_log_pipes.specs.declared.pipes.DualPipes.{DualPipes}
use Rattle.raft_log_purge.specs.Heard.{Heard, HearAll, files_behind, files_within, last_gone}
use Rattle.raft_log_purge.specs.Heard.Heard.{Appended, Applied}
use Rattle.raft_log_purge.proofs.HeardLemmas.{hear_more}
use Rattle.raft_log_engine.specs.Hearing.{HearAppend, heard_changes, heard_cleaning, span_of}
use Rattle.raft_log_engine.specs.Parts.{Parts}

-- a record stands in the last file
in_last : (old new : SinglePipe) (d : Disk) (items : Batch) (h : FileBlockHandle) (synced unsynced : Numbered) → Holds old d synced unsynced → new.queue ≡ Append → Stands old d new items h → h.id ≡ id_of Append new.active.seq
in_last old new d items h synced unsynced holds append stands = (stands synced unsynced holds).id ∙ ap (λ (q : LogQueue). id_of q new.active.seq) append

module _ {L F : Type 0} (hears : L → Heard → L → Type 0) (disk : F → Disk) (old new : Parts F) (items : Batch) (h : FileBlockHandle) (last : ℕ) (is_last : last ≡ old.pipes.append.active.seq)
    (synced unsynced : Numbered) (holds : Holds old.pipes.append (disk old.files) synced unsynced) (append : new.pipes.append.queue ≡ Append) (stands : Stands old.pipes.append (disk old.files) new.pipes.append items h) where
  id_is : h.id ≡ id_of Append new.pipes.append.active.seq
  id_is = in_last old.pipes.append new.pipes.append (disk old.files) items h synced unsynced holds append stands

  -- the files that were begun, by number
  in_files : (olds mids : List L) → HearAll hears (files_behind h.id.queue last h.id.seq ++ Appended h ∷ []) olds mids
      → HearAll hears (files_behind Append old.pipes.append.active.seq new.pipes.append.active.seq ++ Appended h ∷ []) olds mids
  in_files olds mids heard =
      subst (λ (n : ℕ). HearAll hears (files_behind Append n new.pipes.append.active.seq ++ Appended h ∷ []) olds mids) is_last
      (subst (λ (i : FileId). HearAll hears (files_behind i.queue last i.seq ++ Appended h ∷ []) olds mids) id_is heard)

  -- a batch was appended, and no more
  pub append_heard : (olds mids : List L) → HearAll hears (files_behind h.id.queue last h.id.seq ++ Appended h ∷ []) olds mids → HearAppend hears disk items (λ id. []) old new olds mids
  append_heard olds mids heard = record { handle = h; last = id_is; stands = stands; heard = in_files olds mids heard }

  -- and it is in the memtables
  pub write_heard : (olds mids news : List L) → HearAll hears (files_behind h.id.queue last h.id.seq ++ Appended h ∷ []) olds mids → HearAll hears (Applied h.id ∷ []) mids news
      → HearAppend hears disk items (λ id. Applied id ∷ []) old new olds news
  write_heard olds mids news heard applied =
      let files : List Heard = files_behind Append old.pipes.append.active.seq new.pipes.append.active.seq in
      record {
        handle = h;
        last = id_is;
        stands = stands;
        heard = subst (λ (es : List Heard). HearAll hears es olds news) (append_assoc files (Appended h ∷ []) (Applied h.id ∷ []))
            (hear_more hears (files ++ Appended h ∷ []) (Applied h.id ∷ []) olds mids news (in_files olds mids heard) applied);
      }

module _ {L : Type 0} (hears : L → Heard → L → Type 0) (queue : LogQueue) where
  -- the numbers are told otherwise
  pub behind_same : (before last other : ℕ) (olds news : List L) → last ≡ other → HearAll hears (files_behind queue before last) olds news → HearAll hears (files_behind queue before other) olds news
  behind_same before last other olds news same heard = subst (λ (n : ℕ). HearAll hears (files_behind queue before n) olds news) same heard

  pub gone_same : (before first other : ℕ) (olds news : List L) → first ≡ other → HearAll hears (last_gone queue before first) olds news → HearAll hears (last_gone queue before other) olds news
  gone_same before first other olds news same heard = subst (λ (n : ℕ). HearAll hears (last_gone queue before n) olds news) same heard

  pub within_same : (first last from upto : ℕ) (olds news : List L) → first ≡ from → last ≡ upto → HearAll hears (files_within queue first last) olds news → HearAll hears (files_within queue from upto) olds news
  within_same first last from upto olds news first_same last_same heard =
      subst (λ (n : ℕ). HearAll hears (files_within queue from n) olds news) last_same (subst (λ (n : ℕ). HearAll hears (files_within queue n last) olds news) first_same heard)

-- whatever the error is
pub if_err : {A E : Type 0} (r : Result A E) {P : E → Type 0} → ((e : E) → P e) → IfErr r P
if_err (Ok a) all = tt
if_err (Err e) all = all e

pub no_err : {X E : Type 0} (A : Type 0) (result : Result X E) (x : X) → result ≡ Ok x → OnErr result A
no_err {X} {E} A result x is = subst (λ (r : Result X E). OnErr r A) (sym is) tt

-- the numbers of before are told otherwise
same_pair : (pair : ℕ × ℕ) (x y : ℕ) → pair.0 ≡ x → pair.1 ≡ y → pair ≡ (x, y)
same_pair pair x y first second = ap (λ (n : ℕ). (n, pair.1)) first ∙ ap (λ (n : ℕ). (x, n)) second

pub cleaning_heard : {L : Type 0} (hears : L → Heard → L → Type 0) (old new : DualPipes) (appends rewrites : ℕ × ℕ) (olds news : List L) → appends.0 ≡ first_of old.append → appends.1 ≡ old.append.active.seq
    → rewrites.0 ≡ first_of old.rewrite → rewrites.1 ≡ old.rewrite.active.seq → HearAll hears (heard_changes appends rewrites (span_of new.append) (span_of new.rewrite)) olds news → HearAll hears (heard_cleaning old new) olds news
cleaning_heard hears old new appends rewrites olds news first last rewrite_first rewrite_last told =
    subst (λ (pair : ℕ × ℕ). HearAll hears (heard_changes pair (span_of old.rewrite) (span_of new.append) (span_of new.rewrite)) olds news) (same_pair appends (first_of old.append) old.append.active.seq first last)
    (subst (λ (pair : ℕ × ℕ). HearAll hears (heard_changes appends pair (span_of new.append) (span_of new.rewrite)) olds news) (same_pair rewrites (first_of old.rewrite) old.rewrite.active.seq rewrite_first rewrite_last) told)
