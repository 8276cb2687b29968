-- A file that was read, on a disk that changed elsewhere since.
use Rattle.std.proofs.Common.{◌≡◌, ◌⊎◌, inl, inr, ◌<◌, ◌++◌, ◌∷◌, ℕ, List, [], length, get_or, map, Option, Some, None, Result, Ok, Err, ap, refl, sym, subst, ◌∙◌, ◌≤◌, arith}
use Rattle.std.specs.Prelude.{IfErr, IfOk, IsSome, OnOk, slice_get}
use Rattle.std.proofs.Common.{length-append}
use Rattle.std.proofs.Common.{drop, take}
use Rattle.std.proofs.Math.Seq.{get_or-append_seam, take-append_seam}
use Rattle.std.proofs.lemmas.Bool.{cases_lt}
use Rattle.std.proofs.lemmas.List.{get_or_append_left}
use Rattle.std.proofs.lemmas.Option.{get_or_from_slice_get, slice_get-get_or, slice_get_within}
use Rattle.raft_log_records.specs.declared.file_id.FileId.{FileId}
use Rattle.raft_log_disk.specs.Cause.{Meter}
use Rattle.raft_log_disk.specs.Disk.{Disk, FileState, IsIn}
use Rattle.raft_log_disk.specs.Text.{Text}
use Rattle.raft_log_files.specs.declared.error.CorruptionFault.{CorruptionFault}
use Rattle.raft_log_files.specs.declared.error.Error.{Error}
use Rattle.raft_log_files.specs.declared.error.Error.TheVariants.{Corruption}
use Rattle.raft_log_records.specs.declared.file_id.LogQueue.{LogQueue}
use Rattle.raft_log_disk.specs.declared.fault.Fd.{Fd}
use Rattle.raft_log_pipe.specs.Pipe.{id_of}
use Rattle.raft_log_recovery.specs.declared.reading.ReadFile.{ReadFile}
use Rattle.raft_log_recovery.specs.declared.scan.FileName.{FileName}
use Rattle.raft_log_recovery.specs.Queue.{IsFileOf}
use Rattle.raft_log_recovery.specs.Caused.{IsReplayFault}
use Rattle.raft_log_recovery.specs.Repair.{batches_in, end_in, fault_in, format_in}
use Rattle.raft_log_recovery.specs.Replay.{ArePlaced, Placed}
use Rattle.raft_log_workers.specs.Reading.{IsReadAs, IsReadAt, IsReadBy}

-- what a replay into a new machine gives
pub read_by : (P Q : List Placed → Type 0) (d : Disk) (m : Meter) (id : FileId) (fd : ℕ) (r : Result ReadFile Error) → P [] → IfOk r (λ x. x.end.to ≡ end_in id (d.file fd).bytes) → IfOk r (λ x. x.end.fault ≡ fault_in id (d.file fd).bytes)
    → IfOk r (λ x. x.format ≡ format_in (d.file fd).bytes)
    → OnOk r ((placed : List Placed) → P placed → (more : List Placed) × Q (placed ++ more) × ArePlaced id (d.file fd).bytes (batches_in id (d.file fd).bytes) more) → ((f : CorruptionFault) → r ≡ Err (Corruption f) → ⊥)
    → IfErr r (λ e. IsReplayFault d m fd e) → IsReadBy Q d m id fd (Some r)
read_by P Q d m id fd (Ok x) begun to fault format replayed corrupt err =
    let s = replayed [] begun in record { to = to; fault = fault; format = format; placed = s.0; has = s.1; placed_are = s.2 }
read_by P Q d m id fd (Err e) begun to fault format replayed corrupt err = (err, λ f is. corrupt f (ap (λ (x : Error). Err x) is))

module _ (d e : Disk) (m n : Meter) (fd : ℕ) (names : e.names ≡ d.names) (reads : n.unreadable ≡ m.unreadable) where
  fault_on : (x : Error) → IsReplayFault d m fd x → IsReplayFault e n fd x
  fault_on x (inl corrupt) = inl corrupt
  fault_on x (inr (inl memory)) = inr (inl memory)
  fault_on x (inr (inr (inl (io, (path, named, unread))))) =
      inr (inr (inl (io, (path, subst (λ (l : List (Text × ℕ)). IsIn (path, fd) l) (sym names) named, subst (λ (l : List Text). IsIn path l) (sym reads) unread))))
  fault_on x (inr (inr (inr (other, none)))) = inr (inr (inr (other, λ there. none (subst (λ (l : List (Text × ℕ)). IsIn fd (map (λ p. p.1) l)) names there))))

  -- where the file itself is as it was
  pub read_by_on : (P : List Placed → Type 0) (id : FileId) (read : Option (Result ReadFile Error)) → e.file fd ≡ d.file fd → IsReadBy P d m id fd read → IsReadBy P e n id fd read
  read_by_on P id None same by = by
  read_by_on P id (Some (Ok x)) same by = record {
    to = by.to ∙ ap (λ (f : FileState). end_in id f.bytes) (sym same);
    fault = by.fault ∙ ap (λ (f : FileState). fault_in id f.bytes) (sym same);
    format = by.format ∙ ap (λ (f : FileState). format_in f.bytes) (sym same);
    placed = by.placed;
    has = by.has;
    placed_are = subst (λ (f : FileState). ArePlaced id f.bytes (batches_in id f.bytes) by.placed) (sym same) by.placed_are;
  }
  read_by_on P id (Some (Err x)) same by = (fault_on x by.0, by.1)

-- it was read
pub is_read : (P : List Placed → Type 0) (d : Disk) (m : Meter) (id : FileId) (fd : ℕ) (read : Option (Result ReadFile Error)) → IsReadBy P d m id fd read → IsSome read
is_read P d m id fd None by = absurd by
is_read P d m id fd (Some x) by = refl

-- what a merge makes of it
pub merged : (P Q R : List Placed → Type 0) (d : Disk) (id : FileId) (fd : ℕ) (read : ReadFile) → IsReadAs P d id fd read → ((placed more : List Placed) → Q placed → P more → R (placed ++ more))
    → (placed : List Placed) → Q placed → (more : List Placed) × R (placed ++ more) × ArePlaced id (d.file fd).bytes (batches_in id (d.file fd).bytes) more
merged P Q R d id fd read is merge placed has = (is.placed, merge placed is.placed has is.has, is.placed_are)

-- ---- at a place

-- what stands behind others has their count for its place
pub at_seam : {X : Type 0} (done rest : List X) (x : X) → slice_get (done ++ x ∷ rest) (length done) ≡ Some x
at_seam done rest x =
    slice_get-get_or (done ++ x ∷ rest) (length done) x (omega (arith, length-append done (x ∷ rest))) ∙ ap (λ y. Some y) (get_or-append_seam done x rest x)

-- an element of a list of the same length
pub same_place : {X : Type 0} (xs ys : List X) (place : ℕ) (y : X) → length ys ≡ length xs → slice_get ys place ≡ Some y → (x : X) × (slice_get xs place ≡ Some x)
same_place xs ys place y len at = (get_or xs place y, slice_get-get_or xs place y (omega (arith, len, slice_get_within ys place y at)))

-- a list is what was taken of it, and the rest
pub at_place : {X : Type 0} (done rest : List X) (x : X) (left all : List X) → left ≡ x ∷ rest → done ++ left ≡ all → done ++ x ∷ rest ≡ all
at_place done rest x left all steps whole = ap (λ l. done ++ l) (sym steps) ∙ whole

-- what holds at each place holds with one element more, if it holds of that
pub pushed_at : {X : Type 0} (P : ℕ → X → Type 0) (xs : List X) (x : X) → ((place : ℕ) (y : X) → slice_get xs place ≡ Some y → P place y) → P (length xs) x → (place : ℕ) (y : X) → slice_get (xs ++ x ∷ []) place ≡ Some y → P place y
pushed_at {X} P xs x before last place y at = by_order (cases_lt place (length xs))
  where
    within : place < length (xs ++ x ∷ [])
    within = slice_get_within (xs ++ x ∷ []) place y at

    by_order : (place < length xs) ⊎ (length xs ≤ place) → P place y
    by_order (inl lt) = before place y
        (slice_get-get_or xs place x lt ∙ ap (λ z. Some z) (sym (get_or_append_left xs (x ∷ []) x place lt)) ∙ sym (slice_get-get_or (xs ++ x ∷ []) place x within) ∙ at)
    by_order (inr le) =
        let here : place ≡ length xs = omega (arith, le, within, length-append xs (x ∷ [])) in
        let same : x ≡ y = sym (get_or-append_seam xs x [] x) ∙ get_or_from_slice_get (xs ++ x ∷ []) (length xs) y x (subst (λ n. slice_get (xs ++ x ∷ []) n ≡ Some y) here at) in
        subst (λ n. P n y) (sym here) (subst (P (length xs)) same last)

-- what was written through a slice of all elements is all there is
pub written_back : {X : Type 0} (len : ℕ) (new old : List X) → len ≡ length new → take len (new ++ drop (length new) old) ≡ new
written_back len new old is = ap (λ n. take n (new ++ drop (length new) old)) is ∙ take-append_seam new (drop (length new) old)

-- what was read of a file that was opened
pub read_so : (P : List Placed → Type 0) (d e : Disk) (m : Meter) (directories : List Text) (queue : LogQueue) (names : List FileName) (place : ℕ) (name name' : FileName) (fd fd' : Fd) (read : Option (Result ReadFile Error)) → e ≡ d → name' ≡ name → fd' ≡ fd
    → slice_get names place ≡ Some name → IsFileOf d directories queue name fd.0 → IsReadBy P e m (id_of queue name.seq) fd.0 read → IsReadAt P d m directories queue names place name' fd'.0 read
read_so P d e m directories queue names place name name' fd fd' read kept named file here there by = record {
  here = here ∙ ap (λ (x : FileName). Some x) (sym named);
  there = subst (λ (x : FileName). IsFileOf d directories queue x fd'.0) (sym named) (subst (λ (x : Fd). IsFileOf d directories queue name x.0) (sym file) there);
  read_by = subst (λ (x : FileName). IsReadBy P d m (id_of queue x.seq) fd'.0 read) (sym named)
      (subst (λ (x : Fd). IsReadBy P d m (id_of queue name.seq) x.0 read) (sym file) (subst (λ (x : Disk). IsReadBy P x m (id_of queue name.seq) fd.0 read) kept by));
}
