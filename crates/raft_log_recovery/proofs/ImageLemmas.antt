-- What a crash left of a pipe's files is what an opening reads.
use Rattle.std.proofs.Common.{◌≡◌, inl, inr, ℕ, zero, suc, ◌+◌, ◌<◌, ◌≤◌, cond, eqb, List, [], ◌∷◌, ◌++◌, length, drop, Option, Result, Ok, Err, refl, sym, ap, ◌∙◌, arith, length-drop}
use Rattle.std.specs.Int.{w32}
use Rattle.std.specs.Prelude.{MatchResult}
use Rattle.raft_log_records.specs.declared.error.RecordFault.{RecordFault}
use Rattle.raft_log_records.specs.declared.error.RecordFault.TheVariants as fault
use Rattle.raft_log_records.specs.declared.file_id.FileId.{FileId}
use Rattle.raft_log_records.specs.declared.file_id.LogQueue.{LogQueue}
use Rattle.raft_log_records.specs.declared.version.Version.{Version}
use Rattle.raft_log_records.specs.declared.version.Version.TheVariants.{V1, V2}
use Rattle.raft_bytes.proofs.Bytes.{bind_ok, guard_then}
use Rattle.raft_log_records.specs.Reading.{◌>>=◌, head_at, number_or, record_at}
use Rattle.raft_log_records.proofs.Locality.{records_have_their_length}
use Rattle.raft_log_records.proofs.RecordTaken.{tests, tests_ok}
use Rattle.raft_log_records.specs.Signature.{signature_of}
use Rattle.raft_log_disk.specs.declared.format.HeaderFault.{HeaderFault}
use Rattle.raft_log_disk.specs.declared.format.LogFileFormat.{LogFileFormat}
use Rattle.raft_log_disk.specs.Chance.{padding}
use Rattle.raft_log_disk.specs.Disk.{Disk}
use Rattle.raft_log_disk.specs.Format.{header_at, header_len}
use Rattle.raft_log_disk.specs.Image.{Image}
use Rattle.raft_log_file.specs.Laws.{Batch}
use Rattle.raft_log_file.specs.Reading.{Reading, contents, file_reading, read_from}
use Rattle.raft_log_file.proofs.WalkLemmas.{Read, from_end, from_fault, from_padding, record_sized}
use Rattle.raft_log_pipe.specs.declared.file.File.{File}
use Rattle.raft_log_pipe.specs.Pipe.{FileReads, ImageReads, Numbered, id_of, numbered}
use Rattle.raft_log_recovery.specs.Opening.{batches_of, said_in}
use Rattle.raft_log_recovery.specs.Repair.{batches_in}
use Rattle.raft_log_recovery.proofs.RepairLemmas.{batches_by, no_reading, reading_of}
use Rattle.raft_log_recovery.proofs.RunLemmas.{AreSame}

-- ---- bytes that are no more than a header

abbrev Head : Type 0
Head = Result (ℕ × ℕ) RecordFault

head_long : (bytes : List ℕ) (x : ℕ × ℕ) → head_at bytes ≡ Ok x → 16 ≤ x.0
unfolding head_at
head_long bytes x e =
    let a = bind_ok (number_or fault.CutShort w32 bytes) (λ len. cond (eqb len.0 0) (Err fault.BadLength) (number_or fault.CutShort w32 len.1 >>= λ offset. tests len.0 offset.0)) x e in
    let z = guard_then (eqb a.0.0 0) fault.BadLength (number_or fault.CutShort w32 a.0.1 >>= λ offset. tests a.0.0 offset.0) x a.2 in
    let b = bind_ok (number_or fault.CutShort w32 a.0.1) (λ offset. tests a.0.0 offset.0) x z.1 in
    let t = tests_ok a.0.0 b.0.0 x b.2 in
    omega (arith, t.room, t.least)

len_long : (bytes : List ℕ) (r : Head) (n : ℕ) → head_at bytes ≡ r → (r >>= λ head. Ok head.0) ≡ Ok n → 16 ≤ n
len_long bytes (Ok x) n is e = let same : x.0 ≡ n = cc in omega (arith, head_long bytes x is, same)
len_long bytes (Err f) n is e = absurd cc

-- a record has sixteen bytes at least
record_long : (signature : Option ℕ) (bytes : List ℕ) (read : Read) → record_at signature bytes ≡ Ok read → 16 ≤ read.2
record_long signature bytes read is = len_long bytes (head_at bytes) read.2 refl (records_have_their_length signature bytes read is)

abbrev IsBare : ℕ → Option ℕ → ℕ → List ℕ → Type 0
IsBare alignment signature at bytes = (read_from alignment signature at bytes).batches ≡ []

bare_padded : (alignment : ℕ) (signature : Option ℕ) (k at : ℕ) (bytes : List ℕ) (f : RecordFault) (p : ℕ) → padding alignment at bytes ≡ p → 0 < length bytes → length bytes ≤ suc k → length bytes ≤ 8 → record_at signature bytes ≡ Err f
    → ((to : ℕ) (l : List ℕ) → length l ≤ k → length l ≤ 8 → IsBare alignment signature to l) → IsBare alignment signature at bytes
bare_padded alignment signature k at bytes f zero pad some enough short fault next = ap (λ (r : Reading). r.batches) (from_fault alignment signature at bytes f some fault pad)
bare_padded alignment signature k at bytes f (suc p) pad some enough short fault next =
    ap (λ (r : Reading). r.batches) (from_padding alignment signature at bytes f some fault (λ none. absurd (omega (arith, none, pad))))
    ∙ next (at + padding alignment at bytes) (drop (padding alignment at bytes) bytes) (omega (arith, length-drop (padding alignment at bytes) bytes, pad, enough, some)) (omega (arith, length-drop (padding alignment at bytes) bytes, short))

bare_step : (alignment : ℕ) (signature : Option ℕ) (k at : ℕ) (bytes : List ℕ) (r : Result Read RecordFault) → record_at signature bytes ≡ r → 0 < length bytes → length bytes ≤ suc k → length bytes ≤ 8
    → ((to : ℕ) (l : List ℕ) → length l ≤ k → length l ≤ 8 → IsBare alignment signature to l) → IsBare alignment signature at bytes
bare_step alignment signature k at bytes (Ok read) is some enough short next =
    let sized = record_sized signature bytes read is in
    absurd (omega (arith, record_long signature bytes read is, sized.within, short))
bare_step alignment signature k at bytes (Err f) is some enough short next = bare_padded alignment signature k at bytes f (padding alignment at bytes) refl some enough short is next

eight_bare : (alignment : ℕ) (signature : Option ℕ) (k at : ℕ) (bytes : List ℕ) → length bytes ≤ k → length bytes ≤ 8 → IsBare alignment signature at bytes
eight_bare alignment signature k at [] enough short = ap (λ (r : Reading). r.batches) (from_end alignment signature at [] refl)
eight_bare alignment signature zero at (b ∷ bytes) enough short = absurd (omega (arith, enough))
eight_bare alignment signature (suc k) at (b ∷ bytes) enough short =
    bare_step alignment signature k at (b ∷ bytes) (record_at signature (b ∷ bytes)) refl (omega arith) enough short (λ to l e s. eight_bare alignment signature k to l e s)

least_header : (v : Version) → 61 ≤ header_len v
least_header V1 = omega arith
least_header V2 = omega arith

-- they have no batches, whatever stands there
pub short_bare : (id : FileId) (bytes : List ℕ) → length bytes ≤ 69 → batches_in id bytes ≡ []
short_bare id bytes short = by_header (header_at bytes) refl
  where
    by_header : (h : Result LogFileFormat HeaderFault) → header_at bytes ≡ h → batches_in id bytes ≡ []
    by_header (Err f) is = ap batches_by (no_reading id bytes f is)
    by_header (Ok format) is =
        let n : ℕ = header_len format.version in
        ap batches_by (reading_of id bytes format is)
        ∙ eight_bare format.alignment (signature_of format.version id.seq) (length (drop n bytes)) n (drop n bytes) (omega arith) (omega (arith, length-drop n bytes, short, least_header format.version))

-- ---- files

said_by_image : (id : FileId) (ks : List Batch) (bytes : List ℕ) → FileReads id ks bytes → contents (batches_in id bytes) ≡ ks
said_by_image id ks bytes (inr (none, short)) = ap contents (short_bare id bytes short) ∙ sym none
said_by_image id ks bytes (inl reads) = by_reading (file_reading id bytes) reads
  where
    by_reading : (r : Result Reading HeaderFault) → MatchResult r (λ x. contents x.batches ≡ ks) (λ _. ⊥) → contents (batches_by r) ≡ ks
    by_reading (Ok x) is = is
    by_reading (Err e) is = absurd is

-- an opening of what a crash left of files reads what the image reads as
pub image_batches : (queue : LogQueue) (fs gs : List File) (image : Image) (e : Disk) (bs : Numbered) → AreSame fs gs → ((n : ℕ) → (e.file n).bytes ≡ image n) → ImageReads queue fs image bs → batches_of queue e gs ≡ bs
image_batches queue [] gs image e bs same bytes is = ap (batches_of queue e) same ∙ sym is
image_batches queue (f ∷ fs) gs image e bs (g, rest, are, seq, fd, others) bytes (ks, behind, is, reads, more) =
    let said : said_in queue e g ≡ ks
    = (λ i. contents (batches_in (id_of queue (seq i)) (e.file (fd i)).bytes)) ∙ ap (λ (l : List ℕ). contents (batches_in (id_of queue f.seq) l)) (bytes f.handle.0)
    ∙ said_by_image (id_of queue f.seq) ks (image f.handle.0) reads in
    ap (batches_of queue e) are ∙ (λ i. numbered (seq i) (said i) ++ image_batches queue fs rest image e behind others bytes more i) ∙ sym is
