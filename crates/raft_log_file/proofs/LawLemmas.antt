-- What a file of written batches reads as.
use Rattle.std.proofs.Common.{◌≡◌, ℕ, ◌+◌, ◌^◌, ◌<◌, List, [], ◌∷◌, ◌++◌, length, drop, Option, Ok, refl, sym, ap, subst, ◌∙◌, arith, append_assoc, length-append, add-zero}
use Rattle.std.specs.Prelude.{IfSome, MatchResult}
use Rattle.std.specs.Int.{w32, to_be_bytes}
use Rattle.std.proofs.lemmas.List.{drop_at}
use Rattle.raft_log_records.specs.declared.version.Version.{Version}
use Rattle.raft_log_records.specs.declared.version.Version.TheVariants.{V1, V2}
use Rattle.raft_log_records.specs.declared.file_id.FileId.{FileId}
use Rattle.raft_log_records.specs.Checksum.{crc32_of}
use Rattle.raft_log_records.specs.Places.{placed}
use Rattle.raft_log_records.specs.Signature.{signature_of}
use Rattle.raft_log_records.specs.Spelling.{AreItems, block_of, lengths, record_len, sealed, signed, spell_block, spell_items, spell_record}
use Rattle.raft_bytes.specs.Bytes.{AreBytes}
use Rattle.raft_log_records.proofs.Placed.{placed_bytes}
use Rattle.raft_log_records.proofs.RecordAgain.{back_bytes, record_again}
use Rattle.raft_log_disk.specs.declared.format.LogFileFormat.{LogFileFormat}
use Rattle.raft_log_disk.specs.Disk.{after_sync}
use Rattle.raft_log_disk.specs.Format.{IsSpellable, header_at, header_len, spelled_header}
use Rattle.raft_log_disk.proofs.DiskLemmas.{still_synced, still_is_left}
use Rattle.raft_log_disk.proofs.HeaderLemmas.{header_again}
use Rattle.raft_log_file.specs.Reading.{Reading, batch_at, contents, file_reading, read_from, with_batch}
use Rattle.raft_log_file.specs.Laws.{Batch, AreBatches, ReadsFront, SyncedFilesReadTheSame, StillFilesReadTheSame, WrittenBatchesAreRead, file_text, spelled_batches}
use Rattle.raft_log_file.proofs.HeaderLemmas.{length-header}
use Rattle.raft_log_file.proofs.WalkLemmas.{from_found}

pub still_files_read_the_same : StillFilesReadTheSame
still_files_read_the_same id f bytes still image = ap (file_reading id) (still_is_left f bytes still image)

pub synced_files_read_the_same : SyncedFilesReadTheSame
synced_files_read_the_same id f bytes image = still_files_read_the_same id (after_sync f) bytes (still_synced f) image

-- ---- one record

pub length-spelled : (signature : Option ℕ) (k : Batch) → length (spell_record signature k) ≡ record_len k
unfolding spell_record record_len
length-spelled signature k =
    let body = spell_items (lengths k) in
    omega (arith, length-append (spell_block k) (sealed signature body), length-append body (to_be_bytes w32 (signed signature (crc32_of body))))

pub signature_fits : (v : Version) (seq : ℕ) → IfSome (signature_of v seq) (λ s. s < 2 ^ 32)
signature_fits V1 seq = tt
signature_fits V2 seq = omega arith

record_read : (alignment : ℕ) (signature : Option ℕ) (at : ℕ) (k : Batch) (more : List ℕ) → IfSome signature (λ s. s < 2 ^ 32) → AreItems k → AreBytes (spell_record signature k ++ more)
    → read_from alignment signature at (spell_record signature k ++ more) ≡ with_batch (batch_at at (placed 0 k, block_of k, record_len k)) (read_from alignment signature (at + record_len k) more)
record_read alignment signature at k more s are fits =
    from_found alignment signature at (spell_record signature k ++ more) (placed 0 k, block_of k, record_len k) (record_again signature k more (spell_record signature k ++ more) s fits are refl)
    ∙ ap (λ (l : List ℕ). with_batch (batch_at at (placed 0 k, block_of k, record_len k)) (read_from alignment signature (at + record_len k) l)) (drop_at (spell_record signature k) more (record_len k) (length-spelled signature k))

-- ---- all of them

front_read : (at : ℕ) (k : Batch) (ks : List Batch) (behind rest whole : Reading) → whole ≡ with_batch (batch_at at (placed 0 k, block_of k, record_len k)) rest → ReadsFront ks behind rest → ReadsFront (k ∷ ks) behind whole
front_read at k ks behind rest whole is r = record {
  contents_are = ap (λ (w : Reading). contents w.batches) is ∙ (λ i. placed_bytes k i ∷ r.contents_are i);
  to = ap (λ (w : Reading). w.to) is ∙ r.to;
  fault = ap (λ (w : Reading). w.fault) is ∙ r.fault;
}

pub batches_read : (alignment : ℕ) (signature : Option ℕ) (at : ℕ) (ks : List Batch) (rest : List ℕ) → IfSome signature (λ s. s < 2 ^ 32) → AreBatches ks → AreBytes (spelled_batches signature ks ++ rest)
    → ReadsFront ks (read_from alignment signature (at + length (spelled_batches signature ks)) rest) (read_from alignment signature at (spelled_batches signature ks ++ rest))
batches_read alignment signature at [] rest s are fits =
    subst (λ n. ReadsFront [] (read_from alignment signature n rest) (read_from alignment signature at rest)) (sym (add-zero at)) (record { contents_are = refl; to = refl; fault = refl })
batches_read alignment signature at (k ∷ ks) rest s are fits =
    let more : List ℕ = spelled_batches signature ks ++ rest in
    let grouped : (spell_record signature k ++ spelled_batches signature ks) ++ rest ≡ spell_record signature k ++ more = append_assoc (spell_record signature k) (spelled_batches signature ks) rest in
    let whole_fits : AreBytes (spell_record signature k ++ more) = subst AreBytes grouped fits in
    let inner = batches_read alignment signature (at + record_len k) ks rest s are.1 (back_bytes (spell_record signature k) more whole_fits) in
    let place : at + record_len k + length (spelled_batches signature ks) ≡ at + length (spell_record signature k ++ spelled_batches signature ks)
    = omega (arith, length-append (spell_record signature k) (spelled_batches signature ks), length-spelled signature k) in
    front_read at k ks _ _ _
    (ap (read_from alignment signature at) grouped ∙ record_read alignment signature at k more s are.0 whole_fits)
    (subst (λ n. ReadsFront ks (read_from alignment signature n rest) (read_from alignment signature (at + record_len k) more)) place inner)

-- ---- a file

pub header_read : (format : LogFileFormat) (rest : List ℕ) → IsSpellable format → header_at (spelled_header format ++ rest) ≡ Ok format
header_read format rest s = header_again format.version format.alignment rest s

told : (id : FileId) (format : LogFileFormat) (bytes behind : List ℕ) (ks : List Batch) (after : Reading) → header_at bytes ≡ Ok format → drop (header_len format.version) bytes ≡ behind
    → ReadsFront ks after (read_from format.alignment (signature_of format.version id.seq) (header_len format.version) behind) → MatchResult (file_reading id bytes) (ReadsFront ks after) (λ _. ⊥)
told id format bytes behind ks after is rest r =
    rw is (subst (λ (l : List ℕ). ReadsFront ks after (read_from format.alignment (signature_of format.version id.seq) (header_len format.version) l)) (sym rest) r)

pub written_batches_are_read : WrittenBatchesAreRead
written_batches_are_read id format ks rest spellable are fits =
    let signature : Option ℕ = signature_of format.version id.seq in
    let header : List ℕ = spelled_header format in
    let behind : List ℕ = spelled_batches signature ks ++ rest in
    let grouped : file_text id format ks ++ rest ≡ header ++ behind = append_assoc header (spelled_batches signature ks) rest in
    let place : header_len format.version + length (spelled_batches signature ks) ≡ length (file_text id format ks)
    = omega (arith, length-append header (spelled_batches signature ks), length-header format) in
    told id format (file_text id format ks ++ rest) behind ks (read_from format.alignment signature (length (file_text id format ks)) rest)
    (ap header_at grouped ∙ header_read format behind spellable)
    (ap (drop (header_len format.version)) grouped ∙ drop_at header behind (header_len format.version) (length-header format))
    (subst (λ n. ReadsFront ks (read_from format.alignment signature n rest) (read_from format.alignment signature (header_len format.version) behind)) place
    (batches_read format.alignment signature (header_len format.version) ks rest (signature_fits format.version id.seq) are (back_bytes header behind (subst AreBytes grouped fits))))
