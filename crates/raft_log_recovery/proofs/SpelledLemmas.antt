-- A file that is whole is the text of the batches that it reads as, and each record stands at its place.
use Rattle.std.proofs.Common.{◌≡◌, ◌⊎◌, inl, inr, ℕ, zero, suc, ◌+◌, ◌<◌, ◌≤◌, ◌^◌, List, [], ◌∷◌, ◌++◌, length, drop, Option, Some, None, Result, Ok, Err, refl, sym, ap, subst, ◌∙◌, arith, length-drop, length-take, take-append-drop}
use Rattle.std.specs.Prelude.{IfSome, MatchResult}
use Rattle.std.proofs.lemmas.List.{append-nil}
use Rattle.raft_log_records.specs.declared.error.RecordFault.{RecordFault}
use Rattle.raft_log_records.specs.declared.file_id.FileId.{FileId}
use Rattle.raft_log_records.specs.declared.version.Version.TheVariants.{V1}
use Rattle.raft_log_records.specs.Item.{with_bytes, with_lengths}
use Rattle.raft_log_records.specs.Places.{placed}
use Rattle.raft_log_records.specs.Reading.{record_at}
use Rattle.raft_log_records.specs.Signature.{signature_of}
use Rattle.raft_log_records.specs.Spelling.{block_of, record_len, spell_record, lengths}
use Rattle.raft_log_records.proofs.RecordAgain.{record_again}
use Rattle.raft_log_records.proofs.RecordTaken.{record_takes}
use Rattle.raft_log_disk.specs.declared.format.LogFileFormat.{LogFileFormat}
use Rattle.raft_log_disk.specs.declared.format.HeaderFault.{HeaderFault}
use Rattle.raft_log_disk.specs.Disk.{AreBytes, FileState, after_sync}
use Rattle.raft_log_disk.proofs.RecoverableLemmas.{bytes_dropped}
use Rattle.raft_log_disk.specs.Format.{IsSpellable, header_at, header_len}
use Rattle.raft_log_disk.specs.Image.{IsStill}
use Rattle.raft_log_disk.proofs.HeaderLemmas.{header_spelled}
use Rattle.raft_log_file.specs.Laws.{AreBatches, Batch, file_text, spelled_batches}
use Rattle.raft_log_file.specs.Reading.{FileBatch, Reading, batch_at, contents, read_behind, read_from, read_or, with_batch}
use Rattle.raft_log_file.proofs.LawLemmas.{signature_fits}
use Rattle.raft_log_file.proofs.UnsyncedLemmas.{each_byte, no_padding}
use Rattle.raft_log_file.proofs.WalkLemmas.{Read, from_end, from_fault, from_found, record_sized}
use Rattle.raft_log_pipe.specs.Found as found
use Rattle.raft_log_pipe.specs.Pipe.{IsPlain}
use Rattle.raft_log_pipe.specs.Stored.{IsStored}
use Rattle.raft_log_pipe.proofs.StoredLemmas.{stored_whole}
use Rattle.raft_log_recovery.specs.Repair.{IsWhole, format_in}
use Rattle.raft_log_recovery.proofs.LengthLemmas.{placed_lengths}
use Rattle.raft_log_recovery.proofs.RepairLemmas.{no_reading, reading_of}

abbrev Taken : Type 0
Taken = Result Read RecordFault

-- what a batch of a file says
abbrev pub said_by : FileBatch → Batch
said_by b = with_bytes b.entries b.items

-- the batch stands at this place, with the bytes of its entries and no others, of the lengths that it says
pub record IsInPlace (signature : Option ℕ) (at : ℕ) (b : FileBatch) : Type 0 where
  pub place : b.at ≡ at
  pub entries : b.entries ≡ block_of (said_by b)
  pub len : b.len ≡ length (spell_record signature (said_by b))
  pub lengths_are : with_lengths b.items ≡ lengths (said_by b)

abbrev pub AreInPlace : Option ℕ → ℕ → List FileBatch → Type 0
AreInPlace signature at [] = Unit {0}
AreInPlace signature at (b ∷ bs) = IsInPlace signature at b × AreInPlace signature (at + b.len) bs

pub record IsSpelledAs (signature : Option ℕ) (at : ℕ) (bytes : List ℕ) (r : Reading) : Type 0 where
  pub text : bytes ≡ spelled_batches signature (contents r.batches)
  pub batches : AreBatches (contents r.batches)
  pub places : AreInPlace signature at r.batches

one_read : (x y : Read) → (let r : Taken = Ok x in r ≡ Ok y) → x ≡ y
one_read x y e = cc

found_spelled : (signature : Option ℕ) (at : ℕ) (bytes : List ℕ) (read : Read) (inner : Reading) → IfSome signature (λ s. s < 2 ^ 32) → AreBytes bytes → record_at signature bytes ≡ Ok read
    → IsSpelledAs signature (at + read.2) (drop read.2 bytes) inner → IsSpelledAs signature at bytes (with_batch (batch_at at read) inner)
found_spelled signature at bytes read inner s fits is rest =
    let k : Batch = with_bytes read.1 read.0 in
    let t = record_takes signature bytes read (each_byte bytes fits) is in
    let parts : bytes ≡ spell_record signature k ++ drop read.2 bytes = sym (take-append-drop read.2 bytes) ∙ ap (λ (l : List ℕ). l ++ drop read.2 bytes) t.spelled in
    let same : read ≡ (placed 0 k, block_of k, record_len k) = one_read read (placed 0 k, block_of k, record_len k) (sym is ∙ record_again signature k (drop read.2 bytes) bytes s (each_byte bytes fits) t.each parts) in
    record {
      text = parts ∙ ap (λ (l : List ℕ). spell_record signature k ++ l) rest.text;
      batches = (t.each, rest.batches);
      places = (
        record {
          place = refl;
          entries = ap (λ (x : Read). x.1) same;
          len = omega (arith, ap length t.spelled, length-take read.2 bytes, t.within);
          lengths_are = ap (λ (x : Read). with_lengths x.0) same ∙ placed_lengths 0 k;
        },
        rest.places,
      );
    }

no_fault : (f : RecordFault) → (let o : Option RecordFault = Some f in o ≡ None) → ⊥
no_fault f e = cc

spelled_step : (signature : Option ℕ) (k at : ℕ) (bytes : List ℕ) (r : Taken) → IfSome signature (λ s. s < 2 ^ 32)
    → ((to : ℕ) (l : List ℕ) → AreBytes l → length l ≤ k → (read_from 0 signature to l).fault ≡ None → IsSpelledAs signature to l (read_from 0 signature to l)) → AreBytes bytes → 0 < length bytes → length bytes ≤ suc k
    → (read_from 0 signature at bytes).fault ≡ None → record_at signature bytes ≡ r → IsSpelledAs signature at bytes (read_from 0 signature at bytes)
spelled_step signature k at bytes (Ok read) s next fits some short none is =
    let sized = record_sized signature bytes read is in
    let whole = from_found 0 signature at bytes read is in
    let rest : List ℕ = drop read.2 bytes in
    subst (IsSpelledAs signature at bytes) (sym whole)
    (found_spelled signature at bytes read (read_from 0 signature (at + read.2) rest) s fits is
    (next (at + read.2) rest (bytes_dropped read.2 bytes fits) (omega (arith, length-drop read.2 bytes, sized.least, short)) (sym (ap (λ (x : Reading). x.fault) whole) ∙ none)))
spelled_step signature k at bytes (Err f) s next fits some short none is =
    absurd (no_fault f (sym (ap (λ (x : Reading). x.fault) (from_fault 0 signature at bytes f some is (no_padding at bytes))) ∙ none))

reads_spelled : (signature : Option ℕ) (k at : ℕ) (bytes : List ℕ) → IfSome signature (λ s. s < 2 ^ 32) → AreBytes bytes → length bytes ≤ k → (read_from 0 signature at bytes).fault ≡ None
    → IsSpelledAs signature at bytes (read_from 0 signature at bytes)
reads_spelled signature k at [] s fits short none = subst (IsSpelledAs signature at []) (sym (from_end 0 signature at [] refl)) (record { text = refl; batches = tt; places = tt })
reads_spelled signature zero at (b ∷ bytes) s fits short none = absurd (omega (arith, short))
reads_spelled signature (suc k) at (b ∷ bytes) s fits short none =
    spelled_step signature k at (b ∷ bytes) (record_at signature (b ∷ bytes)) s (λ to l few less last. reads_spelled signature k to l s few less last) fits (omega arith) short none refl

-- ---- a file

-- the file is the text of these batches
pub record IsTextOf (id : FileId) (format : LogFileFormat) (bytes : List ℕ) (batches : List FileBatch) : Type 0 where
  pub spellable : IsSpellable format
  pub text : bytes ≡ file_text id format (contents batches)
  pub are : AreBatches (contents batches)
  pub places : AreInPlace (signature_of format.version id.seq) (header_len format.version) batches

-- or it has none, and no bytes
pub record IsBare (format : LogFileFormat) (bytes : List ℕ) (batches : List FileBatch) : Type 0 where
  pub none : batches ≡ []
  pub bytes_are : bytes ≡ []
  pub plain : IsPlain format

abbrev ReadsWhole : List ℕ → List FileBatch → Result Reading HeaderFault → Type 0
ReadsWhole bytes batches r = MatchResult r (λ x. (x.batches ≡ batches) × (x.fault ≡ None) × (x.to ≡ length bytes)) (λ _. (batches ≡ []) × (bytes ≡ []))

pub whole_text : (id : FileId) (f : FileState) (batches : List FileBatch) → AreBytes f.bytes → (format_in f.bytes).alignment ≡ 0 → IsWhole id f batches → IsTextOf id (format_in f.bytes) f.bytes batches ⊎ IsBare (format_in f.bytes) f.bytes batches
whole_text id f batches fits plain whole = by_header (header_at f.bytes) refl
  where
    format_by : (h : Result LogFileFormat HeaderFault) → header_at f.bytes ≡ h → format_in f.bytes ≡ read_or (λ (x : LogFileFormat). x) (λ (e : HeaderFault). record { version = V1; alignment = 0 }) h
    format_by h is = ap (λ y. read_or (λ (x : LogFileFormat). x) (λ (e : HeaderFault). record { version = V1; alignment = 0 }) y) is

    by_header : (h : Result LogFileFormat HeaderFault) → header_at f.bytes ≡ h → IsTextOf id (format_in f.bytes) f.bytes batches ⊎ IsBare (format_in f.bytes) f.bytes batches
    by_header (Err e) is =
        let reads : ReadsWhole f.bytes batches (Err e) = subst (ReadsWhole f.bytes batches) (no_reading id f.bytes e is) whole.reads in
        inr (record {
          none = reads.0;
          bytes_are = reads.1;
          plain = subst IsPlain (sym (format_by (Err e) is)) ((omega arith, λ same. refl), refl);
        })
    by_header (Ok format) is =
        let hl : ℕ = header_len format.version in
        let signature : Option ℕ = signature_of format.version id.seq in
        let body : List ℕ = drop hl f.bytes in
        let none : format.alignment ≡ 0 = sym (ap (λ (x : LogFileFormat). x.alignment) (format_by (Ok format) is)) ∙ plain in
        let read_is : read_behind id format hl f.bytes ≡ read_from 0 signature hl body = ap (λ a. read_from a signature hl body) none in
        let reads : ReadsWhole f.bytes batches (Ok (read_behind id format hl f.bytes)) = subst (ReadsWhole f.bytes batches) (reading_of id f.bytes format is) whole.reads in
        let spelled = header_spelled f.bytes format fits is in
        let read_as : IsSpelledAs signature hl body (read_from 0 signature hl body) = reads_spelled signature (length body) hl body (signature_fits format.version id.seq) (bytes_dropped hl f.bytes fits) (omega arith)
        (sym (ap (λ (x : Reading). x.fault) read_is) ∙ reads.1) in
        let same : (read_from 0 signature hl body).batches ≡ batches = sym (ap (λ (x : Reading). x.batches) read_is) ∙ reads.0 in
        inl (subst (λ (x : LogFileFormat). IsTextOf id x f.bytes batches) (sym (format_by (Ok format) is)) (record {
          spellable = spelled.spellable;
          text = sym (take-append-drop hl f.bytes) ∙ (λ i. spelled.front i ++ (read_as.text ∙ ap (λ (l : List FileBatch). spelled_batches signature (contents l)) same) i);
          are = subst (λ (l : List FileBatch). AreBatches (contents l)) same read_as.batches;
          places = subst (AreInPlace signature hl) same read_as.places;
        }))

-- a file with nothing unsynced is as after a sync
settled_again : (f : FileState) → IsStill f → f.later ≡ [] → f ≡ after_sync f
settled_again f still none = λ i. record {
  bytes = f.bytes;
  kept = still.kept i;
  changed = still.changed i;
  least = still.least i;
  greatest = still.greatest i;
  earlier = (sym (append-nil f.earlier) ∙ ap (λ (l : List (ℕ × List ℕ)). f.earlier ++ l) (sym none)) i;
  later = none i;
  brought = f.brought;
}

-- a file that is whole is one that a pipe goes on with
pub whole_found : (id : FileId) (f : FileState) (batches : List FileBatch) → AreBytes f.bytes → (format_in f.bytes).alignment ≡ 0 → IsWhole id f batches → found.IsWhole id (format_in f.bytes) (contents batches) f
whole_found id f batches fits plain whole = by_text (whole_text id f batches fits plain whole)
  where
    by_text : IsTextOf id (format_in f.bytes) f.bytes batches ⊎ IsBare (format_in f.bytes) f.bytes batches → found.IsWhole id (format_in f.bytes) (contents batches) f
    by_text (inl t) = inl (subst (IsStored id (format_in f.bytes) (contents batches) [] (length f.bytes)) (sym (settled_again f whole.still whole.later))
        (stored_whole id (format_in f.bytes) (contents batches) f t.spellable plain t.are t.text))
    by_text (inr bare) = inr (record {
      none = ap contents bare.none;
      bytes = bare.bytes_are;
      short = omega (arith, whole.still.greatest, ap length bare.bytes_are);
      plain = bare.plain;
    })
