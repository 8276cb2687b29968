-- The batches of a file lie before the place where reading ended, so a cut there leaves them.
use Rattle.std.proofs.Common.{◌≡◌, inl, inr, ℕ, zero, suc, ◌+◌, ◌-◌, ◌<◌, ◌≤◌, Bool, true, false, eqb, List, [], ◌∷◌, ◌++◌, length, take, drop, Option, Result, Ok, Err, refl, sym, ap, subst, ◌∙◌, arith, length-drop}
use Rattle.std.specs.List.{AllByRecursion}
use Rattle.std.proofs.lemmas.Bool.{eqb-true, eqb-false}
use Rattle.std.proofs.lemmas.List.{drop-take, take-take}
use Rattle.raft_log_records.specs.declared.error.RecordFault.{RecordFault}
use Rattle.raft_log_records.specs.declared.file_id.FileId.{FileId}
use Rattle.raft_log_records.specs.Block.{bytes_at}
use Rattle.raft_log_records.specs.Reading.{record_at}
use Rattle.raft_log_records.specs.Signature.{signature_of}
use Rattle.raft_log_disk.specs.declared.format.LogFileFormat.{LogFileFormat}
use Rattle.raft_log_disk.specs.declared.format.HeaderFault.{HeaderFault}
use Rattle.raft_log_disk.specs.Disk.{AreBytes, Disk, FileState}
use Rattle.raft_log_disk.specs.Chance.{gap}
use Rattle.raft_log_disk.specs.Format.{header_at, header_len}
use Rattle.raft_log_disk.proofs.DiskLemmas.{same_file}
use Rattle.raft_log_file.specs.Reading.{FileBatch, Reading, read_from}
use Rattle.raft_log_file.proofs.UnsyncedLemmas.{each_byte}
use Rattle.raft_log_file.proofs.WalkLemmas.{Read, from_end, from_fault, from_found, from_padding, record_sized}
use Rattle.raft_log_recovery.specs.Repair.{IsRepaired, batches_in, end_in}
use Rattle.raft_log_recovery.specs.Replay.{ArePlaced, IsPlaced, Placed}
use Rattle.raft_log_recovery.proofs.ReadLemmas.{IsPadding, cut_whole, padding_cases}
use Rattle.raft_log_recovery.proofs.RepairLemmas.{batches_by, end_by, no_reading, reading_of}

abbrev Taken : Type 0
Taken = Result Read RecordFault

-- each batch ends at this place at most
abbrev pub AllEnd : ℕ → List FileBatch → Type 0
AllEnd to batches = AllByRecursion (λ b. b.at + b.len ≤ to) batches

abbrev EndsWithin : Reading → Type 0
EndsWithin r = AllEnd r.to r.batches

end_step : (alignment : ℕ) (signature : Option ℕ) (k at : ℕ) (bytes : List ℕ) (r : Taken) → ((to : ℕ) (l : List ℕ) → length l ≤ k → EndsWithin (read_from alignment signature to l)) → 0 < length bytes → length bytes ≤ suc k
    → record_at signature bytes ≡ r → EndsWithin (read_from alignment signature at bytes)
end_step alignment signature k at bytes (Ok read) next some short is =
    let sized = record_sized signature bytes read is in
    let rest : List ℕ = drop read.2 bytes in
    let cut = cut_whole alignment signature (length rest) (at + read.2) rest (omega arith) in
    subst EndsWithin (sym (from_found alignment signature at bytes read is)) (cut.least, next (at + read.2) rest (omega (arith, length-drop read.2 bytes, sized.least, short)))
end_step alignment signature k at bytes (Err f) next some short is = elim (padding_cases alignment at bytes) [
  | inl none ↦ subst EndsWithin (sym (from_fault alignment signature at bytes f some is none)) tt
  | inr p ↦ by_gap p (eqb (gap alignment at) 0) refl
]
  where
    by_gap : IsPadding alignment at bytes → (b : Bool) → eqb (gap alignment at) 0 ≡ b → EndsWithin (read_from alignment signature at bytes)
    by_gap p true e = subst EndsWithin (sym (from_fault alignment signature at bytes f some is (p.is_gap ∙ eqb-true (gap alignment at) 0 e))) tt
    by_gap p false e =
        let any : gap alignment at ≡ 0 → ⊥ = eqb-false (gap alignment at) 0 e in
        let same : read_from alignment signature at bytes ≡ read_from alignment signature (at + gap alignment at) (drop (gap alignment at) bytes)
        = from_padding alignment signature at bytes f some is (λ none. any (sym p.is_gap ∙ none)) ∙ ap (λ j. read_from alignment signature (at + j) (drop j bytes)) p.is_gap in
        subst EndsWithin (sym same) (next (at + gap alignment at) (drop (gap alignment at) bytes) (omega (arith, length-drop (gap alignment at) bytes, any, short)))

batches_end : (alignment : ℕ) (signature : Option ℕ) (k at : ℕ) (bytes : List ℕ) → length bytes ≤ k → EndsWithin (read_from alignment signature at bytes)
batches_end alignment signature k at [] short = subst EndsWithin (sym (from_end alignment signature at [] refl)) tt
batches_end alignment signature zero at (b ∷ bytes) short = absurd (omega arith)
batches_end alignment signature (suc k) at (b ∷ bytes) short =
    end_step alignment signature k at (b ∷ bytes) (record_at signature (b ∷ bytes)) (λ to l few. batches_end alignment signature k to l few) (omega arith) short refl

-- the batches of a file end where its whole records do
pub file_ends : (id : FileId) (bytes : List ℕ) → AllEnd (end_in id bytes) (batches_in id bytes)
file_ends id bytes = by_header (header_at bytes) refl
  where
    by_header : (r : Result LogFileFormat HeaderFault) → header_at bytes ≡ r → AllEnd (end_in id bytes) (batches_in id bytes)
    by_header (Err e) is = subst (AllEnd (end_in id bytes)) (sym (ap batches_by (no_reading id bytes e is))) tt
    by_header (Ok format) is =
        let hl : ℕ = header_len format.version in
        let body : List ℕ = drop hl bytes in
        let reads = reading_of id bytes format is in
        subst (λ n. AllEnd n (batches_in id bytes)) (sym (ap end_by reads))
        (subst (AllEnd (read_from format.alignment (signature_of format.version id.seq) hl body).to) (sym (ap batches_by reads))
        (batches_end format.alignment (signature_of format.version id.seq) (length body) hl body (omega arith)))

-- ---- what stands in a front

stands_front : (bytes : List ℕ) (offset len to : ℕ) → offset + len ≤ to → bytes_at offset len (take to bytes) ≡ bytes_at offset len bytes
stands_front bytes offset len to within =
    let k : ℕ = to - offset in
    ap (λ n. take len (drop offset (take n bytes))) (omega (arith, within)) ∙ ap (take len) (drop-take offset k bytes) ∙ take-take len k (drop offset bytes) (omega (arith, within))

placed_front : (id : FileId) (bytes : List ℕ) (to : ℕ) (b : FileBatch) (p : Placed) → AreBytes bytes → b.at + b.len ≤ to → IsPlaced id bytes b p → IsPlaced id (take to bytes) b p
placed_front id bytes to b p fits ends is = record {
  items = is.items;
  file = is.file;
  offset = is.offset;
  within = is.within;
  stands = λ few any. stands_front bytes p.handle.offset p.handle.len to (omega (arith, is.offset, is.within, ends)) ∙ is.stands (each_byte bytes fits) any;
  none = is.none;
}

pub all_front : (id : FileId) (bytes : List ℕ) (to : ℕ) (bs : List FileBatch) (ps : List Placed) → AreBytes bytes → AllEnd to bs → ArePlaced id bytes bs ps → ArePlaced id (take to bytes) bs ps
all_front id bytes to [] ps fits ends are = are
all_front id bytes to (b ∷ bs) ps fits ends (p, rest, is, here, others) = (p, rest, is, placed_front id bytes to b p fits ends.0 here, all_front id bytes to bs rest fits ends.1 others)

-- what was placed in a file is placed in it once it is repaired
pub repaired_placed : (P Q : List Placed → Type 0) (d e : Disk) (id : FileId) (fd : ℕ) → AreBytes (d.file fd).bytes → IsRepaired d e id fd
    → ((placed : List Placed) → P placed → (more : List Placed) × Q (placed ++ more) × ArePlaced id (d.file fd).bytes (batches_in id (d.file fd).bytes) more)
    → (placed : List Placed) → P placed → (more : List Placed) × Q (placed ++ more) × ArePlaced id (e.file fd).bytes (batches_in id (d.file fd).bytes) more
repaired_placed P Q d e id fd fits repaired so placed has =
    let s = so placed has in
    let bytes : List ℕ = (d.file fd).bytes in
    let there : take (end_in id bytes) bytes ≡ (e.file fd).bytes = sym (ap (λ (x : Disk). (x.file fd).bytes) repaired.files ∙ ap (λ (f : FileState). f.bytes) (same_file fd repaired.state (d.file fd)) ∙ repaired.front) in
    (s.0, s.1, subst (λ (l : List ℕ). ArePlaced id l (batches_in id bytes) s.0) there (all_front id bytes (end_in id bytes) (batches_in id bytes) s.0 fits (file_ends id bytes) s.2))
