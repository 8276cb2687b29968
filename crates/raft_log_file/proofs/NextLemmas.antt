-- One step of a reader: a batch, padding, the end or a fault.
use Rattle.std.proofs.Common.{◌≡◌, ℕ, ◌+◌, ◌<◌, ◌≤◌, Bool, true, false, cond, ltb, List, [], length, take, drop, Option, Some, None, Ok, Err, refl, sym, ap, subst, ◌∙◌, arith, length-drop}
use Rattle.std.specs.Prelude.{◌==◌}
use Rattle.std.specs.List.{list_all}
use Rattle.std.proofs.lemmas.Bool.{ltb-false}
use Rattle.std.proofs.lemmas.List.{drop-drop}
use Rattle.raft_log_records.specs.declared.error.RecordFault.{RecordFault}
use Rattle.raft_log_records.specs.declared.file_id.FileId.{FileId}
use Rattle.raft_log_records.specs.Item.{items_of}
use Rattle.raft_log_records.specs.Block.{bytes_at}
use Rattle.raft_log_records.specs.Reading.{record_at}
use Rattle.raft_log_records.specs.Signature.{signature_of}
use Rattle.raft_bytes.proofs.Bytes.{AreBytes-drop}
use Rattle.raft_log_disk.specs.declared.format.LogFileFormat.{LogFileFormat}
use Rattle.raft_log_disk.specs.Chance.{gap, padding}
use Rattle.raft_log_file.specs.declared.batches.ReadBatch.{ReadBatch}
use Rattle.raft_log_file.specs.Reading.{Reading, stopped, with_batch, batch_at, read_from, read_behind}
use Rattle.raft_log_file.specs.Reader.{HoldsBytes, IsBlock, IsFileBlock, FindsHere, Next}
use Rattle.raft_log_file.proofs.WalkLemmas.{Read, record_sized, from_found, from_end, from_fault, from_padding}

abbrev Signed : FileId → LogFileFormat → Option ℕ
Signed id format = signature_of format.version id.seq

pub moved : (bytes buffer : List ℕ) (b v size n : ℕ) → HoldsBytes bytes buffer b v size → v + n ≤ size → HoldsBytes bytes buffer b (v + n) size
moved bytes buffer b v size n h room = record {
  size_is = h.size_is;
  valid = room;
  behind = omega (arith, h.behind);
  within = h.within;
  held = h.held;
}

-- a batch that was found ends in the file
pub found_fits : (id : FileId) (format : LogFileFormat) (bytes : List ℕ) (v : ℕ) (b : ReadBatch) → FindsHere (Ok b) (record_at (Signed id format) (drop v bytes)) v → v ≤ length bytes → v + b.len ≤ length bytes
found_fits id format bytes v b (entries, read, at, block) valid =
    let sized = record_sized (Signed id format) (drop v bytes) _ read in
    omega (arith, sized.within, length-drop v bytes, valid)

found_behind : (id : FileId) (format : LogFileFormat) (bytes : List ℕ) (v : ℕ) (read : Read) → record_at (Signed id format) (drop v bytes) ≡ Ok read
    → read_behind id format v bytes ≡ with_batch (batch_at v read) (read_behind id format (v + read.2) bytes)
found_behind id format bytes v read is =
    from_found format.alignment (Signed id format) v (drop v bytes) read is
    ∙ ap (λ (l : List ℕ). with_batch (batch_at v read) (read_from format.alignment (Signed id format) (v + read.2) l)) (drop-drop read.2 v bytes)

file_block : (signature : Option ℕ) (bytes entries : List ℕ) (v : ℕ) (b : ReadBatch) → record_at signature (drop v bytes) ≡ Ok (items_of b.batch.items.items, entries, b.len) → b.offset ≡ v → IsBlock b entries → IsFileBlock bytes b entries
file_block signature bytes entries v b read at block = record {
  offset = block.offset;
  within = block.within;
  stands = λ fits any.
      ap (λ n. bytes_at n b.block.len bytes) (block.offset ∙ ap (λ n. n + 8) at)
      ∙ ap (take b.block.len) (sym (drop-drop 8 v bytes))
      ∙ block.stands signature (drop v bytes) (AreBytes-drop v bytes fits) read any;
  none = block.none;
}

pub found_next : (id : FileId) (format : LogFileFormat) (bytes : List ℕ) (u v : ℕ) (b : ReadBatch) → FindsHere (Ok b) (record_at (Signed id format) (drop v bytes)) v → read_behind id format v bytes ≡ read_behind id format u bytes
    → Next (Ok (Some b)) bytes (read_behind id format u bytes) (read_behind id format (v + b.len) bytes)
found_next id format bytes u v b (entries, read, at, block) same = (
  entries,
  sym same ∙ found_behind id format bytes v (items_of b.batch.items.items, entries, b.len) read
      ∙ ap (λ n. with_batch (batch_at n (items_of b.batch.items.items, entries, b.len)) (read_behind id format (v + b.len) bytes)) (sym at),
  file_block (Signed id format) bytes entries v b read at block,
)

-- nothing is read from here on
pub record IsLast (before after : Reading) (to : ℕ) (fault : Option RecordFault) : Type 0 where
  pub batches : before.batches ≡ []
  pub fault_is : before.fault ≡ fault
  pub same : after ≡ before
  pub place : to ≡ before.to

last_of : (before after : Reading) (to : ℕ) (fault : Option RecordFault) → after ≡ before → after ≡ stopped to fault → IsLast before after to fault
last_of before after to fault same is =
    let e = sym same ∙ is in
    record {
      batches = ap (λ (r : Reading). r.batches) e;
      fault_is = ap (λ (r : Reading). r.fault) e;
      same = same;
      place = sym (ap (λ (r : Reading). r.to) e);
    }

pub end_next : (id : FileId) (format : LogFileFormat) (bytes : List ℕ) (u v : ℕ) → length bytes ≤ v → read_behind id format v bytes ≡ read_behind id format u bytes
    → IsLast (read_behind id format u bytes) (read_behind id format v bytes) v None
end_next id format bytes u v past same =
    last_of _ _ v None same (from_end format.alignment (Signed id format) v (drop v bytes) (omega (arith, length-drop v bytes, past)))

pub fault_next : (id : FileId) (format : LogFileFormat) (bytes : List ℕ) (u v : ℕ) (f : RecordFault) → v < length bytes → record_at (Signed id format) (drop v bytes) ≡ Err f → padding format.alignment v (drop v bytes) ≡ 0
    → read_behind id format v bytes ≡ read_behind id format u bytes → IsLast (read_behind id format u bytes) (read_behind id format v bytes) v (Some f)
fault_next id format bytes u v f some is none same =
    last_of _ _ v (Some f) same (from_fault format.alignment (Signed id format) v (drop v bytes) f (omega (arith, length-drop v bytes, some)) is none)

pub padding_next : (id : FileId) (format : LogFileFormat) (bytes : List ℕ) (u v p : ℕ) (f : RecordFault) → v < length bytes → record_at (Signed id format) (drop v bytes) ≡ Err f → p ≡ padding format.alignment v (drop v bytes) → (p ≡ 0 → ⊥)
    → read_behind id format v bytes ≡ read_behind id format u bytes → read_behind id format (v + p) bytes ≡ read_behind id format u bytes
padding_next id format bytes u v p f some is padded any same =
    ap (λ n. read_behind id format (v + n) bytes) padded
    ∙ sym (
    from_padding format.alignment (Signed id format) v (drop v bytes) f (omega (arith, length-drop v bytes, some)) is (λ none. any (padded ∙ none))
    ∙ ap (λ (l : List ℕ). read_from format.alignment (Signed id format) (v + padding format.alignment v (drop v bytes)) l) (drop-drop (padding format.alignment v (drop v bytes)) v bytes)
    )
    ∙ same

within_by : (g len : ℕ) (s z : Bool) → ltb len g ≡ s → cond s 0 (cond z g 0) ≤ len
within_by g len true z is = omega arith
within_by g len false true is = omega (arith, ltb-false _ _ is)
within_by g len false false is = omega arith

-- padding lies in the file
pub padding_fits : (alignment v p : ℕ) (bytes : List ℕ) → p ≡ padding alignment v (drop v bytes) → v ≤ length bytes → v + p ≤ length bytes
padding_fits alignment v p bytes is valid =
    omega (arith, is, within_by (gap alignment v) (length (drop v bytes)) (ltb (length (drop v bytes)) (gap alignment v)) (list_all (λ b. b == 0) (take (gap alignment v) (drop v bytes))) refl, length-drop v bytes, valid)

-- the same where the place was told again
pub fault_again : (id : FileId) (format : LogFileFormat) (bytes : List ℕ) (u v w x p : ℕ) (f : RecordFault) → w ≡ v → x ≡ w → v < length bytes → record_at (Signed id format) (drop v bytes) ≡ Err f
    → p ≡ padding format.alignment w (drop w bytes) → p ≡ 0 → read_behind id format v bytes ≡ read_behind id format u bytes → IsLast (read_behind id format u bytes) (read_behind id format x bytes) x (Some f)
fault_again id format bytes u v w x p f e q some is padded none same =
    subst (λ n. IsLast (read_behind id format u bytes) (read_behind id format n bytes) n (Some f)) (sym (q ∙ e))
    (fault_next id format bytes u v f some is (ap (λ n. padding format.alignment n (drop n bytes)) (sym e) ∙ sym padded ∙ none) same)

pub padding_again : (id : FileId) (format : LogFileFormat) (bytes : List ℕ) (u v w x p : ℕ) (f : RecordFault) → w ≡ v → x ≡ w → v < length bytes → record_at (Signed id format) (drop v bytes) ≡ Err f
    → p ≡ padding format.alignment w (drop w bytes) → (p ≡ 0 → ⊥) → read_behind id format v bytes ≡ read_behind id format u bytes → read_behind id format (x + p) bytes ≡ read_behind id format u bytes
padding_again id format bytes u v w x p f e q some is padded any same =
    ap (λ n. read_behind id format (n + p) bytes) (q ∙ e)
    ∙ padding_next id format bytes u v p f some is (padded ∙ ap (λ n. padding format.alignment n (drop n bytes)) e) any same
