-- Batches that are replayed one after the other.
use Rattle.std.proofs.Common.{◌≡◌, ℕ, List, [], ◌∷◌, ◌++◌, Option, Some, None, Ok, Err, refl, sym, ap, subst, ◌∙◌, append_assoc}
use Rattle.std.proofs.lemmas.List.{append-nil}
use Rattle.raft_log_records.specs.declared.file_id.FileId.{FileId}
use Rattle.raft_log_records.specs.Item.{items_of}
use Rattle.raft_log_disk.specs.Disk.{AreBytes, Disk, IsNoFile}
use Rattle.raft_log_disk.specs.Image.{HasImages, seen_image}
use Rattle.raft_log_disk.proofs.LawLemmas.{image_there, is_there}
use Rattle.raft_log_file.specs.declared.batches.ReadBatch.{ReadBatch}
use Rattle.raft_log_file.specs.Reading.{FileBatch, Reading, read_behind, with_batch}
use Rattle.raft_log_disk.specs.declared.format.LogFileFormat.{LogFileFormat}
use Rattle.raft_log_disk.specs.declared.format.HeaderFault.{HeaderFault}
use Rattle.raft_log_disk.specs.Format.{header_at, header_len}
use Rattle.raft_log_recovery.specs.Repair.{batches_in}
use Rattle.raft_log_recovery.proofs.RepairLemmas.{batches_by, no_reading, reading_of}
use Rattle.raft_log_file.specs.declared.batches.OpenFile.{OpenFile}
use Rattle.raft_log_file.specs.declared.batches.LogItemBatchFileReader.{LogItemBatchFileReader}
use Rattle.raft_log_file.specs.Reader.{Next, batch_of, bytes_in, held_bytes}
use Rattle.raft_log_recovery.specs.Replay.{ArePlaced, IsPlaced, Placed}

-- from P on the batches done were replayed, which gave Q; rest are left of all
abbrev pub Replays : (List Placed → Type 0) → (List Placed → Type 0) → FileId → List ℕ → List FileBatch → List FileBatch → Type 0
Replays P Q id bytes all rest = (placed : List Placed) → P placed → (done : List FileBatch) × (more : List Placed) × Q (placed ++ more) × ArePlaced id bytes done more × (all ≡ done ++ rest)

pub replays_none : (P : List Placed → Type 0) (id : FileId) (bytes : List ℕ) (all : List FileBatch) → Replays P P id bytes all all
replays_none P id bytes all placed has = ([], [], subst P (sym (append-nil placed)) has, refl, refl)

placed_push : (id : FileId) (bytes : List ℕ) (batches : List FileBatch) (batch : FileBatch) (all : List Placed) (p : Placed) → ArePlaced id bytes batches all → IsPlaced id bytes batch p → ArePlaced id bytes (batches ++ batch ∷ []) (all ++ p ∷ [])
placed_push id bytes [] batch all p none is = (p, [], ap (λ (l : List Placed). l ++ p ∷ []) none, is, refl)
placed_push id bytes (b ∷ batches) batch all p (q, rest, whole, here, others) is =
    (q, rest ++ p ∷ [], ap (λ (l : List Placed). l ++ p ∷ []) whole, here, placed_push id bytes batches batch rest p others is)

-- one batch more
pub replays_more : (P Q R : List Placed → Type 0) (id : FileId) (bytes : List ℕ) (all : List FileBatch) (before after : Reading) (batch : FileBatch) (p : Placed) → Replays P Q id bytes all before.batches → before ≡ with_batch batch after
    → IsPlaced id bytes batch p → ((placed : List Placed) → Q placed → R (placed ++ p ∷ [])) → Replays P R id bytes all after.batches
replays_more P Q R id bytes all before after batch p so is here next placed has =
    let s = so placed has in (
      s.0 ++ batch ∷ [],
      s.1 ++ p ∷ [],
      subst R (append_assoc placed s.1 (p ∷ [])) (next (placed ++ s.1) s.2),
      placed_push id bytes s.0 batch s.1 p s.3 here,
      s.4 ∙ ap (λ (x : Reading). s.0 ++ x.batches) is ∙ sym (append_assoc s.0 (batch ∷ []) after.batches),
    )

-- all of them
pub replays_all : (P Q : List Placed → Type 0) (id : FileId) (bytes : List ℕ) (all rest : List FileBatch) → Replays P Q id bytes all rest → rest ≡ [] → (placed : List Placed) → P placed
    → (more : List Placed) × Q (placed ++ more) × ArePlaced id bytes all more
replays_all P Q id bytes all rest so none placed has =
    let s = so placed has in
    let done : all ≡ s.0 = s.4 ∙ ap (λ (l : List FileBatch). s.0 ++ l) none ∙ append-nil s.0 in
    (s.1, s.2, subst (λ (l : List FileBatch). ArePlaced id bytes l s.1) (sym done) s.3)

-- what a machine is given of a batch that was read
pub record IsGiven (id : FileId) (bytes : List ℕ) (b : ReadBatch) (before after : Reading) : Type 0 where
  pub batch : FileBatch
  pub is : before ≡ with_batch batch after
  pub placed : IsPlaced id bytes batch (record { handle = record { id = id; offset = b.block.offset; len = b.block.len }; items = items_of b.batch.items.items })

pub given_of : (id : FileId) (bytes : List ℕ) (b : ReadBatch) (before after : Reading) → Next (Ok (Some b)) bytes before after → IsGiven id bytes b before after
given_of id bytes b before after (entries, is, block) = record {
  batch = batch_of b entries;
  is = is;
  placed = record { items = refl; file = refl; offset = block.offset; within = block.within; stands = block.stands; none = block.none };
}

-- what a file has are bytes
pub file_fits : (d : Disk) (fd : ℕ) → HasImages d → (IsNoFile d fd → ⊥) → AreBytes (d.file fd).bytes
file_fits d fd images there = (image_there d (seen_image d) d.names fd (is_there fd _ there) images.seen).fits

-- ---- a file

-- nothing is replayed of a file whose header is broken
pub nothing_placed : (P : List Placed → Type 0) (id : FileId) (bytes : List ℕ) (f : HeaderFault) → header_at bytes ≡ Err f → (placed : List Placed) → P placed → (more : List Placed) × P (placed ++ more) × ArePlaced id bytes (batches_in id bytes) more
nothing_placed P id bytes f is placed has = ([], subst P (sym (append-nil placed)) has, subst (λ (l : List FileBatch). ArePlaced id bytes l []) (sym (ap batches_by (no_reading id bytes f is))) refl)

-- of others all that is read behind the header
pub all_placed : (P Q : List Placed → Type 0) (id : FileId) (bytes : List ℕ) (format : LogFileFormat) (r : Reading) (held : List ℕ) → header_at bytes ≡ Ok format → held ≡ bytes → r ≡ read_behind id format (header_len format.version) bytes
    → ((placed : List Placed) → P placed → (more : List Placed) × Q (placed ++ more) × ArePlaced id held r.batches more) → (placed : List Placed) → P placed → (more : List Placed) × Q (placed ++ more) × ArePlaced id bytes (batches_in id bytes) more
all_placed P Q id bytes format r held is same behind so placed has =
    let s = so placed has in (
      s.0,
      s.1,
      subst (λ (l : List ℕ). ArePlaced id l (batches_in id bytes) s.0) same
          (subst (λ (l : List FileBatch). ArePlaced id held l s.0) (ap (λ (x : Reading). x.batches) behind ∙ sym (ap batches_by (reading_of id bytes format is))) s.2),
    )

-- a reader of the same file holds the same bytes
pub held_same : (r s : LogItemBatchFileReader) (d : Disk) → r.file ≡ s.file → held_bytes r d ≡ held_bytes s d
held_same r s d is = ap (λ (o : Option OpenFile). elim o as (λ _. List ℕ) [ None ↦ [] | Some file ↦ bytes_in d file ]) is
