-- The entries of a batch lie in its block once it is written.
use Rattle.std.proofs.Common.{◌≡◌, ℕ, ◌+◌, ◌^◌, ◌<◌, ◌≤◌, true, List, [], ◌∷◌, ◌++◌, length, take, drop, Option, Some, None, refl, sym, ap, ◌∙◌, arith, length-append, length-take, length-drop}
use Rattle.std.specs.Prelude.{Bool, IfSome}
use Rattle.std.specs.Int.{w32, to_be_bytes}
use Rattle.std.specs.List.{list_any}
use Rattle.raft_log_records.specs.declared.block.EntriesBlock.{EntriesBlock}
use Rattle.raft_log_records.specs.declared.file_id.FileBlockHandle.{FileBlockHandle}
use Rattle.raft_log_records.specs.declared.item.EntryIndex.{EntryIndex}
use Rattle.raft_log_records.specs.Block.{StandsIn}
use Rattle.raft_log_records.specs.Item.{entry_bytes}
use Rattle.raft_log_records.specs.Signature.{signature_of}
use Rattle.raft_log_records.specs.Spelling.{block_of, block_part, holds_entries, lengths, record_len, sealed, spell_block, spell_items, spell_record}
use Rattle.raft_log_file.specs.Laws.{Batch}
use Rattle.raft_log_file.proofs.LawLemmas.{length-spelled}
use Rattle.raft_log_file.proofs.UnsyncedLemmas.{spelled_long}
use Rattle.raft_log_pipe.specs.declared.pipe.SinglePipe.{SinglePipe}
use Rattle.raft_log_pipe.specs.Blocks.{IsRecordOf}
use Rattle.raft_log_pipe.specs.Pipe.{Numbered}
use Rattle.raft_log_pipe.proofs.BlockLemmas.{is_last}
use Rattle.raft_log_memtables.specs.Entries.{placed_in}
use Rattle.raft_log_blocks.specs.Held.{IsPlace, LiesIn}
use Rattle.raft_log_blocks.proofs.EntryReads.{length-sealed}

record_longer : (signature : Option ℕ) (items : Batch) → list_any holds_entries items ≡ true → length (block_of items) + 16 ≤ length (spell_record signature items)
unfolding spell_record
record_longer signature items holds =
    let block : List ℕ = spell_block items in
    let body : List ℕ = spell_items (lengths items) in
    let one : List ℕ = to_be_bytes w32 (12 + length block + length body) in
    let two : List ℕ = to_be_bytes w32 (8 + length block) in
    let a : length (one ++ (two ++ (block ++ sealed signature body))) ≡ 4 + length (two ++ (block ++ sealed signature body)) = length-append one (two ++ (block ++ sealed signature body)) in
    let b : length (two ++ (block ++ sealed signature body)) ≡ 4 + length (block ++ sealed signature body) = length-append two (block ++ sealed signature body) in
    omega (arith, a, b, length-append block (sealed signature body), length-sealed signature body, ap (λ (x : Bool). length (block_part x (block_of items))) holds, length-sealed None (block_of items))

short_enough : (signature : Option ℕ) (items : Batch) (len : ℕ) → list_any holds_entries items ≡ true → take len (drop 8 (spell_record signature items)) ≡ sealed None (block_of items) → 8 + len ≤ length (spell_record signature items)
short_enough signature items len holds is =
    omega (arith, record_longer signature items holds, ap length is, length-sealed None (block_of items), length-take len (drop 8 (spell_record signature items)), length-drop 8 (spell_record signature items))

-- the entries of the new batch lie in it
pub new_lies : (q : SinglePipe) (bs : Numbered) (seq : ℕ) (items : Batch) (h place : FileBlockHandle) (block : EntriesBlock) → IsRecordOf q.queue q.active bs items h → seq ≡ h.id.seq → IsPlace h block place
    → ((signature : Option ℕ) → StandsIn (spell_record signature items) items (block_of items) (Some block)) → (e : EntryIndex) → LiesIn q (bs ++ (seq, items) ∷ []) (placed_in place e) (entry_bytes (block_of items) e)
new_lies q bs seq items h place block at number is stands e =
    let signature : Option ℕ = signature_of q.active.format.version q.active.seq in
    let here = stands signature in
    let sealed_there : take place.len (drop 8 (spell_record signature items)) ≡ sealed None (block_of items) =
    (λ i. take (is.2 i) (drop 8 (spell_record signature items))) ∙ sym (ap (λ (n : ℕ). take block.len (drop n (spell_record signature items))) here.1) ∙ here.2 in
    record {
      handle = place;
      file = q.active;
      before = bs;
      items = items;
      after = [];
      place = refl;
      queue = ap (λ i. i.queue) (is.0 ∙ at.id);
      among = is_last q.older.items q.active;
      split = ap (λ (n : ℕ). bs ++ (n, items) ∷ []) (number ∙ at.block.seq);
      block = record {
        seq = ap (λ i. i.seq) is.0 ∙ at.block.seq;
        offset = omega (arith, is.1, here.1, at.block.offset);
        within = short_enough signature items place.len here.0 sealed_there;
      };
      stands = sealed_there;
      bytes_are = refl;
    }

-- where a batch stands that has its record at this place
pub record IsPut (q : SinglePipe) (bs : Numbered) (items : Batch) (h : FileBlockHandle) (block : Option EntriesBlock) (place : FileBlockHandle) : Type 0 where
  pub at : IsRecordOf q.queue q.active bs items h
  pub stands : (signature : Option ℕ) → StandsIn (spell_record signature items) items (block_of items) block
  pub is : (b : EntriesBlock) → block ≡ Some b → IsPlace h b place

-- the block of a record's entries begins in the file where the record lies in it
pub block_fits : (items : Batch) (start : ℕ) (block : Option EntriesBlock) → ((signature : Option ℕ) → StandsIn (spell_record signature items) items (block_of items) block) → start + record_len items < 2 ^ 64 → IfSome block (λ b. start + b.offset < 2 ^ 64)
block_fits items start None stands fits = tt
block_fits items start (Some b) stands fits = omega (arith, (stands None).1, spelled_long None items, length-spelled None items, fits)
