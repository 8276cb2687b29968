use Rattle.std.proofs.Common.{◌≡◌, ◌≤◌, ◌+◌, ◌*◌, ◌++◌, ◌∷◌, [], ℕ, List, length, map, refl, sym, ap, subst, ◌∙◌, arith, length-append, inr}
use Rattle.std.specs.List.{list_any}
use Rattle.std.proofs.lemmas.List.{length-map}
use Rattle.raft_log_records.specs.declared.item.LogItem.{LogItem}
use Rattle.raft_log_records.specs.declared.item.LogItemContent.TheVariants as content
use Rattle.raft_log_records.specs.Item.{Item, items_of, with_bytes}
use Rattle.raft_log_records.specs.Spelling.{holds_entries, record_len}
use Rattle.raft_log_records.specs.Batch.{Batch, joined, run_of}
use Rattle.raft_log_records.specs.Batch.Writing.{open_still}
use Rattle.raft_log_records.specs.BatchView.{writing_of}
use Rattle.raft_log_records.proofs.Messages.{cut_back, run_within, refused_write}
use Rattle.raft_log_records.proofs.Runs.{RunRoom, run_longer, run_pushed, run_viewed, indexes_are}
use Rattle.raft_log_records.proofs.batch.LogBatch.add_messages.Goals as goal

pub returns-in-Err : goal.returns-in-Err
returns-in-Err g c =
    let a = c.self.inside in
    let parts = map g.T.Message.bytes c.args.entries.now in
    let count : length parts ≡ length c.args.entries.now = length-map c.args.entries.now g.T.Message.bytes in
    let run = run_of c.args.raft_group_id c.args.first parts in
    let least = subst (λ (b : Batch). length a.entries.items + 12 * length parts + length (joined parts) ≤ record_len (b.items ++ run ∷ [])) c.self.view_is
    (run_within a.items.items a.entries.items a.holds_entries a.items_len c.args.raft_group_id c.args.first parts c.self.invariant.sound) in
    let kept = cut_back a.entries.items c.write_all.new.out.items c.truncate.new.self.items c.len-at.result (omega (arith, c.len-at.ensures)) c.in-Err.ensures.stays c.truncate.ensures.items in
    let same = ap (λ (b : List ℕ). record { items = with_bytes b (items_of a.items.items); writing = writing_of a.buf_state }) kept ∙ c.self.view_is in
    refused_write c.args.self.now _ run _ _ c.in-Err.e c.in-Err.ensures.long same (λ h. omega (arith, h, least, count))

pub returns-then-room-run_len : goal.returns-then-room-run_len
returns-then-room-run_len g c =
    let a = c.self.inside in
    let parts = map g.T.Message.bytes c.args.entries.now in
    let count : length parts ≡ length c.args.entries.now = length-map c.args.entries.now g.T.Message.bytes in
    let longer = run_longer c.args.self.now.items c.args.raft_group_id c.args.first parts (list_any holds_entries c.args.self.now.items) refl in
    let grown = ap length c.in-Ok.ensures.bytes in
    let sum = length-append a.entries.items (joined parts) in
    let kept = cut_back a.entries.items c.write_all.new.out.items c.truncate-then-room-run_len.new.self.items c.len-at.result (omega (arith, c.len-at.ensures)) (joined parts, c.in-Ok.ensures.bytes) c.truncate-then-room-run_len.ensures.items in
    let same = ap (λ (b : List ℕ). record { items = with_bytes b (items_of a.items.items); writing = writing_of a.buf_state }) kept ∙ c.self.view_is in
    (same, inr (omega (arith, longer, count, grown, sum, c.record_len-room.ensures.len, c.record_len-room.ensures.short, c.block_checksum_len-checksum_len.ensures.len, c.len-at.ensures, c.len.ensures, c.if-room-run_len.true)))

pub invariant_of-self-2 : goal.invariant_of-self-2
invariant_of-self-2 g c =
    let a = c.self.inside in
    let parts = map g.T.Message.bytes c.args.entries.now in
    let count : length parts ≡ length c.args.entries.now = length-map c.args.entries.now g.T.Message.bytes in
    let longer = run_longer c.args.self.now.items c.args.raft_group_id c.args.first parts (list_any holds_entries c.args.self.now.items) refl in
    let grown = ap length c.in-Ok.ensures.bytes in
    let sum = length-append a.entries.items (joined parts) in
    let short : record_len (c.args.self.now.items ++ run_of c.args.raft_group_id c.args.first parts ∷ []) ≤ 33554432 = omega (arith, longer, count, grown, sum, c.record_len-room.ensures.len, c.record_len-room.ensures.short, c.block_checksum_len-checksum_len.ensures.len, c.len-at.ensures, c.len.ensures, c.if-room-run_len.false) in
    let r : RunRoom a.items.items a.entries.items a.holds_entries a.items_len c.args.raft_group_id c.args.first parts = record {
      sound = c.self.invariant.sound;
      some = omega (arith, c.requires.some);
      group_fits = omega (arith, c.ranges.raft_group_id.fits);
      indexes = omega (arith, c.requires.indexes);
      room = subst (λ (b : Batch). record_len (b.items ++ run_of c.args.raft_group_id c.args.first parts ∷ []) ≤ 33554432) (sym c.self.view_is) short;
    } in
    let item : LogItem = record { raft_group_id = c.args.raft_group_id; content = content.EntryIndexes c.in-Ok.indexes } in
    let is = indexes_are c.args.raft_group_id c.args.first (length a.entries.items) a.entries.items parts c.in-Ok.indexes.items c.in-Ok.ensures.places refl in
    record {
      sound = run_pushed a.items.items c.push.new.self.items a.entries.items c.write_all.new.out.items a.holds_entries a.items_len item c.args.raft_group_id c.args.first parts (length c.args.entries.now) r is c.in-Ok-push.ensures.items c.in-Ok.ensures.bytes (sym count);
      encoded = c.clear.ensures.items;
      checksum = tt;
    }

pub returns : goal.returns
returns g c =
    let a = c.self.inside in
    let parts = map g.T.Message.bytes c.args.entries.now in
    let count : length parts ≡ length c.args.entries.now = length-map c.args.entries.now g.T.Message.bytes in
    let longer = run_longer c.args.self.now.items c.args.raft_group_id c.args.first parts (list_any holds_entries c.args.self.now.items) refl in
    let grown = ap length c.in-Ok.ensures.bytes in
    let sum = length-append a.entries.items (joined parts) in
    let short : record_len (c.args.self.now.items ++ run_of c.args.raft_group_id c.args.first parts ∷ []) ≤ 33554432 = omega (arith, longer, count, grown, sum, c.record_len-room.ensures.len, c.record_len-room.ensures.short, c.block_checksum_len-checksum_len.ensures.len, c.len-at.ensures, c.len.ensures, c.if-room-run_len.false) in
    let item : LogItem = record { raft_group_id = c.args.raft_group_id; content = content.EntryIndexes c.in-Ok.indexes } in
    let is = indexes_are c.args.raft_group_id c.args.first (length a.entries.items) a.entries.items parts c.in-Ok.indexes.items c.in-Ok.ensures.places refl in (
      c.in-Ok.ensures.fit,
      ap (λ (l : List (Item (List ℕ))). record { items = l; writing = open_still }) (run_viewed a.items.items c.push.new.self.items a.entries.items c.write_all.new.out.items item c.args.raft_group_id c.args.first parts c.self.invariant.sound.laid is c.in-Ok-push.ensures.items c.in-Ok.ensures.bytes)
          ∙ ap (λ (b : Batch). record { items = b.items ++ run_of c.args.raft_group_id c.args.first parts ∷ []; writing = open_still }) c.self.view_is,
      short,
    )
