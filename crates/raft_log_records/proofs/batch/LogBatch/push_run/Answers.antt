use Rattle.std.proofs.Common.{◌≡◌, ◌≤◌, ◌++◌, ◌∷◌, [], ℕ, List, length, sym, ap, subst, ◌∙◌, arith}
use Rattle.std.proofs.lemmas.List.{length-map}
use Rattle.raft_log_records.specs.declared.item.LogItem.{LogItem}
use Rattle.raft_log_records.specs.declared.item.LogItemContent.TheVariants as content
use Rattle.raft_log_records.specs.Item.{Item}
use Rattle.raft_log_records.specs.Spelling.{record_len}
use Rattle.raft_log_records.specs.Batch.{Batch, payloads, run_of}
use Rattle.raft_log_records.specs.Batch.Writing.{open_still}
use Rattle.raft_log_records.proofs.Runs.{RunRoom, room_is, run_pushed, run_viewed, indexes_are}
use Rattle.raft_log_records.proofs.batch.LogBatch.push_run.Goals as goal

pub index_entries-requires-clause-room : goal.index_entries-requires-clause-room
index_entries-requires-clause-room c =
    let a = c.self.inside in
    let parts = payloads c.args.entries.now in
    let count : length parts ≡ length c.args.entries.now = length-map c.args.entries.now (λ v. v.items) in
    let r : RunRoom a.items.items a.entries.items a.holds_entries a.items_len c.args.raft_group_id c.args.first parts = record {
      sound = c.self.invariant.sound;
      some = omega (arith, c.requires.some);
      group_fits = omega (arith, c.ranges.raft_group_id.fits);
      indexes = omega (arith, c.requires.indexes);
      room = subst (λ (b : Batch). record_len (b.items ++ run_of c.args.raft_group_id c.args.first parts ∷ []) ≤ 33554432) (sym c.self.view_is) c.requires.room;
    } in
    let short = room_is a.items.items a.entries.items a.holds_entries a.items_len c.args.raft_group_id c.args.first parts r in
    omega (arith, short, c.len-at.ensures)

pub overflow_cast-self : goal.overflow_cast-self
overflow_cast-self c =
    let a = c.self.inside in
    let parts = payloads c.args.entries.now in
    let count : length parts ≡ length c.args.entries.now = length-map c.args.entries.now (λ v. v.items) in
    let r : RunRoom a.items.items a.entries.items a.holds_entries a.items_len c.args.raft_group_id c.args.first parts = record {
      sound = c.self.invariant.sound;
      some = omega (arith, c.requires.some);
      group_fits = omega (arith, c.ranges.raft_group_id.fits);
      indexes = omega (arith, c.requires.indexes);
      room = subst (λ (b : Batch). record_len (b.items ++ run_of c.args.raft_group_id c.args.first parts ∷ []) ≤ 33554432) (sym c.self.view_is) c.requires.room;
    } in
    let short = room_is a.items.items a.entries.items a.holds_entries a.items_len c.args.raft_group_id c.args.first parts r in
    omega (arith, short)

pub overflow_mul-self : goal.overflow_mul-self
overflow_mul-self c =
    let a = c.self.inside in
    let parts = payloads c.args.entries.now in
    let count : length parts ≡ length c.args.entries.now = length-map c.args.entries.now (λ v. v.items) in
    let r : RunRoom a.items.items a.entries.items a.holds_entries a.items_len c.args.raft_group_id c.args.first parts = record {
      sound = c.self.invariant.sound;
      some = omega (arith, c.requires.some);
      group_fits = omega (arith, c.ranges.raft_group_id.fits);
      indexes = omega (arith, c.requires.indexes);
      room = subst (λ (b : Batch). record_len (b.items ++ run_of c.args.raft_group_id c.args.first parts ∷ []) ≤ 33554432) (sym c.self.view_is) c.requires.room;
    } in
    let short = room_is a.items.items a.entries.items a.holds_entries a.items_len c.args.raft_group_id c.args.first parts r in
    omega (arith, short)

pub overflow_add-self : goal.overflow_add-self
overflow_add-self c =
    let a = c.self.inside in
    let parts = payloads c.args.entries.now in
    let count : length parts ≡ length c.args.entries.now = length-map c.args.entries.now (λ v. v.items) in
    let r : RunRoom a.items.items a.entries.items a.holds_entries a.items_len c.args.raft_group_id c.args.first parts = record {
      sound = c.self.invariant.sound;
      some = omega (arith, c.requires.some);
      group_fits = omega (arith, c.ranges.raft_group_id.fits);
      indexes = omega (arith, c.requires.indexes);
      room = subst (λ (b : Batch). record_len (b.items ++ run_of c.args.raft_group_id c.args.first parts ∷ []) ≤ 33554432) (sym c.self.view_is) c.requires.room;
    } in
    let short = room_is a.items.items a.entries.items a.holds_entries a.items_len c.args.raft_group_id c.args.first parts r in
    omega (arith, short)

pub overflow_add-self-2 : goal.overflow_add-self-2
overflow_add-self-2 c =
    let a = c.self.inside in
    let parts = payloads c.args.entries.now in
    let count : length parts ≡ length c.args.entries.now = length-map c.args.entries.now (λ v. v.items) in
    let r : RunRoom a.items.items a.entries.items a.holds_entries a.items_len c.args.raft_group_id c.args.first parts = record {
      sound = c.self.invariant.sound;
      some = omega (arith, c.requires.some);
      group_fits = omega (arith, c.ranges.raft_group_id.fits);
      indexes = omega (arith, c.requires.indexes);
      room = subst (λ (b : Batch). record_len (b.items ++ run_of c.args.raft_group_id c.args.first parts ∷ []) ≤ 33554432) (sym c.self.view_is) c.requires.room;
    } in
    let short = room_is a.items.items a.entries.items a.holds_entries a.items_len c.args.raft_group_id c.args.first parts r in
    omega (arith, short)

pub invariant_of-self-2 : goal.invariant_of-self-2
invariant_of-self-2 c =
    let a = c.self.inside in
    let parts = payloads c.args.entries.now in
    let count : length parts ≡ length c.args.entries.now = length-map c.args.entries.now (λ v. v.items) in
    let r : RunRoom a.items.items a.entries.items a.holds_entries a.items_len c.args.raft_group_id c.args.first parts = record {
      sound = c.self.invariant.sound;
      some = omega (arith, c.requires.some);
      group_fits = omega (arith, c.ranges.raft_group_id.fits);
      indexes = omega (arith, c.requires.indexes);
      room = subst (λ (b : Batch). record_len (b.items ++ run_of c.args.raft_group_id c.args.first parts ∷ []) ≤ 33554432) (sym c.self.view_is) c.requires.room;
    } in
    let short = room_is a.items.items a.entries.items a.holds_entries a.items_len c.args.raft_group_id c.args.first parts r in
    let item : LogItem = record { raft_group_id = c.args.raft_group_id; content = content.EntryIndexes c.in_ok-indexes.indexes } in
    let at : c.len-at.result ≡ length a.entries.items = omega (arith, c.len-at.ensures) in
    let is = indexes_are c.args.raft_group_id c.args.first c.len-at.result a.entries.items parts c.in_ok-indexes.indexes.items c.in_ok-indexes.ensures at in
    record {
      sound = run_pushed a.items.items c.push.new.self.items a.entries.items c.append_all.new.out.items a.holds_entries a.items_len item c.args.raft_group_id c.args.first parts (length c.args.entries.now) r is c.in-Ok.ensures.items c.in_ok-append_all.ensures.ok (sym count);
      encoded = c.clear.ensures.items;
      checksum = tt;
    }

pub returns : goal.returns
returns c =
    let a = c.self.inside in
    let parts = payloads c.args.entries.now in
    let count : length parts ≡ length c.args.entries.now = length-map c.args.entries.now (λ v. v.items) in
    let r : RunRoom a.items.items a.entries.items a.holds_entries a.items_len c.args.raft_group_id c.args.first parts = record {
      sound = c.self.invariant.sound;
      some = omega (arith, c.requires.some);
      group_fits = omega (arith, c.ranges.raft_group_id.fits);
      indexes = omega (arith, c.requires.indexes);
      room = subst (λ (b : Batch). record_len (b.items ++ run_of c.args.raft_group_id c.args.first parts ∷ []) ≤ 33554432) (sym c.self.view_is) c.requires.room;
    } in
    let short = room_is a.items.items a.entries.items a.holds_entries a.items_len c.args.raft_group_id c.args.first parts r in
    let item : LogItem = record { raft_group_id = c.args.raft_group_id; content = content.EntryIndexes c.in_ok-indexes.indexes } in
    let at : c.len-at.result ≡ length a.entries.items = omega (arith, c.len-at.ensures) in
    let is = indexes_are c.args.raft_group_id c.args.first c.len-at.result a.entries.items parts c.in_ok-indexes.indexes.items c.in_ok-indexes.ensures at in (
      ap (λ (l : List (Item (List ℕ))). record { items = l; writing = open_still }) (run_viewed a.items.items c.push.new.self.items a.entries.items c.append_all.new.out.items item c.args.raft_group_id c.args.first parts c.self.invariant.sound.laid is c.in-Ok.ensures.items c.in_ok-append_all.ensures.ok)
          ∙ ap (λ (b : Batch). record { items = b.items ++ run_of c.args.raft_group_id c.args.first parts ∷ []; writing = open_still }) c.self.view_is,
      c.requires.room,
    )
