use Rattle.std.proofs.Common.{◌≡◌, ◌≤◌, ◌+◌, List, ◌∷◌, ◌++◌, [], refl, sym, ap, subst, ◌∙◌, arith}
use Rattle.std.proofs.lemmas.Result.{err_from_is_err_and}
use Rattle.raft_log_records.specs.declared.item.LogItem.{LogItem}
use Rattle.raft_log_records.specs.Item.{item_of, items_of, item_map, entry_bytes, with_bytes}
use Rattle.raft_log_records.specs.Spelling.{record_len}
use Rattle.raft_log_records.specs.Batch.{Batch, IsSound}
use Rattle.raft_log_records.specs.Batch.Writing.{open_still}
use Rattle.raft_log_records.specs.BatchView.{writing_of}
use Rattle.raft_log_records.proofs.Sound.{sound_push, view_push, record_len_push}
use Rattle.raft_log_records.proofs.batch.LogBatch.push.Goals as goal

pub returns-then-record_len-item_len : goal.returns-then-record_len-item_len
returns-then-record_len-item_len c =
    let longer = record_len_push c.args.self.now.items (item_of c.args.item) c.requires.plain in
    (refl, omega (arith, longer, c.record_len.ensures.len, c.requires.len, c.if-record_len-item_len.true))

pub returns-in_err-push : goal.returns-in_err-push
returns-in_err-push c =
    let p = err_from_is_err_and c.from_residual.result c.from_residual.ensures.1 in
    let longer = record_len_push c.args.self.now.items (item_of c.args.item) c.requires.plain in
    let a = c.self.inside in
    rw (p.1, p.2) (
      ap (λ (l : List LogItem). record { items = with_bytes a.entries.items (items_of l); writing = writing_of a.buf_state }) c.in_err-push.ensures.items ∙ c.self.view_is,
      omega (arith, longer, c.record_len.ensures.len, c.record_len.ensures.short, c.requires.len, c.if-record_len-item_len.false),
    )

pub invariant_of-self-2 : goal.invariant_of-self-2
invariant_of-self-2 c =
    let a = c.self.inside in
    let before : record_len (with_bytes a.entries.items (items_of a.items.items)) ≡ c.record_len.result = ap (λ (b : Batch). record_len b.items) c.self.view_is ∙ sym c.record_len.ensures.len in
    let room : record_len (with_bytes a.entries.items (items_of a.items.items)) + c.args.item_len ≤ 33554432 = omega (arith, before, c.record_len.ensures.short, c.if-record_len-item_len.false) in
    record {
      sound = subst (λ (l : List LogItem). IsSound l a.entries.items a.holds_entries (a.items_len + c.args.item_len)) (sym c.in_ok-push.ensures.items)
          (sound_push a.items.items a.entries.items a.holds_entries a.items_len c.args.item c.args.item_len c.self.invariant.sound c.requires.plain c.requires.is_item c.requires.fits c.requires.len room);
      encoded = c.clear.ensures.items;
      checksum = tt;
    }

pub returns : goal.returns
returns c =
    let a = c.self.inside in
    let longer = record_len_push c.args.self.now.items (item_of c.args.item) c.requires.plain in
    let added = item_map (entry_bytes []) (item_of c.args.item) in (
      ap (λ (l : List LogItem). record { items = with_bytes a.entries.items (items_of l); writing = open_still }) c.in_ok-push.ensures.items
          ∙ ap (λ l. record { items = l; writing = open_still }) (view_push a.items.items a.entries.items c.args.item c.requires.plain)
          ∙ ap (λ (b : Batch). record { items = b.items ++ added ∷ []; writing = open_still }) c.self.view_is,
      omega (arith, longer, c.record_len.ensures.len, c.record_len.ensures.short, c.requires.len, c.if-record_len-item_len.false),
    )
