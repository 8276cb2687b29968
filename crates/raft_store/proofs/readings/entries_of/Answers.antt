-- One more entry is read.
use Rattle.std.proofs.Common.{◌≡◌, ℕ, List, ◌++◌, [], ◌∷◌, take, add-one, ap, sym, ◌∙◌}
use Rattle.raft_group_step.specs.Values.{Entry}
use Rattle.raft_store.proofs.Found.{entry_is_at, refused_for_memory}
use Rattle.raft_store.proofs.Spelled.{read_more}
use Rattle.raft_store.proofs.readings.entries_of.Goals as goal

pub loop-bytes-preserved : goal.loop-bytes-preserved
loop-bytes-preserved c = record {
  found = read_more c.args.all.now c.loop-bytes.bytes-index c.bytes-item.result c.loop-bytes.entries.items c.push.new.self.items c.in_ok-read_entry.field-0 c.loop-bytes-test.true c.bytes-item.is
      c.loop-bytes.invariant.found c.in_ok-push.ensures.items (sym c.deref.ensures.value ∙ c.in_ok-read_entry.ensures.found.1);
  read = λ entries fits same.
      let at = entry_is_at c.args.all.now entries c.loop-bytes.bytes-index c.bytes-item.result fits same c.loop-bytes-test.true c.bytes-item.is in
      let read = c.in_ok-read_entry.ensures.only at.entry at.fits (c.deref.ensures.value ∙ at.bytes) in
      let same_entry : at.entry ≡ c.in_ok-read_entry.field-0 = cc in
      c.in_ok-push.ensures.items
      ∙ ap (λ (sofar : List Entry). sofar ++ c.in_ok-read_entry.field-0 ∷ []) (c.loop-bytes.invariant.read entries fits same)
      ∙ ap (λ (e : Entry). take c.loop-bytes.bytes-index entries ++ e ∷ []) (sym same_entry)
      ∙ sym at.next
      ∙ ap (λ (n : ℕ). take n entries) (sym (add-one c.loop-bytes.bytes-index));
}

pub returns-in_err-read_entry-clause-read : goal.returns-in_err-read_entry-clause-read
returns-in_err-read_entry-clause-read c = λ entries fits same.
    let at = entry_is_at c.args.all.now entries c.loop-bytes.bytes-index c.bytes-item.result fits same c.loop-bytes-test.true c.bytes-item.is in
    refused_for_memory c.from_residual-in_err-read_entry.result (λ found. found.items ≡ entries) c.in_err-read_entry.field-0.0 at.entry c.from_residual-in_err-read_entry.ensures.1
    (c.in_err-read_entry.ensures.only at.entry at.fits (c.deref.ensures.value ∙ at.bytes))
