use Rattle.std.proofs.Common.{List, ℕ, cond, Some, refl, sym, ap, ◌∙◌}
use Rattle.std.specs.Prelude.{bytes_eq}
use Rattle.raft_log_traces.specs.Traces.{key_file_in, names_in}
use Rattle.raft_log_traces.proofs.KeyLemmas.{key_updated, name_updated, is_in_without}
use Rattle.raft_log_traces.proofs.group_trace.GroupTrace.put.Goals as goal

pub returns-clause-ok : goal.returns-clause-ok
returns-clause-ok c =
    let old = c.args.self.now in
    record {
      low = refl;
      next = refl;
      top = refl;
      since = sym c.lesser-self.ensures;
      tail = refl;
      entry_file = λ i. refl;
      key_file = λ k. sym (key_updated c.in_ok-name.name.items old.keys c.insert.new.self (Some c.args.file) c.in_ok-insert.ensures.updates k
          ∙ ap (λ (l : List ℕ). cond (bytes_eq l k) (Some c.args.file) (key_file_in old.keys k)) c.in_ok-name.ensures.items);
      cleaned = refl;
      deleted = λ k. is_in_without c.args.key.now k (names_in old.deleted) ∙ sym (name_updated c.args.key.now old.deleted c.remove.new.self _ c.remove.ensures.updates k);
    }
