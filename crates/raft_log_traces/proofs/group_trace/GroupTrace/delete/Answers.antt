use Rattle.std.proofs.Common.{List, ℕ, true, cond, refl, sym, ap, ◌∙◌}
use Rattle.std.specs.Prelude.{bytes_eq}
use Rattle.raft_log_covers.specs.Marks.{is_in}
use Rattle.raft_log_traces.specs.Traces.{names_in}
use Rattle.raft_log_traces.proofs.KeyLemmas.{key_updated, name_updated, is_in_last}
use Rattle.raft_log_traces.proofs.group_trace.GroupTrace.delete.Goals as goal

pub returns-clause-ok : goal.returns-clause-ok
returns-clause-ok c =
    let old = c.args.self.now in
    record {
      low = refl;
      next = refl;
      top = refl;
      since = sym c.lesser-self.ensures;
      tail = refl;
      entry_file = λ i. refl;
      key_file = λ k. sym (key_updated c.args.key.now old.keys c.remove-self.new.self _ c.remove-self.ensures.updates k);
      cleaned = refl;
      deleted = λ k. is_in_last c.args.key.now k (names_in old.deleted)
          ∙ sym (name_updated c.in_ok-name.name.items old.deleted c.insert.new.self true c.in_ok-insert.ensures.updates k
          ∙ ap (λ (l : List ℕ). cond (bytes_eq l k) true (is_in k (names_in old.deleted))) c.in_ok-name.ensures.items);
    }
