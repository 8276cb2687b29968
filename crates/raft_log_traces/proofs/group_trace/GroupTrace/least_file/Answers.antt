use Rattle.std.proofs.Common.{◌≡◌, ◌≤◌, ℕ, List, Option, sym, subst, ◌∙◌, ap}
use Rattle.std.specs.Prelude.{IfSome}
use Rattle.std.specs.BTreeMap.{values}
use Rattle.raft_log_covers.specs.Account.{IsFrom}
use Rattle.raft_log_covers.specs.Trace.{greater, least}
use Rattle.raft_log_traces.specs.declared.runs.Run.{Run}
use Rattle.raft_log_traces.specs.Runs.{file_in}
use Rattle.raft_log_traces.specs.Files.{least_with}
use Rattle.raft_log_traces.specs.Traces.{trace_in}
use Rattle.raft_log_traces.proofs.FileLemmas.{IsReached, KeepsRuns, kept_from, least_from, reached_from}
use Rattle.raft_log_traces.proofs.group_trace.GroupTrace.least_file.Goals as goal

pub returns : goal.returns
unfolding trace_in
returns c =
    let self = c.args.self.now in
    let entries = c.least_of_entries-entries.result in
    let first : c.later-first.result ≡ greater self.floor self.low = c.later-first.ensures in
    let kept : (n : ℕ) → IsFrom n entries → KeepsRuns n (greater self.floor self.low) self.next self.runs.items = λ n h i l m.
    subst (λ (rs : List Run). IsFrom n (file_in rs i)) c.deref.ensures.value (c.least_of_entries-entries.ensures.kept n h i (subst (λ (k : ℕ). k ≤ i) (sym first) l) m) in
    let reached : IfSome entries (IsReached (greater self.floor self.low) self.next self.runs.items) =
    subst (λ (rs : List Run). IfSome entries (IsReached (greater self.floor self.low) self.next rs)) c.deref.ensures.value
    (subst (λ (k : ℕ). IfSome entries (IsReached k self.next c.deref.result.now)) first c.least_of_entries-entries.ensures.reached) in
    let removed : c.lesser.result ≡ least (least self.since self.tail) entries = c.lesser.ensures ∙ ap (λ (o : Option ℕ). least o entries) c.lesser-removed.ensures in
    record {
      kept = kept_from self entries c.least_with_keys.result kept (c.least_with_keys.ensures.is ∙ ap (λ (o : Option ℕ). least_with o (values self.keys)) removed);
      least = λ n h. c.least_with_keys.ensures.least n
          (subst (λ (o : Option ℕ). IsFrom n o) (sym removed) (least_from n (least self.since self.tail) entries (least_from n self.since self.tail h.since h.tail) (reached_from n self entries reached h))) h.keys;
    }
