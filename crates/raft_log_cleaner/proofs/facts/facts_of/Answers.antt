-- Entries behind those that are counted pass no test.
use Rattle.std.proofs.Common.{◌≡◌, ◌+◌, ◌<◌, ◌≤◌, ℕ, List, None, refl, sym, ap, subst, ◌∙◌, arith}
use Rattle.raft_log_covers.specs.Trace.{Trace}
use Rattle.raft_log_memtables.specs.MemTables.{content_in}
use Rattle.raft_log_traces.specs.Before.{StandsFrom}
use Rattle.raft_log_traces.specs.GroupTraces.{traces_in}
use Rattle.raft_log_cleaner.specs.Facts.{IsOldest, IsOldestOfKeys, lies_up_to, passes}
use Rattle.raft_log_cleaner.proofs.Oldest.{oldest_of_all, oldest_of_nothing}
use Rattle.raft_log_cleaner.proofs.Telling.{none_at_all, none_passes, so_many_rewritten, so_many_up_to}
use Rattle.raft_log_cleaner.proofs.facts.facts_of.Goals as goal

pub returns-in_default : goal.returns-in_default
returns-in_default c =
    let g = content_in c.args.log.now.tables c.args.group in
    let none = λ (i : ℕ). c.requires.entries.past c.args.group i (subst (λ (t : Trace). t.next ≤ i) (sym c.in_default.ensures) (omega arith)) in
    record {
      least = oldest_of_nothing g (traces_in c.args.log.now.traces c.args.group) c.args.mark none (λ k. ap (λ (t : Trace). t.key_file k) c.in_default.ensures);
      rewritten = none_at_all _ g.entry none;
      up_to_mark = none_at_all _ g.entry none;
      reports = refl;
    }

pub returns : goal.returns
returns c =
    let group = c.args.group in
    let mark = c.args.mark in
    let g = content_in c.args.log.now.tables group in
    let t = traces_in c.args.log.now.traces group in
    let limit = c.as_index-limit.result in
    let same = c.in-Some.ensures in
    let behind = subst (λ (u : Trace). (i : ℕ) → c.end_before.result ≤ i → i < u.next → StandsFrom (c.args.mark + 1) (u.entry_file i)) (sym same) c.end_before.ensures in
    let placed = c.requires.entries.placed group in
    let past = c.requires.entries.past group in
    let keys = subst (λ (u : Trace). IsOldestOfKeys u mark c.in_ok-of_keys.of_keys) (sym same) c.in_ok-of_keys.ensures in
    record {
      least =
          subst (IsOldest g t mark) (sym c.older.ensures)
          (oldest_of_all g t mark limit c.counts_of-counts.result.oldest c.in_ok-of_keys.of_keys c.counts_of-counts.ensures.oldest keys
          (λ i e from below is. ap (passes (lies_up_to mark)) (sym is) ∙ (none_passes t g.entry mark c.end_before.result limit placed past behind c.as_index-limit.ensures.same i from below).1));
      rewritten = so_many_rewritten t g.entry mark c.end_before.result limit placed past behind c.as_index-limit.ensures.same _ c.counts_of-counts.ensures.rewritten;
      up_to_mark = so_many_up_to t g.entry mark c.end_before.result limit placed past behind c.as_index-limit.ensures.same _ c.counts_of-counts.ensures.up_to_mark;
      reports = refl;
    }
