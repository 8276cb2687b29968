-- One more entry is counted.
use Rattle.std.proofs.Common.{◌≡◌, ◌+◌, ℕ, Option, refl, ap, subst, sym, ◌∙◌, arith}
use Rattle.std.specs.Prelude.{if◌then◌else◌}
use Rattle.raft_log_memtables.specs.MemTables.{content_in}
use Rattle.raft_log_cleaner.specs.Facts.{IsOldestOfEntries, count_passing, is_rewritten, least_up_to, lies_up_to}
use Rattle.raft_log_cleaner.proofs.Counting.{passing_most, passing_over, passing_to}
use Rattle.raft_log_cleaner.proofs.Oldest.{oldest_of_none, oldest_over, oldest_to}
use Rattle.raft_log_cleaner.proofs.facts.counts_of.Goals as goal

pub with_entry-counts-requires-clause-rewritten : goal.with_entry-counts-requires-clause-rewritten
with_entry-counts-requires-clause-rewritten c =
    omega (arith, c.entries.invariant.rewritten, passing_most is_rewritten (content_in c.args.tables.now c.args.group).entry c.entries.at, c.in-Some.ensures.within.0, c.in-Some.ensures.within.1)

pub with_entry-counts-requires-clause-up_to_mark : goal.with_entry-counts-requires-clause-up_to_mark
with_entry-counts-requires-clause-up_to_mark c =
    omega (arith, c.entries.invariant.up_to_mark, passing_most (lies_up_to c.args.mark) (content_in c.args.tables.now c.args.group).entry c.entries.at, c.in-Some.ensures.within.0, c.in-Some.ensures.within.1)

pub entries-init : goal.entries-init
entries-init c = record {
  within = omega arith;
  rewritten = refl;
  up_to_mark = refl;
  oldest = oldest_of_none (content_in c.args.tables.now c.args.group).entry c.args.mark;
}

pub entries-preserved : goal.entries-preserved
entries-preserved c =
    let entry = (content_in c.args.tables.now c.args.group).entry in
    let more = c.in-Some.ensures in
    record {
      within = omega (arith, more.within.1);
      rewritten =
          c.with_entry-counts.ensures.rewritten
          ∙ ap (λ (n : ℕ). n + (if is_rewritten c.file_of.result then 1 else 0)) c.entries.invariant.rewritten
          ∙ ap (λ (o : Option ℕ). count_passing is_rewritten entry c.entries.at + (if is_rewritten o then 1 else 0)) c.file_of.ensures
          ∙ sym (passing_to is_rewritten entry c.entries.at c.in-Some.next.0 c.in-Some.next.1 more.within.0 more.first more.is);
      oldest =
          subst (λ (o : Option ℕ). IsOldestOfEntries entry c.args.mark (c.in-Some.next.0 + 1) o) (sym (c.with_entry-counts.ensures.oldest ∙ ap (λ (o : Option ℕ). least_up_to c.args.mark c.entries.counts.oldest o) c.file_of.ensures))
          (oldest_to entry c.args.mark c.entries.at c.in-Some.next.0 c.in-Some.next.1 c.entries.counts.oldest more.within.0 more.first more.is c.entries.invariant.oldest);
      up_to_mark =
          c.with_entry-counts.ensures.up_to_mark
          ∙ ap (λ (n : ℕ). n + (if lies_up_to c.args.mark c.file_of.result then 1 else 0)) c.entries.invariant.up_to_mark
          ∙ ap (λ (o : Option ℕ). count_passing (lies_up_to c.args.mark) entry c.entries.at + (if lies_up_to c.args.mark o then 1 else 0)) c.file_of.ensures
          ∙ sym (passing_to (lies_up_to c.args.mark) entry c.entries.at c.in-Some.next.0 c.in-Some.next.1 more.within.0 more.first more.is);
    }

pub returns-clause-rewritten : goal.returns-clause-rewritten
returns-clause-rewritten c =
    c.entries.invariant.rewritten ∙ sym (passing_over is_rewritten (content_in c.args.tables.now c.args.group).entry c.entries.at c.args.limit c.entries.invariant.within c.in_default.ensures.none)

pub returns-clause-up_to_mark : goal.returns-clause-up_to_mark
returns-clause-up_to_mark c =
    c.entries.invariant.up_to_mark ∙ sym (passing_over (lies_up_to c.args.mark) (content_in c.args.tables.now c.args.group).entry c.entries.at c.args.limit c.entries.invariant.within c.in_default.ensures.none)

pub returns-clause-oldest : goal.returns-clause-oldest
returns-clause-oldest c =
    oldest_over (content_in c.args.tables.now c.args.group).entry c.args.mark c.entries.at c.args.limit c.entries.counts.oldest c.in_default.ensures.none c.entries.invariant.oldest
