use Rattle.std.proofs.Common.{◌≡◌, true, false, max, sym, ◌∙◌, arith}
use Rattle.std.specs.List.{list_any}
use Rattle.raft_log_records.specs.declared.item.EntryIndex.{EntryIndex}
use Rattle.raft_log_memtables.specs.Taken.{within}
use Rattle.raft_log_memtables.proofs.Taking.{run_found, run_missing, run_before}
use Rattle.raft_log_memtables.proofs.taken.search_run.Goals as goal

pub returns-then-any_within : goal.returns-then-any_within
returns-then-any_within c =
    let h : list_any (λ (e : EntryIndex). within (max c.args.first c.first_index_of-start.result) c.args.last e.index) c.args.run.now ≡ true = rw (← c.max.ensures) (sym c.any_within.ensures ∙ c.if-any_within.true) in
    λ g. run_found c.args.run.now c.first_index_of-start.result c.args.first c.args.last g.entry c.first_index_of-start.ensures h

pub returns-then-start-eq0 : goal.returns-then-start-eq0
returns-then-start-eq0 c =
    let h : list_any (λ (e : EntryIndex). within (max c.args.first c.first_index_of-start.result) c.args.last e.index) c.args.run.now ≡ false = rw (← c.max.ensures) (sym c.any_within.ensures ∙ c.if-any_within.false) in
    λ g. run_missing c.args.run.now c.first_index_of-start.result c.args.first c.args.last g.entry c.first_index_of-start.ensures h (omega arith)

pub returns : goal.returns
returns c =
    let h : list_any (λ (e : EntryIndex). within (max c.args.first c.first_index_of-start.result) c.args.last e.index) c.args.run.now ≡ false = rw (← c.max.ensures) (sym c.any_within.ensures ∙ c.if-any_within.false) in
    λ g. run_before c.args.run.now c.first_index_of-start.result c.args.first c.args.last c.last_below.result g.entry c.first_index_of-start.ensures h (omega arith) (c.last_below.ensures.bounded, c.last_below.ensures.open)
