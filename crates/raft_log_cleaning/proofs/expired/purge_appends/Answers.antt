-- Groups that are told are named with the others.
use Rattle.std.proofs.Common.{ℕ, List, sym, ap, subst, ◌∙◌}
use Rattle.std.specs.Prelude.{◌||◌}
use Rattle.std.specs.List.Sorted.{IsStrictlySortedBy}
use Rattle.std.specs.BTreeMap.{keys}
use Rattle.std.specs.Ordering.{nat_cmp}
use Rattle.raft_log_cleaner.proofs.Calls.{cleans_refused}
use Rattle.raft_log_cleaner.proofs.Going.{when_err}
use Rattle.raft_log_cleaner.specs.Told.{is_among}
use Rattle.raft_log_cleaning.specs.Told.{is_named}
use Rattle.raft_log_cleaning.proofs.Behind.{cleans_behind, either_there, named_so, stands_behind}
use Rattle.raft_log_cleaning.proofs.expired.purge_appends.Goals as goal

pub returns-in_err-told-clause-cleans : goal.returns-in_err-told-clause-cleans
returns-in_err-told-clause-cleans g c = cleans_refused _ c.from_residual.result c.in_err-told.field-0.0 c.from_residual.ensures.1 c.in_err-told.ensures.cleans

pub returns-in_err-told-clause-stands : goal.returns-in_err-told-clause-stands
returns-in_err-told-clause-stands g c = when_err c.from_residual.result c.in_err-told.ensures.stands

pub returns-in_err-name_all-clause-cleans : goal.returns-in_err-name_all-clause-cleans
returns-in_err-name_all-clause-cleans g c =
    cleans_behind (g.F.FileSystem.disk c.args.files.now) (g.F.FileSystem.disk c.purge_expired_files.new.files) c.args.pipes.now c.purge_expired_files.new.pipes c.args.log.now c.purge_expired_files.new.log
    c.in_ok-told.ensures.cleans.ok c.in_ok-told.ensures.both _ c.from_residual-in_err-name_all.result c.from_residual-in_err-name_all.ensures.1

pub returns-in_err-name_all-clause-stands : goal.returns-in_err-name_all-clause-stands
returns-in_err-name_all-clause-stands g c =
    when_err c.from_residual-in_err-name_all.result
    (stands_behind (g.F.FileSystem.disk c.args.files.now) (g.F.FileSystem.disk c.purge_expired_files.new.files) c.args.pipes.now c.purge_expired_files.new.pipes c.args.log.now c.purge_expired_files.new.log
    c.in_ok-told.ensures.cleans.ok c.in_ok-told.ensures.both)

pub returns-in_err-groups-clause-cleans : goal.returns-in_err-groups-clause-cleans
returns-in_err-groups-clause-cleans g c =
    cleans_behind (g.F.FileSystem.disk c.args.files.now) (g.F.FileSystem.disk c.purge_expired_files.new.files) c.args.pipes.now c.purge_expired_files.new.pipes c.args.log.now c.purge_expired_files.new.log
    c.in_ok-told.ensures.cleans.ok c.in_ok-told.ensures.both _ c.from_residual-in_err-groups.result c.from_residual-in_err-groups.ensures.1

pub returns-in_err-groups-clause-stands : goal.returns-in_err-groups-clause-stands
returns-in_err-groups-clause-stands g c =
    when_err c.from_residual-in_err-groups.result
    (stands_behind (g.F.FileSystem.disk c.args.files.now) (g.F.FileSystem.disk c.purge_expired_files.new.files) c.args.pipes.now c.purge_expired_files.new.pipes c.args.log.now c.purge_expired_files.new.log
    c.in_ok-told.ensures.cleans.ok c.in_ok-told.ensures.both)

pub returns-clause-rising : goal.returns-clause-rising
returns-clause-rising g c = subst (IsStrictlySortedBy nat_cmp) (sym c.in_ok-groups.ensures.groups) c.in_ok-groups.ensures.rising

pub returns-clause-there : goal.returns-clause-there
returns-clause-there g c = λ had group among.
    either_there c.args.log.now (is_named c.args.many group) (is_among c.in_ok-told.told.items group) (is_among c.in_ok-groups.groups.items group) _
    (named_so c.in_ok-groups.groups.items c.in_ok-told.told.items (keys c.name_all.new.named) (is_named c.args.many) (is_named c.name_all.new.named) c.in_ok-groups.ensures.groups c.in_ok-groups.ensures.exactly
    (λ other. c.in_ok-name_all.ensures other ∙ ap (λ (l : List ℕ). is_named c.args.many other || is_among l other) c.deref.ensures.value) group)
    (had group) (c.in_ok-told.ensures.there group) among

pub returns-clause-told : goal.returns-clause-told
returns-clause-told g c = record {
  more = c.in_ok-told.told.items;
  are_more = c.in_ok-told.ensures.told;
  both = named_so c.in_ok-groups.groups.items c.in_ok-told.told.items (keys c.name_all.new.named) (is_named c.args.many) (is_named c.name_all.new.named) c.in_ok-groups.ensures.groups c.in_ok-groups.ensures.exactly
      (λ other. c.in_ok-name_all.ensures other ∙ ap (λ (l : List ℕ). is_named c.args.many other || is_among l other) c.deref.ensures.value);
}
