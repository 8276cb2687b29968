use Rattle.std.proofs.Common.{◌≡◌, [], Option, Ok, refl, sym, subst, ◌∙◌, arith}
use Rattle.std.proofs.lemmas.List.{nil_from_length}
use Rattle.std.proofs.lemmas.Result.{err_from_is_err_and}
use Rattle.raft_log_records.specs.declared.item.LogItem.{LogItem}
use Rattle.raft_log_items.specs.Items.{IsRead, NextOfFile, current, nothing}
use Rattle.raft_log_items.proofs.ItemLemmas.{ends, fails, gives, gone_on, gone_wrong, left_nothing, nothing_left, passes_none}
use Rattle.raft_log_items.proofs.reader.LogItemReader.next.Goals as goal

pub files-init : goal.files-init
files-init g c = record { reader = c.requires; passes = passes_none _; disk = refl; quiet = refl }

pub returns-in-Ok-Some-clause-next : goal.returns-in-Ok-Some-clause-next
returns-in-Ok-Some-clause-next g c =
    gives c.args.self.now c.files.self c.next_in_file.new.self (g.F.FileSystem.disk c.files.files) (g.F.FileSystem.meter c.args.files.now) (g.F.FileSystem.meter c.files.files) c.in-Ok-Some.item
    c.files.invariant.passes
    (subst (λ (o : Option LogItem). NextOfFile (Ok o) (g.F.FileSystem.disk c.files.files) (g.F.FileSystem.meter c.files.files) (current c.files.self (g.F.FileSystem.disk c.files.files)) (current c.next_in_file.new.self (g.F.FileSystem.disk c.files.files))) c.in-Ok-Some.field-0-is c.in-Ok-Some.ensures.next) (λ i. (c.next_in_file.ensures.files i).items)

pub returns-in-Err-clause-next : goal.returns-in-Err-clause-next
returns-in-Err-clause-next g c =
    fails c.args.self.now c.files.self c.leave-in-Err.new.self (g.F.FileSystem.disk c.files.files) (g.F.FileSystem.meter c.args.files.now) (g.F.FileSystem.meter c.files.files) c.in-Err.error
    c.files.invariant.passes c.in-Err.ensures.next (λ i. ((c.leave-in-Err.ensures.files ∙ c.next_in_file.ensures.files) i).items) (left_nothing c.leave-in-Err.new.self (g.F.FileSystem.disk c.files.files) c.leave-in-Err.ensures.file c.leave-in-Err.ensures.items)

pub files-preserved : goal.files-preserved
files-preserved g c =
    let e = g.F.FileSystem.disk c.open.new.files in
    let d = g.F.FileSystem.disk c.files.files in
    let read : IsRead (current c.files.self d) = subst (λ (o : Option LogItem). NextOfFile (Ok o) d (g.F.FileSystem.meter c.files.files) (current c.files.self d) (current c.next_in_file.new.self d)) c.in-Ok-None.field-0-is c.in-Ok-None.ensures.next in
    let files : c.leave.new.self.files.items ≡ c.files.self.files.items = λ i. ((c.leave.ensures.files ∙ c.next_in_file.ensures.files) i).items in
    record {
      reader = c.in_ok-open-in-Ok-None.ensures.reading;
      passes = gone_on c.args.self.now c.files.self c.open.new.self (g.F.FileSystem.disk c.files.files) e c.in-Some.file c.pop_front.new.self.items c.open.ensures.disk c.files.invariant.passes read
          (sym files ∙ c.in-Some.ensures.items) (λ i. (c.open.ensures.files i).items) c.in_ok-open-in-Ok-None.ensures.ok;
      disk = c.open.ensures.disk ∙ c.files.invariant.disk;
      quiet = c.in_ok-open-in-Ok-None.ensures.quiet ∙ c.files.invariant.quiet;
    }

pub returns-in_default-clause-next : goal.returns-in_default-clause-next
returns-in_default-clause-next g c =
    let d = g.F.FileSystem.disk c.files.files in
    let m = g.F.FileSystem.meter c.files.files in
    let read : IsRead (current c.files.self d) = subst (λ (o : Option LogItem). NextOfFile (Ok o) d m (current c.files.self d) (current c.next_in_file.new.self d)) c.in-Ok-None.field-0-is c.in-Ok-None.ensures.next in
    let files : c.leave.new.self.files.items ≡ c.files.self.files.items = λ i. ((c.leave.ensures.files ∙ c.next_in_file.ensures.files) i).items in
    let none : c.leave.new.self.files.items ≡ [] = nil_from_length c.leave.new.self.files.items (omega (arith, c.leave.new.self.files.ok.0, c.in_default.ensures.cases.0)) in
    ends c.args.self.now c.files.self (record { files = c.pop_front.new.self; batches = c.leave.new.self.batches; items = c.leave.new.self.items }) d (g.F.FileSystem.meter c.args.files.now) m c.files.invariant.passes read (sym files ∙ none)
    (sym c.in_default.ensures.items ∙ none) (nothing_left c.leave.new.self.batches d c.leave.new.self.items.items c.leave.ensures.file c.leave.ensures.items)

pub returns-in_err-open-in-Ok-None-clause-next : goal.returns-in_err-open-in-Ok-None-clause-next
returns-in_err-open-in-Ok-None-clause-next g c =
    let d = g.F.FileSystem.disk c.files.files in
    let e = g.F.FileSystem.disk c.open.new.files in
    let m = g.F.FileSystem.meter c.files.files in
    let x = c.in_err-open-in-Ok-None.field-0.0 in
    let read : IsRead (current c.files.self d) = subst (λ (o : Option LogItem). NextOfFile (Ok o) d m (current c.files.self d) (current c.next_in_file.new.self d)) c.in-Ok-None.field-0-is c.in-Ok-None.ensures.next in
    let files : c.leave.new.self.files.items ≡ c.files.self.files.items = λ i. ((c.leave.ensures.files ∙ c.next_in_file.ensures.files) i).items in
    let kept : current c.open.new.self e ≡ nothing = (λ i. current (c.in_err-open-in-Ok-None.ensures.kept i) e) ∙ nothing_left c.leave.new.self.batches e c.leave.new.self.items.items c.leave.ensures.file c.leave.ensures.items in
    let p = err_from_is_err_and c.from_residual.result c.from_residual.ensures.1 in
    rw (p.1, p.2) (gone_wrong c.args.self.now c.files.self c.open.new.self d e (g.F.FileSystem.meter c.args.files.now) m (g.F.FileSystem.meter c.open.new.files) c.in-Some.file c.pop_front.new.self.items x c.open.ensures.disk c.files.invariant.passes read
    (sym files ∙ c.in-Some.ensures.items) (λ i. (c.open.ensures.files i).items) kept c.files.invariant.quiet c.in_err-open-in-Ok-None.ensures.err)
