-- The remembered bytes at a log's places are its entries.
use Rattle.std.proofs.Common.{◌-◌, Option, subst}
use Rattle.raft_values.specs.LogId.{next_place}
use Rattle.raft_group_step.specs.StoredGroup.{first_place}
use Rattle.raft_group_storage.specs.Keeping.{entries_of}
use Rattle.raft_store.specs.Reading.{Recalls}
use Rattle.raft_store.specs.declared.recent.Recent.{Recent}
use Rattle.raft_store.proofs.Found.{fits_at}
use Rattle.raft_store.proofs.Recalling.{remembered, still_memory}
use Rattle.raft_store.proofs.Storing.{only_one}
use Rattle.raft_store.proofs.store.Store.recalled.Goals as goal

pub returns : goal.returns
returns g c = λ rules s sound shown.
    let content = g.L.ContentLog.answers c.args.self.now.log c.args.group in
    let held = only_one rules content s (shown.answered sound) in
    let between = c.in-Some-between.ensures in
    let tail = subst (λ (m : Option Recent). Recalls m c.args.group content) c.in-Some.is (shown.recalled sound) between.group in
    let begin = next_place c.args.prev in
    let end = next_place c.args.last in
    c.in_ok-entries_of.ensures.read (entries_of s c.args.prev c.args.last) (fits_at rules content s held (begin - first_place s) (end - begin))
    (remembered rules content s held c.in-Some.recent tail begin end between.low between.some between.high c.in-Some-between.bytes.now between.these)

pub returns-in_err-entries_of : goal.returns-in_err-entries_of
returns-in_err-entries_of g c = λ rules s sound shown.
    let content = g.L.ContentLog.answers c.args.self.now.log c.args.group in
    let held = only_one rules content s (shown.answered sound) in
    let between = c.in-Some-between.ensures in
    let tail = subst (λ (m : Option Recent). Recalls m c.args.group content) c.in-Some.is (shown.recalled sound) between.group in
    let begin = next_place c.args.prev in
    let end = next_place c.args.last in
    still_memory c.from_residual.result _ c.in_err-entries_of.field-0.0 c.from_residual.ensures.1
    (c.in_err-entries_of.ensures.read (entries_of s c.args.prev c.args.last) (fits_at rules content s held (begin - first_place s) (end - begin))
    (remembered rules content s held c.in-Some.recent tail begin end between.low between.some between.high c.in-Some-between.bytes.now between.these))
