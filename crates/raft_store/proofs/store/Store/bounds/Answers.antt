-- The keys hold where the log begins and ends.
use Rattle.std.proofs.Common.{◌∙◌, ℕ, List, Option, ap, sym, subst}
use Rattle.raft_values.specs.LogId.{next_place}
use Rattle.raft_values.specs.declared.log_id.LogId.{LogId}
use Rattle.raft_group_step.specs.StoredGroup.{end_place}
use Rattle.raft_log_memtables.specs.Content.{Content}
use Rattle.raft_store.specs.Keys.{end_key}
use Rattle.raft_store.specs.Reading.{HoldsEnd}
use Rattle.raft_store.proofs.Storing.{only_one}
use Rattle.raft_store.proofs.store.Store.bounds.Goals as goal

pub returns-clause-purged : goal.returns-clause-purged
returns-clause-purged g c = λ rules s sound shown.
    let held = only_one rules (g.L.ContentLog.answers c.args.self.now.log c.args.group) s (shown.answered sound) in
    c.in_ok-new.ensures.purged ∙ c.in_ok-purged.ensures.read s.purged held.purged_fits (c.in_ok-purged_value.ensures.value sound ∙ held.purged)

pub returns-clause-first : goal.returns-clause-first
returns-clause-first g c = λ rules s sound shown.
    let held = only_one rules (g.L.ContentLog.answers c.args.self.now.log c.args.group) s (shown.answered sound) in
    c.in_ok-new.ensures.first ∙ ap (λ (id : Option (LogId ℕ)). next_place id) (c.in_ok-purged.ensures.read s.purged held.purged_fits (c.in_ok-purged_value.ensures.value sound ∙ held.purged))

pub returns-clause-end : goal.returns-clause-end
returns-clause-end g c = λ rules s sound shown.
    let held = only_one rules (g.L.ContentLog.answers c.args.self.now.log c.args.group) s (shown.answered sound) in
    let sound_then = c.in_ok-purged_value.ensures.well sound in
    let same = (c.in_ok-purged_value.ensures.steady sound_then).1 in
    c.in_ok-new.ensures.end ∙ c.in_ok-end.ensures.read (end_place s) (subst (λ (value : Option (List ℕ)). HoldsEnd value (end_place s))
    (sym (c.in_ok-end_value.ensures.value sound_then ∙ ap (λ (content : Content (List ℕ)). (content c.args.group).value end_key) same)) held.end)
