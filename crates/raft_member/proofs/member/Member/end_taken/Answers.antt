-- What was stored is the front of what the step stores, and all of it where it ran to its end.
use Rattle.std.proofs.Common.{◌≡◌, List, [], ◌∷◌, refl, None, Option, Some, ℕ, sym, subst, ◌∙◌}
use Rattle.raft_group_step.specs.Message.{Message}
use Rattle.raft_group_step.specs.StoredGroup.{after_storing_all}
use Rattle.raft_engine.specs.Commands.{stored_by}
use Rattle.raft_executor.specs.Said.{SaysAll}
use Rattle.raft_executor.specs.Stored.{first_of}
use Rattle.raft_log_ids.proofs.GrowthLemmas.{on_err}
use Rattle.raft_member.proofs.RunLemmas.{halted_at_end, halted_within, no_stop, sent_at_end, some_stop, stopped_there, up_at_end, vote_at_end}
use Rattle.raft_member.proofs.member.Member.end_taken.Goals as goal

pub returns-in_err-store_first-clause-err : goal.returns-in_err-store_first-clause-err
returns-in_err-store_first-clause-err g c = λ old r down run.
    let after = c.store_first.new.storage in
    let fails = c.in_err-store_first.ensures.err run.taken.snapshot run.is_given down.well old down.stored in
    on_err _
    (halted_within (g.S.GroupStorage.is_well after) (g.S.GroupStorage.shows after c.args.group) g.S.GroupStorage.stands _ _ old r _ _ run down.present
    (g.met.S.GroupStorage.shows_more after c.args.group) (g.S.GroupStorage.fails after) _ down.no_engine c.args.stop fails.0 fails.1 fails.2)

pub returns-then-is_some-clause-ok : goal.returns-then-is_some-clause-ok
returns-then-is_some-clause-ok g c = λ old r down run.
    let there = some_stop c.args.stop (sym c.is_some.ensures ∙ c.if-is_some.true) in
    let after = c.store_first.new.storage in
    let commands = stored_by run.taken.snapshot c.args.engine.now.output.queue in
    let stored = c.in_ok-store_first.ensures.ok run.taken.snapshot run.is_given down.well old down.stored in (
      there.0,
      there.1,
      stopped_there (g.S.GroupStorage.is_well after) (g.S.GroupStorage.shows after c.args.group) g.S.GroupStorage.stands _ _ old r _ _ run down.present
          (c.in_ok-store_first.ensures.well down.well) _ down.no_engine there.0
          (subst (λ (stop : Option ℕ). g.S.GroupStorage.shows after c.args.group (after_storing_all (first_of stop commands) old ∷ [])) there.1 stored),
    )

pub returns-in_err-sent-clause-err : goal.returns-in_err-sent-clause-err
returns-in_err-sent-clause-err g c = λ old r down run.
    let none = no_stop c.args.stop (sym c.is_some.ensures ∙ c.if-is_some.false) in
    let before = c.store_first.new.storage in
    let after = c.messages.new.storage in
    let commands = stored_by run.taken.snapshot c.args.engine.now.output.queue in
    let stored =
    subst (λ (stop : Option ℕ). g.S.GroupStorage.shows before c.args.group (after_storing_all (first_of stop commands) old ∷ [])) none
    (c.in_ok-store_first.ensures.ok run.taken.snapshot run.is_given down.well old down.stored) in
    on_err _
    (halted_at_end (g.S.GroupStorage.is_well after) (g.S.GroupStorage.shows after c.args.group) g.S.GroupStorage.stands _ _ old r _ _ run down.present
    (g.met.S.GroupStorage.shows_more after c.args.group) (g.S.GroupStorage.fails after)
    (c.in_err-sent.ensures.err _ (c.in_ok-store_first.ensures.well down.well) stored) _ down.no_engine (c.messages.ensures.kept c.args.group _ stored))

pub returns-in_err-note_sent-clause-err : goal.returns-in_err-note_sent-clause-err
returns-in_err-note_sent-clause-err g c = λ old r down run.
    let none = no_stop c.args.stop (sym c.is_some.ensures ∙ c.if-is_some.false) in
    let before = c.store_first.new.storage in
    let after = c.messages.new.storage in
    let commands = stored_by run.taken.snapshot c.args.engine.now.output.queue in
    let stored =
    subst (λ (stop : Option ℕ). g.S.GroupStorage.shows before c.args.group (after_storing_all (first_of stop commands) old ∷ [])) none
    (c.in_ok-store_first.ensures.ok run.taken.snapshot run.is_given down.well old down.stored) in
    on_err _
    (halted_at_end (g.S.GroupStorage.is_well after) (g.S.GroupStorage.shows after c.args.group) g.S.GroupStorage.stands _ _ old r _ _ run down.present
    (g.met.S.GroupStorage.shows_more after c.args.group) (g.S.GroupStorage.fails after)
    (g.met.S.GroupStorage.well_fails after (c.in_ok-sent.ensures.well (c.in_ok-store_first.ensures.well down.well)))
    _ down.no_engine (c.messages.ensures.kept c.args.group _ stored))

pub returns-clause-ok : goal.returns-clause-ok
returns-clause-ok g c = λ old r down run.
    let none = no_stop c.args.stop (sym c.is_some.ensures ∙ c.if-is_some.false) in
    let before = c.store_first.new.storage in
    let after = c.messages.new.storage in
    let commands = stored_by run.taken.snapshot c.args.engine.now.output.queue in
    let all = after_storing_all (first_of None commands) old in
    let stored : g.S.GroupStorage.shows before c.args.group (all ∷ []) =
    subst (λ (stop : Option ℕ). g.S.GroupStorage.shows before c.args.group (after_storing_all (first_of stop commands) old ∷ [])) none
    (c.in_ok-store_first.ensures.ok run.taken.snapshot run.is_given down.well old down.stored) in
    let is_well = g.S.GroupStorage.is_well after in
    let shown = g.S.GroupStorage.shows after c.args.group in
    let stands = g.S.GroupStorage.stands in
    let well = c.in_ok-store_first.ensures.well down.well in
    let vote = c.get.ensures ∙ vote_at_end is_well shown stands _ _ old r _ _ run down.present in
    let said = c.in_ok-sent.ensures.ok all well stored vote in (
      none,
      subst (λ (l : List Message). SaysAll stands c.in_ok-sent.sent.items l) (sent_at_end is_well shown stands _ _ old r _ _ run down.present) said,
      up_at_end is_well shown stands _ _ old r _ _ run down.present (c.in_ok-sent.ensures.well well) _ c.come_to_rest.new.engine refl refl
          (c.messages.ensures.kept c.args.group _ stored)
          (c.come_to_rest.ensures.idle c.args.self.now.id r.state run.step.state),
    )

pub returns-then-is_some-clause-sendings : goal.returns-then-is_some-clause-sendings
returns-then-is_some-clause-sendings g c = λ none n.
    let there = some_stop c.args.stop (sym c.is_some.ensures ∙ c.if-is_some.true) in
    let no : None ≡ Some there.0 = sym none ∙ there.1 in cc

pub returns-clause-sendings : goal.returns-clause-sendings
returns-clause-sendings g c = λ none n. c.in_ok-note_sent.ensures n
