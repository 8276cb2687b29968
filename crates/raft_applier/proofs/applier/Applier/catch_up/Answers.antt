-- The machine runs on to what is committed, whether the node leads on or not.
use Rattle.std.specs.Prelude.{Some, [], ◌∷◌, drop}
use Rattle.std.proofs.Common.{◌≡◌, ◌∙◌, ap, sym, subst}
use Rattle.std.specs.Option.{option_copied}
use Rattle.raft_values.specs.LogId.{next_place}
use Rattle.raft_group_step.specs.GroupStep.{group_step}
use Rattle.raft_laws.specs.OneList.{applied_list}
use Rattle.raft_machines.specs.Telling.{AreToldAs, untold_of}
use Rattle.raft_engine.specs.Standing.{IsStateOf}
use Rattle.raft_member.specs.Member.{Engine}
use Rattle.raft_applier.specs.declared.applied.Progress.{Progress}
use Rattle.raft_applier.specs.Applied.{answers_of}
use Rattle.raft_applier.proofs.Folds.{told_nobody}
use Rattle.raft_applier.proofs.Steps.{above_applied, all_unknown, has_run, its_list, later_wait, none_told, none_unknown, none_wait, rest_read, rises, told_due, whole_size}
use Rattle.raft_applier.proofs.applier.Applier.catch_up.Goals as goal
use Rattle.raft_applier.proofs.applier.Applier.catch_up.Goals.{then-leads_on+in_ok-progress, else-leads_on+in_ok-progress-2}

pub returns-clause-ok : goal.returns-clause-ok
returns-clause-ok g c = λ s e of step up caught.
    let rules = g.M.StateMachine.rules in
    let own = c.args.member.now.id in
    let t = (group_step own s e).state in
    let list = applied_list t in
    let a = c.args.self.now.applied in
    let machine = g.M.StateMachine.state c.args.self.now.machine in
    let seen = c.seen_of-seen.result in
    let now = c.in_ok-last.last in
    let both : Some up.engine ≡ Some c.in-Some.engine.now = sym up.has_engine ∙ sym c.engine.ensures ∙ ap option_copied c.in-Some.is in
    let same : up.engine ≡ c.in-Some.engine.now = cc in
    let stands : IsStateOf own c.in-Some.engine.now t = subst (λ (y : Engine). IsStateOf own y t) same up.idle.stands in
    let order = stands.order in
    let is = c.seen_of-seen.ensures own t stands in
    let run = c.in_ok-last.ensures.ok t of up.well up.stored is.snapshot (its_list own s e step order) (has_run own s e step order rules machine a caught) in
    let later = c.in_ok-last.ensures.goes t up.well up.stored is.snapshot in
    let read : c.in_ok-entries.entries ≡ drop (next_place now) list =
    c.in_ok-entries.ensures.ok t.stored (c.in_ok-last.ensures.well up.well) (c.in_ok-last.ensures.kept c.args.group (t.stored ∷ []) up.stored)
    ∙ rest_read own s e step order rules machine a caught seen is now (g.M.StateMachine.state c.restore.new.machine) later run in
    let last = ap next_place is.committed ∙ above_applied t order in
    elim c.if-leads_on.branch [
      | then-leads_on+in_ok-progress w ↦
          let on = sym c.leads_on.ensures ∙ w.if-leads_on.true in
          record {
            folded = ap (λ x. g.M.StateMachine.state x.machine) w.self-is ∙ w.in_ok-progress.ensures.state list (w.as_slice.ensures ∙ read) run;
            last = last;
            lead = is.lead;
            waiting =
                ap (λ x. untold_of x.applied.waiting) w.self-is
                ∙ w.in_ok-progress.ensures.waiting (next_place now) (rises own s e step order rules machine a caught seen is now later on)
                ∙ later_wait own s e step order rules machine a caught seen is on;
          }
      | else-leads_on+in_ok-progress-2 w ↦
          let off = sym c.leads_on.ensures ∙ w.if-leads_on.false in
          record {
            folded = ap (λ x. g.M.StateMachine.state x.machine) w.self-is ∙ w.in_ok-progress-2.ensures.state list (w.as_slice-else-leads_on.ensures ∙ read) run;
            last = last;
            lead = is.lead;
            waiting =
                ap (λ x. untold_of x.applied.waiting) w.self-is
                ∙ w.in_ok-progress-2.ensures.waiting
                ∙ none_wait own s e step order rules machine a caught seen is off;
          }
    ]

pub returns-clause-gone : goal.returns-clause-gone
returns-clause-gone g c = λ s e of step up caught.
    let rules = g.M.StateMachine.rules in
    let own = c.args.member.now.id in
    let r = group_step own s e in
    let t = r.state in
    let list = applied_list t in
    let a = c.args.self.now.applied in
    let machine = g.M.StateMachine.state c.args.self.now.machine in
    let seen = c.seen_of-seen.result in
    let now = c.in_ok-last.last in
    let both : Some up.engine ≡ Some c.in-Some.engine.now = sym up.has_engine ∙ sym c.engine.ensures ∙ ap option_copied c.in-Some.is in
    let same : up.engine ≡ c.in-Some.engine.now = cc in
    let stands : IsStateOf own c.in-Some.engine.now t = subst (λ (y : Engine). IsStateOf own y t) same up.idle.stands in
    let order = stands.order in
    let is = c.seen_of-seen.ensures own t stands in
    let run = c.in_ok-last.ensures.ok t of up.well up.stored is.snapshot (its_list own s e step order) (has_run own s e step order rules machine a caught) in
    let later = c.in_ok-last.ensures.goes t up.well up.stored is.snapshot in
    let read : c.in_ok-entries.entries ≡ drop (next_place now) list =
    c.in_ok-entries.ensures.ok t.stored (c.in_ok-last.ensures.well up.well) (c.in_ok-last.ensures.kept c.args.group (t.stored ∷ []) up.stored)
    ∙ rest_read own s e step order rules machine a caught seen is now (g.M.StateMachine.state c.restore.new.machine) later run in
    elim c.if-leads_on.branch [
      | then-leads_on+in_ok-progress w ↦
          let on = sym c.leads_on.ensures ∙ w.if-leads_on.true in
          record {
            told =
                subst (λ (p : Progress). AreToldAs (answers_of rules list) p.told.items r.told) (sym w.progress-is)
                (subst (λ xs. AreToldAs (answers_of rules list) w.in_ok-progress.progress.told.items xs) (sym (told_due own s e step order rules machine a caught seen is on))
                (w.in_ok-progress.ensures.told list (w.as_slice.ensures ∙ read) run (whole_size own s e step order rules machine a caught seen is) (rises own s e step order rules machine a caught seen is now later on)));
            unknown =
                ap (λ (p : Progress). p.unknown.items) w.progress-is ∙ w.in_ok-progress.ensures.unknown
                ∙ none_unknown own s e step order rules machine a caught seen is on;
          }
      | else-leads_on+in_ok-progress-2 w ↦
          let off = sym c.leads_on.ensures ∙ w.if-leads_on.false in
          record {
            told =
                told_nobody (answers_of rules list) c.if-leads_on.progress.told.items r.told
                (ap (λ (p : Progress). p.told.items) w.progress-is ∙ w.in_ok-progress-2.ensures.told list (w.as_slice-else-leads_on.ensures ∙ read) run)
                (none_told own s e step order rules machine a caught seen is off);
            unknown =
                ap (λ (p : Progress). p.unknown.items) w.progress-is ∙ w.in_ok-progress-2.ensures.unknown
                ∙ all_unknown own s e step order rules machine a caught seen is off;
          }
    ]
