use Rattle.std.specs.Prelude.{◌≡◌, ℕ, true, false, Option, Some}
use Rattle.std.proofs.Common.{sym, ◌∙◌, subst}
use Rattle.raft_values.specs.declared.log_id.LogId.{LogId}
use Rattle.raft_group_lists.specs.Notes.{EndsWith, IsNotedAt, list_to}
use Rattle.raft_list_steps.proofs.ListFacts.{log_id_itself, one_end, same_log_id}
use Rattle.raft_list_steps.proofs.start.ended_at.Goals as goal

pub returns-then-eq : goal.returns-then-eq
returns-then-eq c =
    let noted = c.args.list.now.notes.noted in
    let last = c.args.last.now in
    let same : c.id_at.result ≡ last = same_log_id c.id_at.result last (sym c.eq.ensures ∙ c.if-eq.true) in
    record {
      there = c.in-Some.is;
      within = c.requires c.in-Some.at c.in-Some.is;
      noted = subst (λ (id : LogId ℕ). IsNotedAt noted id c.in-Some.at) same c.id_at.ensures.noted;
      ends = subst (λ (id : LogId ℕ). EndsWith (list_to noted (Some c.in-Some.at)) id) same c.id_at.ensures.ends;
    }

pub returns-else-eq : goal.returns-else-eq
returns-else-eq c = λ k is ends.
    let noted = c.args.list.now.notes.noted in
    let last = c.args.last.now in
    let at : Some c.in-Some.at ≡ Some k = sym c.in-Some.is ∙ is in
    let here = subst (λ (o : Option ℕ). EndsWith (list_to noted o) c.id_at.result) at c.id_at.ensures.ends in
    let same : c.id_at.result ≡ last = one_end (list_to noted (Some k)) c.id_at.result last here ends in
    absurd (let no : true ≡ false = sym (log_id_itself c.id_at.result last same) ∙ sym c.eq.ensures ∙ c.if-eq.false in cc)
