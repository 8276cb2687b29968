use Rattle.std.specs.Prelude.{◌≡◌, ◌==◌, ◌&&◌, ◌||◌, ℕ, Option, length, slice_set, vec_capacity, refl}
use Rattle.std.proofs.Common.{rules, sym, ap, ◌∙◌, subst, arith}
use Rattle.std.proofs.lemmas.Option.{slice_get_read, slice_get_within}
use Rattle.raft_laws.proofs.BallotAgreement.{same_some}
use Rattle.raft_list_laws.specs.Changes.{GoesOn}
use Rattle.raft_group_lists.specs.declared.notes.Lead.{Lead}
use Rattle.raft_group_lists.specs.Notes.{IsWithin, SameLead, SameLeads, end_or, entries_at, has_reached, is_settled, list_to, reaches, settled_by}
use Rattle.raft_group_lists.proofs.RoomLemmas.{learned_once}
use Rattle.raft_group_lists.proofs.SetLemmas.{end_none, end_some, learned, middle_within, unchanged, whole_then}
use Rattle.raft_group_lists.proofs.settle.learn_under.Goals as goal
use Rattle.raft_group_lists.proofs.settle.learn_under.Goals.{in-Some, in-None}

pub learn_at-requires-clause-within : goal.learn_at-requires-clause-within
learn_at-requires-clause-within c =
    let middle = c.lead_at.new.leads.items in
    let f = c.in_ok-at.ensures.found in
    let x = c.index_mut-lead.result.now in
    let read = slice_get_read middle (length middle) c.in_ok-at.at x refl (slice_get_within middle c.in_ok-at.at f.lead f.there) c.index_mut-lead.ensures.value in
    let is : x ≡ f.lead = same_some (sym read ∙ f.there) in
    elim c.match-last.branch [
      | in-Some w ↦ subst (IsWithin c.args.noted.now) (sym w.end-is) c.requires.within
      | in-None w ↦ subst (IsWithin c.args.noted.now) (sym w.end-is) (middle_within c.args.noted.now c.args.leads.now.items middle c.requires.whole.leads c.lead_at.ensures.lasts c.in_ok-at.at x read)
    ]

pub returns-in_err-learn_at-clause-whole : goal.returns-in_err-learn_at-clause-whole
returns-in_err-learn_at-clause-whole c =
    let middle = c.lead_at.new.leads.items in
    let f = c.in_ok-at.ensures.found in
    let x = c.index_mut-lead.result.now in
    let read = slice_get_read middle (length middle) c.in_ok-at.at x refl (slice_get_within middle c.in_ok-at.at f.lead f.there) c.index_mut-lead.ensures.value in
    let is : x ≡ f.lead = same_some (sym read ∙ f.there) in
    let y = c.learn_at.new.lead in
    let of_vote = c.learn_at.ensures.vote ∙ ap (λ (l : Lead). l.vote) is in
    let known = middle_within c.args.noted.now c.args.leads.now.items middle c.requires.whole.leads c.lead_at.ensures.lasts c.in_ok-at.at x read in
    let within = subst (IsWithin c.args.noted.now) (sym c.in_err-learn_at.ensures.same.last) known in
    whole_then c.args.voters.now c.args.noted.now c.args.leads.now.items middle c.args.listed.now.items c.learn_at.new.listed.items c.args.vote.now c.in_ok-at.at f c.lead_at.ensures.same y of_vote c.requires.whole c.lead_at.ensures.lasts within c.learn_at.ensures.within

pub returns-in_err-learn_at-clause-err : goal.returns-in_err-learn_at-clause-err
returns-in_err-learn_at-clause-err c =
    let middle = c.lead_at.new.leads.items in
    let f = c.in_ok-at.ensures.found in
    let x = c.index_mut-lead.result.now in
    let read = slice_get_read middle (length middle) c.in_ok-at.at x refl (slice_get_within middle c.in_ok-at.at f.lead f.there) c.index_mut-lead.ensures.value in
    let is : x ≡ f.lead = same_some (sym read ∙ f.there) in
    let y = c.learn_at.new.lead in
    let of_vote = c.learn_at.ensures.vote ∙ ap (λ (l : Lead). l.vote) is in
    let same = subst (λ (l : Lead). SameLead l y) is c.in_err-learn_at.ensures.same in
    let leads = unchanged c.args.voters.now c.args.noted.now c.args.leads.now.items middle c.args.listed.now.items c.learn_at.new.listed.items c.args.vote.now c.in_ok-at.at f c.lead_at.ensures.same y of_vote same in
    let both : SameLeads c.args.leads.now.items (slice_set middle c.in_ok-at.at y) × (c.learn_at.new.listed.items ≡ c.args.listed.now.items) = (leads, c.in_err-learn_at.ensures.err) in
    search (rules, both)

pub returns-clause-whole : goal.returns-clause-whole
returns-clause-whole c =
    let middle = c.lead_at.new.leads.items in
    let f = c.in_ok-at.ensures.found in
    let x = c.index_mut-lead.result.now in
    let read = slice_get_read middle (length middle) c.in_ok-at.at x refl (slice_get_within middle c.in_ok-at.at f.lead f.there) c.index_mut-lead.ensures.value in
    let is : x ≡ f.lead = same_some (sym read ∙ f.there) in
    let y = c.learn_at.new.lead in
    let of_vote = c.learn_at.ensures.vote ∙ ap (λ (l : Lead). l.vote) is in
    let known = middle_within c.args.noted.now c.args.leads.now.items middle c.requires.whole.leads c.lead_at.ensures.lasts c.in_ok-at.at x read in
    let end : IsWithin c.args.noted.now c.match-last.end =
    elim c.match-last.branch [
      | in-Some w ↦ subst (IsWithin c.args.noted.now) (sym w.end-is) c.requires.within
      | in-None w ↦ subst (IsWithin c.args.noted.now) (sym w.end-is) known
    ]
    in
    whole_then c.args.voters.now c.args.noted.now c.args.leads.now.items middle c.args.listed.now.items c.learn_at.new.listed.items c.args.vote.now c.in_ok-at.at f c.lead_at.ensures.same y of_vote c.requires.whole c.lead_at.ensures.lasts (subst (IsWithin c.args.noted.now) (sym c.in_ok-learn_at.ensures.last) end) c.learn_at.ensures.within

pub returns-clause-ok : goal.returns-clause-ok
returns-clause-ok c =
    let middle = c.lead_at.new.leads.items in
    let f = c.in_ok-at.ensures.found in
    let x = c.index_mut-lead.result.now in
    let read = slice_get_read middle (length middle) c.in_ok-at.at x refl (slice_get_within middle c.in_ok-at.at f.lead f.there) c.index_mut-lead.ensures.value in
    let is : x ≡ f.lead = same_some (sym read ∙ f.there) in
    let y = c.learn_at.new.lead in
    let of_vote = c.learn_at.ensures.vote ∙ ap (λ (l : Lead). l.vote) is in
    let end : c.match-last.end ≡ end_or c.args.last f.lead.last =
    elim c.match-last.branch [
      | in-Some w ↦ end_some c.args.last f.lead.last c.match-last.end w.in-Some.field-0 w.in-Some.is w.end-is
      | in-None w ↦ end_none c.args.last f.lead.last c.match-last.end w.in-None.is (w.end-is ∙ ap (λ (l : Lead). l.last) is)
    ]
    in
    let more = subst (λ (l : Lead). (p n : ℕ) → has_reached y.reached.items p n ≡ (has_reached l.reached.items p n || (c.args.node == n && reaches c.args.place p))) is c.in_ok-learn_at.ensures.reached in
    let on = subst (λ (o : Option ℕ). GoesOn (entries_at c.args.noted.now c.args.listed.now.items) (settled_by (is_settled c.args.voters.now y) (list_to c.args.noted.now o)) (entries_at c.args.noted.now c.learn_at.new.listed.items)) (sym c.in_ok-learn_at.ensures.last) c.in_ok-learn_at.ensures.list in
    learned c.args.voters.now c.args.noted.now c.args.leads.now.items middle c.args.listed.now.items c.learn_at.new.listed.items c.args.vote.now c.in_ok-at.at f c.lead_at.ensures.same y of_vote c.args.node c.args.last c.args.place (c.in_ok-learn_at.ensures.last ∙ end) more on

pub returns-in_err-learn_at-clause-room : goal.returns-in_err-learn_at-clause-room
returns-in_err-learn_at-clause-room c =
    let middle = c.lead_at.new.leads.items in
    let f = c.in_ok-at.ensures.found in
    let x = c.index_mut-lead.result.now in
    let read = slice_get_read middle (length middle) c.in_ok-at.at x refl (slice_get_within middle c.in_ok-at.at f.lead f.there) c.index_mut-lead.ensures.value in
    λ n fits can.
    let place = (c.lead_at.ensures.room n can).1 in
    let space = place.nodes c.in_ok-at.at x read in
    absurd (let no = c.in_err-learn_at.ensures.room fits (omega arith) in cc)

pub returns-clause-room : goal.returns-clause-room
returns-clause-room c =
    let middle = c.lead_at.new.leads.items in
    let f = c.in_ok-at.ensures.found in
    let x = c.index_mut-lead.result.now in
    let read = slice_get_read middle (length middle) c.in_ok-at.at x refl (slice_get_within middle c.in_ok-at.at f.lead f.there) c.index_mut-lead.ensures.value in
    λ n fits can.
    let place = (c.lead_at.ensures.room n can).1 in
    let y = c.learn_at.new.lead in (
      refl,
      learned_once middle (vec_capacity c.lead_at.new.leads) c.lead_at.new.spares.items n c.in_ok-at.at y place
          (c.learn_at.ensures.space n (place.nodes c.in_ok-at.at x read)),
    )
