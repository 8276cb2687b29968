-- An entry that needs the log is a peer's of the lead.
use Rattle.std.proofs.Common.{◌≡◌, ◌∙◌, ◌++◌, ℕ, sym, ap, subst}
use Rattle.std.specs.Prelude.{◌||◌, true, false}
use Rattle.std.specs.List.{list_any}
use Rattle.raft_progress.specs.declared.progress_entry.ProgressEntry.{ProgressEntry}
use Rattle.raft_group_step.specs.Peer.{needs_below}
use Rattle.raft_engine.specs.Standing.{PlaysRole, outstanding_of}
use Rattle.raft_engine.proofs.PeersLemmas.{entry_needs, kept_by_entries}
use Rattle.raft_engine.proofs.ReplicationLemmas.{leads-alone}
use Rattle.raft_engine.proofs.engine.Engine.is_kept.Goals as goal

pub loop-entry-preserved : goal.loop-entry-preserved
loop-entry-preserved g c =
    let place = c.args.place in
    let leader = c.in-Some.leader in
    let x = c.in-Some-entry.entry.now in
    let off : entry_needs place leader x ≡ false =
    ap (λ (p : ProgressEntry ℕ). needs_below place (outstanding_of p.inflight)) (sym c.peer.ensures) ∙ sym c.needs_below.ensures ∙ c.if-needs_below.false in
    sym (ap (λ b. b || list_any (entry_needs place leader) c.next.new.self) off)
    ∙ ap (list_any (entry_needs place leader)) (sym c.in-Some-entry.ensures.steps) ∙ c.loop-entry.invariant

pub returns-then-needs_below : goal.returns-then-needs_below
returns-then-needs_below g c = λ own s lead h is_lead.
    let place = c.args.place in
    let leader = c.in-Some.leader in
    let x = c.in-Some-entry.entry.now in
    let on : entry_needs place leader x ≡ true =
    ap (λ (p : ProgressEntry ℕ). needs_below place (outstanding_of p.inflight)) (sym c.peer.ensures) ∙ sym c.needs_below.ensures ∙ c.if-needs_below.true in
    sym (ap (λ b. b || list_any (entry_needs place leader) c.next.new.self) on)
    ∙ ap (list_any (entry_needs place leader)) (sym c.in-Some-entry.ensures.steps) ∙ c.loop-entry.invariant
    ∙ ap (list_any (entry_needs place leader)) (c.into_iter-entry-iterator.ensures.into_iter_gives ∙ c.iter-entry-items.ensures ∙ ap (λ p. p.voters ++ p.learners) c.progress.ensures)
    ∙ kept_by_entries place own leader s.stored lead
    (leads-alone own leader c.args.self.now.candidate s.stored s.role lead is_lead (subst (λ l. PlaysRole own l c.args.self.now.candidate s.stored s.role) c.in-Some.is h.role)).1

pub returns : goal.returns
returns g c = λ own s lead h is_lead.
    let place = c.args.place in
    let leader = c.in-Some.leader in
    ap (list_any (entry_needs place leader)) (sym c.in-None.ensures.steps.0) ∙ c.loop-entry.invariant
    ∙ ap (list_any (entry_needs place leader)) (c.into_iter-entry-iterator.ensures.into_iter_gives ∙ c.iter-entry-items.ensures ∙ ap (λ p. p.voters ++ p.learners) c.progress.ensures)
    ∙ kept_by_entries place own leader s.stored lead
    (leads-alone own leader c.args.self.now.candidate s.stored s.role lead is_lead (subst (λ l. PlaysRole own l c.args.self.now.candidate s.stored s.role) c.in-Some.is h.role)).1
