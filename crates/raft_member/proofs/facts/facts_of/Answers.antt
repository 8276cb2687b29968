-- What the engine knows tells the facts.
use Rattle.std.proofs.Common.{◌≡◌, ◌∙◌, ◌<◌, ◌^◌, sym, ap, subst, refl}
use Rattle.std.specs.Prelude.{nat_lt}
use Rattle.raft_values.specs.LogId.{next_place, place_of}
use Rattle.raft_group_step.specs.StoredGroup.{last_id}
use Rattle.raft_engine.proofs.SendingLemmas.{end-last}
use Rattle.raft_member.proofs.FactLemmas.{IsGreatest, leads_told, range_told, stands_told}
use Rattle.raft_member.proofs.facts.facts_of.Goals as goal
use Rattle.raft_member.proofs.facts.facts_of.Goals.{in-Some, in-None}

pub returns : goal.returns
returns c = λ s h present low.
    let own = c.args.own in
    let e = c.args.engine.now in
    let last : next_place c.last_log_id.result ≡ next_place (last_id s.stored) = ap next_place (c.last_log_id.ensures s.stored h.knows h.order.placed) in
    let end = last ∙ end-last s.stored h.order.placed in
    let greatest : IsGreatest e.leader c.match-engine.result =
    elim c.match-engine.branch [
      | in-Some w ↦
          subst (λ l. IsGreatest l c.match-engine.result) (sym w.in-Some.is)
          (λ limit some high. ap (λ n. nat_lt n limit) w.result-is ∙ w.greatest_next_id.ensures limit some high)
      | in-None w ↦ subst (λ l. IsGreatest l c.match-engine.result) (sym w.in-None.is) w.result-is
    ] in
    record {
      own_id = refl;
      presence = sym present;
      stored_vote = c.get.ensures ∙ h.knows.vote;
      in_force = c.membership_in_force.ensures s.stored h.knows;
      newness = c.is_new.ensures s.stored h.knows;
      leads = c.is_some.ensures ∙ leads_told own s.stored e.leader e.candidate s.role h.role;
      stands = c.is_some-2.ensures ∙ stands_told own s.stored e.leader e.candidate s.role h.role;
      log_end = c.place_behind.ensures (subst (λ n. n < 2 ^ 64) (sym end) low) ∙ end;
      last_committed = c.index.ensures ∙ ap place_of h.committed ∙ h.order.committed;
      next_requests = range_told own s.stored e.leader e.candidate s.role c.match-engine.result h.role greatest;
    }
