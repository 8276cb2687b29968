use Rattle.std.specs.Prelude.{◌≡◌, suc, ◌-◌, length, drop, refl}
use Rattle.std.proofs.Common.{get_or, sym, ap, ◌∙◌, arith}
use Rattle.std.proofs.lemmas.Option.{slice_get_read}
use Rattle.raft_laws.proofs.VoteRanks.{vote_eq_same}
use Rattle.raft_group_lists.specs.declared.notes.Lead.{Lead}
use Rattle.raft_group_lists.specs.Notes.{lead_in}
use Rattle.raft_group_lists.proofs.leads.find_lead.Goals as goal

pub returns-then-eq : goal.returns-then-eq
returns-then-eq c =
    let leads = c.args.leads.now in
    let left = c.loop-left.left in
    let some = c.loop-left-test.true in
    let behind : suc (left - 1) ≡ left = omega arith in
    record {
      lead = c.index-leads-left.result;
      there = slice_get_read leads (length leads) (left - 1) c.index-leads-left.result refl (omega (arith, c.loop-left.invariant.0)) c.index-leads-left.is;
      of_vote =
          ap (λ (x : Lead). x.vote) c.index-leads-left.is
          ∙ vote_eq_same (get_or leads (left - 1) c.index-leads-left.result).vote c.args.vote.now (sym c.eq.ensures ∙ c.if-eq.true);
      is_last = ap (λ n. lead_in (drop n leads) c.args.vote.now) behind ∙ c.loop-left.invariant.1;
    }
