use Rattle.std.proofs.Common.{◌<◌, ◌≡◌, ◌∙◌, length, sym, ap, subst, refl}
use Rattle.std.proofs.Math.ListN.{set}
use Rattle.std.specs.List.{IsDistinct}
use Rattle.raft_progress.specs.Parts.{ids_of}
use Rattle.raft_progress.specs.Values.{with_value_at}
use Rattle.raft_progress.proofs.FallingLemmas.{at_any}
use Rattle.raft_progress.proofs.PartsLemmas.{set_at, ids-with_value_at}
use Rattle.raft_progress.proofs.vec_progress.VecProgress.voter_mut.Goals as goal

pub invariant_of-self-lent : goal.invariant_of-self-lent
invariant_of-self-lent g c w =
    let entry = c.index_mut-entry.result.now in
    subst (λ l. IsDistinct g.ID.PartialEq.eq (ids_of l)) (sym (set_at g.ID.PartialEq.eq c.self.inside.voters.items c.args.at entry w (rw (← c.self.view_is) at c.requires) c.index_mut-entry.ensures.value))
    (subst (IsDistinct g.ID.PartialEq.eq) (sym (ids-with_value_at g.ID.PartialEq.eq c.self.inside.voters.items c.args.at w)) c.self.invariant)

pub returns : goal.returns
returns g c =
    let entry = c.index_mut-entry.result.now in
    let within : c.args.at < length c.self.inside.voters.items = rw (← c.self.view_is) at c.requires in (
      (refl, λ w. rw (← c.self.view_is, set_at g.ID.PartialEq.eq c.self.inside.voters.items c.args.at entry w within c.index_mut-entry.ensures.value) refl),
      record {
        writes_back = tt;
        value = λ x. rw (← c.self.view_is) (ap (λ (z : g.row.ID.Denot × g.row.V.Denot). z.1) (c.index_mut-entry.ensures.value ∙ at_any c.self.inside.voters.items c.args.at entry x within));
      },
    )
