use Rattle.std.proofs.Common.{◌≡◌, ◌∙◌, ◌+◌, ◌++◌, ◌∷◌, [], map, take, get_or, sym, ap, subst, arith, add-one}
use Rattle.std.specs.List.Sorted.{IsPermutation}
use Rattle.std.proofs.lemmas.List.{map-append, take_all}
use Rattle.std.proofs.lemmas.List.Sorted.{IsPermutation-refl, IsPermutation-trans, IsPermutation-append_left}
use Rattle.std.proofs.Math.Seq.{take-suc}
use Rattle.raft_progress.specs.Granted.{IsFalling}
use Rattle.raft_progress.specs.Parts.{carried}
use Rattle.raft_progress.proofs.vec_progress.VecProgress.carry_falling.Goals as goal

pub loop-id-init : goal.loop-id-init
loop-id-init g c = record {
  moved = subst (IsPermutation []) (sym c.new-entries.ensures.items) (IsPermutation-refl []);
  falling = subst (IsFalling g.P.Ord.cmp g.V.Borrow.borrowed) (sym c.new-entries.ensures.items) tt;
}

pub loop-id-preserved : goal.loop-id-preserved
loop-id-preserved g c =
    let f = λ (id : g.row.ID.Denot). carried g.ID.PartialEq.eq c.args.self.now c.args.default_value id in
    let i = c.loop-id.id-index in
    let next : map f (take (i + 1) c.args.ids.now) ≡ map f (take i c.args.ids.now) ++ c.carried.result ∷ [] =
    rw (add-one, take-suc c.args.ids.now i c.id-item.result (omega arith), map-append)
    (ap (λ x. map f (take i c.args.ids.now) ++ f x ∷ []) (sym c.id-item.is) ∙ ap (λ x. map f (take i c.args.ids.now) ++ x ∷ []) (sym c.carried.ensures)) in
    record {
      moved = subst (λ l. IsPermutation l c.push_falling.new.voters.items) (sym next)
          (IsPermutation-trans (map f (take i c.args.ids.now) ++ c.carried.result ∷ []) (c.loop-id.entries.items ++ c.carried.result ∷ []) c.push_falling.new.voters.items
          (IsPermutation-append_left (c.carried.result ∷ []) (map f (take i c.args.ids.now)) c.loop-id.entries.items c.loop-id.invariant.moved)
          c.in_ok-push_falling.ensures.entries);
      falling = c.in_ok-push_falling.ensures.falling c.loop-id.invariant.falling;
    }

pub returns-clause-entries : goal.returns-clause-entries
returns-clause-entries g c =
    subst (λ l. IsPermutation (map (carried g.ID.PartialEq.eq c.args.self.now c.args.default_value) l) c.loop-id.entries.items) (take_all c.loop-id.id-index c.args.ids.now c.loop-id-test.false) c.loop-id.invariant.moved
