use Rattle.std.proofs.Common.{◌≡◌, ◌<◌, ◌∙◌, ℕ, zero, suc, List, [], ◌∷◌, Some, length, get_or, sym, slice_get, subst, arith}
use Rattle.std.proofs.lemmas.Option.{slice_get-get_or}
use Rattle.raft_sent_frames.specs.Frames.{frames_of}
use Rattle.raft_cluster.specs.declared.slot.Slot.{Slot}
use Rattle.raft_cluster.specs.Worked.{IsWorked}
use Rattle.raft_cluster.proofs.round.work_each.Goals as goal

-- what stands at a place stands within
below : {S : Type 0} (xs : List S) (at : ℕ) (x : S) → slice_get xs at ≡ Some x → at < length xs
below [] at x there = absurd (cc)
below (y ∷ ys) zero x there = omega arith
below (y ∷ ys) (suc at) x there = let less = below ys at x there in omega arith

read : {S : Type 0} (xs : List S) (at : ℕ) (x d : S) → slice_get xs at ≡ Some x → at < length xs → get_or xs at d ≡ x
read xs at x d there within = let is : Some (get_or xs at d) ≡ Some x = sym (slice_get-get_or xs at d within) ∙ there in cc

pub returns-clause-worked : goal.returns-clause-worked
returns-clause-worked g c = λ place old new was is.
    let S : Type 0 = Slot g.row.N.Denot g.row.N-Machine.Denot g.row.N-Settings.Denot in
    let W : S → S → Type 0 = λ x y. IsWorked g.N.ClusterNode.acts c.args.ids.now (frames_of c.args.sent.now) c.args.history.now c.args.events.now place x.node x.answer y.node y.answer in
    let within : place < length c.args.slots.now = below c.args.slots.now place old was in
    let h = (c.for_each_mut.ensures place old within).1 in
    let a : h.argument.now ≡ old = h.argument_is ∙ read c.args.slots.now place old old was within in
    let b : h.after_call.now ≡ new = h.left ∙ read c.for_each_mut.new.s place new old is (below c.for_each_mut.new.s place new is) in
    let m : W h.argument.now h.after_call.now = h.call in
    subst (λ y. W old y) b (subst (λ x. W x h.after_call.now) a m)
