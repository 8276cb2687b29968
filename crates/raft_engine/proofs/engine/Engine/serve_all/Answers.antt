-- One more member is served.
use Rattle.std.proofs.Common.{suc, ◌≡◌, ◌∙◌, ◌+◌, ◌*◌, ◌<◌, ◌≤◌, ◌^◌, ◌∷◌, ◌++◌, [], ap, sym, subst, take, length, get_or, arith, true}
use Rattle.std.proofs.lemmas.List.{length-take-le, take_all}
use Rattle.std.proofs.Math.Seq.{take-suc}
use Rattle.raft_group_step.specs.Values.{has_id}
use Rattle.raft_group_step.specs.StoredGroup.{StoredGroup, membership_in_force}
use Rattle.raft_group_step.specs.Lead.{ids_of}
use Rattle.raft_group_step.specs.Frames.{serve_all}
use Rattle.raft_engine.proofs.ReplicationLemmas.{all_stored, each_passes, less_room, room_left, serve_one_more}
use Rattle.raft_engine.proofs.ClockLemmas.{keeps_then}
use Rattle.raft_engine.proofs.engine.Engine.serve_all.Goals as goal

pub loop-n-preserved : goal.loop-n-preserved
loop-n-preserved g c =
    let before = c.args.self.now.leader in
    let so_far = c.loop-n.self.leader in (
      keeps_then before so_far c.serve.new.self.leader c.loop-n.invariant.0 c.in_ok-serve.ensures.heard,
      λ x own r step members room.
          let ids = c.args.ids.now in
          let i = c.loop-n.n-index in
          let news = c.args.has_news in
          let within : i < length ids = c.loop-n-test.true in
          let so_far = serve_all own news (take i ids) r in
          let few : 1 + length (take i ids) ≤ 2 ^ 63 =
          (let small : length ids * 8 < 9223372036854775808 = c.well_formed.1.0.1 in
          let taken = length-take-le i ids (omega arith) in omega (arith, small, taken, within)) in
          let next : take (i + 1) ids ≡ take i ids ++ get_or ids i 0 ∷ [] = (let at : i + 1 ≡ suc i = omega arith in ap (λ k. take k ids) at) ∙ take-suc ids i 0 within in
          let member : has_id (ids_of (membership_in_force so_far.state.stored)) (get_or ids i 0) ≡ true =
          subst (λ (s : StoredGroup). has_id (ids_of (membership_in_force s)) (get_or ids i 0) ≡ true) (sym (all_stored own news (take i ids) r))
          (each_passes (has_id (ids_of (membership_in_force r.state.stored))) ids i 0 members within) in
          rw (ap (λ ns. serve_all own news ns r) next ∙ serve_one_more own news (take i ids) (get_or ids i 0) r)
          (c.in_ok-serve.ensures.step x own so_far (c.loop-n.invariant.1 x own r step members room) member
          (room_left 1 own news (take i ids) r (less_room (1 + length (take i ids)) (2 ^ 63) r.state few room))),
    )

pub returns-clause-step : goal.returns-clause-step
returns-clause-step g c = λ x own r step members room.
    rw (sym (take_all c.loop-n.n-index c.args.ids.now (omega (arith, c.loop-n-test.false)))) (c.loop-n.invariant.1 x own r step members room)

pub returns-clause-heard : goal.returns-clause-heard
returns-clause-heard g c = c.loop-n.invariant.0
