use Rattle.std.proofs.Common.{◌≡◌, ◌≤◌, ◌<◌, ◌∙◌, true, List, length, map, take, sym, ap, subst, arith}
use Rattle.std.proofs.lemmas.List.{length-map}
use Rattle.raft_sent_frames.specs.Frames.{frames_of}
use Rattle.raft_cluster_events.specs.declared.event.ClusterEvent.{ClusterEvent}
use Rattle.raft_cluster_events.specs.declared.outcome.Recorded.{Recorded}
use Rattle.raft_cluster.specs.declared.slot.Slot.{Slot}
use Rattle.raft_cluster.specs.Round.{AreAhead, AreAsked, LacksMemoryAt, TakesTurns, is_round}
use Rattle.raft_cluster.proofs.ClusterLemmas.{front_of}
use Rattle.raft_cluster.proofs.CrashLemmas.{front_ahead, front_round, still_asked}
use Rattle.raft_cluster.proofs.front.run_front.Goals as goal

pub returns : goal.returns
returns g c =
    let acts = g.N.ClusterNode.acts in
    let ids = c.args.ids.now in
    let sent = frames_of c.args.sent.now in
    let past = c.args.history.now.items in
    let events = c.args.events.items in
    let count = c.ask_crashes-count.result in
    let front = take count events in
    let mid = c.ask_crashes-count.new.slots in
    let new = c.settle_all.new in
    let before = map (λ slot. slot.node) c.args.slots.now.items in
    let nodes = map (λ slot. slot.node) mid.items in
    let answers = map (λ slot. slot.answer) mid.items in
    let worked = c.work_all.new.slots in
    let nodes' = map (λ slot. slot.node) worked in
    let answers' = map (λ slot. slot.answer) worked in
    let given = c.as_slice-2.result.now in
    let whole : given ≡ events = c.as_slice-2.ensures.value in
    let cut : c.as_slice-4.result.now ≡ front = c.as_slice-4.ensures.value ∙ c.truncate.ensures.items in
    -- the crashes
    let A1 : List Recorded → Type 0 = λ h. AreAhead acts ids sent h given (take count given) before nodes answers in
    let A2 : List ClusterEvent → Type 0 = λ es. AreAhead acts ids sent past es (take count es) before nodes answers in
    let crashes = subst A2 whole (subst A1 c.as_slice.ensures.value (c.ask_crashes-count.ensures.ahead ids c.requires.ids)) in
    let ahead = front_ahead acts ids sent past events count front before nodes answers crashes in
    let K1 : List Recorded → Type 0 = λ h. AreAsked acts ids sent h (take count given) before answers in
    let K2 : List ClusterEvent → Type 0 = λ es. AreAsked acts ids sent past (take count es) before answers in
    let asked = subst K2 whole (subst K1 c.as_slice.ensures.value (c.ask_crashes-count.ensures.asked ids c.requires.ids)) in
    -- the threads
    let S : List (Slot g.row.N.Denot g.row.N-Machine.Denot g.row.N-Settings.Denot) → Type 0 = λ ss. AreAhead acts ids sent past front front before (map (λ slot. slot.node) ss) (map (λ slot. slot.answer) ss) in
    let H : List Recorded → Type 0 = λ h. AreAhead acts ids sent h front front before (map (λ slot. slot.node) c.as_mut_slice.result.now) (map (λ slot. slot.answer) c.as_mut_slice.result.now) in
    let E : List ClusterEvent → Type 0 = λ es. AreAhead acts ids sent c.as_slice-3.result.now es es before (map (λ slot. slot.node) c.as_mut_slice.result.now) (map (λ slot. slot.answer) c.as_mut_slice.result.now) in
    let given_work = subst E (sym cut) (subst H (sym c.as_slice-3.ensures.value) (subst S (sym c.as_mut_slice.ensures.value) ahead)) in
    let H' : List Recorded → Type 0 = λ h. AreAhead acts ids sent h front front before nodes' answers' in
    let E' : List ClusterEvent → Type 0 = λ es. AreAhead acts ids sent c.as_slice-3.result.now es es before nodes' answers' in
    let work = subst H' c.as_slice-3.ensures.value (subst E' cut (c.work_all.ensures.ahead before given_work)) in
    let W : List (Slot g.row.N.Denot g.row.N-Machine.Denot g.row.N-Settings.Denot) → Type 0 = λ ss. AreAsked acts ids sent past front before (map (λ slot. slot.answer) ss) in
    let asked' = still_asked acts ids sent past before front (map (λ slot. slot.answer) c.as_mut_slice.result.now) answers' c.work_all.ensures.kept (subst W (sym c.as_mut_slice.ensures.value) asked) in
    -- the turns
    let same = ap length (work.ids_now ∙ sym crashes.ids_now) in
    let long : mid.len ≡ length worked =
    omega (arith, same, length-map nodes' acts.id, length-map nodes acts.id, length-map worked (λ slot. slot.node), length-map mid.items (λ slot. slot.node)) in
    let is = c.truncate.ensures.items in
    let left = c.truncate.new.self.items in
    let B : List ClusterEvent → Type 0 = λ es. AreAhead acts ids sent past es es before nodes' answers' in
    let C : List ClusterEvent → Type 0 = λ es. AreAsked acts ids sent past es before answers' in
    let R : List ClusterEvent → Type 0 = λ es. is_round sent es ≡ true in
    let T : List (Slot g.row.N.Denot g.row.N-Machine.Denot g.row.N-Settings.Denot) → Type 0 = λ ss. AreAhead acts ids sent past left left before (map (λ slot. slot.node) ss) (map (λ slot. slot.answer) ss) in
    let K : List (Slot g.row.N.Denot g.row.N-Machine.Denot g.row.N-Settings.Denot) → Type 0 = λ ss. AreAsked acts ids sent past left before (map (λ slot. slot.answer) ss) in
    let D : List ClusterEvent → Type 0 = λ es. TakesTurns acts sent past before es (map (λ slot. slot.node) new.slots.items) (map (λ slot. slot.answer) new.slots.items) (frames_of new.sent) new.history.items in
    let turns = subst D is
    (c.settle_all.ensures ids before (subst R (sym is) (front_round sent count events c.requires.round))
    (subst T (sym (front_of worked _ mid.len long)) (subst B (sym is) work))
    (subst K (sym (front_of worked _ mid.len long)) (subst C (sym is) asked'))) in
    let L : List ClusterEvent → Type 0 = λ es. count ≤ length es in
    let M : List ClusterEvent → Type 0 = λ es. count < length es → LacksMemoryAt acts before sent es count in
    record {
      within = subst L whole c.ask_crashes-count.ensures.within;
      turns = turns;
      ends = subst M whole c.ask_crashes-count.ensures.ends;
    }

pub settle_all-requires-clause-room : goal.settle_all-requires-clause-room
settle_all-requires-clause-room g c =
    λ κs within.
    let room = c.requires.room in
    let fewer = c.truncate.ensures.len in
    omega arith
