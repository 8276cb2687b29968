use Rattle.std.proofs.Common.{[], ◌∷◌, inl, refl, sym, ap}
use Rattle.std.specs.List.Sorted.{IsStrictlySortedBy}
use Rattle.raft_headline.specs.ClusterEvent.{Stopped}
use Rattle.raft_node_laws.specs.Saying.{AreRising}
use Rattle.raft_node_laws.proofs.Naming.{names_waiting}
use Rattle.raft_node_laws.proofs.rows.records_of_cleanings.Goals as goal

rise : AreRising (7 ∷ 9 ∷ [])
unfolding IsStrictlySortedBy
rise = ((refl, tt), (tt, tt))

fall : AreRising (9 ∷ 7 ∷ []) → ⊥
unfolding IsStrictlySortedBy
fall h = let no = h.0.0 in cc

same_twice : AreRising (7 ∷ 7 ∷ []) → ⊥
unfolding IsStrictlySortedBy
same_twice h = let no = h.0.0 in cc

pub returns-clause-cleaned : goal.returns-clause-cleaned
returns-clause-cleaned c = record { event = inl refl; node = refl; outcome = record { rising = rise; done = refl } }

pub returns-clause-falling : goal.returns-clause-falling
returns-clause-falling c r = fall r.outcome.rising

pub returns-clause-twice : goal.returns-clause-twice
returns-clause-twice c r = same_twice r.outcome.rising

pub returns-clause-stopped : goal.returns-clause-stopped
returns-clause-stopped c x waiting = record { event = inl refl; node = refl; outcome = ap Stopped (sym (names_waiting 7 5 x [] waiting)) }
