use Rattle.std.specs.Prelude.{◌≡◌, ℕ, zero, suc, ◌<◌, ◌≤◌, true, List, [], ◌∷◌, length, slice_get, Some, refl}
use Rattle.std.proofs.Common.{ap, arith, subst}
use Rattle.raft_values.specs.declared.vote.Vote.{Vote}
use Rattle.raft_values.specs.Vote.{vote_of}
use Rattle.raft_group_step.specs.Values.{Entry}
use Rattle.raft_laws.specs.ConflictRun.{another_leads}
use Rattle.raft_laws.specs.Example.{run_of, three}
use Rattle.raft_laws.specs.GroupWorld.{Led}
use Rattle.raft_laws.specs.LawRuns.{blank_at}
use Rattle.raft_laws.proofs.BallotAgreement.{same_some}
use Rattle.raft_history_laws.specs.WholeSnapshotsRun.{first_entries, set_up_entry}
use Rattle.raft_list_laws.proofs.rows.lists_noted_before.Goals as goal

-- a note of the first leader
abbrev noted : List Entry → Led
noted list = record { node = 1; vote = vote_of 1 1 true; list = list }

abbrev first : Led
first = noted (set_up_entry ∷ blank_at 1 ∷ [])

another_vote : first.vote ≡ vote_of 2 2 true → ⊥
another_vote e = let term : 1 ≡ 2 = ap (λ (v : Vote ℕ). v.leader_id.term) e in omega (arith, term)

abbrev IsOfFirst : Led → Type 0
IsOfFirst l = (length l.list ≤ 3) × (l.vote ≡ vote_of 1 1 true)

-- the first three notes are its own
notes : (number : ℕ) → number < 3 → (other : Led) → slice_get (run_of three another_leads).led number ≡ Some other → IsOfFirst other
notes zero l other is = let e : Some first ≡ Some other = is in subst IsOfFirst (same_some e) (omega arith, refl)
notes (suc zero) l other is = let e : Some first ≡ Some other = is in subst IsOfFirst (same_some e) (omega arith, refl)
notes (suc (suc zero)) l other is =
    let e : Some (noted first_entries) ≡ Some other = is in subst IsOfFirst (same_some e) (omega arith, refl)
notes (suc (suc (suc n))) l other is = absurd (omega (arith, l))

one_same : (j : ℕ) → j < 1 → slice_get (set_up_entry ∷ []) j ≡ slice_get first.list j
one_same zero l = refl
one_same (suc j) l = absurd (omega (arith, l))

pub returns-clause-base : goal.returns-clause-base
returns-clause-base c =
    record {
      number = 0;
      earlier = omega arith;
      other = first;
      there = refl;
      of_other = another_vote;
      front = record { left = omega arith; right = omega arith; same = λ j l. refl };
    }

pub returns-clause-front : goal.returns-clause-front
returns-clause-front c =
    record {
      number = 0;
      earlier = omega arith;
      other = first;
      there = refl;
      of_other = another_vote;
      front = record { left = omega arith; right = omega arith; same = one_same };
    }

pub returns-clause-longer : goal.returns-clause-longer
returns-clause-longer c = λ h. let at = notes h.number h.earlier h.other h.there in omega (arith, at.0, h.front.right)

pub returns-clause-own_vote : goal.returns-clause-own_vote
returns-clause-own_vote c = λ h. h.of_other (notes h.number h.earlier h.other h.there).1

pub returns-clause-later : goal.returns-clause-later
returns-clause-later c = λ h. let l = h.earlier in omega (arith, l)
