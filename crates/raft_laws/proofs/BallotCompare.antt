-- A log that ends at least where another does holds what the other holds of the lesser leaders, as long as that may be settled.
use Rattle.std.proofs.Common.{◌≡◌, ℕ, suc, ◌<◌, ◌≤◌, List, [], ◌∷◌, length, Some, true, ◌&&◌, eqb, refl, sym, ◌∙◌, subst, arith, inl, inr, ⊎_elim, eqb-true, ltb-true, leb-true}
use Rattle.std.specs.Prelude.{slice_get, ◌⊎◌, nat_lt, nat_le}
use Rattle.std.proofs.lemmas.Bool.{or_cases, and_parts, cases_order, cases_lt}
use Rattle.raft_laws.specs.BallotLists.{AgreeBelow}
use Rattle.raft_laws.specs.BallotLogs.{BallotEntry, last_ballot, log_end, is_at_least}
use Rattle.raft_laws.specs.BallotWorld.{BallotGroup, BallotWorld}
use Rattle.raft_laws.proofs.BallotAgreement.{some_at, agree_less, agree_trans}
use Rattle.raft_laws.proofs.BallotMerging.{last_at}
use Rattle.raft_laws.proofs.BallotSafe.{GoodLog, IsOpen, Safe}

-- the last entry
record End (xs : List BallotEntry) : Type 0 where
  place : ℕ
  count : length xs ≡ suc place
  entry : BallotEntry
  stands : slice_get xs place ≡ Some entry
  ballot : entry.ballot ≡ last_ballot xs

end_of : (xs : List BallotEntry) → (0 < length xs) ⊎ (0 < last_ballot xs) → End xs
end_of [] h = absurd (⊎_elim (λ a. omega arith) (λ a. omega arith) h)
end_of (x ∷ xs) h =
    let e = last_at (x ∷ xs) (length xs) refl in
    record { place = length xs; count = refl; entry = e.0; stands = e.1; ballot = e.2 }

order : (a b : List BallotEntry) → is_at_least (log_end a) (log_end b) ≡ true → (last_ballot b < last_ballot a) ⊎ ((last_ballot a ≡ last_ballot b) × (length b ≤ length a))
order a b h =
    ⊎_elim
    (λ t. inl (ltb-true (last_ballot b) (last_ballot a) t))
    (λ t. let parts = and_parts (eqb (last_ballot a) (last_ballot b)) (nat_le (length b) (length a)) t in
    inr (eqb-true (last_ballot a) (last_ballot b) parts.0, leb-true (length b) (length a) parts.1))
    (or_cases (nat_lt (last_ballot b) (last_ballot a)) (eqb (last_ballot a) (last_ballot b) && nat_le (length b) (length a)) h)

module _ {g : BallotGroup} {w : BallotWorld} (ok : Safe g w) (theirs ours : List BallotEntry) {a b : ℕ} (good : GoodLog w.lead w.led theirs a) (good' : GoodLog w.lead w.led ours b) (v i : ℕ) (open' : IsOpen g w v i) (kept : AgreeBelow (suc i) ours (w.lead v)) where
  -- by the last entries, theirs and ours
  compared : (t : End theirs) (s : End ours) → (last_ballot ours < last_ballot theirs) ⊎ ((last_ballot theirs ≡ last_ballot ours) × (length ours ≤ length theirs)) → AgreeBelow (suc i) theirs (w.lead v)
  compared t s by =
      let x = some_at (w.lead v) i kept.right in
      let own : x.0.ballot ≡ v = open'.own x.0 x.1 in
      let ours-x = kept.same i (omega arith) ∙ x.1 in
      let up : x.0.ballot ≤ s.entry.ballot = good'.rising i s.place x.0 s.entry (omega (arith, s.count, kept.left)) ours-x s.stands in
      let match = good.matches t.place t.entry t.stands in
      ⊎_elim
      -- the same ballot
      (λ e.
      let at_v = subst (λ c. AgreeBelow (suc t.place) theirs (w.lead c)) e match in
      agree_less (suc i)
      (⊎_elim (λ l. absurd (omega (arith, l, s.ballot, t.ballot))) (λ m. omega (arith, m.1, t.count, kept.left)) by)
      at_v)
      (⊎_elim
      (λ l. absurd (⊎_elim (λ m. omega (arith, m, s.ballot, t.ballot)) (λ m. omega (arith, m.0, s.ballot, t.ballot)) by))
      -- a greater one
      (λ l.
      let led = good.known t.place t.entry t.stands (omega arith) in
      let above = ok.above v t.entry.ballot i l led open' in
      let x-there = above.same i (omega arith) ∙ x.1 in
      let last-there = sym (match.same t.place (omega arith)) ∙ t.stands in
      let within : i < t.place =
      ⊎_elim (λ m. m) (λ m. absurd (omega (arith, (ok.leads t.entry.ballot).rising t.place i t.entry x.0 m last-there x-there))) (cases_lt i t.place)
      in
      agree_trans (agree_less (suc i) (omega arith) match) above))
      (cases_order t.entry.ballot v)

  pub holds_too : is_at_least (log_end theirs) (log_end ours) ≡ true → AgreeBelow (suc i) theirs (w.lead v)
  holds_too h =
      let by = order theirs ours h in
      compared
      (end_of theirs (⊎_elim (λ l. inr (omega arith)) (λ e. inl (omega (arith, e.1, kept.left))) by))
      (end_of ours (inl (omega (arith, kept.left))))
      by
