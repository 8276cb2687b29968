-- Entries that are put and cut, and a leader that writes.
use Rattle.std.specs.Prelude.{◌≡◌, ℕ, zero, suc, ◌+◌, ◌<◌, ◌≤◌, ◌^◌, nat_lt, true, List, [], ◌∷◌, ◌++◌, length, take, slice_get, Option, Some, None, refl}
use Rattle.std.proofs.Common.{sym, ap, ap₂, ◌∙◌, subst, arith, eq-eqb, lt-ltb, take_all, length-take-le}
use Rattle.std.proofs.lemmas.Bool.{and_from, cond-true}
use Rattle.std.proofs.lemmas.List.{map-append}
use Rattle.std.proofs.lemmas.Option.{slice_get_within}
use Rattle.raft_values.specs.declared.log_id.LogId.{LogId}
use Rattle.raft_state.specs.declared.entry.EntryPayload.TheVariants.{Membership as Members}
use Rattle.raft_values.specs.LogId.{next_place}
use Rattle.raft_group_step.specs.Values.{Membership, Entry, EntryPayload, entry_of}
use Rattle.raft_group_step.specs.StoredGroup.{StoredGroup, PutEntries, CutFrom, after_storing, end_place, prefix_of, held}
use Rattle.raft_group_step.specs.GroupState.{Role}
use Rattle.raft_group_step.specs.StepResult.{StepResult, append, with_stored}
use Rattle.raft_laws.specs.BallotLogs.{BallotEntry}
use Rattle.raft_laws.specs.BallotWorld.{BallotNode, BallotWorld, BallotEvent, WriteEntry, is_ballot_leader, written, ballot_step}
use Rattle.raft_laws.specs.BallotRanks.{rank_of, owner_of, ballot_entry, ballot_log, ballot_group}
use Rattle.raft_laws.proofs.BallotAgreement.{with_value_same, same_some, slice_get-append}
use Rattle.raft_laws.proofs.BallotOthers.{Extends}
use Rattle.raft_laws.proofs.VoteRanks.{owner_is}
use Rattle.raft_laws.proofs.Shapes.{Good, Joined, good_take, good_append, joined_put, joined_end, joined_held, slice_take}
use Rattle.raft_laws.proofs.Memberships.{HasMembership, has_more}
use Rattle.raft_laws.proofs.Standing.{StoredFits, UpFits, LeadKept, RoleFits, OwnVote, role_on}
use Rattle.raft_laws.proofs.Tracking.{Tracks, track_event, step_extends}

-- what stands below a place stays there
pub below_stays : (xs ys : List Entry) (p i : ℕ) (e : Entry) → p ≤ length xs → i < p → slice_get xs i ≡ Some e → slice_get (take p xs ++ ys) i ≡ Some e
below_stays xs ys p i e l k h =
    let size = length-take-le p xs l in
    slice_get-append (take p xs) ys i (omega arith) ∙ slice_take p xs i k ∙ h

pub purge_index : (o : Option (LogId ℕ)) (id : LogId ℕ) → o ≡ Some id → id.index + 1 ≡ next_place o
purge_index o id e = sym (ap next_place e)

module _ {m : Membership} {x : BallotNode} {st : StoredGroup} {xs : List Entry} (fits : StoredFits m x st xs) (j : Joined st xs) (p : ℕ) (from : length (prefix_of st.snapshot) ≤ p) (to : p ≤ length xs) where
  -- entries are put from the place on
  pub put_fits : (es : List Entry) → Good m p es → (y : BallotNode) → y.ballot ≡ x.ballot → y.committed ≡ x.committed → y.log ≡ ballot_log (take p xs ++ es) → length (prefix_of st.snapshot) ≤ y.commit → StoredFits m y (after_storing (PutEntries p es) st) (take p xs ++ es)
  put_fits es good y a b c d =
      let size = length-take-le p xs to in
      let e : p ≡ 0 + length (take p xs) = omega arith in
      record {
        ballot = a ∙ fits.ballot;
        committed = b ∙ fits.committed;
        bound = fits.bound;
        log = c;
        good = good_append (good_take p fits.good) (subst (λ k. Good m k es) e good);
        snapshot = fits.snapshot;
        purged = λ id q.
            let has = fits.purged id q in
            let at = purge_index st.purged id q in
            record { entry = has.entry; there = below_stays xs es p id.index has.entry to (omega (arith, j.low)) has.there; same = has.same };
        reaches = d;
      }

  -- the list is cut there
  pub cut_fits : (y : BallotNode) → y.ballot ≡ x.ballot → y.committed ≡ x.committed → y.log ≡ ballot_log (take p xs) → length (prefix_of st.snapshot) ≤ y.commit → StoredFits m y (after_storing (CutFrom p) st) (take p xs)
  cut_fits y a b c d =
      record {
        ballot = a ∙ fits.ballot;
        committed = b ∙ fits.committed;
        bound = fits.bound;
        log = c;
        good = good_take p fits.good;
        snapshot = fits.snapshot;
        purged = λ id q.
            let has = fits.purged id q in
            let at = purge_index st.purged id q in
            record { entry = has.entry; there = slice_take p xs id.index (omega (arith, j.low)) ∙ has.there; same = has.same };
        reaches = d;
      }

abbrev entry-at : ℕ → EntryPayload → BallotEntry
entry-at b payload = record { ballot = b; payload = payload }

-- one entry of the group's
pub good_one : (m : Membership) (p : ℕ) (e : Entry) → e.log_id.index ≡ p → e.log_id.leader_id.node_id < 2 ^ 64 → ((x : Membership) → e.payload ≡ Members x → x.configs ≡ m.configs) → Good m p (e ∷ [])
good_one m p e a b c =
    record {
      placed = λ i x h. let q = only i x h in omega (arith, q.1, a, ap (λ v. v.log_id.index) q.0);
      bounded = λ i x h. let q = only i x h in subst (λ v. v.log_id.leader_id.node_id < 2 ^ 64) q.0 b;
      voters = λ i x y h k. let q = only i x h in c y (ap (λ v. v.payload) q.0 ∙ k);
    }
  where
    only : (i : ℕ) (x : Entry) → slice_get (e ∷ []) i ≡ Some x → (e ≡ x) × (i ≡ 0)
    only zero x h = (same_some h, refl)
    only (suc i) x h = absurd (let f : None ≡ Some x = h in cc)

pub leads : {m : Membership} {some : 0 < length m.configs} {own : ℕ} {before : List BallotEvent} {base : StoredGroup} (w : BallotWorld) (r : StepResult) (t : Tracks m some own before base w r) (mine : OwnVote own r.state.stored.vote true) → is_ballot_leader (ballot_group m) own (w.node own) ≡ true
leads {m} {some} {own} w r t mine =
    let owned : owner_of (rank_of r.state.stored.vote.leader_id) ≡ own = owner_is r.state.stored.vote.leader_id mine.term t.up.fits.bound ∙ mine.node in
    let pos : 0 < rank_of r.state.stored.vote.leader_id = omega (arith, mine.term) in
    and_from (w.node own).committed _ (t.up.fits.committed ∙ mine.flag)
    (and_from (nat_lt 0 (w.node own).ballot) _ (lt-ltb 0 (w.node own).ballot (omega (arith, t.up.fits.ballot)))
    (eq-eqb (owner_of (w.node own).ballot) own (ap owner_of t.up.fits.ballot ∙ owned)))

module _ {m : Membership} {some : 0 < length m.configs} {own : ℕ} {before : List BallotEvent} {base : StoredGroup} (w : BallotWorld) (r : StepResult) (t : Tracks m some own before base w r) (mine : OwnVote own r.state.stored.vote true) (payload : EntryPayload) (keeps : (x : Membership) → payload ≡ Members x → x.configs ≡ m.configs) where
  abbrev pub new_entry : Entry
  new_entry = entry_of (record { leader_id = r.state.stored.vote.leader_id; index = end_place r.state.stored }) payload

  pub write_is : ballot_step (ballot_group m) w (WriteEntry own payload) ≡ written w own payload
  write_is = cond-true _ _ _ (leads w r t mine)

  pub write_extends : Extends own w (written w own payload)
  write_extends = step_extends m own w (WriteEntry own payload) refl (written w own payload) write_is

  ends : end_place r.state.stored ≡ length t.up.list
  ends = joined_end r.state.stored t.up.list t.up.joined

  pub write_held : held (append payload r).state.stored ≡ take (end_place r.state.stored) t.up.list ++ new_entry ∷ []
  write_held =
      let p = end_place r.state.stored in
      joined_held (after_storing (PutEntries p (new_entry ∷ [])) r.state.stored) (take p t.up.list ++ new_entry ∷ [])
      (joined_put r.state.stored t.up.list t.up.joined p (omega (arith, ends, (t.up.joined).high)) (omega (arith, ends)) (new_entry ∷ []))

  -- the membership that the list had stays
  write_lead : LeadKept own (append payload r).state.stored
  write_lead =
      let p = end_place r.state.stored in
      record {
        term = λ c n. mine.term;
        has = λ c n.
            subst HasMembership (sym write_held)
            (has_more (take p t.up.list) (new_entry ∷ [])
            (subst HasMembership (sym (take_all p t.up.list (omega (arith, ends))))
            (subst HasMembership (joined_held r.state.stored t.up.list t.up.joined) (t.lead.has mine.flag mine.node))));
      }

  pub write_tracks : Tracks m some own before base (written w own payload) (append payload r)
  write_tracks =
      let u = t.up in
      let p = end_place r.state.stored in
      let xs = u.list in
      let low : length (prefix_of r.state.stored.snapshot) ≤ p = omega (arith, ends, (u.joined).high) in
      let high : p ≤ length xs = omega (arith, ends) in
      let log : (w.node own).log ++ entry-at (w.node own).ballot payload ∷ [] ≡ ballot_log (take p xs ++ new_entry ∷ []) =
      ap₂ (λ l b. l ++ entry-at b payload ∷ []) (u.fits.log ∙ ap ballot_log (sym (take_all p xs (omega (arith, ends))))) u.fits.ballot
      ∙ sym (map-append ballot_entry (take p xs) (new_entry ∷ []))
      in
      track_event (PutEntries p (new_entry ∷ [])) t (WriteEntry own payload) refl (written w own payload) write_is
      (subst (λ y. UpFits m y (with_stored r.state (after_storing (PutEntries p (new_entry ∷ [])) r.state.stored))) (sym (with_value_same w.node own _))
      (record {
        list = take p xs ++ new_entry ∷ [];
        fits =
            put_fits u.fits u.joined p low high (new_entry ∷ [])
            (good_one m p new_entry refl u.fits.bound keeps) _ refl refl log u.fits.reaches;
        joined = joined_put r.state.stored xs u.joined p low high (new_entry ∷ []);
        commit = u.commit;
        applied = u.applied;
      }))
      write_lead

  -- the role stays, over the longer list
  pub write_role : (role : Role) → RoleFits own w r.state.stored.vote t.up.list role → RoleFits own (written w own payload) r.state.stored.vote (take (end_place r.state.stored) t.up.list ++ new_entry ∷ []) role
  write_role role h =
      role_on own r.state.stored.vote t.up.list (take (end_place r.state.stored) t.up.list ++ new_entry ∷ []) role write_extends
      (λ i e q. below_stays t.up.list (new_entry ∷ []) (end_place r.state.stored) i e (omega (arith, ends)) (let l = slice_get_within t.up.list i e q in omega (arith, ends)) q)
      (λ has. has_more (take (end_place r.state.stored) t.up.list) (new_entry ∷ []) (subst HasMembership (sym (take_all (end_place r.state.stored) t.up.list (omega (arith, ends)))) has))
      h

  pub write_fits : (role : Role) → RoleFits own w r.state.stored.vote (held r.state.stored) role → RoleFits own (written w own payload) r.state.stored.vote (held (append payload r).state.stored) role
  write_fits role h =
      subst (λ l. RoleFits own (written w own payload) r.state.stored.vote l role) (sym write_held)
      (write_role role (subst (λ l. RoleFits own w r.state.stored.vote l role) (joined_held r.state.stored t.up.list t.up.joined) h))
