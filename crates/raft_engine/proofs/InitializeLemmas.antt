-- A new group is set up.
use Rattle.std.specs.Prelude.{◌≡◌, ℕ, zero, suc, ◌+◌, ◌-◌, ◌<◌, ◌≤◌, ◌^◌, ◌==◌, ◌&&◌, nat_lt, Bool, true, false, if◌then◌else◌, List, [], ◌∷◌, ◌++◌, length, take, Option, Some, None, is_none, refl}
use Rattle.std.specs.Bool.{beq}
use Rattle.std.specs.List.{slice_get}
use Rattle.std.specs.Option.{is_some}
use Rattle.std.proofs.Common.{ap, sym, ◌∙◌, subst, append-nil, arith}
use Rattle.std.proofs.lemmas.Bool.{eqb-true}
use Rattle.std.proofs.lemmas.List.{nil_from_length}
use Rattle.raft_values.specs.declared.log_id.LogId.{LogId}
use Rattle.raft_values.specs.declared.vote.LeaderId.{LeaderId}
use Rattle.raft_values.specs.LogId.{log_id_of, next_place, place_of}
use Rattle.raft_values.specs.Vote.{vote_of}
use Rattle.raft_state.specs.declared.entry.EntryPayload.TheVariants.{Membership as Members}
use Rattle.raft_quorums.specs.QuorumLaws.{and_left, and_right}
use Rattle.raft_group_step.specs.Values.{Entry, Membership, entry_of, leader_eq, vote_eq}
use Rattle.raft_group_step.specs.StoredGroup.{StoredGroup, StoringCommand, CutFrom, PutEntries, after_storing, end_place, entry_at, first_place, log_below}
use Rattle.raft_group_step.specs.GroupState.{GroupState, Candidate}
use Rattle.raft_group_step.specs.StepResult.{StepResult, in_role, step_down, store, store_vote, is_within, tokens_of}
use Rattle.raft_group_step.specs.AppendRequest.{put_entries}
use Rattle.raft_group_step.specs.Frames.{committed_id}
use Rattle.raft_group_step.specs.Lead.{with_grant}
use Rattle.raft_group_step.specs.Elect.{ask, elect_step, other_voters}
use Rattle.raft_group_step.specs.Initialize.{is_new}
use Rattle.raft_engine.specs.Standing.{IsInOrder}

nothing_taken : (n : ℕ) → take n (let log : List Entry = [] in log) ≡ []
nothing_taken zero = refl
nothing_taken (suc n) = refl

no_place : (found : Option (LogId ℕ)) → next_place found ≤ 0 → place_of found ≡ None
no_place None l = refl
no_place (Some id) l = absurd (omega arith)

-- the first entry, which has the membership
abbrev pub first_entry : Membership → Entry
first_entry m = entry_of (log_id_of 0 0 0) (Members m)

pub first_is : (id : LogId ℕ) (leader : LeaderId ℕ) (m : Membership) (none entries : List Entry) → id ≡ record { leader_id = leader; index = 0 } → leader.term ≡ 0 → leader.node_id ≡ 0 → none ≡ []
    → entries ≡ none ++ entry_of id (Members m) ∷ [] → entries ≡ first_entry m ∷ []
first_is id leader m none entries id_is term node none_is entries_are =
    entries_are ∙ ap (λ front. front ++ entry_of id (Members m) ∷ []) none_is
    ∙ ap (λ i. entry_of i (Members m) ∷ []) (id_is ∙ ap (λ t. log_id_of t leader.node_id 0) term ∙ ap (λ n. log_id_of 0 n 0) node)

module _ (s : StoredGroup) (new : is_new s ≡ true) where
  no_vote_and_end : (vote_eq s.vote (vote_of 0 0 false) && end_place s == 0) ≡ true
  no_vote_and_end = and_left (vote_eq s.vote (vote_of 0 0 false) && end_place s == 0) (is_none s.snapshot) new

  -- a new group's log ends where it begins
  pub ends_at_start : end_place s ≡ 0
  ends_at_start = eqb-true (end_place s) 0 (and_right (vote_eq s.vote (vote_of 0 0 false)) (end_place s == 0) no_vote_and_end)

  pub first_term : s.vote.leader_id.term ≡ 0
  first_term =
      eqb-true s.vote.leader_id.term 0
      (and_left (s.vote.leader_id.term == 0) (s.vote.leader_id.node_id == 0)
      (and_left (leader_eq s.vote.leader_id (vote_of 0 0 false).leader_id) (beq s.vote.committed false)
      (and_left (vote_eq s.vote (vote_of 0 0 false)) (end_place s == 0) no_vote_and_end)))

  empty_log : s.log ≡ []
  empty_log = let end = ends_at_start in nil_from_length s.log (omega (arith, end))

  nothing_there : is_some (entry_at s 0) ≡ false
  nothing_there =
      ap (λ log. is_some (if nat_lt 0 (first_place s) then None else slice_get log (0 - first_place s))) empty_log ∙ neither (nat_lt 0 (first_place s))
    where
      neither : (b : Bool) → is_some (if b then None else slice_get (let log : List Entry = [] in log) (0 - first_place s)) ≡ false
      neither true = refl
      neither false = refl

  -- entries at its first place are its log
  log_after : (es : List Entry) → log_below s 0 ++ es ≡ es
  log_after es = ap (λ log. take (0 - first_place s) log ++ es) empty_log ∙ ap (λ log. log ++ es) (nothing_taken (0 - first_place s))

  -- an entry at its first place ends at the next one
  pub ends_behind_first : (e : Entry) → end_place (after_storing (PutEntries 0 (e ∷ [])) s) ≡ 1
  ends_behind_first e =
      let start : first_place s ≡ 0 = let end = ends_at_start in omega (arith, end) in
      let one : length (log_below s 0 ++ e ∷ []) ≡ 1 = ap length (log_after (e ∷ [])) in
      omega (arith, start, one)

  -- with one entry the log ends behind it
  pub room_after : (e : Entry) → end_place (after_storing (PutEntries 0 (e ∷ [])) s) < 2 ^ 63
  room_after e = let end = ends_behind_first e in omega (arith, end)

-- nothing is committed in a new group
pub none_committed : (s : GroupState) → IsInOrder s → is_new s.stored ≡ true → is_within 0 s.committed ≡ false
none_committed s o new = ap (is_within 0) (sym o.committed ∙ no_place (committed_id s) (subst (λ n. next_place (committed_id s) ≤ n) (ends_at_start s.stored new) o.within))

-- nothing has to be cut from its log
pub put_first : (m : Membership) (r : StepResult) → is_new r.state.stored ≡ true → put_entries (first_entry m ∷ []) r ≡ store (PutEntries 0 (first_entry m ∷ [])) r
put_first m r new = ap (λ b. store (PutEntries 0 (first_entry m ∷ [])) (if b then store (CutFrom 0) r else r)) (nothing_there r.state.stored new)

module _ (own : ℕ) where
  -- an election of a node that has stepped down
  abbrev elect_from : StepResult → StepResult
  elect_from r =
      let stood = ask own (other_voters own r.state.stored) (in_role (Candidate []) (store_vote (vote_of (r.state.stored.vote.leader_id.term + 1) own false) r))
      in with_grant own stood.state.role stood

  -- who has stepped down before it stored something need not do it again
  pub elect_once : (c : StoringCommand) (r : StepResult) → elect_step own (store c (step_down r)) ≡ elect_step own (store c r)
  elect_once c r = ap (λ unknown. elect_from (record (step_down (store c r)) { unknown = unknown })) (append-nil (r.unknown ++ tokens_of r.state.untold))
