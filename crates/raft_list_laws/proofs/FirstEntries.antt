-- Each noted list begins with the entry of the set-up: nobody leads without a membership, so no leader writes the first entry.
use Rattle.std.specs.Prelude.{◌≡◌, ◌⊎◌, ℕ, ◌<◌, ◌≤◌, true, List, [], ◌∷◌, ◌++◌, length, slice_get, Some, None}
use Rattle.std.proofs.Common.{sym, ap, ap₂, ◌∙◌, subst, arith, ⊎_elim}
use Rattle.std.proofs.lemmas.Bool.{cases_lt}
use Rattle.std.proofs.lemmas.Option.{none-some, slice_get_within}
use Rattle.raft_values.specs.declared.vote.LeaderId.{LeaderId}
use Rattle.raft_values.specs.declared.log_id.LogId.{LogId}
use Rattle.raft_values.specs.LogId.{log_id_of}
use Rattle.raft_state.specs.declared.entry.EntryPayload.TheVariants.{Blank, Membership as Members}
use Rattle.raft_group_step.specs.Values.{Entry, EntryPayload, Membership, entry_of, last_membership, membership_after}
use Rattle.raft_laws.specs.BallotLists.{AgreeBelow}
use Rattle.raft_laws.specs.BallotLogs.{BallotEntry}
use Rattle.raft_laws.specs.BallotRanks.{ballot_entry, ballot_group, ballot_log, rank_of}
use Rattle.raft_laws.specs.BallotWorld.{first_entry}
use Rattle.raft_laws.specs.GroupWorld.{GroupWorld, Led, Recorded, new_world}
use Rattle.raft_laws.specs.GroupRun.{Replays, happens}
use Rattle.raft_laws.specs.OneList.{AreNodeIds, IsGroupHistory}
use Rattle.raft_laws.proofs.BallotAgreement.{agree_less, agree_sym, agree_trans, same_some, some_at}
use Rattle.raft_laws.proofs.BallotSafe.{Among, among_at}
use Rattle.raft_laws.proofs.Counts.{among_front, contains_at}
use Rattle.raft_laws.proofs.HeldLists.{events}
use Rattle.raft_laws.proofs.Ids.{ballot_at}
use Rattle.raft_laws.proofs.Memberships.{HasMembership}
use Rattle.raft_laws.proofs.SettledFits.{same_lists}
use Rattle.raft_laws.proofs.Standing.{OwnVote}
use Rattle.raft_laws.proofs.WorldFits.{after_safe}
use Rattle.raft_laws.proofs.WorldRuns.{among_either}
use Rattle.raft_laws.proofs.WorldStart.{Founded, founded}
use Rattle.raft_history_laws.proofs.Along.{along, one_more}
use Rattle.raft_history_laws.proofs.LeaderLists.{notes_are_own}
use Rattle.raft_history_laws.proofs.Notes.{event_notes, note_of}
use Rattle.raft_list_laws.specs.Bases.{SetUpsComeFirst}
use Rattle.raft_list_laws.proofs.Matching.{agrees_with_ballot, ballots}
use Rattle.raft_list_laws.proofs.NewEntries.{new_blank, own_cases, placed}
use Rattle.raft_list_laws.proofs.NotedWorlds.{all_known, has_some, new_note_known}
use Rattle.raft_list_laws.proofs.OwnEntries.{own_behind}
use Rattle.raft_list_laws.proofs.OwnNotes.{KnownBelow, NoteKnown}
use Rattle.raft_list_laws.proofs.Parts.{agree_whole}
use Rattle.raft_laws.proofs.StepEntries.{each_at}

-- the leader of the note didn't write its first entry
abbrev FollowsFirst : Led → Type 0
FollowsFirst l = (e : Entry) → slice_get l.list 0 ≡ Some e → e.log_id.leader_id ≡ l.vote.leader_id → ⊥

-- a blank entry alone has no membership
blank_alone : (e : Entry) → e.payload ≡ Blank → HasMembership (e ∷ []) → ⊥
blank_alone e blank has =
    let none : last_membership None (e ∷ []) ≡ None = ap (λ (p : EntryPayload). membership_after None e.log_id p) blank in
    none-some _ (sym none ∙ has.1)

module _ (end : GroupWorld) (f : Founded end) where
  -- a note of the entry's own leader has it too
  noted_first : (l : Led) (among : Among l end.led) (note : Led) (there : Among note end.led) (e : Entry) → slice_get l.list 0 ≡ Some e → note.vote.leader_id ≡ e.log_id.leader_id → 0 < length note.list → slice_get note.list 0 ≡ Some e
  noted_first l among note there e at own more =
      let fits = f.is.matches.fits.led note there in
      let list = (ballots end f).lead in
      let first = agrees_with_ballot end f l among 0 e at in
      let second : AgreeBelow 1 (ballot_log note.list) (list (rank_of e.log_id.leader_id)) =
      agree_less 1 (omega arith) (subst (λ (x : LeaderId ℕ). AgreeBelow (length note.list) (ballot_log note.list) (list (rank_of x))) own fits.front)
      in
      let same = same_lists 1 (f.is.matches.fits.led l among).good fits.good (agree_trans first (agree_sym second)) in
      sym (same.same 0 (omega arith)) ∙ at

  module _ (l : Led) (among : Among l end.led) (mine : OwnVote l.node l.vote true) (led : List Led) (in_end : (x : Led) → Among x led → Among x end.led) (own_led : (x : Led) → Among x led → OwnVote x.node x.vote true) (is : NoteKnown led l) (before : (x : Led) → Among x led → FollowsFirst x) where
    next_follows : FollowsFirst l
    next_follows e at own =
        let place = placed end f l among mine led own_led is 0 e at in
        ⊎_elim
        (λ o.
        let there = among_at led o.number o.note o.there in
        before o.note there e (noted_first l among o.note (in_end o.note there) e at o.own (let r = o.reaches in omega arith)) (sym o.own))
        (λ n.
        let index = n.1.0 in
        ⊎_elim
        (λ w.
        let size = w.0.sized in
        let more = has_some w.0.note.list (f.is.matches.fits.led w.0.note (in_end w.0.note w.0.among)).has in
        absurd (omega arith))
        (λ u.
        let short : length l.list ≤ 1 =
        ⊎_elim
        (λ longer.
        let y = some_at l.list 1 longer in
        let also = own_behind end f l among 0 1 e y.0 (omega arith) at y.1 own in
        let again = (new_blank end f l among mine led own_led is u.0 1 y.0 y.1 also).0 in
        absurd (omega arith))
        (λ le. le)
        (cases_lt 1 (length l.list))
        in
        let within = slice_get_within l.list 0 e at in
        let alone : l.list ≡ e ∷ [] =
        agree_whole l.list (e ∷ [])
        (record { left = omega arith; right = omega arith; same = λ j less. let first : j ≡ 0 = omega arith in ap (slice_get l.list) first ∙ at ∙ ap (slice_get (e ∷ [])) (sym first) })
        (omega arith)
        in
        blank_alone e u.1 (subst HasMembership alone (f.is.matches.fits.led l among).has))
        n.1.1)
        (own_cases end f l among mine led own_led is 0 e at own)

abbrev AllFollow : GroupWorld → Type 0
AllFollow w = (l : Led) → Among l w.led → FollowsFirst l

all_follow : (ids : List ℕ) → AreNodeIds ids → (rs : List Recorded) (end : GroupWorld) → Replays (new_world ids) rs end → AllFollow end
all_follow ids small rs end run =
    along ids AllFollow
    (λ early w past r k is h.
    let next = happens w r.event r.outcome k in
    let run' = one_more early (new_world ids) w past r k is in
    ⊎_elim
    (λ same l a. h l (subst (Among l) same a))
    (λ x l a.
    let note = note_of x.node x.state in
    ⊎_elim
    (λ old. h l old)
    (λ new.
    ⊎_elim
    (λ e.
    let one : next.led ≡ w.led ++ l ∷ [] = x.led ∙ ap (λ (y : Led). w.led ++ y ∷ []) (sym e) in
    next_follows next (founded ids small (early ++ r ∷ []) next run') l a
    (notes_are_own ids small (early ++ r ∷ []) next run' l a) w.led
    (λ y b. subst (Among y) (sym x.led) (among_front y w.led (note ∷ []) b))
    (λ y b. notes_are_own ids small early w past y b)
    (new_note_known ids small early w past r k is l one) h)
    (λ none. absurd none)
    new)
    (among_either l w.led (note ∷ []) (subst (Among l) x.led a)))
    (event_notes w r.event r.outcome k))
    (λ l none. absurd none) rs end run

-- ---- so the first entry is that of the set-up

module _ (ids : List ℕ) (rs : List Recorded) (end : GroupWorld) (h : IsGroupHistory ids rs end) (note : ℕ) (l : Led) (at : slice_get end.led note ≡ Some l) where
  f : Founded end
  f = founded ids h.node_ids rs end h.replays

  among : Among l end.led
  among = among_at end.led note l at

  no_leader : (e : Entry) → slice_get l.list 0 ≡ Some e → e.log_id ≡ log_id_of 0 0 0
  no_leader e first =
      ⊎_elim
      (λ own. absurd (all_follow ids h.node_ids rs end h.replays l among e first own))
      (λ known.
      ⊎_elim
      (λ is. is)
      (λ o.
      let there = among_at end.led o.number o.note o.there in
      absurd (all_follow ids h.node_ids rs end h.replays o.note there e (noted_first end f l among o.note there e first o.own (let r = o.reaches in omega arith)) (sym o.own)))
      known)
      (each_at (λ (y : Entry). (y.log_id.leader_id ≡ l.vote.leader_id) ⊎ KnownBelow end.led note y) l.list 0 e
      ((all_known ids h.node_ids rs end h.replays).bases note l at) first)

  -- the machine's first entry
  same_first : (e : Entry) → slice_get l.list 0 ≡ Some e → e.payload ≡ Members f.membership
  same_first e first =
      let rank = ap (λ (id : LogId ℕ). rank_of id.leader_id) (no_leader e first) in
      let list = (ballots end f).lead in
      let agree = subst (λ r. AgreeBelow 1 (ballot_log l.list) (list r)) rank (agrees_with_ballot end f l among 0 e first) in
      let founding = (after_safe f.membership f.some (events f.membership f.some end f.is)).first in
      let same : Some (ballot_entry e) ≡ Some (first_entry (ballot_group f.membership)) =
      sym (ballot_at l.list 0 e first) ∙ agree.same 0 (omega arith) ∙ sym (founding.same 0 (omega arith))
      in
      ap (λ (x : BallotEntry). x.payload) (same_some same)

  first_is : (m : Membership) → end.setup ≡ Some m → slice_get l.list 0 ≡ Some (entry_of (log_id_of 0 0 0) (Members m))
  first_is m set_up =
      ⊎_elim
      (λ known.
      let more = has_some l.list (f.is.matches.fits.led l among).has in
      let x = some_at l.list 0 more in
      let e : Entry = x.0 in
      let membership : f.membership ≡ m = same_some (sym known ∙ set_up) in
      x.1 ∙ ap₂ (λ (id : LogId ℕ) (p : EntryPayload). Some (entry_of id p)) (no_leader e x.1) (same_first e x.1 ∙ ap (λ (y : Membership). let p : EntryPayload = Members y in p) membership))
      (λ none. absurd (none l among))
      f.is.setup

pub set_ups_come_first : SetUpsComeFirst
set_ups_come_first ids rs end h m set_up l c = let at = contains_at end.led l c in first_is ids rs end h at.0 l at.1 m set_up
