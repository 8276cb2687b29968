-- What a leader tells of its list: its last log id, and at its first note what it took over.
use Rattle.std.specs.Prelude.{◌≡◌, ℕ, suc, ◌+◌, ◌-◌, ◌<◌, ◌≤◌, ◌==◌, true, false, List, [], ◌∷◌, ◌++◌, drop, length, slice_get, take, Option, Some, None, refl}
use Rattle.std.proofs.Common.{inl, sym, ap, ◌∙◌, subst, arith, ⊎_elim, eq-eqb, eqb-true, length-take-le}
use Rattle.std.proofs.lemmas.Bool.{cases_Bool, cases_lt, cond-false, cond-true, eqb-false, ne_eqb}
use Rattle.std.proofs.lemmas.Option.{slice_get_within}
use Rattle.raft_values.specs.declared.vote.LeaderId.{LeaderId}
use Rattle.raft_values.specs.declared.vote.Vote.{Vote}
use Rattle.raft_values.specs.declared.log_id.LogId.{LogId}
use Rattle.raft_values.specs.LogId.{next_place}
use Rattle.raft_state.specs.declared.entry.EntryPayload.TheVariants.{Blank}
use Rattle.raft_group_step.specs.Values.{Entry, is_written_by, leader_eq}
use Rattle.raft_group_step.specs.StoredGroup.{StoredGroup, end_place, entry_at, first_place, id_at, id_of, last_id, prefix_of}
use Rattle.raft_group_step.proofs.Votes.{leader_eq_same}
use Rattle.raft_known_state.specs.KnownState.{entry_ids, purged_ids}
use Rattle.raft_laws.specs.GroupWorld.{GroupWorld, Led, Up, Recorded}
use Rattle.raft_laws.specs.GroupRun.{led_after}
use Rattle.raft_laws.specs.VotesRise.{stored_of}
use Rattle.raft_laws.proofs.BallotAgreement.{same_some, some_at}
use Rattle.raft_laws.proofs.BallotSafe.{Among}
use Rattle.raft_laws.proofs.Counts.{among_behind, among_contains}
use Rattle.raft_laws.proofs.HeldLists.{at_node}
use Rattle.raft_laws.proofs.Shapes.{Joined, joined_at, joined_end, joined_held, slice_take}
use Rattle.raft_laws.proofs.Standing.{HasId, OwnVote}
use Rattle.raft_laws.proofs.BallotSafe.{among_at}
use Rattle.raft_laws.proofs.StepEntries.{Each, each_at}
use Rattle.raft_laws.proofs.StepFits.{NodeFits, world_after}
use Rattle.raft_laws.proofs.WorldStart.{Founded, founded}
use Rattle.raft_history_laws.proofs.LeaderLists.{notes_are_own}
use Rattle.raft_list_facts.specs.Leads.{base_of as told_base_of, before_all, before_own as told_before_own}
use Rattle.raft_list_facts.specs.declared.leading.Leading.{Leading}
use Rattle.raft_list_facts.specs.declared.leading.Base.{Base}
use Rattle.raft_list_facts.specs.declared.leading.Base.TheVariants.{Nothing, Unknown, UpTo}
use Rattle.raft_list_laws.specs.Accounts.{Accounts, AreTrue}
use Rattle.raft_list_laws.specs.Bases.{base_of, before_own}
use Rattle.raft_list_laws.proofs.BasesStay.{same_votes}
use Rattle.raft_list_laws.specs.NewEntries.{GoesOnByOne}
use Rattle.raft_list_laws.proofs.NewEntries.{first_note}
use Rattle.raft_list_laws.proofs.NotedWorlds.{has_some, new_note_known}
use Rattle.raft_list_laws.proofs.OwnNotes.{Known, Unnoted}
use Rattle.raft_group_lists.specs.Notes.{EndsWith}
use Rattle.raft_list_steps.specs.Reports.{HasLast, IsBase}
use Rattle.raft_list_reports.specs.Laws.{BasesAreTold, LeavesNote, NotesAreTold}
use Rattle.raft_list_reports.proofs.Happening.{IsOfLeader, history_behind, left_led, of_leader, where_it_happens}
use Rattle.raft_list_reports.proofs.Lists.{base_behind, ends_at, past_others}
use Rattle.raft_list_reports.proofs.Snapshots.{snapshots_before}

-- ---- of a stored part that is joined to one list

module _ (st : StoredGroup) (xs : List Entry) (j : Joined st xs) (purged : (id : LogId ℕ) → st.purged ≡ Some id → HasId xs id) where
  -- what stands at the end
  purged_end : (o : Option (LogId ℕ)) → st.purged ≡ o → (k : ℕ) → length xs ≡ suc k → k + 1 ≡ first_place st → HasLast xs o
  purged_end None is k size first = absurd (let none : first_place st ≡ 0 = ap (next_place {K = ℕ}) is in omega arith)
  purged_end (Some id) is k size first =
      let h = purged id is in
      let place : first_place st ≡ id.index + 1 = ap (next_place {K = ℕ}) is in
      let here : id.index ≡ k = omega arith in
      subst (λ (x : LogId ℕ). EndsWith xs x) h.same (ends_at xs k h.entry (ap (slice_get xs) (sym here) ∙ h.there) size)

  log_end : (k : ℕ) (e : Entry) → slice_get xs k ≡ Some e → length xs ≡ suc k → (k + 1 ≡ first_place st → ⊥) → HasLast xs (id_of (entry_at st k))
  log_end k e at size other =
      let low : first_place st ≤ k =
      ⊎_elim (λ less. let front = j.low in let within = j.high in absurd (other (omega arith))) (λ le. le) (cases_lt k (first_place st))
      in
      subst (λ (o : Option Entry). HasLast xs (id_of o)) (sym (joined_at st xs j k low ∙ at)) (ends_at xs k e at size)

  last_told : HasLast xs (last_id st)
  last_told = go xs refl
    where
      size : end_place st ≡ length xs
      size = joined_end st xs j

      go : (ys : List Entry) → xs ≡ ys → HasLast xs (last_id st)
      go [] none =
          let empty : end_place st ≡ 0 = size ∙ ap length none in
          subst (HasLast xs) (sym (cond-true (end_place st == 0) None (id_at st (end_place st - 1)) (eq-eqb (end_place st) 0 empty))) none
      go (y ∷ ys) more =
          let long : length xs ≡ suc (length ys) = ap length more in
          let k = end_place st - 1 in
          let x = some_at xs k (omega (arith, size)) in
          let last : length xs ≡ suc k = omega (arith, size) in
          let told : last_id st ≡ id_at st k = cond-false (end_place st == 0) None (id_at st k) (ne_eqb (end_place st) 0 (λ e. omega (arith, size))) in
          subst (HasLast xs) (sym told)
          (⊎_elim
          (λ yes. subst (HasLast xs) (sym (cond-true (k + 1 == first_place st) st.purged (id_of (entry_at st k)) yes)) (purged_end st.purged refl k last (eqb-true (k + 1) (first_place st) yes)))
          (λ no. subst (HasLast xs) (sym (cond-false (k + 1 == first_place st) st.purged (id_of (entry_at st k)) no)) (log_end k x.0 x.1 last (eqb-false (k + 1) (first_place st) no)))
          (cases_Bool (k + 1 == first_place st)))

  -- what is purged is of others
  module _ (leader : LeaderId ℕ) (others : (i : ℕ) (e : Entry) → i < first_place st → slice_get xs i ≡ Some e → e.log_id.leader_id ≡ leader → ⊥) where
    other_at : (i : ℕ) (e : Entry) → i < first_place st → slice_get xs i ≡ Some e → is_written_by leader e ≡ false
    other_at i e less at =
        ⊎_elim
        (λ yes. absurd (others i e less at (leader_eq_same e.log_id.leader_id leader yes)))
        (λ no. no)
        (cases_Bool (is_written_by leader e))

    base_told : (o : Option (LogId ℕ)) → st.purged ≡ o → IsBase (before_own leader xs) (told_before_own leader (before_all o) (purged_ids o ++ entry_ids st.log))
    base_told None is =
        let whole : st.log ≡ xs = j.log ∙ ap (λ (o : Option (LogId ℕ)). drop (next_place o) xs) is in
        subst (λ (es : List Entry). IsBase (before_own leader xs) (told_before_own leader Nothing (entry_ids es))) (sym whole)
        (base_behind leader [] xs Nothing refl)
    base_told (Some id) is =
        let h = purged id is in
        let place : first_place st ≡ id.index + 1 = ap (next_place {K = ℕ}) is in
        let k = id.index + 1 in
        let within = slice_get_within xs id.index h.entry h.there in
        let size : length (take k xs) ≡ suc id.index = length-take-le k xs (omega arith) ∙ (let e : k ≡ suc id.index = omega arith in e) in
        let last : slice_get (take k xs) id.index ≡ Some h.entry = slice_take k xs id.index (omega arith) ∙ h.there in
        let ends : EndsWith (take k xs) id = subst (λ (x : LogId ℕ). EndsWith (take k xs) x) h.same (ends_at (take k xs) id.index h.entry last size) in
        let rest : st.log ≡ drop k xs = j.log ∙ ap (λ (o : Option (LogId ℕ)). drop (next_place o) xs) is in
        let split = past_others leader k xs (λ i e less at. other_at i e (omega arith) at) in
        let other : leader_eq id.leader_id leader ≡ false =
        ap (λ (x : LogId ℕ). leader_eq x.leader_id leader) (sym h.same) ∙ other_at id.index h.entry (omega arith) h.there
        in
        let told : told_before_own leader Unknown (id ∷ entry_ids st.log) ≡ told_before_own leader (UpTo id) (entry_ids st.log) =
        cond-false (leader_eq id.leader_id leader) Unknown (told_before_own leader (UpTo id) (entry_ids st.log)) other
        in
        subst (λ (b : Base). IsBase (before_own leader xs) b) (sym told)
        (subst (λ (es : List Entry). IsBase (before_own leader xs) (told_before_own leader (UpTo id) (entry_ids es))) (sym rest)
        (subst (λ (ys : List Entry). IsBase ys (told_before_own leader (UpTo id) (entry_ids (drop k xs)))) (sym split)
        (base_behind leader (take k xs) (drop k xs) (UpTo id) ends)))

-- ---- of a note

module _ (ids : List ℕ) (w : GroupWorld) (r : Recorded) (w' : GroupWorld) (node : ℕ) (l : Led) (leaves : LeavesNote ids w r w' node l) where
  abbrev pub rs : List Recorded
  rs = leaves.behind.history ++ r ∷ []

  pub leads : IsOfLeader r.outcome node (w'.nodes node) l
  leads = of_leader r.outcome node (w'.nodes node) l leaves.note

  abbrev pub st : StoredGroup
  st = leads.state.stored

  pub f : Founded w'
  f = founded ids leaves.behind.before.node_ids rs w' (history_behind ids w r w' leaves.behind).replays

  fits : NodeFits f.membership (world_after f.membership f.is.matches.before) node leads.state
  fits = (at_node f.membership (world_after f.membership f.is.matches.before) w' f.is.matches.fits node (Up leads.state) leads.up).1

  abbrev xs : List Entry
  xs = fits.up.list

  held_is : l.list ≡ xs
  held_is = ap (λ (x : Led). x.list) leads.is ∙ joined_held st xs fits.up.joined

  pub last_is : HasLast l.list (last_id st)
  last_is = subst (λ (ys : List Entry). HasLast ys (last_id st)) (sym held_is) (last_told st xs fits.up.joined fits.up.fits.purged)

  pub led_grown : w'.led ≡ w.led ++ l ∷ []
  led_grown =
      ⊎_elim
      (λ no. absurd (let e : [] ≡ l ∷ [] = sym (ap (λ o. led_after o node (w'.nodes node)) no.outcome) ∙ leaves.note in cc))
      (λ there. left_led w r w' node there ∙ ap (λ (ls : List Led). w.led ++ ls) leaves.note)
      (where_it_happens ids w r w' node leaves.behind leaves.there)

  pub noted_end : Among l w'.led
  noted_end = subst (Among l) (sym led_grown) (among_behind l w.led (l ∷ []) (inl refl))

  pub mine : OwnVote l.node l.vote true
  mine = notes_are_own ids leaves.behind.before.node_ids rs w' (history_behind ids w r w' leaves.behind).replays l noted_end

  -- the first note under its vote
  module _ (a : Accounts) (v : GroupWorld) (t : AreTrue a v) (same : v.led ≡ w.led) (none : a.latest l.vote ≡ []) where
    pub unnoted : Unnoted w.led l.vote.leader_id
    unnoted x among leader =
        let g = founded ids leaves.behind.before.node_ids leaves.behind.history w leaves.behind.before.replays in
        let own = notes_are_own ids leaves.behind.before.node_ids leaves.behind.history w leaves.behind.before.replays x among in
        let vote = same_votes x.vote l.vote leader (own.flag ∙ sym mine.flag) in
        let there = among_contains v.led x (subst (Among x) (sym same) among) in
        let front = subst (λ (u : Vote ℕ). length x.list ≤ length (a.latest u)) vote (t.notes.latest x there).right in
        let empty = ap length none in
        let more = has_some x.list (g.is.matches.fits.led x among).has in
        omega arith

    foreign : (i : ℕ) (e : Entry) → i < first_place st → slice_get xs i ≡ Some e → e.log_id.leader_id ≡ l.vote.leader_id → ⊥
    foreign i e less at own =
        let j = fits.up.joined in
        let short : i < length (prefix_of st.snapshot) = omega (arith, j.low) in
        let there : slice_get (prefix_of st.snapshot) i ≡ Some e =
        ap (λ (ys : List Entry). slice_get ys i) j.front ∙ slice_take (length (prefix_of st.snapshot)) xs i short ∙ at
        in
        let known : Each (Known w.led) (prefix_of st.snapshot) =
        subst (λ (x : GroupWorld). (y : StoredGroup) → stored_of (x.nodes node) ≡ Some y → Each (Known w.led) (prefix_of y.snapshot)) (sym leaves.behind.event.1.1)
        (snapshots_before ids leaves.behind.before.node_ids leaves.behind.history w leaves.behind.before.replays r leaves.behind.event.1.0 leaves.behind.event.0 node)
        st (ap stored_of leads.up)
        in
        ⊎_elim
        (λ first.
        let zero = ap (λ (id : LogId ℕ). id.leader_id.term) first in
        let term = mine.term in
        let its = ap (λ (x : LeaderId ℕ). x.term) own in
        omega arith)
        (λ o. unnoted o.note (among_at w.led o.number o.note o.there) (o.own ∙ own))
        (each_at (Known w.led) (prefix_of st.snapshot) i e known there)

    base_is : IsBase (base_of l) (told_base_of st)
    base_is =
        let leader : l.vote.leader_id ≡ st.vote.leader_id = ap (λ (x : Led). x.vote.leader_id) leads.is in
        subst (λ (x : LeaderId ℕ). IsBase (before_own x l.list) (told_base_of st)) (sym leader)
        (subst (λ (ys : List Entry). IsBase (before_own st.vote.leader_id ys) (told_base_of st)) (sym held_is)
        (base_told st xs fits.up.joined fits.up.fits.purged st.vote.leader_id
        (λ i e less at own. foreign i e less at (own ∙ sym leader)) st.purged refl))

-- the first note under a vote has a blank entry behind what its leader took over, or nothing
pub first_is_blank : (ids : List ℕ) (w : GroupWorld) (r : Recorded) (w' : GroupWorld) (node : ℕ) (l : Led) (leaves : LeavesNote ids w r w' node l) → (a : Accounts) (v : GroupWorld) → AreTrue a v → v.led ≡ w.led → a.latest l.vote ≡ [] → GoesOnByOne l.vote (base_of l) (λ (e : Entry). e.payload ≡ Blank) l.list
first_is_blank ids w r w' node l leaves a v t same none =
    let bh = leaves.behind in
    let noted = led_grown ids w r w' node l leaves in
    first_note w' (f ids w r w' node l leaves) l (noted_end ids w r w' node l leaves) (mine ids w r w' node l leaves) w.led
    (λ x among. notes_are_own ids bh.before.node_ids bh.history w bh.before.replays x among)
    (new_note_known ids bh.before.node_ids bh.history w bh.before.replays r bh.event.1.0 bh.event.0 l (ap (λ (x : GroupWorld). x.led) (sym bh.event.1.1) ∙ noted))
    (unnoted ids w r w' node l leaves a v t same none)

pub notes_are_told : NotesAreTold
notes_are_told ids w r w' node l leaves =
    let x = leads ids w r w' node l leaves in (
      record { vote = x.state.stored.vote; last = last_id x.state.stored; base = told_base_of x.state.stored },
      x.told,
      ap (λ (y : Led). y.vote) x.is,
      last_is ids w r w' node l leaves,
    )

pub bases_are_told : BasesAreTold
bases_are_told ids w r w' node l leaves leading told a v t same none =
    let x = leads ids w r w' node l leaves in
    let is : leading.base ≡ told_base_of x.state.stored = ap (λ (y : Leading). y.base) (same_some (sym told ∙ x.told)) in
    subst (IsBase (base_of l)) (sym is) (base_is ids w r w' node l leaves a v t same none)
