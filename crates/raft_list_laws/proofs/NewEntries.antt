-- A note has one new entry at most.
use Rattle.std.specs.Prelude.{◌≡◌, ◌⊎◌, ℕ, suc, ◌<◌, ◌≤◌, cond, Bool, true, false, List, [], ◌∷◌, ◌++◌, length, slice_get, Option, Some, is_some, refl}
use Rattle.std.proofs.Common.{inl, inr, sym, ap, ap₂, ◌∙◌, subst, arith, ⊎_elim, length-append}
use Rattle.std.proofs.lemmas.Bool.{cases_lt}
use Rattle.std.proofs.lemmas.Option.{none-some, slice_get_within}
use Rattle.raft_values.specs.declared.vote.LeaderId.{LeaderId}
use Rattle.raft_values.specs.declared.vote.Vote.{Vote}
use Rattle.raft_values.specs.declared.log_id.LogId.{LogId}
use Rattle.raft_state.specs.declared.entry.EntryPayload.TheVariants.{Blank}
use Rattle.raft_group_step.specs.Values.{Entry, entry_of, is_written_by}
use Rattle.raft_group_step.proofs.Votes.{leader_eq_same}
use Rattle.raft_laws.specs.BallotLists.{AgreeBelow}
use Rattle.raft_laws.specs.declared.world_event.WorldEvent.{WorldEvent}
use Rattle.raft_laws.specs.GroupWorld.{GroupWorld, Led, new_world}
use Rattle.raft_laws.specs.GroupRun.{group_run, happens, history_of, outcome_of}
use Rattle.raft_laws.specs.OneList.{AreNodeIds, IsGroupHistory}
use Rattle.raft_laws.specs.Origins.{Events}
use Rattle.raft_laws.specs.VotesRise.{stored_of}
use Rattle.raft_laws.proofs.BallotAgreement.{same_some, slice_get-append, slice_get_end, some_at}
use Rattle.raft_laws.proofs.BallotSafe.{Among, among_at}
use Rattle.raft_laws.proofs.Counts.{among_behind, among_contains, among_front, contains_among}
use Rattle.raft_laws.proofs.VoteRanks.{leader_eq_from}
use Rattle.raft_laws.proofs.Runs.{run-replays}
use Rattle.raft_laws.proofs.Standing.{OwnVote}
use Rattle.raft_laws.proofs.StepEntries.{each_at}
use Rattle.raft_laws.proofs.WorldOrigins.{run_more}
use Rattle.raft_laws.proofs.WorldStart.{Founded, founded}
use Rattle.raft_history_laws.proofs.LastNoted.{origin_is_last}
use Rattle.raft_history_laws.proofs.LeaderLists.{notes_are_own}
use Rattle.raft_history_laws.proofs.Notes.{NewNote, Notes, event_notes, note_of}
use Rattle.raft_list_laws.specs.Accounts.{Accounts, AreTrue}
use Rattle.raft_list_laws.specs.Bases.{base_of, before_own}
use Rattle.raft_list_laws.specs.NewEntries.{GoesOnByOne, NewEntriesAreFew, WasCommanded, behind}
use Rattle.raft_list_laws.proofs.Bases.{before_agrees, before_front}
use Rattle.raft_list_laws.proofs.BasesStay.{OwnBehind, all_own, same_votes}
use Rattle.raft_list_laws.proofs.EntryOrigins.{asked_noted, origins_of_run}
use Rattle.raft_list_laws.proofs.GoingOn.{notes_go_on}
use Rattle.raft_list_laws.proofs.NotedWorlds.{has_some, new_note_known}
use Rattle.raft_list_laws.proofs.OwnEntries.{own_behind}
use Rattle.raft_list_laws.proofs.OwnNotes.{Known, NoteKnown, OwnNew, OwnNoted, Unnoted, each_among}
use Rattle.raft_list_laws.proofs.Parts.{agree_whole}

-- ---- lists

-- a list that goes on from a front, by entries that all stand right behind it, has one more at most
pub one_past : (xs front : List Entry) (Q : Entry → Type 0) → AgreeBelow (length front) front xs → ((i : ℕ) (e : Entry) → length front ≤ i → slice_get xs i ≡ Some e → (i ≡ length front) × Q e) → (xs ≡ front) ⊎ ((x : Entry) × (xs ≡ front ++ x ∷ []) × Q x × (slice_get xs (length front) ≡ Some x))
one_past xs front Q agree past =
    ⊎_elim
    (λ more.
    let x = some_at xs (length front) more in
    let whole = front ++ x.0 ∷ [] in
    let size = length-append front (x.0 ∷ []) in
    let short : length xs ≤ suc (length front) =
    ⊎_elim
    (λ longer. let y = some_at xs (suc (length front)) longer in let at = (past (suc (length front)) y.0 (omega arith) y.1).0 in absurd (omega arith))
    (λ le. le)
    (cases_lt (suc (length front)) (length xs))
    in
    let same : (j : ℕ) → j < length xs → slice_get xs j ≡ slice_get whole j =
    λ j l.
    ⊎_elim
    (λ below. sym (agree.same j below) ∙ sym (slice_get-append front (x.0 ∷ []) j below))
    (λ above. let here : j ≡ length front = omega arith in ap (slice_get xs) here ∙ x.1 ∙ sym (slice_get_end front x.0) ∙ ap (slice_get whole) (sym here))
    (cases_lt j (length front))
    in
    let is : xs ≡ whole = agree_whole xs whole (record { left = omega arith; right = omega arith; same = same }) (omega arith) in
    inr (x.0, is, (past (length front) x.0 (omega arith) x.1).1, x.1))
    (λ le. let right = agree.right in inl (sym (agree_whole front xs agree (omega arith))))
    (cases_lt (length front) (length xs))

-- behind what a leader took over stands its first own entry
next_is_own : (leader : LeaderId ℕ) (xs : List Entry) (e : Entry) → slice_get xs (length (before_own leader xs)) ≡ Some e → is_written_by leader e ≡ true
next_is_own leader [] e is = absurd (none-some _ is)
next_is_own leader (x ∷ xs) e is = go (is_written_by leader x) refl is (next_is_own leader xs e)
  where
    go : (b : Bool) → is_written_by leader x ≡ b → slice_get (x ∷ xs) (length (cond b [] (x ∷ before_own leader xs))) ≡ Some e → (slice_get xs (length (before_own leader xs)) ≡ Some e → is_written_by leader e ≡ true) → is_written_by leader e ≡ true
    go true own here rest = subst (λ (y : Entry). is_written_by leader y ≡ true) (same_some here) own
    go false other past rest = rest past

pub as_behind : (vote : Vote ℕ) (list : List Entry) (x : Entry) → x.log_id.leader_id ≡ vote.leader_id → x.log_id.index ≡ length list → x ≡ behind vote list x.payload
as_behind vote list x leader index =
    ap₂ (λ (i : LeaderId ℕ) (j : ℕ). entry_of (record { leader_id = i; index = j }) x.payload) leader index

-- ---- the note

module _ (end : GroupWorld) (f : Founded end) (l : Led) (among : Among l end.led) (mine : OwnVote l.node l.vote true) (led : List Led) (own_led : (x : Led) → Among x led → OwnVote x.node x.vote true) (is : NoteKnown led l) where
  abbrev pub IsOwn : Entry → Type 0
  IsOwn e = e.log_id.leader_id ≡ l.vote.leader_id

  -- behind what it took over there are own entries alone
  own_past : (i : ℕ) (e : Entry) → length (base_of l) ≤ i → slice_get l.list i ≡ Some e → IsOwn e
  own_past i e le at =
      let within = slice_get_within l.list i e at in
      let x = some_at l.list (length (base_of l)) (omega arith) in
      own_behind end f l among (length (base_of l)) i x.0 e le x.1 at
      (leader_eq_same x.0.log_id.leader_id l.vote.leader_id (next_is_own l.vote.leader_id l.list x.0 x.1))

  pub placed : (i : ℕ) (e : Entry) → slice_get l.list i ≡ Some e → e.log_id.index ≡ i
  placed i e at = let p = (f.is.matches.fits.led l among).good.placed i e at in omega arith

  -- an own entry was noted under the vote, or is new
  pub own_cases : (i : ℕ) (e : Entry) → slice_get l.list i ≡ Some e → IsOwn e → OwnNoted led (length led) e ⊎ OwnNew led is.0 l.node l.vote e
  own_cases i e at own =
      ⊎_elim
      (λ known.
      ⊎_elim
      (λ first.
      let zero = ap (λ (id : LogId ℕ). id.leader_id.term) first in
      let same = ap (λ (x : LeaderId ℕ). x.term) own in
      let term = mine.term in
      absurd (omega arith))
      (λ o. inl o)
      known)
      (λ new. inr new)
      (each_at (λ (x : Entry). Known led x ⊎ OwnNew led is.0 l.node l.vote x) l.list i e is.1 at)

  -- ---- a leader that wasn't noted before

  module _ (unnoted : Unnoted led l.vote.leader_id) where
    pub new_blank : (i : ℕ) (e : Entry) → slice_get l.list i ≡ Some e → IsOwn e → (i ≡ is.0) × (e.payload ≡ Blank)
    new_blank i e at own =
        let place = placed i e at in
        ⊎_elim
        (λ o. absurd (unnoted o.note (among_at led o.number o.note o.there) (o.own ∙ own)))
        (λ n. (
          let index = n.1.0 in omega arith,
          ⊎_elim
              (λ w. absurd (unnoted w.0.note w.0.among (ap (λ (v : Vote ℕ). v.leader_id) w.0.of_vote)))
              (λ u. u.1)
              n.1.1,
        ))
        (own_cases i e at own)

    pub first_note : GoesOnByOne l.vote (base_of l) (λ e. e.payload ≡ Blank) l.list
    first_note =
        ⊎_elim
        (λ same. inl same)
        (λ x. inr (
          x.0.payload,
          x.1 ∙ ap (λ (e : Entry). base_of l ++ e ∷ []) (as_behind l.vote (base_of l) x.0 (own_past (length (base_of l)) x.0 (omega arith) x.3) (placed (length (base_of l)) x.0 x.3)),
          x.2,
        ))
        (one_past l.list (base_of l) (λ e. e.payload ≡ Blank) (before_agrees l.vote.leader_id l.list)
        (λ i e le at.
        let own = own_past i e le at in
        let new = new_blank i e at own in
        let within = slice_get_within l.list i e at in
        let x = some_at l.list (length (base_of l)) (omega arith) in
        let first = new_blank (length (base_of l)) x.0 x.1 (own_past (length (base_of l)) x.0 (omega arith) x.1) in
        let here = new.0 in
        let there = first.0 in
        (omega arith, new.1)))

  -- ---- a leader that was

  -- the last list under the vote
  module _ (list : List Entry) (last : Led) (among_last : Among last led) (of_vote : last.vote ≡ l.vote) (of_list : last.list ≡ list) (whole : (x : Led) → Among x led → x.vote ≡ l.vote → length x.list ≤ length list) (goes_on : AgreeBelow (length list) list l.list) (past : OwnBehind last l.list) where
    -- so the leader took over no more than that
    base_within : length (base_of l) ≤ length list
    base_within =
        ⊎_elim
        (λ more.
        let x = some_at (base_of l) (length list) more in
        let there = before_front l.vote.leader_id l.list (length list) x.0 x.1 in
        let size = ap length of_list in
        let own = past (length list) x.0 (omega arith) there.0 ∙ ap (λ (v : Vote ℕ). v.leader_id) of_vote in
        let no : false ≡ true = sym there.1 ∙ leader_eq_from x.0.log_id.leader_id l.vote.leader_id own in
        absurd cc)
        (λ le. le)
        (cases_lt (length list) (length (base_of l)))

    one_vote : (x : Led) → Among x led → x.vote.leader_id ≡ l.vote.leader_id → x.vote ≡ l.vote
    one_vote x a same = same_votes x.vote l.vote same ((own_led x a).flag ∙ sym mine.flag)

    new_told : (i : ℕ) (e : Entry) → length list ≤ i → slice_get l.list i ≡ Some e → (i ≡ length list) × (e.payload ≡ Blank → ⊥)
    new_told i e le at =
        let le_base = base_within in
        let own = own_past i e (omega arith) at in
        let place = placed i e at in
        ⊎_elim
        (λ o.
        let a = among_at led o.number o.note o.there in
        let short = whole o.note a (one_vote o.note a (o.own ∙ own)) in
        let reach = o.reaches in
        absurd (omega arith))
        (λ n.
        let index = n.1.0 in
        ⊎_elim
        (λ w. (
          let sized = w.0.sized in
              let short = whole w.0.note w.0.among w.0.of_vote in
              omega arith,
          w.1,
        ))
        (λ u. absurd (u.0 last among_last (ap (λ (v : Vote ℕ). v.leader_id) of_vote)))
        n.1.1)
        (own_cases i e at own)

    later_note : (Q : Entry → Type 0) → ((i : ℕ) (e : Entry) → slice_get l.list i ≡ Some e → IsOwn e → (e.payload ≡ Blank → ⊥) → Q e) → GoesOnByOne l.vote list Q l.list
    later_note Q asked =
        let le_base = base_within in
        ⊎_elim
        (λ same. inl same)
        (λ x.
        let own = own_past (length list) x.0 (omega arith) x.3 in
        let eq = as_behind l.vote list x.0 own (placed (length list) x.0 x.3) in
        inr (
          x.0.payload,
          x.1 ∙ ap (λ (e : Entry). list ++ e ∷ []) eq,
          subst Q eq (asked (length list) x.0 x.3 own x.2),
        ))
        (one_past l.list list (λ e. e.payload ≡ Blank → ⊥) goes_on (λ i e le at. new_told i e le at))

-- the note that is left is of the node's state
note_state : (w end : GroupWorld) (l : Led) → Notes w end → end.led ≡ w.led ++ l ∷ [] → (n : NewNote w end) × (l ≡ note_of n.node n.state)
note_state w end l notes grown =
    ⊎_elim
    (λ none. let size = ap length (sym none ∙ grown) in let more = length-append w.led (l ∷ []) in absurd (omega arith))
    (λ n. (
      n,
      same_some
          (sym (slice_get_end w.led l) ∙ ap (λ (ls : List Led). slice_get ls (length w.led)) (sym grown ∙ n.led) ∙ slice_get_end w.led (note_of n.node n.state)),
    ))
    notes

-- ---- runs

module _ (ids : List ℕ) (small : AreNodeIds ids) (es : Events) (last : WorldEvent × Option ℕ) (a : Accounts) (v : GroupWorld) (l : Led) (t : AreTrue a v) (before : v.led ≡ (group_run es (new_world ids)).led) (one : (group_run (es ++ last ∷ []) (new_world ids)).led ≡ v.led ++ l ∷ []) where
  abbrev all : Events
  all = es ++ last ∷ []

  abbrev w : GroupWorld
  w = group_run es (new_world ids)

  abbrev end : GroupWorld
  end = group_run all (new_world ids)

  history : IsGroupHistory ids (history_of all (new_world ids)) end
  history = record { node_ids = small; replays = run-replays all (new_world ids) }

  note_known : NoteKnown w.led l
  note_known =
      let step = run-replays (last ∷ []) w in
      let same : (group_run (last ∷ []) w).led ≡ w.led ++ l ∷ [] = ap (λ (x : GroupWorld). x.led) (sym (run_more es last (new_world ids))) ∙ one ∙ ap (λ (ls : List Led). ls ++ l ∷ []) before in
      new_note_known ids small (history_of es (new_world ids)) w (run-replays es (new_world ids))
      (record { event = last.0; outcome = outcome_of w last.0 (is_some last.1) }) step.1.0 step.0 l
      (ap (λ (x : GroupWorld). x.led) (sym step.1.1) ∙ same)

  among : Among l end.led
  among = subst (Among l) (sym one) (among_behind l v.led (l ∷ []) (inl refl))

  own_in : (x : Led) → Among x w.led → OwnVote x.node x.vote true
  own_in x here = notes_are_own ids small (history_of es (new_world ids)) w (run-replays es (new_world ids)) x here

  mine : OwnVote l.node l.vote true
  mine = notes_are_own ids small (history_of all (new_world ids)) end (run-replays all (new_world ids)) l among

  f : Founded end
  f = founded ids small (history_of all (new_world ids)) end (run-replays all (new_world ids))

  -- each earlier note under the vote is a front of what accounts keep
  within_latest : (x : Led) → Among x w.led → x.vote ≡ l.vote → length x.list ≤ length (a.latest l.vote)
  within_latest x here same =
      let there = among_contains v.led x (subst (Among x) (sym before) here) in
      subst (λ (u : Vote ℕ). length x.list ≤ length (a.latest u)) same (t.notes.latest x there).right

  first_is : a.latest l.vote ≡ [] → GoesOnByOne l.vote (base_of l) (λ e. e.payload ≡ Blank) l.list
  first_is none =
      first_note end f l among mine w.led own_in note_known
      (λ x here same.
      let le = within_latest x here (same_votes x.vote l.vote same ((own_in x here).flag ∙ sym mine.flag)) in
      let size = ap length none in
      let fits = (founded ids small (history_of es (new_world ids)) w (run-replays es (new_world ids))).is.matches.fits.led x here in
      let more = has_some x.list fits.has in
      omega arith)

  commanded : (i : ℕ) (e : Entry) → slice_get l.list i ≡ Some e → e.log_id.leader_id ≡ l.vote.leader_id → (e.payload ≡ Blank → ⊥) → WasCommanded all (new_world ids) e
  commanded i e at own told =
      let each = each_among _ end.led (origins_of_run ids all).led l among in
      ⊎_elim
      (λ blank. absurd (told blank))
      (λ o.
      let term = mine.term in
      let same = ap (λ (x : LeaderId ℕ). x.term) own in
      (o.0, o.1, o.2, origin_is_last ids small all o.0 o.1 e o.2 (asked_noted o.2 (omega arith))))
      (each_at _ l.list i e each at)

  -- the note is of the node's state
  state_noted : (n : NewNote w end) × (l ≡ note_of n.node n.state)
  state_noted =
      let step = run-replays (last ∷ []) w in
      let same : group_run all (new_world ids) ≡ happens w last.0 (outcome_of w last.0 (is_some last.1)) step.1.0 = run_more es last (new_world ids) ∙ step.1.1 in
      note_state w end l (subst (Notes w) (sym same) (event_notes w last.0 (outcome_of w last.0 (is_some last.1)) step.1.0))
      (one ∙ ap (λ (ls : List Led). ls ++ l ∷ []) before)

  -- past a note under its vote there are own entries alone
  own_after : (x : Led) → Among x w.led → x.vote ≡ l.vote → OwnBehind x l.list
  own_after x here same =
      let n = state_noted.0 in
      let is = state_noted.1 in
      let node : x.node ≡ n.node =
      sym (own_in x here).node ∙ ap (λ (u : Vote ℕ). u.leader_id.node_id) same ∙ mine.node ∙ ap (λ (y : Led). y.node) is
      in
      let there : Among x end.led = subst (Among x) (sym n.led) (among_front x w.led (note_of n.node n.state ∷ []) here) in
      subst (OwnBehind x) (sym (ap (λ (y : Led). y.list) is))
      (all_own ids small (history_of all (new_world ids)) end (run-replays all (new_world ids)) n.node x there node n.state.stored
      (ap stored_of n.is_up) (sym (same ∙ ap (λ (y : Led). y.vote) is)))

  later_is : (a.latest l.vote ≡ [] → ⊥) → GoesOnByOne l.vote (a.latest l.vote) (WasCommanded all (new_world ids)) l.list
  later_is some =
      ⊎_elim
      (λ none. absurd (some none))
      (λ x.
      later_note end f l among mine w.led own_in note_known (a.latest l.vote) x.0
      (subst (Among x.0) before (contains_among v.led x.0 x.1)) x.2 x.3 within_latest
      (notes_go_on ids (history_of all (new_world ids)) end history a v l t one)
      (own_after x.0 (subst (Among x.0) before (contains_among v.led x.0 x.1)) x.2)
      (WasCommanded all (new_world ids)) commanded)
      (t.notes.noted l.vote)

pub new_entries_are_few : NewEntriesAreFew
new_entries_are_few ids small es last a v l t before one =
    record {
      first = first_is ids small es last a v l t before one;
      later = later_is ids small es last a v l t before one;
    }
