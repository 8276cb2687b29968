-- What an engine knows of a log whose leaders never fall is valid.
use Rattle.std.specs.Prelude.{◌≡◌, ℕ, zero, suc, ◌+◌, ◌-◌, ◌<◌, ◌≤◌, ◌==◌, ◌&&◌, Bool, true, false, not, if◌then◌else◌, List, [], ◌∷◌, ◌++◌, Option, Some, None, is_some, is_none, option_and_then, Result, Ok, Err, IfErr, refl}
use Rattle.std.specs.List.{AllByRecursion, slice_get}
use Rattle.std.specs.Option.{option_or}
use Rattle.std.specs.Ordering.{nat_cmp}
use Rattle.std.specs.declared.cmp.Ordering.TheVariants.{Equal}
use Rattle.std.specs.Cmp.{nat_cmp_is}
use Rattle.std.proofs.Common.{ap, sym, ◌∙◌, subst, arith}
use Rattle.std.proofs.lemmas.Bool.Decides.{nat_tests}
use Rattle.raft_values.specs.declared.log_id.LogId.{LogId}
use Rattle.raft_values.specs.declared.validate.Invalid.{Invalid}
use Rattle.raft_values.specs.declared.validate.Invalid.TheVariants.{CommittedPastLog, FirstLogId, PurgePastCommitted, PurgePastSnapshot, PurgedPastGoal, SnapshotPastCommitted}
use Rattle.raft_values.specs.LogId.{is_past, next_place, place_of}
use Rattle.raft_membership.specs.MembershipState.{membership_fault}
use Rattle.raft_state.specs.declared.raft_state.RaftState.{RaftState}
use Rattle.raft_log_ids.specs.LogIdList.{id_at as id_in, last_id as last_in}
use Rattle.raft_state.specs.State.{begins_at, last_purged, purge_fault, state_fault}
use Rattle.raft_log_ids.specs.Faults.{or_fault}
use Rattle.raft_state.specs.declared.entry.EntryPayload.TheVariants.{Blank, Normal, Membership as Members}
use Rattle.raft_group_step.specs.Values.{Entry, EntryPayload}
use Rattle.raft_group_step.specs.StoredGroup.{StoredGroup, end_place, first_place, id_at, membership_in_force, snapshot_last}
use Rattle.raft_group_step.specs.GroupState.{GroupState}
use Rattle.raft_group_step.specs.Frames.{committed_id}
use Rattle.raft_known_state.specs.KnownState.{ArePlaced, EffectiveMembership, IsPlaced, effective_of, entry_ids, force_of_snapshot, is_below, last_else, memberships_in, purged_ids, stored_ids, take_below, with_membership_of}
use Rattle.raft_known_state.proofs.KnownStateLemmas.{end-known, force_known, id_at-known, last-known, noted_known, purged_known, start_of, stored_placed}
use Rattle.raft_known_state.proofs.PlacedIds.{below_first, by_order, id_at-placed}
use Rattle.raft_engine.specs.Standing.{Engine, IsInOrder, IsStateOf}
use Rattle.raft_engine.specs.Valid.{IsRising, IsUpTo, MayWish, NeverFall}
use Rattle.raft_engine.proofs.PurgeLemmas.{snapshot_known}

-- ---- the order of log ids

equal_numbers : (n : ℕ) → nat_cmp n n ≡ Equal
equal_numbers n = sym (nat_cmp_is n n Equal refl)

up_to_itself : (id : Option (LogId ℕ)) → IsUpTo id id
up_to_itself None = refl
up_to_itself (Some id) = rw (equal_numbers id.leader_id.term, equal_numbers id.leader_id.node_id, equal_numbers id.index) refl

module _ {X : Type 0} (P : X → Type 0) where
  of_all : (xs : List X) (n : ℕ) (x : X) → AllByRecursion P xs → slice_get xs n ≡ Some x → P x
  of_all [] n x h e = cc
  of_all (y ∷ xs) zero x h e = let same : y ≡ x = cc in subst P same h.0
  of_all (y ∷ xs) (suc n) x h e = of_all xs n x h.1 e

never_past : (ids : List (LogId ℕ)) (n m : ℕ) (a b : LogId ℕ) → NeverFall ids → slice_get ids n ≡ Some a → slice_get ids m ≡ Some b → n ≤ m → IsUpTo (Some a) (Some b)
never_past [] n m a b h e f l = cc
never_past (x ∷ ids) zero zero a b h e f l = let same : a ≡ b = cc in subst (λ y. IsUpTo (Some a) (Some y)) same (up_to_itself (Some a))
never_past (x ∷ ids) zero (suc m) a b h e f l =
    let same : x ≡ a = cc in subst (λ y. IsUpTo (Some y) (Some b)) same (of_all (λ later. IsUpTo (Some x) (Some later)) ids m b h.0 f)
never_past (x ∷ ids) (suc n) zero a b h e f l = absurd (omega arith)
never_past (x ∷ ids) (suc n) (suc m) a b h e f l = never_past ids n m a b h.1 e f (omega arith)

-- ---- log ids by their places

position : (s : StoredGroup) (i : ℕ) (a : LogId ℕ) → IsPlaced s → id_at s i ≡ Some a → (start_of s.purged ≤ i) × (slice_get (stored_ids s) (i - start_of s.purged) ≡ Some a)
position s i a p e =
    let start = start_of s.purged in
    let placed = stored_placed s.purged s.log p in
    let found : id_in (stored_ids s) i ≡ Some a = id_at-known s i p ∙ e in
    by_order i start
    (λ l. let none : None ≡ Some a = sym (below_first i (stored_ids s) start placed l) ∙ found in cc)
    (λ l. (l, sym (id_at-placed i (stored_ids s) start placed l) ∙ found))

-- the log id is that of its place, if there is one
abbrev IsFound : StoredGroup → Option (LogId ℕ) → Type 0
IsFound s id = (x : LogId ℕ) → id ≡ Some x → id_at s x.index ≡ Some x

up_to : (s : StoredGroup) (a b : Option (LogId ℕ)) → IsPlaced s → NeverFall (stored_ids s) → IsFound s a → IsFound s b → next_place a ≤ next_place b → IsUpTo a b
up_to s None b p h f g l = refl
up_to s (Some x) None p h f g l = absurd (omega arith)
up_to s (Some x) (Some y) p h f g l =
    let first = position s x.index x p (f x refl) in
    let second = position s y.index y p (g y refl) in
    let low = first.0 in
    let high = second.0 in
    never_past (stored_ids s) (x.index - start_of s.purged) (y.index - start_of s.purged) x y h first.1 second.1 (omega arith)

purged_found : (s : StoredGroup) → IsFound s s.purged
purged_found s p e =
    let next : first_place s ≡ p.index + 1 = ap next_place e in
    let at : (p.index + 1 == first_place s) ≡ true = grind (arith, nat_tests, next) in rw at e

committed_found : (s : GroupState) → IsInOrder s → IsFound s.stored (committed_id s)
committed_found s o x e = sym (ap (option_and_then (id_at s.stored)) (sym o.committed ∙ ap place_of e)) ∙ e

last_found : (s : StoredGroup) → IsPlaced s → IsFound s (last_in (stored_ids s))
last_found s p y e =
    let ends : y.index + 1 ≡ end_place s = ap next_place (sym e) ∙ end-known s p in
    let some : (end_place s == 0) ≡ false = grind (arith, nat_tests, ends) in
    let at : y.index ≡ end_place s - 1 = omega arith in
    ap (id_at s) at ∙ behind (end_place s == 0) some (sym (last-known s p) ∙ e)
  where
    behind : (b : Bool) → b ≡ false → (if b then None else id_at s (end_place s - 1)) ≡ Some y → id_at s (end_place s - 1) ≡ Some y
    behind true f g = cc
    behind false f g = g

-- up to where the log is to be purged is found in it, between the purge point and the snapshot's end
goal_between : (s : StoredGroup) (wish : Option (LogId ℕ)) → MayWish s wish → first_place s ≤ next_place (snapshot_last s)
    → IsFound s (option_or wish s.purged) × (first_place s ≤ next_place (option_or wish s.purged)) × (next_place (option_or wish s.purged) ≤ next_place (snapshot_last s))
goal_between s None may within = (purged_found s, omega arith, within)
goal_between s (Some id) may within =
    let low : first_place s ≤ id.index = may.0 in
    let high : id.index < next_place (snapshot_last s) = may.1 in
    let there : id_at s id.index ≡ Some id = may.2 in
    (λ x e. let both : Some id ≡ Some x = e in let same : id ≡ x = cc in subst (λ (y : LogId ℕ). id_at s y.index ≡ Some y) same there, omega arith, omega arith)

-- ---- memberships

abbrev MembersNeverFall : List EffectiveMembership → Type 0
MembersNeverFall [] = Unit {0}
MembersNeverFall (m ∷ ms) = AllByRecursion (λ (later : EffectiveMembership). IsUpTo m.log_id later.log_id) ms × MembersNeverFall ms

members_after : (id : LogId ℕ) (es : List Entry) → AllByRecursion (λ later. IsUpTo (Some id) (Some later)) (entry_ids es) → AllByRecursion (λ (m : EffectiveMembership). IsUpTo (Some id) m.log_id) (memberships_in es)
members_after id [] h = tt
members_after id (e ∷ es) h = here e.payload (members_after id es h.1)
  where
    here : (x : EntryPayload) → AllByRecursion (λ (m : EffectiveMembership). IsUpTo (Some id) m.log_id) (memberships_in es)
        → AllByRecursion (λ (m : EffectiveMembership). IsUpTo (Some id) m.log_id) (with_membership_of e.log_id x (memberships_in es))
    here Blank rest = rest
    here (Normal command) rest = rest
    here (Members m) rest = (h.0, rest)

members_never_fall : (es : List Entry) → NeverFall (entry_ids es) → MembersNeverFall (memberships_in es)
members_never_fall [] h = tt
members_never_fall (e ∷ es) h = here e.payload (members_never_fall es h.1)
  where
    here : (x : EntryPayload) → MembersNeverFall (memberships_in es) → MembersNeverFall (with_membership_of e.log_id x (memberships_in es))
    here Blank rest = rest
    here (Normal command) rest = rest
    here (Members m) rest = (members_after e.log_id es h.0, rest)

log_never_falls : (purged : Option (LogId ℕ)) (log : List Entry) → NeverFall (purged_ids purged ++ entry_ids log) → NeverFall (entry_ids log)
log_never_falls None log h = h
log_never_falls (Some id) log h = h.1

-- each membership is at or below the last one
up_to_last : (m y : EffectiveMembership) (ys : List EffectiveMembership) → AllByRecursion (λ (later : EffectiveMembership). IsUpTo m.log_id later.log_id) (y ∷ ys) → IsUpTo m.log_id (last_else y ys).log_id
up_to_last m y [] h = h.0
up_to_last m y (z ∷ ys) h = up_to_last m z ys h.1

-- and so is the last one below a place
below_last : (place : ℕ) (m : EffectiveMembership) (ms : List EffectiveMembership) → IsUpTo m.log_id (last_else m ms).log_id → MembersNeverFall ms → IsUpTo (last_else m (take_below place ms)).log_id (last_else m ms).log_id
below_last place m [] first h = up_to_itself m.log_id
below_last place m (y ∷ ys) first h =
    elim (is_below place y.log_id) as (λ b. IsUpTo (last_else m (if b then y ∷ take_below place ys else [])).log_id (last_else y ys).log_id) [
      | true ↦ below_last place y ys (to_last ys h.0) h.1
      | false ↦ first
    ]
  where
    to_last : (zs : List EffectiveMembership) → AllByRecursion (λ (later : EffectiveMembership). IsUpTo y.log_id later.log_id) zs → IsUpTo y.log_id (last_else y zs).log_id
    to_last [] k = up_to_itself y.log_id
    to_last (z ∷ zs) k = up_to_last y z zs k

-- ---- the faults of a state

begins : (purged : Option (LogId ℕ)) (log : List Entry) → ArePlaced (next_place purged) log → begins_at (next_place purged) (slice_get (purged_ids purged ++ entry_ids log) 0) ≡ true
begins None [] p = refl
begins None (e ∷ es) p = let at : e.log_id.index ≡ 0 = p.0 in grind (arith, nat_tests, at)
begins (Some id) log p =
    let at : id.index + 1 ≡ suc id.index = omega arith in
    let same : (id.index == id.index) ≡ true = grind (arith, nat_tests) in
    ap (λ n. begins_at n (Some id)) at ∙ same

no_purge_fault : (snapshot upto committed : Option (LogId ℕ)) → IsUpTo upto committed → IsUpTo upto snapshot
    → or_fault (is_none snapshot && is_past nat_cmp upto committed) PurgePastCommitted (or_fault (is_some snapshot && is_past nat_cmp upto snapshot) PurgePastSnapshot None) ≡ None
no_purge_fault None upto committed e f = rw e refl
no_purge_fault (Some x) upto committed e f = rw f refl

no_fault : (a b c d : Bool) (p m : Option Invalid) (v w x y : Invalid) → a ≡ false → b ≡ false → p ≡ None → c ≡ false → d ≡ false → m ≡ None
    → or_fault a v (or_fault b w (option_or p (or_fault c x (or_fault d y m)))) ≡ None
no_fault a b c d p m v w x y e f g h i j = rw (e, f, g, h, i, j) refl

abbrev StateOf : Type 0
StateOf = RaftState ℕ (List ℕ) ℕ

module _ {C R : Type 0} (own : ℕ) (e : Engine C R) (s : GroupState) (stands : IsStateOf own e s) (rising : IsRising s.stored) (may : MayWish s.stored e.state.wish) where
  snapshot_is : e.state.state.snapshot_meta.last_log_id ≡ snapshot_last s.stored
  snapshot_is = snapshot_known s.stored e.state.state.snapshot_meta stands.knows.snapshot

  below : (a b : Option (LogId ℕ)) → IsFound s.stored a → IsFound s.stored b → next_place a ≤ next_place b → IsUpTo a b
  below a b f g l = up_to s.stored a b stands.order.placed rising.ids f g l

  -- up to where the log is to be purged
  abbrev goal_of : Option (LogId ℕ)
  goal_of = option_or e.state.wish s.stored.purged

  between : IsFound s.stored goal_of × (first_place s.stored ≤ next_place goal_of) × (next_place goal_of ≤ next_place (snapshot_last s.stored))
  between = goal_between s.stored e.state.wish may stands.order.purged

  purged_in_goal : IsUpTo s.stored.purged goal_of
  purged_in_goal = below s.stored.purged goal_of (purged_found s.stored) between.0 between.1

  goal_in_stored : IsUpTo goal_of (snapshot_last s.stored)
  goal_in_stored = below goal_of (snapshot_last s.stored) between.0 rising.snapshot between.2

  snapshot_in_committed : IsUpTo (snapshot_last s.stored) (committed_id s)
  snapshot_in_committed = below (snapshot_last s.stored) (committed_id s) rising.snapshot (committed_found s stands.order) stands.order.snapshot

  goal_before_committed : IsUpTo goal_of (committed_id s)
  goal_before_committed =
      let first = between.2 in
      let second = stands.order.snapshot in
      below goal_of (committed_id s) between.0 (committed_found s stands.order) (omega arith)

  committed_in_log : IsUpTo (committed_id s) (last_in (stored_ids s.stored))
  committed_in_log =
      let within = stands.order.within in
      let ends = end-known s.stored stands.order.placed in
      below (committed_id s) (last_in (stored_ids s.stored)) (committed_found s stands.order) (last_found s.stored stands.order.placed) (omega arith)

  members_in_order : IsUpTo e.state.state.membership_state.committed.log_id e.state.state.membership_state.effective.log_id
  members_in_order =
      let k = e.state in
      let knows = stands.knows in
      let noted = noted_known k s.stored knows in
      let snapshot = force_of_snapshot k.state.snapshot_meta in
      let rise : MembersNeverFall k.memberships = subst MembersNeverFall (sym knows.memberships) (members_never_fall s.stored.log (log_never_falls s.stored.purged s.stored.log rising.ids)) in
      let force = force_known k s.stored knows.snapshot knows.memberships in
      let first : IsUpTo snapshot.log_id (last_else snapshot k.memberships).log_id =
      subst (λ (m : EffectiveMembership). IsUpTo snapshot.log_id m.log_id) (sym force)
      (subst (λ meta. IsUpTo (force_of_snapshot meta).log_id (effective_of (membership_in_force s.stored)).log_id) (sym knows.snapshot) rising.members) in
      subst (λ (m : EffectiveMembership). IsUpTo e.state.state.membership_state.committed.log_id m.log_id) (sym noted.0)
      (subst (λ (m : EffectiveMembership). IsUpTo m.log_id (last_else snapshot k.memberships).log_id) (sym noted.1)
      (below_last (next_place k.state.committed) snapshot k.memberships first rise))

  -- the same of what the engine has noted
  purged_to_goal : IsUpTo (last_purged e.state.state.purged_next e.state.state.log_ids) e.state.state.purge_upto
  purged_to_goal =
      subst (λ id. IsUpTo id e.state.state.purge_upto) (sym (purged_known e.state s.stored stands.knows))
      (subst (IsUpTo s.stored.purged) (sym stands.knows.goal) purged_in_goal)

  goal_in_committed : IsUpTo e.state.state.purge_upto e.state.state.committed
  goal_in_committed = subst (λ id. IsUpTo id e.state.state.committed) (sym stands.knows.goal) (subst (IsUpTo goal_of) (sym stands.committed) goal_before_committed)

  goal_in_snapshot : IsUpTo e.state.state.purge_upto e.state.state.snapshot_meta.last_log_id
  goal_in_snapshot = subst (λ id. IsUpTo id e.state.state.snapshot_meta.last_log_id) (sym stands.knows.goal) (subst (IsUpTo goal_of) (sym snapshot_is) goal_in_stored)

  covered_is_committed : IsUpTo e.state.state.snapshot_meta.last_log_id e.state.state.committed
  covered_is_committed = subst (λ id. IsUpTo id e.state.state.committed) (sym snapshot_is) (subst (IsUpTo (snapshot_last s.stored)) (sym stands.committed) snapshot_in_committed)

  committed_is_logged : IsUpTo e.state.state.committed (last_in e.state.state.log_ids)
  committed_is_logged =
      subst (λ id. IsUpTo id (last_in e.state.state.log_ids)) (sym stands.committed)
      (subst (λ ids. IsUpTo (committed_id s) (last_in ids)) (sym stands.knows.ids) committed_in_log)

  begins_right : begins_at e.state.state.purged_next (slice_get e.state.state.log_ids 0) ≡ true
  begins_right =
      ap (λ n. begins_at n (slice_get e.state.state.log_ids 0)) stands.knows.purged
      ∙ ap (λ ids. begins_at (first_place s.stored) (slice_get ids 0)) stands.knows.ids
      ∙ begins s.stored.purged s.stored.log stands.order.placed

  no_members_fault : membership_fault nat_cmp e.state.state.membership_state ≡ None
  no_members_fault = rw members_in_order refl

  pub nothing_wrong : state_fault nat_cmp e.state.state ≡ None
  nothing_wrong =
      no_fault (not (begins_at e.state.state.purged_next (slice_get e.state.state.log_ids 0)))
      (is_past nat_cmp (last_purged e.state.state.purged_next e.state.state.log_ids) e.state.state.purge_upto)
      (is_past nat_cmp e.state.state.snapshot_meta.last_log_id e.state.state.committed)
      (is_past nat_cmp e.state.state.committed (last_in e.state.state.log_ids))
      (purge_fault nat_cmp e.state.state) (membership_fault nat_cmp e.state.state.membership_state)
      FirstLogId PurgedPastGoal SnapshotPastCommitted CommittedPastLog
      (ap not begins_right) purged_to_goal
      (no_purge_fault e.state.state.snapshot_meta.last_log_id e.state.state.purge_upto e.state.state.committed goal_in_committed goal_in_snapshot)
      covered_is_committed committed_is_logged no_members_fault

-- an answer that refuses tells a fault
pub never_refused : (answer : Result (Unit {0}) Invalid) (fault : Option Invalid) → IfErr answer (λ e. fault ≡ Some e) → fault ≡ None → answer ≡ Ok tt
never_refused (Ok done) fault h e = refl
never_refused (Err refused) fault h e = cc
