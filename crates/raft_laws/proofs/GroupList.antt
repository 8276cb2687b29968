-- The group's list has just the settled entries, and only grows.
use Rattle.std.specs.Prelude.{◌≡◌, ◌⊎◌, ℕ, zero, suc, ◌<◌, ◌≤◌, ◌*◌, ◌&&◌, ◌==◌, nat_lt, Bool, true, List, [], ◌∷◌, count_by, length, map, take, slice_get, Option, Some, None, Contains, refl}
use Rattle.std.specs.List.{list_any}
use Rattle.std.proofs.Common.{inl, inr, sym, ap, ◌∙◌, subst, arith, ⊎_elim}
use Rattle.std.proofs.lemmas.Bool.{and_parts, and_from, or_cases, or_left, or_right}
use Rattle.std.proofs.lemmas.Option.{slice_get_within}
use Rattle.raft_values.specs.declared.vote.Vote.{Vote}
use Rattle.raft_values.specs.declared.log_id.LogId.{LogId}
use Rattle.raft_quorums.specs.Quorum.{is_quorum as is_quorum_of}
use Rattle.raft_group_step.specs.Values.{Membership, Entry, is_written_by, vote_eq}
use Rattle.raft_group_step.specs.Message.{Message}
use Rattle.raft_laws.specs.BallotLists.{AgreeBelow}
use Rattle.raft_laws.specs.BallotLogs.{BallotEntry}
use Rattle.raft_laws.specs.BallotQuorum.{is_quorum}
use Rattle.raft_laws.specs.BallotSettled.{ballot_list}
use Rattle.raft_laws.specs.BallotRanks.{ballot_group}
use Rattle.raft_laws.specs.declared.world_event.WorldEvent.{WorldEvent}
use Rattle.raft_laws.specs.GroupWorld.{GroupWorld, Led, Outcome, Recorded, is_stop}
use Rattle.raft_laws.specs.GroupRun.{Scene, Nowhere, At, Replays, after_scene, happens, led_after, scene_of, sent_in, stop_at}
use Rattle.raft_laws.specs.NodeEvent.{state_after}
use Rattle.raft_laws.specs.Settled.{IsGroupList, body_accepts, count_to_last, group_list, has_accepted_some, has_led_with, has_replied, is_accepted_by_quorum, is_at_or_after, setup_configs, settled_part}
use Rattle.raft_laws.proofs.BallotAgreement.{agree_cons, agree_more, agree_none}
use Rattle.raft_laws.proofs.BallotQuorums.{quorum_more}
use Rattle.raft_laws.proofs.BallotSafe.{Among, among_at}
use Rattle.raft_laws.proofs.Shapes.{good_none}
use Rattle.raft_laws.proofs.TrackElections.{quorum_link}
use Rattle.raft_laws.proofs.StepFits.{world_after}
use Rattle.raft_laws.proofs.WorldRuns.{setup_stays}
use Rattle.raft_laws.proofs.WorldStart.{IsFounded, Founded}
use Rattle.raft_laws.proofs.Counts.{among_any, among_contains, among_map, any_among, at_contains, contains_at, count_from, longest, map_among, among_front}
use Rattle.raft_laws.proofs.SettledFits.{FrontOf, front_none, fronts_agree, part_front}

-- ---- in one world

module _ (m : Membership) (some : 0 < length m.configs) (w : GroupWorld) (f : IsFounded m some w) where
  -- the list of the ballot machine
  abbrev pub machine_list : List BallotEntry
  machine_list = ballot_list (ballot_group m) (world_after m f.matches.before)

  pub part_of : (l : Led) → Among l w.led → FrontOf m machine_list (settled_part w l)
  part_of l a =
      ⊎_elim
      (λ is. part_front m some f.matches.before w f.matches.fits is l a)
      (λ no. absurd (no l a))
      f.setup

  -- the list is that of some note, or empty
  pub list_is : (group_list w ≡ []) ⊎ ((l : Led) × Among l w.led × (group_list w ≡ settled_part w l))
  list_is =
      ⊎_elim
      (λ e. inl e)
      (λ a. inr (among_map (settled_part w) w.led (group_list w) a))
      (longest [] (map (settled_part w) w.led)).one

  pub list_front : FrontOf m machine_list (group_list w)
  list_front =
      ⊎_elim
      (λ e. subst (FrontOf m machine_list) (sym e) (front_none m machine_list (good_none m 0)))
      (λ x. subst (FrontOf m machine_list) (sym x.2) (part_of x.0 x.1))
      list_is

  pub part_short : (l : Led) → Among l w.led → length (settled_part w l) ≤ length (group_list w)
  part_short l a =
      (longest [] (map (settled_part w) w.led)).past (settled_part w l) (map_among (settled_part w) w.led l a)

  pub part_on : (l : Led) → Among l w.led → AgreeBelow (length (settled_part w l)) (settled_part w l) (group_list w)
  part_on l a = fronts_agree (part_of l a) list_front (part_short l a)

  among_led : (l : Led) → Contains w.led l → Among l w.led
  among_led l c = let k = contains_at w.led l c in among_at w.led k.0 l k.1

  pub is_list : IsGroupList w (group_list w)
  is_list =
      record {
        only_settled = λ e c.
            ⊎_elim
            (λ none. absurd (let k = contains_at (group_list w) e c in let no : None ≡ Some e = ap (λ xs. slice_get xs k.0) (sym none) ∙ k.1 in cc))
            (λ x. (x.0, among_contains w.led x.0 x.1, subst (λ xs. Contains xs e) x.2 c))
            list_is;
        all_settled = λ e s.
            let a = among_led s.0 s.1 in
            let k = contains_at (settled_part w s.0) e s.2 in
            let within = slice_get_within (settled_part w s.0) k.0 e k.1 in
            at_contains (group_list w) e k.0 (sym ((part_on s.0 a).same k.0 within) ∙ k.1);
        by_place = λ i e h. let p = list_front.good.placed i e h in omega arith;
      }

-- ---- along a history

-- what was sent and noted stays, and the set-up too
pub record Goes (w w' : GroupWorld) : Type 0 where
  pub messages : (x : Message) → Among x w.messages → Among x w'.messages
  pub led : (l : Led) → Among l w.led → Among l w'.led
  pub setup : (x : Membership) → w.setup ≡ Some x → w'.setup ≡ Some x

goes_scene : (w : GroupWorld) (e : WorldEvent) (o : Outcome) (stop : Option ℕ) (scene : Scene) → ((x : Membership) → w.setup ≡ Some x → (after_scene w e o stop scene).setup ≡ Some x) → Goes w (after_scene w e o stop scene)
goes_scene w e o stop Nowhere s = record { messages = λ x a. a; led = λ l a. a; setup = s }
goes_scene w e o stop (At n at_node) s =
    record {
      messages = λ x a. among_front x w.messages (sent_in o) a;
      led = λ l a. among_front l w.led (led_after o n (state_after n at_node stop (w.nodes n))) a;
      setup = s;
    }

goes_then : {u v w : GroupWorld} → Goes u v → Goes v w → Goes u w
goes_then p q =
    record {
      messages = λ x a. q.messages x (p.messages x a);
      led = λ l a. q.led l (p.led l a);
      setup = λ x e. q.setup x (p.setup x e);
    }

pub goes_on : (rs : List Recorded) (w end : GroupWorld) → Replays w rs end → Goes w end
goes_on [] w end h = subst (Goes w) (sym h) (record { messages = λ x a. a; led = λ l a. a; setup = λ x e. e })
goes_on (r ∷ rs) w end h =
    let next = happens w r.event r.outcome h.1.0 in
    goes_then
    (goes_scene w r.event r.outcome (stop_at (is_stop r.outcome) h.1.0) (scene_of w r.event) (λ x e. setup_stays (r ∷ []) w next (h.0, (h.1.0, refl)) x e))
    (goes_on rs next end h.1.1)

pub quorum_back : (groups : List (List ℕ)) (p : ℕ → Bool) → is_quorum groups p ≡ true → is_quorum_of groups p ≡ true
quorum_back [] p h = refl
quorum_back (group ∷ groups) p h =
    let parts = and_parts (nat_lt (length group) (2 * count_by p group)) (is_quorum groups p) h in
    and_from (nat_lt (length group) (2 * count_by p group)) (is_quorum_of groups p) parts.0 (quorum_back groups p parts.1)

take_front : {A : Type 0} (j k : ℕ) (xs : List A) → j ≤ k → AgreeBelow (length (take j xs)) (take j xs) (take k xs)
take_front zero k xs le = agree_none (take k xs)
take_front (suc j) zero xs le = absurd (omega arith)
take_front (suc j) (suc k) [] le = agree_none []
take_front (suc j) (suc k) (x ∷ xs) le = agree_cons refl (take_front j k xs (omega arith))

module _ (w w' : GroupWorld) (goes : Goes w w') where
  accepted_still : (vote : Vote ℕ) (p : LogId ℕ → Bool) (n : ℕ) → has_accepted_some w vote p n ≡ true → has_accepted_some w' vote p n ≡ true
  accepted_still vote p n h =
      ⊎_elim
      (λ t.
      let x = any_among _ w.messages t in
      or_left (has_replied w' vote p n) (has_led_with w' vote p n)
      (among_any (λ (y : Message). y.sender == n && body_accepts vote p y.body) w'.messages x.0 (goes.messages x.0 x.1) x.2))
      (λ t.
      let x = any_among _ w.led t in
      or_right (has_replied w' vote p n) (has_led_with w' vote p n)
      (among_any (λ (l : Led). l.node == n && vote_eq l.vote vote && list_any (λ (e : Entry). p e.log_id) l.list) w'.led x.0 (goes.led x.0 x.1) x.2))
      (or_cases (has_replied w vote p n) (has_led_with w vote p n) h)

  module _ (m : Membership) (setup : w.setup ≡ Some m) where
    quorum_still : (vote : Vote ℕ) (e : Entry) → is_accepted_by_quorum w vote e ≡ true → is_accepted_by_quorum w' vote e ≡ true
    quorum_still vote e h =
        let test = is_at_or_after vote.leader_id e.log_id.index in
        let p = and_parts (is_written_by vote.leader_id e) (is_quorum_of (setup_configs w.setup) (has_accepted_some w vote test)) h in
        let here = subst (λ o. is_quorum_of (setup_configs o) (has_accepted_some w vote test) ≡ true) setup p.1 in
        let more = quorum_more m.configs (has_accepted_some w vote test) (has_accepted_some w' vote test) (λ n t. accepted_still vote test n t) (quorum_link m.configs (has_accepted_some w vote test) here) in
        and_from (is_written_by vote.leader_id e) _ p.0
        (subst (λ o. is_quorum_of (setup_configs o) (has_accepted_some w' vote test) ≡ true) (sym (goes.setup m setup)) (quorum_back m.configs (has_accepted_some w' vote test) more))

    pub part_grows : (l : Led) → AgreeBelow (length (settled_part w l)) (settled_part w l) (settled_part w' l)
    part_grows l =
        let few = count_from (is_accepted_by_quorum w l.vote) 0 0 l.list (omega arith) in
        let many = count_from (is_accepted_by_quorum w' l.vote) 0 0 l.list (omega arith) in
        let c = count_to_last (is_accepted_by_quorum w l.vote) 0 0 l.list in
        let c' = count_to_last (is_accepted_by_quorum w' l.vote) 0 0 l.list in
        let le : c ≤ c' =
        ⊎_elim
        (λ none. omega arith)
        (λ x. let past = many.all x.0 x.1 x.2 (quorum_still l.vote x.1 x.3) in omega (arith, x.4))
        few.last
        in
        take_front c c' l.list le

-- the list of an earlier world is the front of a later one's
pub list_grows : (w w' : GroupWorld) → Goes w w' → Founded w → Founded w' → AgreeBelow (length (group_list w)) (group_list w) (group_list w')
list_grows w w' goes f f' =
    ⊎_elim
    (λ is.
    ⊎_elim
    (λ e. subst (λ xs. AgreeBelow (length xs) xs (group_list w')) (sym e) (agree_none (group_list w')))
    (λ x.
    subst (λ xs. AgreeBelow (length xs) xs (group_list w')) (sym x.2)
    (agree_more (part_grows w w' goes f.membership is x.0) (part_on f'.membership f'.some w' f'.is x.0 (goes.led x.0 x.1))))
    (list_is f.membership f.some w f.is))
    (λ no.
    ⊎_elim
    (λ e. subst (λ xs. AgreeBelow (length xs) xs (group_list w')) (sym e) (agree_none (group_list w')))
    (λ x. absurd (no x.0 x.1))
    (list_is f.membership f.some w f.is))
    f.is.setup
