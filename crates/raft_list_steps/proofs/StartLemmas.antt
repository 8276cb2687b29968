-- Where a leader's list goes on from is noted.
use Rattle.std.specs.Prelude.{◌≡◌, ⊤, ℕ, ◌<◌, ◌≤◌, List, [], ◌∷◌, length, slice_get, Option, Some, None, MatchOption, refl, unwrap_or}
use Rattle.std.proofs.Common.{sym, ap, ◌∙◌, subst, arith, ⊎_elim}
use Rattle.std.proofs.lemmas.Option.{slice_get_within}
use Rattle.raft_values.specs.declared.log_id.LogId.{LogId}
use Rattle.raft_state.specs.declared.entry.EntryPayload.TheVariants.{Blank}
use Rattle.raft_group_step.specs.Values.{Entry, EntryPayload}
use Rattle.raft_laws.specs.BallotLists.{AgreeBelow}
use Rattle.raft_laws.specs.GroupWorld.{GroupWorld, Led}
use Rattle.raft_laws.proofs.BallotAgreement.{agree_more, same_some}
use Rattle.raft_list_laws.specs.Changes.{with_note}
use Rattle.raft_group_lists.specs.Notes.{EndsWith, HasNoId, IsEnded, IsNotedAt, IsWithin, Notes, accounts_of, count_to, last_in, lead_in, list_to}
use Rattle.raft_list_facts.specs.declared.leading.Leading.{Leading}
use Rattle.raft_list_steps.specs.Lists.{HasFirst, IsListOf, setup_entry}
use Rattle.raft_list_facts.specs.declared.leading.Base.{Base}
use Rattle.raft_list_facts.specs.declared.leading.Base.TheVariants.{Nothing, UpTo, Unknown}
use Rattle.raft_list_laws.specs.Bases.{base_of}
use Rattle.raft_list_steps.specs.Reports.{IsBase, new_payload, start_of}
use Rattle.raft_list_steps.specs.Steps.{IsNext, StartsAt}
use Rattle.raft_list_steps.proofs.ListFacts.{end_at, end_size, entry_noted, known_front, last_noted, none_ends, one_front, own_front}

pub start_more : (list taken : List Entry) → (list ≡ [] → ⊥) → start_of list taken ≡ list
start_more [] taken some = absurd (some refl)
start_more (e ∷ es) taken some = refl

pub payload_more : (list : List Entry) (written : Option EntryPayload) → (list ≡ [] → ⊥) → unwrap_or written Blank ≡ new_payload list written
payload_more [] written some = absurd (some refl)
payload_more (e ∷ es) written some = refl

module _ (s : Notes) (leading : Leading) where
  -- what its leader was noted with
  pub starts_at_last : (at : ℕ) → list_to s.noted (Some at) ≡ (accounts_of s).latest leading.vote → IsEnded (list_to s.noted (Some at)) → StartsAt s leading (Some at)
  starts_at_last at is ends written w l next h =
      let told = next.told in
      let same : list_to s.noted (Some at) ≡ (accounts_of s).latest l.vote = is ∙ ap (accounts_of s).latest (sym told.vote) in
      let some : (accounts_of s).latest l.vote ≡ [] → ⊥ = λ none. none_ends (list_to s.noted (Some at)) ends.0 ends.1 (same ∙ none) in
      same ∙ sym (start_more ((accounts_of s).latest l.vote) (base_of l) some)

  module _ (none : (accounts_of s).latest leading.vote ≡ []) where
    module _ (written : Option EntryPayload) (w : GroupWorld) (l : Led) (next : IsNext leading written w l) (h : IsListOf s w) where
      none_here : (accounts_of s).latest l.vote ≡ []
      none_here = ap (accounts_of s).latest next.told.vote ∙ none

      starts : start_of ((accounts_of s).latest l.vote) (base_of l) ≡ base_of l
      starts = ap (λ (xs : List Entry). start_of xs (base_of l)) none_here

      base : IsBase (base_of l) leading.base
      base = next.told.base (accounts_of s) w h.truth refl none_here

      taken_front : AgreeBelow (length (base_of l)) (base_of l) l.list
      taken_front = own_front l.vote.leader_id l.list

      module _ (id : LogId ℕ) (ends : EndsWith (base_of l) id) where
        noted_id : (at : Option ℕ) (list : List Entry) → list_to s.noted at ≡ list → AgreeBelow (length (base_of l)) (base_of l) list → (k : ℕ) × IsNotedAt s.noted id k
        noted_id at list is front =
            let size = end_size (base_of l) id ends in
            let there = sym (front.same (length ends.before) (omega arith)) ∙ end_at (base_of l) id ends in
            let found = entry_noted s.noted (count_to s.noted at) at (length ends.before) ends.last (ap (λ (xs : List Entry). slice_get xs (length ends.before)) is ∙ there) in
            (found.0, subst (λ (i : LogId ℕ). IsNotedAt s.noted i found.0) ends.of_id found.1)

        alone : length (base_of l) ≤ 1 → AgreeBelow (length (base_of l)) (base_of l) (setup_entry next.membership ∷ [])
        alone short =
            let size = end_size (base_of l) id ends in
            let first = next.told.first next.membership next.set_up in
            let one : length (base_of l) ≡ 1 = omega arith in
            record {
              left = omega arith;
              right = omega arith;
              same = λ j less.
                  let zero_at : j ≡ 0 = omega arith in
                  ap (slice_get (base_of l)) zero_at ∙ taken_front.same 0 (omega arith) ∙ first
                  ∙ ap (slice_get (setup_entry next.membership ∷ [])) (sym zero_at);
            }

        is_noted : (k : ℕ) × IsNotedAt s.noted id k
        is_noted =
            ⊎_elim
            (λ short.
            let first : HasFirst s next.membership = h.first next.membership next.set_up in
            noted_id (Some first.at) (setup_entry next.membership ∷ []) first.list (alone short))
            (λ x.
            noted_id (last_in (lead_in s.leads x.led.vote)) ((accounts_of s).latest x.led.vote) refl
            (agree_more x.front (h.truth.notes.latest x.led x.among)))
            next.told.taken

        is_found : (k : ℕ) → IsNotedAt s.noted id k → EndsWith (list_to s.noted (Some k)) id → list_to s.noted (Some k) ≡ base_of l
        is_found k there last =
            let known = known_front w l next.told.first (list_to s.noted (Some k)) (h.known k (slice_get_within s.noted k there.one there.there)) in
            one_front (with_note w l) next.agree known.led l known.among (last_noted w l) (list_to s.noted (Some k)) (base_of l) id known.front taken_front last ends

    -- a leader that took over nothing
    pub starts_at_nothing : leading.base ≡ Nothing → StartsAt s leading None
    starts_at_nothing empty written w l next h =
        let nothing : base_of l ≡ [] = subst (IsBase (base_of l)) empty (base written w l next h) in
        sym (starts written w l next h ∙ nothing)

    -- what each took over is told
    pub starts_at_unknown : leading.base ≡ Unknown → StartsAt s leading None
    starts_at_unknown is written w l next h = absurd (subst (IsBase (base_of l)) is (base written w l next h))

    -- one that took over all up to a log id
    pub starts_at_base : (id : LogId ℕ) → leading.base ≡ UpTo id → (at : Option ℕ) → MatchOption at (HasNoId s.noted id) (IsNotedAt s.noted id) → MatchOption at ⊤ (λ k. EndsWith (list_to s.noted (Some k)) id) → StartsAt s leading at
    starts_at_base id is None missing last written w l next h =
        let ends : EndsWith (base_of l) id = subst (IsBase (base_of l)) is (base written w l next h) in
        let there = is_noted written w l next h id ends in
        absurd (missing there.0 there.1)
    starts_at_base id is (Some k) there last written w l next h =
        let ends : EndsWith (base_of l) id = subst (IsBase (base_of l)) is (base written w l next h) in
        is_found written w l next h id ends k there last ∙ sym (starts written w l next h)

pub found_within : (s : Notes) (id : LogId ℕ) (at : Option ℕ) → MatchOption at (HasNoId s.noted id) (IsNotedAt s.noted id) → IsWithin s.noted at
found_within s id None found k e = absurd (let no : None ≡ Some k = e in cc)
found_within s id (Some j) found k e = subst (λ (n : ℕ). n < length s.noted) (same_some e) (slice_get_within s.noted j found.one found.there)
