-- Where a leader's list ends, behind what it wrote.
use Rattle.std.specs.Prelude.{◌≡◌, ◌⊎◌, ℕ, suc, ◌<◌, List, [], ◌∷◌, ◌++◌, length, slice_get, Option, Some, None, refl}
use Rattle.std.proofs.Common.{inl, inr, sym, ap, ◌∙◌, subst, arith, ⊎_elim, length-append}
use Rattle.std.proofs.lemmas.Bool.{cases_lt}
use Rattle.raft_values.specs.declared.vote.Vote.{Vote}
use Rattle.raft_values.specs.declared.log_id.LogId.{LogId}
use Rattle.raft_group_step.specs.Values.{Entry, EntryPayload, Membership, entry_of}
use Rattle.raft_laws.specs.GroupWorld.{GroupWorld, Led}
use Rattle.raft_laws.proofs.BallotAgreement.{slice_get-append, slice_get_end}
use Rattle.raft_list_laws.specs.Accounts.{AreTrue}
use Rattle.raft_group_lists.specs.declared.notes.Noted.{Noted}
use Rattle.raft_group_lists.specs.Notes.{EndsWith, IsNotedAt, IsWrittenAt, Notes, accounts_of, list_to}
use Rattle.raft_list_facts.specs.declared.leading.Leading.{Leading}
use Rattle.raft_list_steps.specs.Lists.{HasFirst, IsKnown, IsListOf}
use Rattle.raft_list_laws.specs.Bases.{base_of}
use Rattle.raft_list_steps.specs.Reports.{HasLast, IsGained, new_payload, start_of}
use Rattle.raft_list_steps.specs.Steps.{EndsAt, EndsElsewhere, IsEndOf, IsEndedAt, IsNext, StartsAt}
use Rattle.raft_list_steps.proofs.ListFacts.{end_at, end_size, last_noted, none_ends, one_end}

-- what stays as it was where one entry more is noted
pub record IsWritten (s : Notes) (entry : Entry) (before : Option ℕ) (at : ℕ) (next : Notes) : Type 0 where
  pub truth : (w : GroupWorld) → AreTrue (accounts_of s) w → AreTrue (accounts_of next) w
  pub list : list_to next.noted (Some at) ≡ list_to s.noted before ++ entry ∷ []
  pub others : (k : ℕ) → k < length s.noted → list_to next.noted (Some k) ≡ list_to s.noted (Some k)
  pub noted : IsWrittenAt s.noted entry at next.noted

module _ (s : Notes) (entry : Entry) (before : Option ℕ) (at : ℕ) (next : Notes) (is : IsWritten s entry before at next) where
  pub written_size : length next.noted ≡ suc (length s.noted)
  written_size = let size = ap length is.noted.behind ∙ length-append s.noted (is.noted.one ∷ []) in omega arith

  pub written_within : at < length next.noted
  written_within = let size = written_size in omega (arith, is.noted.place)

  pub written_first : (m : Membership) → HasFirst s m → HasFirst next m
  written_first m f = let size = written_size in record { at = f.at; within = omega (arith, f.within); list = is.others f.at f.within ∙ f.list }

  pub written_noted : IsNotedAt next.noted entry.log_id at
  written_noted =
      record {
        one = is.noted.one;
        there = ap (λ (ns : List Noted). slice_get ns at) is.noted.behind ∙ ap (slice_get (s.noted ++ is.noted.one ∷ [])) is.noted.place ∙ slice_get_end s.noted is.noted.one;
        of_id = ap (λ (e : Entry). e.log_id) is.noted.of_entry;
      }

  -- what is noted was noted before, or is the new one
  pub written_cases : (k : ℕ) → k < length next.noted → (k < length s.noted) ⊎ (k ≡ at)
  written_cases k less =
      ⊎_elim (λ l. inl l) (λ l. let size = written_size in inr (omega (arith, is.noted.place))) (cases_lt k (length s.noted))

module _ (leading : Leading) (last : LogId ℕ) (is_last : leading.last ≡ Some last) (written : Option EntryPayload) where
  abbrev new_entry : Notes → Entry
  new_entry s = entry_of last (new_payload ((accounts_of s).latest leading.vote) written)

  module _ (s : Notes) (w : GroupWorld) (l : Led) (next : IsNext leading written w l) (h : IsListOf s w) where
    abbrev start : List Entry
    start = start_of ((accounts_of s).latest l.vote) (base_of l)

    gained : IsGained start (new_entry s) l.list
    gained =
        subst (λ (v : Vote ℕ). IsGained start (entry_of last (new_payload ((accounts_of s).latest v) written)) l.list) next.told.vote
        (next.told.gains (accounts_of s) w h.truth refl last is_last)

    -- a list whose start has the last log id already is its start
    nothing_new : EndsWith start last → l.list ≡ start
    nothing_new ends =
        ⊎_elim
        (λ e. e)
        (λ (e : l.list ≡ start ++ new_entry s ∷ []).
        let size = end_size start last ends in
        let inside : length ends.before < length start = omega arith in
        let early = ap (λ (xs : List Entry). slice_get xs (length ends.before)) e ∙ slice_get-append start (new_entry s ∷ []) (length ends.before) inside ∙ end_at start last ends in
        let late = ap (λ (xs : List Entry). slice_get xs (length start)) e ∙ slice_get_end start (new_entry s) in
        let one = next.agree l l (last_noted w l) (last_noted w l) (length ends.before) (length start) ends.last (new_entry s) early late ends.of_id in
        absurd (omega (arith, one.0)))
        gained

    -- a list whose start doesn't end so has one entry more
    one_more : ((l.list ≡ start) → ⊥) → l.list ≡ start ++ new_entry s ∷ []
    one_more differs = ⊎_elim (λ e. absurd (differs e)) (λ e. e) gained

  pub ends_at_start : (s : Notes) (begin : Option ℕ) (at : ℕ) → IsEndedAt s last begin at → StartsAt s leading begin → EndsAt s leading last written at s
  ends_at_start s begin at e starts w l next h =
      let here = ap (list_to s.noted) (sym e.there) ∙ starts written w l next h in
      record {
        truth = h.truth;
        within = e.within;
        list = here ∙ sym (nothing_new s w l next h (subst (λ (xs : List Entry). EndsWith xs last) here e.ends));
        noted = e.noted;
        known = λ k less. inl (h.known k less);
        first = h.first;
      }

  pub ends_behind : (s : Notes) (before : Option ℕ) (at : ℕ) (more : Notes) → IsWritten s (new_entry s) before at more → EndsElsewhere s last before → StartsAt s leading before → EndsAt s leading last written at more
  ends_behind s before at more is differs starts w l next h =
      let here = starts written w l next h in
      let other : (o : Option ℕ) → o ≡ before → l.list ≡ list_to s.noted o → ⊥ = not_there in
      let whole : l.list ≡ list_to s.noted before ++ new_entry s ∷ [] =
      one_more s w l next h (λ e. other before refl (e ∙ sym here)) ∙ ap (λ (xs : List Entry). xs ++ new_entry s ∷ []) (sym here)
      in
      let same : list_to more.noted (Some at) ≡ l.list = is.list ∙ sym whole in
      record {
        truth = is.truth w h.truth;
        within = written_within s (new_entry s) before at more is;
        list = same;
        noted = written_noted s (new_entry s) before at more is;
        known = λ k less.
            ⊎_elim
            (λ old. inl (subst (IsKnown w) (sym (is.others k old)) (h.known k old)))
            (λ e. inr (ap (λ (n : ℕ). list_to more.noted (Some n)) e ∙ same))
            (written_cases s (new_entry s) before at more is k less);
        first = λ m e. written_first s (new_entry s) before at more is m (h.first m e);
      }
    where
      ends_so : EndsWith l.list last
      ends_so = subst (HasLast l.list) is_last next.told.last

      not_there : (o : Option ℕ) → o ≡ before → l.list ≡ list_to s.noted o → ⊥
      not_there None e is_it = none_ends l.list last ends_so is_it
      not_there (Some k) e is_it = differs k (sym e) (subst (λ (xs : List Entry). EndsWith xs last) is_it ends_so)
