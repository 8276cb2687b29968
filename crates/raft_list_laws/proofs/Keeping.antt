-- Accounts stay true behind a set-up, a note, and a message.
use Rattle.std.specs.Prelude.{◌≡◌, ◌⊎◌, ℕ, ◌==◌, ◌&&◌, ◌||◌, Bool, true, false, List, [], ◌∷◌, ◌++◌, length, map, fold, take, Contains, refl}
use Rattle.std.specs.List.{list_any}
use Rattle.std.proofs.Common.{inl, inr, sym, ap, ◌∙◌, subst, arith, ⊎_elim}
use Rattle.std.proofs.Math.Path.{fun_ext}
use Rattle.std.proofs.lemmas.Bool.{cases_Bool, cond-true, cond-false}
use Rattle.std.proofs.lemmas.List.Folds.{list_any-append}
use Rattle.raft_values.specs.declared.vote.Vote.{Vote}
use Rattle.raft_quorums.specs.Quorum.{is_quorum}
use Rattle.raft_group_step.specs.Values.{Entry, is_written_by, vote_eq}
use Rattle.raft_group_step.specs.Message.{Message}
use Rattle.raft_laws.specs.BallotLists.{AgreeBelow}
use Rattle.raft_laws.specs.GroupWorld.{GroupWorld, Led}
use Rattle.raft_laws.specs.Settled.{body_accepts, count_to_last, group_list, has_accepted_some, has_led_with, has_replied, is_at_or_after, longer, setup_configs, settled_part}
use Rattle.raft_laws.proofs.BallotAgreement.{agree_more, agree_refl}
use Rattle.raft_laws.proofs.Counts.{among_behind, among_contains, among_front, contains_among}
use Rattle.raft_laws.proofs.VoteRanks.{vote_eq_same}
use Rattle.raft_laws.proofs.WorldLimits.{vote_itself}
use Rattle.raft_laws.proofs.WorldRuns.{among_either}
use Rattle.raft_list_laws.specs.Accounts.{Accounts, AreNoted, AreTrue, PartsAreFronts, WasNoted}
use Rattle.raft_list_laws.specs.Changes.{AcceptancesKeep, IsAccepted, IsNoted, IsSilent, NotesKeep, SetUpsKeep, SilentKeep, message_reaches, note_reaches, with_message, with_note, with_setup}
use Rattle.raft_list_laws.proofs.Parts.{OneVoteGrows, goes_on_longer, list_is_longer}

-- ---- one more at the end of a list

one_more : {A : Type 0} (p : A → Bool) (xs : List A) (x : A) → list_any p (xs ++ x ∷ []) ≡ (list_any p xs || p x)
one_more p xs x = list_any-append p xs (x ∷ []) ∙ ap (λ b. list_any p xs || b) (or_none (p x))
  where
    or_none : (b : Bool) → (b || false) ≡ b
    or_none true = refl
    or_none false = refl

pub or_last : (a b c : Bool) → (a || (b || c)) ≡ ((a || b) || c)
or_last true b c = refl
or_last false b c = refl

pub or_middle : (a b c : Bool) → ((a || c) || b) ≡ ((a || b) || c)
or_middle true b c = refl
or_middle false true true = refl
or_middle false true false = refl
or_middle false false true = refl
or_middle false false false = refl

pub or_first : (a b : Bool) → a ≡ true → (a || b) ≡ true
or_first a b e = ap (λ x. x || b) e

or_without : (a b : Bool) → b ≡ false → (a || b) ≡ a
or_without true b e = refl
or_without false b e = e

-- whether it was among the list, or is the last one
last_cases : {A : Type 0} (xs : List A) (x y : A) → Contains (xs ++ x ∷ []) y → Contains xs y ⊎ (y ≡ x)
last_cases xs x y c =
    ⊎_elim
    (λ a. inl (among_contains xs y a))
    (λ b. ⊎_elim (λ e. inr e) (λ none. absurd none) b)
    (among_either y xs (x ∷ []) (contains_among (xs ++ x ∷ []) y c))

pub stays_in : {A : Type 0} (xs : List A) (x y : A) → Contains xs y → Contains (xs ++ x ∷ []) y
stays_in xs x y c = among_contains (xs ++ x ∷ []) y (among_front y xs (x ∷ []) (contains_among xs y c))

is_last : {A : Type 0} (xs : List A) (x : A) → Contains (xs ++ x ∷ []) x
is_last xs x = among_contains (xs ++ x ∷ []) x (among_behind x xs (x ∷ []) (inl refl))

-- ---- a set-up

pub set_ups_keep : SetUpsKeep
set_ups_keep a next w m t none s =
    let n = t.notes in
    record {
      notes =
          record {
            voters = s.voters;
            noted = λ vote. subst (λ xs. (xs ≡ []) ⊎ WasNoted w vote xs) (sym (s.latest vote)) (n.noted vote);
            latest = λ l c. subst (λ xs. AgreeBelow (length l.list) l.list xs) (sym (s.latest l.vote)) (n.latest l c);
            reached = λ vote place node. s.reached vote place node ∙ n.reached vote place node;
          };
      list = s.list ∙ t.list ∙ empty w none ∙ sym (empty (with_setup w m) none);
    }
  where
    empty : (x : GroupWorld) → x.led ≡ [] → group_list x ≡ []
    empty x e = ap (λ ls. fold longer [] (map (settled_part x) ls)) e

-- ---- a note

-- what is accepted with the note is what was, and what the note says
pub note_more : (w : GroupWorld) (l : Led) (vote : Vote ℕ) (place node : ℕ) → has_accepted_some (with_note w l) vote (is_at_or_after vote.leader_id place) node ≡ (has_accepted_some w vote (is_at_or_after vote.leader_id place) node || note_reaches l vote place node)
note_more w l vote place node =
    let p = is_at_or_after vote.leader_id place in
    ap (λ b. has_replied w vote p node || b)
    (one_more (λ (x : Led). (x.node == node && vote_eq x.vote vote) && list_any (λ (e : Entry). p e.log_id) x.list) w.led l)
    ∙ or_last (has_replied w vote p node) (has_led_with w vote p node) (note_reaches l vote place node)

module _ (a next : Accounts) (w : GroupWorld) (l : Led) (list : List Entry) (t : AreTrue a w) (goes : AgreeBelow (length (a.latest l.vote)) (a.latest l.vote) l.list) (fronts : PartsAreFronts list (with_note w l)) (is : IsNoted a l next) where
  abbrev after : GroupWorld
  after = with_note w l

  latest_own : (vote : Vote ℕ) → vote_eq vote l.vote ≡ true → next.latest vote ≡ l.list
  latest_own vote e = is.latest vote ∙ cond-true _ _ _ e

  latest_other : (vote : Vote ℕ) → vote_eq vote l.vote ≡ false → next.latest vote ≡ a.latest vote
  latest_other vote e = is.latest vote ∙ cond-false _ _ _ e

  noted_lists : (vote : Vote ℕ) → (next.latest vote ≡ []) ⊎ WasNoted after vote (next.latest vote)
  noted_lists vote =
      ⊎_elim
      (λ yes. inr (l, is_last w.led l, sym (vote_eq_same vote l.vote yes), sym (latest_own vote yes)))
      (λ no.
      ⊎_elim
      (λ e. inl (latest_other vote no ∙ e))
      (λ x. inr (x.0, stays_in w.led l x.0 x.1, x.2, x.3 ∙ sym (latest_other vote no)))
      (t.notes.noted vote))
      (cases_Bool (vote_eq vote l.vote))

  latest_fronts : (x : Led) → Contains after.led x → AgreeBelow (length x.list) x.list (next.latest x.vote)
  latest_fronts x c =
      ⊎_elim
      (λ old.
      ⊎_elim
      (λ yes.
      let same = vote_eq_same x.vote l.vote yes in
      subst (λ xs. AgreeBelow (length x.list) x.list xs) (sym (latest_own x.vote yes))
      (agree_more (subst (λ (v : Vote ℕ). AgreeBelow (length x.list) x.list (a.latest v)) same (t.notes.latest x old)) goes))
      (λ no. subst (λ xs. AgreeBelow (length x.list) x.list xs) (sym (latest_other x.vote no)) (t.notes.latest x old))
      (cases_Bool (vote_eq x.vote l.vote)))
      (λ e.
      subst (λ (y : Led). AgreeBelow (length y.list) y.list (next.latest y.vote)) (sym e)
      (subst (λ xs. AgreeBelow (length l.list) l.list xs) (sym (latest_own l.vote (vote_itself l.vote))) (agree_refl (length l.list) l.list (omega arith))))
      (last_cases w.led l x c)

  note_notes : AreNoted next after
  note_notes =
      record {
        voters = is.voters ∙ t.notes.voters;
        noted = noted_lists;
        latest = latest_fronts;
        reached = λ vote place node.
            is.reached vote place node
            ∙ ap (λ b. b || note_reaches l vote place node) (t.notes.reached vote place node)
            ∙ sym (note_more w l vote place node);
      }

  unsaid : (vote : Vote ℕ) (place node : ℕ) → vote_eq vote l.vote ≡ false → note_reaches l vote place node ≡ false
  unsaid vote place node other =
      other_vote (l.node == node) (vote_eq l.vote vote) (list_any (λ (e : Entry). is_at_or_after vote.leader_id place e.log_id) l.list)
      (⊎_elim
      (λ yes. absurd (let e : true ≡ false = sym (vote_itself l.vote) ∙ ap (λ (v : Vote ℕ). vote_eq v l.vote) (vote_eq_same l.vote vote yes) ∙ other in cc))
      (λ f. f)
      (cases_Bool (vote_eq l.vote vote)))
    where
      other_vote : (x y z : Bool) → y ≡ false → ((x && y) && z) ≡ false
      other_vote true y z e = ap (λ b. b && z) e
      other_vote false y z e = refl

  note_grows : OneVoteGrows a next w after l.vote
  note_grows =
      record {
        voters = is.voters;
        grows = λ vote place node h. is.reached vote place node ∙ or_first (a.reached vote place node) (note_reaches l vote place node) h;
        stay = λ x c. stays_in w.led l x c;
        others = λ x c no.
            ⊎_elim
            (λ old. old)
            (λ e. absurd (let f : true ≡ false = sym (vote_itself l.vote) ∙ ap (λ (y : Led). vote_eq y.vote l.vote) (sym e) ∙ no in cc))
            (last_cases w.led l x c);
        same = λ vote place node no.
            is.reached vote place node ∙ or_without (a.reached vote place node) (note_reaches l vote place node) (unsaid vote place node no);
      }

  note_true : AreTrue next after
  note_true =
      record {
        notes = note_notes;
        list =
            goes_on_longer a next w after l.vote list t note_notes fronts note_grows is.list
            ∙ sym (list_is_longer a next w after l.vote list t note_notes fronts note_grows);
      }

pub notes_keep : NotesKeep
notes_keep a next w l list t goes fronts is = note_true a next w l list t goes fronts is

-- ---- a message

module _ (w : GroupWorld) (m : Message) where
  -- what is accepted with the message is what was, and what the message accepts
  pub message_more : (vote : Vote ℕ) (place node : ℕ) → has_accepted_some (with_message w m) vote (is_at_or_after vote.leader_id place) node ≡ (has_accepted_some w vote (is_at_or_after vote.leader_id place) node || message_reaches m vote place node)
  message_more vote place node =
      let p = is_at_or_after vote.leader_id place in
      ap (λ b. b || has_led_with w vote p node)
      (one_more (λ (x : Message). x.sender == node && body_accepts vote p x.body) w.messages m)
      ∙ or_middle (has_replied w vote p node) (has_led_with w vote p node) (message_reaches m vote place node)

module _ (a next : Accounts) (w : GroupWorld) (m : Message) (vote : Vote ℕ) (list : List Entry) (t : AreTrue a w) (fronts : PartsAreFronts list (with_message w m)) (is : IsAccepted a m vote next) where
  message_notes : AreNoted next (with_message w m)
  message_notes =
      let n = t.notes in
      record {
        voters = is.voters ∙ n.voters;
        noted = λ other. subst (λ xs. (xs ≡ []) ⊎ WasNoted w other xs) (sym (is.latest other)) (n.noted other);
        latest = λ l c. subst (λ xs. AgreeBelow (length l.list) l.list xs) (sym (is.latest l.vote)) (n.latest l c);
        reached = λ other place node.
            is.reached other place node
            ∙ ap (λ b. b || message_reaches m other place node) (n.reached other place node)
            ∙ sym (message_more w m other place node);
      }

  message_grows : OneVoteGrows a next w (with_message w m) vote
  message_grows =
      record {
        voters = is.voters;
        grows = λ other place node h. is.reached other place node ∙ or_first (a.reached other place node) (message_reaches m other place node) h;
        stay = λ l c. c;
        others = λ l c no. c;
        same = λ other place node no.
            is.reached other place node ∙ or_without (a.reached other place node) (message_reaches m other place node) (is.one_vote other place node no);
      }

  message_true : AreTrue next (with_message w m)
  message_true =
      record {
        notes = message_notes;
        list =
            goes_on_longer a next w (with_message w m) vote list t message_notes fronts message_grows is.list
            ∙ sym (list_is_longer a next w (with_message w m) vote list t message_notes fronts message_grows);
      }

pub acceptances_keep : AcceptancesKeep
acceptances_keep a next w m vote list t fronts is = message_true a next w m vote list t fronts is

-- a message that accepts nothing
module _ (a : Accounts) (w : GroupWorld) (m : Message) (silent : IsSilent m) where
  accepted_same : (vote : Vote ℕ) (place node : ℕ) → has_accepted_some (with_message w m) vote (is_at_or_after vote.leader_id place) node ≡ has_accepted_some w vote (is_at_or_after vote.leader_id place) node
  accepted_same vote place node =
      message_more w m vote place node
      ∙ or_without (has_accepted_some w vote (is_at_or_after vote.leader_id place) node) (message_reaches m vote place node) (silent vote place node)

  part_same : (l : Led) → settled_part (with_message w m) l ≡ settled_part w l
  part_same l =
      ap (λ (p : Entry → Bool). take (count_to_last p 0 0 l.list) l.list)
      (fun_ext (λ e.
      ap (λ (set : ℕ → Bool). is_written_by l.vote.leader_id e && is_quorum (setup_configs w.setup) set)
      (fun_ext (λ node. accepted_same l.vote e.log_id.index node))))

  silent_true : AreTrue a w → AreTrue a (with_message w m)
  silent_true t =
      let n = t.notes in
      record {
        notes =
            record {
              voters = n.voters;
              noted = n.noted;
              latest = n.latest;
              reached = λ vote place node. n.reached vote place node ∙ sym (accepted_same vote place node);
            };
        list = t.list ∙ sym (ap (λ (f : Led → List Entry). fold longer [] (map f w.led)) (fun_ext (λ l. part_same l)));
      }

pub silent_keep : SilentKeep
silent_keep a w m t silent = silent_true a w m silent t
