-- What is learned of a note or a message makes notes that are true of a world true of the next one.
use Rattle.std.specs.Prelude.{◌≡◌, ℕ, ◌==◌, ◌&&◌, ◌||◌, nat_le, if◌then◌else◌, Bool, true, false, List, length, slice_get, Some, None, refl}
use Rattle.std.specs.List.{list_any}
use Rattle.std.proofs.Common.{sym, ap, ap₂, ◌∙◌, subst, ⊎_elim}
use Rattle.std.proofs.Math.Path.{fun_ext}
use Rattle.std.proofs.lemmas.Bool.{cases_Bool, cond-false, cond-true}
use Rattle.raft_values.specs.declared.vote.LeaderId.{LeaderId}
use Rattle.raft_values.specs.declared.vote.Vote.{Vote}
use Rattle.raft_values.specs.declared.log_id.LogId.{LogId}
use Rattle.raft_group_step.specs.Values.{Entry, leader_eq, vote_eq}
use Rattle.raft_group_step.specs.Message.{Message}
use Rattle.raft_laws.specs.BallotLists.{AgreeBelow}
use Rattle.raft_laws.specs.GroupWorld.{GroupWorld, Led}
use Rattle.raft_laws.specs.Settled.{is_at_or_after}
use Rattle.raft_laws.proofs.VoteRanks.{vote_eq_same}
use Rattle.raft_list_laws.specs.Accounts.{Accounts, AreTrue, PartsAreFronts, settled_of}
use Rattle.raft_list_laws.specs.Changes.{GoesOn, IsAccepted, IsNoted, message_reaches, note_reaches, with_message, with_note}
use Rattle.raft_list_laws.proofs.Keeping.{acceptances_keep, notes_keep}
use Rattle.raft_group_lists.specs.declared.notes.Noted.{Noted}
use Rattle.raft_group_lists.specs.declared.notes.Lead.{Lead}
use Rattle.raft_group_lists.specs.Notes.{Learns, Notes, SameLeads, accounts_of, entries_at, has_reached, last_in, lead_in, list_to, notes_of, reached_in, reaches}
use Rattle.raft_group_lists.specs.Facts.{AcceptsUpTo, IsNoteOf, own_place}
use Rattle.raft_group_lists.proofs.SetLemmas.{vote_eq_turned}

own_reaches : (id : LogId ℕ) (leader : LeaderId ℕ) (place : ℕ) → reaches (own_place id leader) place ≡ is_at_or_after leader place id
own_reaches id leader place = go (leader_eq id.leader_id leader)
  where
    go : (b : Bool) → reaches (if b then Some id.index else None) place ≡ (b && nat_le place id.index)
    go true = refl
    go false = refl

through_if : {A B : Type 0} (f : A → B) (b : Bool) (x y : A) → f (if b then x else y) ≡ (if b then f x else f y)
through_if f true x y = refl
through_if f false x y = refl

and_turned : (a b c d : Bool) → b ≡ d → (b && (a && c)) ≡ ((a && d) && c)
and_turned true b c d e = ap (λ x. x && c) e
and_turned false true c d e = refl
and_turned false false c d e = refl

and_inner : (a b c d : Bool) → b ≡ d → (b && (a && c)) ≡ (a && (d && c))
and_inner true b c d e = ap (λ x. x && c) e
and_inner false true c d e = refl
and_inner false false c d e = refl

-- two tests that are the same once the first holds
and_under : (b c d : Bool) → (b ≡ true → c ≡ d) → (b && c) ≡ (b && d)
and_under true c d h = h refl
and_under false c d h = refl

module _ (s : Notes) (leads : List Lead) (listed : List ℕ) (node : ℕ) (vote : Vote ℕ) where
  abbrev next : Notes
  next = notes_of s.voters s.noted leads listed

  module _ (k : ℕ) (x : Noted) (there : slice_get s.noted k ≡ Some x) (h : Learns s node vote (Some k) (own_place x.entry.log_id vote.leader_id) next) (l : Led) (is : IsNoteOf s node vote k l) where
    said : (v : Vote ℕ) (place n : ℕ) → (vote_eq v vote && (node == n && reaches (own_place x.entry.log_id vote.leader_id) place)) ≡ note_reaches l v place n
    said v place n =
        and_under (vote_eq v vote) (node == n && reaches (own_place x.entry.log_id vote.leader_id) place) (node == n && list_any (λ (e : Entry). is_at_or_after v.leader_id place e.log_id) l.list)
        (λ yes.
        ap (λ b. node == n && b)
        (own_reaches x.entry.log_id vote.leader_id place ∙ sym (is.own x there place)
        ∙ ap (λ (u : Vote ℕ). list_any (λ (e : Entry). is_at_or_after u.leader_id place e.log_id) l.list) (sym (vote_eq_same v vote yes))))
        ∙ and_turned (node == n) (vote_eq v vote) (list_any (λ (e : Entry). is_at_or_after v.leader_id place e.log_id) l.list) (vote_eq vote v) (vote_eq_turned v vote)
        ∙ ap₂ (λ (m : ℕ) (u : Vote ℕ). (m == n && vote_eq u v) && list_any (λ (e : Entry). is_at_or_after v.leader_id place e.log_id) l.list) (sym is.of_node) (sym is.of_vote)

    noted_as : IsNoted (accounts_of s) l (accounts_of next)
    noted_as =
        record {
          voters = refl;
          latest = λ v.
              ap (list_to s.noted) (h.ends v)
              ∙ through_if (list_to s.noted) (vote_eq v vote) (Some k) (last_in (lead_in s.leads v))
              ∙ ap₂ (λ (es : List Entry) (u : Vote ℕ). if vote_eq v u then es else list_to s.noted (last_in (lead_in s.leads v))) (sym is.of_list) (sym is.of_vote);
          reached = λ v place n.
              h.accepts v place n ∙ ap (λ b. has_reached (reached_in (lead_in s.leads v)) place n || b) (said v place n);
          list = subst (λ (u : Vote ℕ). GoesOn (accounts_of s).list (settled_of (accounts_of next) u) (accounts_of next).list) (sym is.of_vote) h.list;
        }

    pub note_is_true : (w : GroupWorld) (list : List Entry) → AreTrue (accounts_of s) w → PartsAreFronts list (with_note w l) → AreTrue (accounts_of next) (with_note w l)
    note_is_true w list t fronts =
        notes_keep (accounts_of s) (accounts_of next) w l list t
        (subst (λ (u : Vote ℕ). AgreeBelow (length ((accounts_of s).latest u)) ((accounts_of s).latest u) l.list) (sym is.of_vote) is.goes_on)
        fronts noted_as

  module _ (last : LogId ℕ) (h : Learns s node vote None (own_place last vote.leader_id) next) (m : Message) (is : AcceptsUpTo node vote last m) where
    says : (v : Vote ℕ) (place n : ℕ) → (vote_eq v vote && (node == n && reaches (own_place last vote.leader_id) place)) ≡ message_reaches m v place n
    says v place n =
        and_under (vote_eq v vote) (node == n && reaches (own_place last vote.leader_id) place) (node == n && is_at_or_after v.leader_id place last)
        (λ yes.
        ap (λ b. node == n && b)
        (own_reaches last vote.leader_id place ∙ ap (λ (u : Vote ℕ). is_at_or_after u.leader_id place last) (sym (vote_eq_same v vote yes))))
        ∙ and_inner (node == n) (vote_eq v vote) (is_at_or_after v.leader_id place last) (vote_eq vote v) (vote_eq_turned v vote)
        ∙ ap₂ (λ (k : ℕ) (b : Bool). k == n && b) (sym is.of_node) (sym (is.accepts v (is_at_or_after v.leader_id place)))

    accepted_as : IsAccepted (accounts_of s) m vote (accounts_of next)
    accepted_as =
        record {
          one_vote = λ v place n apart. sym (says v place n) ∙ ap (λ b. b && (node == n && reaches (own_place last vote.leader_id) place)) apart;
          voters = refl;
          latest = λ v.
              ap (list_to s.noted)
              (h.ends v
              ∙ ⊎_elim
              (λ yes. cond-true (vote_eq v vote) (last_in (lead_in s.leads vote)) (last_in (lead_in s.leads v)) yes ∙ ap (λ (u : Vote ℕ). last_in (lead_in s.leads u)) (sym (vote_eq_same v vote yes)))
              (λ apart. cond-false (vote_eq v vote) (last_in (lead_in s.leads vote)) (last_in (lead_in s.leads v)) apart)
              (cases_Bool (vote_eq v vote)));
          reached = λ v place n.
              h.accepts v place n ∙ ap (λ b. has_reached (reached_in (lead_in s.leads v)) place n || b) (says v place n);
          list = h.list;
        }

    pub message_is_true : (w : GroupWorld) (list : List Entry) → AreTrue (accounts_of s) w → PartsAreFronts list (with_message w m) → AreTrue (accounts_of next) (with_message w m)
    message_is_true w list t fronts = acceptances_keep (accounts_of s) (accounts_of next) w m vote list t fronts accepted_as

-- the same is noted under each vote
pub same_accounts : (s : Notes) (leads : List Lead) → SameLeads s.leads leads → accounts_of (notes_of s.voters s.noted leads s.listed) ≡ accounts_of s
same_accounts s leads same =
    ap₂
    (λ (latest : Vote ℕ → List Entry) (reached : Vote ℕ → ℕ → ℕ → Bool). accounts-with latest reached)
    (fun_ext (λ (v : Vote ℕ). ap (list_to s.noted) (same.last v)))
    (fun_ext (λ (v : Vote ℕ). fun_ext (λ (place : ℕ). fun_ext (λ (n : ℕ). same.reached v place n))))
  where
    accounts-with : (Vote ℕ → List Entry) → (Vote ℕ → ℕ → ℕ → Bool) → Accounts
    accounts-with latest reached = record { voters = s.voters; latest = latest; reached = reached; list = entries_at s.noted s.listed }

pub same_is_true : (s : Notes) (leads : List Lead) (listed : List ℕ) → SameLeads s.leads leads → listed ≡ s.listed → (w : GroupWorld) → AreTrue (accounts_of s) w → AreTrue (accounts_of (notes_of s.voters s.noted leads listed)) w
same_is_true s leads listed same list w t =
    subst (λ (ks : List ℕ). AreTrue (accounts_of (notes_of s.voters s.noted leads ks)) w) (sym list)
    (subst (λ (a : Accounts). AreTrue a w) (sym (same_accounts s leads same)) t)
