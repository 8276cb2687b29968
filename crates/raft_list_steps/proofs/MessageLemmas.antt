-- What messages accept is noted.
use Rattle.std.specs.Prelude.{◌≡◌, ◌⊎◌, ℕ, ◌<◌, List, [], ◌∷◌, ◌++◌, length, Option, Some, None, MatchOption, refl}
use Rattle.std.proofs.Common.{inl, inr, sym, ap, ◌∙◌, subst, ⊎_elim, append-nil, append_assoc}
use Rattle.raft_values.specs.declared.vote.Vote.{Vote}
use Rattle.raft_values.specs.declared.log_id.LogId.{LogId}
use Rattle.raft_group_step.specs.Values.{Entry}
use Rattle.raft_group_step.specs.Message.{Message}
use Rattle.raft_laws.specs.GroupWorld.{GroupWorld}
use Rattle.raft_laws.proofs.Counts.{among_contains, contains_among}
use Rattle.raft_list_laws.specs.Accounts.{AreTrue, PartsAreFronts}
use Rattle.raft_list_laws.specs.Changes.{IsSilent, with_message}
use Rattle.raft_list_laws.proofs.Fronts.{fronts_before_messages}
use Rattle.raft_list_laws.proofs.Keeping.{silent_keep}
use Rattle.raft_group_lists.specs.declared.notes.Noted.{Noted}
use Rattle.raft_group_lists.specs.Facts.{AcceptsUpTo}
use Rattle.raft_group_lists.specs.Notes.{Notes, accounts_of, list_to}
use Rattle.raft_group_lists.proofs.MessageLemmas.{messages_accept}
use Rattle.raft_list_facts.specs.declared.acceptance.Acceptance.{Acceptance}
use Rattle.raft_list_facts.specs.Accepting.{accepted_in}
use Rattle.raft_list_steps.specs.Lists.{HasFirst, IsKnown, IsListOf}
use Rattle.raft_list_steps.specs.Reports.{accepted_by, listed}
use Rattle.raft_list_steps.specs.Steps.{Accepts, AreSentBy, with_messages}

-- ---- worlds with more messages

pub with_messages_led : (w : GroupWorld) (ms : List Message) → (with_messages w ms).led ≡ w.led
with_messages_led w [] = refl
with_messages_led w (m ∷ ms) = with_messages_led (with_message w m) ms

pub with_messages_setup : (w : GroupWorld) (ms : List Message) → (with_messages w ms).setup ≡ w.setup
with_messages_setup w [] = refl
with_messages_setup w (m ∷ ms) = with_messages_setup (with_message w m) ms

pub with_messages_sent : (w : GroupWorld) (ms : List Message) → (with_messages w ms).messages ≡ w.messages ++ ms
with_messages_sent w [] = sym (append-nil w.messages)
with_messages_sent w (m ∷ ms) = with_messages_sent (with_message w m) ms ∙ append_assoc w.messages (m ∷ []) ms

pub fronts_before_all : (list : List Entry) (w : GroupWorld) (ms : List Message) → PartsAreFronts list (with_messages w ms) → PartsAreFronts list w
fronts_before_all list w [] fronts = fronts
fronts_before_all list w (m ∷ ms) fronts = fronts_before_messages list w m (fronts_before_all list (with_message w m) ms fronts)

-- ---- what they leave of a list

-- the same is noted, and it is true behind the message
pub list_behind_message : (s next : Notes) (w : GroupWorld) (m : Message) → next.noted ≡ s.noted → AreTrue (accounts_of next) (with_message w m) → IsListOf s w → IsListOf next (with_message w m)
list_behind_message s next w m same t h =
    record {
      truth = t;
      known = λ k less.
          let lists : list_to next.noted (Some k) ≡ list_to s.noted (Some k) = ap (λ (ns : List Noted). list_to ns (Some k)) same in
          subst (IsKnown (with_message w m)) (sym lists) (known_still (list_to s.noted (Some k)) (h.known k (subst (λ (ns : List Noted). k < length ns) same less)));
      first = λ x up.
          let f : HasFirst s x = h.first x up in
          record {
            at = f.at;
            within = subst (λ (ns : List Noted). f.at < length ns) (sym same) f.within;
            list = ap (λ (ns : List Noted). list_to ns (Some f.at)) same ∙ f.list;
          };
    }
  where
    known_still : (list : List Entry) → IsKnown w list → IsKnown (with_message w m) list
    known_still list known =
        ⊎_elim
        (λ k. inl (record { led = k.led; among = k.among; front = k.front }))
        (λ k. inr (record { membership = k.membership; set_up = k.set_up; alone = k.alone }))
        known

silent_one : (m : Message) → accepted_in m.body ≡ None → IsSilent m
silent_one m none = subst (λ (o : Option Acceptance). MatchOption o (IsSilent m) (λ x. AcceptsUpTo m.sender x.vote x.last m)) none (messages_accept m)

accepting_one : (m : Message) (x : Acceptance) → accepted_in m.body ≡ Some x → AcceptsUpTo m.sender x.vote x.last m
accepting_one m x some = subst (λ (o : Option Acceptance). MatchOption o (IsSilent m) (λ y. AcceptsUpTo m.sender y.vote y.last m)) some (messages_accept m)

-- whether a message accepts
accepts_or_not : (m : Message) → (accepted_in m.body ≡ None) ⊎ ((x : Acceptance) × (accepted_in m.body ≡ Some x))
accepts_or_not m = go (accepted_in m.body) refl
  where
    go : (o : Option Acceptance) → accepted_in m.body ≡ o → (accepted_in m.body ≡ None) ⊎ ((x : Acceptance) × (accepted_in m.body ≡ Some x))
    go None e = inl e
    go (Some x) e = inr (x, e)

behind_silent : (m : Message) (ms : List Message) → accepted_in m.body ≡ None → accepted_by (m ∷ ms) ≡ accepted_by ms
behind_silent m ms none = ap (λ (o : Option Acceptance). listed o ++ accepted_by ms) none

behind_accepting : (m : Message) (ms : List Message) (x : Acceptance) → accepted_in m.body ≡ Some x → accepted_by (m ∷ ms) ≡ x ∷ accepted_by ms
behind_accepting m ms x some = ap (λ (o : Option Acceptance). listed o ++ accepted_by ms) some

-- messages that accept nothing
pub accepts_none : (s : Notes) (w : GroupWorld) (ms : List Message) → accepted_by ms ≡ [] → IsListOf s w → IsListOf s (with_messages w ms)
accepts_none s w [] none h = h
accepts_none s w (m ∷ ms) none h =
    ⊎_elim
    (λ silent.
    accepts_none s (with_message w m) ms (sym (behind_silent m ms silent) ∙ none)
    (list_behind_message s s w m refl (silent_keep (accounts_of s) w m h.truth (silent_one m silent)) h))
    (λ x. absurd (let no : x.0 ∷ accepted_by ms ≡ [] = sym (behind_accepting m ms x.0 x.1) ∙ none in cc))
    (accepts_or_not m)

-- what `accept` promises
pub record AcceptsWith (s : Notes) (node : ℕ) (vote : Vote ℕ) (last : LogId ℕ) (next : Notes) : Type 0 where
  pub truth : (w : GroupWorld) (m : Message) (list : List Entry) → AreTrue (accounts_of s) w → AcceptsUpTo node vote last m → PartsAreFronts list (with_message w m) → AreTrue (accounts_of next) (with_message w m)
  pub noted : next.noted ≡ s.noted

module _ (s next : Notes) (node : ℕ) (accepted : Acceptance) (is : AcceptsWith s node accepted.vote accepted.last next) (list : List Entry) where
  -- messages of which one accepts
  accepts_once : (w : GroupWorld) (ms : List Message) → PartsAreFronts list (with_messages w ms) → AreSentBy node ms → accepted_by ms ≡ accepted ∷ [] → IsListOf s w → IsListOf next (with_messages w ms)
  accepts_once w [] fronts sent one h = absurd (let no : [] ≡ accepted ∷ [] = one in cc)
  accepts_once w (m ∷ ms) fronts sent one h =
      ⊎_elim
      (λ silent.
      accepts_once (with_message w m) ms fronts (λ x c. sent x (among_contains (m ∷ ms) x (inr (contains_among ms x c)))) (sym (behind_silent m ms silent) ∙ one)
      (list_behind_message s s w m refl (silent_keep (accounts_of s) w m h.truth (silent_one m silent)) h))
      (λ x.
      let both : x.0 ∷ accepted_by ms ≡ accepted ∷ [] = sym (behind_accepting m ms x.0 x.1) ∙ one in
      let same : x.0 ≡ accepted = cc in
      let rest : accepted_by ms ≡ [] = cc in
      let by : m.sender ≡ node = sent m (among_contains (m ∷ ms) m (inl refl)) in
      let up_to : AcceptsUpTo node accepted.vote accepted.last m =
      subst (λ (n : ℕ). AcceptsUpTo n accepted.vote accepted.last m) by
      (subst (λ (y : Acceptance). AcceptsUpTo m.sender y.vote y.last m) same (accepting_one m x.0 x.1))
      in
      accepts_none next (with_message w m) ms rest
      (list_behind_message s next w m is.noted (is.truth w m list h.truth up_to (fronts_before_all list (with_message w m) ms fronts)) h))
      (accepts_or_not m)

pub accepts_nothing : (s : Notes) (node : ℕ) (said : Option Acceptance) → said ≡ None → Accepts s node said s
accepts_nothing s node said none w sent list fronts by is h = accepts_none s w sent (is ∙ ap listed none) h

pub accepts : (s next : Notes) (node : ℕ) (said : Option Acceptance) (x : Acceptance) → said ≡ Some x → AcceptsWith s node x.vote x.last next → Accepts s node said next
accepts s next node said x some with_it w sent list fronts by is h =
    accepts_once s next node x with_it list w sent fronts by (is ∙ ap listed some) h
