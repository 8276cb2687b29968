-- The entries of a request that the log lacks: which they are, and where the log ends with them.
use Rattle.std.specs.Prelude.{◌≡◌, ℕ, zero, suc, ◌+◌, ◌-◌, ◌<◌, ◌≤◌, ◌||◌, min, Bool, true, false, if◌then◌else◌, is_some, List, [], ◌∷◌, ◌++◌, length, Option, Some, None, refl}
use Rattle.std.specs.List.{slice_get}
use Rattle.std.proofs.Common.{sym, ap, ◌∙◌, subst, arith, length-append, eqb-true}
use Rattle.std.proofs.lemmas.Bool.{and_parts, or_left, or_right}
use Rattle.std.proofs.lemmas.Bool.Decides.{nat_tests}
use Rattle.std.proofs.lemmas.List.{length-take}
use Rattle.raft_values.specs.declared.vote.Vote.{Vote}
use Rattle.raft_values.specs.declared.log_id.LogId.{LogId}
use Rattle.raft_values.specs.LogId.{next_place, place_of}
use Rattle.raft_group_step.specs.Values.{Entry}
use Rattle.raft_group_step.specs.StoredGroup.{StoredGroup, CutFrom, PutEntries, after_storing, entry_at, first_place, end_place, has_id_in_log, log_below}
use Rattle.raft_group_step.specs.GroupState.{GroupState}
use Rattle.raft_group_step.specs.StepResult.{StepResult, is_within, later_place, store}
use Rattle.raft_group_step.specs.Message.{last_sent}
use Rattle.raft_group_step.specs.AppendRequest.{above_committed, cut_at, cut_from, is_held, lesser_place, missing_entries, put_entries}
use Rattle.raft_group_step.specs.Refusal.{do_follow}
use Rattle.raft_group_step.proofs.EntryPlaces.{in_log_within}
use Rattle.raft_group_step.proofs.Words.{cut_keeps_first}
use Rattle.raft_known_state.specs.KnownState.{ArePlaced}
use Rattle.raft_engine.specs.Standing.{IsInOrder}
use Rattle.raft_engine.specs.Following.{EndsWithin, unheld_entries}
use Rattle.raft_engine.specs.Ordering.{EndsBefore}
use Rattle.raft_known_state.proofs.PlacedIds.{by_order}
use Rattle.raft_engine.proofs.PlacedEntries.{entry_from, in_log_of_entry, none_behind}
use Rattle.raft_engine.proofs.FollowingLemmas.{above_first, cut_ends, end_past, within_log}

-- a cut leaves the vote in force
cut_keeps_vote : (place : ℕ) (r : StepResult) → (cut_from place r).state.stored.vote ≡ r.state.stored.vote
cut_keeps_vote place r = elim (is_some (entry_at r.state.stored place)) as (λ b. (if b then store (CutFrom place) r else r).state.stored.vote ≡ r.state.stored.vote) [ true ↦ refl | false ↦ refl ]

-- ---- entries that follow

-- entries that follow stand at their places
pub placed_after : (vote : Vote ℕ) (es : List Entry) (previous : Option (LogId ℕ)) → do_follow vote previous es ≡ true → ArePlaced (next_place previous) es
placed_after vote [] previous h = tt
placed_after vote (e ∷ es) None h =
    let parts = and_parts _ _ h in let first = and_parts _ _ parts.0 in
    let at : e.log_id.index ≡ 0 = eqb-true e.log_id.index 0 first.0 in
    let next : e.log_id.index + 1 ≡ 1 = omega arith in
    (at, subst (λ n. ArePlaced n es) next (placed_after vote es (Some e.log_id) parts.1))
placed_after vote (e ∷ es) (Some id) h =
    let parts = and_parts _ _ h in let more = and_parts _ _ parts.0 in let first = and_parts _ _ more.0 in
    let at : e.log_id.index ≡ id.index + 1 = eqb-true e.log_id.index (id.index + 1) first.0 in
    let next : e.log_id.index + 1 ≡ suc (id.index + 1) = omega arith in
    (at, subst (λ n. ArePlaced n es) next (placed_after vote es (Some e.log_id) parts.1))

-- the last of them stands where they end
pub ends_at : (es : List Entry) (previous : Option (LogId ℕ)) → ArePlaced (next_place previous) es → next_place (last_sent previous es) ≡ next_place previous + length es
ends_at [] previous p = omega arith
ends_at (e ∷ es) previous p =
    let at : e.log_id.index ≡ next_place previous = p.0 in
    let next : suc (next_place previous) ≡ e.log_id.index + 1 = omega arith in
    let rest : next_place (last_sent (Some e.log_id) es) ≡ e.log_id.index + 1 + length es = ends_at es (Some e.log_id) (subst (λ n. ArePlaced n es) next p.1) in
    omega arith

-- ---- those that the log lacks

all_above : (es : List Entry) (committed : Option ℕ) (place : ℕ) → ArePlaced place es → is_within place committed ≡ false → above_committed committed es ≡ es
all_above [] committed place p f = refl
all_above (e ∷ es) committed place p f =
    let out : is_within e.log_id.index committed ≡ false = ap (λ n. is_within n committed) p.0 ∙ f in
    rw out (ap (λ rest. e ∷ rest) (all_above es committed (suc place) p.1 (later committed f)))
  where
    later : (c : Option ℕ) → is_within place c ≡ false → is_within (suc place) c ≡ false
    later None g = refl
    later (Some a) g = grind (arith, nat_tests, g)

later_past : (c : Option ℕ) (place : ℕ) → is_within place c ≡ false → is_within (suc place) c ≡ false
later_past None place g = refl
later_past (Some a) place g = grind (arith, nat_tests, g)

not_held : (s : StoredGroup) (es : List Entry) (committed : Option ℕ) (place : ℕ) → ArePlaced place es → is_within place committed ≡ false → missing_entries s es ≡ unheld_entries s committed es
not_held s [] committed place p f = refl
not_held s (e ∷ es) committed place p f =
    let out : is_within e.log_id.index committed ≡ false = ap (λ n. is_within n committed) p.0 ∙ f in
    rw (out, not_held s es committed (suc place) p.1 (later_past committed place f)) refl

-- those that are missing are those from the first one on that isn't held
pub missing_are : (s : StoredGroup) (es : List Entry) (committed : Option ℕ) (place : ℕ) → ArePlaced place es → unheld_entries s committed es ≡ missing_entries s (above_committed committed es)
missing_are s [] committed place p = refl
missing_are s (e ∷ es) committed place p = by_test (missing_are s es committed (suc place) p.1) (is_within e.log_id.index committed) refl
  where
    by_test : unheld_entries s committed es ≡ missing_entries s (above_committed committed es) → (b : Bool) → is_within e.log_id.index committed ≡ b → unheld_entries s committed (e ∷ es) ≡ missing_entries s (above_committed committed (e ∷ es))
    by_test rest true f = rw f rest
    by_test rest false f =
        let out : is_within place committed ≡ false = ap (λ n. is_within n committed) (sym p.0) ∙ f in
        sym (ap (missing_entries s) (all_above (e ∷ es) committed place p out) ∙ not_held s (e ∷ es) committed place p out)

module _ (s : GroupState) (o : IsInOrder s) where
  -- what is held stands before the log's end
  pub held_within : (id : LogId ℕ) → is_held s.stored s.committed (Some id) ≡ true → id.index < end_place s.stored
  held_within id h = by_test (is_within id.index s.committed) refl
    where
      by_test : (b : Bool) → is_within id.index s.committed ≡ b → id.index < end_place s.stored
      by_test true f = within_log s o id.index f
      by_test false f = in_log_within s.stored id (ap (λ b. b || has_id_in_log s.stored id) (sym f) ∙ h)

  pub previous_within : (previous : Option (LogId ℕ)) → is_held s.stored s.committed previous ≡ true → next_place previous ≤ end_place s.stored
  previous_within None h = omega arith
  previous_within (Some id) h = let g : id.index < end_place s.stored = held_within id h in omega arith

  -- what isn't held is past what is committed
  pub unheld_past : (id : LogId ℕ) → is_held s.stored s.committed (Some id) ≡ false → is_within id.index s.committed ≡ false
  unheld_past id f = by_within (is_within id.index s.committed) refl
    where
      by_within : (b : Bool) → is_within id.index s.committed ≡ b → b ≡ false
      by_within false g = refl
      by_within true g = let no : true ≡ false = ap (λ b. b || has_id_in_log s.stored id) (sym g) ∙ f in cc

  -- where those that aren't held begin, and how far they go
  pub record Begin (es : List Entry) (place : ℕ) : Type 0 where
    pub start : ℕ
    pub placed : ArePlaced start (unheld_entries s.stored s.committed es)
    pub past : is_within start s.committed ≡ false
    pub within : start ≤ end_place s.stored
    pub reach : place + length es ≤ start + length (unheld_entries s.stored s.committed es)

  pub begin : (es : List Entry) (place : ℕ) → ArePlaced place es → place ≤ end_place s.stored → Begin es place
  begin [] place p l = record { start = end_place s.stored; placed = tt; past = end_past s o; within = omega arith; reach = omega arith }
  begin (e ∷ es) place p l = by_test (begin es (suc place) p.1) (is_held s.stored s.committed (Some e.log_id)) refl
    where
      by_test : (suc place ≤ end_place s.stored → Begin es (suc place)) → (b : Bool) → is_held s.stored s.committed (Some e.log_id) ≡ b → Begin (e ∷ es) place
      by_test more true f =
          let g : e.log_id.index < end_place s.stored = held_within e.log_id f in
          let at : e.log_id.index ≡ place = p.0 in
          let rest : Begin es (suc place) = more (omega arith) in
          let same : unheld_entries s.stored s.committed (e ∷ es) ≡ unheld_entries s.stored s.committed es = rw f refl in
          record {
            start = rest.start;
            placed = subst (ArePlaced rest.start) (sym same) rest.placed;
            past = rest.past;
            within = rest.within;
            reach = subst (λ xs. place + length (e ∷ es) ≤ rest.start + length xs) (sym same) (let h = rest.reach in omega arith);
          }
      by_test more false f =
          let same : unheld_entries s.stored s.committed (e ∷ es) ≡ e ∷ es = rw f refl in
          record {
            start = place;
            placed = subst (ArePlaced place) (sym same) p;
            past = ap (λ n. is_within n s.committed) (sym p.0) ∙ unheld_past e.log_id f;
            within = l;
            reach = subst (λ xs. place + length (e ∷ es) ≤ place + length xs) (sym same) (omega arith);
          }

-- put at their place, the log goes as far as they do
pub put_reaches : (es : List Entry) (place : ℕ) (r : StepResult) → IsInOrder r.state → ArePlaced place es → is_within place r.state.committed ≡ false → place ≤ end_place r.state.stored
    → place + length es ≤ end_place (put_entries es r).state.stored
put_reaches [] place r o p past l = omega arith
put_reaches (e ∷ es) place r o p past l =
    subst (λ at. place + length (e ∷ es) ≤ end_place (after_storing (PutEntries at (e ∷ es)) (cut_from at r).state.stored)) (sym p.0) (behind (cut_from place r).state.stored (cut_ends r place o past l))
  where
    behind : (s : StoredGroup) → end_place s ≡ place → place + length (e ∷ es) ≤ end_place (after_storing (PutEntries place (e ∷ es)) s)
    behind s f =
        let n = length-append (log_below s place) (e ∷ es) in
        let m = length-take (place - first_place s) s.log in omega (arith, n, m)

-- ---- the last entry of a request

-- the entries' last one, and which one that is
record Last (es : List Entry) (place : ℕ) (previous : Option (LogId ℕ)) : Type 0 where
  pub n : ℕ
  pub entry : Entry
  pub there : slice_get es n ≡ Some entry
  pub last : last_sent previous es ≡ Some entry.log_id
  pub index : entry.log_id.index ≡ place + n

last_of : (e : Entry) (es : List Entry) (place : ℕ) (previous : Option (LogId ℕ)) → ArePlaced place (e ∷ es) → Last (e ∷ es) place previous
last_of e [] place previous p = record { n = 0; entry = e; there = refl; last = refl; index = let at : e.log_id.index ≡ place = p.0 in omega arith }
last_of e (y ∷ es) place previous p =
    let l : Last (y ∷ es) (suc place) (Some e.log_id) = last_of y es (suc place) (Some e.log_id) p.1 in
    record { n = suc l.n; entry = l.entry; there = l.there; last = l.last; index = let at : l.entry.log_id.index ≡ suc place + l.n = l.index in omega arith }

-- entries that stand where the log ends are in it once they are put there
get_behind : (xs ys : List Entry) (i n : ℕ) → i ≡ length xs + n → slice_get (xs ++ ys) i ≡ slice_get ys n
get_behind [] ys i n e = let same : i ≡ n = omega (arith, e) in ap (slice_get ys) same
get_behind (x ∷ xs) ys zero n e = absurd (omega (arith, e))
get_behind (x ∷ xs) ys (suc i) n e = get_behind xs ys i n (omega (arith, e))

put_has : (s : StoredGroup) (es : List Entry) (place n : ℕ) (e : Entry) → first_place s ≤ place → end_place s ≡ place → slice_get es n ≡ Some e → e.log_id.index ≡ place + n
    → has_id_in_log (after_storing (PutEntries place es) s) e.log_id ≡ true
put_has s es place n e l ends there index =
    let count = length-take (place - first_place s) s.log in
    in_log_of_entry (after_storing (PutEntries place es) s) e
    (entry_from (after_storing (PutEntries place es) s) e.log_id.index (omega (arith, index))
    ∙ get_behind (log_below s place) es (e.log_id.index - first_place s) n (omega (arith, count, index)) ∙ there)

held_in_log : (s : StoredGroup) (committed : Option ℕ) (last : Option (LogId ℕ)) (id : LogId ℕ) → last ≡ Some id → has_id_in_log s id ≡ true → is_held s committed last ≡ true
held_in_log s committed last id e h = ap (is_held s committed) e ∙ or_right (is_within id.index committed) (has_id_in_log s id) h

-- what is held stays so once more is committed
within_later : (place : ℕ) (a b : Option ℕ) → is_within place a ≡ true → is_within place (later_place a b) ≡ true
within_later place None b h = cc h
within_later place (Some a) None h = h
within_later place (Some a) (Some b) h = grind (arith, nat_tests, h)

held_later : (s : StoredGroup) (committed more : Option ℕ) (last : Option (LogId ℕ)) → is_held s committed last ≡ true → is_held s (later_place committed more) last ≡ true
held_later s committed more None h = refl
held_later s committed more (Some id) h = by_test (is_within id.index committed) refl
  where
    by_test : (b : Bool) → is_within id.index committed ≡ b → is_held s (later_place committed more) (Some id) ≡ true
    by_test true f = or_left (is_within id.index (later_place committed more)) (has_id_in_log s id) (within_later id.index committed more f)
    by_test false f = held_in_log s (later_place committed more) (Some id) id refl (ap (λ b. b || has_id_in_log s id) (sym f) ∙ h)

-- once entries are put, the last one is held
put_last_held : (e : Entry) (es : List Entry) (previous : Option (LogId ℕ)) (r : StepResult) → IsInOrder r.state → ArePlaced e.log_id.index (e ∷ es) → is_within e.log_id.index r.state.committed ≡ false
    → e.log_id.index ≤ end_place r.state.stored → is_held (put_entries (e ∷ es) r).state.stored r.state.committed (last_sent previous (e ∷ es)) ≡ true
put_last_held e es previous r o p past l =
    let place = e.log_id.index in
    let cut = (cut_from place r).state.stored in
    let found : Last (e ∷ es) place previous = last_of e es place previous p in
    let first : first_place cut ≤ place = let a : first_place r.state.stored ≤ place = above_first r.state o place past in omega (arith, cut_keeps_first place r) in
    held_in_log (after_storing (PutEntries place (e ∷ es)) cut) r.state.committed (last_sent previous (e ∷ es)) found.entry.log_id found.last
    (put_has cut (e ∷ es) place found.n found.entry first (cut_ends r place o past l) found.there found.index)

-- once the missing entries are put, the request's last one is held: it was, or it is put
missing_last_held : (r : StepResult) (es : List Entry) (previous : Option (LogId ℕ)) (place : ℕ) → IsInOrder r.state → ArePlaced place es → place ≤ end_place r.state.stored → is_held r.state.stored r.state.committed previous ≡ true
    → is_held (put_entries (unheld_entries r.state.stored r.state.committed es) r).state.stored r.state.committed (last_sent previous es) ≡ true
missing_last_held r [] previous place o p l held = held
missing_last_held r (e ∷ es) previous place o p l held = by_test (missing_last_held r es (Some e.log_id) (suc place) o p.1) (is_held r.state.stored r.state.committed (Some e.log_id)) refl
  where
    by_test : (suc place ≤ end_place r.state.stored → is_held r.state.stored r.state.committed (Some e.log_id) ≡ true
        → is_held (put_entries (unheld_entries r.state.stored r.state.committed es) r).state.stored r.state.committed (last_sent (Some e.log_id) es) ≡ true)
        → (b : Bool) → is_held r.state.stored r.state.committed (Some e.log_id) ≡ b
        → is_held (put_entries (unheld_entries r.state.stored r.state.committed (e ∷ es)) r).state.stored r.state.committed (last_sent previous (e ∷ es)) ≡ true
    by_test more true f =
        let same : unheld_entries r.state.stored r.state.committed (e ∷ es) ≡ unheld_entries r.state.stored r.state.committed es = rw f refl in
        let within : e.log_id.index < end_place r.state.stored = held_within r.state o e.log_id f in
        let at : e.log_id.index ≡ place = p.0 in
        rw same (more (omega arith) f)
    by_test more false f =
        let same : unheld_entries r.state.stored r.state.committed (e ∷ es) ≡ e ∷ es = rw f refl in
        let at : e.log_id.index ≡ place = p.0 in
        rw same
        (put_last_held e es previous r o (subst (λ n. ArePlaced n (e ∷ es)) (sym at) p) (unheld_past r.state o e.log_id f) (omega arith))

-- ---- the place up to which the leader says all is committed

pub lesser_within : (a : Option ℕ) (last : Option (LogId ℕ)) (s : StoredGroup) → next_place last ≤ end_place s → EndsWithin (lesser_place a (place_of last)) s
lesser_within None last s l p e = cc
lesser_within (Some a) None s l p e = cc
lesser_within (Some a) (Some id) s l p e =
    let same : min a id.index ≡ p = cc in let k : id.index + 1 ≤ end_place s = l in omega arith

-- once the missing entries are put, the log goes as far as the request's
pub request_reaches : (r : StepResult) (vote : Vote ℕ) (previous : Option (LogId ℕ)) (es : List Entry) → IsInOrder r.state → do_follow vote previous es ≡ true → is_held r.state.stored r.state.committed previous ≡ true
    → next_place (last_sent previous es) ≤ end_place (put_entries (missing_entries r.state.stored (above_committed r.state.committed es)) r).state.stored
request_reaches r vote previous es o follow held =
    let placed = placed_after vote es previous follow in
    let b : Begin r.state o es (next_place previous) = begin r.state o es (next_place previous) placed (previous_within r.state o previous held) in
    let missing = missing_are r.state.stored es r.state.committed (next_place previous) placed in
    let reached = put_reaches (unheld_entries r.state.stored r.state.committed es) b.start r o b.placed b.past b.within in
    let ends = ends_at es previous placed in
    let far : next_place (last_sent previous es) ≤ end_place (put_entries (unheld_entries r.state.stored r.state.committed es) r).state.stored = let reach = b.reach in omega arith in
    subst (λ xs. next_place (last_sent previous es) ≤ end_place (put_entries xs r).state.stored) missing far

-- and it has the request's last entry, also once more is committed
pub request_held : (r : StepResult) (vote : Vote ℕ) (previous : Option (LogId ℕ)) (es : List Entry) (said : Option ℕ) → IsInOrder r.state → do_follow vote previous es ≡ true → is_held r.state.stored r.state.committed previous ≡ true
    → is_held (put_entries (missing_entries r.state.stored (above_committed r.state.committed es)) r).state.stored (later_place r.state.committed said) (last_sent previous es) ≡ true
request_held r vote previous es said o follow held =
    let placed = placed_after vote es previous follow in
    let missing = missing_are r.state.stored es r.state.committed (next_place previous) placed in
    held_later (put_entries (missing_entries r.state.stored (above_committed r.state.committed es)) r).state.stored r.state.committed said (last_sent previous es)
    (subst (λ xs. is_held (put_entries xs r).state.stored r.state.committed (last_sent previous es) ≡ true) missing
    (missing_last_held r es previous (next_place previous) o placed (previous_within r.state o previous held) held))

-- and it has the place up to which the request says all is committed
pub request_within : (r : StepResult) (vote : Vote ℕ) (previous : Option (LogId ℕ)) (es : List Entry) (said : Option ℕ) → IsInOrder r.state → do_follow vote previous es ≡ true → is_held r.state.stored r.state.committed previous ≡ true
    → EndsWithin (lesser_place said (place_of (last_sent previous es))) (put_entries (missing_entries r.state.stored (above_committed r.state.committed es)) r).state.stored
request_within r vote previous es said o follow held =
    lesser_within said (last_sent previous es) (put_entries (missing_entries r.state.stored (above_committed r.state.committed es)) r).state.stored
    (request_reaches r vote previous es o follow held)

-- the entries leave the vote in force
pub put_keeps_vote : (es : List Entry) (r : StepResult) → (put_entries es r).state.stored.vote ≡ r.state.stored.vote
put_keeps_vote [] r = refl
put_keeps_vote (e ∷ es) r = cut_keeps_vote e.log_id.index r

-- and what is committed
cut_keeps_committed : (place : ℕ) (r : StepResult) → (cut_from place r).state.committed ≡ r.state.committed
cut_keeps_committed place r = elim (is_some (entry_at r.state.stored place)) as (λ b. (if b then store (CutFrom place) r else r).state.committed ≡ r.state.committed) [ true ↦ refl | false ↦ refl ]

pub put_keeps_committed : (es : List Entry) (r : StepResult) → (put_entries es r).state.committed ≡ r.state.committed
put_keeps_committed [] r = refl
put_keeps_committed (e ∷ es) r = cut_keeps_committed e.log_id.index r

-- ---- the log id that the log doesn't have

-- once the log is cut at it, it ends there at the latest
pub cut_before : (r : StepResult) (previous : Option (LogId ℕ)) → IsInOrder r.state → is_held r.state.stored r.state.committed previous ≡ false → EndsBefore previous (cut_at previous r).state.stored
cut_before r None o h = cc h
cut_before r (Some id) o h = by_within (is_within id.index r.state.committed) refl
  where
    by_within : (b : Bool) → is_within id.index r.state.committed ≡ b → end_place (cut_from id.index r).state.stored ≤ id.index
    by_within true f = let no : true ≡ false = ap (λ b. b || has_id_in_log r.state.stored id) (sym f) ∙ h in cc no
    by_within false f =
        by_order id.index (end_place r.state.stored)
        (λ m. let at : end_place (cut_from id.index r).state.stored ≡ id.index = cut_ends r id.index o f (omega arith) in omega arith)
        (λ m. let none : is_some (entry_at r.state.stored id.index) ≡ false = none_behind r.state.stored id.index m in rw none m)

pub cut_at_keeps_vote : (previous : Option (LogId ℕ)) (r : StepResult) → (cut_at previous r).state.stored.vote ≡ r.state.stored.vote
cut_at_keeps_vote None r = refl
cut_at_keeps_vote (Some id) r = cut_keeps_vote id.index r
