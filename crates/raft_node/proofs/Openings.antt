-- A node that is being opened: which of its groups have done their step, and what a stop leaves.
use Rattle.std.proofs.Common.{◌≡◌, ◌⊎◌, ◌++◌, inl, inr, ℕ, Bool, true, false, List, [], ◌∷◌, Some, None, append_assoc, append-nil, refl, sym, ap, subst, ◌∙◌, arith}
use Rattle.std.specs.Prelude.{◌||◌, All}
use Rattle.std.specs.List.{AllByRecursion, AllZip}
use Rattle.std.specs.List.Sorted.{IsStrictlySortedBy}
use Rattle.std.specs.Ordering.{eq_by_cmp, is_eq, nat_cmp}
use Rattle.std.specs.Set.{is_member}
use Rattle.std.proofs.lemmas.Bool.Decides.{nat_tests}
use Rattle.std.proofs.lemmas.Cmp.{nat_cmp_total, tied_itself}
use Rattle.std.proofs.lemmas.List.{map-append}
use Rattle.std.proofs.lemmas.List.Elements.{All-nil, All-push, All-weaker}
use Rattle.std.proofs.lemmas.Map.Keys.{IsDistinct-from_sorted, IsDistinct-head, sorted_tail}
use Rattle.raft_group_storage.proofs.Naming.{same_number}
use Rattle.raft_group_step.specs.GroupEvent.{Open}
use Rattle.raft_group_step.specs.GroupState.{GroupState, state_of}
use Rattle.raft_group_step.specs.GroupStep.{group_step}
use Rattle.raft_group_step.specs.StoredGroup.{Snapshot, StoredGroup}
use Rattle.raft_group_storage.specs.Keeping.{FailsAnyhow, KeepsAll, KeepsOthers, ShowsMore}
use Rattle.raft_messages.specs.declared.memberships.SnapshotBytes.{SnapshotBytes}
use Rattle.raft_messages.specs.declared.message.Message.{Message as Sent}
use Rattle.raft_executor.specs.Said.{SaysAll}
use Rattle.raft_laws.specs.GroupWorld.{Up}
use Rattle.raft_machines.specs.Machine.{MachineRules}
use Rattle.raft_machines.specs.Telling.{AreToldAs}
use Rattle.raft_step_laws.specs.Tokens.{TokensGo}
use Rattle.raft_step_laws.proofs.Telling.{tokens_go}
use Rattle.raft_applier.specs.Applied.{HasGone, answers_of}
use Rattle.raft_applier.specs.declared.applied.Progress.{Progress}
use Rattle.raft_laws.specs.OneList.{applied_list}
use Rattle.raft_framed_groups.specs.Frames.{IsFramed}
use Rattle.raft_node_faults.specs.declared.fault.Fault.{Fault}
use Rattle.raft_node_faults.specs.declared.fault.Fault.TheVariants as fault
use Rattle.raft_node.specs.Ending.{AreFramed, IsDone, IsLeft, IsShownLeft}
use Rattle.raft_node.specs.Opening.{AreThere, HasNotOpened, HasOpened, IsBegun, IsUntouched, StopsNaming, groups_of}
use Rattle.raft_node.specs.Running.{RunsAt}
use Rattle.raft_node.specs.Standing.{IsAt, NodeValue}
use Rattle.raft_node.specs.Waiting.{waiting_of}
use Rattle.raft_node.specs.declared.outcome.Outcome.{Outcome}
use Rattle.raft_node.proofs.Ends.{waits}
use Rattle.raft_node.proofs.Faults.{shown_before, shown_behind, stands_on}

-- ---- tokens

module _ (own : ℕ) (st : StoredGroup) where
  tokens : TokensGo (state_of st) Open (group_step own (state_of st) Open)
  tokens = tokens_go own (state_of st) Open (λ e. absurd (let f : false ≡ true = e in cc)) (λ e. refl) refl refl

  -- nobody waits behind an opening
  pub none_waits : (group_step own (state_of st) Open).state.untold ≡ []
  none_waits = tokens.none_waits refl

  -- and nobody is told, or stays unknown
  pub none_gone : (rules : MachineRules) (p : Progress) → p.told.items ≡ [] → p.unknown.items ≡ [] → HasGone rules (group_step own (state_of st) Open) p
  none_gone rules p told unknown =
      let r = group_step own (state_of st) Open in
      let answers = answers_of rules (applied_list r.state) in
      record {
        told = subst (λ ts. AreToldAs answers ts r.told) (sym told) (subst (λ xs. AreToldAs answers [] xs) (sym (tokens.none_told refl)) tt);
        unknown = unknown ∙ sym (tokens.unknown refl);
      }

-- what an opening sent and left is what its step does
pub opened_group : (rules : MachineRules) (stands : SnapshotBytes → Snapshot → Type 0) (n : NodeValue) (group : ℕ) (st : StoredGroup) (o : Outcome) (messages : List (Sent SnapshotBytes)) → IsAt rules n group (group_step n.groups.own (state_of st) Open).state
    → SaysAll stands messages (group_step n.groups.own (state_of st) Open).messages → o.group ≡ group → AllZip (IsFramed group) messages o.frames.items → o.told.items ≡ [] → o.unknown.items ≡ [] → IsDone rules stands n group (state_of st) Open o
opened_group rules stands n group st o messages at say is framed told unknown = record {
  of_group = is;
  taken = refl;
  at = at;
  frames = record { messages = messages; say = say; framed = framed };
  gone = none_gone n.groups.own st rules (record { told = o.told; unknown = o.unknown }) told unknown;
}

-- ---- ids

other_id : (a b : ℕ) → eq_by_cmp nat_cmp a b ≡ false → a ≡ b → ⊥
other_id a b differ is =
    let same : eq_by_cmp nat_cmp a a ≡ true = ap is_eq (tied_itself nat_cmp_total a) in
    let no : true ≡ false = sym same ∙ subst (λ x. eq_by_cmp nat_cmp a x ≡ false) (sym is) differ in
    cc

not_among : (g : ℕ) (ks : List ℕ) → AllByRecursion (λ y. eq_by_cmp nat_cmp g y ≡ false) ks → is_member (eq_by_cmp nat_cmp) ks g ≡ false
not_among g [] apart = refl
not_among g (k ∷ ks) apart = ap (λ b. b || is_member (eq_by_cmp nat_cmp) ks g) apart.0 ∙ not_among g ks apart.1

first_among : (g : ℕ) (rest : List ℕ) → is_member (eq_by_cmp nat_cmp) (g ∷ rest) g ≡ true
first_among g rest = ap (λ b. b || is_member (eq_by_cmp nat_cmp) rest g) (ap is_eq (tied_itself nat_cmp_total g))

among_rest : (group g : ℕ) (rest : List ℕ) → eq_by_cmp nat_cmp group g ≡ false → is_member (eq_by_cmp nat_cmp) (g ∷ rest) group ≡ is_member (eq_by_cmp nat_cmp) rest group
among_rest group g rest differ = ap (λ b. b || is_member (eq_by_cmp nat_cmp) rest group) differ

-- ---- the groups

module _ (rules : MachineRules) (kept : ℕ → StoredGroup) where
  -- the group was opened
  pub record IsOpen (n : NodeValue) (left : List ℕ) (group : ℕ) : Type 0 where
    pub present : (kept group).present ≡ true
    pub gone : is_member (eq_by_cmp nat_cmp) left group ≡ false
    pub at : IsAt rules n group (group_step n.groups.own (state_of (kept group)) Open).state

  -- it is still to be opened, or isn't there
  pub record IsToCome (n : NodeValue) (left : List ℕ) (group : ℕ) : Type 0 where
    pub untouched : IsUntouched n group (kept group)
    pub among : is_member (eq_by_cmp nat_cmp) left group ≡ (kept group).present

  abbrev pub Way : NodeValue → List ℕ → ℕ → Type 0
  Way n left group = IsOpen n left group ⊎ IsToCome n left group

  -- the next group is still to be opened
  pub next_comes : (n : NodeValue) (g : ℕ) (rest : List ℕ) → Way n (g ∷ rest) g → ((kept g).present ≡ true) × IsUntouched n g (kept g)
  next_comes n g rest (inl up) = absurd (let no : true ≡ false = sym (first_among g rest) ∙ up.gone in cc)
  next_comes n g rest (inr come) = (sym come.among ∙ first_among g rest, come.untouched)

  -- ---- one is opened

  module _ (old new : NodeValue) (g : ℕ) (own : new.groups.own ≡ old.groups.own) (well : new.groups.is_well) (members : (other : ℕ) → (other ≡ g → ⊥) → new.groups.members other ≡ old.groups.members other)
      (running : (other : ℕ) → (other ≡ g → ⊥) → new.running other ≡ old.running other) (shows : KeepsOthers old.groups.shows new.groups.shows g) where
    at_else : (other : ℕ) (s : GroupState) → (other ≡ g → ⊥) → IsAt rules old other s → IsAt rules new other s
    at_else other s apart at = record {
      up = stands_on old.groups new.groups other (Up s) own (members other apart) (λ w. well) (λ parts. shows other parts apart) at.up;
      runs = subst (λ r. RunsAt rules r s) (sym (running other apart)) at.runs;
    }

    open_else : (other : ℕ) → (other ≡ g → ⊥) → IsAt rules old other (group_step old.groups.own (state_of (kept other)) Open).state → IsAt rules new other (group_step new.groups.own (state_of (kept other)) Open).state
    open_else other apart at = subst (λ k. IsAt rules new other (group_step k (state_of (kept other)) Open).state) (sym own) (at_else other _ apart at)

    pub way_on : (rest : List ℕ) → IsStrictlySortedBy nat_cmp (g ∷ rest) → (kept g).present ≡ true → IsAt rules new g (group_step new.groups.own (state_of (kept g)) Open).state
        → ((group : ℕ) → Way old (g ∷ rest) group) → (group : ℕ) → Way new rest group
    way_on rest rising present at way group = go (eq_by_cmp nat_cmp group g) refl
      where
        rest_way : eq_by_cmp nat_cmp group g ≡ false → Way old (g ∷ rest) group → Way new rest group
        rest_way differ (inl up) = inl (record { present = up.present; gone = sym (among_rest group g rest differ) ∙ up.gone; at = open_else group (other_id group g differ) up.at })
        rest_way differ (inr come) =
            let apart = other_id group g differ in
            inr (record {
              untouched = record { no_member = members group apart ∙ come.untouched.no_member; idle = running group apart ∙ come.untouched.idle; stored = shows group _ apart come.untouched.stored };
              among = sym (among_rest group g rest differ) ∙ come.among;
            })

        go : (b : Bool) → eq_by_cmp nat_cmp group g ≡ b → Way new rest group
        go true is = subst (Way new rest) (sym (same_number group g is)) (inl (record { present = present; gone = not_among g rest (IsDistinct-head (eq_by_cmp nat_cmp) g rest (IsDistinct-from_sorted nat_cmp (g ∷ rest) rising)); at = at }))
        go false is = rest_way is (way group)

    -- an outcome of another group stands
    done_on : (stands : SnapshotBytes → Snapshot → Type 0) → old.groups.members g ≡ None → (o : Outcome) → IsDone rules stands old o.group (state_of (kept o.group)) Open o → IsDone rules stands new o.group (state_of (kept o.group)) Open o
    done_on stands none o done =
        let apart : o.group ≡ g → ⊥ = λ is. let no : Some done.at.up.member ≡ None = sym done.at.up.has ∙ subst (λ x. old.groups.members x ≡ None) (sym is) none in cc in
        record {
          of_group = done.of_group;
          taken = refl;
          at = open_else o.group apart done.at;
          frames = subst (λ k. AreFramed stands o.group (group_step k (state_of (kept o.group)) Open).messages o.frames.items) (sym own) done.frames;
          gone = subst (λ k. HasGone rules (group_step k (state_of (kept o.group)) Open) (record { told = o.told; unknown = o.unknown })) (sym own) done.gone;
        }

  -- ---- so far

  -- these are left of these groups, and the others have these outcomes
  pub record IsOpening (stands : SnapshotBytes → Snapshot → Type 0) (n : NodeValue) (groups left : List ℕ) (outcomes : List Outcome) : Type 0 where
    pub well : n.groups.is_well
    pub rising : IsStrictlySortedBy nat_cmp left
    pub parts : groups_of outcomes ++ left ≡ groups
    pub way : (group : ℕ) → Way n left group
    pub done : All (λ (o : Outcome). IsDone rules stands n o.group (state_of (kept o.group)) Open o) outcomes

  pub opens_next : (stands : SnapshotBytes → Snapshot → Type 0) (old new : NodeValue) (g : ℕ) (groups rest : List ℕ) (outcomes : List Outcome) (o : Outcome) → new.groups.own ≡ old.groups.own → ((other : ℕ) → (other ≡ g → ⊥) → new.groups.members other ≡ old.groups.members other)
      → ((other : ℕ) → (other ≡ g → ⊥) → new.running other ≡ old.running other) → KeepsOthers old.groups.shows new.groups.shows g → IsDone rules stands new g (state_of (kept g)) Open o
      → IsOpening stands old groups (g ∷ rest) outcomes → IsOpening stands new groups rest (outcomes ++ o ∷ [])
  opens_next stands old new g groups rest outcomes o own members running shows opened is =
      let comes = next_comes old g rest (is.way g) in
      let well : new.groups.is_well = opened.at.up.holds.well in
      record {
        well = well;
        rising = sorted_tail nat_cmp g rest is.rising;
        parts =
            ap (λ l. l ++ rest) (map-append (λ (x : Outcome). x.group) outcomes (o ∷ []) ∙ ap (λ k. groups_of outcomes ++ k ∷ []) opened.of_group)
            ∙ append_assoc (groups_of outcomes) (g ∷ []) rest ∙ is.parts;
        way = way_on old new g own well members running shows rest is.rising comes.0 opened.at is.way;
        done =
            All-push (λ (x : Outcome). IsDone rules stands new x.group (state_of (kept x.group)) Open x) outcomes o
            (All-weaker (λ (x : Outcome). IsDone rules stands old x.group (state_of (kept x.group)) Open x) (λ (x : Outcome). IsDone rules stands new x.group (state_of (kept x.group)) Open x)
            (λ x. done_on old new g own well members running shows stands comes.1.no_member x) outcomes is.done)
            (subst (λ k. IsDone rules stands new k (state_of (kept k)) Open o) (sym opened.of_group) opened);
      }

  -- all are opened
  pub opens_all : (stands : SnapshotBytes → Snapshot → Type 0) (n : NodeValue) (groups : List ℕ) (outcomes : List Outcome) → AreThere kept groups → IsOpening stands n groups [] outcomes → HasOpened rules stands kept n outcomes
  opens_all stands n groups outcomes there is = record {
    well = is.well;
    there = subst (AreThere kept) (sym is.parts ∙ append-nil (groups_of outcomes)) there;
    done = is.done;
    at = λ group present. at_there group present (is.way group);
    none = λ group absent. none_there group absent (is.way group);
  }
    where
      at_there : (group : ℕ) → (kept group).present ≡ true → Way n [] group → IsAt rules n group (group_step n.groups.own (state_of (kept group)) Open).state
      at_there group present (inl up) = up.at
      at_there group present (inr come) = absurd (let no : false ≡ true = come.among ∙ present in cc)

      none_there : (group : ℕ) → (kept group).present ≡ false → Way n [] group → IsUntouched n group (kept group)
      none_there group absent (inl up) = absurd (let no : true ≡ false = sym up.present ∙ absent in cc)
      none_there group absent (inr come) = come.untouched

  -- ---- a stop

  module _ (F : Type 0) (old new : NodeValue) (left : List ℕ) (own : new.groups.own ≡ old.groups.own) (more : ShowsMore new.groups.shows) (way : (group : ℕ) → Way old left group) where
    nobody_waits : (group : ℕ) → Way old left group → waiting_of (old.running group) ≡ []
    nobody_waits group (inl up) = waits rules (old.running group) _ up.at.runs ∙ none_waits old.groups.own (kept group)
    nobody_waits group (inr come) = ap waiting_of come.untouched.idle

    names_none : (why : Fault F) → StopsNaming old.running why → StopsNaming (λ group. None) why
    names_none (fault.Stopped cause unknown) names = λ group. names group ∙ nobody_waits group (way group)
    names_none other names = absurd names

    left_of : (group : ℕ) → ((parts : List StoredGroup) → old.groups.shows group parts → new.groups.shows group parts) → Way old left group
        → IsShownLeft new.groups.shows new.groups.own group (state_of (kept group)) Open
    left_of group keeps (inl up) =
        shown_behind new group (state_of (kept group)) Open more (subst (λ k. new.groups.shows group ((group_step k (state_of (kept group)) Open).state.stored ∷ [])) (sym own) (keeps _ up.at.up.holds.stored))
    left_of group keeps (inr come) = shown_before new group (state_of (kept group)) Open more (keeps _ come.untouched.stored)

    none_of : (group : ℕ) → ((parts : List StoredGroup) → old.groups.shows group parts → new.groups.shows group parts) → (kept group).present ≡ false → Way old left group → new.groups.shows group (kept group ∷ [])
    none_of group keeps absent (inl up) = absurd (let no : true ≡ false = sym up.present ∙ absent in cc)
    none_of group keeps absent (inr come) = keeps _ come.untouched.stored

    -- what is shown stays
    pub stopped_here : (why : Fault F) → StopsNaming old.running why → KeepsAll old.groups.shows new.groups.shows → FailsAnyhow new.groups.fails
        → HasNotOpened new.groups.own kept new.groups.shows new.groups.fails why
    stopped_here why names keeps anyhow = record {
      stops = names_none why names;
      left = λ group present. left_of group (keeps group) (way group);
      none = λ group absent. none_of group (keeps group) absent (way group);
      failed = inl anyhow;
    }

    -- it stopped inside a group's opening
    pub stopped_in : (g : ℕ) (why : Fault F) → (kept g).present ≡ true → StopsNaming old.running why → KeepsOthers old.groups.shows new.groups.shows g → IsLeft new g (state_of (kept g)) Open
        → HasNotOpened new.groups.own kept new.groups.shows new.groups.fails why
    stopped_in g why there names keeps inside = record {
      stops = names_none why names;
      left = λ group present. left_by group (eq_by_cmp nat_cmp group g) refl;
      none = λ group absent. none_of group (λ parts. keeps group parts (λ is. let no : true ≡ false = sym there ∙ subst (λ k. (kept k).present ≡ false) is absent in cc)) absent (way group);
      failed = inr (g, there, inside.shown.0, inside.failed);
    }
      where
        left_by : (group : ℕ) (b : Bool) → eq_by_cmp nat_cmp group g ≡ b → IsShownLeft new.groups.shows new.groups.own group (state_of (kept group)) Open
        left_by group true is = subst (λ k. IsShownLeft new.groups.shows new.groups.own k (state_of (kept k)) Open) (sym (same_number group g is)) inside.shown
        left_by group false is = left_of group (λ parts. keeps group parts (other_id group g is)) (way group)
