use Rattle.std.proofs.Common.{◌≡◌, ◌⊎◌, ℕ, eqb, Bool, true, false, cond, List, [], ◌∷◌, inl, inr, refl, sym, ap, ◌∙◌, subst, eqb-true, arith}
use Rattle.raft_group_step.specs.GroupState.{state_of}
use Rattle.raft_laws.specs.declared.world_event.WorldEvent.TheVariants as world
use Rattle.raft_laws.specs.GroupWorld.{Absent, Down, NodeState, Up}
use Rattle.raft_laws.proofs.Counts.{contains_among}
use Rattle.raft_machines.specs.Adding.{adding}
use Rattle.raft_headline.specs.ClusterEvent.{AddGroup, ClusterEvent, ClusterOutcome, Done, Halt, PassedOver, is_stopped, silent}
use Rattle.raft_headline.specs.Rows.{at_one}
use Rattle.raft_headline.specs.Seen.{Passed, own_or_aside, seen_by}
use Rattle.raft_cluster_laws.specs.Acts.{EventLeads, MayBecome}
use Rattle.raft_cluster_laws.specs.Rows.{made, nothing}
use Rattle.raft_cluster_laws.proofs.EventKept.{is_only}
use Rattle.raft_cluster_laws.proofs.NodesActing.{has_first, others_act}
use Rattle.raft_node_laws.specs.Rows.{IsLed, Small, has_seven, knows_none}
use Rattle.raft_node_laws.proofs.rows.nodes_that_are_led.Goals as goal

-- what is led without a stop is led in each group
leads_in : (group : ℕ) (new : Small) (o : ClusterOutcome) → is_stopped o ≡ false → IsLed group new o → (h : ℕ) → EventLeads adding h 1 (at_one (AddGroup 1 group) o) [] (nothing ∷ []) (new h)
leads_in group new o ends l h =
    let told : l.told ≡ AddGroup 1 group = go l.as_itself in
    let P : ClusterEvent → Type 0 = λ e. EventLeads adding h 1 (record { event = e; node = 1; outcome = l.outcome }) [] (nothing ∷ []) (l.news h) in
    let Q : ClusterOutcome → Type 0 = λ p. EventLeads adding h 1 (at_one (AddGroup 1 group) p) [] (nothing ∷ []) (l.news h) in
    let R : List NodeState → Type 0 = λ states. EventLeads adding h 1 (at_one (AddGroup 1 group) o) [] (nothing ∷ []) states in
    subst R (l.may_be h) (subst Q l.says (subst P told (l.leads h)))
  where
    go : (l.told ≡ AddGroup 1 group) ⊎ ((l.told ≡ Halt 1) × (is_stopped l.outcome ≡ true)) → l.told ≡ AddGroup 1 group
    go (inl is) = is
    go (inr halts) = let no : true ≡ false = sym halts.1 ∙ ap is_stopped l.says ∙ ends in absurd (cc)

is_made : NodeState → Bool
is_made Absent = false
is_made (Up s) = s.stored.present
is_made (Down st) = st.present

-- it may become this by getting group 7
abbrev Becomes : ClusterOutcome → NodeState → NodeState → Type 0
Becomes o s t = MayBecome adding 7 1 (at_one (AddGroup 1 7) o) [] (seen_by 7 (at_one (AddGroup 1 7) o)) s t

pub returns-clause-idle : goal.returns-clause-idle
unfolding is_made
returns-clause-idle c = λ l.
    let came = (leads_in 7 knows_none (Done silent) refl l 7).came nothing (has_first nothing) in
    let may = subst (λ s. Becomes (Done silent) s nothing) (is_only nothing came.0 came.1) came.2 in
    let no : false ≡ true = ap is_made may.2.left in
    absurd (cc)

pub returns-clause-another : goal.returns-clause-another
unfolding is_made
returns-clause-another c = λ l.
    let came = (leads_in 9 has_seven (Done silent) refl l 7).came (Up (state_of made)) (has_first (Up (state_of made))) in
    let no : true ≡ false = ap is_made (came.2 ∙ is_only nothing came.0 came.1) in
    absurd (cc)

pub returns-clause-passed : goal.returns-clause-passed
returns-clause-passed c = λ l.
    let came = (leads_in 7 knows_none PassedOver refl l 7).came nothing (has_first nothing) in
    let may = subst (λ s. Becomes PassedOver s nothing) (is_only nothing came.0 came.1) came.2 in
    may.2.says

pub returns-clause-nowhere : goal.returns-clause-nowhere
returns-clause-nowhere c = λ l. let e = leads_in 7 (λ h. []) (Done silent) refl l 7 in contains_among [] e.one e.some

-- group 7 is there
gets_it : Becomes (Done silent) nothing (Up (state_of made))
gets_it = (
  refl,
  refl,
  record { number = 0; left = refl; says = record { sent = refl; told = tt; unknown = refl }; lawful = refl },
)

in_group : (h : ℕ) (b : Bool) → eqb 7 h ≡ b → EventLeads adding h 1 (at_one (AddGroup 1 7) (Done silent)) [] (nothing ∷ []) (has_seven h)
in_group h true is =
    subst (λ g. EventLeads adding g 1 (at_one (AddGroup 1 7) (Done silent)) [] (nothing ∷ []) (has_seven g)) (eqb-true 7 h is)
    ((others_act adding 7 1 (at_one (AddGroup 1 7) (Done silent))).to_one [] nothing (Up (state_of made)) gets_it)
in_group h false is =
    let r = at_one (AddGroup 1 7) (Done silent) in
    let other : eqb h 7 ≡ false = grind arith in
    let passed : seen_by h r ≡ Passed = ap (λ b. own_or_aside b (world.Add 1) 1 (Done silent)) is in
    let may : MayBecome adding h 1 r [] (seen_by h r) nothing nothing = subst (λ seen. MayBecome adding h 1 r [] seen nothing nothing) (sym passed) refl in
    subst (λ b. EventLeads adding h 1 r [] (nothing ∷ []) (cond b (Up (state_of made) ∷ []) (nothing ∷ []))) (sym other) ((others_act adding h 1 r).to_one [] nothing nothing may)

pub returns-clause-gets : goal.returns-clause-gets
returns-clause-gets c = record {
  outcome = Done silent;
  says = refl;
  told = AddGroup 1 7;
  as_itself = inl refl;
  news = has_seven;
  may_be = λ h. refl;
  leads = λ h. in_group h (eqb 7 h) refl;
}
