-- What an event sends names its node as the sender.
use Rattle.std.specs.Prelude.{◌≡◌, ℕ, false, List, Option, Some, None, Contains}
use Rattle.std.proofs.Common.{sym, subst}
use Rattle.std.proofs.lemmas.List.Elements.{All-contains_itself, All-weaker}
use Rattle.raft_group_step.specs.GroupEvent.{GroupEvent}
use Rattle.raft_group_step.specs.GroupState.{GroupState}
use Rattle.raft_group_step.specs.GroupStep.{group_step}
use Rattle.raft_group_step.specs.Message.{Message}
use Rattle.raft_group_step.specs.StepResult.{RefusalReason}
use Rattle.raft_laws.specs.GroupRun.{Scene}
use Rattle.raft_laws.specs.GroupWorld.{Absent, Down, NodeState, Up}
use Rattle.raft_laws.specs.NodeEvent.{Comes, outcome_at, outcome_of_end}
use Rattle.raft_laws.proofs.Counts.{contains_among}
use Rattle.raft_laws.proofs.SentVotes.{step_sends_own}
use Rattle.raft_headline.specs.ClusterEvent.{Done, PassedOver, Refused, Said}
use Rattle.raft_headline.specs.Replaying.{Says}
use Rattle.raft_cluster_laws.specs.Acts.{ActsIn, MayBecome, answers_at}
use Rattle.raft_node_joint.specs.Leading.{recorded}
use Rattle.raft_node_joint.specs.Reopening.{AreOwn, OwnMessages}

-- so it is of a step
pub step_sends : (own : ℕ) (s : GroupState) (e : GroupEvent) → AreOwn own (group_step own s e).messages
step_sends own s e =
    let sent = (group_step own s e).messages in
    All-weaker (Contains sent) (λ (m : Message). m.sender ≡ own) (λ m has. step_sends_own own s e m (contains_among sent m has)) sent (All-contains_itself sent)

module _ (group n : ℕ) (answers : ℕ → Option (List ℕ)) (said : Said) (ge : GroupEvent) where
  -- what a step's end says
  end_says : (s : GroupState) (why : Option RefusalReason) → Says group false answers (Done said) (outcome_of_end (group_step n s ge) why) → AreOwn n said.sent
  end_says s (Some why) says = absurd (let no : Done said ≡ Refused why = says in cc)
  end_says s None says = subst (AreOwn n) (sym says.sent) (step_sends n s ge)

  -- an event was done only at a node that is up
  done_says : (s : NodeState) → Says group false answers (Done said) (outcome_at n (Comes ge) false s) → AreOwn n said.sent
  done_says Absent says = absurd (let no : Done said ≡ PassedOver = says in cc)
  done_says (Up s) says = end_says s (group_step n s ge).refused says
  done_says (Down st) says = absurd (let no : Done said ≡ PassedOver = says in cc)

pub own_messages : OwnMessages
own_messages rules n group history happened ge said olds news comes leads =
    let r = recorded n happened (Done said) in
    let origin = leads.came leads.one leads.some in
    let acts = subst (λ (scene : Scene). ActsIn rules group n r comes.event scene origin.0 leads.one) comes.scene
    (subst (λ x. MayBecome rules group n r history x origin.0 leads.one) (comes.own (Done said)) origin.2) in
    let answers = answers_at rules leads.one in
    done_says group n answers said ge origin.0
    (subst (λ b. Says group b answers (Done said) (outcome_at n (Comes ge) false origin.0)) comes.closed acts.2.says)
