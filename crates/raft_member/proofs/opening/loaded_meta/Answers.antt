-- What is told covers what the stored snapshot does.
use Rattle.std.proofs.Common.{◌≡◌, IfOk, Option, ap, subst, ◌∙◌}
use Rattle.std.specs.Option.{option_copied}
use Rattle.raft_group_step.specs.StoredGroup.{Snapshot}
use Rattle.raft_group_storage.specs.Loaded.{IsHead}
use Rattle.raft_known_state.specs.KnownState.{meta_of}
use Rattle.raft_member.proofs.LoadedLemmas.{head_of, head_says, no_head}
use Rattle.raft_member.proofs.opening.loaded_meta.Goals as goal

pub returns-in_default : goal.returns-in_default
returns-in_default c = λ x head.
    c.default.ensures ∙ ap meta_of (no_head x (subst (λ o. IsHead o x) (ap option_copied c.in_default.is) head))

pub returns : goal.returns
returns c = λ x head.
    let h = head_of c.in-Some.covered.now x (subst (λ o. IsHead o x) (ap option_copied c.in-Some.is) head) in
    subst (λ (y : Option Snapshot). IfOk c.meta_of.result (λ meta. meta ≡ meta_of y)) h.is
    (c.meta_of.ensures h.snapshot (head_says _ c.in-Some.covered.now x h c.head_of.ensures.last c.head_of.ensures.membership))
