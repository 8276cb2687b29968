-- The snapshot is of the place up to which all is committed, and so applied.
use Rattle.std.proofs.Common.{◌≡◌, Option, Some, None, sym, ap, ◌∙◌}
use Rattle.std.specs.Option.{option_copied}
use Rattle.raft_member.specs.Member.{Engine}
use Rattle.raft_world.proofs.member.Member.built.Goals as goal

pub returns-in_default-clause-up : goal.returns-in_default-clause-up
returns-in_default-clause-up c = λ s up triggers x covers.
    absurd (let no : ◌≡◌ {A = Option Engine} None (Some up.engine) = sym (ap option_copied c.in_default.is) ∙ (c.engine.ensures ∙ up.has_engine) in cc)
