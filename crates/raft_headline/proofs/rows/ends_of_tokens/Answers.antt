use Rattle.std.specs.Prelude.{[], ◌∷◌, refl}
use Rattle.raft_laws.proofs.Counts.{at_contains}
use Rattle.raft_headline.specs.Rows.{told_at}
use Rattle.raft_headline.specs.Tokens.{IsToldThere}
use Rattle.raft_headline.proofs.rows.ends_of_tokens.Goals as goal

pub returns-clause-told : goal.returns-clause-told
returns-clause-told c = IsToldThere (told_at 1 2 []) (at_contains (told_at 1 2 [] ∷ []) (told_at 1 2 []) 0 refl) refl refl
