use Rattle.raft_log_disk.proofs.LawLemmas.{least_is_an_image, most_is_an_image}
use Rattle.raft_log_disk.proofs.laws.least_and_most_are_images.Goals as goal

pub returns-clause-named : goal.returns-clause-named
returns-clause-named g c = (g.met.F.FileSystem g.world.𝓛 g.world.𝓜 g.world.𝓡 ((λ s x. x), (λ x. x), (λ x. x), λ x. x)).is_named c.args.files.now

pub returns-clause-least : goal.returns-clause-least
returns-clause-least g c =
    let met = g.met.F.FileSystem g.world.𝓛 g.world.𝓜 g.world.𝓡 ((λ s x. x), (λ x. x), (λ x. x), λ x. x) in
    least_is_an_image _ (met.is_named c.args.files.now) (met.has_images c.args.files.now)

pub returns-clause-most : goal.returns-clause-most
returns-clause-most g c =
    let met = g.met.F.FileSystem g.world.𝓛 g.world.𝓜 g.world.𝓡 ((λ s x. x), (λ x. x), (λ x. x), λ x. x) in
    most_is_an_image _ (met.is_named c.args.files.now) (met.has_images c.args.files.now)
