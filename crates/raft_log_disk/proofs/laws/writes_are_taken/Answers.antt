use Rattle.std.proofs.Common.{arith}
use Rattle.raft_log_disk.proofs.RefusalLemmas.{taken_call, lacks_most}
use Rattle.raft_log_disk.proofs.laws.writes_are_taken.Goals as goal

pub returns-clause-written : goal.returns-clause-written
returns-clause-written g c =
    let met = g.met.F.FileSystem g.world.𝓛 g.world.𝓜 g.world.𝓡 ((λ s x. x), (λ x. x), (λ x. x), λ x. x) in
    λ d fd most bytes new result free within cause call. taken_call _ _ _ _ _ new result (λ lacks. let many = lacks_most _ d fd bytes (met.has_room c.args.files.now free.room) lacks in omega (arith, many, within)) free cause call

pub returns-clause-allocated : goal.returns-clause-allocated
returns-clause-allocated g c =
    let met = g.met.F.FileSystem g.world.𝓛 g.world.𝓜 g.world.𝓡 ((λ s x. x), (λ x. x), (λ x. x), λ x. x) in
    λ d fd most bytes new result free within cause call. taken_call _ _ _ _ _ new result (λ lacks. let many = lacks_most _ d fd bytes (met.has_room c.args.files.now free.room) lacks in omega (arith, many, within)) free cause call
