use Rattle.std.proofs.Common.{sym}
use Rattle.raft_node.proofs.Telling.{names_so, rises_so}
use Rattle.raft_node.proofs.node.Node.groups.Goals as goal

pub returns-clause-rising : goal.returns-clause-rising
returns-clause-rising g c = λ going. rises_so (λ v. v.items) _ c.groups_of.result c.groups_of.ensures.rising c.groups_of.ensures.ids

pub returns-clause-exactly : goal.returns-clause-exactly
returns-clause-exactly g c = λ group going. names_so (λ v. v.items) _ c.groups_of.result group _ (c.groups_of.ensures.exactly group) c.groups_of.ensures.ids
