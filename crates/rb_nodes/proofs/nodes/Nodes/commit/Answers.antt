use Rattle.std.proofs.Common.{refl, ap, ◌∙◌, ◌/◌, List}
use Rattle.std.specs.List.{insert}
use Rattle.rb_group.specs.declared.group.Group.{Group}
use Rattle.rb_nodes.proofs.NodeLaws.{nodes_committed, groups_stay, can_commit, part_there}
use Rattle.rb_nodes.proofs.nodes.Nodes.commit.Goals as goal

pub commit_part-requires : goal.commit_part-requires
commit_part-requires c = record {
  ready = can_commit c.args.self c.bucket_of-bucket.result _ c.remove-group.result c.requires.room c.bucket_of-bucket.ensures.within refl c.remove-group.ensures.value;
}

pub returns-clause-sent : goal.returns-clause-sent
returns-clause-sent c = λ buckets site held. part_there c.args.self buckets site c.bucket_of-bucket.result _ c.remove-group.result c.args.change.now c.in_ok-group.sent held c.bucket_of-bucket.ensures.within c.bucket_of-bucket.ensures.bucket refl c.remove-group.ensures.value c.in_ok-group.ensures.sent

pub returns-clause-holds : goal.returns-clause-holds
returns-clause-holds c = λ buckets site held. nodes_committed c.args.self _ buckets site c.bucket_of-bucket.result _ c.remove-group.result c.in_ok-group.group c.args.change.now held c.bucket_of-bucket.ensures.within c.bucket_of-bucket.ensures.bucket refl c.remove-group.ensures.value c.in_ok-group.ensures.kept refl refl (c.in_ok-insert.ensures.items ∙ ap (λ (groups : List Group). insert groups (c.bucket_of-bucket.result / c.args.self.replicas) c.in_ok-group.group) c.remove-group.ensures.items)

pub returns-clause-nodes : goal.returns-clause-nodes
returns-clause-nodes c = (groups_stay c.args.self c.bucket_of-bucket.result _ c.in_ok-group.group _ c.requires.room c.bucket_of-bucket.ensures.within refl (c.in_ok-insert.ensures.items ∙ ap (λ (groups : List Group). insert groups (c.bucket_of-bucket.result / c.args.self.replicas) c.in_ok-group.group) c.remove-group.ensures.items), refl)
