use Rattle.std.proofs.Common.{List, length, ◌≡◌, refl, sym, ap, subst, ◌∙◌, ℕ, ◌*◌, ◌<◌, ◌≤◌}
use Rattle.rb_base.specs.declared.script.SiteSetup.{SiteSetup}
use Rattle.rb_base.specs.declared.schema.Schema.{Schema}
use Rattle.rb_journal_defs.specs.Body.{mapped_tables}
use Rattle.rb_commit.specs.Hand.{Hand}
use Rattle.rb_journal_defs.specs.Clock.{first_epoch}
use Rattle.rb_nodes.specs.Net.{HoldsNet, HasGroups, new_net}
use Rattle.rb_play_defs.specs.Play.{setup_at}
use Rattle.rb_cluster.proofs.BeginLaws.{rest_begins, as_many, each_some}
use Rattle.rb_cluster.proofs.stopped.StoppedCluster.begin.Goals as goal

pub returns-clause-begun : goal.returns-clause-begun
returns-clause-begun c =
    let opened : c.open.result.0 ≡ first_epoch = c.open.ensures ∙ ap (λ (h : Hand). h.opened) c.new-clock.ensures in
    rest_begins _ c.args.setup.now c.args.id c.requires.declared c.requires.some refl (c.in_ok-mapped.ensures ∙ ap mapped_tables c.as_slice-schemas.ensures) c.new-clock.ensures
    c.in_ok-tables.ensures.empty (c.in_ok-tables.ensures.count ∙ ap (λ (schemas : List Schema). length schemas) c.as_slice-schemas.ensures ∙ as_many c.args.setup.now.tables)
    (subst (λ (own : SiteSetup). HoldsNet c.in_ok-nodes.nodes (own.groups * own.replicas) (new_net own.groups own.replicas first_epoch)) c.own_setup-own.ensures
    (subst (λ (n : ℕ). HoldsNet c.in_ok-nodes.nodes (c.own_setup-own.result.groups * c.own_setup-own.result.replicas) (new_net c.own_setup-own.result.groups c.own_setup-own.result.replicas n)) opened c.in_ok-nodes.ensures.holds))

pub returns-clause-nodes : goal.returns-clause-nodes
returns-clause-nodes c = subst (λ (own : SiteSetup). HasGroups own.groups own.replicas c.in_ok-nodes.nodes) c.own_setup-own.ensures c.in_ok-nodes.ensures.size

pub new-requires-2-clause-some : goal.new-requires-2-clause-some
new-requires-2-clause-some c = subst (λ (own : SiteSetup). 1 ≤ own.replicas) (sym c.own_setup-own.ensures) (each_some (setup_at c.args.id c.args.setup.now).groups (setup_at c.args.id c.args.setup.now).replicas c.requires.some)

pub new-requires-2-clause-fits : goal.new-requires-2-clause-fits
new-requires-2-clause-fits c = subst (λ (own : SiteSetup). own.groups * own.replicas < 4294967296) (sym c.own_setup-own.ensures) c.requires.few

pub new-requires-2-clause-opened : goal.new-requires-2-clause-opened
new-requires-2-clause-opened c = c.open.ensures ∙ ap (λ (h : Hand). h.opened) c.new-clock.ensures
