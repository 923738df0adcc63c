use Rattle.std.proofs.Common.{sym, ap, subst, ◌∙◌}
use Rattle.rb_base.specs.declared.script.SiteSetup.{SiteSetup}
use Rattle.rb_inject.specs.Injector.{IsLogSetup}
use Rattle.std.specs.Prelude.{Err}
use Rattle.rb_base.proofs.Results.{at_an_error}
use Rattle.rb_inject.specs.declared.fault.InjectFault.TheVariants as InjectFault
use Rattle.rb_inject.specs.declared.injector.Injector.{Injector}
use Rattle.std.proofs.lemmas.Result.{err_from_is_err_and}
use Rattle.rb_cluster.proofs.Results.{err_same}
use Rattle.rb_cluster.proofs.BeginLaws.{empty_is_image, setup_begins}
use Rattle.rb_play_defs.specs.Play.{setup_at}
use Rattle.rb_cluster.proofs.cluster.Cluster.create.Goals as goal

pub returns-in_err-rest-clause-stopped : goal.returns-in_err-rest-clause-stopped
returns-in_err-rest-clause-stopped g c = at_an_error c.from_residual.result (λ empty. empty_is_image c.args.id (setup_at c.args.id c.args.setup.now).limit (g.D.LogDisk.seen c.args.disk.now) empty)

pub returns-in_err-events-clause-stopped : goal.returns-in_err-events-clause-stopped
returns-in_err-events-clause-stopped g c = at_an_error c.from_residual-in_err-events.result (λ empty. empty_is_image c.args.id (setup_at c.args.id c.args.setup.now).limit (g.D.LogDisk.seen c.args.disk.now) empty)

pub returns-in_err-tables-clause-stopped : goal.returns-in_err-tables-clause-stopped
returns-in_err-tables-clause-stopped g c = at_an_error c.from_residual-in_err-tables.result (λ empty. empty_is_image c.args.id (setup_at c.args.id c.args.setup.now).limit (g.D.LogDisk.seen c.args.disk.now) empty)

pub create-requires : goal.create-requires
create-requires g c =
    record {
      setup = subst (λ (own : SiteSetup). IsLogSetup (record { site = c.args.id; limit = own.limit; tables = c.in_ok-tables.tables })) (sym c.own_setup-own.ensures)
          (setup_begins c.args.setup.now c.args.id c.in_ok-tables.tables c.requires.declared c.requires.limit c.requires.tables (c.in_ok-tables.ensures ∙ c.as_slice.ensures ∙ c.in_ok-rest.ensures.begun.books.mapped));
    }

pub returns-in_err-injector-clause-not_empty : goal.returns-in_err-injector-clause-not_empty
returns-in_err-injector-clause-not_empty g c =
    let p = err_from_is_err_and c.from_residual-in_err-injector.result c.from_residual-in_err-injector.ensures.1 in
    λ file size is. c.create.ensures.not_empty file size (err_same Injector c.from_residual-in_err-injector.result _ (InjectFault.NotEmpty file size) (p.1 ∙ ap Err p.2) is c.create.result c.in_err-injector.was)
