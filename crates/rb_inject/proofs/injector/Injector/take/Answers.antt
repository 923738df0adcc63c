use Rattle.std.proofs.Common.{List, length, sym, ap, subst, ◌∙◌, arith, inl}
use Rattle.rb_base.proofs.Results.{at_an_error}
use Rattle.rb_base.specs.declared.body.EpochBody.{EpochBody}
use Rattle.rb_device_defs.proofs.ImageLaws.{whole_is_image}
use Rattle.rb_journal_defs.specs.Body.{is_named_in}
use Rattle.rb_journal_defs.proofs.Counts.{filter_length}
use Rattle.rb_inject.specs.Body.{logged_of, body_of_assembled}
use Rattle.rb_inject.specs.Injector.{LeavesImage, StandsFor, bodies_with}
use Rattle.rb_inject.proofs.LogLaws.{body_is, with_logged}
use Rattle.rb_inject.proofs.injector.Injector.take.Goals as goal

pub returns-in_err-body-clause-stopped : goal.returns-in_err-body-clause-stopped
returns-in_err-body-clause-stopped g c = at_an_error c.from_residual.result (λ setup bodies stands. inl (whole_is_image setup.site setup.limit bodies _ stands.held))

pub log-requires-clause-few_tables : goal.log-requires-clause-few_tables
log-requires-clause-few_tables g c =
    let stands = c.requires.stands.2 in
    omega (arith, ap (λ (body : EpochBody). length body.tables) c.in_ok-body.ensures, ap length c.as_slice.ensures, ap length stands.tables_are, stands.legal.few, filter_length (is_named_in (logged_of c.args.self.site c.args.assembled.parts)) c.as_slice.result.now)

pub returns-in_err-log-clause-stopped : goal.returns-in_err-log-clause-stopped
returns-in_err-log-clause-stopped g c = at_an_error c.from_residual-in_err-log.result (λ setup bodies stands.
    subst (λ (body : EpochBody). LeavesImage setup bodies body (g.D.LogDisk.seen c.log.new.disk)) (body_is c.args.self setup bodies _ c.args.assembled c.in_ok-body.body stands (c.in_ok-body.ensures ∙ ap (λ tables. body_of_assembled c.args.self.site tables c.args.assembled) c.as_slice.ensures))
    (c.in_err-log.ensures.stopped setup bodies stands))

pub returns-clause-taken : goal.returns-clause-taken
returns-clause-taken g c = λ setup bodies stands.
    subst (λ (body : EpochBody). StandsFor c.log.new.self setup (bodies_with bodies body) (g.D.LogDisk.seen c.log.new.disk)) (body_is c.args.self setup bodies _ c.args.assembled c.in_ok-body.body stands (c.in_ok-body.ensures ∙ ap (λ tables. body_of_assembled c.args.self.site tables c.args.assembled) c.as_slice.ensures))
    (subst (λ (all : List EpochBody). StandsFor c.log.new.self setup all (g.D.LogDisk.seen c.log.new.disk)) (with_logged bodies c.in_ok-body.body (sym c.has_something.ensures ∙ c.if-not-has_something.false)) (c.in_ok-log.ensures.logged setup bodies stands))
