use Rattle.std.proofs.Common.{rules, ◌≡◌, ◌<◌, length, get_or, sym, subst, arith}
use Rattle.rb_base.specs.declared.schema.Column.TheVariants.{Num}
use Rattle.rb_base.specs.declared.row.Value.{Value}
use Rattle.rb_log_defs.specs.Fits.{FitsColumn}
use Rattle.rb_rows.proofs.Images.{fits_same_length, fits_at, length_at}
use Rattle.rb_rows.proofs.write.size.values_size.Goals as goal

pub offset_bounds-values-index : goal.offset_bounds-values-index
offset_bounds-values-index c =
    let same : length c.args.columns.now ≡ length c.args.values.now = fits_same_length c.args.columns.now c.args.values.now c.requires.fits in
    let inside : c.loop-index.index < length c.args.values.now = omega arith in
    search rules

pub bounds-values-index : goal.bounds-values-index
bounds-values-index c = omega (arith, fits_same_length c.args.columns.now c.args.values.now c.requires.fits)

pub value_size-size-requires : goal.value_size-size-requires
value_size-size-requires c =
    subst (λ (value : Value). FitsColumn (get_or c.args.columns.now c.loop-index.index Num) value) (sym c.index-values-index.is)
    (fits_at c.args.columns.now c.args.values.now c.loop-index.index Num c.index-values-index.result (omega arith) c.requires.fits)

pub loop-index-preserved : goal.loop-index-preserved
loop-index-preserved c =
    let step = length_at c.args.columns.now c.args.values.now c.loop-index.index Num c.index-values-index.result (omega arith) c.index-values-index.is c.requires.fits in
    record { whole = omega (arith, step, c.value_size-size.ensures.size, c.loop-index.invariant.whole); most = omega (arith, c.value_size-size.ensures.most, c.loop-index.invariant.most) }
