use Rattle.std.proofs.Common.{rules, ◌≡◌, ◌<◌, ◌++◌, suc, length, get_or, drop, sym, subst, arith, append_assoc, add-one}
use Rattle.rb_base.specs.declared.schema.Column.TheVariants.{Num}
use Rattle.rb_base.specs.declared.row.Value.{Value}
use Rattle.rb_log_defs.specs.Rows.{value_bytes, values_bytes}
use Rattle.rb_log_defs.specs.Fits.{FitsColumn}
use Rattle.rb_rows.proofs.Images.{fits_same_length, fits_at, values_at, starts_more}
use Rattle.rb_rows.proofs.write.image.write_values.Goals as goal

pub offset_bounds-values-index : goal.offset_bounds-values-index
offset_bounds-values-index c =
    let same : length c.args.columns.now ≡ length c.args.values.now = fits_same_length c.args.columns.now c.args.values.now c.requires in
    let inside : c.loop-index.index < length c.args.values.now = omega arith in
    search rules

pub bounds-values-index : goal.bounds-values-index
bounds-values-index c = omega (arith, fits_same_length c.args.columns.now c.args.values.now c.requires)

pub write_value-requires : goal.write_value-requires
write_value-requires c =
    subst (λ (value : Value). FitsColumn (get_or c.args.columns.now c.loop-index.index Num) value) (sym c.index-values-index.is)
    (fits_at c.args.columns.now c.args.values.now c.loop-index.index Num c.index-values-index.result (omega arith) c.requires)

pub loop-index-preserved : goal.loop-index-preserved
loop-index-preserved c =
    let inside : c.loop-index.index < length c.args.columns.now = omega arith in
    let next : values_bytes (drop c.loop-index.index c.args.columns.now) (drop c.loop-index.index c.args.values.now)
    ≡ value_bytes (get_or c.args.columns.now c.loop-index.index Num) c.index-values-index.result
    ++ values_bytes (drop (suc c.loop-index.index) c.args.columns.now) (drop (suc c.loop-index.index) c.args.values.now)
    = subst (λ (value : Value). values_bytes (drop c.loop-index.index c.args.columns.now) (drop c.loop-index.index c.args.values.now)
    ≡ value_bytes (get_or c.args.columns.now c.loop-index.index Num) value
    ++ values_bytes (drop (suc c.loop-index.index) c.args.columns.now) (drop (suc c.loop-index.index) c.args.values.now))
    (sym c.index-values-index.is)
    (values_at c.args.columns.now c.args.values.now c.loop-index.index Num c.index-values-index.result inside c.requires) in
    record {
      whole = rw (add-one, c.in_ok-write_value.ensures.ok, append_assoc, ← next) c.loop-index.invariant.whole;
      starts = starts_more c.args.out.now.items c.loop-index.out.items c.write_value.new.out.items (value_bytes (get_or c.args.columns.now c.loop-index.index Num) c.index-values-index.result)
          c.in_ok-write_value.ensures.ok c.loop-index.invariant.starts;
    }
