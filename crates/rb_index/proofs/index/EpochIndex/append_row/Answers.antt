use Rattle.std.proofs.Common.{◌≡◌, ◌≤◌, List, [], ◌∷◌, ◌++◌, sym, ap, subst, arith, ◌∙◌, inl}
use Rattle.rb_base.proofs.Results.{at_an_error}
use Rattle.rb_base.specs.declared.body.IndexRow.{IndexRow}
use Rattle.rb_device_defs.specs.Index.{NeverFall, last_epoch_of}
use Rattle.rb_index.proofs.SearchLaws.{never_fall_more}
use Rattle.rb_index.proofs.ImageLaws.{whole_image, whole_size}
use Rattle.rb_index.proofs.index.EpochIndex.append_row.Goals as goal

pub returns-in_err-reserve-clause-kept : goal.returns-in_err-reserve-clause-kept
returns-in_err-reserve-clause-kept g c = at_an_error c.from_residual.result (inl (whole_image c.args.self.now _ c.requires.held))

pub add_record-requires : goal.add_record-requires
add_record-requires g c = omega (arith, whole_size c.args.self.now _ c.requires.held)

pub invariant_of-self-2 : goal.invariant_of-self-2
invariant_of-self-2 g c =
    let rows = c.self.inside.rows.items in
    let later : last_epoch_of rows ≤ c.args.row.epoch.0 = subst (λ (rows : List IndexRow). last_epoch_of rows ≤ c.args.row.epoch.0) (sym c.self.view_is) c.requires.later in
    let items : c.push.new.self.items ≡ rows ++ c.args.row ∷ [] = ◌∙◌ {A = List IndexRow} c.in_ok-push.ensures.items (ap (λ (xs : List IndexRow). xs ++ c.args.row ∷ []) c.in_ok-reserve.ensures.items) in
    subst NeverFall (sym items) (never_fall_more rows c.args.row c.self.invariant later)
