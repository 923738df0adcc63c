use Rattle.std.proofs.Common.{◌∙◌, ◌++◌, List, ℕ, ap}
use Rattle.rb_log_defs.specs.Rows.{end_flag}
use Rattle.rb_rows.proofs.StatusLaws.{one_row, two_rows}
use Rattle.rb_rows.proofs.write.status.write_status.Goals as goal

pub returns-in_ok-extend_from_slice-in-None-2-clause-ok : goal.returns-in_ok-extend_from_slice-in-None-2-clause-ok
returns-in_ok-extend_from_slice-in-None-2-clause-ok c =
    one_row c.args.body.now (end_flag c.args.last) c.args.out.now.items c.extend_from_slice.new.self.items c.extend_from_slice-in-None.new.self.items c.status_head.result c.status_image-own.result
    c.in-None.is c.status_head.ensures c.status_image-own.ensures (c.in_ok-extend_from_slice-in-None.ensures.items ∙ ap (λ (xs : List ℕ). xs ++ c.status_head.result) c.reserve.ensures.items) c.in_ok-extend_from_slice-in-None-2.ensures.items

pub returns-in_ok-extend_from_slice-in-Some-3-clause-ok : goal.returns-in_ok-extend_from_slice-in-Some-3-clause-ok
returns-in_ok-extend_from_slice-in-Some-3-clause-ok c =
    two_rows c.args.body.now (end_flag c.args.last) c.in-Some.epoch c.args.out.now.items c.extend_from_slice-in-Some.new.self.items c.extend_from_slice-in-Some-2.new.self.items c.extend_from_slice-in-Some-3.new.self.items c.status_head-in-Some.result c.status_image-own.result c.status_image.result
    c.in-Some.is c.status_head-in-Some.ensures c.status_image-own.ensures c.status_image.ensures (c.in_ok-extend_from_slice-in-Some.ensures.items ∙ ap (λ (xs : List ℕ). xs ++ c.status_head-in-Some.result) c.reserve-in-Some.ensures.items) c.in_ok-extend_from_slice-in-Some-2.ensures.items c.in_ok-extend_from_slice-in-Some-3.ensures.items
