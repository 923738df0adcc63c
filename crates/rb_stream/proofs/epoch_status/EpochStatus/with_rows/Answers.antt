use Rattle.std.proofs.Common.{rules, subst, sym, ◌∙◌, ◌++◌, Option, List, map, take_all}
use Rattle.rb_read_defs.specs.declared.answers.StatusRow.{StatusRow}
use Rattle.rb_stream.specs.declared.epoch_status.EpochStatus.{EpochStatus}
use Rattle.rb_stream.specs.EpochStatus.{HoldsStatus, HoldsStatusOrRepeats}
use Rattle.rb_stream.proofs.StatusLaws.{by_server, next_row, no_row}
use Rattle.rb_stream.proofs.epoch_status.EpochStatus.with_rows.Goals as goal

pub returns-in_err-epoch_status : goal.returns-in_err-epoch_status
returns-in_err-epoch_status c before tells =
    subst (λ (epoch_status : Option EpochStatus). HoldsStatusOrRepeats epoch_status (map (by_server c.args.server) c.args.rows.now ++ before)) (sym c.from_residual.ensures)
    (no_row c.loop-row.epoch_status c.args.server c.loop-row.row-index c.args.rows.now _ before (search rules) (c.loop-row.invariant before tells) (sym c.with_row.ensures ∙ c.in_err-epoch_status.was))

pub loop-row-preserved : goal.loop-row-preserved
loop-row-preserved c before tells =
    next_row c.loop-row.epoch_status c.in_ok-epoch_status.epoch_status c.args.server c.loop-row.row-index c.args.rows.now _ before (search rules) (c.loop-row.invariant before tells) (sym c.with_row.ensures ∙ c.in_ok-epoch_status.was)

pub returns : goal.returns
returns c before tells =
    subst (λ (rows : List StatusRow). HoldsStatus c.loop-row.epoch_status (map (by_server c.args.server) rows ++ before)) (take_all c.loop-row.row-index c.args.rows.now (search rules)) (c.loop-row.invariant before tells)
