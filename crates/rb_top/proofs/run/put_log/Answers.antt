use Rattle.std.proofs.Common.{◌∙◌}
use Rattle.rb_top.proofs.Running.{log_put}
use Rattle.rb_top.proofs.run.put_log.Goals as goal

pub returns : goal.returns
returns c = λ shape seen run held.
    log_put shape c.args.site.now seen run _ _ _ _ _ held c.in_ok-extend_from_slice.ensures.items (c.as_slice.ensures ∙ c.in_ok-lines.ensures) (c.last_file.ensures shape seen run held) (c.rows-rows.ensures ∙ c.index.ensures shape seen run held)
