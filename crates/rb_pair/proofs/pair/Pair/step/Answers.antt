use Rattle.std.proofs.Common.{ℕ, ◌+◌, ◌∙◌, refl, ap}
use Rattle.rb_pair.specs.Action.{steps_of_action, use_device}
use Rattle.rb_pair.proofs.PairLaws.{can_act, action_fits, pair_after, outcome_is, stopped_in}
use Rattle.rb_pair.proofs.pair.Pair.step.Goals as goal

pub act-requires-clause-room : goal.act-requires-clause-room
act-requires-clause-room g c = λ κs within. can_act c.args.self (g.D.LogDisk.seen c.args.disk_a.now) c.args.event c.action_of.result c.requires.room c.action_of.ensures

pub returns-in-Err-DiskFault-clause-stopped : goal.returns-in-Err-DiskFault-clause-stopped
returns-in-Err-DiskFault-clause-stopped g c = λ setup sites held room.
    stopped_in setup c.args.self (g.D.LogDisk.seen c.args.disk_a.now) (g.D.LogDisk.seen c.act.new.disk) sites c.args.event (steps_of_action c.action_of.result) held c.action_of.ensures
    (c.in-Err-DiskFault.ensures.stopped setup sites held.a (action_fits setup c.args.self (g.D.LogDisk.seen c.args.disk_a.now) sites c.args.event c.action_of.result held room c.action_of.ensures))

pub returns-in-Err-NoMemory-clause-stopped : goal.returns-in-Err-NoMemory-clause-stopped
returns-in-Err-NoMemory-clause-stopped g c = λ setup sites held room.
    stopped_in setup c.args.self (g.D.LogDisk.seen c.args.disk_a.now) (g.D.LogDisk.seen c.act.new.disk) sites c.args.event (steps_of_action c.action_of.result) held c.action_of.ensures
    (c.in-Err-NoMemory.ensures.stopped setup sites held.a (action_fits setup c.args.self (g.D.LogDisk.seen c.args.disk_a.now) sites c.args.event c.action_of.result held room c.action_of.ensures))

pub returns-in-Err-DiskFault-clause-untouched : goal.returns-in-Err-DiskFault-clause-untouched
returns-in-Err-DiskFault-clause-untouched g c = λ none. c.act.ensures.untouched (ap use_device c.action_of.ensures ∙ none)

pub returns-in-Err-NoMemory-clause-untouched : goal.returns-in-Err-NoMemory-clause-untouched
returns-in-Err-NoMemory-clause-untouched g c = λ none. c.act.ensures.untouched (ap use_device c.action_of.ensures ∙ none)

pub returns-clause-untouched : goal.returns-clause-untouched
returns-clause-untouched g c = λ none. c.act.ensures.untouched (ap use_device c.action_of.ensures ∙ none)

pub returns-clause-played : goal.returns-clause-played
returns-clause-played g c = λ setup sites held room.
    let played = c.in-Ok.ensures.played setup sites held.a (action_fits setup c.args.self (g.D.LogDisk.seen c.args.disk_a.now) sites c.args.event c.action_of.result held room c.action_of.ensures) in (
      pair_after setup c.args.self _ (g.D.LogDisk.seen c.args.disk_a.now) (g.D.LogDisk.seen c.act.new.disk) sites c.args.event (steps_of_action c.action_of.result) held room c.action_of.ensures played.0 c.in-Ok.ensures.limit refl (ap (λ (n : ℕ). c.args.self.changes + n) c.changes_in-own.ensures),
      outcome_is setup sites c.args.event (steps_of_action c.action_of.result) _ c.action_of.ensures played.1,
    )
