use Rattle.rb_pair.proofs.acting.step.Goals as goal

pub returns-in-Stopped-clause-stopped : goal.returns-in-Stopped-clause-stopped
returns-in-Stopped-clause-stopped g c = λ shape run held. c.in-Stopped.ensures.part tt shape run held

pub returns-clause-stopped : goal.returns-clause-stopped
returns-clause-stopped g c = λ shape run held. c.in-NoMemory.ensures.part tt shape run held
