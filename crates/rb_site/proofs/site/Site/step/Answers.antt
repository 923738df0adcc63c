use Rattle.rb_site.proofs.site.Site.step.Goals as goal

pub returns-in-Ok-clause-stepped : goal.returns-in-Ok-clause-stepped
returns-in-Ok-clause-stepped g c = λ shape run held fits.
    let (after, answer) = c.in-Ok.ensures.stepped shape run (held.cluster, fits) in
    (record { cluster = after }, answer)

pub returns-in-Err-Stopped-clause-part : goal.returns-in-Err-Stopped-clause-part
returns-in-Err-Stopped-clause-part g c = λ cut shape run held. c.in-Err-Stopped.ensures.part shape run held.cluster

pub returns-in-Err-NoMemory-clause-part : goal.returns-in-Err-NoMemory-clause-part
returns-in-Err-NoMemory-clause-part g c = λ cut shape run held. c.in-Err-NoMemory.ensures.part shape run held.cluster
