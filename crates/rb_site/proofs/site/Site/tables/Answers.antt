use Rattle.rb_site.proofs.site.Site.tables.Goals as goal

pub returns : goal.returns
returns c = λ shape seen run held. c.tables.ensures seen shape run held.cluster
