use Rattle.std.proofs.Common.{◌≡◌, ◌∙◌, sym, ap, length, map, arith}
use Rattle.std.proofs.lemmas.List.{length-map}
use Rattle.rb_text_defs.specs.Form.{site_line}
use Rattle.rb_script.specs.Seen.{word_of}
use Rattle.rb_script.proofs.FormLaws.{seven_words, site_line_other}
use Rattle.rb_script.proofs.form.site_line.Goals as goal

pub returns : goal.returns
returns c =
    let seven : length c.args.words.now ≡ 7 = omega arith in
    c.site_shape.ensures ∙ ap site_line (sym (seven_words word_of c.args.words.now _ seven))

pub returns-then-words-ne7 : goal.returns-then-words-ne7
returns-then-words-ne7 c =
    sym (site_line_other (map word_of c.args.words.now) (λ seven. c.if-words-ne7.true (omega (arith, seven, length-map c.args.words.now word_of))))
