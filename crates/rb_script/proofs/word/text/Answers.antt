use Rattle.std.proofs.Common.{◌≡◌, ◌∷◌, [], ◌∙◌, sym, rules}
use Rattle.std.proofs.lemmas.Bool.{and_from, and_left, and_right}
use Rattle.rb_script.proofs.WordLaws.{pieces_of, words_of_open, words_of_misplaced, words_of_placed}
use Rattle.rb_script.proofs.word.text.Goals.{then-not-are_text_bytes-via-then-not-are_text_bytes, then-not-are_text_bytes-via-else-not-are_text_bytes+then-not-may_follow, then-not-are_text_bytes-via-else-not-are_text_bytes+else-not-may_follow+then-not-may_precede}
use Rattle.rb_script.proofs.word.text.Goals as goal

pub returns-in_default-clause-none : goal.returns-in_default-clause-none
returns-in_default-clause-none c = λ rest cut.
    let last : pieces_of c.args.quoted.now ≡ c.args.quoted.now ∷ [] = search rules in
    words_of_open rest c.args.outside.now c.args.quoted.now (pieces_of c.args.quoted.now) cut last

pub returns-then-not-are_text_bytes-clause-none : goal.returns-then-not-are_text_bytes-clause-none
returns-then-not-are_text_bytes-clause-none c = λ rest cut.
    words_of_misplaced rest c.args.outside.now c.args.quoted.now c.in-Some.text.now c.in-Some.after.now cut c.in-Some.ensures.some
    (elim c.then-not-are_text_bytes.branch [
      | then-not-are_text_bytes-via-then-not-are_text_bytes w ↦ and_left _ _ (and_left _ _ (sym c.are_text_bytes.ensures ∙ w.if-not-are_text_bytes.true))
      | then-not-are_text_bytes-via-else-not-are_text_bytes+then-not-may_follow w ↦ and_left _ _ (and_right _ _ (sym w.may_follow.ensures ∙ w.if-not-may_follow.true))
      | then-not-are_text_bytes-via-else-not-are_text_bytes+else-not-may_follow+then-not-may_precede w ↦ and_right _ _ (sym w.may_precede.ensures ∙ w.if-not-may_precede.true)
    ])

pub returns-clause-some : goal.returns-clause-some
returns-clause-some c = λ rest cut.
    words_of_placed rest c.args.outside.now c.args.quoted.now c.in-Some.text.now c.in-Some.after.now cut c.in-Some.ensures.some
    (and_from _ _ (and_from _ _ (sym c.are_text_bytes.ensures ∙ c.if-not-are_text_bytes.false) (sym c.may_follow.ensures ∙ c.if-not-may_follow.false)) (sym c.may_precede.ensures ∙ c.if-not-may_precede.false))
