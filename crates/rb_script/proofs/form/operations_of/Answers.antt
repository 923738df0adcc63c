use Rattle.std.proofs.Common.{◌≡◌, List, Bor, ◌∙◌, map, sym, ap}
use Rattle.std.specs.Prelude.{codes}
use Rattle.std.specs.List.{slice_split}
use Rattle.rb_text_defs.specs.Words.{all_of}
use Rattle.rb_text_defs.specs.Form.{is_word, operation_of}
use Rattle.rb_script.specs.declared.word.Word.{Word}
use Rattle.rb_script.specs.Seen.{word_of}
use Rattle.rb_script.proofs.AllOf.{all_mapped}
use Rattle.rb_script.proofs.FormLaws.{split_mapped}
use Rattle.rb_script.proofs.form.operations_of.Goals as goal

pub returns : goal.returns
returns c =
    let words = c.args.words.now in
    let same : all_of (map operation_of (slice_split (is_word (codes ";")) (map word_of words))) ≡ all_of (map (λ piece. operation_of (map word_of piece.now)) c.deref.result.now) =
    ap (λ pieces. all_of (map operation_of pieces)) (sym (split_mapped (is_word (codes ";")) word_of words))
    ∙ all_mapped operation_of (map word_of) (slice_split (λ word. is_word (codes ";") (word_of word)) words)
    ∙ ap (λ pieces. all_of (map (λ piece. operation_of (map word_of piece)) pieces)) (sym c.in_ok-pieces.ensures)
    ∙ all_mapped (λ piece. operation_of (map word_of piece)) (λ piece. piece.now) c.in_ok-pieces.pieces.items
    ∙ ap (λ (pieces : List (Bor (List Word))). all_of (map (λ piece. operation_of (map word_of piece.now)) pieces)) (sym c.deref.ensures.value) in
    rw same c.operations_in.ensures
