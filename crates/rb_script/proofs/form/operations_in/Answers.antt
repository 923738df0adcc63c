use Rattle.std.proofs.Common.{◌∙◌, ◌∷◌, [], map, sym, ap, Some}
use Rattle.std.specs.Option.{option_map}
use Rattle.std.proofs.lemmas.List.{map-append}
use Rattle.rb_text_defs.specs.Form.{operation_of}
use Rattle.rb_script.specs.Seen.{operation_seen, word_of}
use Rattle.rb_script.proofs.AllOf.{all_more, none_in}
use Rattle.rb_script.proofs.form.operations_in.Goals as goal

pub returns-in_default : goal.returns-in_default
returns-in_default c = sym
    (none_in (λ piece. operation_of (map word_of piece.now)) c.args.pieces.now c.loop-piece.piece-index _ c.loop-piece-test.true
    (sym c.in_ok-operation.ensures ∙ ap (option_map operation_seen) c.in_default.is))

pub loop-piece-preserved : goal.loop-piece-preserved
loop-piece-preserved c =
    all_more (λ piece. operation_of (map word_of piece.now)) c.args.pieces.now c.loop-piece.piece-index _ (map operation_seen c.loop-piece.operations.items) (operation_seen c.in-Some.operation) c.loop-piece-test.true c.loop-piece.invariant
    (sym c.in_ok-operation.ensures ∙ ap (option_map operation_seen) c.in-Some.is)
    ∙ ap Some (sym (ap (map operation_seen) c.in_ok-push.ensures.items ∙ map-append operation_seen c.loop-piece.operations.items (c.in-Some.operation ∷ [])))
