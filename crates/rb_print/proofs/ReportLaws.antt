-- The report, piece by piece.
use Rattle.std.proofs.Common.{◌≡◌, ℕ, List, [], ◌∷◌, ◌++◌, map, refl, ap, ap₂, ◌∙◌}
use Rattle.std.specs.Prelude.{codes}
use Rattle.std.specs.List.{flat_map}
use Rattle.std.proofs.lemmas.Grind.{flat_map-append}
use Rattle.rb_base.specs.declared.site.SiteId.TheVariants.{A}
use Rattle.rb_base.specs.declared.outcome.Outcome.{Outcome}
use Rattle.rb_text_defs.specs.Report.{LogRows, NamedRows, log_lines, outcome_line, report_text, table_lines, text_of_lines}
use Rattle.rb_print.proofs.TextLaws.{pieces_mapped}

texts_of_each : {X : Type 0} (g : X → List (List ℕ)) (xs : List X) → text_of_lines (flat_map g xs) ≡ flat_map (λ x. text_of_lines (g x)) xs
texts_of_each g [] = refl
texts_of_each g (x ∷ xs) =
    flat_map-append (λ line. line ++ 10 ∷ []) (g x) (flat_map g xs) ∙ ap (λ text. text_of_lines (g x) ++ text) (texts_of_each g xs)

-- the report is its title, the line of each event, the lines of the log, those of each table, and
-- its end
pub report_pieces : (outcomes : List (ℕ × Outcome)) (log : LogRows) (tables : List NamedRows) → report_text outcomes log tables
    ≡ text_of_lines (codes "ndb replication report" ∷ [])
    ++ (flat_map (λ lined. outcome_line lined.0 lined.1 ++ 10 ∷ []) outcomes
    ++ (text_of_lines (log_lines A log)
    ++ (flat_map (λ table. text_of_lines (table_lines A table)) tables ++ text_of_lines (codes "end" ∷ []))))
unfolding report_text
report_pieces outcomes log tables =
    let end : List (List ℕ) = codes "end" ∷ [] in
    ap (λ (text : List ℕ). text_of_lines (codes "ndb replication report" ∷ []) ++ text)
    (flat_map-append (λ line. line ++ 10 ∷ []) (map (λ lined. outcome_line lined.0 lined.1) outcomes) (log_lines A log ++ (flat_map (table_lines A) tables ++ end))
    ∙ ap₂ ◌++◌ (pieces_mapped (λ line. line ++ 10 ∷ []) (λ lined. outcome_line lined.0 lined.1) outcomes)
    (flat_map-append (λ line. line ++ 10 ∷ []) (log_lines A log) (flat_map (table_lines A) tables ++ end)
    ∙ ap (λ text. text_of_lines (log_lines A log) ++ text)
    (flat_map-append (λ line. line ++ 10 ∷ []) (flat_map (table_lines A) tables) end ∙ ap (λ text. text ++ text_of_lines end) (texts_of_each (table_lines A) tables))))
