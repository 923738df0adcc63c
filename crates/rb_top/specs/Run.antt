-- What a run reports.
use Rattle.std.specs.Prelude.{ℕ, List, [], ◌∷◌, ◌++◌}
use Rattle.std.specs.List.{flat_map}
use Rattle.rb_base.specs.declared.outcome.Outcome.{Outcome}
use Rattle.rb_text_defs.specs.Report.{outcome_line}

-- the lines that report what the events did
abbrev pub reported : List (ℕ × Outcome) → List ℕ
reported outcomes = flat_map (λ lined. outcome_line lined.0 lined.1 ++ 10 ∷ []) outcomes
