use Rattle.std.proofs.Common.{◌∙◌, sym, ap, nat_le, ◌&&◌, ℕ, List}
use Rattle.rb_read_defs.specs.Events.{are_types}
use Rattle.rb_codec.proofs.ColumnLaws.{has_columns}
use Rattle.rb_codec.proofs.mapped.read_table_map.Goals as goal

pub returns-clause-columns : goal.returns-clause-columns
returns-clause-columns c =
    has_columns _ c.in_ok-types.types.now c.in_ok-metadata.metadata.now c.in_ok-columns_from.ensures
    (ap (λ (n : ℕ). nat_le 1 n && nat_le n 64) c.in_ok-types.ensures.size ∙ sym c.is_count.ensures ∙ c.in_ok-check-2.ensures.ok)
    (ap (λ (schema : List ℕ). are_types schema c.in_ok-bytes_of-2.field-0 c.in_ok-types.types.now) c.in_ok-bytes_of.ensures
    ∙ ap (λ (name : List ℕ). are_types c.in_ok-schema.schema.now name c.in_ok-types.types.now) c.in_ok-bytes_of-2.ensures
    ∙ sym c.are_types.ensures ∙ c.in_ok-check-3.ensures.ok)
