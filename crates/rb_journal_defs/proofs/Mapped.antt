-- The tables of a log, one after the other.
use Rattle.std.proofs.Common.{◌≡◌, ℕ, ◌+◌, ◌<◌, List, [], ◌∷◌, ◌++◌, length, map, take, get_or, sym, ap, ◌∙◌, arith}
use Rattle.std.specs.List.{enumerate_from}
use Rattle.std.proofs.lemmas.List.{take_more, map-append, length-take-le}
use Rattle.rb_base.specs.declared.schema.Schema.{Schema}
use Rattle.rb_base.specs.declared.schema.Mapped.{Mapped}
use Rattle.rb_journal_defs.specs.Body.{mapped_table, mapped_tables}

-- one schema more is numbered
pub numbered_more : (n : ℕ) (schemas : List Schema) (schema : Schema) → enumerate_from n (schemas ++ schema ∷ []) ≡ enumerate_from n schemas ++ (n + length schemas, schema) ∷ []
numbered_more n [] schema = ap (λ (m : ℕ). (m, schema) ∷ []) (let z : n ≡ n + 0 = omega arith in z)
numbered_more n (s ∷ schemas) schema =
    ap (λ (rest : List (ℕ × Schema)). (n, s) ∷ rest)
    (numbered_more (n + 1) schemas schema ∙ ap (λ (m : ℕ). enumerate_from (n + 1) schemas ++ (m, schema) ∷ []) (let z : n + 1 + length schemas ≡ n + length (s ∷ schemas) = omega arith in z))

-- one table more
pub mapped_more : (schemas : List Schema) (i id : ℕ) (schema : Schema) (tables : List Mapped) (table : Mapped) → i < length schemas → schema ≡ get_or schemas i schema → tables ≡ mapped_tables (take i schemas) → table ≡ mapped_table (id, schema) → id ≡ i + 1 → tables ++ table ∷ [] ≡ mapped_tables (take (i + 1) schemas)
mapped_more schemas i id schema tables table within is so_far made number =
    let n : id ≡ 1 + length (take i schemas) = let l : length (take i schemas) ≡ i = length-take-le i schemas (omega arith) in omega arith in
    ap (λ (ts : List Mapped). ts ++ table ∷ []) so_far
    ∙ ap (λ (t : Mapped). mapped_tables (take i schemas) ++ t ∷ []) (made ∙ ap (λ (m : ℕ). mapped_table (m, schema)) n)
    ∙ sym (map-append mapped_table (enumerate_from 1 (take i schemas)) ((1 + length (take i schemas), schema) ∷ []))
    ∙ ap (map mapped_table) (sym (numbered_more 1 (take i schemas) schema))
    ∙ ap mapped_tables (sym (take_more schemas i schema within ∙ ap (λ (s : Schema). take i schemas ++ s ∷ []) (sym is)))
