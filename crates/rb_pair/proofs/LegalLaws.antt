-- What a legal setup gives a site: declared tables, and few nodes.
use Rattle.std.proofs.Common.{ℕ, zero, suc, ◌+◌, ◌*◌, ◌<◌, ◌≤◌, List, [], ◌∷◌, map, refl, arith}
use Rattle.std.specs.List.{AllByRecursion, enumerate_from}
use Rattle.std.proofs.Math.Nat.{mul-pos}
use Rattle.std.proofs.lemmas.List.Sums.{sum_by-append}
use Rattle.rb_base.specs.declared.site.SiteId.TheVariants.{A}
use Rattle.rb_base.specs.declared.schema.Column.TheVariants as columns
use Rattle.rb_base.specs.declared.schema.Schema.{Schema}
use Rattle.rb_base.specs.declared.script.Setup.{Setup}
use Rattle.rb_base.specs.declared.script.SiteSetup.{SiteSetup}
use Rattle.rb_journal_defs.specs.Body.{mapped_table}
use Rattle.rb_text_defs.specs.Script.{column_bytes}
use Rattle.rb_text_defs.specs.Legal.{IsLegalTable, IsLegalSite, IsLegalSetup}
use Rattle.rb_play_defs.specs.Play.{shape_of}
use Rattle.rb_play_defs.specs.Point.{IsSmallTable, AreDeclared}

-- a legal table is a small one in the log
mapped_small : (n : ℕ) (tables : List Schema) → AllByRecursion IsLegalTable tables → AllByRecursion IsSmallTable (map mapped_table (enumerate_from n tables))
mapped_small n [] legal = tt
mapped_small n (table ∷ tables) legal = (
  record {
    short = omega (arith, legal.0.bytes, sum_by-append column_bytes (columns.Num ∷ []) table.columns);
    some = omega arith;
    few = (let few = legal.0.few in omega arith);
    schema = refl;
    name = legal.0.name;
  },
  mapped_small (n + 1) tables legal.1,
)

pub declared : (setup : Setup) → IsLegalSetup setup → AreDeclared (shape_of setup A)
declared setup legal = record { primary = refl; schemas = setup.tables; tables = refl; small = mapped_small 1 setup.tables legal.tables }

few_times : (groups replicas : ℕ) → groups ≤ 8 → replicas ≤ 4 → groups * replicas ≤ 32
few_times groups zero many each = omega arith
few_times groups (suc zero) many each = omega arith
few_times groups (suc (suc zero)) many each = omega arith
few_times groups (suc (suc (suc zero))) many each = omega arith
few_times groups (suc (suc (suc (suc zero)))) many each = omega arith
few_times groups (suc (suc (suc (suc (suc replicas))))) many each = absurd (omega arith)

-- a legal site has nodes, and few of them
pub few_nodes : (site : SiteSetup) → IsLegalSite site → (0 < site.groups * site.replicas) × (site.groups * site.replicas ≤ 32)
few_nodes site legal = (mul-pos (omega (arith, legal.groups.0)) (omega (arith, legal.replicas.0)), few_times site.groups site.replicas legal.groups.1 legal.replicas.1)
