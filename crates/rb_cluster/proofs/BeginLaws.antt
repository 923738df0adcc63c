-- A cluster at the start.
use Rattle.std.proofs.Common.{◌≡◌, ℕ, zero, suc, ◌+◌, ◌*◌, ◌<◌, List, [], ◌∷◌, length, refl, sym, subst, ◌∙◌, arith}
use Rattle.rb_base.specs.declared.site.SiteId.{SiteId}
use Rattle.rb_base.specs.declared.script.Setup.{Setup}
use Rattle.rb_play_defs.specs.Play.{setup_at, shape_of}
use Rattle.std.specs.Prelude.{None}
use Rattle.rb_journal_defs.specs.Body.{Shape, mapped_table, mapped_tables}
use Rattle.rb_journal_defs.specs.Clock.{first_epoch}
use Rattle.rb_store.specs.Tables.{held_at, tables_in}
use Rattle.std.specs.List.{enumerate_from}
use Rattle.std.proofs.lemmas.List.{length-map}
use Rattle.rb_base.specs.declared.schema.Schema.{Schema}
use Rattle.rb_base.specs.declared.schema.Mapped.{Mapped}
use Rattle.rb_device_defs.specs.Index.{IsIndexImage}
use Rattle.rb_device_defs.specs.Image.{IsLogImage}
use Rattle.rb_device_defs.proofs.ImageLaws.{image_of_none}
use Rattle.rb_inject.specs.Injector as inject
use Rattle.rb_inject.specs.Injector.{IsLogSetup}
use Rattle.rb_play_defs.specs.Step.{beginning}
use Rattle.rb_play_defs.proofs.Sounds.{sound_beginning}
use Rattle.rb_play_defs.proofs.Covering.{covered_beginning}
use Rattle.rb_nodes.specs.Net.{HoldsNet, new_net}
use Rattle.rb_play_defs.specs.Point.{AreDeclared}
use Rattle.rb_cluster.specs.Cluster.{IsStoppedCluster}
use Rattle.rb_cluster.specs.declared.stopped.StoppedCluster.{StoppedCluster}
use Rattle.rb_cluster.proofs.LogLaws.{log_setup_is}

-- there is a node in each group
pub each_some : (groups replicas : ℕ) → 0 < groups * replicas → 0 < replicas
each_some groups zero some = absurd (omega arith)
each_some groups (suc replicas) some = omega arith

-- a cluster at its start, without a log
pub rest_begins : (rest : StoppedCluster) (setup : Setup) (id : SiteId) → AreDeclared (shape_of setup id) → 0 < (setup_at id setup).groups * (setup_at id setup).replicas → rest.books.id ≡ id → rest.books.mapped ≡ mapped_tables setup.tables →
    rest.books.clock ≡ record { opened = first_epoch; previous = 0; drawn = 0 } → ((t k : ℕ) → held_at rest.books.tables t k ≡ None) → tables_in rest.books.tables ≡ length (mapped_tables setup.tables) →
    HoldsNet rest.nodes ((setup_at id setup).groups * (setup_at id setup).replicas) (new_net (setup_at id setup).groups (setup_at id setup).replicas first_epoch) →
    IsStoppedCluster rest (shape_of setup id) (beginning (setup_at id setup).groups (setup_at id setup).replicas)
rest_begins rest setup id declared some is mapped clock rows count nodes =
    let own = setup_at id setup in
    let shape : Shape = shape_of setup id in record {
      point = record {
        declared = declared;
        sound = sound_beginning shape own.groups own.replicas refl some (each_some own.groups own.replicas some);
        fits = tt;
        covered = covered_beginning shape own.groups own.replicas refl;
        numbered = omega arith;
        few = omega arith;
        few_closed = omega arith;
        few_applied = omega arith;
      };
      books = record { id = is; mapped = mapped; clock = clock; rows = rows; count = count };
      net = nodes;
    }

numbered_length : (n : ℕ) (schemas : List Schema) → length schemas ≡ length (enumerate_from n schemas)
numbered_length n [] = refl
numbered_length n (s ∷ schemas) = let h = numbered_length (n + 1) schemas in omega arith

pub as_many : (schemas : List Schema) → length schemas ≡ length (mapped_tables schemas)
as_many schemas = numbered_length 1 schemas ∙ sym (length-map (enumerate_from 1 schemas) mapped_table)

-- an empty device is an image of a log without an epoch
pub empty_is_image : (site : SiteId) (limit : ℕ) (seen : ℕ → List ℕ) → ((file : ℕ) → seen file ≡ []) → IsLogImage site limit [] seen
empty_is_image site limit seen empty = image_of_none site limit seen (subst (IsIndexImage []) (sym (empty 0)) (record { following = []; bytes = refl; more = λ some. absurd (some refl); ended = refl }))

-- what its log is written for
pub setup_begins : (setup : Setup) (id : SiteId) (tables : List Mapped) → AreDeclared (shape_of setup id) → inject.IsLimit (setup_at id setup).limit → length setup.tables < 65536 → tables ≡ mapped_tables setup.tables →
    IsLogSetup (record { site = id; limit = (setup_at id setup).limit; tables = tables })
setup_begins setup id tables declared legal few named =
    subst (λ (ts : List Mapped). IsLogSetup (record { site = id; limit = (setup_at id setup).limit; tables = ts })) (sym named) (log_setup_is (shape_of setup id) (setup_at id setup).limit declared legal (omega (arith, few, as_many setup.tables)))
