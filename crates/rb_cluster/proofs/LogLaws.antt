-- What the log of a cluster is ready for: its bodies have room, their epochs rise, and there are few
-- files.
use Rattle.std.proofs.Common.{◌≡◌, ℕ, ◌<◌, ◌≤◌, List, ◌∷◌, length, sym, subst, ◌∙◌, arith, [], map, refl, ap, length-append}
use Rattle.std.specs.Prelude.{Option, Some, None, unwrap_or}
use Rattle.std.proofs.lemmas.List.Elements.{All-from_recursion}
use Rattle.rb_base.specs.declared.body.EpochBody.{EpochBody}
use Rattle.rb_log_defs.specs.Fits.{CanBeMapped}
use Rattle.rb_journal_defs.specs.Body.{Shape}
use Rattle.rb_message_defs.proofs.Messages.{all_more}
use Rattle.rb_device_defs.proofs.RowLaws.{few_full, row_epochs}
use Rattle.rb_device_defs.proofs.ImageLaws.{last_body}
use Rattle.rb_inject.specs.Injector as inject
use Rattle.rb_inject.specs.Injector.{LogSetup, IsLogSetup, CanBeRecovered}
use Rattle.rb_inject.specs.declared.injector.Injector.{Injector}
use Rattle.rb_play_defs.specs.Step.{Progress, written_bodies, last_epoch}
use Rattle.rb_play_defs.specs.Point.{IsSmallTable, AreDeclared, most_closed}
use Rattle.rb_cluster.specs.Cluster.{log_setup}
use Rattle.rb_cluster.specs.Taken.{IsLogAt}
use Rattle.rb_cluster.specs.declared.log.Log.{Log}
use Rattle.rb_play_defs.proofs.Points.{opened_low}
use Rattle.rb_cluster.proofs.RestLaws.{log_image}
use Rattle.rb_play_defs.proofs.BodyFits.{can_be_mapped}
use Rattle.rb_play_defs.proofs.Logging.{count_is, written_small, can_be_logged, last_in_few}
use Rattle.std.specs.List.{last_or}
use Rattle.std.specs.Option.{option_map, option_map_or}
use Rattle.rb_base.specs.declared.body.IndexRow.{IndexRow}
use Rattle.rb_log_defs.specs.File.{binlog_of, binlog_files, index_rows}
use Rattle.rb_device_defs.specs.Index.{last_epoch_of}

-- a log by the limit of its injector
pub log_named : (shape : Shape) (its : Injector) (limit : ℕ) (bodies : List EpochBody) (seen : ℕ → List ℕ) → inject.StandsFor its (record { site = shape.site; limit = limit; tables = shape.tables }) bodies seen → inject.StandsFor its (log_setup shape its) bodies seen
log_named shape its limit bodies seen held = subst (λ (n : ℕ). inject.StandsFor its (record { site = shape.site; limit = n; tables = shape.tables }) bodies seen) (sym held.limit_is) held

-- tables that are declared can be mapped
pub log_setup_is : (shape : Shape) (limit : ℕ) → AreDeclared shape → inject.IsLimit limit → length shape.tables ≤ 65536 → IsLogSetup (record { site = shape.site; limit = limit; tables = shape.tables })
log_setup_is shape limit declared legal few = record {
  limit = legal;
  tables = All-from_recursion CanBeMapped shape.tables (all_more IsSmallTable CanBeMapped shape.tables can_be_mapped declared.small);
  few = few;
}

-- the number of the last of some items, mapped or not
pub last_mapped : {X : Type 0} (n : X → ℕ) (o : Option X) (xs : List X) → option_map_or n (last_or o xs) 0 ≡ unwrap_or (last_or (option_map n o) (map n xs)) 0
last_mapped n None [] = refl
last_mapped n (Some x) [] = refl
last_mapped n o (x ∷ xs) = last_mapped n (Some x) xs

-- the epoch of the last row is the last one that is logged
pub written_epoch : (its : Injector) (setup : LogSetup) (bodies : List EpochBody) (seen : ℕ → List ℕ) → inject.StandsFor its setup bodies seen → inject.written_of its ≡ last_epoch bodies
written_epoch its setup bodies seen held =
    ap last_epoch_of held.rows
    ∙ last_mapped (λ (row : IndexRow). row.epoch.0) None (index_rows setup.site setup.limit bodies)
    ∙ ap (λ (epochs : List ℕ). unwrap_or (last_or None epochs) 0) (row_epochs setup.site setup.limit bodies)

-- the number of the last file is the number of all files
pub last_file_is : (its : Injector) (setup : LogSetup) (bodies : List EpochBody) (seen : ℕ → List ℕ) → inject.StandsFor its setup bodies seen → inject.last_file_of its ≡ length (binlog_files setup.site setup.limit bodies)
last_file_is its setup bodies seen held = omega (arith, held.files.number_is, length-append (binlog_of setup.site setup.limit bodies).closed ((binlog_of setup.site setup.limit bodies).last ∷ []))

-- few files are full
pub few_files : (its : Injector) (setup : LogSetup) (bodies : List EpochBody) (seen : ℕ → List ℕ) → inject.StandsFor its setup bodies seen → length bodies ≤ most_closed → inject.last_file_of its < 4294967294
few_files its setup bodies seen held few = omega (arith, held.files.number_is, few_full setup.site setup.limit bodies, few)

-- the log of a cluster can be recovered
pub can_be_recovered : (log : Log) (seen : ℕ → List ℕ) (shape : Shape) (run : Progress) → IsLogAt log seen shape run → CanBeRecovered (log_setup shape log.injector) (written_bodies shape run) seen
can_be_recovered log seen shape run held =
    let point = held.point in
    let limit = inject.limit_of log.injector in record {
      image = log_image log seen shape run held.log;
      logged = can_be_logged shape run point.declared held.log.injector.legal.few point.sound point.fits point.few (omega (arith, opened_low shape run point));
      few = last_in_few shape.site limit (written_bodies shape run) (omega (arith, count_is shape run point.sound, written_small shape run point.sound point.few_closed)) (last_body (written_bodies shape run));
    }
