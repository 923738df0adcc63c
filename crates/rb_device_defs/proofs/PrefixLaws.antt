-- Prefixes of a binlog's files, up to the end of its last epoch.
use Rattle.std.proofs.Common.{◌≡◌, ℕ, ◌+◌, ◌-◌, ◌<◌, ◌≤◌, List, [], ◌∷◌, ◌++◌, length, take, refl, ap, sym, ◌∙◌, arith, length-append}
use Rattle.std.proofs.lemmas.List.{take-append-le, get_or_append_left, get_or-append-add}
use Rattle.std.specs.Prelude.{Bool, true, false, nat_le, if◌then◌else◌, Option, Some}
use Rattle.std.specs.List.{last_or}
use Rattle.rb_base.specs.Site.{server_of}
use Rattle.rb_base.specs.declared.site.SiteId.{SiteId}
use Rattle.rb_log_defs.specs.Event.{rotate_event}
use Rattle.rb_log_defs.specs.File.{file_start, file_name, rotated, Binlog, files_in, rotated_at}
use Rattle.rb_device_defs.specs.Files.{file_at, HoldsFiles, HoldsPrefix}

-- the last item of a list with an item appended
pub last_snoc : {X : Type 0} (o : Option X) (xs : List X) (x : X) → last_or o (xs ++ x ∷ []) ≡ Some x
last_snoc o [] x = refl
last_snoc o (y ∷ ys) x = last_snoc (Some y) ys x

-- the file after these first files
pub after_front : (front : List (List ℕ)) (x : List ℕ) (more : List (List ℕ)) → file_at (front ++ x ∷ more) (length front + 1) ≡ x
after_front front x more = let e : length front + 1 - 1 ≡ length front + 0 = omega arith in rw e (get_or-append-add front (x ∷ more) 0 [])

-- a file among these first files
pub within_prefix : (front more : List (List ℕ)) (number : ℕ) → 1 ≤ number → number < length front + 1 → file_at (front ++ more) number ≡ file_at front number
within_prefix front more number some within = get_or_append_left front more [] (number - 1) (omega arith)

-- a prefix of files is also a prefix of other files that agree with them there
pub prefix_of_other : (number position : ℕ) (files other : List (List ℕ)) (seen : ℕ → List ℕ) → ((earlier : ℕ) → 1 ≤ earlier → earlier < number → file_at files earlier ≡ file_at other earlier) → take position (file_at files number) ≡ take position (file_at other number) → HoldsPrefix number position files seen → HoldsPrefix number position other seen
prefix_of_other number position files other seen before front held = record {
  before = λ earlier some below. held.before earlier some below ∙ before earlier some below;
  front = held.front ∙ front;
}

-- a device that holds all files holds every prefix of them
pub prefix_of_all : (number position : ℕ) (files : List (List ℕ)) (seen : ℕ → List ℕ) → 1 ≤ number → HoldsFiles files seen → HoldsPrefix number position files seen
prefix_of_all number position files seen some held = record {
  before = λ earlier first below. held earlier first;
  front = ap (take position) (held number some);
}

-- a device holds a binlog up to the end of its last file
abbrev pub HoldsToEnd : Binlog → (files : List (List ℕ)) → (seen : ℕ → List ℕ) → Type 0
HoldsToEnd log files seen = HoldsPrefix (length log.closed + 1) (length log.last) files seen

-- a rotation leaves the files before the last one unchanged
rotated_before : (site : SiteId) (limit : ℕ) (log : Binlog) (full : Bool) → (earlier : ℕ) → 1 ≤ earlier → earlier < length log.closed + 1 → file_at (files_in (if full then record log { closed = log.closed ++ rotated site (length log.closed + 1) log.last ∷ []; last = file_start site } else log)) earlier ≡ file_at (files_in log) earlier
rotated_before site limit log true earlier some below =
    within_prefix (log.closed ++ rotated site (length log.closed + 1) log.last ∷ []) (file_start site ∷ []) earlier some (omega (arith, below, length-append log.closed (rotated site (length log.closed + 1) log.last ∷ [])))
    ∙ within_prefix log.closed (rotated site (length log.closed + 1) log.last ∷ []) earlier some below
    ∙ sym (within_prefix log.closed (log.last ∷ []) earlier some below)
rotated_before site limit log false earlier some below = refl

-- a rotation leaves the bytes of the last file at its start
rotated_prefix : (site : SiteId) (limit : ℕ) (log : Binlog) (full : Bool) → take (length log.last) (file_at (files_in (if full then record log { closed = log.closed ++ rotated site (length log.closed + 1) log.last ∷ []; last = file_start site } else log)) (length log.closed + 1)) ≡ take (length log.last) (file_at (files_in log) (length log.closed + 1))
rotated_prefix site limit log true =
    let full : List ℕ = rotated site (length log.closed + 1) log.last in
    ap (take (length log.last)) (within_prefix (log.closed ++ full ∷ []) (file_start site ∷ []) (length log.closed + 1) (omega arith) (omega (arith, length-append log.closed (full ∷ []))) ∙ after_front log.closed full [])
    ∙ take-append-le (length log.last) log.last (rotate_event (server_of site) 4 (file_name site (length log.closed + 1 + 1)) (length log.last)) (omega arith)
    ∙ ap (take (length log.last)) (sym (after_front log.closed log.last []))
rotated_prefix site limit log false = refl

pub to_end_when_rotated : (site : SiteId) (limit : ℕ) (log : Binlog) (seen : ℕ → List ℕ) → HoldsToEnd log (files_in log) seen → HoldsToEnd log (files_in (rotated_at site limit log)) seen
to_end_when_rotated site limit log seen held =
    prefix_of_other _ _ (files_in log) (files_in (rotated_at site limit log)) seen
    (λ earlier some below. sym (rotated_before site limit log (nat_le limit (length log.last)) earlier some below))
    (sym (rotated_prefix site limit log (nat_le limit (length log.last)))) held

pub to_end_before_rotation : (site : SiteId) (limit : ℕ) (log : Binlog) (seen : ℕ → List ℕ) → HoldsToEnd log (files_in (rotated_at site limit log)) seen → HoldsToEnd log (files_in log) seen
to_end_before_rotation site limit log seen held =
    prefix_of_other _ _ (files_in (rotated_at site limit log)) (files_in log) seen
    (λ earlier some below. rotated_before site limit log (nat_le limit (length log.last)) earlier some below)
    (rotated_prefix site limit log (nat_le limit (length log.last))) held

-- a device that holds a binlog whose last file has grown holds the binlog to its old end
pub to_end_of_longer : (log : Binlog) (bytes : List ℕ) (seen : ℕ → List ℕ) → HoldsFiles (log.closed ++ (log.last ++ bytes) ∷ []) seen → HoldsToEnd log (files_in log) seen
to_end_of_longer log bytes seen held =
    prefix_of_other _ _ (log.closed ++ (log.last ++ bytes) ∷ []) (files_in log) seen
    (λ earlier some below. within_prefix log.closed ((log.last ++ bytes) ∷ []) earlier some below ∙ sym (within_prefix log.closed (log.last ∷ []) earlier some below))
    (ap (take (length log.last)) (after_front log.closed (log.last ++ bytes) [])
    ∙ take-append-le (length log.last) log.last bytes (omega arith)
    ∙ ap (take (length log.last)) (sym (after_front log.closed log.last [])))
    (prefix_of_all _ _ (log.closed ++ (log.last ++ bytes) ∷ []) seen (omega arith) held)
