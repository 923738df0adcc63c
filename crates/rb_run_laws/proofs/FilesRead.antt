-- The files of a binlog are read one after another.
use Rattle.std.proofs.Common.{◌≡◌, ℕ, ◌+◌, ◌-◌, ◌<◌, ◌≤◌, ◌^◌, Bool, true, false, cond, List, [], ◌∷◌, ◌++◌, length, fold, refl, sym, ap, subst, ◌∙◌, arith, append_assoc, append-nil, length-append}
use Rattle.std.specs.Prelude.{nat_le, sum_by, if◌then◌else◌, ◌==◌, None, All}
use Rattle.std.specs.List.{AllByRecursion}
use Rattle.std.proofs.lemmas.Bool.{le-ltb}
use Rattle.std.proofs.lemmas.Bool.Decides.{nat_tests}
use Rattle.std.proofs.lemmas.List.Sums.{sum_by-cons}
use Rattle.std.proofs.lemmas.List.Elements.{recursion_from_All}
use Rattle.rb_base.specs.Site.{server_of}
use Rattle.rb_base.specs.declared.site.SiteId.{SiteId}
use Rattle.rb_base.specs.declared.site.SiteId.TheVariants.{A, B}
use Rattle.rb_base.specs.declared.body.EpochBody.{EpochBody}
use Rattle.rb_log_defs.specs.Event.{format_payload, format_event, rotate_payload, rotate_event}
use Rattle.rb_log_defs.specs.Epoch.{epoch_bytes}
use Rattle.rb_log_defs.specs.File.{Binlog, new_binlog, file_name, file_start, rotated, with_epoch, binlog_of, binlog_files}
use Rattle.rb_log_defs.proofs.Sizes.{event_length, format_length, format_payload_length, rotate_payload_length, rotate_length, name_length}
use Rattle.rb_read_defs.specs.Readable.{IsReadable}
use Rattle.rb_read_defs.specs.Stream.{Known, Seen, cuts, cut_from, content_in, is_open, open_epoch, is_rotated, seen_from, seen_of, settled_at, steps_of}
use Rattle.rb_read_defs.specs.declared.answers.Content.TheVariants.{Formats, Rotates}
use Rattle.rb_read_defs.specs.declared.answers.Step.{Step}
use Rattle.rb_read_defs.specs.declared.answers.Step.TheVariants as steps
use Rattle.rb_read_defs.proofs.EpochRead.{epoch_back}
use Rattle.rb_read_defs.proofs.EventSeen.{one_seen}
use Rattle.rb_read_defs.proofs.EventsRead.{format_read, rotate_read}
use Rattle.rb_text_defs.specs.declared.script.Script.{Script}
use Rattle.rb_text_defs.specs.Legal.{IsLegal}
use Rattle.rb_play_defs.specs.Play.{log_of, files_of}
use Rattle.rb_run_laws.proofs.BodyReads.{most_bytes_of, IsShortBody}
use Rattle.rb_run_laws.proofs.RunKeeps.{written_read}
use Rattle.rb_run_laws.proofs.RunBytes.{log_short}
use Rattle.rb_run_laws.specs.Files.{epoch_steps, IsReadAs, AreReadAs}

-- the end of these epochs, the first of which starts at this position
abbrev place_after : (start : ℕ) → List EpochBody → ℕ
place_after start [] = start
place_after start (body ∷ bodies) = place_after (start + length (epoch_bytes body start)) bodies

-- the steps with one more epoch
steps_after : (start : ℕ) (done : List EpochBody) (body : EpochBody) → epoch_steps start (done ++ body ∷ []) ≡ epoch_steps start done ++ steps.Epoch body (place_after start done + length (epoch_bytes body (place_after start done))) ∷ []
steps_after start [] body = refl
steps_after start (first ∷ done) body = ap (λ (all : List Step). steps.Epoch first (start + length (epoch_bytes first start)) ∷ all) (steps_after (start + length (epoch_bytes first start)) done body)

place_more : (start : ℕ) (done : List EpochBody) (body : EpochBody) → place_after start (done ++ body ∷ []) ≡ place_after start done + length (epoch_bytes body (place_after start done))
place_more start [] body = refl
place_more start (first ∷ done) body = place_more (start + length (epoch_bytes first start)) done body

-- a file to which these epochs were written, as a reader reads it, whatever bytes follow
record IsFile (site : SiteId) (done : List EpochBody) (file : List ℕ) : Type 0 where
  known : List Known
  told : steps_of known ≡ steps.Format ∷ epoch_steps (length (file_start site)) done
  place : place_after (length (file_start site)) done ≡ length file
  closed : is_open known ≡ false
  goes_on : is_rotated known ≡ false
  settled : settled_at 0 known ≡ length file
  seen : (more : List ℕ) → seen_of 0 (file ++ more) ≡ seen_from known (cuts (length file) more)
  following : 4 < length file

start_length : (site : SiteId) → length (file_start site) ≡ 115
unfolding file_start
start_length site = let l = format_length (server_of site) 4 in omega arith

small_server : (site : SiteId) → server_of site < 2 ^ 32
small_server A = omega arith
small_server B = omega arith

-- a file without an epoch
format_known : SiteId → Known
format_known site = record { end = 115; server = server_of site; says = Formats }

magic_seen : (bytes : List ℕ) → seen_of 0 (254 ∷ 98 ∷ 105 ∷ 110 ∷ bytes) ≡ seen_from [] (cuts 4 bytes)
unfolding seen_of
magic_seen bytes = rw (le-ltb (length (254 ∷ 98 ∷ 105 ∷ 110 ∷ bytes)) 4 (omega arith)) refl

start_seen : (site : SiteId) (more : List ℕ) → seen_of 0 (file_start site ++ more) ≡ seen_from (format_known site ∷ []) (cuts 115 more)
unfolding file_start content_in format_known
start_seen site more =
    let long = format_payload_length in
    magic_seen (format_event (server_of site) 4 ++ more)
    ∙ one_seen 15 (server_of site) format_payload 4 [] Formats 92 (length (format_event (server_of site) 4 ++ more)) (length more) more refl (small_server site) (omega arith) (omega arith) refl refl (rw format_read refl) refl (omega arith) (omega arith)
    ∙ ap (λ (n : ℕ). seen_from (record { end = 4 + (19 + n); server = server_of site; says = Formats } ∷ []) (cut_from (length more) (4 + (19 + n)) more)) long

new_file : (site : SiteId) → IsFile site [] (file_start site)
unfolding format_known steps_of open_epoch
new_file site =
    let n = start_length site in record {
      known = format_known site ∷ [];
      told = refl;
      place = refl;
      closed = refl;
      goes_on = refl;
      settled = sym n;
      seen = λ more. start_seen site more ∙ ap (λ (at : ℕ). seen_from (format_known site ∷ []) (cuts at more)) (sym n);
      following = omega arith;
    }

-- a file with one more epoch
file_more : (site : SiteId) (done : List EpochBody) (file : List ℕ) (body : EpochBody) → IsFile site done file → IsReadable body → length (file ++ epoch_bytes body (length file)) < 2 ^ 32 → IsFile site (done ++ body ∷ []) (file ++ epoch_bytes body (length file))
file_more site done file body is readable small =
    let bytes = epoch_bytes body (length file) in
    let long = length-append file bytes in
    let following = is.following in
    let back = epoch_back body (length file) is.known readable (omega arith) is.closed is.goes_on (omega arith) in
    let start = length (file_start site) in
    let epoch : steps.Epoch body (place_after start done + length (epoch_bytes body (place_after start done))) ≡ steps.Epoch body (length file + length bytes) =
    ap (λ (at : ℕ). steps.Epoch body (at + length (epoch_bytes body at))) is.place in
    record {
      known = back.events ++ is.known;
      told = back.steps ∙ ap (λ (all : List Step). all ++ steps.Epoch body (length file + length bytes) ∷ []) is.told
          ∙ sym (ap (λ (all : List Step). steps.Format ∷ all) (steps_after start done body ∙ ap (λ (step : Step). epoch_steps start done ++ step ∷ []) epoch));
      place = place_more start done body ∙ ap (λ (at : ℕ). at + length (epoch_bytes body at)) is.place ∙ sym long;
      closed = back.closed;
      goes_on = back.goes_on;
      settled = back.settled 0 ∙ sym long;
      seen = λ more.
          ap (seen_of 0) (append_assoc file bytes more) ∙ is.seen (bytes ++ more) ∙ back.seen more ∙ ap (λ (at : ℕ). seen_from (back.events ++ is.known) (cuts at more)) (sym long);
      following = omega arith;
    }

-- the last file is read to its end
file_read : (site : SiteId) (done : List EpochBody) (file : List ℕ) → IsFile site done file → IsReadAs site done [] file
unfolding cut_from seen_from
file_read site done file is =
    let whole : seen_of 0 file ≡ record { known = is.known; fault = None } = sym (ap (seen_of 0) (append-nil file)) ∙ is.seen [] in
    let settled = is.settled in
    record {
      steps = ap (λ (s : Seen). steps_of s.known) whole ∙ is.told ∙ sym (ap (λ (all : List Step). steps.Format ∷ all) (append-nil (epoch_steps (length (file_start site)) done)));
      sound = ap (λ (s : Seen). s.fault) whole;
      rest = ap (λ (s : Seen). 0 + length file - settled_at 0 s.known) whole ∙ (omega arith);
    }

-- a full file is read to its end
not_four : (at : ℕ) → 4 < at → (at == 4) ≡ false
not_four at following = grind (arith, nat_tests)

full_read : (site : SiteId) (number : ℕ) (done : List EpochBody) (file : List ℕ) → IsFile site done file → number + 1 < 10000000000 → length (rotated site number file) < 2 ^ 32 → IsReadAs site done (steps.Rotate 4 (file_name site (number + 1)) ∷ []) (rotated site number file)
unfolding cut_from seen_from content_in steps_of
full_read site number done file is few small =
    let name = file_name site (number + 1) in
    let payload = rotate_payload 4 name in
    let event = rotate_event (server_of site) 4 name (length file) in
    let long = event_length 4 (server_of site) payload (length file) in
    let all = length-append file event in
    let short = name_length site (number + 1) few in
    let named = rotate_payload_length 4 name in
    let end : length file + (19 + length payload) ≡ length (file ++ event) = omega arith in
    let known : List Known = record { end = length file + (19 + length payload); server = server_of site; says = Rotates (record { position = 4; name = name }) } ∷ is.known in
    let whole : seen_of 0 (file ++ event) ≡ record { known = known; fault = None } =
    is.seen event
    ∙ ap (λ (bytes : List ℕ). seen_from is.known (cuts (length file) bytes)) (sym (append-nil event))
    ∙ one_seen 4 (server_of site) payload (length file) is.known (Rotates (record { position = 4; name = name })) (8 + length name) (length (event ++ [])) 0 [] refl (small_server site) (omega arith) (omega arith) is.goes_on
    (rw (not_four (length file) is.following, is.closed) refl) (rw (rotate_read 4 name (omega arith)) refl) refl (omega arith) (omega arith) in
    record {
      steps = ap (λ (s : Seen). steps_of s.known) whole ∙ ap (λ (all : List Step). all ++ steps.Rotate 4 name ∷ []) is.told;
      sound = ap (λ (s : Seen). s.fault) whole;
      rest = ap (λ (s : Seen). 0 + length (file ++ event) - settled_at 0 s.known) whole ∙ rw is.closed (omega arith);
    }

-- the files from the current one on, when these bodies are written to it
files_from : SiteId → (limit number : ℕ) → (file : List ℕ) → List EpochBody → List (List ℕ)
files_from site limit number file [] = file ∷ []
files_from site limit number file (body ∷ bodies) =
    if nat_le limit (length (file ++ epoch_bytes body (length file)))
    then rotated site number (file ++ epoch_bytes body (length file)) ∷ files_from site limit (number + 1) (file_start site) bodies
    else files_from site limit number (file ++ epoch_bytes body (length file)) bodies

files_are : (site : SiteId) (limit : ℕ) (log : Binlog) (bodies : List EpochBody) → (fold (with_epoch site limit) log bodies).closed ++ (fold (with_epoch site limit) log bodies).last ∷ [] ≡ log.closed ++ files_from site limit (length log.closed + 1) log.last bodies
unfolding files_from
files_are site limit log [] = refl
files_are site limit log (body ∷ bodies) = go (nat_le limit (length file)) refl (files_are site limit (with_epoch site limit log body) bodies)
  where
    file : List ℕ
    file = log.last ++ epoch_bytes body (length log.last)

    all : Binlog → List (List ℕ)
    all after = (fold (with_epoch site limit) after bodies).closed ++ (fold (with_epoch site limit) after bodies).last ∷ []

    next : Binlog
    next = with_epoch site limit log body

    go : (b : Bool) → nat_le limit (length file) ≡ b → all next ≡ next.closed ++ files_from site limit (length next.closed + 1) next.last bodies →
        all next ≡ log.closed ++ cond b (rotated site (length log.closed + 1) file ∷ files_from site limit (length log.closed + 1 + 1) (file_start site) bodies) (files_from site limit (length log.closed + 1) file bodies)
    go true is rest =
        let full = rotated site (length log.closed + 1) file in
        let closed : next.closed ≡ log.closed ++ full ∷ [] = rw is refl in
        let last : next.last ≡ file_start site = rw is refl in
        let count : length (log.closed ++ full ∷ []) + 1 ≡ length log.closed + 1 + 1 = (let l = length-append log.closed (full ∷ []) in omega arith) in
        rest
        ∙ ap (λ (files : List (List ℕ)). files ++ files_from site limit (length files + 1) next.last bodies) closed
        ∙ ap (λ (start : List ℕ). (log.closed ++ full ∷ []) ++ files_from site limit (length (log.closed ++ full ∷ []) + 1) start bodies) last
        ∙ ap (λ (n : ℕ). (log.closed ++ full ∷ []) ++ files_from site limit n (file_start site) bodies) count
        ∙ append_assoc log.closed (full ∷ []) (files_from site limit (length log.closed + 1 + 1) (file_start site) bodies)
    go false is rest =
        let closed : next.closed ≡ log.closed = rw is refl in
        let last : next.last ≡ file = rw is refl in
        rest
        ∙ ap (λ (files : List (List ℕ)). files ++ files_from site limit (length files + 1) next.last bodies) closed
        ∙ ap (λ (start : List ℕ). log.closed ++ files_from site limit (length log.closed + 1) start bodies) last

-- the first of these files begins with the bytes of the current file
abbrev IsSmall : List ℕ → Type 0
IsSmall file = length file < 2 ^ 32

small_now : (site : SiteId) (limit number : ℕ) (file : List ℕ) (bodies : List EpochBody) → AllByRecursion IsSmall (files_from site limit number file bodies) → IsSmall file
unfolding files_from
small_now site limit number file [] small = small.0
small_now site limit number file (body ∷ bodies) small = go (nat_le limit (length (file ++ epoch_bytes body (length file)))) small (small_now site limit number (file ++ epoch_bytes body (length file)) bodies)
  where
    next : List ℕ
    next = file ++ epoch_bytes body (length file)

    go : (b : Bool) → AllByRecursion IsSmall (cond b (rotated site number next ∷ files_from site limit (number + 1) (file_start site) bodies) (files_from site limit number next bodies)) → (AllByRecursion IsSmall (files_from site limit number next bodies) → IsSmall next) → IsSmall file
    go true small rest =
        let here : length (rotated site number next) < 2 ^ 32 = small.0 in
        let one = length-append next (rotate_event (server_of site) 4 (file_name site (number + 1)) (length next)) in
        let two = length-append file (epoch_bytes body (length file)) in
        omega arith
    go false small rest =
        let here : length next < 2 ^ 32 = rest small in
        let two = length-append file (epoch_bytes body (length file)) in
        omega arith

-- there is at least one file
record AreSome (files : List (List ℕ)) : Type 0 where
  first : List ℕ
  later : List (List ℕ)
  are : files ≡ first ∷ later

some_from : (site : SiteId) (limit number : ℕ) (file : List ℕ) (bodies : List EpochBody) → AreSome (files_from site limit number file bodies)
unfolding files_from
some_from site limit number file [] = record { first = file; later = []; are = refl }
some_from site limit number file (body ∷ bodies) = go (nat_le limit (length (file ++ epoch_bytes body (length file)))) (some_from site limit number (file ++ epoch_bytes body (length file)) bodies)
  where
    next : List ℕ
    next = file ++ epoch_bytes body (length file)

    go : (b : Bool) → AreSome (files_from site limit number next bodies) → AreSome (cond b (rotated site number next ∷ files_from site limit (number + 1) (file_start site) bodies) (files_from site limit number next bodies))
    go true rest = record { first = rotated site number next; later = files_from site limit (number + 1) (file_start site) bodies; are = refl }
    go false rest = rest

-- a full file before other files
read_first : (site : SiteId) (number : ℕ) (own following : List EpochBody) (file : List ℕ) (files : List (List ℕ)) → AreSome files → IsReadAs site own (steps.Rotate 4 (file_name site (number + 1)) ∷ []) file → AreReadAs site (number + 1) following files → AreReadAs site number (own ++ following) (file ∷ files)
read_first site number own following file files some first later =
    subst (λ (files : List (List ℕ)). AreReadAs site number (own ++ following) (file ∷ files)) (sym some.are)
    (own, following, refl, first, subst (AreReadAs site (number + 1) following) some.are later)

files_read : (site : SiteId) (limit number : ℕ) (done : List EpochBody) (file : List ℕ) (bodies : List EpochBody) → IsFile site done file → number + length bodies < 10000000000 → AllByRecursion IsReadable bodies → AllByRecursion IsSmall (files_from site limit number file bodies) → AreReadAs site number (done ++ bodies) (files_from site limit number file bodies)
unfolding files_from
files_read site limit number done file [] is few readable small = subst (λ (all : List EpochBody). IsReadAs site all [] file) (sym (append-nil done)) (file_read site done file is)
files_read site limit number done file (body ∷ bodies) is few readable small =
    subst (λ (all : List EpochBody). AreReadAs site number all (files_from site limit number file (body ∷ bodies))) same
    (go (nat_le limit (length next)) small (files_read site limit number (done ++ body ∷ []) next bodies) (files_read site limit (number + 1) [] (file_start site) bodies (new_file site) (omega arith) readable.1))
  where
    next : List ℕ
    next = file ++ epoch_bytes body (length file)

    same : (done ++ body ∷ []) ++ bodies ≡ done ++ body ∷ bodies
    same = append_assoc done (body ∷ []) bodies

    go : (b : Bool) → AllByRecursion IsSmall (cond b (rotated site number next ∷ files_from site limit (number + 1) (file_start site) bodies) (files_from site limit number next bodies)) →
        (IsFile site (done ++ body ∷ []) next → number + length bodies < 10000000000 → AllByRecursion IsReadable bodies → AllByRecursion IsSmall (files_from site limit number next bodies) → AreReadAs site number ((done ++ body ∷ []) ++ bodies) (files_from site limit number next bodies)) →
        (AllByRecursion IsSmall (files_from site limit (number + 1) (file_start site) bodies) → AreReadAs site (number + 1) bodies (files_from site limit (number + 1) (file_start site) bodies)) →
        AreReadAs site number ((done ++ body ∷ []) ++ bodies) (cond b (rotated site number next ∷ files_from site limit (number + 1) (file_start site) bodies) (files_from site limit number next bodies))
    go true small here later =
        let whole : length (rotated site number next) < 2 ^ 32 = small.0 in
        let one = length-append next (rotate_event (server_of site) 4 (file_name site (number + 1)) (length next)) in
        let more = file_more site done file body is readable.0 (omega arith) in
        read_first site number (done ++ body ∷ []) bodies (rotated site number next) (files_from site limit (number + 1) (file_start site) bodies) (some_from site limit (number + 1) (file_start site) bodies)
        (full_read site number (done ++ body ∷ []) next more (omega arith) whole) (later small.1)
    go false small here later = here (file_more site done file body is readable.0 (small_now site limit number next bodies small)) (omega arith) readable.1 small

-- a log of readable epochs is read as it was written
pub log_read : (site : SiteId) (limit : ℕ) (bodies : List EpochBody) → All IsReadable bodies → length bodies < 2 ^ 32 → All (λ file. length file < 2 ^ 32) (binlog_files site limit bodies) → AreReadAs site 1 bodies (binlog_files site limit bodies)
unfolding binlog_of
log_read site limit bodies readable few small =
    let are : binlog_files site limit bodies ≡ files_from site limit 1 (file_start site) bodies = files_are site limit (new_binlog site) bodies in
    subst (AreReadAs site 1 bodies) (sym are)
    (files_read site limit 1 [] (file_start site) bodies (new_file site) (omega arith) (recursion_from_All IsReadable bodies readable)
    (subst (AllByRecursion IsSmall) are (recursion_from_All IsSmall (binlog_files site limit bodies) small)))

-- the files of short epochs are short
files_short : (site : SiteId) (limit number : ℕ) (file : List ℕ) (bodies : List EpochBody) → AllByRecursion IsShortBody bodies → 115 ≤ length file → number + length bodies < 10000000000 → length file + sum_by most_bytes_of bodies + 43 < 2 ^ 32 →
    AllByRecursion IsSmall (files_from site limit number file bodies)
unfolding files_from
files_short site limit number file [] short start few bytes = (omega arith, tt)
files_short site limit number file (body ∷ bodies) short start few bytes =
    go (nat_le limit (length next)) (files_short site limit number next bodies short.1) (files_short site limit (number + 1) (file_start site) bodies short.1)
  where
    next : List ℕ
    next = file ++ epoch_bytes body (length file)

    more : length next ≡ length file + length (epoch_bytes body (length file))
    more = length-append file (epoch_bytes body (length file))

    sum : sum_by most_bytes_of (body ∷ bodies) ≡ most_bytes_of body + sum_by most_bytes_of bodies
    sum = sum_by-cons most_bytes_of body bodies

    go : (b : Bool) → (115 ≤ length next → number + length bodies < 10000000000 → length next + sum_by most_bytes_of bodies + 43 < 2 ^ 32 → AllByRecursion IsSmall (files_from site limit number next bodies)) →
        (115 ≤ length (file_start site) → number + 1 + length bodies < 10000000000 → length (file_start site) + sum_by most_bytes_of bodies + 43 < 2 ^ 32 → AllByRecursion IsSmall (files_from site limit (number + 1) (file_start site) bodies)) →
        AllByRecursion IsSmall (cond b (rotated site number next ∷ files_from site limit (number + 1) (file_start site) bodies) (files_from site limit number next bodies))
    go true here later =
        let one = length-append next (rotate_event (server_of site) 4 (file_name site (number + 1)) (length next)) in
        let two = rotate_length (server_of site) 4 (file_name site (number + 1)) (length next) in
        let name = name_length site (number + 1) (omega arith) in
        let own = short.0 (length file) in
        let first = start_length site in
        let m = more in
        let s = sum in
        (omega arith, later (omega arith) (omega arith) (omega arith))
    go false here later =
        let own = short.0 (length file) in
        let m = more in
        let s = sum in
        here (omega arith) (omega arith) (omega arith)

-- the log of a legal script's run is read as it was written
pub run_read : (script : Script) → IsLegal script → AreReadAs A 1 (log_of script) (files_of script)
unfolding binlog_of
run_read script legal =
    let bodies = log_of script in
    let limit = script.setup.a.limit in
    let short = log_short script legal in
    let first = start_length A in
    let few = short.few in
    let bytes = short.bytes in
    let are : files_of script ≡ files_from A limit 1 (file_start A) bodies = files_are A limit (new_binlog A) bodies in
    subst (AreReadAs A 1 bodies) (sym are)
    (files_read A limit 1 [] (file_start A) bodies (new_file A) (omega arith) (recursion_from_All IsReadable bodies (written_read script legal))
    (files_short A limit 1 (file_start A) bodies short.short (omega arith) (omega arith) (omega arith)))
