-- The lines of a script, judged one by one.
use Rattle.std.proofs.Common.{◌≡◌, ℕ, ◌+◌, ◌<◌, ◌≤◌, true, false, List, [], ◌∷◌, ◌++◌, length, map, take, drop, get_or, Option, Some, None, option_to_list, refl, ap, sym, ◌∙◌, subst, length-drop, arith}
use Rattle.std.specs.Prelude.{filter_map, nat_lt, Result, Ok, Err}
use Rattle.std.specs.Option.{option_map_or}
use Rattle.std.specs.List.{enumerate_from}
use Rattle.std.proofs.lemmas.Bool.Decides.{nat_tests}
use Rattle.std.proofs.lemmas.List.{take_all, take_more, drop_more, take-append-drop, length-take-le}
use Rattle.std.proofs.lemmas.List.Elements.{filter_map-append}
use Rattle.rb_base.specs.declared.script.Mode.TheVariants.{EpochTrans}
use Rattle.rb_text_defs.specs.declared.script.BadLine.{BadLine}
use Rattle.rb_text_defs.specs.declared.script.ScriptKind.{ScriptKind}
use Rattle.rb_script.specs.declared.fault.ParseFault.{ParseFault}
use Rattle.rb_script.specs.declared.fault.ParseFault.TheVariants.{Bad, NoMemory}
use Rattle.rb_script.specs.Refused.{IfBad}
use Rattle.rb_text_defs.specs.declared.script.Script.{Script}
use Rattle.rb_text_defs.specs.declared.script.Limit.TheVariants.{Bytes}
use Rattle.rb_text_defs.specs.declared.script.ScriptKind.TheVariants.{Limit}
use Rattle.rb_text_defs.specs.Words.{lines_of}
use Rattle.rb_text_defs.specs.Form.{LineMeaning, reading_of}
use Rattle.rb_text_defs.specs.Script.{bad_line, default_site, first_of, form_in, most_bytes, refusal_of_line, refused_lines, script_in, script_of, script_of_readings}
use Rattle.rb_script.specs.declared.before.Before.{Before}
use Rattle.rb_script.specs.Summarizes.{forms_of, Summarizes}
use Rattle.rb_script.proofs.LineLaws.{lines_of_empty}

-- why the line of this place is refused
abbrev pub refusal_at : List LineMeaning → ℕ × LineMeaning → Option BadLine
refusal_at all numbered = refusal_of_line (filter_map form_in (take numbered.0 all)) (numbered.0 + 1) numbered.1

-- of these bytes this many lines are read, none of which is refused, and this is left
pub record HasRead (bytes : List ℕ) (before : Before) (rest : List ℕ) : Type 0 where
  pub summary : Summarizes (take before.lines (map reading_of (lines_of bytes))) before
  pub fine : filter_map (refusal_at (map reading_of (lines_of bytes))) (enumerate_from 0 (take before.lines (map reading_of (lines_of bytes)))) ≡ []
  pub left : drop before.lines (map reading_of (lines_of bytes)) ≡ map reading_of (lines_of rest)

enumerate_both : {X : Type 0} (n : ℕ) (xs ys : List X) → enumerate_from n (xs ++ ys) ≡ enumerate_from n xs ++ enumerate_from (n + length xs) ys
enumerate_both n [] ys = ap (λ m. enumerate_from m ys) (omega arith)
enumerate_both n (x ∷ xs) ys =
    ap (λ rest. (n, x) ∷ rest) (enumerate_both (n + 1) xs ys ∙ ap (λ m. enumerate_from (n + 1) xs ++ enumerate_from m ys) (omega arith))

within : {X : Type 0} (xs : List X) (i : ℕ) (x : X) (later : List X) → drop i xs ≡ x ∷ later → i < length xs
within xs i x later is = omega (arith, length-drop i xs, ap length is)

one_more : {X : Type 0} (xs : List X) (i : ℕ) (x : X) (later : List X) → drop i xs ≡ x ∷ later → take (i + 1) xs ≡ take i xs ++ x ∷ []
one_more xs i x later is =
    let lt = within xs i x later is in
    let cut = drop_more xs i x lt in
    let here : get_or xs i x ≡ x = cc in
    take_more xs i x lt ∙ ap (λ y. take i xs ++ y ∷ []) here

one_less : {X : Type 0} (xs : List X) (i : ℕ) (x : X) (later : List X) → drop i xs ≡ x ∷ later → drop (i + 1) xs ≡ later
one_less xs i x later is =
    let cut = drop_more xs i x (within xs i x later is) in cc

-- what is refused up to one more line
refused_more : (all : List LineMeaning) (i : ℕ) (reading : LineMeaning) (later : List LineMeaning) → drop i all ≡ reading ∷ later
    → filter_map (refusal_at all) (enumerate_from 0 (take i all)) ≡ []
    → filter_map (refusal_at all) (enumerate_from 0 (take (i + 1) all)) ≡ option_to_list (refusal_of_line (forms_of (take i all)) (i + 1) reading)
refused_more all i reading later is fine =
    let count : 0 + length (take i all) ≡ i = omega (arith, length-take-le i all (omega (arith, within all i reading later is))) in
    ap (λ readings. filter_map (refusal_at all) (enumerate_from 0 readings)) (one_more all i reading later is)
    ∙ ap (filter_map (refusal_at all)) (enumerate_both 0 (take i all) (reading ∷ []))
    ∙ filter_map-append (refusal_at all) (enumerate_from 0 (take i all)) ((0 + length (take i all), reading) ∷ [])
    ∙ ap (λ front. front ++ filter_map (refusal_at all) ((0 + length (take i all), reading) ∷ [])) fine
    ∙ ap (λ n. filter_map (refusal_at all) ((n, reading) ∷ [])) count
    ∙ one (refusal_of_line (forms_of (take i all)) (i + 1) reading)
  where
    one : {X : Type 0} (value : Option X) → filter_map (λ (other : Option X). other) (value ∷ []) ≡ option_to_list value
    one None = refl
    one (Some value) = refl

-- the first line that is refused
pub refused_here : (bytes : List ℕ) (before : Before) (rest line after : List ℕ) (bad : BadLine) → HasRead bytes before rest → lines_of rest ≡ line ∷ lines_of after
    → refusal_of_line (forms_of (take before.lines (map reading_of (lines_of bytes)))) (before.lines + 1) (reading_of line) ≡ Some bad
    → first_of (refused_lines (map reading_of (lines_of bytes))) ≡ Some bad
refused_here bytes before rest line after bad read cut is =
    let all = map reading_of (lines_of bytes) in
    let left : drop before.lines all ≡ reading_of line ∷ map reading_of (lines_of after) = read.left ∙ ap (map reading_of) cut in
    let front : filter_map (refusal_at all) (enumerate_from 0 (take (before.lines + 1) all)) ≡ bad ∷ [] =
    refused_more all before.lines (reading_of line) _ left read.fine ∙ ap option_to_list is in
    ap (λ readings. first_of (filter_map (refusal_at all) (enumerate_from 0 readings))) (sym (take-append-drop (before.lines + 1) all))
    ∙ ap (λ numbered. first_of (filter_map (refusal_at all) numbered)) (enumerate_both 0 (take (before.lines + 1) all) (drop (before.lines + 1) all))
    ∙ ap first_of (filter_map-append (refusal_at all) (enumerate_from 0 (take (before.lines + 1) all)) _)
    ∙ ap (λ bads. first_of (bads ++ filter_map (refusal_at all) (enumerate_from (0 + length (take (before.lines + 1) all)) (drop (before.lines + 1) all)))) front

-- one more line is read
pub one_more_read : (bytes : List ℕ) (before : Before) (rest line after : List ℕ) (now : Before) → HasRead bytes before rest → lines_of rest ≡ line ∷ lines_of after → now.lines ≡ before.lines + 1
    → refusal_of_line (forms_of (take before.lines (map reading_of (lines_of bytes)))) (before.lines + 1) (reading_of line) ≡ None
    → Summarizes (take before.lines (map reading_of (lines_of bytes)) ++ reading_of line ∷ []) now → HasRead bytes now after
one_more_read bytes before rest line after now read cut count fine summary =
    let all = map reading_of (lines_of bytes) in
    let left : drop before.lines all ≡ reading_of line ∷ map reading_of (lines_of after) = read.left ∙ ap (map reading_of) cut in
    record {
      summary = subst (λ readings. Summarizes readings now) (sym (ap (λ n. take n all) count ∙ one_more all before.lines (reading_of line) _ left)) summary;
      fine = ap (λ n. filter_map (refusal_at all) (enumerate_from 0 (take n all))) count ∙ refused_more all before.lines (reading_of line) _ left read.fine ∙ ap option_to_list fine;
      left = ap (λ n. drop n all) count ∙ one_less all before.lines (reading_of line) _ left;
    }

-- nothing is read
pub nothing_read : (bytes : List ℕ) (before : Before) → Summarizes [] before → HasRead bytes before bytes
nothing_read bytes before summary =
    let none : before.lines ≡ 0 = summary.lines in
    record {
      summary = subst (λ readings. Summarizes readings before) (sym (ap (λ n. take n (map reading_of (lines_of bytes))) none)) summary;
      fine = ap (λ n. filter_map (refusal_at (map reading_of (lines_of bytes))) (enumerate_from 0 (take n (map reading_of (lines_of bytes))))) none;
      left = ap (λ n. drop n (map reading_of (lines_of bytes))) none;
    }

script_of_few : (bytes : List ℕ) → length bytes ≤ most_bytes → script_of bytes ≡ script_of_readings (map reading_of (lines_of bytes))
unfolding script_of
script_of_few bytes few =
    let e : nat_lt most_bytes (length bytes) ≡ false = grind (arith, nat_tests) in rw e refl

-- a script that is too long
pub script_of_many : (bytes : List ℕ) → most_bytes < length bytes → script_of bytes ≡ Err (bad_line 0 (Limit Bytes))
unfolding script_of
script_of_many bytes many =
    let e : nat_lt most_bytes (length bytes) ≡ true = grind (arith, nat_tests) in rw e refl

-- the script of a text with a bad line
pub script_of_bad : (bytes : List ℕ) (bad : BadLine) → length bytes ≤ most_bytes → first_of (refused_lines (map reading_of (lines_of bytes))) ≡ Some bad → script_of bytes ≡ Err bad
unfolding script_of_readings
script_of_bad bytes bad few is = script_of_few bytes few ∙ ap (λ first. option_map_or (λ bad. Err bad) first (Ok (script_in (map reading_of (lines_of bytes))))) is

-- the script that is named
pub whole_script : (readings : List LineMeaning) (before : Before) → Summarizes readings before
    → (record { setup = record { mode = EpochTrans; a = option_map_or (λ shape. shape) before.site default_site; b = default_site; tables = before.tables }; events = before.events }) ≡ script_in readings
whole_script readings before summary = rw (summary.events, summary.forms.site, summary.forms.tables) refl

-- all is read
pub script_of_read : (bytes : List ℕ) (before : Before) (rest : List ℕ) (script : Script) → length bytes ≤ most_bytes → HasRead bytes before rest → length rest ≡ 0
    → ((readings : List LineMeaning) → Summarizes readings before → script ≡ script_in readings) → script_of bytes ≡ Ok script
unfolding script_of_readings
script_of_read bytes before [] script few read end is =
    let all = map reading_of (lines_of bytes) in
    let left : drop before.lines all ≡ [] = read.left ∙ ap (map reading_of) lines_of_empty in
    let whole : take before.lines all ≡ all = take_all before.lines all (omega (arith, length-drop before.lines all, ap length left)) in
    let fine : refused_lines all ≡ [] = ap (λ readings. filter_map (refusal_at all) (enumerate_from 0 readings)) (sym whole) ∙ read.fine in
    script_of_few bytes few ∙ ap (λ bads. option_map_or (λ bad. Err bad) (first_of bads) (Ok (script_in all))) fine
    ∙ ap Ok (sym (is all (subst (λ readings. Summarizes readings before) whole read.summary)))
script_of_read bytes before (byte ∷ rest) script few read end is = absurd (omega arith)

-- a fault that is handed on
pub bad_handed_on : {X : Type 0} (Y : Type 0) (result : Result X ParseFault) (fault : ParseFault) (P Q : ℕ → ScriptKind → Type 0) → result ≡ Err fault → IfBad {T = Y} (Err fault) P
    → ((line : ℕ) (kind : ScriptKind) → P line kind → Q line kind) → IfBad result Q
bad_handed_on {X} Y result fault P Q is bad follows = subst (λ (result : Result X ParseFault). IfBad result Q) (sym is) (go fault bad)
  where
    go : (fault : ParseFault) → IfBad {T = Y} (Err fault) P → IfBad {T = X} (Err fault) Q
    go (Bad line kind) bad = follows line kind bad
    go NoMemory bad = tt
