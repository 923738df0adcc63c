-- The script that lines give together, one line at a time.
use Rattle.std.proofs.Common.{◌≡◌, ℕ, ◌+◌, Bool, true, false, ◌||◌, List, [], ◌∷◌, ◌++◌, length, Option, Some, None, option_to_list, refl, ap, ◌∙◌, arith}
use Rattle.std.specs.Prelude.{filter_map, is_some, if◌then◌else◌}
use Rattle.std.specs.List.{cons_option, list_any, enumerate_from}
use Rattle.std.proofs.lemmas.Bool.{true≢false}
use Rattle.std.proofs.lemmas.List.Elements.{filter_map-append}
use Rattle.rb_base.specs.declared.schema.Schema.{Schema}
use Rattle.rb_text_defs.specs.Form.{Form, SiteLine, TableLine, TxLine, EventLine, LineMeaning, Wrong, Skipped, Says}
use Rattle.rb_text_defs.specs.Script.{is_event, events_of, lined_event, form_in, refusal_of_line, is_misplaced}

-- the forms of these lines
abbrev pub forms_of : List LineMeaning → List Form
forms_of readings = filter_map form_in readings

-- the forms with one more line
pub forms_more : (readings : List LineMeaning) (reading : LineMeaning) → forms_of (readings ++ reading ∷ []) ≡ forms_of readings ++ forms_of (reading ∷ [])
forms_more readings reading = filter_map-append form_in readings (reading ∷ [])

enumerate_more : {X : Type 0} (n : ℕ) (xs : List X) (x : X) → enumerate_from n (xs ++ x ∷ []) ≡ enumerate_from n xs ++ (n + length xs, x) ∷ []
enumerate_more n [] x = ap (λ m. (m, x) ∷ []) (omega arith)
enumerate_more n (y ∷ xs) x =
    ap (λ rest. (n, y) ∷ rest) (enumerate_more (n + 1) xs x
    ∙ ap (λ m. enumerate_from (n + 1) xs ++ (m, x) ∷ []) (omega arith))

-- the events with one more line
pub events_more : (tables : List Schema) (readings : List LineMeaning) (reading : LineMeaning)
    → events_of tables (readings ++ reading ∷ []) ≡ events_of tables readings ++ option_to_list (lined_event tables (length readings + 1) reading)
events_more tables readings reading =
    let event = λ (numbered : ℕ × LineMeaning). lined_event tables (numbered.0 + 1) numbered.1 in
    ap (filter_map event) (enumerate_more 0 readings reading)
    ∙ filter_map-append event (enumerate_from 0 readings) ((0 + length readings, reading) ∷ [])
    ∙ ap (λ more. events_of tables readings ++ more) (one (event (0 + length readings, reading)))
    ∙ ap (λ m. events_of tables readings ++ option_to_list (lined_event tables (m + 1) reading)) (omega arith)
  where
    one : {X : Type 0} (value : Option X) → filter_map (λ (other : Option X). other) (value ∷ []) ≡ option_to_list value
    one None = refl
    one (Some value) = refl

-- if no item gives a value, the values are empty
pub none_given : {X Y : Type 0} (h : X → Option Y) (xs : List X) → list_any (λ x. is_some (h x)) xs ≡ false → filter_map h xs ≡ []
none_given h [] none = refl
none_given h (x ∷ xs) none = none_of (h x) _ _ none (none_given h xs)
  where
    none_of : {Y : Type 0} (value : Option Y) (any : Bool) (others : List Y) → (is_some value || any) ≡ false → (any ≡ false → others ≡ []) → cons_option value others ≡ []
    none_of None any others none rest = rest none
    none_of (Some y) any others none rest = absurd (true≢false none)

pub or_left : (a b : Bool) → (a || b) ≡ false → a ≡ false
or_left true b none = none
or_left false b none = refl

pub or_right : (a b : Bool) → (a || b) ≡ false → b ≡ false
or_right true b none = absurd (true≢false none)
or_right false b none = none

-- lines of the setup give no events
pub no_events : (tables : List Schema) (readings : List LineMeaning) (n : ℕ) → list_any is_event (forms_of readings) ≡ false
    → filter_map (λ (numbered : ℕ × LineMeaning). lined_event tables (numbered.0 + 1) numbered.1) (enumerate_from n readings) ≡ []
no_events tables [] n none = refl
no_events tables (Wrong ∷ readings) n none = no_events tables readings (n + 1) none
no_events tables (Skipped ∷ readings) n none = no_events tables readings (n + 1) none
no_events tables (Says (SiteLine site groups replicas limit) ∷ readings) n none = no_events tables readings (n + 1) none
no_events tables (Says (TableLine name columns) ∷ readings) n none = no_events tables readings (n + 1) none
no_events tables (Says (TxLine site operations) ∷ readings) n none = absurd (true≢false none)
no_events tables (Says (EventLine event) ∷ readings) n none = absurd (true≢false none)

-- a line that is not refused fits the lines before it
pub not_misplaced : (forms : List Form) (number : ℕ) (form : Form) → refusal_of_line forms number (Says form) ≡ None → is_misplaced forms form ≡ false
not_misplaced forms number form fine = go (is_misplaced forms form) _ _ fine
  where
    go : {X : Type 0} (b : Bool) (x : X) (other : Option X) → (if b then Some x else other) ≡ None → b ≡ false
    go true x other fine = absurd (cc)
    go false x other fine = refl
