-- What holds of a line from its words alone.
use Rattle.std.proofs.Common.{◌≡◌, ℕ, ◌<◌, ◌≤◌, ◌^◌, Bool, true, false, List, [], ◌∷◌, length, map, Option, Some, None, refl, arith}
use Rattle.std.specs.Prelude.{nat_le, ◌&&◌, if◌then◌else◌, codes, ⊤, IfSome}
use Rattle.std.specs.List.{AllByRecursion, list_all, slice_split}
use Rattle.std.specs.Option.{option_and_then, option_map, option_map_or}
use Rattle.std.proofs.lemmas.Bool.{leb-true, leb-false, ltb-true, and_parts}
use Rattle.std.proofs.lemmas.List.{length-map}
use Rattle.std.proofs.lemmas.List.Splits.{length-slice_split}
use Rattle.rb_base.specs.declared.site.SiteId.{SiteId}
use Rattle.rb_base.specs.declared.site.SiteId.TheVariants.{A}
use Rattle.rb_base.specs.declared.schema.Column.TheVariants.{Num, Text}
use Rattle.rb_base.specs.declared.schema.Schema.{Schema}
use Rattle.rb_base.specs.declared.row.Value.TheVariants as values
use Rattle.rb_base.specs.declared.script.Event.{Event}
use Rattle.rb_base.specs.declared.script.Event.TheVariants as events
use Rattle.rb_text_defs.specs.Words.{Word, Plain, Quoted, ◌>>=◌, all_of, begins_with, decimal_value, is_letter, is_name, is_name_byte, is_number, name_of, number_of, words_of, is_line_byte, is_skipped}
use Rattle.rb_text_defs.specs.Form.{Operation, Form, SiteLine, TableLine, TxLine, EventLine, LineMeaning, Wrong, Skipped, Says, deliver_line, form_from, form_of, is_word, maximum_of, may_have, op_of, operation_of, reading_of, says, node_event, site_event, site_line, site_of, small_number_of, table_line, text_type, tx_line, type_of, value_of}
use Rattle.rb_text_defs.specs.Script.{node_in}
use Rattle.rb_text_defs.specs.Legal.{IsLegalColumn, IsLegalEvent, IsLegalValue, changes_in_event}

-- an operation as a line can write it: its numbers have 64 bits
pub record IsSaidOperation (operation : Operation) : Type 0 where
  pub key : operation.key < 2 ^ 64
  pub values : AllByRecursion IsLegalValue operation.values

-- a form as a line can write it: the length of names, types of columns, site A, numbers of 64 bits,
-- and no changes outside transactions
abbrev pub IsSaid : Form → Type 0
IsSaid (SiteLine site groups replicas limit) = ⊤
IsSaid (TableLine name columns) = (length name ≤ 32) × AllByRecursion IsLegalColumn columns
IsSaid (TxLine site operations) = (site ≡ A) × (1 ≤ length operations) × AllByRecursion IsSaidOperation operations
IsSaid (EventLine event) = ((tables : List Schema) (nodes : ℕ) → option_map_or (nat_le nodes) (node_in event) false ≡ false → IsLegalEvent tables nodes event) × (changes_in_event event ≡ 0)

if_bound : {X Y : Type 0} (P : X → Type 0) (Q : Y → Type 0) (value : Option X) (next : X → Option Y) → IfSome value P → ((x : X) → P x → IfSome (next x) Q) → IfSome (value >>= next) Q
if_bound P Q None next here then' = tt
if_bound P Q (Some x) next here then' = then' x here

if_mapped : {X Y : Type 0} (P : X → Type 0) (Q : Y → Type 0) (f : X → Y) (value : Option X) → IfSome value P → ((x : X) → P x → Q (f x)) → IfSome (option_map f value) Q
if_mapped P Q f None here then' = tt
if_mapped P Q f (Some x) here then' = then' x here

if_chosen : {Y : Type 0} (Q : Y → Type 0) (b : Bool) (here other : Option Y) → IfSome here Q → IfSome other Q → IfSome (if b then here else other) Q
if_chosen Q true here other p q = p
if_chosen Q false here other p q = q

if_any : {X : Type 0} (value : Option X) → IfSome value (λ x. ⊤)
if_any None = tt
if_any (Some x) = tt

site_said : (word : Word) → IfSome (site_of word) (λ site. site ≡ A)
site_said word = if_chosen (λ site. site ≡ A) (is_word (codes "A") word) (Some A) None refl tt

name_said : (word : Word) → IfSome (name_of word) (λ name. length name ≤ 32)
unfolding name_of is_name
name_said (Quoted text) = tt
name_said (Plain bytes) = go (nat_le (length bytes) 32 && begins_with is_letter bytes && list_all is_name_byte bytes) (λ is. leb-true (length bytes) 32 (and_parts _ _ (and_parts _ _ is).0).0)
  where
    go : (b : Bool) → (b ≡ true → length bytes ≤ 32) → IfSome (if b then Some bytes else None) (λ name. length name ≤ 32)
    go true few = few refl
    go false few = tt

type_said : (word : Word) → IfSome (type_of word) IsLegalColumn
type_said word = if_chosen IsLegalColumn (is_word (codes "num") word) (Some Num) (option_and_then text_type (maximum_of word)) tt (text_said (maximum_of word))
  where
    some : (most : ℕ) (b : Bool) → (b ≡ true → 1 ≤ most) → IfSome (if b then Some (Text most) else None) IsLegalColumn
    some most true is = is refl
    some most false is = tt

    text_said : (maximum : Option ℕ) → IfSome (option_and_then text_type maximum) IsLegalColumn
    text_said None = tt
    text_said (Some most) = some most (nat_le 1 most) (leb-true 1 most)

-- if every word of a line has a value, each value has this property
each_said : {X Y : Type 0} (P : Y → Type 0) (f : X → Option Y) → ((x : X) → IfSome (f x) P) → (xs : List X) → IfSome (all_of (map f xs)) (AllByRecursion P)
each_said P f said [] = tt
each_said P f said (x ∷ xs) = pick P (f x) (map f xs) (said x) (each_said P f said xs)
  where
    more : {Y : Type 0} (P : Y → Type 0) (y : Y) (others : Option (List Y)) → P y → IfSome others (AllByRecursion P) → IfSome (option_map (λ others. y ∷ others) others) (AllByRecursion P)
    more P y None here all = tt
    more P y (Some others) here all = (here, all)

    pick : {Y : Type 0} (P : Y → Type 0) (first : Option Y) (values : List (Option Y)) → IfSome first P → IfSome (all_of values) (AllByRecursion P) → IfSome (all_of (first ∷ values)) (AllByRecursion P)
    pick P None values here all = tt
    pick P (Some y) values here all = more P y (all_of values) here all

-- and there are as many values as words
each_counted : {Y : Type 0} (values : List (Option Y)) → IfSome (all_of values) (λ all. length all ≡ length values)
each_counted [] = refl
each_counted (None ∷ values) = tt
each_counted {Y = Y} (Some y ∷ values) = more (all_of values) (each_counted values)
  where
    more : (others : Option (List Y)) → IfSome others (λ all. length all ≡ length values) → IfSome (option_map (λ others. y ∷ others) others) (λ all. length all ≡ length (Some y ∷ values))
    more None counted = tt
    more (Some others) counted = omega (arith, counted)

if_both : {X : Type 0} (P Q : X → Type 0) (value : Option X) → IfSome value P → IfSome value Q → IfSome value (λ x. P x × Q x)
if_both P Q None here there = tt
if_both P Q (Some x) here there = (here, there)

columns_said : (words : List Word) → IfSome (all_of (map type_of words)) (AllByRecursion IsLegalColumn)
columns_said words = each_said IsLegalColumn type_of type_said words

number_said : (word : Word) → IfSome (number_of word) (λ number. number < 2 ^ 64)
unfolding number_of
number_said (Quoted text) = tt
number_said (Plain bytes) = go (is_number bytes) (λ is. ltb-true (decimal_value bytes) (2 ^ 64) (and_parts _ _ is).1)
  where
    go : (b : Bool) → (b ≡ true → decimal_value bytes < 2 ^ 64) → IfSome (if b then Some (decimal_value bytes) else None) (λ number. number < 2 ^ 64)
    go true few = few refl
    go false few = tt

value_said : (word : Word) → IfSome (value_of word) IsLegalValue
unfolding value_of
value_said (Quoted text) = tt
value_said (Plain bytes) = if_mapped (λ number. number < 2 ^ 64) IsLegalValue (λ number. values.Num number) (number_of (Plain bytes)) (number_said (Plain bytes)) (λ number room. room)

operation_said : (words : List Word) → IfSome (operation_of words) IsSaidOperation
unfolding operation_of
operation_said [] = tt
operation_said (op ∷ []) = tt
operation_said (op ∷ table ∷ []) = tt
operation_said (op ∷ table ∷ key ∷ values) =
    if_bound (λ x. ⊤) IsSaidOperation (op_of op) _ (if_any (op_of op)) (λ what _.
    if_bound (λ x. ⊤) IsSaidOperation (name_of table) _ (if_any (name_of table)) (λ name _.
    if_bound (λ number. number < 2 ^ 64) IsSaidOperation (number_of key) _ (number_said key) (λ number room.
    if_bound (AllByRecursion IsLegalValue) IsSaidOperation (all_of (map value_of values)) _ (each_said IsLegalValue value_of value_said values) (λ others all.
    if_chosen IsSaidOperation (may_have what others) (Some (record { op = what; table = name; key = number; values = others })) None (record { key = room; values = all }) tt))))

site_line_said : (words : List Word) → IfSome (site_line words) IsSaid
unfolding site_line
site_line_said [] = tt
site_line_said (a ∷ []) = tt
site_line_said (a ∷ b ∷ []) = tt
site_line_said (a ∷ b ∷ c ∷ []) = tt
site_line_said (a ∷ b ∷ c ∷ d ∷ []) = tt
site_line_said (a ∷ b ∷ c ∷ d ∷ e ∷ []) = tt
site_line_said (a ∷ b ∷ c ∷ d ∷ e ∷ f ∷ []) = tt
site_line_said (a ∷ b ∷ c ∷ d ∷ e ∷ f ∷ g ∷ h ∷ words) = tt
site_line_said (a ∷ b ∷ c ∷ d ∷ e ∷ f ∷ g ∷ []) =
    if_bound (λ x. ⊤) IsSaid (site_of a) _ (if_any (site_of a)) (λ id _.
    if_bound (λ x. ⊤) IsSaid (small_number_of c) _ (if_any (small_number_of c)) (λ in_groups _.
    if_bound (λ x. ⊤) IsSaid (small_number_of e) _ (if_any (small_number_of e)) (λ of_nodes _.
    if_bound (λ x. ⊤) IsSaid (number_of g) _ (if_any (number_of g)) (λ rotation _.
    if_chosen IsSaid (is_word (codes "groups") b && is_word (codes "replicas") d && is_word (codes "limit") f) (Some (SiteLine id in_groups of_nodes rotation)) None tt tt))))

table_line_said : (words : List Word) → IfSome (table_line words) IsSaid
unfolding table_line
table_line_said [] = tt
table_line_said (name ∷ types) =
    if_bound (λ name. length name ≤ 32) IsSaid (name_of name) _ (name_said name) (λ table few.
    if_bound (AllByRecursion IsLegalColumn) IsSaid (all_of (map type_of types)) _ (columns_said types) (λ columns all. (few, all)))

tx_line_said : (words : List Word) → IfSome (tx_line words) IsSaid
unfolding tx_line
tx_line_said [] = tt
tx_line_said (site ∷ words) =
    let parts = slice_split (is_word (codes ";")) words in
    let said = each_said IsSaidOperation operation_of operation_said parts in
    let counted = each_counted (map operation_of parts) in
    if_bound (λ site. site ≡ A) IsSaid (site_of site) _ (site_said site) (λ id is.
    if_bound (λ all. AllByRecursion IsSaidOperation all × (length all ≡ length (map operation_of parts))) IsSaid (all_of (map operation_of parts)) _
    (if_both (AllByRecursion IsSaidOperation) (λ all. length all ≡ length (map operation_of parts)) (all_of (map operation_of parts)) said counted)
    (λ operations both. (is, omega (arith, both.1, length-map parts operation_of, length-slice_split (is_word (codes ";")) words), both.0)))

site_event_said : (event : SiteId → Event) → ((site : SiteId) → site ≡ A → ((tables : List Schema) (nodes : ℕ) → option_map_or (nat_le nodes) (node_in (event site)) false ≡ false → IsLegalEvent tables nodes (event site)) × (changes_in_event (event site) ≡ 0)) → (words : List Word) → IfSome (site_event event words) IsSaid
unfolding site_event
site_event_said event legal [] = tt
site_event_said event legal (site ∷ []) = if_mapped (λ site. site ≡ A) IsSaid (λ id. EventLine (event id)) (site_of site) (site_said site) legal
site_event_said event legal (site ∷ next ∷ words) = tt

deliver_line_said : (words : List Word) → IfSome (deliver_line words) IsSaid
unfolding deliver_line
deliver_line_said [] = tt
deliver_line_said (site ∷ []) = tt
deliver_line_said (site ∷ what ∷ next ∷ words) = tt
deliver_line_said (site ∷ what ∷ []) =
    if_bound (λ site. site ≡ A) IsSaid (site_of site) _ (site_said site) (λ id is.
    if_chosen IsSaid (is_word (codes "all") what) (Some (EventLine (events.DeliverAll id))) (option_map (λ place. EventLine (events.Deliver id place)) (number_of what))
    ((λ tables nodes within. is), refl) (if_mapped (λ x. ⊤) IsSaid (λ place. EventLine (events.Deliver id place)) (number_of what) (if_any (number_of what)) (λ place _. ((λ tables nodes within. is), refl))))

node_event_said : (event : SiteId → ℕ → Event) → ((site : SiteId) (node : ℕ) → site ≡ A → ((tables : List Schema) (nodes : ℕ) → option_map_or (nat_le nodes) (node_in (event site node)) false ≡ false → IsLegalEvent tables nodes (event site node)) × (changes_in_event (event site node) ≡ 0)) →
    (words : List Word) → IfSome (node_event event words) IsSaid
unfolding node_event
node_event_said event legal [] = tt
node_event_said event legal (site ∷ []) = tt
node_event_said event legal (site ∷ node ∷ next ∷ words) = tt
node_event_said event legal (site ∷ node ∷ []) =
    if_bound (λ site. site ≡ A) IsSaid (site_of site) _ (site_said site) (λ id is.
    if_bound (λ x. ⊤) IsSaid (small_number_of node) _ (if_any (small_number_of node)) (λ number _. legal id number is))

form_from_said : (first : Word) (words : List Word) → IfSome (form_from first words) IsSaid
unfolding form_from
form_from_said first words =
    if_chosen IsSaid (is_word (codes "site") first) (site_line words) _ (site_line_said words)
    (if_chosen IsSaid (is_word (codes "table") first) (table_line words) _ (table_line_said words)
    (if_chosen IsSaid (is_word (codes "tx") first) (tx_line words) _ (tx_line_said words)
    (if_chosen IsSaid (is_word (codes "epoch") first) (site_event (λ site. events.Close site false) words) _ (site_event_said (λ site. events.Close site false) (λ site is. ((λ tables nodes within. is), refl)) words)
    (if_chosen IsSaid (is_word (codes "gcp") first) (site_event (λ site. events.Close site true) words) _ (site_event_said (λ site. events.Close site true) (λ site is. ((λ tables nodes within. is), refl)) words)
    (if_chosen IsSaid (is_word (codes "deliver") first) (deliver_line words) _ (deliver_line_said words)
    (if_chosen IsSaid (is_word (codes "inject") first) (site_event (λ site. events.Inject site) words) _ (site_event_said (λ site. events.Inject site) (λ site is. ((λ tables nodes within. is), refl)) words)
    (if_chosen IsSaid (is_word (codes "log") first) (site_event (λ site. events.Log site) words) _ (site_event_said (λ site. events.Log site) (λ site is. ((λ tables nodes within. is), refl)) words)
    (if_chosen IsSaid (is_word (codes "fail") first) (node_event (λ site node. events.Fail site node) words) _ (node_event_said (λ site node. events.Fail site node) (λ site node is. ((λ tables nodes within. (is, leb-false nodes node within)), refl)) words)
    (if_chosen IsSaid (is_word (codes "restart") first) (node_event (λ site node. events.Restart site node) words) _ (node_event_said (λ site node. events.Restart site node) (λ site node is. ((λ tables nodes within. (is, leb-false nodes node within)), refl)) words)
    (if_chosen IsSaid (is_word (codes "resend") first) (site_event (λ site. events.Resend site) words) _ (site_event_said (λ site. events.Resend site) (λ site is. ((λ tables nodes within. is), refl)) words)
    (if_chosen IsSaid (is_word (codes "injector") first) (site_event (λ site. events.Injector site) words) None (site_event_said (λ site. events.Injector site) (λ site is. ((λ tables nodes within. is), refl)) words) tt)))))))))))

form_said : (words : List Word) → IfSome (form_of words) IsSaid
unfolding form_of
form_said [] = tt
form_said (first ∷ words) = form_from_said first words

-- the form of a line, if it has one, is one that a line can write
abbrev pub IsSaidBy : LineMeaning → Type 0
IsSaidBy Wrong = ⊤
IsSaidBy Skipped = ⊤
IsSaidBy (Says form) = IsSaid form

pub reading_said : (line : List ℕ) → IsSaidBy (reading_of line)
unfolding reading_of
reading_said line = pick (list_all is_line_byte line) (is_skipped line) (words_of line >>= form_of) (if_bound (λ x. ⊤) IsSaid (words_of line) form_of (if_any (words_of line)) (λ words _. form_said words))
  where
    said : (form : Option Form) → IfSome form IsSaid → IsSaidBy (says form)
    said None here = tt
    said (Some form) here = here

    pick : (all skipped : Bool) (form : Option Form) → IfSome form IsSaid → IsSaidBy (if all then (if skipped then Skipped else says form) else Wrong)
    pick false skipped form here = tt
    pick true true form here = tt
    pick true false form here = said form here
