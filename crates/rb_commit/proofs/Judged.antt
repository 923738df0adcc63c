-- A transaction that is judged operation by operation: what is left to judge decides.
use Rattle.std.proofs.Common.{◌≡◌, ℕ, suc, ◌+◌, ◌<◌, Bool, true, false, if◌then◌else◌, List, [], ◌∷◌, ◌++◌, length, get_or, take, drop, filter_map, Option, Some, None, option_map, refl, sym, ap, ◌∙◌, add-one}
use Rattle.std.specs.List.{list_any, enumerate_from, cons_option}
use Rattle.std.specs.Option.{option_or}
use Rattle.std.proofs.Math.Seq.{drop-cons}
use Rattle.std.proofs.lemmas.List.{take_more, map-append}
use Rattle.rb_base.specs.declared.row.Row.{Row}
use Rattle.rb_base.specs.declared.script.ClientOp.{ClientOp}
use Rattle.rb_journal_defs.specs.Transaction.{Refusal, RowTwice, is_same_row, refused_over, refusal_after, first_of, refusal_of, change_over, changes_made}

-- the refusals among those that are left, from this number on
abbrev pub refusals_left : (rows : ℕ → ℕ → Option Row) (all : List ClientOp) (number : ℕ) → List ClientOp → List Refusal
refusals_left rows all number left = filter_map (λ numbered. refusal_after rows (take numbered.0 all) numbered.0 numbered.1) (enumerate_from number left)

-- the first of them
abbrev pub first_left : (rows : ℕ → ℕ → Option Row) (all : List ClientOp) (number : ℕ) → Option Refusal
first_left rows all number = first_of (refusals_left rows all number (drop number all))

-- before the first operation
pub all_left : (rows : ℕ → ℕ → Option Row) (all : List ClientOp) → first_left rows all 0 ≡ refusal_of rows all
unfolding refusal_of
all_left rows all = refl

first_cons : (reason : Option Refusal) (rest : List Refusal) → first_of (cons_option reason rest) ≡ option_or reason (first_of rest)
first_cons None rest = refl
first_cons (Some reason) rest = refl

-- one operation, and then those after it
step : (rows : ℕ → ℕ → Option Row) (all : List ClientOp) (i : ℕ) (operation : ClientOp) → i < length all → operation ≡ get_or all i operation
    → first_left rows all i ≡ option_or (refusal_after rows (take i all) i operation) (first_left rows all (i + 1))
step rows all i operation within is =
    ap (λ left. first_of (refusals_left rows all i left)) (drop-cons all i operation within ∙ ap (λ at. at ∷ drop (suc i) all) (sym is) ∙ ap (λ n. operation ∷ drop n all) (sym (add-one i)))
    ∙ first_cons (refusal_after rows (take i all) i operation) (refusals_left rows all (i + 1) (drop (i + 1) all))

-- an operation that names a row twice decides
pub row_twice : (rows : ℕ → ℕ → Option Row) (all : List ClientOp) (i : ℕ) (operation : ClientOp) → i < length all → operation ≡ get_or all i operation → first_left rows all i ≡ refusal_of rows all
    → list_any (is_same_row operation) (take i all) ≡ true → refusal_of rows all ≡ Some (RowTwice i)
row_twice rows all i operation within is judged named =
    sym judged ∙ step rows all i operation within is
    ∙ ap (λ (b : Bool). option_or (if b then Some (RowTwice i) else refused_over i operation.op (rows operation.table operation.key)) (first_left rows all (i + 1))) named

-- one that names a new row decides if it is refused; otherwise those after it decide
pub new_row : (rows : ℕ → ℕ → Option Row) (all : List ClientOp) (i : ℕ) (operation : ClientOp) → i < length all → operation ≡ get_or all i operation → first_left rows all i ≡ refusal_of rows all
    → list_any (is_same_row operation) (take i all) ≡ false → refusal_of rows all ≡ option_or (refused_over i operation.op (rows operation.table operation.key)) (first_left rows all (i + 1))
new_row rows all i operation within is judged named =
    sym judged ∙ step rows all i operation within is
    ∙ ap (λ (b : Bool). option_or (if b then Some (RowTwice i) else refused_over i operation.op (rows operation.table operation.key)) (first_left rows all (i + 1))) named

-- a fault that represents what decides represents the whole
pub decides : {X : Type 0} (f : Refusal → X) (whole reason rest : Option Refusal) (fault : X) → whole ≡ option_or reason rest → Some fault ≡ option_map f reason → option_map f whole ≡ Some fault
decides f whole None rest fault same is = absurd cc
decides f whole (Some reason) rest fault same is = ap (option_map f) same ∙ sym is

-- if an operation is not refused, those after it decide
pub passes : {X : Type 0} (f : Refusal → X) (whole reason rest : Option Refusal) → whole ≡ option_or reason rest → None ≡ option_map f reason → rest ≡ whole
passes f whole None rest same none = sym same
passes f whole (Some reason) rest same none = absurd cc

-- one more change
pub one_made : (rows : ℕ → ℕ → Option Row) (author transid : ℕ) (all : List ClientOp) (i : ℕ) (operation : ClientOp) → i < length all → operation ≡ get_or all i operation
    → changes_made rows author transid (take (i + 1) all) ≡ changes_made rows author transid (take i all) ++ change_over author transid (rows operation.table operation.key) operation ∷ []
unfolding changes_made
one_made rows author transid all i operation within is =
    ap (changes_made rows author transid) (take_more all i operation within ∙ ap (λ at. take i all ++ at ∷ []) (sym is))
    ∙ map-append (λ (made : ClientOp). change_over author transid (rows made.table made.key) made) (take i all) (operation ∷ [])

pub none_made : (rows : ℕ → ℕ → Option Row) (author transid : ℕ) → changes_made rows author transid [] ≡ []
unfolding changes_made
none_made rows author transid = refl
