-- The apply-status rows of an epoch, one row at a time.
use Rattle.std.proofs.Common.{◌≡◌, ◌⊎◌, inl, inr, ℕ, suc, ◌+◌, ◌<◌, ◌≤◌, Bool, true, false, List, [], ◌∷◌, ◌++◌, length, length-append, take, drop, get_or, drop-cons, map, filter, Option, Some, None, refl, sym, ap, ap₂, subst, ◌∙◌, arith, append_assoc}
use Rattle.std.specs.Prelude.{nat_le, ◌&&◌, not, if◌then◌else◌, is_some, option_to_list}
use Rattle.std.proofs.Math.Seq.{take-suc}
use Rattle.std.proofs.lemmas.Bool.{lt-leb}
use Rattle.std.proofs.lemmas.List.{take-append-drop, map-append}
use Rattle.rb_read_defs.specs.Stream.{is_own, own_rows, other_rows, is_single}
use Rattle.rb_read_defs.specs.declared.answers.StatusRow.{StatusRow}
use Rattle.rb_stream.specs.declared.epoch_status.EpochStatus.{EpochStatus}
use Rattle.rb_stream.specs.EpochStatus.{HoldsStatus, status_with}

-- the rows that pass a test
abbrev pub rows_that : (ℕ × StatusRow → Bool) → List (ℕ × StatusRow) → List StatusRow
rows_that test rows = map (λ pair. pair.1) (filter test rows)

that_append : (test : ℕ × StatusRow → Bool) (xs ys : List (ℕ × StatusRow)) → rows_that test (xs ++ ys) ≡ rows_that test xs ++ rows_that test ys
that_append test [] ys = refl
that_append test (x ∷ xs) ys = go (test x) (that_append test xs ys)
  where
    go : (b : Bool) → rows_that test (xs ++ ys) ≡ rows_that test xs ++ rows_that test ys →
        map (λ pair. pair.1) (if b then x ∷ filter test (xs ++ ys) else filter test (xs ++ ys)) ≡ map (λ pair. pair.1) (if b then x ∷ filter test xs else filter test xs) ++ rows_that test ys
    go true rest = ap (λ (rows : List StatusRow). x.1 ∷ rows) rest
    go false rest = rest

-- a row in between that does not pass
that_passed_over : (test : ℕ × StatusRow → Bool) (xs ys : List (ℕ × StatusRow)) (pair : ℕ × StatusRow) → test pair ≡ false → rows_that test (xs ++ pair ∷ ys) ≡ rows_that test (xs ++ ys)
that_passed_over test xs ys pair is = that_append test xs (pair ∷ ys) ∙ ap (λ (rows : List StatusRow). rows_that test xs ++ rows) (rw is refl) ∙ sym (that_append test xs ys)

-- a row in between that passes, if no other row does
that_only : (test : ℕ × StatusRow → Bool) (xs ys : List (ℕ × StatusRow)) (pair : ℕ × StatusRow) → test pair ≡ true → [] ≡ rows_that test (xs ++ ys) → pair.1 ∷ [] ≡ rows_that test (xs ++ pair ∷ ys)
that_only test xs ys pair is none =
    let (left, right) = both (rows_that test xs) (rows_that test ys) (none ∙ that_append test xs ys) in
    sym (that_append test xs (pair ∷ ys) ∙ ap₂ (λ (front following : List StatusRow). front ++ following) left (rw is (ap (λ (rows : List StatusRow). pair.1 ∷ rows) right)))
  where
    both : (front following : List StatusRow) → [] ≡ front ++ following → (front ≡ []) × (following ≡ [])
    both [] following is = (refl, sym is)
    both (row ∷ front) following is = absurd (let no : ◌≡◌ {A = List StatusRow} [] (row ∷ (front ++ following)) = is in cc)

-- a row in between that passes, if another row does too
that_second : (test : ℕ × StatusRow → Bool) (xs ys zs : List (ℕ × StatusRow)) (pair : ℕ × StatusRow) (row : StatusRow) → test pair ≡ true → row ∷ [] ≡ rows_that test (xs ++ ys) → 2 ≤ length (rows_that test (xs ++ pair ∷ (zs ++ ys)))
that_second test xs ys zs pair row is one =
    let all = that_append test xs (pair ∷ (zs ++ ys)) ∙ ap (λ (rows : List StatusRow). rows_that test xs ++ rows) (rw is (ap (λ (rows : List StatusRow). pair.1 ∷ rows) (that_append test zs ys))) in
    let size = ap length all ∙ length-append (rows_that test xs) (pair.1 ∷ (rows_that test zs ++ rows_that test ys)) in
    let before = ap length (one ∙ that_append test xs ys) ∙ length-append (rows_that test xs) (rows_that test ys) in
    let following = length-append (rows_that test zs) (rows_that test ys) in
    grown (length (rows_that test (xs ++ pair ∷ (zs ++ ys)))) (length (rows_that test xs)) (length (rows_that test zs)) (length (rows_that test ys)) (size ∙ ap (λ (n : ℕ). length (rows_that test xs) + suc n) following) before
  where
    grown : (all left middle right : ℕ) → all ≡ left + suc (middle + right) → 1 ≡ left + right → 2 ≤ all
    grown all left middle right is one = omega arith

-- each row is either an own row or another's
is_other : ℕ × StatusRow → Bool
is_other pair = not (is_own pair)

not_single : (rows : List (ℕ × StatusRow)) → (2 ≤ length (own_rows rows)) ⊎ (2 ≤ length (other_rows rows)) → is_single rows ≡ false
not_single rows (inl many) = rw (lt-leb (length (own_rows rows)) 1 (omega arith)) refl
not_single rows (inr many) = rw (lt-leb (length (other_rows rows)) 1 (omega arith)) (go (nat_le (length (own_rows rows)) 1))
  where
    go : (b : Bool) → (b && false) ≡ false
    go true = refl
    go false = refl

-- at most one of these rows is an own row, and at most one is another's
pub status_single : (epoch_status : EpochStatus) (rows : List (ℕ × StatusRow)) → HoldsStatus epoch_status rows → is_single rows ≡ true
status_single epoch_status rows tells = rw (sym tells.own, sym tells.other) (go epoch_status.own epoch_status.other)
  where
    go : (own other : Option StatusRow) → (nat_le (length (option_to_list own)) 1 && nat_le (length (option_to_list other)) 1) ≡ true
    go None None = refl
    go None (Some row) = refl
    go (Some row) None = refl
    go (Some row) (Some second) = refl

-- one more row, between these rows and the earlier ones
abbrev pub IsStatusWith : Option EpochStatus → (ℕ × StatusRow) → (xs ys : List (ℕ × StatusRow)) → Type 0
IsStatusWith (Some epoch_status) pair xs ys = HoldsStatus epoch_status (xs ++ pair ∷ ys)
IsStatusWith None pair xs ys = (zs : List (ℕ × StatusRow)) → is_single (xs ++ pair ∷ (zs ++ ys)) ≡ false

one_status : (epoch_status : EpochStatus) (pair : ℕ × StatusRow) (xs ys : List (ℕ × StatusRow)) → HoldsStatus epoch_status (xs ++ ys) → IsStatusWith (status_with epoch_status pair) pair xs ys
unfolding is_other
one_status epoch_status pair xs ys tells = go (is_own pair) refl epoch_status.own refl epoch_status.other refl
  where
    go : (b : Bool) → is_own pair ≡ b → (own : Option StatusRow) → epoch_status.own ≡ own → (other : Option StatusRow) → epoch_status.other ≡ other →
        IsStatusWith (if b then (if is_some own then None else Some (record { own = Some pair.1; other = other })) else (if is_some other then None else Some (record { own = own; other = Some pair.1 }))) pair xs ys
    go true is None mine other theirs = record {
      own = that_only is_own xs ys pair is (sym (ap option_to_list mine) ∙ tells.own);
      other = sym (ap option_to_list theirs) ∙ tells.other ∙ sym (that_passed_over is_other xs ys pair (rw is refl));
    }
    go true is (Some row) mine other theirs = λ zs. not_single (xs ++ pair ∷ (zs ++ ys)) (inl (that_second is_own xs ys zs pair row is (sym (ap option_to_list mine) ∙ tells.own)))
    go false is own mine None theirs = record {
      own = sym (ap option_to_list mine) ∙ tells.own ∙ sym (that_passed_over is_own xs ys pair is);
      other = that_only is_other xs ys pair (rw is refl) (sym (ap option_to_list theirs) ∙ tells.other);
    }
    go false is own mine (Some row) theirs = λ zs. not_single (xs ++ pair ∷ (zs ++ ys)) (inr (that_second is_other xs ys zs pair row (rw is refl) (sym (ap option_to_list theirs) ∙ tells.other)))

-- a row of an event of this server
abbrev pub by_server : (server : ℕ) → StatusRow → ℕ × StatusRow
by_server server row = (server, row)

taken : (server i : ℕ) (rows : List StatusRow) (d : StatusRow) (before : List (ℕ × StatusRow)) → i < length rows →
    map (by_server server) (take i rows) ++ ((server, get_or rows i d) ∷ before) ≡ map (by_server server) (take (i + 1) rows) ++ before
taken server i rows d before lt =
    let next : take (i + 1) rows ≡ take i rows ++ get_or rows i d ∷ [] = ap (λ (n : ℕ). take n rows) (let e : i + 1 ≡ suc i = omega arith in e) ∙ take-suc rows i d lt in
    sym (ap (λ (all : List StatusRow). map (by_server server) all ++ before) next
    ∙ ap (λ (all : List (ℕ × StatusRow)). all ++ before) (map-append (by_server server) (take i rows) (get_or rows i d ∷ []))
    ∙ append_assoc (map (by_server server) (take i rows)) ((server, get_or rows i d) ∷ []) before)

left : (server i : ℕ) (rows : List StatusRow) (d : StatusRow) (before : List (ℕ × StatusRow)) → i < length rows →
    map (by_server server) (take i rows) ++ ((server, get_or rows i d) ∷ (map (by_server server) (drop (suc i) rows) ++ before)) ≡ map (by_server server) rows ++ before
left server i rows d before lt =
    let whole : rows ≡ take i rows ++ get_or rows i d ∷ drop (suc i) rows = sym (take-append-drop i rows) ∙ ap (λ (rest : List StatusRow). take i rows ++ rest) (drop-cons rows i d lt) in
    sym (ap (λ (all : List StatusRow). map (by_server server) all ++ before) whole
    ∙ ap (λ (all : List (ℕ × StatusRow)). all ++ before) (map-append (by_server server) (take i rows) (get_or rows i d ∷ drop (suc i) rows))
    ∙ append_assoc (map (by_server server) (take i rows)) (map (by_server server) (get_or rows i d ∷ drop (suc i) rows)) before)

pub next_row : (epoch_status more : EpochStatus) (server i : ℕ) (rows : List StatusRow) (d : StatusRow) (before : List (ℕ × StatusRow)) → i < length rows → HoldsStatus epoch_status (map (by_server server) (take i rows) ++ before) →
    status_with epoch_status (server, get_or rows i d) ≡ Some more → HoldsStatus more (map (by_server server) (take (i + 1) rows) ++ before)
next_row epoch_status more server i rows d before lt tells is =
    subst (λ (all : List (ℕ × StatusRow)). HoldsStatus more all) (taken server i rows d before lt)
    (subst (λ (o : Option EpochStatus). IsStatusWith o (server, get_or rows i d) (map (by_server server) (take i rows)) before) is (one_status epoch_status (server, get_or rows i d) (map (by_server server) (take i rows)) before tells))

pub no_row : (epoch_status : EpochStatus) (server i : ℕ) (rows : List StatusRow) (d : StatusRow) (before : List (ℕ × StatusRow)) → i < length rows → HoldsStatus epoch_status (map (by_server server) (take i rows) ++ before) →
    status_with epoch_status (server, get_or rows i d) ≡ None → is_single (map (by_server server) rows ++ before) ≡ false
no_row epoch_status server i rows d before lt tells is =
    subst (λ (all : List (ℕ × StatusRow)). is_single all ≡ false) (left server i rows d before lt)
    (subst (λ (o : Option EpochStatus). IsStatusWith o (server, get_or rows i d) (map (by_server server) (take i rows)) before) is (one_status epoch_status (server, get_or rows i d) (map (by_server server) (take i rows)) before tells) (map (by_server server) (drop (suc i) rows)))
