-- What a reading says of the whole log, from the bytes that it read.
use Rattle.std.proofs.Common.{◌≡◌, inl, inr, ℕ, ◌+◌, ◌-◌, ◌≤◌, true, List, ◌++◌, length, take, refl, sym, ap, subst, ◌∙◌, arith, length-append}
use Rattle.std.specs.Prelude.{nat_lt, Option, Some, None, is_some, IfSome}
use Rattle.std.specs.Option.{option_or}
use Rattle.std.proofs.lemmas.Bool.{lt-ltb, le-ltb, cases_lt}
use Rattle.std.proofs.lemmas.List.{take-append-le, take_all}
use Rattle.std.proofs.Math.Seq.{take-append-add}
use Rattle.rb_base.specs.declared.faults.Field.{Field}
use Rattle.rb_read_defs.specs.Stream.{Seen, seen_of}
use Rattle.rb_read_defs.proofs.Growing.{seen_more}
use Rattle.rb_top.specs.ReadLog.{bad_within, bad_event_of, HasMetBadEvent}
use Rattle.rb_top.specs.ReadLoop.{LeavesReadingFault}
use Rattle.rb_top.specs.declared.fault.ReadLogFault.{ReadLogFault}
use Rattle.rb_top.specs.declared.fault.ReadLogFault.TheVariants as faults
use Rattle.rb_top.specs.declared.status.Status.{Status}
use Rattle.rb_top.specs.declared.status.Status.TheVariants as statuses

-- the first bytes of more
pub prefix_of : (most : ℕ) (bytes more : List ℕ) → length bytes ≤ most → take most (bytes ++ more) ≡ bytes ++ take (most - length bytes) more
prefix_of most bytes more within =
    let whole : length bytes + (most - length bytes) ≡ most = omega arith in
    ap (λ (n : ℕ). take n (bytes ++ more)) (sym whole) ∙ take-append-add bytes more (most - length bytes)

-- a bad event among the first bytes is the first one of more
seen_bad : (bytes more : List ℕ) (x : ℕ × Field) → (seen_of 0 bytes).fault ≡ Some x → (seen_of 0 (bytes ++ more)).fault ≡ Some x
seen_bad bytes more x is =
    let same = (seen_more 0 bytes more).1 (ap is_some is) in
    ap (λ (s : Seen). s.fault) same ∙ is

or_none : (o : Option (ℕ × Field)) → option_or o None ≡ o
or_none None = refl
or_none (Some x) = refl

-- the first bad event stays so, whatever stands after
bad_more : (most : ℕ) (bytes more : List ℕ) (x : ℕ × Field) → bad_within most bytes ≡ Some x → bad_within most (bytes ++ more) ≡ Some x
unfolding bad_within
bad_more most bytes more x is = elim (cases_lt most (length bytes)) [
  | inl long ↦
      let l = length-append bytes more in
      let is_long : nat_lt most (length bytes) ≡ true = lt-ltb most (length bytes) long in
      rw (take-append-le most bytes more (omega arith), lt-ltb most (length (bytes ++ more)) (omega arith)) (rw is_long at is)
  | inr within ↦
      let bad : (seen_of 0 bytes).fault ≡ Some x = sym (or_none (seen_of 0 bytes).fault) ∙ (rw (take_all most bytes within, le-ltb most (length bytes) within) at is) in
      rw (prefix_of most bytes more within, seen_bad bytes (take (most - length bytes) more) x bad) refl
]

-- the bad event that a reading met is the first one of the log
pub named_bad_event : (most at : ℕ) (field : Field) (lo ln ho hn : Option (List ℕ)) → HasMetBadEvent most at field lo ln ho hn → IfSome lo (λ bytes. bad_within most bytes ≡ Some (at, field))
named_bad_event most at field None ln ho hn met = tt
named_bad_event most at field (Some xs) None ho hn met = absurd met.read
named_bad_event most at field (Some xs) (Some ys) ho hn met = ap (bad_within most) met.read ∙ bad_more most met.bytes ys (at, field) met.bad

-- what the fault says
pub met_by : (most : ℕ) (lo ln ho hn : Option (List ℕ)) (fault : ReadLogFault) (at : ℕ) (field : Field) → fault ≡ faults.BadLog at field → LeavesReadingFault most lo ln ho hn fault → HasMetBadEvent most at field lo ln ho hn
met_by most lo ln ho hn fault at field is left = subst (λ (f : ReadLogFault). LeavesReadingFault most lo ln ho hn f) is left

-- the bad event that a status names
event_in : Status → Option (ℕ × Field)
event_in (statuses.BadLog at field) = Some (at, field)
event_in status = None

status_in : Option (ℕ × Field) → Status
status_in (Some event) = statuses.BadLog event.0 event.1
status_in None = statuses.Done

-- a status that names a bad event names the first one
pub named_so : (lo : Option (List ℕ)) (at other : ℕ) (field wrong : Field) → statuses.BadLog at field ≡ statuses.BadLog other wrong → IfSome lo (λ bytes. bad_event_of bytes ≡ Some (at, field)) → IfSome lo (λ bytes. bad_event_of bytes ≡ Some (other, wrong))
unfolding event_in
named_so lo at other field wrong is named = subst (λ (o : Option (ℕ × Field)). IfSome lo (λ bytes. bad_event_of bytes ≡ o)) (ap event_in is) named

-- what is said of a source's bytes
of_bytes : (P : List ℕ → Type 0) (left : Option (List ℕ)) (bytes : List ℕ) → IfSome left P → left ≡ Some bytes → P bytes
of_bytes P left bytes reported is = subst (λ (o : Option (List ℕ)). IfSome o P) is reported

-- a log has one first bad event
pub one_bad : (lo : Option (List ℕ)) (bytes : List ℕ) (at other : ℕ) (field wrong : Field) → IfSome lo (λ bytes. bad_event_of bytes ≡ Some (at, field)) → lo ≡ Some bytes → bad_event_of bytes ≡ Some (other, wrong) → statuses.BadLog at field ≡ statuses.BadLog other wrong
unfolding status_in
one_bad lo bytes at other field wrong named is bad = ap status_in (sym (of_bytes (λ bytes. bad_event_of bytes ≡ Some (at, field)) lo bytes named is) ∙ bad)

-- a sound log has none
pub none_bad : (lo : Option (List ℕ)) (bytes : List ℕ) (at : ℕ) (field : Field) → IfSome lo (λ bytes. bad_event_of bytes ≡ Some (at, field)) → lo ≡ Some bytes → bad_event_of bytes ≡ None → ⊥
none_bad lo bytes at field named is sound =
    let no : ◌≡◌ {A = Option (ℕ × Field)} None (Some (at, field)) = sym sound ∙ of_bytes (λ bytes. bad_event_of bytes ≡ Some (at, field)) lo bytes named is in
    absurd cc
