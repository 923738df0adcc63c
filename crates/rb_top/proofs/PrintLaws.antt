-- The text of a log as it is read, piece by piece.
use Rattle.std.proofs.Common.{◌≡◌, inl, inr, ℕ, ◌+◌, ◌-◌, ◌<◌, ◌≤◌, List, [], ◌∷◌, ◌++◌, length, take, refl, sym, ap, subst, ◌∙◌, arith, append_assoc, append-nil, length-append}
use Rattle.std.specs.Prelude.{Option, Some, None, Result, Ok, Err, IfErr, IsErrOf, OnOk}
use Rattle.std.specs.Result.{IsErrAnd}
use Rattle.std.specs.List.{flat_map}
use Rattle.std.specs.Option.{option_or}
use Rattle.std.specs.Io.KnownBytes.{Appends, Consumes, IsAtEnd, Keeps}
use Rattle.std.proofs.lemmas.Bool.{lt-ltb, le-ltb}
use Rattle.std.proofs.lemmas.Grind.{flat_map-append}
use Rattle.std.proofs.lemmas.List.{take-append-le, take_all}
use Rattle.std.proofs.Math.Seq.{take-append-add}
use Rattle.rb_base.specs.declared.faults.Field.{Field}
use Rattle.rb_base.specs.declared.faults.Field.TheVariants as fields
use Rattle.rb_base.specs.declared.faults.OutFault.{OutFault}
use Rattle.rb_base.specs.declared.faults.OutFault.TheVariants as outs
use Rattle.rb_base.specs.Faults.{Rose}
use Rattle.rb_io.specs.Prefix.{GrowsByPrefix}
use Rattle.rb_io.proofs.Known.{appends_more, consumes_more}
use Rattle.rb_read_defs.specs.Stream.{Known, seen_of, steps_of, rest_after}
use Rattle.rb_read_defs.specs.declared.answers.Step.{Step}
use Rattle.rb_read_defs.proofs.Growing.{steps_more}
use Rattle.rb_stream.specs.Decoder.{StandsFor}
use Rattle.rb_stream.specs.declared.decoder.Decoder.{Decoder}
use Rattle.rb_text_defs.specs.LogText.{rest_line}
use Rattle.rb_top.specs.ReadLog.{title_line, step_text, printed_steps, printed_text_of, read_text_of, bad_within, HasReadLog, HasMetBadEvent, HasReadPrefix}
use Rattle.rb_top.specs.ReadLoop.{LeavesReadingFault, read_fault_of, IsFed, HasTakenAll, HasPrintedSoFar}
use Rattle.rb_top.specs.declared.fault.ReadLogFault.{ReadLogFault}
use Rattle.rb_top.specs.declared.fault.ReadLogFault.TheVariants as faults
use Rattle.rb_top.proofs.ReadLaws.{prefix_of}

-- the text of more steps
printed_more : (first more : List Step) → printed_steps (first ++ more) ≡ printed_steps first ++ flat_map step_text more
unfolding printed_steps
printed_more first more = ap (λ (t : List ℕ). title_line ++ t) (flat_map-append step_text first more) ∙ sym (append_assoc title_line (flat_map step_text first) (flat_map step_text more))

-- what was written whole is a prefix of it
whole_prefix : (a b : Option (List ℕ)) (xs : List ℕ) → Appends a b xs → GrowsByPrefix a b xs
whole_prefix a b xs all = (length xs, omega arith, subst (λ (l : List ℕ). Appends a b l) (sym (take_all (length xs) xs (omega arith))) all)

-- a prefix of some bytes is one of more bytes
prefix_more : (a b : Option (List ℕ)) (xs ys : List ℕ) → GrowsByPrefix a b xs → GrowsByPrefix a b (xs ++ ys)
prefix_more a b xs ys (n, within, all) =
    (n, let l = length-append xs ys in omega arith, subst (λ (l : List ℕ). Appends a b l) (sym (take-append-le n xs ys within)) all)

-- some bytes, and a prefix of those after them
front_after : (a b c : Option (List ℕ)) (xs ys : List ℕ) → Appends a b xs → GrowsByPrefix b c ys → GrowsByPrefix a c (xs ++ ys)
front_after a b c xs ys first (n, within, all) =
    (length xs + n, let l = length-append xs ys in omega arith, subst (λ (l : List ℕ). Appends a c l) (sym (take-append-add xs ys n)) (appends_more a b c xs (take n ys) first all))

-- nothing more is consumed
consumes_kept : (a b c : Option (List ℕ)) (xs : List ℕ) → Consumes a b xs → Keeps b c → Consumes a c xs
consumes_kept None b c xs p kept = tt
consumes_kept (Some x) None c xs p kept = absurd p
consumes_kept (Some x) (Some y) None xs p kept = absurd kept
consumes_kept (Some x) (Some y) (Some z) xs p kept = p ∙ ap (λ (l : List ℕ). xs ++ l) (sym kept)

consumes_none : (a : Option (List ℕ)) → Consumes a a []
consumes_none None = tt
consumes_none (Some x) = refl

keeps_nothing : (a : Option (List ℕ)) (xs : List ℕ) → GrowsByPrefix a a xs
keeps_nothing None xs = (0, omega arith, tt)
keeps_nothing (Some x) xs = (0, omega arith, sym (append-nil x))

-- a log of more bytes begins with the text of the first ones
printed_prefix : (bytes more : List ℕ) (a b : Option (List ℕ)) → GrowsByPrefix a b (printed_text_of bytes) → GrowsByPrefix a b (printed_text_of (bytes ++ more))
printed_prefix bytes more a b front =
    let (later, is) = steps_more 0 bytes more in
    subst (λ (t : List ℕ). GrowsByPrefix a b t) (sym (ap printed_steps is ∙ printed_more (steps_of (seen_of 0 bytes).known) later))
    (prefix_more a b (printed_text_of bytes) (flat_map step_text later) front)

-- what was read is a prefix, if nothing of the last line is written
part : (most : ℕ) (lo ln ho hn : Option (List ℕ)) (bytes : List ℕ) → Consumes lo ln bytes → GrowsByPrefix ho hn (printed_text_of (take most bytes)) → HasReadPrefix most lo ln ho hn
unfolding read_text_of
part most lo ln ho hn bytes read front = record { bytes = bytes; read = read; text = prefix_more ho hn (printed_text_of (take most bytes)) _ front; last = inr front }

-- the same, if all of it may be read
part_within : (most : ℕ) (lo ln ho hn : Option (List ℕ)) (bytes : List ℕ) → length bytes ≤ most → Consumes lo ln bytes → GrowsByPrefix ho hn (printed_text_of bytes) → HasReadPrefix most lo ln ho hn
part_within most lo ln ho hn bytes within read front =
    part most lo ln ho hn bytes read (subst (λ (b : List ℕ). GrowsByPrefix ho hn (printed_text_of b)) (sym (take_all most bytes within)) front)

-- nothing is read, and a prefix of the title is written
pub title_part : (most : ℕ) (lo ho hn : Option (List ℕ)) → GrowsByPrefix ho hn title_line → HasReadPrefix most lo lo ho hn
unfolding printed_steps
title_part most lo ho hn front = part_within most lo lo ho hn [] (omega arith) (consumes_none lo) (prefix_more ho hn title_line _ front)

-- nothing at all
pub no_part : (most : ℕ) (lo ho : Option (List ℕ)) → HasReadPrefix most lo lo ho ho
no_part most lo ho = title_part most lo ho ho (keeps_nothing ho title_line)

-- nothing was read, and the title is written
pub printed_nothing : (most : ℕ) (decoder : Decoder) (lo ho hn : Option (List ℕ)) → StandsFor decoder 0 [] [] → Appends ho hn title_line → HasPrintedSoFar most 0 decoder lo lo ho hn
unfolding seen_of steps_of printed_steps
printed_nothing most decoder lo ho hn stands title =
    record { bytes = []; read = consumes_none lo; count_is = refl; within = omega arith; stands = stands; sound = refl; text = title }

-- what was printed is what a decoder was fed
pub fed_so_far : (most count : ℕ) (decoder : Decoder) (lo ln ho hn : Option (List ℕ)) → HasPrintedSoFar most count decoder lo ln ho hn → IsFed decoder count
fed_so_far most count decoder lo ln ho hn reported = (reported.bytes, (seen_of 0 reported.bytes).known, reported.stands, reported.count_is)

-- what an error that is known leaves
pub err_leaves : {X : Type 0} (result : Result X ReadLogFault) (P : ReadLogFault → Type 0) (fault : ReadLogFault) → IsErrAnd result (λ e. e ≡ fault) → P fault → IfErr result P
err_leaves (Ok x) P fault is left = tt
err_leaves (Err e) P fault is left = subst P (sym is) left

-- a fault of the sink leaves a prefix
pub sink_leaves : (most : ℕ) (lo ln ho hn : Option (List ℕ)) (fault : OutFault) → HasReadPrefix most lo ln ho hn → LeavesReadingFault most lo ln ho hn (read_fault_of fault)
sink_leaves most lo ln ho hn outs.Failed left = left
sink_leaves most lo ln ho hn outs.NoMemory left = left

-- the read failed
pub part_unread : (most count : ℕ) (decoder : Decoder) (lo l ln ho hn : Option (List ℕ)) → HasPrintedSoFar most count decoder lo l ho hn → Keeps l ln → HasReadPrefix most lo ln ho hn
part_unread most count decoder lo l ln ho hn reported kept =
    part_within most lo ln ho hn reported.bytes (let c = reported.count_is in let w = reported.within in omega arith) (consumes_kept lo l ln reported.bytes reported.read kept) (whole_prefix ho hn (printed_text_of reported.bytes) reported.text)

-- a piece was read, and nothing of it was printed
pub prefix_unprinted : (most count : ℕ) (decoder : Decoder) (lo l ln ho hn : Option (List ℕ)) (piece : List ℕ) → HasPrintedSoFar most count decoder lo l ho hn → Consumes l ln piece → HasReadPrefix most lo ln ho hn
prefix_unprinted most count decoder lo l ln ho hn piece reported read =
    let within : length reported.bytes ≤ most = (let c = reported.count_is in let w = reported.within in omega arith) in
    part most lo ln ho hn (reported.bytes ++ piece) (consumes_more lo l ln reported.bytes piece reported.read read)
    (subst (λ (b : List ℕ). GrowsByPrefix ho hn (printed_text_of b)) (sym (prefix_of most reported.bytes piece within))
    (printed_prefix reported.bytes (take (most - length reported.bytes) piece) ho hn (whole_prefix ho hn (printed_text_of reported.bytes) reported.text)))

-- what a decoder does when it is fed a piece and all its steps are taken
abbrev pub IsFedMore : (before after : Decoder) → (piece : List ℕ) → Type 0
IsFedMore before after piece = (position : ℕ) (bytes : List ℕ) (passed : List Known) → StandsFor before position bytes passed → StandsFor after position (bytes ++ piece) passed

abbrev pub TakesAll : (before after : Decoder) → (fed : ℕ) → (first text : List ℕ) → (bad : Option (ℕ × Field)) → Type 0
TakesAll before after fed first text bad = (bytes : List ℕ) (passed : List Known) → StandsFor before 0 bytes passed → length bytes ≡ fed → HasTakenAll after bytes passed first text bad

-- a piece was read and all its steps were taken
pub record HasFed (most count : ℕ) (first last : Decoder) (lo l ln ho hn : Option (List ℕ)) (piece text : List ℕ) (bad : Option (ℕ × Field)) : Type 0 where
  pub reported : HasPrintedSoFar most count first lo l ho hn
  pub read : Consumes l ln piece
  pub within : count + length piece ≤ most
  pub all : HasTakenAll last (reported.bytes ++ piece) (seen_of 0 reported.bytes).known [] text bad

pub fed_piece : (most count : ℕ) (first next last : Decoder) (lo l ln ho hn : Option (List ℕ)) (piece old text : List ℕ) (found bad : Option (ℕ × Field)) →
    HasPrintedSoFar most count first lo l ho hn → Consumes l ln piece → count + length piece ≤ most → old ≡ [] → IsFedMore first next piece → TakesAll next last (count + length piece) old text found → found ≡ bad → HasFed most count first last lo l ln ho hn piece text bad
fed_piece most count first next last lo l ln ho hn piece old text found bad reported read within empty fed takes is = record {
  reported = reported;
  read = read;
  within = within;
  all = subst (λ (b : Option (ℕ × Field)). HasTakenAll last (reported.bytes ++ piece) (seen_of 0 reported.bytes).known [] text b) is
      (subst (λ (o : List ℕ). HasTakenAll last (reported.bytes ++ piece) (seen_of 0 reported.bytes).known o text found) empty
      (takes (reported.bytes ++ piece) (seen_of 0 reported.bytes).known (fed 0 reported.bytes (seen_of 0 reported.bytes).known reported.stands) (let l = length-append reported.bytes piece in let c = reported.count_is in omega arith)));
}

-- the text up to the end of the piece
printed_piece : (most count : ℕ) (first last : Decoder) (lo l ln ho hn : Option (List ℕ)) (piece text : List ℕ) (bad : Option (ℕ × Field)) (fed : HasFed most count first last lo l ln ho hn piece text bad) → printed_text_of (fed.reported.bytes ++ piece) ≡ printed_text_of fed.reported.bytes ++ text
printed_piece most count first last lo l ln ho hn piece text bad fed =
    ap printed_steps fed.all.steps ∙ printed_more (steps_of (seen_of 0 fed.reported.bytes).known) fed.all.taken ∙ ap (λ (t : List ℕ). printed_text_of fed.reported.bytes ++ t) (sym fed.all.text)

-- it was written to its end
written : (most count : ℕ) (first last : Decoder) (lo l ln ho h hn : Option (List ℕ)) (piece text : List ℕ) (bad : Option (ℕ × Field)) (fed : HasFed most count first last lo l ln ho h piece text bad) → Appends h hn text → Appends ho hn (printed_text_of (fed.reported.bytes ++ piece))
written most count first last lo l ln ho h hn piece text bad fed more =
    subst (λ (t : List ℕ). Appends ho hn t) (sym (printed_piece most count first last lo l ln ho h piece text bad fed)) (appends_more ho h hn (printed_text_of fed.reported.bytes) text fed.reported.text more)

read_piece : (most count : ℕ) (first last : Decoder) (lo l ln ho hn : Option (List ℕ)) (piece text : List ℕ) (bad : Option (ℕ × Field)) (fed : HasFed most count first last lo l ln ho hn piece text bad) → Consumes lo ln (fed.reported.bytes ++ piece)
read_piece most count first last lo l ln ho hn piece text bad fed = consumes_more lo l ln fed.reported.bytes piece fed.reported.read fed.read

fed_within : (most count : ℕ) (first last : Decoder) (lo l ln ho hn : Option (List ℕ)) (piece text : List ℕ) (bad : Option (ℕ × Field)) (fed : HasFed most count first last lo l ln ho hn piece text bad) → length (fed.reported.bytes ++ piece) ≤ most
fed_within most count first last lo l ln ho hn piece text bad fed = let l = length-append fed.reported.bytes piece in let c = fed.reported.count_is in let w = fed.within in omega arith

-- or not
pub part_written : (most count : ℕ) (first last : Decoder) (lo l ln ho h hn : Option (List ℕ)) (piece text : List ℕ) (bad : Option (ℕ × Field)) → HasFed most count first last lo l ln ho h piece text bad → GrowsByPrefix h hn text → HasReadPrefix most lo ln ho hn
part_written most count first last lo l ln ho h hn piece text bad fed front =
    part_within most lo ln ho hn (fed.reported.bytes ++ piece) (fed_within most count first last lo l ln ho h piece text bad fed) (read_piece most count first last lo l ln ho h piece text bad fed)
    (subst (λ (t : List ℕ). GrowsByPrefix ho hn t) (sym (printed_piece most count first last lo l ln ho h piece text bad fed)) (front_after ho h hn (printed_text_of fed.reported.bytes) text fed.reported.text front))

-- all is printed, and no event is bad
pub printed_on : (most count : ℕ) (first last : Decoder) (lo l ln ho h hn : Option (List ℕ)) (piece text : List ℕ) → HasFed most count first last lo l ln ho h piece text None → Appends h hn text → HasPrintedSoFar most (count + length piece) last lo ln ho hn
printed_on most count first last lo l ln ho h hn piece text fed more = record {
  bytes = fed.reported.bytes ++ piece;
  read = read_piece most count first last lo l ln ho h piece text None fed;
  count_is = let l = length-append fed.reported.bytes piece in let c = fed.reported.count_is in omega arith;
  within = fed.within;
  stands = fed.all.stands;
  sound = fed.all.fault;
  text = written most count first last lo l ln ho h hn piece text None fed more;
}

-- the first bad event among bytes that may all be read
within_limit : (most : ℕ) (bytes : List ℕ) (bad : Option (ℕ × Field)) → length bytes ≤ most → (seen_of 0 bytes).fault ≡ bad → bad_within most bytes ≡ bad
unfolding bad_within
within_limit most bytes bad within is =
    rw (take_all most bytes within, le-ltb most (length bytes) within, is) (or_none bad)
  where
    or_none : (o : Option (ℕ × Field)) → option_or o None ≡ o
    or_none None = refl
    or_none (Some x) = refl

-- everything before a bad event is printed
pub met_bad : (most count : ℕ) (first last : Decoder) (lo l ln ho h hn : Option (List ℕ)) (piece text : List ℕ) (at : ℕ) (field : Field) → HasFed most count first last lo l ln ho h piece text (Some (at, field)) → Appends h hn text → HasMetBadEvent most at field lo ln ho hn
met_bad most count first last lo l ln ho h hn piece text at field fed more =
    let bytes = fed.reported.bytes ++ piece in
    let within : length bytes ≤ most = fed_within most count first last lo l ln ho h piece text (Some (at, field)) fed in
    record {
      bytes = bytes;
      read = read_piece most count first last lo l ln ho h piece text (Some (at, field)) fed;
      bad = within_limit most bytes (Some (at, field)) within fed.all.fault;
      text = subst (λ (b : List ℕ). Appends ho hn (printed_text_of b)) (sym (take_all most bytes within)) (written most count first last lo l ln ho h hn piece text (Some (at, field)) fed more);
    }

-- the log goes on after the limit
pub met_limit : (most count : ℕ) (decoder : Decoder) (lo l ln ho hn : Option (List ℕ)) (piece : List ℕ) → HasPrintedSoFar most count decoder lo l ho hn → count ≡ most → Consumes l ln piece → 0 < length piece → HasMetBadEvent most most fields.Limit lo ln ho hn
unfolding bad_within
met_limit most count decoder lo l ln ho hn piece reported full read some =
    let c = reported.count_is in
    let n = length-append reported.bytes piece in
    let front : take most (reported.bytes ++ piece) ≡ reported.bytes = take-append-le most reported.bytes piece (omega arith) ∙ take_all most reported.bytes (omega arith) in
    record {
      bytes = reported.bytes ++ piece;
      read = consumes_more lo l ln reported.bytes piece reported.read read;
      bad = rw (front, lt-ltb most (length (reported.bytes ++ piece)) (omega arith), reported.sound) refl;
      text = subst (λ (b : List ℕ). Appends ho hn (printed_text_of b)) (sym front) reported.text;
    }

-- the log is at its end, and the last line is written
pub printed_whole : (most count : ℕ) (decoder : Decoder) (lo l ln ho h hn : Option (List ℕ)) (rest : ℕ) → HasPrintedSoFar most count decoder lo l ho h → Consumes l ln [] → IsAtEnd ln →
    ((position : ℕ) (bytes : List ℕ) (passed : List Known) → StandsFor decoder position bytes passed → rest ≡ rest_after position bytes passed) → Appends h hn (rest_line rest ++ 10 ∷ []) → HasReadLog most lo ln ho hn
unfolding read_text_of
printed_whole most count decoder lo l ln ho h hn rest reported read end is more = record {
  bytes = reported.bytes;
  read = subst (λ (b : List ℕ). Consumes lo ln b) (append-nil reported.bytes) (consumes_more lo l ln reported.bytes [] reported.read read);
  end = end;
  sound = within_limit most reported.bytes None (let c = reported.count_is in let w = reported.within in omega arith) reported.sound;
  text = subst (λ (n : ℕ). Appends ho hn (printed_text_of reported.bytes ++ (rest_line n ++ 10 ∷ []))) (is 0 reported.bytes (seen_of 0 reported.bytes).known reported.stands) (appends_more ho h hn (printed_text_of reported.bytes) (rest_line rest ++ 10 ∷ []) reported.text more);
}

-- or a prefix of it
pub part_whole : (most count : ℕ) (decoder : Decoder) (lo l ln ho h hn : Option (List ℕ)) (rest : ℕ) → HasPrintedSoFar most count decoder lo l ho h → Consumes l ln [] → IsAtEnd ln →
    ((position : ℕ) (bytes : List ℕ) (passed : List Known) → StandsFor decoder position bytes passed → rest ≡ rest_after position bytes passed) → GrowsByPrefix h hn (rest_line rest ++ 10 ∷ []) → HasReadPrefix most lo ln ho hn
unfolding read_text_of
part_whole most count decoder lo l ln ho h hn rest reported read end is front =
    let within : length reported.bytes ≤ most = (let c = reported.count_is in let w = reported.within in omega arith) in record {
      bytes = reported.bytes;
      read = subst (λ (b : List ℕ). Consumes lo ln b) (append-nil reported.bytes) (consumes_more lo l ln reported.bytes [] reported.read read);
      text = subst (λ (b : List ℕ). GrowsByPrefix ho hn (read_text_of b)) (sym (take_all most reported.bytes within))
          (subst (λ (n : ℕ). GrowsByPrefix ho hn (printed_text_of reported.bytes ++ (rest_line n ++ 10 ∷ []))) (is 0 reported.bytes (seen_of 0 reported.bytes).known reported.stands)
          (front_after ho h hn (printed_text_of reported.bytes) (rest_line rest ++ 10 ∷ []) reported.text front));
      last = inl (end, within_limit most reported.bytes None within reported.sound);
    }

-- the same count in other words
pub recounted : (most count other : ℕ) (decoder : Decoder) (lo ln ho hn : Option (List ℕ)) → HasPrintedSoFar most count decoder lo ln ho hn → count ≡ other → HasPrintedSoFar most other decoder lo ln ho hn
recounted most count other decoder lo ln ho hn reported is = subst (λ (n : ℕ). HasPrintedSoFar most n decoder lo ln ho hn) is reported

-- what follows at an Ok, and at an Err
pub at_ok : {X E A B : Type 0} (result : Result X E) → OnOk result A → (A → B) → OnOk result B
at_ok (Ok x) all next = next all
at_ok (Err e) all next = tt

pub at_err : {X E : Type 0} (result : Result X E) (P Q : E → Type 0) → IfErr result P → ((e : E) → P e → Q e) → IfErr result Q
at_err (Ok x) P Q all next = tt
at_err (Err e) P Q all next = next e all

-- a fault of the sink is none of the source
pub not_read : {X : Type 0} (result : Result X ReadLogFault) (fault : OutFault) → IsErrAnd result (λ e. e ≡ read_fault_of fault) → IsErrOf result faults.ReadFault → ⊥
not_read {X} (Ok x) fault is of = is
not_read {X} (Err e) outs.Failed is of = let no : ◌≡◌ {A = Result X ReadLogFault} (Err faults.WriteFault) (Err faults.ReadFault) = ap Err (sym is) ∙ of in cc
not_read {X} (Err e) outs.NoMemory is of = let no : ◌≡◌ {A = Result X ReadLogFault} (Err faults.NoMemory) (Err faults.ReadFault) = ap Err (sym is) ∙ of in cc

-- the sink failed
pub was_write : {X : Type 0} (result : Result X ReadLogFault) (fault : OutFault) → IsErrAnd result (λ e. e ≡ read_fault_of fault) → IsErrOf result faults.WriteFault → fault ≡ outs.Failed
was_write {X} (Ok x) fault is of = absurd is
was_write {X} (Err e) outs.Failed is of = refl
was_write {X} (Err e) outs.NoMemory is of = absurd (let no : ◌≡◌ {A = Result X ReadLogFault} (Err faults.NoMemory) (Err faults.WriteFault) = ap Err (sym is) ∙ of in cc)

-- a count that rose later rose
pub rose_later : (before between now : ℕ) → before ≤ between → Rose between now → Rose before now
rose_later before between now later (inl less) = inl (omega arith)
rose_later before between now later (inr last) = inr last
