use Rattle.std.proofs.Common.{[], ◌∙◌, ◌≡◌, ◌+◌, ◌++◌, ℕ, List, sym, ap, subst, refl, not, Bool, true, false, length, take, arith, Some, length-drop}
use Rattle.std.specs.Str.{bytes_eq}
use Rattle.rb_base.specs.declared.faults.Field.TheVariants.{Magic}
use Rattle.rb_read_defs.specs.Stream.{magic, seen_from, cuts}
use Rattle.rb_stream.specs.Next.{GoesOn}
use Rattle.rb_stream.proofs.NextLaws.{magic_short, magic_wrong, magic_there}
use Rattle.rb_stream.proofs.decoder.Decoder.pass_magic.Goals as goal

pub returns-then-unread-lt4-clause-passes : goal.returns-then-unread-lt4-clause-passes
returns-then-unread-lt4-clause-passes c position bytes stands =
    let (start, at, whole, none) = subst (λ (b : Bool). GoesOn b position bytes [] c.args.self.now.at c.args.self.now.unread) c.requires.due stands.on in
    (magic_short position bytes c.args.self.now.unread start whole (let l = ap length c.as_slice-unread.ensures in let short = c.if-unread-lt4.true in omega arith), stands)

pub returns-then-ne-clause-passes : goal.returns-then-ne-clause-passes
returns-then-ne-clause-passes c position bytes stands =
    let (start, at, whole, none) = subst (λ (b : Bool). GoesOn b position bytes [] c.args.self.now.at c.args.self.now.unread) c.requires.due stands.on in
    let other = flipped (bytes_eq (take 4 c.as_slice-unread.result.now) c.as_slice.result.now) (sym c.ne.ensures ∙ c.if-ne.true) in (
      magic_wrong position bytes c.args.self.now.unread start whole (let l = ap length c.as_slice-unread.ensures in let long = c.if-unread-lt4.false in omega arith)
          (sym (ap (λ (xs : List ℕ). bytes_eq (take 4 xs) magic) c.as_slice-unread.ensures) ∙ sym (ap (λ (xs : List ℕ). bytes_eq (take 4 c.as_slice-unread.result.now) xs) c.as_slice.ensures) ∙ other)
          ∙ ap (λ (n : ℕ). record { known = []; fault = Some (n, Magic) }) (sym at),
      stands,
    )
  where
    flipped : (b : Bool) → not b ≡ true → b ≡ false
    flipped false is = refl
    flipped true is = sym is

pub returns-clause-passes : goal.returns-clause-passes
returns-clause-passes c position bytes stands =
    let (start, at, whole, none) = subst (λ (b : Bool). GoesOn b position bytes [] c.args.self.now.at c.args.self.now.unread) c.requires.due stands.on in
    let l = ap length c.as_slice-unread.ensures in
    let long = c.if-unread-lt4.false in
    let skipped = ap length c.skip.ensures ∙ length-drop 4 c.args.self.now.unread in
    let f = stands.fed in
    let same = straight (bytes_eq (take 4 c.as_slice-unread.result.now) c.as_slice.result.now) (sym c.ne.ensures ∙ c.if-ne.false) in (
      refl,
      record {
        fed = omega (arith, l, long, skipped, f);
        on = λ more. magic_there position bytes c.args.self.now.unread start whole (omega (arith, l, long))
            (sym (ap (λ (xs : List ℕ). bytes_eq (take 4 xs) magic) c.as_slice-unread.ensures) ∙ sym (ap (λ (xs : List ℕ). bytes_eq (take 4 c.as_slice-unread.result.now) xs) c.as_slice.ensures) ∙ same) more
            ∙ sym (ap (λ (n : ℕ). seen_from [] (cuts (n + 4) (c.skip.new.self ++ more))) at ∙ ap (λ (xs : List ℕ). seen_from [] (cuts 4 (xs ++ more))) c.skip.ensures);
        counted = stands.counted;
        knows = record { rotated = stands.knows.rotated; current = stands.knows.current };
      },
    )
  where
    straight : (b : Bool) → not b ≡ false → b ≡ true
    straight true is = refl
    straight false is = sym is
