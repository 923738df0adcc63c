-- Known bytes of a source and a sink over two calls in a row.
use Rattle.std.proofs.Common.{◌≡◌, ℕ, ◌+◌, ◌-◌, ◌<◌, List, ◌++◌, length, take, drop, Option, None, Some, IfSome, arith, ap, sym, subst, ◌∙◌}
use Rattle.std.proofs.lemmas.List.{append_assoc, length-append, length-drop, take_all}
use Rattle.std.proofs.Math.Seq.{take-add}
use Rattle.std.specs.Io.KnownBytes.{Appends, Consumes}

-- appending `xs` and then `ys` appends both
pub appends_more : (a b c : Option (List ℕ)) (xs ys : List ℕ) → Appends a b xs → Appends b c ys → Appends a c (xs ++ ys)
appends_more None b c xs ys p q = tt
appends_more (Some x) None c xs ys p q = absurd p
appends_more (Some x) (Some y) None xs ys p q = absurd q
appends_more (Some x) (Some y) (Some z) xs ys p q = q ∙ ap (λ (l : List ℕ). l ++ ys) p ∙ append_assoc x xs ys

-- a prefix is written, and then more of the bytes after it
pub written_more : (a b c : Option (List ℕ)) (at n : ℕ) (bytes : List ℕ) →
    Appends a b (take at bytes) → Appends b c (take n (take (length bytes - at) (drop at bytes))) → Appends a c (take (at + n) bytes)
written_more a b c at n bytes p q =
    let whole : take (length bytes - at) (drop at bytes) ≡ drop at bytes = take_all (length bytes - at) (drop at bytes) (omega (arith, length-drop at bytes)) in
    let rest : Appends b c (take n (drop at bytes)) = subst (λ (l : List ℕ). Appends b c (take n l)) whole q in
    subst (λ (l : List ℕ). Appends a c l) (sym (take-add at n bytes)) (appends_more a b c (take at bytes) (take n (drop at bytes)) p rest)

-- reading `xs` and then `ys` reads both
pub consumes_more : (a b c : Option (List ℕ)) (xs ys : List ℕ) → Consumes a b xs → Consumes b c ys → Consumes a c (xs ++ ys)
consumes_more None b c xs ys p q = tt
consumes_more (Some x) None c xs ys p q = absurd p
consumes_more (Some x) (Some y) None xs ys p q = absurd q
consumes_more (Some x) (Some y) (Some z) xs ys p q = p ∙ ap (λ (l : List ℕ). xs ++ l) q ∙ sym (append_assoc xs ys z)

-- a source that supplied more than `most` bytes had more than `most` bytes
pub had_more : (a b : Option (List ℕ)) (xs : List ℕ) (most : ℕ) → Consumes a b xs → most < length xs →
    IfSome a (λ bytes. most < length bytes)
had_more None b xs most p more = tt
had_more (Some x) None xs most p more = absurd p
had_more (Some x) (Some y) xs most p more = omega (arith, ap length p, length-append xs y)
