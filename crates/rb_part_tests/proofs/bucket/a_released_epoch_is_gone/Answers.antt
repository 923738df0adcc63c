use Rattle.std.proofs.Common.{◌≡◌, ℕ, List, [], ◌∷◌, ◌++◌, map, subst, sym, ap, ◌∙◌, arith}
use Rattle.rb_bucket.specs.Bucket.{Rising, closes_kept}
use Rattle.rb_part_tests.proofs.bucket.a_released_epoch_is_gone.Goals as goal

pub release-requires : goal.release-requires
release-requires g c =
    let kept : closes_kept c.add-2.new.self ≡ (7, 4) ∷ [] = c.in_ok-add-2.ensures.closes ∙ c.in_ok-close.ensures.ok
    ∙ ap (λ (closes : List (ℕ × ℕ)). closes ++ (7, 4) ∷ []) (c.in_ok-add.ensures.closes ∙ c.in_ok-buffer.ensures.closes) in
    record { rising = (8, subst (λ (closes : List (ℕ × ℕ)). Rising 8 (map (λ close. close.0) closes)) (sym kept) (omega arith, tt, tt)) }

pub messages-requires-clause-bucket : goal.messages-requires-clause-bucket
messages-requires-clause-bucket g c =
    c.release.ensures.buckets 3 (c.in_ok-add-2.ensures.buckets 3 (c.in_ok-close.ensures.buckets 3 (c.in_ok-add.ensures.buckets 3 (c.in_ok-buffer.ensures.buckets 3 (omega arith) (omega arith)))))
