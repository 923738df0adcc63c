-- The bytes of an epoch do not begin with those of a different epoch.
use Rattle.std.proofs.Common.{◌≡◌, ◌≢◌, ℕ, ◌+◌, ◌<◌, List, [], ◌∷◌, ◌++◌, length, refl, sym, ap, subst, ◌∙◌, arith, length-append}
use Rattle.std.specs.Prelude.{◌^◌}
use Rattle.std.proofs.lemmas.List.{append-nil, nil_from_length}
use Rattle.rb_base.specs.declared.body.EpochBody.{EpochBody}
use Rattle.rb_log_defs.specs.Epoch.{epoch_bytes}
use Rattle.rb_read_defs.specs.Stream.{Seen, open_epoch, cuts, cut_from, seen_from, steps_of}
use Rattle.rb_read_defs.specs.Readable.{IsReadable, IsReadBack}
use Rattle.rb_read_defs.specs.declared.answers.Step.{Step}
use Rattle.rb_read_defs.specs.declared.answers.Step.TheVariants as steps
use Rattle.rb_read_defs.proofs.Growing.{seen_later, steps_following}
use Rattle.rb_read_defs.proofs.EpochRead.{epoch_back}

-- the body of the first step, if that is an epoch
body_of_first : EpochBody → List Step → EpochBody
body_of_first other (steps.Epoch body end ∷ later) = body
body_of_first other all = other

end_of_first : List Step → ℕ
end_of_first (steps.Epoch body end ∷ later) = end
end_of_first all = 0

-- the events that are read of an epoch alone
alone : (body : EpochBody) (start : ℕ) (back : IsReadBack body start []) → (seen_from [] (cuts start (epoch_bytes body start))).known ≡ back.events ++ []
unfolding cut_from seen_from
alone body start back =
    let bytes = epoch_bytes body start in
    ap (λ (s : Seen). s.known) (subst (λ (xs : List ℕ). seen_from [] (cuts start xs) ≡ seen_from (back.events ++ []) (cuts (start + length bytes) [])) (append-nil bytes) (back.seen []))

-- if the bytes of an epoch begin with those of another one, both epochs are the same
pub no_prefix : (one other : EpochBody) (start : ℕ) (more : List ℕ) → IsReadable one → IsReadable other → start ≢ 4 → start + length (epoch_bytes other start) < 2 ^ 32 →
    epoch_bytes other start ≡ epoch_bytes one start ++ more → (other ≡ one) × (more ≡ [])
unfolding steps_of body_of_first end_of_first open_epoch
no_prefix one other start more first second place fits same =
    let sum = ap length same ∙ length-append (epoch_bytes one start) more in
    let back_one = epoch_back one start [] first place refl refl (omega arith) in
    let back_other = epoch_back other start [] second place refl refl fits in
    let n = length (epoch_bytes other start) in
    let seen = alone other start back_other in
    let split = back_one.seen more in
    let (later, stands) = seen_later (back_one.events ++ []) (cuts (start + length (epoch_bytes one start)) more) in
    let known : back_other.events ++ [] ≡ later ++ (back_one.events ++ []) =
    sym seen ∙ ap (λ (xs : List ℕ). (seen_from [] (cuts start xs)).known) same ∙ ap (λ (s : Seen). s.known) split ∙ stands in
    let (rest, following) = steps_following later (back_one.events ++ []) in
    let all : steps.Epoch other (start + n) ∷ [] ≡ steps.Epoch one (start + length (epoch_bytes one start)) ∷ rest =
    sym back_other.steps ∙ ap steps_of known ∙ following ∙ ap (λ (xs : List Step). xs ++ rest) back_one.steps in
    let ends : start + n ≡ start + length (epoch_bytes one start) = ap end_of_first all in
    (ap (body_of_first one) all, nil_from_length more (omega arith))
