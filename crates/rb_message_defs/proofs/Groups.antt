-- The group of a node or of a bucket, by its number.
use Rattle.std.proofs.Common.{◌≡◌, ◌≢◌, ◌⊎◌, ℕ, suc, ◌+◌, ◌*◌, ◌-◌, ◌/◌, ◌<◌, ◌≤◌, refl, sym, ap, subst, ◌∙◌, inl, inr, arith}
use Rattle.std.specs.List.{AllByRecursion}
use Rattle.std.proofs.Math.Nat.{div-mul-le_self, lt-div-mul-add, lt_of_mul-lt-mul_right, mul-le-mul_right, suc-mul}
use Rattle.std.proofs.lemmas.Nat.{div-mul-add}
use Rattle.rb_journal_defs.specs.Body.{numbers_below}
use Rattle.rb_journal_defs.proofs.Order.{eq_or_ne, lt_or_le}
use Rattle.rb_message_defs.specs.Nodes.{Nodes, numbers_in}
use Rattle.rb_message_defs.proofs.Messages.{all_below, all_mapped}

-- a number is of this one of so many groups
pub record IsIn (bucket number replicas groups : ℕ) : Type 0 where
  pub within : number < groups
  pub from : number * replicas ≤ bucket
  pub below : bucket < number * replicas + replicas

pub group_of_bucket : (bucket replicas groups buckets : ℕ) → 1 ≤ replicas → groups * replicas ≡ buckets → bucket < buckets → IsIn bucket (bucket / replicas) replicas groups
group_of_bucket bucket replicas groups buckets some count below =
    let low = div-mul-le_self bucket replicas in record {
      within = lt_of_mul-lt-mul_right replicas (omega arith);
      from = low;
      below = lt-div-mul-add (omega arith);
    }

-- the numbers of a group are numbers of the site
pub group_fits : (number replicas groups buckets : ℕ) → number < groups → groups * replicas ≡ buckets → number * replicas + replicas ≤ buckets
group_fits number replicas groups buckets within count =
    let h : suc number * replicas ≤ groups * replicas = mul-le-mul_right replicas (omega arith) in
    let s : suc number * replicas ≡ number * replicas + replicas = suc-mul number replicas in
    omega arith

-- a number of one group is below or above those of another
pub outside : (x number k replicas groups : ℕ) → IsIn x number replicas groups → k ≢ number → (x < k * replicas) ⊎ (k * replicas + replicas ≤ x)
outside x number k replicas groups is differs = go (lt_or_le k number)
  where
    go : (k < number) ⊎ (number ≤ k) → (x < k * replicas) ⊎ (k * replicas + replicas ≤ x)
    go (inl l) = inr (let h = group_fits k replicas number (number * replicas) l refl in let a = is.from in omega arith)
    go (inr l) = inl (let h = group_fits number replicas k (k * replicas) (omega arith) refl in let a = is.below in omega arith)

-- a number is of one group only
pub one_group : (x one other replicas groups : ℕ) → IsIn x one replicas groups → IsIn x other replicas groups → one ≡ other
one_group x one other replicas groups in_one in_other = go (eq_or_ne one other)
  where
    away : (x < one * replicas) ⊎ (one * replicas + replicas ≤ x) → ⊥
    away (inl l) = let a = in_one.from in omega arith
    away (inr l) = let a = in_one.below in omega arith

    go : (one ≡ other) ⊎ (one ≢ other) → one ≡ other
    go (inl same) = same
    go (inr differs) = absurd (away (outside x other one replicas groups in_other differs))

-- a number of another group is another number
pub apart : (node number k step replicas groups : ℕ) → IsIn node number replicas groups → k < groups → k ≢ number → step < replicas → k * replicas + step ≢ node
apart node number k step replicas groups is within differs below same =
    differs (one_group node k number replicas groups (subst (λ (x : ℕ). IsIn x k replicas groups) same (record { within = within; from = omega arith; below = omega arith })) is)

-- a number is one of the nodes and buckets of a group
abbrev pub IsOf : (replicas group number : ℕ) → Type 0
IsOf replicas group number = (group * replicas ≤ number) × (number < group * replicas + replicas)

-- then this is the group of the number
pub group_is : (replicas group number : ℕ) → IsOf replicas group number → number / replicas ≡ group
group_is replicas group number is =
    let from = is.0 in
    let below = is.1 in
    let same : group * replicas + (number - group * replicas) ≡ number = omega arith in
    ap (λ (n : ℕ). n / replicas) (sym same) ∙ div-mul-add group replicas (number - group * replicas) (omega arith)

-- the numbers of a group are
pub numbers_are : (site : Nodes) (group : ℕ) → AllByRecursion (IsOf site.replicas group) (numbers_in site group)
numbers_are site group =
    all_mapped (IsOf site.replicas group) (λ step. group * site.replicas + step) (numbers_below site.replicas)
    (all_below site.replicas (λ step within. (omega arith, omega arith)))
