-- The tables of an epoch, by their ids.
use Rattle.std.proofs.Common.{◌≡◌, ℕ, Bool, true, false, cond, Some, Result, Ok, Err, sym, ap, subst, ◌∙◌}
use Rattle.std.specs.Prelude.{OnOk, OnErr}
use Rattle.std.specs.Map.{lookup}
use Rattle.std.specs.Ordering.{nat_cmp}
use Rattle.std.specs.BTreeMap.{BTreeMap, get, is_at, Updates, IsUnchanged}
use Rattle.rb_base.specs.declared.schema.Mapped.{Mapped}
use Rattle.rb_codec.specs.Columns.{HasColumns}

-- if a table with columns was mapped, or nothing changed, each mapped table has columns
pub columns_kept : {A B : Type 0} (result : Result A B) (before after : BTreeMap ℕ Mapped) (key : ℕ) (table : Mapped) → OnOk result (Updates nat_cmp before after key (Some table)) → OnErr result (IsUnchanged before after) → HasColumns table →
    ((id : ℕ) (x : Mapped) → get nat_cmp before id ≡ Some x → HasColumns x) → (id : ℕ) (x : Mapped) → get nat_cmp after id ≡ Some x → HasColumns x
columns_kept (Ok value) before after key table updates same columns held id x is = go (is_at (nat_cmp key) id) (sym (updates.0 id) ∙ is)
  where
    go : (b : Bool) → cond b (Some table) (get nat_cmp before id) ≡ Some x → HasColumns x
    go true found = subst HasColumns (let one : Some table ≡ Some x = found in cc) columns
    go false found = held id x found
columns_kept (Err fault) before after key table updates same columns held id x is = held id x (ap (λ entries. lookup (is_at (nat_cmp id)) entries) (sym same) ∙ is)
