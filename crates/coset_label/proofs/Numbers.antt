-- Reading the numbers of a registry.
use Rattle.std.proofs.Common.{◌≡◌, ℤ, Option, Some, true, sym, ◌∙◌, ap, subst}
use Rattle.std.specs.Prelude.{FitsSigned, is_some}
use Rattle.std.specs.Int.{w64}
use Rattle.coset_value.specs.Item.{Item}
use Rattle.coset_value.specs.Parts.{as_integer}
use Rattle.coset_label.specs.Labels.{is_integer, is_known}

module _ {T : Type 0} (number : T → ℤ) (value_of : ℤ → Option T) (is : (i : ℤ) (x : T) → value_of i ≡ Some x → number x ≡ i)
    (back : (x : T) → value_of (number x) ≡ Some x) where
  -- The item's number is the number of the value that was found.
  is-number : (v : Item) (n z : ℤ) (x : T) → Some n ≡ as_integer v → z ≡ n → Some x ≡ value_of z → as_integer v ≡ Some (number x)
  is-number v n z x a e f = sym a ∙ ap Some (sym (is z x (sym f) ∙ e))

  is-fit : (n z : ℤ) (x : T) → z ≡ n → Some x ≡ value_of z → FitsSigned w64 n → FitsSigned w64 (number x)
  is-fit n z x e f h = subst (FitsSigned w64) (sym (is z x (sym f) ∙ e)) h

  pub is-there : (x : T) → is_some (value_of (number x)) ≡ true
  is-there x = ap is_some (back x)

  -- If an item's number belongs to a value of the registry, the item is an integer with the value's number. That number
  -- fits 64 bits.
  pub is-assigned : (v : Item) (n z : ℤ) (x : T) → Some n ≡ as_integer v → z ≡ n → Some x ≡ value_of z → FitsSigned w64 n
      → (is_integer v ≡ true) × ((as_integer v ≡ Some (number x)) × FitsSigned w64 (number x))
  is-assigned v n z x a e f h = (ap is_some (sym a), (is-number v n z x a e f, is-fit n z x e f h))

  pub is-held : (v : Item) (x : T) → as_integer v ≡ Some (number x) → is_known (λ i. is_some (value_of i)) v ≡ true
  is-held v x e = rw e (is-there x)
