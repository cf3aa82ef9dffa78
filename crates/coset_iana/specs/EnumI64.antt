-- The laws of `EnumI64`, put together.
use Rattle.std.specs.Prelude.{◌≡◌, ◌↔◌, ℤ, Option, Some}

-- `value_of i` is `Some x` exactly if `number x` is `i`.
abbrev pub IsInverse : {T : Type 0} → (T → ℤ) → (ℤ → Option T) → Type 0
IsInverse {T} number value_of = (i : ℤ) (x : T) → (value_of i ≡ Some x) ↔ (number x ≡ i)
