-- The members that the code finds.
use Rattle.std.specs.Prelude.{◌≡◌, ℤ, Result, Ok, Err}
use Rattle.std.specs.Borrow.{Bor}
use Rattle.coset.specs.Item.{Item}
use Rattle.coset.specs.Keys.{KeyView}
use Rattle.coset.specs.LabelData.{number}
use Rattle.coset.specs.Sec1.{param}
use Rattle.coset.specs.View.{value_item}
use Rattle.coset_value.specs.declared.value.Value.{Value}
use Rattle.cose_thumbprint.specs.Thumbprint.{Required, present, member}
use Rattle.cose_thumbprint.specs.declared.error.ThumbprintError.{ThumbprintError}
use Rattle.cose_thumbprint.specs.declared.member.Member.{Member}

-- The result has this view, or is this error.
abbrev pub IsResult : {A B : Type 0} → (A → B) → Result B ThumbprintError → Result A ThumbprintError → Type 0
IsResult view (Ok y) (Ok x) = view x ≡ y
IsResult view (Ok y) (Err e) = ⊥
IsResult view (Err e) (Ok x) = ⊥
IsResult view (Err e) (Err f) = f ≡ e

-- The label and the value of a member.
abbrev pub member_view : Member → ℤ × Item
member_view m = (m.label, value_item m.value.now)

-- The result is the value of the first param with this label, or `MissingMember`.
abbrev pub GivesValue : KeyView → ℤ → Result (Bor Value) ThumbprintError → Type 0
GivesValue k l = IsResult (λ v. value_item v.now) (present (param (number l) k))

-- The result is the required member of the key, or the reason why there is none.
abbrev pub GivesMember : KeyView → Required → Result Member ThumbprintError → Type 0
GivesMember k m = IsResult member_view (member k m)
