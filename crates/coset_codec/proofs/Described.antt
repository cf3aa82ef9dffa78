-- Bytes that are one item describe the values that this item represents.
use Rattle.std.proofs.Common.{◌≡◌, ℕ, List, ap, subst}
use Rattle.coset_value.specs.Item.{Item}
use Rattle.coset_cbor.specs.Grammar.{IsItem}
use Rattle.coset_codec.specs.Results.{Describes}
use Rattle.coset_codec.specs.Shape.{Shape, tagged}
use Rattle.coset_codec.specs.ShapeLaws.{some-one}
use Rattle.coset_codec.proofs.Whole.{OneItem, one_of}

-- An item represents at most one value.
abbrev pub IsUnique : {A : Type 0} → Shape A → Type 0
IsUnique {A} s = (v : Item) (x y : A) → s.describes v x → s.describes v y → x ≡ y

-- The same holds under a tag.
pub tagged_unique : {A : Type 0} (number : ℕ) (s : Shape A) → IsUnique s → IsUnique (tagged number s)
tagged_unique number s one v x y p q = one p.0 x y p.2 (subst (λ w. s.describes w y) (ap (λ t. t.1) (some-one q.1 p.1)) q.2)

-- If bytes are an item and describe a value, the item represents the value.
pub stands_for : {A : Type 0} (s : Shape A) → OneItem → (b : List ℕ) (v : Item) (x : A) → IsItem b v → Describes s b x → s.describes v x
stands_for s one b v x is p = subst (λ w. s.describes w x) (one_of one b p.0 v p.1 is) p.2

pub one_described : {A : Type 0} (s : Shape A) → OneItem → IsUnique s → (b : List ℕ) (x y : A) → Describes s b x → Describes s b y → x ≡ y
one_described s one unique b x y p q = unique p.0 x y p.2 (stands_for s one b p.0 y p.1 q)
