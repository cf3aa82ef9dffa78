-- The header parameter crit: labels that must be understood (RFC 8152, section 3.1).
use Rattle.std.specs.Prelude.{◌≡◌, ◌⊎◌, ℤ, pos, List, Option, Some, None, Bool, true, false, if◌then◌else◌}
use Rattle.std.specs.List.{list_any}
use Rattle.std.specs.Ordering.{int_eq}
use Rattle.coset.specs.Item.{Item, Items, no_items, item, array}
use Rattle.coset.specs.LabelData.{LabelView, number}
use Rattle.coset.specs.Parts.{as_integer}
use Rattle.ffi_query.specs.declared.kind.Kind as kinds
use Rattle.ffi_query.specs.declared.kind.Kind.TheVariants.{Sign, Signature}
use Rattle.ffi_query.specs.declared.label.Map as maps
use Rattle.ffi_query.specs.declared.label.Map.TheVariants as of
use Rattle.ffi_query.specs.Labels.{IsUnder, is_label}

abbrev pub crit_label : LabelView
crit_label = number (pos 2)

-- The number is one of ns.
abbrev pub is_among : List ℤ → Option ℤ → Bool
is_among ns None = false
is_among ns (Some n) = list_any (λ m. int_eq m n) ns

-- The label is an integer in ns.
abbrev pub is_known : List ℤ → Item → Bool
is_known ns v = is_among ns (as_integer v)

-- Each of the labels is an integer in ns.
abbrev pub each_known : List ℤ → Items → Bool
each_known ns no_items = true
each_known ns (item v vs) = if is_known ns v then each_known ns vs else false

-- The item is an array, and each element is an integer in ns.
abbrev pub are_known : List ℤ → Item → Bool
are_known ns (array vs) = each_known ns vs
are_known ns v = false

-- The integer n is one of the labels.
abbrev pub is_listed : ℤ → Items → Bool
is_listed n no_items = false
is_listed n (item v vs) = if is_label (number n) v then true else is_listed n vs

-- The item is an array, and the integer n is one of its elements.
abbrev pub lists : Item → ℤ → Bool
lists (array vs) n = is_listed n vs
lists v n = false

-- The protected header of the item v has a parameter under the label n.
abbrev pub HasParameter : kinds.Kind → Item → ℤ → Type 0
HasParameter k v n = (w : Item) × IsUnder k of.Protected (number n) v w

-- The protected header of v has a parameter under each integer in the labels w.
abbrev pub HasEach : kinds.Kind → Item → Item → Type 0
HasEach k v w = (n : ℤ) → lists w n ≡ true → HasParameter k v n

-- The protected header of v has no parameter under one integer in the labels w.
abbrev pub LacksOne : kinds.Kind → Item → Item → Type 0
LacksOne k v w = (n : ℤ) × (lists w n ≡ true) × (HasParameter k v n → ⊥)

-- The bool says whether n is one of the labels w, although the protected header of v has no parameter under it.
abbrev pub IsAbsent : kinds.Kind → Item → Item → ℤ → Bool → Type 0
IsAbsent k v w n true = (lists w n ≡ true) × (HasParameter k v n → ⊥)
IsAbsent k v w n false = lists w n ≡ true → HasParameter k v n

-- True says that the protected header of v has a parameter under each integer that is in both ns and w. False says that
-- it lacks one of the labels w.
abbrev pub ArePresent : kinds.Kind → Item → List ℤ → Item → Bool → Type 0
ArePresent k v ns w true = (n : ℤ) → is_among ns (Some n) ≡ true → lists w n ≡ true → HasParameter k v n
ArePresent k v ns w false = LacksOne k v w

-- The bool says whether each of the labels w is an integer in ns, and the protected header of v has a parameter under it.
abbrev pub AreUnderstood : kinds.Kind → Item → List ℤ → Item → Bool → Type 0
AreUnderstood k v ns w true = (are_known ns w ≡ true) × HasEach k v w
AreUnderstood k v ns w false = (are_known ns w ≡ false) ⊎ LacksOne k v w

-- That header of the item v has a value under crit.
abbrev pub HasCritical : kinds.Kind → maps.Map → Item → Type 0
HasCritical k m v = (w : Item) × IsUnder k m crit_label v w

-- The bool says whether either header of the item v has crit.
abbrev pub IsCritical : kinds.Kind → Item → Bool → Type 0
IsCritical k v true = HasCritical k of.Protected v ⊎ HasCritical k of.Unprotected v
IsCritical k v false = (HasCritical k of.Protected v → ⊥) × (HasCritical k of.Unprotected v → ⊥)

-- The protected header has crit, and the bool says whether all labels in it are understood.
abbrev pub NamesLabels : kinds.Kind → List ℤ → Item → Bool → Type 0
NamesLabels k ns v b = (w : Item) × IsUnder k of.Protected crit_label v w × AreUnderstood k v ns w b

-- The bool says whether all critical labels of the item v are integers in ns, only the protected header names them, and
-- it has a parameter under each.
abbrev pub IsUnderstood : kinds.Kind → List ℤ → Item → Bool → Type 0
IsUnderstood k ns v true = (HasCritical k of.Unprotected v → ⊥) × ((HasCritical k of.Protected v → ⊥) ⊎ NamesLabels k ns v true)
IsUnderstood k ns v false = HasCritical k of.Unprotected v ⊎ NamesLabels k ns v false

-- `has` says whether the item v has critical labels, and `understood` whether all of them are understood.
abbrev pub IsCriticalIn : kinds.Kind → List ℤ → Item → Bool → Bool → Type 0
IsCriticalIn k ns v has understood = IsCritical k v has × IsUnderstood k ns v understood

-- `has` says whether the message v or its signer s has critical labels, and `understood` whether all labels of both are
-- understood.
pub record IsCriticalOfBoth (k : kinds.Kind) (ns : List ℤ) (v : Item) (s : Item) (has : Bool) (understood : Bool) : Type 0 where
  pub in_message : Bool
  pub of_message : Bool
  pub in_signer : Bool
  pub of_signer : Bool
  pub is_message : IsCriticalIn k ns v in_message of_message
  pub is_signer : IsCriticalIn Signature ns s in_signer of_signer
  pub is_there : has ≡ (if in_message then true else in_signer)
  pub is_understood : understood ≡ (if of_message then of_signer else false)

abbrev pub IsCriticalOf : kinds.Kind → List ℤ → Item → Item → Bool → Bool → Type 0
IsCriticalOf (Sign f) ns v s has understood = IsCriticalOfBoth (Sign f) ns v s has understood
IsCriticalOf k ns v s has understood = IsCriticalIn k ns v has understood
