-- Items with one more signature, recipient, key or element.
use Rattle.std.specs.Prelude.{◌⊎◌, ℕ, List, Option, Some, None, option_map, Bool, true, false, Result}
use Rattle.coset.specs.Item.{Item, tag, array, Items, no_items, item}
use Rattle.coset.specs.Grammar.{IsItem}
use Rattle.coset.specs.Results.{IsWholeFault}
use Rattle.coset.specs.CoseError.{CoseError}
use Rattle.ffi_query.specs.declared.kind.Kind as kinds
use Rattle.ffi_query.specs.declared.kind.Kind.TheVariants.{Sign, Mac, Encrypt, Recipient, KeySet, Any}
use Rattle.ffi_query.specs.declared.refusal.Refusal as refusals
use Rattle.ffi_make.specs.Given.{AnyFaults, IsAny}
use Rattle.ffi_make.specs.Makes.{MakesOf}
use Rattle.ffi_make.specs.Messages.{and_item}

-- A list with one more element at its end. If the item isn't a list and `begins` is true, the item is kept, and a list
-- of the element alone follows it.
abbrev pub member_in : Bool → Item → Item → Option Items
member_in begins m (array ws) = Some (item (array (and_item ws m)) no_items)
member_in true m v = Some (item v (item (array (item m no_items)) no_items))
member_in false m v = None

-- The elements, with the last one replaced by f's result.
abbrev pub in_last : (Item → Option Items) → Items → Option Items
in_last f no_items = None
in_last f (item v no_items) = f v
in_last f (item v (item w ws)) = option_map (item v) (in_last f (item w ws))

-- The elements of an item of kind k with one more member. A set of keys is the list itself, and so is any array. In
-- other items, the list is the last element (RFC 8152, sections 4.1, 5.1, 6.1 and 7).
abbrev pub places_with : kinds.Kind → Item → Items → Option Items
places_with KeySet m vs = Some (and_item vs m)
places_with Any m vs = Some (and_item vs m)
places_with Recipient m vs = in_last (member_in true m) vs
places_with (Sign f) m vs = in_last (member_in false m) vs
places_with (Mac f) m vs = in_last (member_in false m) vs
places_with (Encrypt f) m vs = in_last (member_in false m) vs
places_with k m vs = None

-- An item of kind k, without a tag, with one more member.
abbrev pub with_member : kinds.Kind → Item → Item → Option Item
with_member k m (array vs) = option_map array (places_with k m vs)
with_member k m v = None

-- f applied to an item, or to the content of a tag, which stays under the tag.
abbrev pub within_tag : (Item → Option Item) → Item → Option Item
within_tag f (tag n v) = option_map (tag n) (f v)
within_tag f v = f v

-- The arguments of `add`: an item, which is an empty array if there are no bytes, and the new member.
abbrev pub AreGiven : List ℕ → List ℕ → Item × Item → Type 0
AreGiven b c g = IsAny (array no_items) b g.0 × IsItem c g.1

-- One of the arguments has a fault.
abbrev pub MemberFaults : List ℕ → List ℕ → CoseError → Type 0
MemberFaults b c f = AnyFaults b f ⊎ IsWholeFault c f

-- The result of `add`: an item of kind k with one more member.
abbrev pub AddsMember : kinds.Kind → List ℕ → List ℕ → List ℕ → List ℕ → Result ℕ refusals.Refusal → Type 0
AddsMember k b c old new r = MakesOf k (AreGiven b c) (MemberFaults b c) (λ g. within_tag (with_member k g.1) g.0) old new r
