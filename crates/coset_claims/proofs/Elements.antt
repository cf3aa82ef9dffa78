-- The last element of an array, if it is there.
use Rattle.std.proofs.Common.{◌≡◌, Option, None, option_map, Result, Ok, Err, sym, subst, ap}
use Rattle.std.specs.Prelude.{ℕ, Vec}
use Rattle.std.specs.Global.{Global}
use Rattle.coset_value.specs.Item.{Items, no_items, item}
use Rattle.coset_codec.specs.declared.error.CoseError.{CoseError}
use Rattle.coset_codec.specs.declared.read.decoder.ArrayElements.{ArrayElements}
use Rattle.coset_codec.specs.Errors.{UnlessMemory}
use Rattle.coset_codec.specs.Inputs.{State, AreWithin}
use Rattle.coset_codec.specs.Shape.{IsEnd, LastDescribes, LastWrongLength, bstr, present}
use Rattle.coset_claims.specs.SuppPub.{ReadsOther, other_place}

-- The items after the last element. If there are none, the number of elements isn't wrong.
pub other_behind : (vs : Items) (t z : State) (m : ArrayElements) (r : Result (Option (Vec ℕ Global)) CoseError) → ReadsOther vs t z m r → (left : Items)
    × AreWithin m left t z × (left ≡ no_items → LastWrongLength vs → ⊥)
other_behind no_items t z m r p = (no_items, p.0, λ none wrong_length. wrong_length)
other_behind (item v vs) t z m r p = (vs, p.0, λ none wrong_length. wrong_length (subst IsEnd (sym none) tt))

-- The last element is at fault.
pub other_refused :
    (vs : Items) (t z : State) (m : ArrayElements) (e : CoseError) → ReadsOther vs t z m (Err e) → (left : Items) × AreWithin m left t z
    × (left ≡ no_items → (LastWrongLength vs → ⊥) × UnlessMemory e (other_place.faults vs))
other_refused no_items t z m e p = absurd p.1
other_refused (item v vs) t z m e p = (vs, p.0, λ none. (λ wrong_length. wrong_length (subst IsEnd (sym none) tt), λ n. p.1 n))

-- The last element was read.
pub other_read :
    (vs : Items) (t z : State) (m : ArrayElements) (o : Option (Vec ℕ Global)) → ReadsOther vs t z m (Ok o) → (left : Items) × AreWithin m left t z
    × (left ≡ no_items → LastDescribes None (present bstr).describes vs (option_map (λ b. b.items) o))
other_read no_items t z m o p = (no_items, p.0, λ none. ap (option_map (λ b. b.items)) p.1)
other_read (item v no_items) t z m o p = (no_items, p.0, λ none. p.1)
other_read (item v (item w vs)) t z m o p = (item w vs, p.0, λ none. absurd (cc))
