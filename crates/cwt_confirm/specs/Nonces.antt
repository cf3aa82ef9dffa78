-- The nonces of an attestation token (RFC 9711, section 4.1).
use Rattle.std.specs.Prelude.{◌≡◌, ◌&&◌, ℕ, nat_le, List, [], ◌∷◌, length, map, option_map, Option, Some, None, Result, Ok, Err, Vec, ⊤, if◌then◌else◌}
use Rattle.std.specs.Borrow.{Bor}
use Rattle.std.specs.Global.{Global}
use Rattle.std.specs.Option.{option_and_then, option_map_or}
use Rattle.coset.specs.Item.{Item, Items, no_items, item}
use Rattle.coset.specs.Parts.{as_array, as_bytes}
use Rattle.coset.specs.Shape.{both}
use Rattle.coset_iana.specs.declared.claims.CwtClaimName.TheVariants.{Nonce}
use Rattle.cwt_verify.specs.Verify.{TokenView}
use Rattle.cwt_confirm.specs.Confirm.{claim_of}
use Rattle.cwt_confirm.specs.declared.nonce.NonceError.{NonceError}
use Rattle.cwt_confirm.specs.declared.nonce.NonceError.TheVariants.{OutOfMemory, NotNonces}

-- bstr .size (8..64)
abbrev pub sized : List ℕ → Option (List ℕ)
sized b = if nat_le 8 (length b) && nat_le (length b) 64 then Some b else None

abbrev pub nonce_in : Item → Option (List ℕ)
nonce_in v = option_and_then sized (as_bytes v)

-- The nonces that these items are, if each of them is one.
abbrev pub each_nonce : Items → Option (List (List ℕ))
each_nonce no_items = Some []
each_nonce (item v vs) = both ◌∷◌ (nonce_in v) (each_nonce vs)

-- nonce
abbrev pub one_nonce : Item → Option (List (List ℕ))
one_nonce v = option_map (λ b. b ∷ []) (nonce_in v)

-- [2* nonce]
abbrev pub two_or_more : Items → Option (List (List ℕ))
two_or_more (item v (item w vs)) = each_nonce (item v (item w vs))
two_or_more vs = None

abbrev pub by_array : Item → Option Items → Option (List (List ℕ))
by_array v None = one_nonce v
by_array v (Some vs) = two_or_more vs

-- nonce / [2* nonce]
abbrev pub nonces_in : Item → Option (List (List ℕ))
nonces_in v = by_array v (as_array v)

-- The nonces of a token: none if it has no such claim. `None` if the claim isn't nonces.
abbrev pub nonces_of : TokenView → Option (List (List ℕ))
nonces_of t = option_map_or nonces_in (claim_of Nonce t.known.claims) (Some [])

-- The result of reading nonces.
abbrev pub ReadsNonces : Option (List (List ℕ)) → Result (Vec (Bor (List ℕ)) Global) NonceError → Type 0
ReadsNonces o (Ok ns) = o ≡ Some (map (λ n. n.now) ns.items)
ReadsNonces o (Err OutOfMemory) = ⊤
ReadsNonces o (Err NotNonces) = o ≡ None
