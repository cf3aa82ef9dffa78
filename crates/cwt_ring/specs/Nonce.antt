-- The nonce of an encrypted layer (RFC 9052, section 3.1, "IV" and "Partial IV").
use Rattle.std.specs.Prelude.{◌==◌, ◌&&◌, ◌-◌, not, ℕ, List, length, map, slice_index, bit_xor, nat_lt, nat_le, Option, Some, None, if◌then◌else◌}
use Rattle.std.specs.List.{range_with_len}

-- The byte at place i of a Partial IV that is padded on the left with zeros to n bytes.
abbrev pub padded : List ℕ → ℕ → ℕ → ℕ
padded partial n i = if nat_lt i (n - length partial) then 0 else slice_index partial (i - (n - length partial))

-- The padded Partial IV XOR the Base IV.
abbrev pub xored : List ℕ → List ℕ → List ℕ
xored partial base = map (λ i. bit_xor (slice_index base i) (padded partial (length base) i)) (range_with_len 0 (length base))

-- The nonce of n bytes: the IV; or if there is no IV, the padded Partial IV XOR the Base IV of the key.
abbrev pub nonce_of : List ℕ → List ℕ → List ℕ → ℕ → Option (List ℕ)
nonce_of iv partial base n =
    if length iv == n then Some iv
    else (if length iv == 0 && not (length partial == 0) && length base == n && nat_le (length partial) n then Some (xored partial base) else None)
