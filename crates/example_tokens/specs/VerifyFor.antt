-- The policy for tokens that are meant for one audience.
use Rattle.std.specs.Prelude.{ℕ, List, [], ◌∷◌}
use Rattle.coset_iana.specs.declared.algorithms.Algorithm.TheVariants.{ES256, HMAC_256_256, AES_CCM_16_64_128}
use Rattle.cwt_verify.specs.Policy.{PolicyView, one_of, strict}

-- The strict policy with these algorithms, this audience, and a leeway of one minute.
abbrev pub policy_for : List ℕ → PolicyView
policy_for audience = record strict {
  algorithms = ES256 ∷ HMAC_256_256 ∷ AES_CCM_16_64_128 ∷ [];
  audience = one_of (audience ∷ []);
  leeway = 60;
}
