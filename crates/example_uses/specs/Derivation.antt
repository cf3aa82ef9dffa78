-- Contexts of key derivations (RFC 8152, section 11.2).
use Rattle.std.specs.Prelude.{◌≡◌, ◌⊎◌, ℕ, ℤ, List, Option, Some, None, Result, Ok, Err, Vec}
use Rattle.std.specs.Global.{Global}
use Rattle.std.specs.Map.{lookup}
use Rattle.std.specs.Option.{option_or}
use Rattle.coset_value.specs.Item.{Item}
use Rattle.coset_iana.specs.HeaderAlgorithmParameter as parameters
use Rattle.coset_iana.specs.declared.headers.HeaderAlgorithmParameter.TheVariants.{PartyUNonce, Salt}
use Rattle.coset_codec.specs.Encoding.{HasNoImage}
use Rattle.coset_codec.specs.Errors.{IsUnexpected, UnlessMemory}
use Rattle.coset_codec.specs.ReadAgain.{IsWritten}
use Rattle.coset_codec.specs.declared.error.CoseError.{CoseError}
use Rattle.coset_label.specs.LabelData.{RegisteredLabelView, number, same_label}
use Rattle.coset_core.specs.Headers.{fields_in}
use Rattle.coset_claims.specs.Context.{ContextView, context, empty_context}
use Rattle.coset_claims.specs.Party.{NonceView, PartyView, empty_party, nonce, party_view}
use Rattle.coset_claims.specs.declared.party.PartyInfo.{PartyInfo}
use Rattle.coset_recipient.specs.Recipient.{RecipientView}

-- The value under this label in the protected header, or if that has none, in the unprotected header.
abbrev pub parameter_of : ℤ → RecipientView → Option Item
parameter_of n r =
    option_or (lookup (same_label (number n)) (fields_in r.protected.header).rest) (lookup (same_label (number n)) (fields_in r.unprotected).rest)

abbrev pub nonce_of : RecipientView → Option Item
nonce_of = parameter_of (parameters.number PartyUNonce)

abbrev pub salt_of : RecipientView → Option Item
salt_of = parameter_of (parameters.number Salt)

-- The item is this nonce. Without an item, there is none.
abbrev pub IsNonce : Option Item → Option NonceView → Type 0
IsNonce None n = n ≡ None
IsNonce (Some v) n = (x : NonceView) × (n ≡ Some x) × nonce.describes v x

-- A party with an identity, a nonce if there is one, and nothing else.
abbrev pub party_with : List ℕ → Option NonceView → PartyView
party_with i n = record empty_party { identity = Some i; nonce = n }

-- The result of making party U: the item is its nonce, or is no nonce.
abbrev pub MakesPartyU : List ℕ → Option Item → Result PartyInfo CoseError → Type 0
MakesPartyU i o (Ok p) = (n : Option NonceView) × IsNonce o n × (party_view p ≡ party_with i n)
MakesPartyU i o (Err e) = UnlessMemory e (λ f. (v : Item) × (o ≡ Some v) × nonce.faults v f)

-- The context for a key of so many bits for the algorithm a. The receiver is party V, r is the recipient, and `other` is
-- further public data.
abbrev pub derivation : RegisteredLabelView → ℕ → PartyView → List ℕ → RecipientView → List ℕ → ContextView
derivation a bits sender receiver r other = record empty_context {
  algorithm_id = a;
  party_u_info = sender;
  party_v_info = party_with receiver None;
  supp_pub_info =
      record { key_data_length = bits; protected = r.protected; other = Some other };
}

-- The result of encoding the context. The recipient has a salt or a nonce, and the context has the nonce. Unless it is
-- `OutOfMemory`, an error says that the recipient has neither, that the nonce is none, or that a header repeats a label.
abbrev pub Derives : RegisteredLabelView → ℕ → List ℕ → List ℕ → RecipientView → List ℕ → Result (Vec ℕ Global) CoseError → Type 0
Derives a bits sender receiver r other (Ok b) =
    (n : Option NonceView)
    × IsNonce (nonce_of r) n
    × (option_or (nonce_of r) (salt_of r) ≡ None → ⊥)
    × IsWritten context (derivation a bits (party_with sender n) receiver r other) b.items
Derives a bits sender receiver r other (Err e) =
    UnlessMemory e (λ f. ((option_or (nonce_of r) (salt_of r) ≡ None) × IsUnexpected f)
    ⊎ ((v : Item) × (nonce_of r ≡ Some v) × nonce.faults v f)
    ⊎ ((n : Option NonceView) × HasNoImage (context.image (derivation a bits (party_with sender n) receiver r other)) f))
