-- A message whose protected header has an assigned algorithm, and nothing else. It is signed, written, and read again.
use Rattle.std.proofs.Common.{◌≡◌, ◌≤◌, ℕ, ℤ, pos, List, [], ◌∷◌, Some, None, true, refl, subst, arith, inl}
use Rattle.std.specs.Prelude.{FitsSigned, is_some}
use Rattle.std.specs.Int.{w64}
use Rattle.std.specs.List.{IsDistinct}
use Rattle.coset_value.specs.Item.{Item, bytes, integer, array, dict, item, no_items, pair, no_pairs, depth}
use Rattle.coset_value.specs.Range.{IsIntegerInRange}
use Rattle.coset_cbor.specs.Grammar.{IsItem}
use Rattle.coset_cbor.specs.Least.{least_encoding, least_head}
use Rattle.coset_cbor.proofs.Shortest.{definite_is_encoding, least_is_shortest}
use Rattle.coset_iana.specs.Algorithm as algorithms
use Rattle.coset_iana.specs.Registry.{first_numbered}
use Rattle.coset_iana.specs.declared.algorithms.Algorithm.{Algorithm}
use Rattle.coset_iana.specs.declared.algorithms.Algorithm.TheVariants.{RS1}
use Rattle.coset_iana.specs.declared.algorithms.TheConstants.{ALGORITHMS}
use Rattle.coset_codec.specs.Results.{Describes}
use Rattle.coset_codec.specs.ReadAgain.{IsWritten}
use Rattle.coset_codec.specs.ShapeLaws.{some-one}
use Rattle.coset_label.specs.LabelData.{number, assigned}
use Rattle.coset_label.specs.Labels.{algorithm}
use Rattle.coset_core.specs.Built.{with_algorithm}
use Rattle.coset_core.specs.Fields.{partial_header}
use Rattle.coset_core.specs.Headers.{HeaderView, empty_header, header, layered_header, layered_protected, protected}
use Rattle.coset_sign.specs.Sign1.{Sign1View, sign1, sign1_attached, with_signature}
use Rattle.example_uses.specs.Refusals.{unsigned}

-- The number of an algorithm.
pub record IsAlgorithm (n : ℤ) : Type 0 where
  pub known : is_some (first_numbered algorithms.number ALGORITHMS n) ≡ true
  pub fits : FitsSigned w64 n
  pub in_range : IsIntegerInRange n

known : (a : Algorithm) → is_some (first_numbered algorithms.number ALGORITHMS (algorithms.number a)) ≡ true
known = elim [ RS1 ↦ refl | _ ↦ refl ]

fits : (a : Algorithm) → FitsSigned w64 (algorithms.number a)
fits = elim [ RS1 ↦ omega arith | _ ↦ omega arith ]

in_range : (a : Algorithm) → IsIntegerInRange (algorithms.number a)
in_range = elim [ RS1 ↦ omega arith | _ ↦ omega arith ]

pub is_algorithm : (a : Algorithm) → IsAlgorithm (algorithms.number a)
is_algorithm a = record { known = known a; fits = fits a; in_range = in_range a }

-- ---- the header

abbrev naming : ℤ → HeaderView
naming n = with_algorithm (assigned n) empty_header

abbrev naming_item : ℤ → Item
naming_item n = dict (pair (integer (pos 1)) (integer n) no_pairs)

naming_described : (n : ℤ) → IsAlgorithm n → (k : ℕ) → (layered_header k).describes (naming_item n) (naming n)
unfolding layered_header partial_header algorithm IsDistinct
naming_described n is k = (
  (None, None),
  (
    (
      pair (integer (pos 1)) (integer n) no_pairs,
      refl,
      record {
        entries = (number (pos 1), integer n) ∷ [];
        named = ((refl, (refl, search arith)), refl, tt);
        distinct = (tt, tt);
        fields = ((refl, (is.known, (refl, is.fits))), (refl, (refl, (refl, (refl, (refl, (refl, (refl, (refl, tt)))))))));
        rest = refl;
      },
    ),
    inl refl,
  ),
  refl,
  refl,
)

empty_described : header.describes (dict no_pairs) empty_header
unfolding layered_header partial_header algorithm IsDistinct
empty_described = (
  (None, None),
  (
    (
      no_pairs,
      refl,
      record {
        entries = [];
        named = tt;
        distinct = tt;
        fields = (refl, (refl, (refl, (refl, (refl, (refl, (refl, (refl, (refl, tt)))))))));
        rest = refl;
      },
    ),
    inl refl,
  ),
  refl,
  refl,
)

-- ---- the message

-- The bytes that represent the protected header.
abbrev naming_bytes : ℤ → List ℕ
naming_bytes n = least_encoding (naming_item n)

abbrev message_item : ℤ → List ℕ → List ℕ → Item
message_item n payload s = array (item (bytes (naming_bytes n)) (item (dict no_pairs) (item (bytes payload) (item (bytes s) no_items))))

-- The message that is read.
abbrev received : ℤ → List ℕ → List ℕ → Sign1View
received n payload s = record {
  protected = record { original = Some (naming_bytes n); header = naming n };
  unprotected = empty_header;
  payload =
      Some payload;
  signature = s;
}

message_image : (n : ℤ) (payload s : List ℕ) → sign1.image (with_signature s (unsigned (naming n) payload)) ≡ Some (message_item n payload s)
unfolding layered_header layered_protected partial_header algorithm
message_image n payload s = refl

bytes_are : (n : ℤ) → IsAlgorithm n → IsItem (naming_bytes n) (naming_item n)
bytes_are n is = (
  definite_is_encoding (naming_item n) (naming_bytes n) (least_is_shortest (naming_item n) (omega arith, (omega arith, is.in_range, tt))).definite,
  omega arith,
)

protected_described : (n : ℤ) → IsAlgorithm n → protected.describes (bytes (naming_bytes n)) (record { original = Some (naming_bytes n); header = naming n })
unfolding layered_protected least_head
protected_described n is = (naming_bytes n, refl, refl, (naming_item n, bytes_are n is, naming_described n is 15))

message_described : (n : ℤ) → IsAlgorithm n → (payload s : List ℕ) → sign1.describes (message_item n payload s) (received n payload s)
message_described n is payload s = (_, refl, (protected_described n is, (empty_described, ((refl, refl), (refl, tt)))))

-- The encoding of the message is read as that message.
pub is_read : (n : ℤ) → IsAlgorithm n → (payload s b : List ℕ) → IsWritten sign1 (with_signature s (unsigned (naming n) payload)) b
    → Describes sign1 b (received n payload s)
is_read n is payload s b w =
    let same : message_item n payload s ≡ w.0 = some-one (message_image n payload s) w.1 in
    let shallow : depth (message_item n payload s) ≤ 256 = omega arith in (
      w.0,
      (definite_is_encoding w.0 b w.2.definite, subst (λ v. depth v ≤ 256) same shallow),
      subst (λ v. sign1.describes v (received n payload s)) same (message_described n is payload s),
    )

-- A structure exists.
pub has_signed : (n : ℤ) (payload external_aad : List ℕ) → sign1_attached (unsigned (naming n) payload) external_aad ≡ None → ⊥
unfolding partial_header algorithm
has_signed n payload external_aad e = absurd (cc)
