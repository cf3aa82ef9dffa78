-- Values that may be in a plain header.
use Rattle.std.proofs.Common.{◌≡◌, ◌≢◌, ℕ, ℤ, pos, List, [], Option, Bor, true, false, refl, sym, subst, FitsSigned, arith}
use Rattle.std.specs.Int.{w64}
use Rattle.std.specs.Prelude.{IfSome}
use Rattle.coset.specs.Item.{Item, bytes, integer}
use Rattle.coset.specs.WithPrivateRange.{is_private_use}
use Rattle.coset_seen.specs.declared.header.Parameter as parameters
use Rattle.coset_seen.specs.Named.{IsParameter}
use Rattle.coset_seen.specs.Plain.{IsPlainValue}
use Rattle.coset_seen.proofs.Ascending.{known_algorithm, known_format, private_algorithm, registered_algorithm, registered_format}

pub algorithm_value : (n : ℤ) → FitsSigned w64 n → known_algorithm n ≡ true → IsPlainValue (pos 1) (integer n)
algorithm_value n fits known = record {
  alg = λ e. registered_algorithm (integer n) n (refl, fits) known;
  content_type = λ e. absurd (grind arith);
  kid = λ e. absurd (grind arith);
  iv = λ e. absurd (grind arith);
  no_crit = λ e. grind arith;
  no_partial_iv = λ e. grind arith;
  no_counter_signature = λ e. grind arith;
  no_countersignature_v2 = λ e. grind arith;
  no_countersignature0_v2 = λ e. grind arith;
}

pub private_value : (n : ℤ) → FitsSigned w64 n → known_algorithm n ≡ false → is_private_use n ≡ true → IsPlainValue (pos 1) (integer n)
private_value n fits other private = record {
  alg = λ e. private_algorithm (integer n) n (refl, fits) other private;
  content_type = λ e. absurd (grind arith);
  kid = λ e. absurd (grind arith);
  iv = λ e. absurd (grind arith);
  no_crit = λ e. grind arith;
  no_partial_iv = λ e. grind arith;
  no_counter_signature = λ e. grind arith;
  no_countersignature_v2 = λ e. grind arith;
  no_countersignature0_v2 = λ e. grind arith;
}

pub format_value : (n : ℤ) → FitsSigned w64 n → known_format n ≡ true → IsPlainValue (pos 3) (integer n)
format_value n fits known = record {
  alg = λ e. absurd (grind arith);
  content_type = λ e. registered_format (integer n) n (refl, fits) known;
  kid = λ e. absurd (grind arith);
  iv = λ e. absurd (grind arith);
  no_crit = λ e. grind arith;
  no_partial_iv = λ e. grind arith;
  no_counter_signature = λ e. grind arith;
  no_countersignature_v2 = λ e. grind arith;
  no_countersignature0_v2 = λ e. grind arith;
}

pub kid_value : (b : List ℕ) → b ≢ [] → IsPlainValue (pos 4) (bytes b)
kid_value b filled = record {
  alg = λ e. absurd (grind arith);
  content_type = λ e. absurd (grind arith);
  kid = λ e. (b, (refl, filled));
  iv = λ e. absurd (grind arith);
  no_crit = λ e. grind arith;
  no_partial_iv = λ e. grind arith;
  no_counter_signature = λ e. grind arith;
  no_countersignature_v2 = λ e. grind arith;
  no_countersignature0_v2 = λ e. grind arith;
}

pub iv_value : (b : List ℕ) → b ≢ [] → IsPlainValue (pos 5) (bytes b)
iv_value b filled = record {
  alg = λ e. absurd (grind arith);
  content_type = λ e. absurd (grind arith);
  kid = λ e. absurd (grind arith);
  iv = λ e. (b, (refl, filled));
  no_crit = λ e. grind arith;
  no_partial_iv = λ e. grind arith;
  no_counter_signature = λ e. grind arith;
  no_countersignature_v2 = λ e. grind arith;
  no_countersignature0_v2 = λ e. grind arith;
}

pub other_value :
    (l : ℤ) (v : Item) → l ≢ pos 1 → l ≢ pos 3 → l ≢ pos 4 → l ≢ pos 5 → l ≢ pos 2 → l ≢ pos 6 → l ≢ pos 7 → l ≢ pos 11 → l ≢ pos 12 → IsPlainValue l v
other_value l v a b c d e f g h i = record {
  alg = λ is. absurd (a is);
  content_type = λ is. absurd (b is);
  kid = λ is. absurd (c is);
  iv = λ is. absurd (d is);
  no_crit = e;
  no_partial_iv = f;
  no_counter_signature = g;
  no_countersignature_v2 = h;
  no_countersignature0_v2 = i;
}

-- A parameter of the same label.
pub same_label :
    (l m : ℤ) (b : List ℕ) (o : Option (parameters.Parameter × Bor (List ℕ))) → l ≡ m → IfSome o (λ x. IsParameter m b x.0 x.1.now)
    → IfSome o (λ x. IsParameter l b x.0 x.1.now)
same_label l m b o e h = subst (λ z. IfSome o (λ x. IsParameter z b x.0 x.1.now)) (sym e) h
