use mir.Syntax.{w64}
use Rattle.std.proofs.Common.{pos, refl, subst, arith}
use Rattle.std.proofs.lemmas.Int.{to_z-of_z}
use Rattle.coset.specs.Item.{integer}
use Rattle.coset_seen.specs.Plain.{IsPlainValue}
use Rattle.coset_seen.proofs.header.content_format_at.Goals as goal

pub returns : goal.returns
returns c =
    let n = c.in_ok-number in
    let same = to_z-of_z w64 n.number n.ensures.fits in record {
      value = integer n.number;
      begins = n.ensures.begins;
      is_plain = subst (λ z. IsPlainValue (pos 3) (integer z)) same (c.is_content_format.ensures c.if-not-is_content_format.false);
      says = ((λ e. grind arith), (λ e. grind arith), refl);
      placed = tt;
    }
