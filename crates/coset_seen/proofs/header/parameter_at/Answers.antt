use Rattle.std.proofs.Common.{◌≡◌, pos, refl, sym, subst, arith}
use Rattle.coset.specs.Item.{bytes}
use Rattle.coset_seen.specs.Plain.{IsPlainValue}
use Rattle.coset_seen.proofs.Values.{kid_value, iv_value, other_value, same_label}
use Rattle.coset_seen.proofs.header.parameter_at.Goals as goal

pub returns-in-1 : goal.returns-in-1
returns-in-1 c = same_label c.args.label (pos 1) c.args.value.now c.algorithm_at.result (grind arith) c.algorithm_at.ensures

pub returns-in-3 : goal.returns-in-3
returns-in-3 c = same_label c.args.label (pos 3) c.args.value.now c.content_format_at.result (grind arith) c.content_format_at.ensures

pub returns-in_ok-found-in-4 : goal.returns-in_ok-found-in-4
returns-in_ok-found-in-4 c =
    let found = c.in_ok-found-in-4 in
    let is : c.args.label ≡ pos 4 = grind arith in record {
      value = bytes found.found.bytes.now;
      begins = found.ensures.begins;
      is_plain = subst (λ l. IsPlainValue l (bytes found.found.bytes.now)) (sym is) (kid_value found.found.bytes.now found.ensures.filled);
      says = (is, refl);
      placed = found.ensures.ahead;
    }

pub returns-in_ok-found-in-5 : goal.returns-in_ok-found-in-5
returns-in_ok-found-in-5 c =
    let found = c.in_ok-found-in-5 in
    let is : c.args.label ≡ pos 5 = grind arith in record {
      value = bytes found.found.bytes.now;
      begins = found.ensures.begins;
      is_plain = subst (λ l. IsPlainValue l (bytes found.found.bytes.now)) (sym is) (iv_value found.found.bytes.now found.ensures.filled);
      says = ((λ e. grind (arith, e, is)), (λ e. grind (arith, e, is)), refl);
      placed = tt;
    }

pub returns-in_ok-rest-in_default : goal.returns-in_ok-rest-in_default
returns-in_ok-rest-in_default c =
    let found = c.in_ok-rest-in_default.ensures in record {
      value = found.0;
      begins = found.1;
      is_plain = other_value c.args.label found.0 (λ e. grind arith) (λ e. grind arith) (λ e. grind arith) (λ e. grind arith) (λ e. grind arith)
          (λ e. grind arith) (λ e. grind arith) (λ e. grind arith) (λ e. grind arith);
      says = ((λ e. grind arith), (λ e. grind arith));
      placed = tt;
    }
