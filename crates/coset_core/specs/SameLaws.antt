-- The tests of `Same` return `true` exactly when their arguments are equal.
use Rattle.std.specs.Prelude.{◌≡◌, Bool, true, ◌==◌, ◌&&◌, Option, Some, None, refl}
use Rattle.std.specs.Option.{option_eq}
use Rattle.std.specs.Cmp.{IsEquivalence, decided}
use Rattle.std.specs.Cmp.Lexicographic.{pointwise, pointwise_decides, bytes_decides}
use Rattle.std.proofs.Common.{sym, ap, subst, true≢false}
use Rattle.std.proofs.lemmas.Bool.{and_parts}
use Rattle.std.proofs.lemmas.Bool.Decides.{Decides-like, Decides-and}
use Rattle.coset_label.specs.NameOrder.{registered_cmp-apart}
use Rattle.coset_label.specs.Same.{IsEquality, algorithm_eq, entry_eq}
use Rattle.coset_label.specs.SameLaws.{algorithm_eq-decides, entry_eq-decides, same_label-decides}
use Rattle.coset_core.specs.Headers.{HeaderView, header_of, Signatures, no_signatures, signature_and}
use Rattle.coset_core.specs.Same.{critical_eq, content_type_eq, fields_eq, signatures_eq, header_eq, protected_eq, signature_eq}

-- A test decides equality if it returns true only for equal values, and for every value with itself.
told : {A : Type 0} (test : A → A → Bool) → ((x y : A) → test x y ≡ true → x ≡ y) → ((x : A) → test x x ≡ true) → IsEquality test
told test sound itself x y = (sound x y, λ e. subst (λ z. test x z ≡ true) e (itself x))

module _ {A : Type 0} (test : A → A → Bool) (decides : IsEquality test) where
  option-sound : (o p : Option A) → option_eq test o p ≡ true → o ≡ p
  option-sound None None h = refl
  option-sound (Some x) (Some y) h = ap Some ((decides x y).0 h)
  option-sound o p h = absurd (true≢false (sym h))

  option-itself : (o : Option A) → option_eq test o o ≡ true
  option-itself None = refl
  option-itself (Some x) = (decides x x).1 refl

  pub option_eq-decides : IsEquality (option_eq test)
  option_eq-decides = told (option_eq test) option-sound option-itself

pub critical_eq-decides : IsEquality critical_eq
critical_eq-decides = registered_cmp-apart

kept-decides : IsEquality (option_eq (pointwise ◌==◌))
kept-decides = option_eq-decides (pointwise ◌==◌) bytes_decides

pub fields_eq-decides : IsEquality fields_eq
fields_eq-decides f g =
    Decides-like (fields_eq f g)
    (λ p i. record {
      alg = p.0 i;
      crit = p.1.0 i;
      content_type = p.1.1.0 i;
      key_id = p.1.1.1.0 i;
      iv = p.1.1.1.1.0 i;
      partial_iv = p.1.1.1.1.1.0 i;
      countersignature0_v2 = p.1.1.1.1.1.1.0 i;
      rest = p.1.1.1.1.1.1.1 i;
    })
    (λ p. (
      ap (λ x. x.alg) p,
      (
        ap (λ x. x.crit) p,
        (
          ap (λ x. x.content_type) p,
          (ap (λ x. x.key_id) p, (ap (λ x. x.iv) p, (ap (λ x. x.partial_iv) p, (ap (λ x. x.countersignature0_v2) p, ap (λ x. x.rest) p)))),
        ),
      ),
    ))
    (Decides-and (option_eq algorithm_eq f.alg g.alg) _ (option_eq-decides algorithm_eq algorithm_eq-decides f.alg g.alg)
    (Decides-and (pointwise critical_eq f.crit g.crit) _ (pointwise_decides critical_eq-decides f.crit g.crit)
    (Decides-and (option_eq content_type_eq f.content_type g.content_type) _
    (option_eq-decides content_type_eq same_label-decides f.content_type g.content_type)
    (Decides-and (pointwise ◌==◌ f.key_id g.key_id) _ (bytes_decides f.key_id g.key_id)
    (Decides-and (pointwise ◌==◌ f.iv g.iv) _ (bytes_decides f.iv g.iv)
    (Decides-and (pointwise ◌==◌ f.partial_iv g.partial_iv) _ (bytes_decides f.partial_iv g.partial_iv)
    (Decides-and (option_eq (pointwise ◌==◌) f.countersignature0_v2 g.countersignature0_v2) (pointwise entry_eq f.rest g.rest)
    (kept-decides f.countersignature0_v2 g.countersignature0_v2) (pointwise_decides entry_eq-decides f.rest g.rest))))))))

-- Headers and signatures that pass the test are equal.
mutual
  header-sound : (h g : HeaderView) → header_eq h g ≡ true → h ≡ g
  header-sound (header_of f ss ts) (header_of g us ws) h =
      let both = and_parts (fields_eq f g) (signatures_eq ss us && signatures_eq ts ws) h in
      let versions = and_parts (signatures_eq ss us) (signatures_eq ts ws) both.1 in
      let fields = (fields_eq-decides f g).0 both.0 in
      let counter_signatures = signatures-sound ss us versions.0 in
      let countersignatures_v2 = signatures-sound ts ws versions.1 in
      λ i. header_of (fields i) (counter_signatures i) (countersignatures_v2 i)

  signatures-sound : (ss ts : Signatures) → signatures_eq ss ts ≡ true → ss ≡ ts
  signatures-sound no_signatures no_signatures h = refl
  signatures-sound (signature_and o p u s more) (signature_and a q v t rest) h =
      let covered = option_eq (pointwise ◌==◌) o a && header_eq p q in
      let others = header_eq u v && pointwise ◌==◌ s t in
      let all = and_parts (covered && others) (signatures_eq more rest) h in
      let first = and_parts covered others all.0 in
      let protected = and_parts (option_eq (pointwise ◌==◌) o a) (header_eq p q) first.0 in
      let last = and_parts (header_eq u v) (pointwise ◌==◌ s t) first.1 in
      let kept = (kept-decides o a).0 protected.0 in
      let inner = header-sound p q protected.1 in
      let outer = header-sound u v last.0 in
      let bytes = (bytes_decides s t).0 last.1 in
      let after = signatures-sound more rest all.1 in
      λ i. signature_and (kept i) (inner i) (outer i) (bytes i) (after i)
  signatures-sound ss ts h = absurd (true≢false (sym h))

-- Headers and signatures pass the test against themselves.
mutual
  header-itself : (h : HeaderView) → header_eq h h ≡ true
  header-itself (header_of f ss ts) =
      let fields = (fields_eq-decides f f).1 refl in
      rw (fields, signatures-itself ss, signatures-itself ts) refl

  signatures-itself : (ss : Signatures) → signatures_eq ss ss ≡ true
  signatures-itself no_signatures = refl
  signatures-itself (signature_and o p u s more) =
      let kept = (kept-decides o o).1 refl in
      let bytes = (bytes_decides s s).1 refl in
      rw (kept, header-itself p, header-itself u, bytes, signatures-itself more) refl

pub header_eq-decides : IsEquality header_eq
header_eq-decides = told header_eq header-sound header-itself

pub protected_eq-decides : IsEquality protected_eq
protected_eq-decides p q =
    Decides-like (protected_eq p q)
    (λ e i. record { original = e.0 i; header = e.1 i })
    (λ e. (ap (λ x. x.original) e, ap (λ x. x.header) e))
    (Decides-and (option_eq (pointwise ◌==◌) p.original q.original) (header_eq p.header q.header) (kept-decides p.original q.original)
    (header_eq-decides p.header q.header))

pub signature_eq-decides : IsEquality signature_eq
signature_eq-decides s t =
    Decides-like (signature_eq s t)
    (λ e i. record { protected = e.0 i; unprotected = e.1.0 i; signature = e.1.1 i })
    (λ e. (ap (λ x. x.protected) e, (ap (λ x. x.unprotected) e, ap (λ x. x.signature) e)))
    (Decides-and (protected_eq s.protected t.protected) _ (protected_eq-decides s.protected t.protected)
    (Decides-and (header_eq s.unprotected t.unprotected) (pointwise ◌==◌ s.signature t.signature) (header_eq-decides s.unprotected t.unprotected)
    (bytes_decides s.signature t.signature)))

-- The tests are reflexive, symmetric and transitive.
pub header_eq_equiv : IsEquivalence header_eq
header_eq_equiv = decided header_eq header_eq-decides

pub protected_eq_equiv : IsEquivalence protected_eq
protected_eq_equiv = decided protected_eq protected_eq-decides

pub signature_eq_equiv : IsEquivalence signature_eq
signature_eq_equiv = decided signature_eq signature_eq-decides
