use Rattle.std.proofs.Common.{◌≡◌, Some, true, rules, sym, ◌∙◌, ap, refl}
use Rattle.std.specs.Prelude.{ℤ, string_bytes}
use Rattle.coset_value.specs.Item.{integer}
use Rattle.coset_value.specs.View.{value_item}
use Rattle.coset_codec.specs.Shape.{bstr, tstr}
use Rattle.coset_codec.proofs.Encoding.{passes, extends-on}
use Rattle.coset_codec.proofs.EncodingMaps.{optional-put, no-field, optional-has, map-written}
use Rattle.coset_label.specs.LabelData.{assigned}
use Rattle.coset_claims.specs.Claims.{claim_name, claims, name_view, names}
use Rattle.coset_claims.specs.Timestamp.{timestamp, timestamp_view}
use Rattle.coset_claims.proofs.ClaimWriting.{timestamp-has}
use Rattle.coset_claims.proofs.claims_set.ClaimsSetCodec.write.Goals as goal

pub returns-in_err-write_optional-4-clause-written : goal.returns-in_err-write_optional-4-clause-written
returns-in_err-write_optional-4-clause-written c =
    passes c.from_residual-in_err-write_optional-4.result _ _ c.from_residual-in_err-write_optional-4.ensures.1 c.in_err-write_optional-4.ensures.refused
    (λ e. absurd (optional-has _ timestamp-has c.args.self.now.expiration_time e))

pub returns-in_err-write_optional-5-clause-written : goal.returns-in_err-write_optional-5-clause-written
returns-in_err-write_optional-5-clause-written c =
    passes c.from_residual-in_err-write_optional-5.result _ _ c.from_residual-in_err-write_optional-5.ensures.1 c.in_err-write_optional-5.ensures.refused
    (λ e. absurd (optional-has _ timestamp-has c.args.self.now.not_before e))

pub returns-in_err-write_optional-6-clause-written : goal.returns-in_err-write_optional-6-clause-written
returns-in_err-write_optional-6-clause-written c =
    passes c.from_residual-in_err-write_optional-6.result _ _ c.from_residual-in_err-write_optional-6.ensures.1 c.in_err-write_optional-6.ensures.refused
    (λ e. absurd (optional-has _ timestamp-has c.args.self.now.issued_at e))

pub returns-clause-written : goal.returns-clause-written
unfolding claim_name claims
returns-clause-written c =
    let s = c.args.self.now in
    let label : (i j : ℤ) → i ≡ j → names.shape.image (assigned j) ≡ Some (integer i) = λ i j e. ap (λ k. Some (integer k)) (sym e) in
    let f = names.shape.image in
    map-written names name_view value_item s.rest.items true _ _ _ c.write_rest.result refl
    (rw (
      c.deref.ensures.value,
      c.is_some.ensures,
      c.is_some-2.ensures,
      c.is_some-3.ensures,
      c.is_some-4.ensures,
      c.is_some-5.ensures,
      c.is_some-6.ensures,
      c.is_some-7.ensures,
    ) at c.in_ok-write_pairs_head.ensures.fits)
    (rw (
      c.deref.ensures.value,
      c.is_some.ensures,
      c.is_some-2.ensures,
      c.is_some-3.ensures,
      c.is_some-4.ensures,
      c.is_some-5.ensures,
      c.is_some-6.ensures,
      c.is_some-7.ensures,
    ) at c.in_ok-write_pairs_head.ensures.ok)
    (optional-put f string_bytes tstr.image s.issuer (label _ _ ((search rules) ∙ c.to_i64.ensures)) c.in_ok-write_optional.ensures.ok
    (optional-put f string_bytes tstr.image s.subject (label _ _ ((search rules) ∙ c.to_i64-2.ensures)) c.in_ok-write_optional-2.ensures.ok
    (optional-put f string_bytes tstr.image s.audience (label _ _ ((search rules) ∙ c.to_i64-3.ensures)) c.in_ok-write_optional-3.ensures.ok
    (optional-put f timestamp_view timestamp.image s.expiration_time (label _ _ ((search rules) ∙ c.to_i64-4.ensures)) c.in_ok-write_optional-4.ensures.ok
    (optional-put f timestamp_view timestamp.image s.not_before (label _ _ ((search rules) ∙ c.to_i64-5.ensures)) c.in_ok-write_optional-5.ensures.ok
    (optional-put f timestamp_view timestamp.image s.issued_at (label _ _ ((search rules) ∙ c.to_i64-6.ensures)) c.in_ok-write_optional-6.ensures.ok
    (optional-put f (λ b. b.items) bstr.image s.cwt_id (label _ _ ((search rules) ∙ c.to_i64-7.ensures)) c.in_ok-write_optional-7.ensures.ok
    (no-field f c.write_optional-7.new.out.items))))))))
    (rw c.deref-2.ensures.value at c.write_rest.ensures.ok) (rw c.deref-2.ensures.value at c.write_rest.ensures.refused)

pub returns-in_err-write_optional-clause-kept : goal.returns-in_err-write_optional-clause-kept
returns-in_err-write_optional-clause-kept c =
    extends-on c.args.out.now.items c.write_pairs_head.new.out.items c.write_optional.new.out.items c.write_pairs_head.ensures.kept
    c.write_optional.ensures.kept

pub returns-in_err-write_optional-2-clause-kept : goal.returns-in_err-write_optional-2-clause-kept
returns-in_err-write_optional-2-clause-kept c =
    let new = c.write_optional-2.new.out.items in
    extends-on c.args.out.now.items c.write_pairs_head.new.out.items new c.write_pairs_head.ensures.kept
    (extends-on c.write_pairs_head.new.out.items c.write_optional.new.out.items new c.write_optional.ensures.kept c.write_optional-2.ensures.kept)

pub returns-in_err-write_optional-3-clause-kept : goal.returns-in_err-write_optional-3-clause-kept
returns-in_err-write_optional-3-clause-kept c =
    let new = c.write_optional-3.new.out.items in
    extends-on c.args.out.now.items c.write_pairs_head.new.out.items new c.write_pairs_head.ensures.kept
    (extends-on c.write_pairs_head.new.out.items c.write_optional.new.out.items new c.write_optional.ensures.kept
    (extends-on c.write_optional.new.out.items c.write_optional-2.new.out.items new c.write_optional-2.ensures.kept c.write_optional-3.ensures.kept))

pub returns-in_err-write_optional-4-clause-kept : goal.returns-in_err-write_optional-4-clause-kept
returns-in_err-write_optional-4-clause-kept c =
    let new = c.write_optional-4.new.out.items in
    extends-on c.args.out.now.items c.write_pairs_head.new.out.items new c.write_pairs_head.ensures.kept
    (extends-on c.write_pairs_head.new.out.items c.write_optional.new.out.items new c.write_optional.ensures.kept
    (extends-on c.write_optional.new.out.items c.write_optional-2.new.out.items new c.write_optional-2.ensures.kept
    (extends-on c.write_optional-2.new.out.items c.write_optional-3.new.out.items new c.write_optional-3.ensures.kept c.write_optional-4.ensures.kept)))

pub returns-in_err-write_optional-5-clause-kept : goal.returns-in_err-write_optional-5-clause-kept
returns-in_err-write_optional-5-clause-kept c =
    let new = c.write_optional-5.new.out.items in
    extends-on c.args.out.now.items c.write_pairs_head.new.out.items new c.write_pairs_head.ensures.kept
    (extends-on c.write_pairs_head.new.out.items c.write_optional.new.out.items new c.write_optional.ensures.kept
    (extends-on c.write_optional.new.out.items c.write_optional-2.new.out.items new c.write_optional-2.ensures.kept
    (extends-on c.write_optional-2.new.out.items c.write_optional-3.new.out.items new c.write_optional-3.ensures.kept
    (extends-on c.write_optional-3.new.out.items c.write_optional-4.new.out.items new c.write_optional-4.ensures.kept c.write_optional-5.ensures.kept))))

pub returns-in_err-write_optional-6-clause-kept : goal.returns-in_err-write_optional-6-clause-kept
returns-in_err-write_optional-6-clause-kept c =
    let new = c.write_optional-6.new.out.items in
    extends-on c.args.out.now.items c.write_pairs_head.new.out.items new c.write_pairs_head.ensures.kept
    (extends-on c.write_pairs_head.new.out.items c.write_optional.new.out.items new c.write_optional.ensures.kept
    (extends-on c.write_optional.new.out.items c.write_optional-2.new.out.items new c.write_optional-2.ensures.kept
    (extends-on c.write_optional-2.new.out.items c.write_optional-3.new.out.items new c.write_optional-3.ensures.kept
    (extends-on c.write_optional-3.new.out.items c.write_optional-4.new.out.items new c.write_optional-4.ensures.kept
    (extends-on c.write_optional-4.new.out.items c.write_optional-5.new.out.items new c.write_optional-5.ensures.kept c.write_optional-6.ensures.kept)))))

pub returns-in_err-write_optional-7-clause-kept : goal.returns-in_err-write_optional-7-clause-kept
returns-in_err-write_optional-7-clause-kept c =
    let new = c.write_optional-7.new.out.items in
    extends-on c.args.out.now.items c.write_pairs_head.new.out.items new c.write_pairs_head.ensures.kept
    (extends-on c.write_pairs_head.new.out.items c.write_optional.new.out.items new c.write_optional.ensures.kept
    (extends-on c.write_optional.new.out.items c.write_optional-2.new.out.items new c.write_optional-2.ensures.kept
    (extends-on c.write_optional-2.new.out.items c.write_optional-3.new.out.items new c.write_optional-3.ensures.kept
    (extends-on c.write_optional-3.new.out.items c.write_optional-4.new.out.items new c.write_optional-4.ensures.kept
    (extends-on c.write_optional-4.new.out.items c.write_optional-5.new.out.items new c.write_optional-5.ensures.kept
    (extends-on c.write_optional-5.new.out.items c.write_optional-6.new.out.items new c.write_optional-6.ensures.kept c.write_optional-7.ensures.kept))))))

pub returns-clause-kept : goal.returns-clause-kept
returns-clause-kept c =
    let new = c.write_rest.new.out.items in
    extends-on c.args.out.now.items c.write_pairs_head.new.out.items new c.write_pairs_head.ensures.kept
    (extends-on c.write_pairs_head.new.out.items c.write_optional.new.out.items new c.write_optional.ensures.kept
    (extends-on c.write_optional.new.out.items c.write_optional-2.new.out.items new c.write_optional-2.ensures.kept
    (extends-on c.write_optional-2.new.out.items c.write_optional-3.new.out.items new c.write_optional-3.ensures.kept
    (extends-on c.write_optional-3.new.out.items c.write_optional-4.new.out.items new c.write_optional-4.ensures.kept
    (extends-on c.write_optional-4.new.out.items c.write_optional-5.new.out.items new c.write_optional-5.ensures.kept
    (extends-on c.write_optional-5.new.out.items c.write_optional-6.new.out.items new c.write_optional-6.ensures.kept
    (extends-on c.write_optional-6.new.out.items c.write_optional-7.new.out.items new c.write_optional-7.ensures.kept c.write_rest.ensures.kept)))))))
