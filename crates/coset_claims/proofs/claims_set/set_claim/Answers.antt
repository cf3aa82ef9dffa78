use Rattle.std.proofs.Common.{◌≡◌, [], ◌∷◌, ◌++◌, map, option_map, refl, sym, ◌∙◌, ap}
use Rattle.std.proofs.lemmas.List.{map_push}
use Rattle.std.proofs.lemmas.Result.{on_err_weaker}
use Rattle.std.specs.Prelude.{string_bytes}
use Rattle.coset_codec.specs.Maps.{RefusesValue, TakesValue, optional}
use Rattle.coset_codec.specs.Shape.{bstr, tstr}
use Rattle.coset_claims.specs.ClaimLabels as labels
use Rattle.coset_claims.specs.Claims.{claims_view, entry_view, name_view, parts_of}
use Rattle.coset_claims.specs.Timestamp.{timestamp, timestamp_view}
use Rattle.coset_claims.proofs.ClaimPutting.{adds_at, adds_rest, refuses_at}
use Rattle.coset_claims.proofs.claims_set.set_claim.Goals as goal

pub returns-then-is_claim-clause-takes : goal.returns-then-is_claim-clause-takes
returns-then-is_claim-clause-takes c = λ v z stands.
    let here = c.set_field.ensures.takes v z stands in
    let old = c.args.claims.now in (
      here.0,
      adds_at labels.iss (name_view c.args.name) v c.set_field.result (parts_of (claims_view old)) _
          (TakesValue (optional tstr) v (option_map string_bytes old.issuer) (option_map string_bytes c.set_field.new.field))
          (sym c.is_claim.ensures ∙ c.if-is_claim.true) here.1 (λ p. ((p.0, p.1, refl), refl)),
    )

pub returns-then-is_claim-clause-refused : goal.returns-then-is_claim-clause-refused
returns-then-is_claim-clause-refused c = λ v z stands.
    let here = c.set_field.ensures.refused v z stands in
    let old = c.args.claims.now in (
      here.0,
      refuses_at labels.iss (name_view c.args.name) v c.set_field.result (parts_of (claims_view old))
          (RefusesValue (optional tstr) v (option_map string_bytes old.issuer)) (sym c.is_claim.ensures ∙ c.if-is_claim.true) here.1
          (λ e p. p),
    )

pub returns-then-is_claim-clause-kept : goal.returns-then-is_claim-clause-kept
returns-then-is_claim-clause-kept c =
    on_err_weaker c.set_field.result (λ e. ap (λ x. record (claims_view c.args.claims.now) { issuer = option_map string_bytes x }) e)
    c.set_field.ensures.kept

pub returns-then-is_claim-2-clause-takes : goal.returns-then-is_claim-2-clause-takes
returns-then-is_claim-2-clause-takes c = λ v z stands.
    let here = c.set_field-then-is_claim-2.ensures.takes v z stands in
    let old = c.args.claims.now in (
      here.0,
      adds_at labels.sub (name_view c.args.name) v c.set_field-then-is_claim-2.result (parts_of (claims_view old)) _
          (TakesValue (optional tstr) v (option_map string_bytes old.subject) (option_map string_bytes c.set_field-then-is_claim-2.new.field))
          (sym c.is_claim-2.ensures ∙ c.if-is_claim-2.true) here.1 (λ p. ((refl, (p.0, p.1, refl)), refl)),
    )

pub returns-then-is_claim-2-clause-refused : goal.returns-then-is_claim-2-clause-refused
returns-then-is_claim-2-clause-refused c = λ v z stands.
    let here = c.set_field-then-is_claim-2.ensures.refused v z stands in
    let old = c.args.claims.now in (
      here.0,
      refuses_at labels.sub (name_view c.args.name) v c.set_field-then-is_claim-2.result (parts_of (claims_view old))
          (RefusesValue (optional tstr) v (option_map string_bytes old.subject)) (sym c.is_claim-2.ensures ∙ c.if-is_claim-2.true) here.1
          (λ e p. p),
    )

pub returns-then-is_claim-2-clause-kept : goal.returns-then-is_claim-2-clause-kept
returns-then-is_claim-2-clause-kept c =
    on_err_weaker c.set_field-then-is_claim-2.result (λ e. ap (λ x. record (claims_view c.args.claims.now) { subject = option_map string_bytes x }) e)
    c.set_field-then-is_claim-2.ensures.kept

pub returns-then-is_claim-3-clause-takes : goal.returns-then-is_claim-3-clause-takes
returns-then-is_claim-3-clause-takes c = λ v z stands.
    let here = c.set_field-then-is_claim-3.ensures.takes v z stands in
    let old = c.args.claims.now in (
      here.0,
      adds_at labels.aud (name_view c.args.name) v c.set_field-then-is_claim-3.result (parts_of (claims_view old)) _
          (TakesValue (optional tstr) v (option_map string_bytes old.audience) (option_map string_bytes c.set_field-then-is_claim-3.new.field))
          (sym c.is_claim-3.ensures ∙ c.if-is_claim-3.true) here.1 (λ p. ((refl, (refl, (p.0, p.1, refl))), refl)),
    )

pub returns-then-is_claim-3-clause-refused : goal.returns-then-is_claim-3-clause-refused
returns-then-is_claim-3-clause-refused c = λ v z stands.
    let here = c.set_field-then-is_claim-3.ensures.refused v z stands in
    let old = c.args.claims.now in (
      here.0,
      refuses_at labels.aud (name_view c.args.name) v c.set_field-then-is_claim-3.result (parts_of (claims_view old))
          (RefusesValue (optional tstr) v (option_map string_bytes old.audience)) (sym c.is_claim-3.ensures ∙ c.if-is_claim-3.true) here.1
          (λ e p. p),
    )

pub returns-then-is_claim-3-clause-kept : goal.returns-then-is_claim-3-clause-kept
returns-then-is_claim-3-clause-kept c =
    on_err_weaker c.set_field-then-is_claim-3.result (λ e. ap (λ x. record (claims_view c.args.claims.now) { audience = option_map string_bytes x }) e)
    c.set_field-then-is_claim-3.ensures.kept

pub returns-then-is_claim-4-clause-takes : goal.returns-then-is_claim-4-clause-takes
returns-then-is_claim-4-clause-takes c = λ v z stands.
    let here = c.set_field-then-is_claim-4.ensures.takes v z stands in
    let old = c.args.claims.now in (
      here.0,
      adds_at labels.exp (name_view c.args.name) v c.set_field-then-is_claim-4.result (parts_of (claims_view old)) _
          (TakesValue (optional timestamp) v (option_map timestamp_view old.expiration_time) (option_map timestamp_view c.set_field-then-is_claim-4.new.field))
          (sym c.is_claim-4.ensures ∙ c.if-is_claim-4.true) here.1 (λ p. ((refl, (refl, (refl, (p.0, p.1, refl)))), refl)),
    )

pub returns-then-is_claim-4-clause-refused : goal.returns-then-is_claim-4-clause-refused
returns-then-is_claim-4-clause-refused c = λ v z stands.
    let here = c.set_field-then-is_claim-4.ensures.refused v z stands in
    let old = c.args.claims.now in (
      here.0,
      refuses_at labels.exp (name_view c.args.name) v c.set_field-then-is_claim-4.result (parts_of (claims_view old))
          (RefusesValue (optional timestamp) v (option_map timestamp_view old.expiration_time)) (sym c.is_claim-4.ensures ∙ c.if-is_claim-4.true) here.1
          (λ e p. p),
    )

pub returns-then-is_claim-4-clause-kept : goal.returns-then-is_claim-4-clause-kept
returns-then-is_claim-4-clause-kept c =
    on_err_weaker c.set_field-then-is_claim-4.result (λ e. ap (λ x. record (claims_view c.args.claims.now) { expiration_time = option_map timestamp_view x }) e)
    c.set_field-then-is_claim-4.ensures.kept

pub returns-then-is_claim-5-clause-takes : goal.returns-then-is_claim-5-clause-takes
returns-then-is_claim-5-clause-takes c = λ v z stands.
    let here = c.set_field-then-is_claim-5.ensures.takes v z stands in
    let old = c.args.claims.now in (
      here.0,
      adds_at labels.nbf (name_view c.args.name) v c.set_field-then-is_claim-5.result (parts_of (claims_view old)) _
          (TakesValue (optional timestamp) v (option_map timestamp_view old.not_before) (option_map timestamp_view c.set_field-then-is_claim-5.new.field))
          (sym c.is_claim-5.ensures ∙ c.if-is_claim-5.true) here.1 (λ p. ((refl, (refl, (refl, (refl, (p.0, p.1, refl))))), refl)),
    )

pub returns-then-is_claim-5-clause-refused : goal.returns-then-is_claim-5-clause-refused
returns-then-is_claim-5-clause-refused c = λ v z stands.
    let here = c.set_field-then-is_claim-5.ensures.refused v z stands in
    let old = c.args.claims.now in (
      here.0,
      refuses_at labels.nbf (name_view c.args.name) v c.set_field-then-is_claim-5.result (parts_of (claims_view old))
          (RefusesValue (optional timestamp) v (option_map timestamp_view old.not_before)) (sym c.is_claim-5.ensures ∙ c.if-is_claim-5.true) here.1
          (λ e p. p),
    )

pub returns-then-is_claim-5-clause-kept : goal.returns-then-is_claim-5-clause-kept
returns-then-is_claim-5-clause-kept c =
    on_err_weaker c.set_field-then-is_claim-5.result (λ e. ap (λ x. record (claims_view c.args.claims.now) { not_before = option_map timestamp_view x }) e)
    c.set_field-then-is_claim-5.ensures.kept

pub returns-then-is_claim-6-clause-takes : goal.returns-then-is_claim-6-clause-takes
returns-then-is_claim-6-clause-takes c = λ v z stands.
    let here = c.set_field-then-is_claim-6.ensures.takes v z stands in
    let old = c.args.claims.now in (
      here.0,
      adds_at labels.iat (name_view c.args.name) v c.set_field-then-is_claim-6.result (parts_of (claims_view old)) _
          (TakesValue (optional timestamp) v (option_map timestamp_view old.issued_at) (option_map timestamp_view c.set_field-then-is_claim-6.new.field))
          (sym c.is_claim-6.ensures ∙ c.if-is_claim-6.true) here.1 (λ p. ((refl, (refl, (refl, (refl, (refl, (p.0, p.1, refl)))))), refl)),
    )

pub returns-then-is_claim-6-clause-refused : goal.returns-then-is_claim-6-clause-refused
returns-then-is_claim-6-clause-refused c = λ v z stands.
    let here = c.set_field-then-is_claim-6.ensures.refused v z stands in
    let old = c.args.claims.now in (
      here.0,
      refuses_at labels.iat (name_view c.args.name) v c.set_field-then-is_claim-6.result (parts_of (claims_view old))
          (RefusesValue (optional timestamp) v (option_map timestamp_view old.issued_at)) (sym c.is_claim-6.ensures ∙ c.if-is_claim-6.true) here.1
          (λ e p. p),
    )

pub returns-then-is_claim-6-clause-kept : goal.returns-then-is_claim-6-clause-kept
returns-then-is_claim-6-clause-kept c =
    on_err_weaker c.set_field-then-is_claim-6.result (λ e. ap (λ x. record (claims_view c.args.claims.now) { issued_at = option_map timestamp_view x }) e)
    c.set_field-then-is_claim-6.ensures.kept

pub returns-then-is_claim-7-clause-takes : goal.returns-then-is_claim-7-clause-takes
returns-then-is_claim-7-clause-takes c = λ v z stands.
    let here = c.set_field-then-is_claim-7.ensures.takes v z stands in
    let old = c.args.claims.now in (
      here.0,
      adds_at labels.cti (name_view c.args.name) v c.set_field-then-is_claim-7.result (parts_of (claims_view old)) _
          (TakesValue (optional bstr) v (option_map (λ b. b.items) old.cwt_id) (option_map (λ b. b.items) c.set_field-then-is_claim-7.new.field))
          (sym c.is_claim-7.ensures ∙ c.if-is_claim-7.true) here.1 (λ p. ((refl, (refl, (refl, (refl, (refl, (refl, (p.0, p.1, refl))))))), refl)),
    )

pub returns-then-is_claim-7-clause-refused : goal.returns-then-is_claim-7-clause-refused
returns-then-is_claim-7-clause-refused c = λ v z stands.
    let here = c.set_field-then-is_claim-7.ensures.refused v z stands in
    let old = c.args.claims.now in (
      here.0,
      refuses_at labels.cti (name_view c.args.name) v c.set_field-then-is_claim-7.result (parts_of (claims_view old))
          (RefusesValue (optional bstr) v (option_map (λ b. b.items) old.cwt_id)) (sym c.is_claim-7.ensures ∙ c.if-is_claim-7.true) here.1
          (λ e p. p),
    )

pub returns-then-is_claim-7-clause-kept : goal.returns-then-is_claim-7-clause-kept
returns-then-is_claim-7-clause-kept c =
    on_err_weaker c.set_field-then-is_claim-7.result (λ e. ap (λ x. record (claims_view c.args.claims.now) { cwt_id = option_map (λ b. b.items) x }) e)
    c.set_field-then-is_claim-7.ensures.kept

pub returns-clause-takes : goal.returns-clause-takes
returns-clause-takes c = λ v z stands.
    let here = c.in_ok-value.ensures.forward.reads v z stands in
    let rest = c.args.claims.now.rest.items in
    let pushed : map entry_view c.push.new.self.items ≡ map entry_view (rest ++ (c.args.name, c.in_ok-value.value) ∷ []) =
    ap (map entry_view) c.in_ok-push.ensures.items in (
      here.0,
      adds_rest (name_view c.args.name) v (parts_of (claims_view c.args.claims.now)) _ (sym c.is_claim.ensures ∙ c.if-is_claim.false)
          (sym c.is_claim-2.ensures ∙ c.if-is_claim-2.false) (sym c.is_claim-3.ensures ∙ c.if-is_claim-3.false)
          (sym c.is_claim-4.ensures ∙ c.if-is_claim-4.false) (sym c.is_claim-5.ensures ∙ c.if-is_claim-5.false)
          (sym c.is_claim-6.ensures ∙ c.if-is_claim-6.false) (sym c.is_claim-7.ensures ∙ c.if-is_claim-7.false) refl
          (pushed ∙ map_push entry_view rest (c.args.name, c.in_ok-value.value) ∙ ap (λ v. map entry_view rest ++ (name_view c.args.name, v) ∷ []) here.1),
    )
