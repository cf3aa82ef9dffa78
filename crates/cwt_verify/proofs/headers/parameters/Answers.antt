use Rattle.std.proofs.Common.{rules, ◌≡◌, ◌∙◌, ◌==◌, ◌∷◌, [], ℤ, List, pos, Bool, ap, is_some, length, not, sym}
use Rattle.std.proofs.lemmas.List.{length-map}
use Rattle.coset.specs.ViewLaws.{HeaderLevel, header_level, header-opened}
use Rattle.coset.specs.Header.{out-Header}
use Rattle.cwt_verify.specs.Headers.{parameters}
use Rattle.cwt_verify.proofs.Opened.{some-map, none-of}
use Rattle.cwt_verify.proofs.headers.parameters.Goals as goal

-- The parameters as the code tests them.
abbrev Asked : HeaderLevel → List (ℤ × Bool)
Asked x =
    (pos 1, is_some x.alg)
    ∷ (pos 2, not (length x.crit.items == 0))
    ∷ (pos 3, is_some x.content_type)
    ∷ (pos 4, not (length x.key_id.items == 0))
    ∷ (pos 5, not (length x.iv.items == 0))
    ∷ (pos 6, not (length x.partial_iv.items == 0))
    ∷ (pos 7, not (length x.counter_signatures.items == 0))
    ∷ (pos 11, not (length x.countersignatures_v2.items == 0)) ∷ (pos 12, is_some x.countersignature0_v2) ∷ []

asked : (x : HeaderLevel) → parameters (header_level x) ≡ Asked x
asked x = simp (length-map, none-of, some-map)

pub returns : goal.returns
returns c =
    let x = out-Header c.args.header.now in
    let crit : c.is_empty.result ≡ (length x.crit.items == 0) = search rules in
    let key_id : c.is_empty-2.result ≡ (length x.key_id.items == 0) = search rules in
    let iv : c.is_empty-3.result ≡ (length x.iv.items == 0) = search rules in
    let partial_iv : c.is_empty-4.result ≡ (length x.partial_iv.items == 0) = search rules in
    let version_1 : c.is_empty-5.result ≡ (length x.counter_signatures.items == 0) = search rules in
    let version_2 : c.is_empty-6.result ≡ (length x.countersignatures_v2.items == 0) = search rules in
    rw (c.is_some.ensures, crit, c.is_some-2.ensures, key_id, iv, partial_iv, version_1, version_2, c.is_some-3.ensures)
    (sym (ap parameters (header-opened c.args.header.now) ∙ asked x))
