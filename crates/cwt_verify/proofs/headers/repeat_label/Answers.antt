use Rattle.std.proofs.Common.{◌≡◌, ◌∙◌, ◌++◌, ℕ, Ok, map, Bor, ap, rules, sym}
use Rattle.std.specs.Map.{keys_of}
use Rattle.std.proofs.iter.Yields.{fronts}
use Rattle.std.proofs.lemmas.Iterator.{YieldsList-from_slice, YieldsList-from_map_by, maps}
use Rattle.std.proofs.lemmas.Iterator.Adapters.{fact_from_extend}
use Rattle.std.proofs.lemmas.Iterator.Consumers.{YieldsList-at}
use Rattle.std.proofs.lemmas.List.{map-append}
use Rattle.coset.specs.Fields.{FieldsView}
use Rattle.coset.specs.Header.{Header, out-Header}
use Rattle.coset.specs.Headers.{fields_in}
use Rattle.coset.specs.Label.{Label}
use Rattle.coset.specs.LabelData.{same_label}
use Rattle.coset.specs.LabelViews.{label_view}
use Rattle.coset.specs.Maps.{are_distinct}
use Rattle.coset.specs.Views.{header_view}
use Rattle.cwt_verify.proofs.Labels.{answered, borrowed-view, distinct-map, keys-view}
use Rattle.cwt_verify.proofs.Opened.{opened}
use Rattle.cwt_verify.proofs.headers.repeat_label.Goals as goal

pub returns-clause-answer : goal.returns-clause-answer
returns-clause-answer c =
    let one = (out-Header c.args.one.now).rest.items in
    let other = (out-Header c.args.other.now).rest.items in
    let first = c.extend.new.self.items in
    let all = c.extend-2.new.self.items in
    let key = λ (p : Bor Label × Unit {0}). p.0.now in
    let read : map key first ≡ keys_of one =
    fact_from_extend {E = ℕ} {steps = maps fronts _} key (Ok tt) c.in_ok-extend.ensures.ran
    (λ it b. YieldsList-at b (YieldsList-from_map_by _ key (λ p. p.0) (YieldsList-from_slice one cc) c.map.ensures.closure (λ x r q k. search rules)))
    (λ xs e h. rw (h.0, c.new-labels.ensures.items) e) in
    let both : map key all ≡ keys_of one ++ keys_of other =
    fact_from_extend {E = ℕ} {steps = maps fronts _} key (Ok tt) c.in_ok-extend-2.ensures.ran
    (λ it b. YieldsList-at b (YieldsList-from_map_by _ key (λ p. p.0) (YieldsList-from_slice other cc) c.map-2.ensures.closure (λ x r q k. search rules)))
    (λ xs e h. ap (map key) h.0 ∙ (map-append key first xs ∙ (ap (λ ls. ls ++ map key xs) read ∙ ap (λ ls. keys_of one ++ ls) e))) in
    let name = λ (r : Bor Label). label_view r.now in
    let seen : (h : Header) → keys_of (fields_in (header_view h)).rest ≡ map label_view (keys_of (out-Header h).rest.items) =
    λ h. ap (λ (f : FieldsView). keys_of f.rest) (opened h) ∙ keys-view (out-Header h).rest.items in
    let names : map name (keys_of all) ≡ keys_of (fields_in (header_view c.args.one.now)).rest ++ keys_of (fields_in (header_view c.args.other.now)).rest =
    borrowed-view all
    ∙ (ap (map label_view) both
    ∙ (map-append label_view (keys_of one) (keys_of other)
    ∙ sym (ap (λ ls. ls ++ keys_of (fields_in (header_view c.args.other.now)).rest) (seen c.args.one.now)
    ∙ ap (λ ls. map label_view (keys_of one) ++ ls) (seen c.args.other.now)))) in
    answered c.has_repeats.result _ _
    (ap (λ ps. are_distinct (λ (a b : Bor Label). same_label (label_view a.now) (label_view b.now)) (keys_of ps)) c.deref-3.ensures.value
    ∙ (distinct-map same_label name (keys_of all) ∙ ap (are_distinct same_label) names)) c.has_repeats.ensures.answer
