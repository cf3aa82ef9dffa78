use Rattle.std.proofs.Common.{◌≡◌, Bool, ◌&&◌, map, sym, ◌∙◌, rules}
use Rattle.coset_core.specs.FieldViews.{counter_signature_list, countersignature_v2_list, fields_view}
use Rattle.coset_core.specs.Headers.{signatures_of}
use Rattle.coset_core.specs.Same.{fields_eq, signatures_eq}
use Rattle.coset_core.specs.Views.{countersignature_view, signature_view}
use Rattle.coset_core.specs.declared.header.Header.{Header}
use Rattle.coset_core.proofs.Signatures.{and_assoc, goes_by, header_eq-opened, stays, unequal}
use Rattle.coset_core.proofs.+same.Goals as goal
use Rattle.coset_core.proofs.+same.Goals.{header::same_header-then-same_fields, header::same_header-else-same_fields}

-- The test of the fields, and the tests of the signatures of each version.
abbrev fields_test : Header → Header → Bool
fields_test a b = fields_eq (fields_view a) (fields_view b)

abbrev first_test : Header → Header → Bool
first_test a b = signatures_eq (signatures_of (map signature_view (counter_signature_list a))) (signatures_of (map signature_view (counter_signature_list b)))

abbrev second_test : Header → Header → Bool
second_test a b = signatures_eq (signatures_of (map countersignature_view (countersignature_v2_list a)))
    (signatures_of (map countersignature_view (countersignature_v2_list b)))

pub header::same_header-returns-then-same_signatures : goal.header::same_header-returns-then-same_signatures
header::same_header-returns-then-same_signatures t c =
    let a = c.args.a.now in
    let b = c.args.b.now in
    let first : c.if-same_fields.value ≡ fields_test a b && first_test a b = elim c.if-same_fields.branch [
      | header::same_header-then-same_fields w ↦ search rules
      | header::same_header-else-same_fields w ↦ search rules
    ] in
    let second = rw (c.deref-then-same_signatures.ensures.value, c.deref-then-same_signatures-2.ensures.value) at c.same_countersignatures.ensures in
    goes_by c.if-same_fields.value (fields_test a b && first_test a b) (second_test a b) c.same_countersignatures.result first c.if-same_signatures.true second
    ∙ (and_assoc (fields_test a b) (first_test a b) (second_test a b) ∙ sym (header_eq-opened a b))

pub header::same_header-returns-else-same_signatures : goal.header::same_header-returns-else-same_signatures
header::same_header-returns-else-same_signatures t c =
    let a = c.args.a.now in
    let b = c.args.b.now in
    let first : c.if-same_fields.value ≡ fields_test a b && first_test a b = elim c.if-same_fields.branch [
      | header::same_header-then-same_fields w ↦ search rules
      | header::same_header-else-same_fields w ↦ search rules
    ] in
    stays c.if-same_fields.value (fields_test a b && first_test a b) (second_test a b) first c.if-same_signatures.false
    ∙ (and_assoc (fields_test a b) (first_test a b) (second_test a b) ∙ sym (header_eq-opened a b))

pub signature::same_signatures-returns-then-all-others : goal.signature::same_signatures-returns-then-all-others
signature::same_signatures-returns-then-all-others t c = unequal signature_view _ _ c.if-all-others.true

pub countersignature::same_countersignatures-returns-then-all-others : goal.countersignature::same_countersignatures-returns-then-all-others
countersignature::same_countersignatures-returns-then-all-others t c = unequal countersignature_view _ _ c.if-all-others.true
