use Rattle.std.proofs.Common.{rules, ◌≡◌, Bool, refl, Option, Some, None, option_map, ◌&&◌, ◌==◌, length, ap, sym, ◌∙◌}
use Rattle.std.specs.Option.{is_none}
use Rattle.coset_core.specs.Headers.{is_empty_header}
use Rattle.std.proofs.lemmas.List.{length-map}
use Rattle.coset_core.specs.ViewLaws.{HeaderLevel, header_level, header-opened}
use Rattle.coset_core.proofs.Signatures.{and_assoc, are_none_of, stays}
use Rattle.coset_core.specs.declared.header.Header.{out-Header}
use Rattle.coset_core.proofs.header.Header.is_empty.Goals as goal
use Rattle.coset_core.proofs.header.Header.is_empty.Goals.{then-is_none, else-is_none, then-is_empty, else-is_empty, then-is_none-2, else-is_none-2}
use Rattle.coset_core.proofs.header.Header.is_empty.Goals.{then-is_empty-2, else-is_empty-2, then-is_empty-3, else-is_empty-3, then-is_empty-4, else-is_empty-4}
use Rattle.coset_core.proofs.header.Header.is_empty.Goals.{then-is_empty-5, else-is_empty-5, then-is_empty-6, else-is_empty-6}

none_mapped : {A B : Type 0} (f : A → B) (o : Option A) → is_none (option_map f o) ≡ is_none o
none_mapped f None = refl
none_mapped f (Some x) = refl

-- All tests on the fields in memory.
abbrev Tests : HeaderLevel → Bool
Tests x =
    is_none x.alg
    && (length x.crit.items == 0
    && (is_none x.content_type
    && (length x.key_id.items == 0
    && (length x.iv.items == 0 && (length x.partial_iv.items == 0
    && (length x.counter_signatures.items == 0 && (length x.countersignatures_v2.items == 0 &&
    (is_none x.countersignature0_v2 && length x.rest.items == 0))))))))

tests : (x : HeaderLevel) → is_empty_header (header_level x) ≡ Tests x
tests x = simp (length-map, are_none_of, none_mapped)

pub returns-else-is_none-3 : goal.returns-else-is_none-3
returns-else-is_none-3 c =
    let x = out-Header c.args.self.now in
    let crit : c.if-is_none.value ≡ is_none x.alg && length x.crit.items == 0 = elim c.if-is_none.branch [
      | then-is_none w ↦ search rules
      | else-is_none w ↦ search rules
    ] in
    let kind : c.if-is_empty.value ≡ c.if-is_none.value && is_none x.content_type = elim c.if-is_empty.branch [
      | then-is_empty w ↦ search rules
      | else-is_empty w ↦ search rules
    ] in
    let key : c.if-is_none-2.value ≡ c.if-is_empty.value && length x.key_id.items == 0 = elim c.if-is_none-2.branch [
      | then-is_none-2 w ↦ search rules
      | else-is_none-2 w ↦ search rules
    ] in
    let iv : c.if-is_empty-2.value ≡ c.if-is_none-2.value && length x.iv.items == 0 = elim c.if-is_empty-2.branch [
      | then-is_empty-2 w ↦ search rules
      | else-is_empty-2 w ↦ search rules
    ] in
    let part : c.if-is_empty-3.value ≡ c.if-is_empty-2.value && length x.partial_iv.items == 0 = elim c.if-is_empty-3.branch [
      | then-is_empty-3 w ↦ search rules
      | else-is_empty-3 w ↦ search rules
    ] in
    let counter_signatures : c.if-is_empty-4.value ≡ c.if-is_empty-3.value && length x.counter_signatures.items == 0 = elim c.if-is_empty-4.branch [
      | then-is_empty-4 w ↦ search rules
      | else-is_empty-4 w ↦ search rules
    ] in
    let countersignatures : c.if-is_empty-5.value ≡ c.if-is_empty-4.value && length x.countersignatures_v2.items == 0 = elim c.if-is_empty-5.branch [
      | then-is_empty-5 w ↦ search rules
      | else-is_empty-5 w ↦ search rules
    ] in
    let abbreviated : c.if-is_empty-6.value ≡ c.if-is_empty-5.value && is_none x.countersignature0_v2 = elim c.if-is_empty-6.branch [
      | then-is_empty-6 w ↦ search rules
      | else-is_empty-6 w ↦ search rules
    ] in
    let all = rw (countersignatures, counter_signatures, part, iv, key, kind, crit) at abbreviated in
    let tested : c.if-is_empty-6.value ≡ Tests x = stays _ _ (length x.rest.items == 0) all c.if-is_none-3.false ∙ simp and_assoc in
    tested ∙ sym (ap is_empty_header (header-opened c.args.self.now) ∙ tests x)
