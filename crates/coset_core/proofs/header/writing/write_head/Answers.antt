use Rattle.std.specs.Prelude.{◌≡◌, ◌==◌, OnOk, not, filter, length, is_some, Bool}
use Rattle.std.proofs.Common.{List, [], ◌∷◌, ◌+◌, ◌++◌, ◌<◌, ◌^◌, sym, ◌∙◌, ap, subst, rules}
use Rattle.std.proofs.lemmas.List.{length-map}
use Rattle.coset_cbor.specs.Least.{least_head}
use Rattle.coset_label.specs.Views.{entry_view}
use Rattle.coset_core.specs.ViewLaws.{header-opened}
use Rattle.coset_core.specs.Views.{header_view}
use Rattle.coset_core.specs.Written.{count_pairs}
use Rattle.coset_core.specs.declared.header.Header.{out-Header}
use Rattle.coset_core.proofs.WritingHeaders.{fields-there}
use Rattle.coset_core.proofs.header.writing.write_head.Goals as goal

pub returns : goal.returns
returns c =
    let x = out-Header c.args.header.now in
    let alg : c.is_some.result ≡ is_some x.alg = search rules in
    let crit : not c.is_empty.result ≡ not (length x.crit.items == 0) = search rules in
    let kind : c.is_some-2.result ≡ is_some x.content_type = search rules in
    let key : not c.is_empty-2.result ≡ not (length x.key_id.items == 0) = search rules in
    let iv : not c.is_empty-3.result ≡ not (length x.iv.items == 0) = search rules in
    let part : not c.is_empty-4.result ≡ not (length x.partial_iv.items == 0) = search rules in
    let counter_signatures : not c.is_empty-5.result ≡ not (length x.counter_signatures.items == 0) = search rules in
    let countersignatures : not c.is_empty-6.result ≡ not (length x.countersignatures_v2.items == 0) = search rules in
    let abbreviated : c.is_some-3.result ≡ is_some x.countersignature0_v2 = search rules in
    let there : List Bool = c.is_some.result ∷ not c.is_empty.result ∷ c.is_some-2.result ∷ not c.is_empty-2.result ∷ not c.is_empty-3.result
    ∷ not c.is_empty-4.result ∷ not c.is_empty-5.result ∷ not c.is_empty-6.result ∷ c.is_some-3.result ∷ [] in
    let all : length (filter (λ b. b) there) + length c.deref.result.now ≡ count_pairs (header_view c.args.header.now) =
    (λ i. length (filter (λ b. b) (alg i ∷ crit i ∷ kind i ∷ key i ∷ iv i ∷ part i ∷ counter_signatures i ∷ countersignatures i ∷ abbreviated i ∷ []))
    + length (c.deref.ensures.value i))
    ∙ ((λ i. length (filter (λ b. b) (fields-there x i)) + sym (length-map x.rest.items entry_view) i)
    ∙ sym (ap count_pairs (header-opened c.args.header.now))) in
    record {
      ok = subst (λ k. OnOk c.write_pairs_head.result (c.write_pairs_head.new.out.items ≡ c.args.out.now.items
          ++ least_head 5 k)) all c.write_pairs_head.ensures.ok;
      fits = subst (λ k. OnOk c.write_pairs_head.result (k < 2 ^ 64)) all c.write_pairs_head.ensures.fits;
      kept = c.write_pairs_head.ensures.kept;
    }
