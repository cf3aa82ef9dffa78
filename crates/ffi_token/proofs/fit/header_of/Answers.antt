use Rattle.std.proofs.Common.{◌≡◌, ◌∙◌, ℤ, [], ap, map, rules, Some, None, to_z, of_z, w64}
use Rattle.coset.specs.LabelViews.{entry_view}
use Rattle.coset_core.specs.Headers.{header_of, no_signatures, signatures_of}
use Rattle.coset_core.specs.ViewLaws.{header-made}
use Rattle.coset_core.specs.Views.{countersignature_view, critical_view, signature_view}
use Rattle.ffi_token.proofs.fit.header_of.Goals as goal
use Rattle.ffi_token.specs.Rules.{algorithm_named}

pub returns : goal.returns
returns c =
    let same : to_z w64 (of_z w64 c.args.parts.now.algorithm) ≡ c.args.parts.now.algorithm = search rules in
    header-made (record {
      alg = Some c.label.result;
      crit = c.new.result;
      content_type = None;
      key_id = c.in_ok-key_id.key_id;
      iv = c.in_ok-iv.iv;
      partial_iv = c.in_ok-partial_iv.partial_iv;
      counter_signatures = c.new-2.result;
      countersignatures_v2 = c.new-3.result;
      countersignature0_v2 = None;
      rest = c.new-4.result;
    })
    ∙ (λ i. header_of (record {
      alg = Some (c.label.ensures i);
      crit = map critical_view (c.new.ensures.items i);
      content_type = None;
      key_id = c.in_ok-key_id.ensures.items i;
      iv = c.in_ok-iv.ensures.items i;
      partial_iv = c.in_ok-partial_iv.ensures.items i;
      countersignature0_v2 = None;
      rest = map entry_view (c.new-4.ensures.items i);
    }) (signatures_of (map signature_view (c.new-2.ensures.items i))) (signatures_of (map countersignature_view (c.new-3.ensures.items i))))
    ∙ ap (λ (z : ℤ). header_of (record {
      alg = Some (algorithm_named z);
      crit = [];
      content_type = None;
      key_id = c.args.parts.now.key_id.now;
      iv = c.args.parts.now.iv.now;
      partial_iv = c.args.parts.now.partial_iv.now;
      countersignature0_v2 = None;
      rest = [];
    }) no_signatures no_signatures) same
