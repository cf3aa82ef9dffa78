use Rattle.std.proofs.Common.{◌∙◌, ◌||◌, Bool, ap, sym}
use Rattle.std.specs.Ordering.{is_eq}
use Rattle.coset.specs.LabelData.{registered_cmp}
use Rattle.coset.specs.Views.{critical_view}
use Rattle.cwt_verify.specs.Policy.{is_one_of, policy_view}
use Rattle.cwt_verify.proofs.Opened.{any-map}
use Rattle.cwt_verify.proofs.policy.Policy.has_meaning.Goals as goal

pub returns-else-knows : goal.returns-else-knows
returns-else-knows c =
    let p = policy_view c.args.self.now in
    let l = critical_view c.args.label.now in
    c.contains.ensures.value
    ∙ (sym (any-map (λ m. is_eq (registered_cmp m l)) critical_view c.args.self.now.critical.now)
    ∙ sym (ap (λ (b : Bool). b || is_one_of p.critical l) (sym c.knows.ensures ∙ c.if-knows.false)))
