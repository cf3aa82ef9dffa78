use Rattle.std.proofs.Common.{◌∙◌, ◌&&◌, ◌++◌, Bool, ap, not, sym}
use Rattle.std.specs.List.{list_any}
use Rattle.coset.specs.Views.{header_view}
use Rattle.cwt_verify.specs.Policy.{is_missing, own_labels, policy_view}
use Rattle.cwt_verify.proofs.Critical.{judged}
use Rattle.cwt_verify.proofs.policy.Policy.understands_all.Goals as goal

pub returns-then-finds_meanings : goal.returns-then-finds_meanings
returns-then-finds_meanings c =
    let h = header_view c.args.header.now in
    let p = policy_view c.args.self.now in
    sym (judged p h
    ∙ (ap (λ (b : Bool). b && not (list_any (is_missing h) (own_labels ++ p.critical))) (sym c.finds_meanings.ensures ∙ c.if-finds_meanings.true)
    ∙ ap not (sym c.finds_missing.ensures)))

pub returns-else-finds_meanings : goal.returns-else-finds_meanings
returns-else-finds_meanings c =
    let h = header_view c.args.header.now in
    let p = policy_view c.args.self.now in
    c.if-finds_meanings.false
    ∙ sym (judged p h
    ∙ ap (λ (b : Bool). b && not (list_any (is_missing h) (own_labels ++ p.critical))) (sym c.finds_meanings.ensures ∙ c.if-finds_meanings.false))
