use Rattle.std.specs.Borrow.{Bor}
use Rattle.std.proofs.Common.{ℕ, List, option_map, subst}
use Rattle.coset.specs.Keys.{key, key_view}
use Rattle.coset.specs.View.{value_item}
use Rattle.cwt_confirm.specs.Confirm.{ReadsKey}
use Rattle.cwt_confirm.proofs.Refused.{key_refused, passed_on}
use Rattle.cwt_confirm.proofs.claim.clear_key.Goals as goal

pub returns-in_err-check_key : goal.returns-in_err-check_key
returns-in_err-check_key c =
    let kid = option_map (λ (b : Bor (List ℕ)). b.now) c.args.key_id in
    let v = value_item c.args.value.now in
    let e = c.in_err-check_key.field-0.0 in
    let described = subst (λ w. key.describes w (key_view c.in-Ok.key)) c.in_ok-clone.ensures c.in-Ok.ensures.read in
    passed_on (ReadsKey c.args.concealed kid v) c.from_residual-in_err-check_key.result e c.from_residual-in_err-check_key.ensures.1
    (key_refused c.args.concealed kid v (key_view c.in-Ok.key) e described c.in_err-check_key.ensures)
