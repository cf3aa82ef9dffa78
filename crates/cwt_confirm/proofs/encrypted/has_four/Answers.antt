use Rattle.std.specs.Borrow.{Bor}
use Rattle.std.specs.Global.{Global}
use Rattle.std.specs.Option.{option_map_or}
use Rattle.std.proofs.Common.{◌≡◌, ◌∙◌, ◌==◌, ◌∷◌, [], Some, Vec, ap, arith, false, length, List, option_map, refl, suc, sym}
use Rattle.coset.specs.Item.{items_count}
use Rattle.coset.specs.Parts.{as_array}
use Rattle.coset.specs.View.{value_item, value_items}
use Rattle.coset_value.specs.declared.value.Value.{Value}
use Rattle.cwt_confirm.proofs.encrypted.has_four.Goals as goal

count : (vs : List Value) → items_count (value_items vs) ≡ length vs
count [] = refl
count (v ∷ vs) = ap suc (count vs)

pub returns-in-Some : goal.returns-in-Some
returns-in-Some c =
    let vs = c.in-Some.elements.now.items in
    let is : as_array (value_item c.args.value.now) ≡ Some (value_items vs) =
    sym c.as_array.ensures ∙ ap (option_map (λ (items : Bor (Vec Value Global)). value_items items.now.items)) c.in-Some.is in
    let len : c.len.result ≡ length vs = omega (arith, c.len.ensures, c.in-Some.elements.now.ok.0) in
    ap (λ n. n == 4) (len ∙ sym (count vs)) ∙ sym (ap (λ o. option_map_or (λ ws. items_count ws == 4) o false) is)
