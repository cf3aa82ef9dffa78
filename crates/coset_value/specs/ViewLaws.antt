-- An equation for `value_item` that `search` does not find.
use Rattle.std.specs.Prelude.{◌≡◌, Vec}
use Rattle.std.specs.Global.{Global}
use Rattle.std.proofs.Common.{ap, sym, ◌∙◌}
use Rattle.coset_value.specs.Item.{Item, dict}
use Rattle.coset_value.specs.View.{value_item, value_step, value_pairs}
use Rattle.coset_value.specs.declared.value.Value.{Value}
use Rattle.coset_value.specs.declared.value.Value.TheOpen.{Value-F}
use Rattle.coset_value.specs.declared.value.Value.TheVariants.{Map, rolls-Map}
use Rattle.coset_value.specs.declared.value.Value.TheFolds.{fold-roll-Value}

-- The item of a map is the `dict` of its pairs' items.
pub value_item-Map : (ps : Vec (Value × Value) Global) → value_item (Map ps) ≡ dict (value_pairs ps.items)
value_item-Map ps = ap value_item (sym (rolls-Map ps)) ∙ fold-roll-Value Item value_step (Value-F.Map ps)
