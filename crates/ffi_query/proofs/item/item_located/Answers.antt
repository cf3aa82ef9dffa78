use Rattle.ffi_query.proofs.item.item_located.Goals as goal

pub returns-in-Ok : goal.returns-in-Ok
returns-in-Ok c = (c.in-Ok.ensures.is_item, c.in-Ok.ensures.item_in)
