use Rattle.std.proofs.Common.{◌≡◌, drop}
use Rattle.cwt_keys.specs.Sealed.{seal_view}
use Rattle.ffi_token.specs.Opened.{opened_in}
use Rattle.ffi_token.proofs.opened.OpenedLayers.find.Given as goal

abbrev pub invariant-loop-opened : goal.invariant-loop-opened
invariant-loop-opened l =
    let layers = l.fn.self.layers.now in
    opened_in l.fn.self.bytes.now layers (seal_view l.fn.sealed)
    ≡ opened_in l.fn.self.bytes.now (drop l.opened-index layers) (seal_view l.fn.sealed)
