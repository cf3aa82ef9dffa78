use Rattle.std.proofs.Common.{◌≡◌, filter_map, map, take}
use Rattle.ffi_token.specs.Texts.{text_in, texts_view}
use Rattle.ffi_token.proofs.text.names.Given as goal

abbrev pub invariant-loop-text : goal.invariant-loop-text
invariant-loop-text l = map (λ s. s.now) l.names.items ≡ filter_map text_in (texts_view (take l.text-index l.texts))
