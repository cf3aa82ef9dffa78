-- A value without a place, in a protected header that is in chunks.
use Rattle.std.proofs.Common.{ℕ, List, Err}
use Rattle.coset.specs.Item.{Item}
use Rattle.coset.specs.LabelData.{LabelView}
use Rattle.ffi_query.specs.declared.kind.Kind as kinds
use Rattle.ffi_query.specs.declared.label.Map as maps
use Rattle.ffi_query.specs.declared.refusal.Refusal as refusals
use Rattle.ffi_query.specs.declared.refusal.Refusal.TheVariants.{Short, Absent, WrongType, Empty, Misuse, Cose}
use Rattle.ffi_query.specs.Elements.{HasNoValueAt, IsInChunks, IsMissedIn, IsValueAt}
use Rattle.ffi_query.specs.Kinds.{IsItemOf}
use Rattle.ffi_query.specs.Results.{ReturnsNumber}
use Rattle.ffi_query.proofs.EachKind.{memory_refuses}

-- The reason why the value has no place.
pub missed :
    (k : kinds.Kind) (b : List ℕ) (m : maps.Map) (l : LabelView) (v : Item) (q r : refusals.Refusal) → IsItemOf k b v → IsInChunks b m v q
    → IsMissedIn k m l v r → ReturnsNumber k b (IsValueAt b k m l) (HasNoValueAt b k m l) (Err r)
missed k b m l v q WrongType is chunks there = (v, is, ((chunks.1, chunks.2), there))
missed k b m l v q Absent is chunks none = (v, is, none)
missed k b m l v q (Cose e) is chunks memory = memory_refuses k b e memory
missed k b m l v q (Short n) is chunks h = absurd h
missed k b m l v q Empty is chunks h = absurd h
missed k b m l v q Misuse is chunks h = absurd h
