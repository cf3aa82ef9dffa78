-- Values by their places.
use Rattle.std.proofs.Common.{◌≡◌, ◌∙◌, ◌++◌, ◌≤◌, List, ℕ, Option, Some, None, Result, Ok, Err, true}
use Rattle.std.proofs.Common.{ap, drop, length, refl, subst, sym, take}
use Rattle.std.proofs.lemmas.List.{length-take-le, take-append-drop}
use Rattle.std.specs.Prelude.{IfSome, MatchResult}
use Rattle.coset.specs.Grammar.{IsItem}
use Rattle.coset.specs.Item.{Item}
use Rattle.coset.specs.LabelData.{LabelView}
use Rattle.ffi_query.specs.declared.kind.Kind as kinds
use Rattle.ffi_query.specs.declared.label.Map as maps
use Rattle.ffi_query.specs.declared.label.Map.TheVariants as of
use Rattle.ffi_query.specs.declared.located.Located.{Located}
use Rattle.ffi_query.specs.declared.refusal.Refusal as refusals
use Rattle.ffi_query.specs.declared.refusal.Refusal.TheVariants.{WrongType}
use Rattle.ffi_query.specs.Results.{Finds}
use Rattle.ffi_query.specs.Elements.{IsInChunks, IsItemAt, IsProtectedInChunks}
use Rattle.ffi_query.specs.Labels.{IsProtected, IsUnder}
use Rattle.ffi_query.specs.Located.{IsLocated, located_item}
use Rattle.ffi_query.specs.Parts.{has_headers}
use Rattle.ffi_query.specs.Places.{bytes_in}

-- The item that begins at this offset.
pub item_there :
    (b : List ℕ) (at : ℕ) (s rest : List ℕ) (w : Item) (n : ℕ) → at ≤ length b → drop at b ≡ s ++ rest → IsItem s w → n ≡ length s
    → IsItemAt b (record { at = at; len = n }) w
item_there b at s rest w n le parts is size = record {
  bytes = s;
  is_item = is;
  place = record {
    before = take at b;
    behind = rest;
    parts = sym (take-append-drop at b) ∙ ap (λ x. take at b ++ x) parts;
    offset = sym (length-take-le at b le);
  };
  len = size;
}

module _ (b : List ℕ) (k : kinds.Kind) where
  in_protected :
      (l : LabelView) (v : Item) (r : Result (Option Located) refusals.Refusal) → has_headers k ≡ true
      → MatchResult r (λ o. Finds located_item (IsProtected l (bytes_in 0 v)) o × IfSome o (IsLocated b))
      (λ e. (e ≡ WrongType) × IsProtectedInChunks b v)
      → MatchResult r (λ o. Finds located_item (IsUnder k of.Protected l v) o × IfSome o (IsLocated b)) (IsInChunks b of.Protected v)
  in_protected l v (Ok (Some x)) has h = ((has, h.0), h.1)
  in_protected l v (Ok None) has h = (λ w u. h.0 w u.1, h.1)
  in_protected l v (Err e) has h = (h.0, refl, h.1)

  -- The value under a label, if the map that is searched is the protected header.
  pub under_protected :
      (m : maps.Map) (l : LabelView) (v : Item) (r : Result (Option Located) refusals.Refusal) → m ≡ of.Protected → has_headers k ≡ true
      → MatchResult r (λ o. Finds located_item (IsProtected l (bytes_in 0 v)) o × IfSome o (IsLocated b))
      (λ e. (e ≡ WrongType) × IsProtectedInChunks b v)
      → MatchResult r (λ o. Finds located_item (IsUnder k m l v) o × IfSome o (IsLocated b)) (IsInChunks b m v)
  under_protected m l v r is has h =
      subst (λ x. MatchResult r (λ o. Finds located_item (IsUnder k x l v) o × IfSome o (IsLocated b)) (IsInChunks b x v)) (sym is)
      (in_protected l v r has h)
