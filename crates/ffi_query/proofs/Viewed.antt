-- The view of a message.
use Rattle.std.proofs.Common.{◌≡◌, ◌∙◌, ◌++◌, ◌==◌, ℕ, ℤ, List, Option, Some, None, Result}
use Rattle.std.proofs.Common.{Ok, Err, Bool, true, false, ap, ap₂, sym, subst, arith, true≢false}
use Rattle.std.proofs.lemmas.Bool.{eqb-true}
use Rattle.coset.specs.Item.{Item, integer, bytes, float, text, boolean, null, tag, array, dict}
use Rattle.coset.specs.Grammar.{IsItem}
use Rattle.coset.specs.Results.{IsOnlyItem}
use Rattle.ffi_query.specs.declared.kind.Kind as kinds
use Rattle.ffi_query.specs.declared.label.Map.TheVariants as of
use Rattle.ffi_query.specs.declared.borrowed.Borrowed as declared
use Rattle.ffi_query.specs.declared.view.Algorithm as algorithms
use Rattle.ffi_query.specs.declared.view.Algorithm.TheVariants as named
use Rattle.ffi_query.specs.declared.view.MessageView.{MessageView}
use Rattle.ffi_query.specs.declared.refusal.Refusal as refusals
use Rattle.ffi_query.specs.declared.refusal.Refusal.TheVariants.{Short, Absent, WrongType, Empty, Misuse, Cose}
use Rattle.ffi_query.specs.Results.{ReturnsWith, PutsTexts, PutsWith}
use Rattle.ffi_query.specs.Kinds.{IsItemOf, TellsTag, TellsTagOf, is_under, is_under_some}
use Rattle.ffi_query.specs.Labels.{IsUnder}
use Rattle.ffi_query.specs.Borrowed.{IsBorrowedOf, borrowed_text}
use Rattle.ffi_query.specs.View.{HasAlgorithm, IsAlgorithm, IsMessageView, IsViewOf, alg_label}
use Rattle.ffi_query.proofs.EachKind.{memory_refuses}

-- ---- the tag

pub same_number : (n : ℕ) → (n == n) ≡ true
same_number n = grind arith

pub under_some : (n : ℕ) (w : Item) → is_under n w ≡ true → (u : Item) × (w ≡ tag n u)
under_some n (tag t v) e = (v, ap (λ m. tag m v) (eqb-true t n e))
under_some n (integer z) e = absurd (true≢false (sym e))
under_some n (bytes s) e = absurd (true≢false (sym e))
under_some n (float x) e = absurd (true≢false (sym e))
under_some n (text s) e = absurd (true≢false (sym e))
under_some n (boolean b) e = absurd (true≢false (sym e))
under_some n null e = absurd (true≢false (sym e))
under_some n (array vs) e = absurd (true≢false (sym e))
under_some n (dict ps) e = absurd (true≢false (sym e))

pub tells_tag : (n : ℕ) (b : List ℕ) (w : Item) (x : Bool) → IsOnlyItem b w → x ≡ is_under n w → TellsTag n b x
tells_tag n b w true is e = let u = under_some n w (sym e) in (u.0, subst (IsItem b) u.1 is.0)
tells_tag n b w false is e =
    λ h. let same : is_under n (tag n h.0) ≡ is_under n w = ap (is_under n) (is.1 (tag n h.0) h.1) in
    true≢false (sym (same_number n) ∙ (same ∙ sym e))

pub tells_tag_of :
    (o : Option ℕ) (b : List ℕ) (w : Item) (x : Bool) → IsOnlyItem b w → x ≡ is_under_some o w → TellsTagOf o b x
tells_tag_of None b w x is e = e
tells_tag_of (Some n) b w x is e = tells_tag n b w x is e

-- ---- the algorithm

pub algorithm_found :
    (k : kinds.Kind) (v w : Item) (a : algorithms.Algorithm) → IsUnder k of.Protected alg_label v w → IsAlgorithm w a
    → HasAlgorithm k v a
algorithm_found k v w named.Absent u h = absurd h
algorithm_found k v w (named.Number n) u h = (w, u, h)
algorithm_found k v w named.Text u h = (w, u, h)

-- ---- from the view to the result

pub viewed :
    {N : Type 0} (k : kinds.Kind) (b old new : List ℕ) (P : Item → N → List ℕ → Type 0) (Q : Item → refusals.Refusal → Type 0) (v : Item) (n : N)
    (t : List ℕ) (r : Result N refusals.Refusal) → IsItemOf k b v → P v n t → PutsWith n t old new r → ReturnsWith k b P Q old new r
viewed k b old new P Q v n t (Ok m) i p w = (v, i, (t, subst (λ x. P v x t) (sym w.0) p, w.1))
viewed k b old new P Q v n t (Err (Short m)) i p w = (v, i, (n, (t, p, w)))
viewed k b old new P Q v n t (Err Absent) i p w = absurd w
viewed k b old new P Q v n t (Err WrongType) i p w = absurd w
viewed k b old new P Q v n t (Err Empty) i p w = absurd w
viewed k b old new P Q v n t (Err Misuse) i p w = absurd w
viewed k b old new P Q v n t (Err (Cose e)) i p w = absurd w

module _
    (k : kinds.Kind) (i : ℕ) (aad : List ℕ) (d : Option (List ℕ)) (ns : List ℤ) (b old new : List ℕ) (Q : Item → refusals.Refusal → Type 0)
    (x : declared.Borrowed)
  where
    -- The four texts of a borrowed view.
    label_ref_view : (l : IsBorrowedOf k i aad d ns b x) → IsMessageView k i aad d ns b l.item x.view (borrowed_text x)
    label_ref_view l =
        let says = l.lent.says in
        let texts = ap₂ (λ s t. s ++ t) says.is_signed
        (ap₂ (λ s t. s ++ t) says.is_proof (ap₂ (λ s t. s ++ t) says.is_content says.is_key_id)) in
        (subst (IsViewOf k i aad d ns l.item x.view) (says.view.is_text ∙ texts) says.view, l.is_tagged, l.is_once)

    pub lent_viewed :
        (r : Result MessageView refusals.Refusal) → IsBorrowedOf k i aad d ns b x → PutsTexts x.view (borrowed_text x) old new r
        → ReturnsWith k b (IsMessageView k i aad d ns b) Q old new r
    lent_viewed (Ok n) l w =
        (l.item, l.is_item, (borrowed_text x, subst (λ y. IsMessageView k i aad d ns b l.item y (borrowed_text x)) (sym w.0) (label_ref_view l), w.1))
    lent_viewed (Err (Short n)) l w = (l.item, l.is_item, (x.view, (borrowed_text x, label_ref_view l, w)))
    lent_viewed (Err (Cose e)) l w = (memory_refuses k b e w.0, w.1)
    lent_viewed (Err Absent) l w = absurd w
    lent_viewed (Err WrongType) l w = absurd w
    lent_viewed (Err Empty) l w = absurd w
    lent_viewed (Err Misuse) l w = absurd w
