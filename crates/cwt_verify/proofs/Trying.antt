-- The signatures of a list, tried in order.
use Rattle.std.proofs.Common.{◌≡◌, ◌∙◌, ◌++◌, ℕ, List, [], ◌∷◌, true, false, true≢false, Err, Vec, ap, append_assoc, map, subst, sym}
use Rattle.std.specs.Global.{Global}
use Rattle.std.proofs.lemmas.List.{map-append}
use Rattle.std.proofs.lemmas.List.Elements.{All-nil, All-push}
use Rattle.coset.specs.Calls.{IsStructure}
use Rattle.coset.specs.CoseSignature.{CoseSignature}
use Rattle.coset.specs.Headers.{ProtectedView, SignatureView}
use Rattle.coset.specs.Sign.{SignView}
use Rattle.coset.specs.Views.{signature_view}
use Rattle.cwt_keys.specs.Keys.{KeysView, Name}
use Rattle.cwt_keys.specs.Sealed.{SealView}
use Rattle.cwt_verify.specs.Admission.{ChecksHeaders, HeadersView, IsAdmitted, signature_headers}
use Rattle.cwt_verify.specs.Headers.{named_key}
use Rattle.cwt_verify.specs.Layers.{by_signature, signed_by}
use Rattle.cwt_verify.specs.Opening.{CarriesFew, HasContent, Opens}
use Rattle.cwt_verify.specs.Policy.{PolicyView}
use Rattle.cwt_verify.specs.Signatures.{AcceptsSignature, AreAllRefused, FindsSignature, IsFirst, IsLast, RefusesSignature, RefusesSignatures, TriesSignature}
use Rattle.cwt_verify.specs.Signatures.{is_message, signature_item, signature_seal}
use Rattle.cwt_verify.specs.declared.error.LayerError.{LayerError}
use Rattle.cwt_verify.specs.declared.error.LayerError.TheVariants as reason

-- Moves the first element of the rest to the end of the elements before it.
pub moved : {A : Type 0} (ys : List A) (x : A) (old new all : List A) → ys ++ old ≡ all → old ≡ x ∷ new → (ys ++ x ∷ []) ++ new ≡ all
moved ys x old new all e q = append_assoc ys (x ∷ []) new ∙ (ap (λ zs. ys ++ zs) (sym q) ∙ e)

-- One of the elements of a list that were moved out, those before it and those after it.
around : (ss : List SignatureView) (all before left : List CoseSignature) (s : CoseSignature) → all ≡ before ++ s ∷ left → ss ≡ map signature_view all
    → ss ≡ map signature_view before ++ signature_view s ∷ map signature_view left
around ss all before left s are same = same ∙ (ap (map signature_view) are ∙ map-append signature_view before (s ∷ left))

-- Each of the signatures of a message is refused, or one has no structure, or there are none.
pub none_opened : {E : Type 0} (k : KeysView E) (p : PolicyView) (m : SignView) (c : List ℕ) (e : LayerError E) → CarriesFew m c
    → FindsSignature k p m.protected c m.signatures (Err e) → Opens k p (signed_by m) (Err e)
none_opened k p m c (reason.Message e) is h = (c, is.0, (is.1, h))
none_opened k p m c reason.Headers is h = (c, is, h)
none_opened k p m c (reason.Algorithm a) is h = (c, is, h)
none_opened k p m c reason.Critical is h = (c, is, h)
none_opened k p m c reason.Recipients is h = absurd h.last_refused
none_opened k p m c reason.NoPayload is h = absurd h.last_refused
none_opened k p m c reason.NoSignature is h = (c, is.0, h)
none_opened k p m c reason.TooManySignatures is h = absurd h.last_refused
none_opened k p m c (reason.Keys id e) is h = (c, is, h)

-- One of the signatures of a message is accepted.
pub one_opened : {E : Type 0} (k : KeysView E) (p : PolicyView) (m : SignView) (c d : List ℕ) (s : SignatureView) (n : Name) → CarriesFew m c → d ≡ c
    → IsFirst k p m.protected d m.signatures s n → HasContent k p (signed_by m) c (by_signature s) n
one_opened k p m c d s n is same h = (is, subst (λ q. IsFirst k p m.protected q m.signatures s n) same h)

module _ {E : Type 0} (k : KeysView E) (p : PolicyView) (body : ProtectedView) (c : List ℕ) where
  -- The keys accept the signature.
  pub is_accepted : (s : SignatureView) (t : List ℕ) (n : Name) (h : HeadersView) (x : SealView) → h ≡ signature_headers s → IsAdmitted p h
      → IsStructure (signature_item body c s) t → x ≡ signature_seal s t → k.accepts x n → AcceptsSignature k p body c n s
  is_accepted s t n h x same admitted made is ok = (subst (IsAdmitted p) same admitted, (t, made, subst (λ y. k.accepts y n) is ok))

  -- The keys refuse the signature.
  pub refused_by_keys : (s : SignatureView) (t : List ℕ) (id : Vec ℕ Global) (e : E) (h : HeadersView) (x : SealView) → h ≡ signature_headers s
      → IsAdmitted p h → IsStructure (signature_item body c s) t → x ≡ signature_seal s t → id.items ≡ named_key s.protected s.unprotected
      → k.not_accepted x e → RefusesSignature k p body c s (reason.Keys id e)
  refused_by_keys s t id e h x same admitted made is named no_more = (
    subst (IsAdmitted p) same admitted,
    (t, made, (named, subst (λ y. k.not_accepted y e) is no_more)),
  )

  -- The policy doesn't admit the headers of the signature, or an allocation failed.
  pub turned_away : (s : SignatureView) (e : LayerError E) → ChecksHeaders p (signature_headers s) (Err e) → TriesSignature k p body c s (Err e)
  turned_away s (reason.Message e) h = λ n. absurd (n h)
  turned_away s reason.Headers h = h
  turned_away s (reason.Algorithm a) h = h
  turned_away s reason.Critical h = h
  turned_away s reason.Recipients h = absurd h
  turned_away s reason.NoPayload h = absurd h
  turned_away s reason.NoSignature h = absurd h
  turned_away s reason.TooManySignatures h = absurd h
  turned_away s (reason.Keys id e) h = absurd h

  pushed : (ss : List SignatureView) (e : LayerError E) → IsLast k p body c ss e → AreAllRefused k p body c ss
  pushed ss e t =
      subst (AreAllRefused k p body c) (sym t.are)
      (All-push (λ (s : SignatureView). (f : LayerError E) × RefusesSignature k p body c s f) t.before t.last t.refused (e, t.last_refused))

  all_refused : (ss : List SignatureView) (e : LayerError E) → RefusesSignatures k p body c ss e → AreAllRefused k p body c ss
  all_refused ss reason.NoSignature t =
      subst (AreAllRefused k p body c) (sym t) (All-nil (λ (s : SignatureView). (e : LayerError E) × RefusesSignature k p body c s e))
  all_refused ss (reason.Message e) t = pushed ss (reason.Message e) t
  all_refused ss reason.Headers t = pushed ss reason.Headers t
  all_refused ss (reason.Algorithm a) t = pushed ss (reason.Algorithm a) t
  all_refused ss reason.Critical t = pushed ss reason.Critical t
  all_refused ss reason.Recipients t = pushed ss reason.Recipients t
  all_refused ss reason.NoPayload t = pushed ss reason.NoPayload t
  all_refused ss reason.TooManySignatures t = pushed ss reason.TooManySignatures t
  all_refused ss (reason.Keys id e) t = pushed ss (reason.Keys id e) t

  last_of : (ss ts : List SignatureView) (s : SignatureView) (old e : LayerError E) → ts ≡ ss ++ s ∷ [] → RefusesSignatures k p body c ss old
      → RefusesSignature k p body c s e → IsLast k p body c ts e
  last_of ss ts s old e is t r = record { before = ss; last = s; are = is; refused = all_refused ss old t; last_refused = r }

  -- One more signature is refused.
  pub one_more : (ss ts : List SignatureView) (s : SignatureView) (old e : LayerError E) → ts ≡ ss ++ s ∷ [] → RefusesSignatures k p body c ss old
      → is_message e ≡ false → TriesSignature k p body c s (Err e) → RefusesSignatures k p body c ts e
  one_more ss ts s old (reason.Message e) is t m h = absurd (true≢false m)
  one_more ss ts s old reason.Headers is t m h = last_of ss ts s old reason.Headers is t h
  one_more ss ts s old (reason.Algorithm a) is t m h = last_of ss ts s old (reason.Algorithm a) is t h
  one_more ss ts s old reason.Critical is t m h = last_of ss ts s old reason.Critical is t h
  one_more ss ts s old reason.Recipients is t m h = absurd h
  one_more ss ts s old reason.NoPayload is t m h = absurd h
  one_more ss ts s old reason.NoSignature is t m h = absurd h
  one_more ss ts s old reason.TooManySignatures is t m h = absurd h
  one_more ss ts s old (reason.Keys id e) is t m h = last_of ss ts s old (reason.Keys id e) is t h

  -- None of the signatures is accepted.
  pub none_accepted : (ss : List SignatureView) (e : LayerError E) → RefusesSignatures k p body c ss e → FindsSignature k p body c ss (Err e)
  none_accepted ss (reason.Message e) t = absurd t.last_refused
  none_accepted ss reason.Headers t = t
  none_accepted ss (reason.Algorithm a) t = t
  none_accepted ss reason.Critical t = t
  none_accepted ss reason.Recipients t = t
  none_accepted ss reason.NoPayload t = t
  none_accepted ss reason.NoSignature t = t
  none_accepted ss reason.TooManySignatures t = t
  none_accepted ss (reason.Keys id e) t = t

  -- One of the signatures is accepted.
  pub found : (ss : List SignatureView) (all before left : List CoseSignature) (s : CoseSignature) (n : Name) (old : LayerError E) → all ≡ before ++ s ∷ left
      → ss ≡ map signature_view all → RefusesSignatures k p body c (map signature_view before) old → AcceptsSignature k p body c n (signature_view s)
      → IsFirst k p body c ss (signature_view s) n
  found ss all before left s n old are same t h = record {
    before = map signature_view before;
    after = map signature_view left;
    are = around ss all before left s are same;
    refused = all_refused (map signature_view before) old t;
    accepted = h;
  }

  -- One of the signatures has no structure, or an allocation failed.
  pub stopped : (ss : List SignatureView) (all before left : List CoseSignature) (s : CoseSignature) (e : LayerError E) → all ≡ before ++ s ∷ left
      → ss ≡ map signature_view all → is_message e ≡ true → TriesSignature k p body c (signature_view s) (Err e) → FindsSignature k p body c ss (Err e)
  stopped ss all before left s (reason.Message e) are same m h = record {
    before = map signature_view before;
    lacking = signature_view s;
    after = map signature_view left;
    are = around ss all before left s are same;
    no_image = h;
  }
  stopped ss all before left s reason.Headers are same m h = absurd (true≢false (sym m))
  stopped ss all before left s (reason.Algorithm a) are same m h = absurd (true≢false (sym m))
  stopped ss all before left s reason.Critical are same m h = absurd (true≢false (sym m))
  stopped ss all before left s reason.Recipients are same m h = absurd (true≢false (sym m))
  stopped ss all before left s reason.NoPayload are same m h = absurd (true≢false (sym m))
  stopped ss all before left s reason.NoSignature are same m h = absurd (true≢false (sym m))
  stopped ss all before left s reason.TooManySignatures are same m h = absurd (true≢false (sym m))
  stopped ss all before left s (reason.Keys id e) are same m h = absurd (true≢false (sym m))
