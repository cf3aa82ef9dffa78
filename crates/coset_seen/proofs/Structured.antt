-- The shortest encodings of structures.
use Rattle.std.proofs.Common.{◌≡◌, ◌∙◌, ◌++◌, ◌∷◌, ◌<◌, ◌^◌, ◌⊎◌, ℕ, List, [], Option, Some, None, Result, Ok}
use Rattle.std.proofs.Common.{Err, Bor, length, refl, sym, ap, subst, inl, inr, lit<}
use Rattle.std.proofs.lemmas.List.{append_assoc, append-nil}
use Rattle.std.specs.Str.{IsUtf8}
use Rattle.coset.specs.Item.{Items, text}
use Rattle.coset.specs.Range.{IsInRange}
use Rattle.coset_cbor.specs.Least.{least_encoding, least_encodings, least_head}
use Rattle.coset.specs.CoseError.{CoseError}
use Rattle.coset.specs.Item.{Item}
use Rattle.coset.specs.Shortest.{IsShortest}
use Rattle.std.specs.Prelude.{IfOk}
use Rattle.coset.specs.Structure.{byte_strings}
use Rattle.coset_seen.specs.declared.kind.Kind as kinds
use Rattle.coset_seen.specs.declared.kind.Kind.TheVariants.{Sign1, Mac0, Encrypt0, Mac, Encrypt}
use Rattle.coset_seen.specs.declared.message.Part.{Part}
use Rattle.coset_seen.specs.declared.message.Seen.{Seen}
use Rattle.coset_seen.specs.declared.structure.StructureError as errors
use Rattle.coset_seen.specs.Seen.{GivesContent, PutsStructure}
use Rattle.coset_seen.specs.Structures.{MakesItem, PutsItem, or_out_of_memory, context_of, front_of, structure_of}

context_utf8 : (k : kinds.Kind) → IsUtf8 (context_of k)
unfolding lib.Utf8.encode
context_utf8 Sign1 = (context_of Sign1, (refl, refl))
context_utf8 Mac0 = (context_of Mac0, (refl, refl))
context_utf8 Encrypt0 = (context_of Encrypt0, (refl, refl))
context_utf8 Mac = (context_of Mac, (refl, refl))
context_utf8 Encrypt = (context_of Encrypt, (refl, refl))

pub in_range :
    (k : kinds.Kind) (p aad c : List ℕ) → length p < 2 ^ 64 → length aad < 2 ^ 64 → length c < 2 ^ 64 → IsInRange (structure_of k p aad c)
in_range Sign1 p aad c i j l = (lit< tt, ((lit< tt, context_utf8 Sign1), (i, (j, (l, tt)))))
in_range Mac0 p aad c i j l = (lit< tt, ((lit< tt, context_utf8 Mac0), (i, (j, (l, tt)))))
in_range Encrypt0 p aad c i j l = (lit< tt, ((lit< tt, context_utf8 Encrypt0), (i, (j, tt))))
in_range Mac p aad c i j l = (lit< tt, ((lit< tt, context_utf8 Mac), (i, (j, (l, tt)))))
in_range Encrypt p aad c i j l = (lit< tt, ((lit< tt, context_utf8 Encrypt), (i, (j, tt))))

pub three_text :
    (k : kinds.Kind) (p aad c h i j : List ℕ) → (k ≡ Sign1) ⊎ ((k ≡ Mac0) ⊎ (k ≡ Mac)) → h ≡ least_head 2 (length p) → i ≡ least_head 2 (length aad)
    → j ≡ least_head 2 (length c) → front_of k ++ ((h ++ p) ++ ((i ++ aad) ++ (j ++ c))) ≡ least_encoding (structure_of k p aad c)
three_text k p aad c h i j is e f g =
    let strings : (h ++ p) ++ ((i ++ aad) ++ (j ++ c)) ≡ least_encodings (byte_strings (p ∷ aad ∷ c ∷ [])) =
    ap (λ y. (y ++ p) ++ ((i ++ aad) ++ (j ++ c))) e ∙ (ap (λ y. (least_head 2 (length p) ++ p) ++ ((y ++ aad) ++ (j ++ c))) f
    ∙ ap (λ y. (least_head 2 (length p) ++ p) ++ ((least_head 2 (length aad) ++ aad) ++ y)) (ap (λ y. y ++ c) g ∙ sym (append-nil _))) in
    ap (λ y. front_of k ++ y) strings ∙ with_front k is
  where
    rest : Items
    rest = byte_strings (p ∷ aad ∷ c ∷ [])

    with_front : (k : kinds.Kind) → (k ≡ Sign1) ⊎ ((k ≡ Mac0) ⊎ (k ≡ Mac)) → front_of k ++ least_encodings rest ≡ least_encoding (structure_of k p aad c)
    with_front Sign1 is = append_assoc (least_head 4 4) (least_encoding (text (context_of Sign1))) (least_encodings rest)
    with_front Mac0 is = append_assoc (least_head 4 4) (least_encoding (text (context_of Mac0))) (least_encodings rest)
    with_front Mac is = append_assoc (least_head 4 4) (least_encoding (text (context_of Mac))) (least_encodings rest)
    with_front Encrypt0 (inl is) = absurd (cc)
    with_front Encrypt0 (inr (inl is)) = absurd (cc)
    with_front Encrypt0 (inr (inr is)) = absurd (cc)
    with_front Encrypt (inl is) = absurd (cc)
    with_front Encrypt (inr (inl is)) = absurd (cc)
    with_front Encrypt (inr (inr is)) = absurd (cc)

pub two_text :
    (k : kinds.Kind) (p aad c h i : List ℕ) → (k ≡ Encrypt0) ⊎ (k ≡ Encrypt) → h ≡ least_head 2 (length p) → i ≡ least_head 2 (length aad)
    → front_of k ++ ((h ++ p) ++ (i ++ aad)) ≡ least_encoding (structure_of k p aad c)
two_text k p aad c h i is e f =
    let strings : (h ++ p) ++ (i ++ aad) ≡ least_encodings (byte_strings (p ∷ aad ∷ [])) =
    ap (λ y. (y ++ p) ++ (i ++ aad)) e ∙ ap (λ y. (least_head 2 (length p) ++ p) ++ y) (ap (λ y. y ++ aad) f ∙ sym (append-nil _)) in
    ap (λ y. front_of k ++ y) strings ∙ with_front k is
  where
    rest : Items
    rest = byte_strings (p ∷ aad ∷ [])

    with_front : (k : kinds.Kind) → (k ≡ Encrypt0) ⊎ (k ≡ Encrypt) → front_of k ++ least_encodings rest ≡ least_encoding (structure_of k p aad c)
    with_front Encrypt0 is = append_assoc (least_head 4 3) (least_encoding (text (context_of Encrypt0))) (least_encodings rest)
    with_front Encrypt is = append_assoc (least_head 4 3) (least_encoding (text (context_of Encrypt))) (least_encodings rest)
    with_front Sign1 (inl is) = absurd (cc)
    with_front Sign1 (inr is) = absurd (cc)
    with_front Mac0 (inl is) = absurd (cc)
    with_front Mac0 (inr is) = absurd (cc)
    with_front Mac (inl is) = absurd (cc)
    with_front Mac (inr is) = absurd (cc)

-- The content that was found, as the structure takes it.
pub puts :
    (s : Seen) (aad : List ℕ) (o : Option Part) (d : Option (List ℕ)) (c : Bor (List ℕ)) (old new : List ℕ) (r : Result ℕ errors.StructureError)
    → GivesContent o d (Ok c) → PutsItem (structure_of s.kind s.protected.bytes.now aad c.now) old new r → PutsStructure s aad o d old new r
puts s aad (Some p) None c old new r is h = subst (λ x. PutsItem (structure_of s.kind s.protected.bytes.now aad x) old new r) is h
puts s aad None (Some d) c old new r is h = subst (λ x. PutsItem (structure_of s.kind s.protected.bytes.now aad x) old new r) is h
puts s aad (Some p) (Some d) c old new r is h = absurd is
puts s aad None None c old new r is h = absurd is

-- An encoding that was made.
pub makes :
    {V : Type 0} (items : V → List ℕ) (w : Item) (made : Result V CoseError) (r : Result V errors.StructureError) → IfOk made (λ b. IsShortest (items b) w)
    → r ≡ or_out_of_memory made
    → MakesItem items w r
makes items w (Ok v) r h is = subst (MakesItem items w) (sym is) h
makes items w (Err e) r h is = subst (MakesItem items w) (sym is) refl
