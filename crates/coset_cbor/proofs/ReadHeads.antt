-- The grammar agrees with reading a head, whether that succeeds or fails.
use Rattle.std.proofs.Common.{◌≡◌, ℕ, ◌+◌, ◌*◌, ◌<◌, ltb, eqb, List, [], ◌∷◌, ◌++◌, length, Ok, Err, refl, sym, ap, subst, ◌∙◌, arith, inl, inr, ◌⊎◌}
use Rattle.std.proofs.lemmas.Bool.{ltb-true, ltb-false, eqb-true, eqb-false, ne_eqb}
use Rattle.coset_cbor.specs.declared.fault.Fault.{Fault}
use Rattle.coset_cbor.specs.declared.fault.Fault.TheVariants.{End}
use Rattle.coset_cbor.specs.declared.head.Head.{Head}
use Rattle.coset_cbor.specs.Faults.{HasReservedInfo}
use Rattle.coset_cbor.specs.Grammar.{within, one, two, four, eight}
use Rattle.coset_cbor.specs.Heads.{Argument, Fits, major_type_number}
use Rattle.coset_cbor.specs.Heads as places
use Rattle.coset_cbor.specs.ReadHeads.{BeginsWithHead, EndsInHead, IsHeadOf, width_of}
use Rattle.coset_cbor.specs.Reading.{number_of, argument_from, head_from, head_at}
use Rattle.coset_cbor.proofs.Refusals.{HeadFault, head_fault}
use Rattle.coset_cbor.proofs.Takes.{IsBytes, IsArgumentEncoding, chosen, head_takes}

head_of_argument : (m : ℕ) (a : Argument) (f : List ℕ) → IsArgumentEncoding m a f → IsHeadOf m (number_of a) f
head_of_argument m (places.Within n) f h = record { width = within; holds = h.0; spelled = h.1 }
head_of_argument m (places.One n) f h = record { width = one; holds = h.0; spelled = h.1 }
head_of_argument m (places.Two n) f h = record { width = two; holds = h.0; spelled = h.1 }
head_of_argument m (places.Four n) f h = record { width = four; holds = h.0; spelled = h.1 }
head_of_argument m (places.Eight n) f h = record { width = eight; holds = h.0; spelled = h.1 }
head_of_argument m places.Indefinite f h = h

-- f is an initial byte with that additional information, and the announced bytes.
record Spelled (m info : ℕ) (f : List ℕ) : Type 0 where
  argument : List ℕ
  parts : f ≡ (32 * m + info) ∷ argument
  width : length argument ≡ width_of info

narrow : (info : ℕ) → (info < 24) ⊎ (info ≡ 31) → width_of info ≡ 0
narrow info (inl lt) = rw (
  ne_eqb info 24 (λ e. omega arith),
  ne_eqb info 25 (λ e. omega arith),
  ne_eqb info 26 (λ e. omega arith),
  ne_eqb info 27
      (λ e. omega arith),
) refl
narrow info (inr e) = subst (λ (k : ℕ). width_of k ≡ 0) (sym e) refl

spelled : (m info n : ℕ) (a : Argument) (f : List ℕ) → Fits info n → argument_from info n ≡ a → IsArgumentEncoding m a f → Spelled m info f
spelled m info n a f fits is h =
    elim (chosen (ltb info 24) _ _ _ is) [
      | inl b ↦
          let lt : info < 24 = ltb-true _ _ b.0 in
          let e = subst (λ (x : Argument). IsArgumentEncoding m x f) (sym b.1) h in
          record { argument = []; parts = e.1 ∙ ap (λ (k : ℕ). (32 * m + k) ∷ []) (fits.low lt); width = sym (narrow info (inl lt)) }
      | inr b ↦ elim (chosen (eqb info 24) _ _ _ b.1) [
        | inl c ↦ wide 24 1 _ (eqb-true _ _ c.0) refl (subst (λ (x : Argument). IsArgumentEncoding m x f) (sym c.1) h).1 refl
        | inr c ↦ elim (chosen (eqb info 25) _ _ _ c.1) [
          | inl d ↦ wide 25 2 _ (eqb-true _ _ d.0) refl (subst (λ (x : Argument). IsArgumentEncoding m x f) (sym d.1) h).1 refl
          | inr d ↦ elim (chosen (eqb info 26) _ _ _ d.1) [
            | inl g ↦ wide 26 4 _ (eqb-true _ _ g.0) refl (subst (λ (x : Argument). IsArgumentEncoding m x f) (sym g.1) h).1 refl
            | inr g ↦ elim (chosen (eqb info 27) _ _ _ g.1) [
              | inl k ↦ wide 27 8 _ (eqb-true _ _ k.0) refl (subst (λ (x : Argument). IsArgumentEncoding m x f) (sym k.1) h).1 refl
              | inr k ↦
                  let ge = ltb-false _ _ b.0 in
                  let n24 = eqb-false _ _ c.0 in
                  let n25 = eqb-false _ _ d.0 in
                  let n26 = eqb-false _ _ g.0 in
                  let n27 = eqb-false _ _ k.0 in
                  let is31 : info ≡ 31 = fits.none (omega arith) in
                  let e = subst (λ (x : Argument). IsArgumentEncoding m x f) (sym k.1) h in
                  record { argument = []; parts = e ∙ ap (λ (i : ℕ). (32 * m + i) ∷ []) (sym is31); width = sym (narrow info (inr is31)) }
            ]
          ]
        ]
      ]
    ]
  where
    wide : (k w : ℕ) (more : List ℕ) → info ≡ k → width_of k ≡ w → f ≡ (32 * m + k) ∷ more → length more ≡ w → Spelled m info f
    wide k w more is width parts len = subst (λ (i : ℕ). Spelled m i f) (sym is) (record { argument = more; parts = parts; width = len ∙ sym width })

pub head_found : (b : List ℕ) (h : Head) (s : List ℕ) → IsBytes b → Fits h.info h.number → head_at b ≡ Ok (head_from h, s) → BeginsWithHead b h s
head_found b h s bytes fits e =
    let m = major_type_number h.major_type in
    let t = head_takes b (head_from h, s) bytes e in
    let w = spelled m h.info h.number (argument_from h.info h.number) t.front fits refl t.encoding in
    record {
      argument = w.argument;
      parts = t.parts ∙ ap (λ (f : List ℕ). f ++ s) w.parts;
      width = w.width;
      is_head = subst (λ (f : List ℕ). IsHeadOf m (number_of (argument_from h.info h.number)) f) w.parts
          (head_of_argument m (argument_from h.info h.number) t.front t.encoding);
    }

pub head_ends : (b : List ℕ) → head_at b ≡ Err End → EndsInHead b
head_ends b e = go (head_fault b End e)
  where
    go : HeadFault b End → EndsInHead b
    go (inl h) = h.1
    go (inr h) = absurd cc

pub head_bad : (b : List ℕ) (f : Fault) → (f ≡ End → ⊥) → head_at b ≡ Err f → HasReservedInfo b
head_bad b f other e =
    elim (head_fault b f e) [
      | inl h ↦ absurd (other h.0)
      | inr h ↦ h.1
    ]
