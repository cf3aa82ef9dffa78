-- The layers of a token, from the outermost in.
use Rattle.std.proofs.Common.{◌≡◌, ◌∙◌, ◌+◌, ◌<◌, ◌≤◌, ◌&&◌, ◌||◌, ℕ, Bool, false, List, ◌∷◌, ap, drop, get_or, length, map, not, sym}
use Rattle.std.proofs.lemmas.List.{drop_all, drop_more}
use Rattle.cwt_verify.specs.Opening.{verified_view}
use Rattle.cwt_verify.specs.declared.layer.VerifiedLayer.{VerifiedLayer}
use Rattle.cwt_confirm.specs.Concealed.{conceal_cnf, is_encrypted, reveals}

-- Returns true if the layers from `i` on conceal the claim.
abbrev pub conceal_from : List VerifiedLayer → ℕ → Bool
conceal_from ls i = conceal_cnf (map verified_view (drop i ls))

-- The layer at `i`, and those inside it.
pub next :
    (ls : List VerifiedLayer) (i : ℕ) (l : VerifiedLayer) → i < length ls → l ≡ get_or ls i l
    → conceal_from ls i ≡ (not (reveals (verified_view l)) && (is_encrypted (verified_view l).form || conceal_from ls (i + 1)))
next ls i l lt at =
    ap (λ ms. conceal_cnf (map verified_view ms)) (drop_more ls i l lt) ∙ ap (λ m. conceal_cnf (map verified_view (m ∷ drop (i + 1) ls))) (sym at)

-- No layer is left.
pub none_left : (ls : List VerifiedLayer) (i : ℕ) → length ls ≤ i → conceal_from ls i ≡ false
none_left ls i over = ap (λ ms. conceal_cnf (map verified_view ms)) (drop_all i ls over)
