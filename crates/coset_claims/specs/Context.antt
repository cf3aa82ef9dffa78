-- COSE_KDF_Context, the context of a key derivation (RFC 8152, section 11.2).
use Rattle.std.specs.Prelude.{ℕ, List, [], ◌∷◌, ◌++◌, Option, map, option_map, refl}
use Rattle.coset_value.specs.Item.{Item, Items, array, item}
use Rattle.coset_iana.specs.Algorithm as algorithms
use Rattle.coset_iana.specs.declared.algorithms.Algorithm.TheVariants.{Reserved}
use Rattle.coset_codec.specs.Shape.{Shape, mapped, both, bstr, array_of, ◌then◌, any_number}
use Rattle.coset_codec.specs.ShapeLaws.{Lawful, mapped_laws, bstr_laws, array_of_laws, then_laws, any_number_laws}
use Rattle.coset_label.specs.LabelData.{RegisteredLabelView, assigned}
use Rattle.coset_label.specs.Labels.{algorithm}
use Rattle.coset_label.specs.LabelLaws.{algorithm_laws}
use Rattle.coset_label.specs.Views.{algorithm_view}
use Rattle.coset_claims.specs.Party.{PartyView, empty_party, party, party_laws, party_view}
use Rattle.coset_claims.specs.SuppPub.{SuppPubView, empty_supp_pub, supp_pub, supp_pub_laws, supp_pub_view}
use Rattle.coset_claims.specs.declared.context.CoseKdfContext.{CoseKdfContext}

-- The view of a context.
pub record ContextView : Type 0 where
  pub algorithm_id : RegisteredLabelView
  pub party_u_info : PartyView
  pub party_v_info : PartyView
  pub supp_pub_info : SuppPubView
  pub supp_priv_info : List (List ℕ)

abbrev pub context_view : CoseKdfContext → ContextView
context_view c = record {
  algorithm_id = algorithm_view c.algorithm_id;
  party_u_info = party_view c.party_u_info;
  party_v_info = party_view c.party_v_info;
  supp_pub_info = supp_pub_view c.supp_pub_info;
  supp_priv_info = map (λ b. b.items) c.supp_priv_info.items;
}

-- A context with the reserved algorithm and without any information.
abbrev pub empty_context : ContextView
empty_context = record {
  algorithm_id = assigned (algorithms.number Reserved);
  party_u_info = empty_party;
  party_v_info = empty_party;
  supp_pub_info = empty_supp_pub;
  supp_priv_info = [];
}

abbrev ContextElements : Type 0
ContextElements = RegisteredLabelView × (PartyView × (PartyView × (SuppPubView × List (List ℕ))))

abbrev pub context_of : ContextElements → ContextView
context_of p = record { algorithm_id = p.0; party_u_info = p.1.0; party_v_info = p.1.1.0; supp_pub_info = p.1.1.1.0; supp_priv_info = p.1.1.1.1 }

abbrev pub context_elements : ContextView → ContextElements
context_elements c = (c.algorithm_id, (c.party_u_info, (c.party_v_info, (c.supp_pub_info, c.supp_priv_info))))

-- [AlgorithmID : int / tstr, PartyUInfo : PartyInfo, PartyVInfo : PartyInfo, SuppPubInfo, * SuppPrivInfo : bstr]
abbrev pub context : Shape ContextView
context = mapped context_of context_elements (array_of (algorithm then party then party then supp_pub then any_number bstr))

pub context_laws : Lawful ContextView context
context_laws =
    mapped_laws context_of context_elements (λ x. refl) _
    (array_of_laws _ (then_laws _ _ algorithm_laws (then_laws _ _ party_laws
    (then_laws _ _ party_laws (then_laws _ _ supp_pub_laws (any_number_laws bstr bstr_laws))))))

-- The context with one more byte string of private information, after the others.
abbrev pub push_supp_priv_info : List ℕ → ContextView → ContextView
push_supp_priv_info b c = record c { supp_priv_info = c.supp_priv_info ++ b ∷ [] }

-- ---- writing

-- The array of four elements, followed by `more`, if each of them has an item.
abbrev pub four_elements_and : Option Item → Option Item → Option Item → Option Item → Option Items → Option Item
four_elements_and a b c d more = option_map array (both item a (both item b (both item c (both item d more))))
