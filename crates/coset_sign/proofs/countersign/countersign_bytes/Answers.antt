use Rattle.std.proofs.Common.{◌≡◌, ℕ, List, Vec, Global, Option, Some, Result, Ok, Err, map, option_map, is_some, ap, ◌∙◌}
use Rattle.std.specs.Prelude.{IfErr, IsErrAnd}
use Rattle.std.specs.Option.{option_copied}
use Rattle.coset_value.specs.Item.{Item, array, bytes}
use Rattle.coset_codec.specs.Shape.{images}
use Rattle.coset_codec.specs.declared.error.CoseError.{CoseError}
use Rattle.coset_codec.specs.declared.error.CoseError.TheVariants.{OutOfMemory}
use Rattle.coset_label.proofs.Memory.{refused_memory}
use Rattle.coset_core.specs.Structure.{byte_strings}
use Rattle.coset_core.proofs.Structures.{list_written, strings_image}
use Rattle.coset_sign.specs.Countersigned.{countersign_text}
use Rattle.coset_sign.specs.SignatureStructure.{signed_parts}
use Rattle.coset_sign.proofs.countersign.countersign_bytes.Goals as goal

-- The other fields as lists of bytes, and the array that they are written as.
abbrev fields_of : List (Vec ℕ Global) → List (List ℕ)
fields_of others = map (λ (field : Vec ℕ Global). field.items) others

abbrev list_of : List (Vec ℕ Global) → Option Item
list_of others = option_map array (images (λ (field : Vec ℕ Global). Some (bytes field.items)) others)

has_list : (others : List (Vec ℕ Global)) → list_of others ≡ Some (array (byte_strings (fields_of others)))
has_list others = ap (option_map array) (strings_image (λ (field : Vec ℕ Global). field.items) others)

-- an error that is passed on
passed : {T : Type 0} (r : Result T CoseError) (e : CoseError) → IsErrAnd r (λ i. i ≡ e) → e ≡ OutOfMemory → IfErr r (λ i. i ≡ OutOfMemory)
passed (Ok x) e is memory = absurd is
passed (Err i) e is memory = is ∙ memory

pub returns-in_err-append-clause-memory : goal.returns-in_err-append-clause-memory
returns-in_err-append-clause-memory c =
    let others = c.args.other_fields.now in
    let e : CoseError = c.in_err-append.field-0.0 in
    let r : Result (Unit {0}) CoseError = Err e in
    passed c.from_residual-in_err-append.result e c.from_residual-in_err-append.ensures.1
    (refused_memory r (list_of others) (array (byte_strings (fields_of others))) (has_list others) c.in_err-append.ensures.written)

pub returns-clause-encoding : goal.returns-clause-encoding
returns-clause-encoding c =
    let others = c.args.other_fields.now in
    let signer = option_copied c.args.signer in
    list_written c.least_encoding_is_shortest.ensures (countersign_text (is_some signer))
    (signed_parts c.args.body.now signer c.args.external_aad.now c.args.payload.now) (fields_of others) (list_of others)
    c.in_ok-out.out.items c.append.new.out.items c.in_ok-out.ensures.begins (has_list others) c.in_ok-append.ensures.written
