-- A derived order compares the numbers that the variants are declared with.
use Rattle.std.proofs.Common.{map, refl, reverse}
use Rattle.std.specs.Cmp.Derive as derive
use Rattle.coset_iana.proofs.Orders.{int_cmp-same}
use Rattle.coset_iana.specs.HeaderParameter as header_parameter
use Rattle.coset_iana.specs.contracts.headers.HeaderParameter as header_parameter_type
use Rattle.coset_iana.specs.declared.headers.HeaderParameter.TheVariants as header_parameter_variants
use Rattle.coset_iana.specs.declared.headers.TheConstants.{HEADER_PARAMETERS}
use Rattle.coset_iana.specs.HeaderAlgorithmParameter as header_algorithm_parameter
use Rattle.coset_iana.specs.contracts.headers.HeaderAlgorithmParameter as header_algorithm_parameter_type
use Rattle.coset_iana.specs.declared.headers.HeaderAlgorithmParameter.TheVariants as header_algorithm_parameter_variants
use Rattle.coset_iana.specs.declared.headers.TheConstants.{HEADER_ALGORITHM_PARAMETERS}
use Rattle.coset_iana.specs.Algorithm as algorithm
use Rattle.coset_iana.specs.contracts.algorithms.Algorithm as algorithm_type
use Rattle.coset_iana.specs.declared.algorithms.Algorithm.TheVariants as algorithm_variants
use Rattle.coset_iana.specs.declared.algorithms.TheConstants.{ALGORITHMS}
use Rattle.coset_iana.specs.KeyParameter as key_parameter
use Rattle.coset_iana.specs.contracts.keys.KeyParameter as key_parameter_type
use Rattle.coset_iana.specs.declared.keys.KeyParameter.TheVariants as key_parameter_variants
use Rattle.coset_iana.specs.declared.keys.TheConstants.{KEY_PARAMETERS}
use Rattle.coset_iana.specs.KeyType as key_type
use Rattle.coset_iana.specs.contracts.keys.KeyType as key_type_type
use Rattle.coset_iana.specs.declared.keys.KeyType.TheVariants as key_type_variants
use Rattle.coset_iana.specs.declared.keys.TheConstants.{KEY_TYPES}
use Rattle.coset_iana.specs.EllipticCurve as elliptic_curve
use Rattle.coset_iana.specs.contracts.keys.EllipticCurve as elliptic_curve_type
use Rattle.coset_iana.specs.declared.keys.EllipticCurve.TheVariants as elliptic_curve_variants
use Rattle.coset_iana.specs.declared.keys.TheConstants.{ELLIPTIC_CURVES}
use Rattle.coset_iana.specs.KeyOperation as key_operation
use Rattle.coset_iana.specs.contracts.keys.KeyOperation as key_operation_type
use Rattle.coset_iana.specs.declared.keys.KeyOperation.TheVariants as key_operation_variants
use Rattle.coset_iana.specs.declared.keys.TheConstants.{KEY_OPERATIONS}
use Rattle.coset_iana.specs.OkpKeyParameter as okp_key_parameter
use Rattle.coset_iana.specs.contracts.key_parameters.OkpKeyParameter as okp_key_parameter_type
use Rattle.coset_iana.specs.declared.key_parameters.OkpKeyParameter.TheVariants as okp_key_parameter_variants
use Rattle.coset_iana.specs.declared.key_parameters.TheConstants.{OKP_KEY_PARAMETERS}
use Rattle.coset_iana.specs.Ec2KeyParameter as ec2_key_parameter
use Rattle.coset_iana.specs.contracts.key_parameters.Ec2KeyParameter as ec2_key_parameter_type
use Rattle.coset_iana.specs.declared.key_parameters.Ec2KeyParameter.TheVariants as ec2_key_parameter_variants
use Rattle.coset_iana.specs.declared.key_parameters.TheConstants.{EC2_KEY_PARAMETERS}
use Rattle.coset_iana.specs.RsaKeyParameter as rsa_key_parameter
use Rattle.coset_iana.specs.contracts.key_parameters.RsaKeyParameter as rsa_key_parameter_type
use Rattle.coset_iana.specs.declared.key_parameters.RsaKeyParameter.TheVariants as rsa_key_parameter_variants
use Rattle.coset_iana.specs.declared.key_parameters.TheConstants.{RSA_KEY_PARAMETERS}
use Rattle.coset_iana.specs.WalnutDsaKeyParameter as walnut_dsa_key_parameter
use Rattle.coset_iana.specs.contracts.key_parameters.WalnutDsaKeyParameter as walnut_dsa_key_parameter_type
use Rattle.coset_iana.specs.declared.key_parameters.WalnutDsaKeyParameter.TheVariants as walnut_dsa_key_parameter_variants
use Rattle.coset_iana.specs.declared.key_parameters.TheConstants.{WALNUT_DSA_KEY_PARAMETERS}
use Rattle.coset_iana.specs.AkpKeyParameter as akp_key_parameter
use Rattle.coset_iana.specs.contracts.key_parameters.AkpKeyParameter as akp_key_parameter_type
use Rattle.coset_iana.specs.declared.key_parameters.AkpKeyParameter.TheVariants as akp_key_parameter_variants
use Rattle.coset_iana.specs.declared.key_parameters.TheConstants.{AKP_KEY_PARAMETERS}
use Rattle.coset_iana.specs.CborTag as cbor_tag
use Rattle.coset_iana.specs.contracts.tags.CborTag as cbor_tag_type
use Rattle.coset_iana.specs.declared.tags.CborTag.TheVariants as cbor_tag_variants
use Rattle.coset_iana.specs.declared.tags.TheConstants.{CBOR_TAGS}
use Rattle.coset_iana.specs.CoapContentFormat as coap_content_format
use Rattle.coset_iana.specs.contracts.content_formats.CoapContentFormat as coap_content_format_type
use Rattle.coset_iana.specs.declared.content_formats.CoapContentFormat.TheVariants as coap_content_format_variants
use Rattle.coset_iana.specs.declared.content_formats.TheConstants.{COAP_CONTENT_FORMATS}
use Rattle.coset_iana.specs.CwtClaimName as cwt_claim_name
use Rattle.coset_iana.specs.contracts.claims.CwtClaimName as cwt_claim_name_type
use Rattle.coset_iana.specs.declared.claims.CwtClaimName.TheVariants as cwt_claim_name_variants
use Rattle.coset_iana.specs.declared.claims.TheConstants.{CWT_CLAIM_NAMES}
use Rattle.coset_iana.proofs.laws.orders_are_by_number.Goals as goal

pub returns-clause-header_parameter : goal.returns-clause-header_parameter
returns-clause-header_parameter c = int_cmp-same (derive.number header_parameter_type.the_type
    (map header_parameter.number HEADER_PARAMETERS)) header_parameter.number (elim [ header_parameter_variants.Reserved ↦ refl | _ ↦ refl ])

pub returns-clause-header_algorithm_parameter : goal.returns-clause-header_algorithm_parameter
returns-clause-header_algorithm_parameter c = int_cmp-same
    (derive.number header_algorithm_parameter_type.the_type
    (map header_algorithm_parameter.number HEADER_ALGORITHM_PARAMETERS)) header_algorithm_parameter.number
    (elim [ header_algorithm_parameter_variants.X5ChainSender ↦ refl | _ ↦ refl ])

pub returns-clause-algorithm : goal.returns-clause-algorithm
returns-clause-algorithm c = int_cmp-same (derive.number algorithm_type.the_type (map algorithm.number ALGORITHMS)) algorithm.number
    (elim [ algorithm_variants.RS1 ↦ refl | _ ↦ refl ])

pub returns-clause-key_parameter : goal.returns-clause-key_parameter
returns-clause-key_parameter c = int_cmp-same (derive.number key_parameter_type.the_type (map key_parameter.number KEY_PARAMETERS)) key_parameter.number
    (elim [ key_parameter_variants.Reserved ↦ refl | _ ↦ refl ])

pub returns-clause-key_type : goal.returns-clause-key_type
returns-clause-key_type c = int_cmp-same (derive.number key_type_type.the_type (map key_type.number KEY_TYPES)) key_type.number
    (elim [ key_type_variants.Reserved ↦ refl | _ ↦ refl ])

pub returns-clause-elliptic_curve : goal.returns-clause-elliptic_curve
returns-clause-elliptic_curve c = int_cmp-same (derive.number elliptic_curve_type.the_type (map elliptic_curve.number ELLIPTIC_CURVES)) elliptic_curve.number
    (elim [ elliptic_curve_variants.Reserved ↦ refl | _ ↦ refl ])

pub returns-clause-key_operation : goal.returns-clause-key_operation
returns-clause-key_operation c = int_cmp-same (derive.number key_operation_type.the_type (map key_operation.number KEY_OPERATIONS)) key_operation.number
    (elim [ key_operation_variants.Sign ↦ refl | _ ↦ refl ])

pub returns-clause-okp_key_parameter : goal.returns-clause-okp_key_parameter
returns-clause-okp_key_parameter c = int_cmp-same (derive.number okp_key_parameter_type.the_type
    (map okp_key_parameter.number (reverse OKP_KEY_PARAMETERS))) okp_key_parameter.number (elim [ okp_key_parameter_variants.Crv ↦ refl | _ ↦ refl ])

pub returns-clause-ec2_key_parameter : goal.returns-clause-ec2_key_parameter
returns-clause-ec2_key_parameter c = int_cmp-same (derive.number ec2_key_parameter_type.the_type
    (map ec2_key_parameter.number (reverse EC2_KEY_PARAMETERS))) ec2_key_parameter.number (elim [ ec2_key_parameter_variants.Crv ↦ refl | _ ↦ refl ])

pub returns-clause-rsa_key_parameter : goal.returns-clause-rsa_key_parameter
returns-clause-rsa_key_parameter c = int_cmp-same (derive.number rsa_key_parameter_type.the_type
    (map rsa_key_parameter.number (reverse RSA_KEY_PARAMETERS))) rsa_key_parameter.number (elim [ rsa_key_parameter_variants.N ↦ refl | _ ↦ refl ])

pub returns-clause-walnut_dsa_key_parameter : goal.returns-clause-walnut_dsa_key_parameter
returns-clause-walnut_dsa_key_parameter c = int_cmp-same
    (derive.number walnut_dsa_key_parameter_type.the_type
    (map walnut_dsa_key_parameter.number (reverse WALNUT_DSA_KEY_PARAMETERS))) walnut_dsa_key_parameter.number
    (elim [ walnut_dsa_key_parameter_variants.N ↦ refl | _ ↦ refl ])

pub returns-clause-akp_key_parameter : goal.returns-clause-akp_key_parameter
returns-clause-akp_key_parameter c = int_cmp-same (derive.number akp_key_parameter_type.the_type
    (map akp_key_parameter.number (reverse AKP_KEY_PARAMETERS))) akp_key_parameter.number (elim [ akp_key_parameter_variants.Pub ↦ refl | _ ↦ refl ])

pub returns-clause-cbor_tag : goal.returns-clause-cbor_tag
returns-clause-cbor_tag c = int_cmp-same (derive.number cbor_tag_type.the_type (map cbor_tag.number CBOR_TAGS)) cbor_tag.number
    (elim [ cbor_tag_variants.CoseEncrypt0 ↦ refl | _ ↦ refl ])

pub returns-clause-coap_content_format : goal.returns-clause-coap_content_format
returns-clause-coap_content_format c = int_cmp-same (derive.number coap_content_format_type.the_type
    (map coap_content_format.number COAP_CONTENT_FORMATS)) coap_content_format.number (elim [ coap_content_format_variants.TextPlainUtf8 ↦ refl | _ ↦ refl ])

pub returns-clause-cwt_claim_name : goal.returns-clause-cwt_claim_name
returns-clause-cwt_claim_name c = int_cmp-same (derive.number cwt_claim_name_type.the_type (map cwt_claim_name.number CWT_CLAIM_NAMES)) cwt_claim_name.number
    (elim [ cwt_claim_name_variants.GlobalPlatformComponents ↦ refl | _ ↦ refl ])
