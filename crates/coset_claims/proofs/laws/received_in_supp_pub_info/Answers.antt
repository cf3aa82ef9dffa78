use Rattle.coset_claims.proofs.Received.{supp_pub_received}
use Rattle.coset_claims.proofs.laws.received_in_supp_pub_info.Goals as goal

pub returns : goal.returns
returns c = supp_pub_received
