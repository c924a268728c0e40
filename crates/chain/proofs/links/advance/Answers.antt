-- The two digests of one key are the key here and the value at the next place.
use Rattle.chain.proofs.Recipes.{advanced}
use Rattle.chain.proofs.links.advance.Goals as goal

pub returns : goal.returns
returns c = advanced c.args.chain.now.0 c.hmac_pair.result.0 c.hmac_pair.result.1 c.hmac_pair.ensures.0 c.hmac_pair.ensures.1
