use Rattle.block_rest.proofs.Same.{kept-is-same}
use Rattle.block_rest.proofs.laws.kept_is_same_heads.Goals as goal

pub returns : goal.returns
returns c = kept-is-same
