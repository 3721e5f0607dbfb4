-- No byte is no start token.
use native.Mathlib.Omega.{arith}
use Rattle.card_token.proofs.Tokens.{nothing}
use Rattle.card_token.proofs.token_in.Goals as goal

pub returns-in-empty : goal.returns-in-empty
returns-in-empty c checks = nothing c.args.o c.args.block.now checks (omega (arith, c.in-empty.len_below))
