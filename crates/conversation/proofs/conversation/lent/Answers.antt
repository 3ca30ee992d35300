use Rattle.std.proofs.Common.{arith}
use Rattle.conversation.proofs.PairLaws.{as_many}
use Rattle.conversation.proofs.conversation.lent.Goals as goal

pub listed-requires : goal.listed-requires
listed-requires c =
    let n = as_many c.args.block.now in
    let k = c.requires.list c.in-MdioList.field-0 c.in-MdioList.is in
    omega (arith, n, k)
