use Rattle.std.proofs.lemmas.List.{take_min}
use Rattle.sideband.proofs.nvm.Nvm.posting.Goals as goal

pub returns : goal.returns
returns c = let h = simp (c.min-words.ensures, take_min) at c.next.ensures in simp (c.after_post.ensures, h)
