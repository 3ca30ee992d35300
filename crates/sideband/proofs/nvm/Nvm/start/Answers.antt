use Rattle.sideband.proofs.nvm.Nvm.start.Goals as goal

pub returns : goal.returns
returns c = simp (c.put.ensures, c.start.ensures, c.after_post.ensures)
