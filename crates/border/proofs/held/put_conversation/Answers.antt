use mathlib.Core.Path.{sym, ◌∙◌}
use Rattle.packed.specs.Tape.{word_at}
use Rattle.packed.proofs.Laws.{then, filled, joined_back}
use Rattle.packed.proofs.Width.Hardware.{drop_family}
use Rattle.border.specs.Held.{words_of, conversation_of}
use Rattle.border.proofs.Laws.{words_of-length, place_back}
use Rattle.border.proofs.held.put_conversation.Goals as goal

pub returns-clause-written : goal.returns-clause-written
unfolding words_of
returns-clause-written c = filled (c.told-tape ∙ sym (words_of-length c.args.c))
    (then (rw c.wide.ensures.same at c.word-at.ensures) (then c.word-at-2.ensures (then c.word-at-3.ensures (then c.long-at.ensures
    (then c.long-at-2.ensures (then c.put-at.ensures.adds c.put.ensures.adds))))))

pub returns-clause-back : goal.returns-clause-back
unfolding words_of conversation_of word_at
returns-clause-back c = simp (c.wide.ensures.fits, c.put-at.ensures.back, drop_family, place_back _ c.put.ensures.back, joined_back)
