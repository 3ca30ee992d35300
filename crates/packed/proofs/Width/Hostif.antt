-- How many words each state of hostif is
use mathlib.Core.Path.{◌≡◌, refl}
use lib.ListN.{length}
use Rattle.hostif.specs.declared.exchange.Exchange.TheVariants as exchangev
use Rattle.hostif.specs.declared.exchange.Exchange.{Exchange}
use Rattle.hostif.specs.declared.post.Post.TheVariants as postv
use Rattle.hostif.specs.declared.post.Post.{Post}
use Rattle.packed.specs.Hostif.{words_post, words_exchange}

pub post_length : (s : Post) → length (words_post s) ≡ 4
unfolding words_post
post_length postv.Fwsts = refl
post_length postv.Fwri = refl
post_length postv.Hicr = refl
post_length (postv.Writing x0 x1) = refl
post_length (postv.Started x0) = refl
post_length (postv.Polling x0) = refl
post_length (postv.Pausing x0 x1) = refl

pub exchange_length : (s : Exchange) → length (words_exchange s) ≡ 5
unfolding words_exchange
exchange_length (exchangev.Post x0) = simp post_length
exchange_length (exchangev.Head x0) = refl
exchange_length (exchangev.Rest x0 x1 x2) = refl
