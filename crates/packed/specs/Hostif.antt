-- The words of hostif's states: a kind from 1 on, its numbers, its parts, and zeros up to the type's width
use Rattle.std.specs.Prelude.{ℕ, ◌%◌, ◌/◌, List, [], ◌∷◌, eqb, drop, replicate}
use Rattle.hardware.specs.Talk.{pick}
use Rattle.packed.specs.Tape.{word_at, joined}
use Rattle.hostif.specs.declared.exchange.Exchange.TheVariants as exchangev
use Rattle.hostif.specs.declared.exchange.Exchange.{Exchange}
use Rattle.hostif.specs.declared.post.Post.TheVariants as postv
use Rattle.hostif.specs.declared.post.Post.{Post}

-- 4 words
unfoldable pub words_post : Post → List ℕ
words_post postv.Fwsts = 1 ∷ replicate 3 0
words_post postv.Fwri = 2 ∷ replicate 3 0
words_post postv.Hicr = 3 ∷ replicate 3 0
words_post (postv.Writing x y) = 4 ∷ x ∷ (y % 4294967296) ∷ (y / 4294967296) ∷ []
words_post (postv.Started x) = 5 ∷ x ∷ replicate 2 0
words_post (postv.Polling x) = 6 ∷ x ∷ replicate 2 0
words_post (postv.Pausing x y) = 7 ∷ x ∷ y ∷ 0 ∷ []

unfoldable pub get_post : List ℕ → Post
get_post s =
    pick (eqb (word_at s 0) 1) (postv.Fwsts) (
    pick (eqb (word_at s 0) 2) (postv.Fwri) (
    pick (eqb (word_at s 0) 3) (postv.Hicr) (
    pick (eqb (word_at s 0) 4) (postv.Writing (word_at s 1) (joined (word_at s 2) (word_at s 3))) (
    pick (eqb (word_at s 0) 5) (postv.Started (word_at s 1)) (
    pick (eqb (word_at s 0) 6) (postv.Polling (word_at s 1)) (
    postv.Pausing (word_at s 1) (word_at s 2)))))))

-- 5 words
unfoldable pub words_exchange : Exchange → List ℕ
words_exchange (exchangev.Post post) = 1 ∷ words_post post
words_exchange (exchangev.Head x) = 2 ∷ x ∷ replicate 3 0
words_exchange (exchangev.Rest x y z) = 3 ∷ x ∷ (y % 4294967296) ∷ (y / 4294967296) ∷ z ∷ []

unfoldable pub get_exchange : List ℕ → Exchange
get_exchange s =
    pick (eqb (word_at s 0) 1) (exchangev.Post (get_post (drop 1 s))) (
    pick (eqb (word_at s 0) 2) (exchangev.Head (word_at s 1)) (
    exchangev.Rest (word_at s 1) (joined (word_at s 2) (word_at s 3)) (word_at s 4)))
