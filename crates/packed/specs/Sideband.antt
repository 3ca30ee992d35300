-- The words of sideband's states: a kind from 1 on, its numbers, its parts, and zeros up to the type's width
use Rattle.std.specs.Prelude.{ℕ, List, [], ◌∷◌, eqb, drop, replicate}
use Rattle.hardware.specs.Talk.{pick}
use Rattle.packed.specs.Tape.{word_at}
use Rattle.packed.specs.Hostif.{get_post, words_post}
use Rattle.sideband.specs.declared.idle.Idle.TheVariants as idlev
use Rattle.sideband.specs.declared.idle.Idle.{Idle}
use Rattle.sideband.specs.declared.kr_access.Kr.TheVariants as krv
use Rattle.sideband.specs.declared.kr_access.Kr.{Kr}
use Rattle.sideband.specs.declared.kr_access.KrWanted.TheVariants as kr_wantedv
use Rattle.sideband.specs.declared.kr_access.KrWanted.{KrWanted}
use Rattle.sideband.specs.declared.nvm.Nvm.TheVariants as nvmv
use Rattle.sideband.specs.declared.nvm.Nvm.{Nvm}

-- 3 words
unfoldable pub words_kr_wanted : KrWanted → List ℕ
words_kr_wanted (kr_wantedv.Read x) = 1 ∷ x ∷ 0 ∷ []
words_kr_wanted (kr_wantedv.Write x y) = 2 ∷ x ∷ y ∷ []

unfoldable pub get_kr_wanted : List ℕ → KrWanted
get_kr_wanted s =
    pick (eqb (word_at s 0) 1) (kr_wantedv.Read (word_at s 1)) (
    kr_wantedv.Write (word_at s 1) (word_at s 2))

-- 3 words
unfoldable pub words_idle : Idle → List ℕ
words_idle (idlev.Reading x) = 1 ∷ x ∷ 0 ∷ []
words_idle (idlev.Waiting x y) = 2 ∷ x ∷ y ∷ []

unfoldable pub get_idle : List ℕ → Idle
get_idle s =
    pick (eqb (word_at s 0) 1) (idlev.Reading (word_at s 1)) (
    idlev.Waiting (word_at s 1) (word_at s 2))

-- 4 words
unfoldable pub words_kr : Kr → List ℕ
words_kr (krv.First idle) = 1 ∷ words_idle idle
words_kr krv.Select = 2 ∷ replicate 3 0
words_kr (krv.Second idle) = 3 ∷ words_idle idle
words_kr krv.Data = 4 ∷ replicate 3 0

unfoldable pub get_kr : List ℕ → Kr
get_kr s =
    pick (eqb (word_at s 0) 1) (krv.First (get_idle (drop 1 s))) (
    pick (eqb (word_at s 0) 2) (krv.Select) (
    pick (eqb (word_at s 0) 3) (krv.Second (get_idle (drop 1 s))) (
    krv.Data)))

-- 5 words
unfoldable pub words_nvm : Nvm → List ℕ
words_nvm (nvmv.Post post) = 1 ∷ words_post post
words_nvm nvmv.Data = 2 ∷ replicate 4 0

unfoldable pub get_nvm : List ℕ → Nvm
get_nvm s =
    pick (eqb (word_at s 0) 1) (nvmv.Post (get_post (drop 1 s))) (
    nvmv.Data)
